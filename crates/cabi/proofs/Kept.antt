-- The kept state by its parts: numbers that stand for none in any part stand for no state.
use Rattle.std.proofs.Common.{◌≡◌, refl, sym, ℕ, List, Bool, true, false, leb, eqb, get_or}
use Rattle.std.specs.Prelude.{Some, None, unwrap_or}
use Rattle.lists.specs.Pick.{pick, ◌and◌, ◌or◌}
use Rattle.lists.proofs.Cases.{pick_yes, pick_no}
use Rattle.table.specs.declared.states.Code.{Code}
use Rattle.convert.specs.Pieces.{place_at}
use Rattle.std.specs.Prelude.{Option}
use Rattle.utf.specs.declared.utf32.ByteOrder.{ByteOrder}
use Rattle.utf.specs.declared.utf8.Stop.{Stop}
use Rattle.convert.specs.declared.pieces.Kept.{Kept}
use Rattle.cabi.specs.Exported.{no_kept, are_kept, stands_alone, standing_in, kept_in}
use Rattle.cabi.specs.loops.Asked.{place_of, standing_of, kept_from}

by-tests : (b : Code) (m : Option ByteOrder) (s : Option Stop) (x y : Bool)
    → unwrap_or (kept_from b (pick x (Some m) None) (pick y (Some s) None)) no_kept
    ≡ pick (x and y) (record { bytes = b; mark = m; standing = s }) no_kept
by-tests b m s true true = refl
by-tests b m s true false = refl
by-tests b m s false y = refl

pub kept_in_parts : (ns : List ℕ)
    → unwrap_or (kept_from (record { bits = get_or ns 0 0; len = get_or ns 1 0 }) (place_of (get_or ns 2 0)) (standing_of (get_or ns 3 0) (get_or ns 4 0))) no_kept
    ≡ kept_in ns
unfolding kept_in
kept_in_parts ns =
    let number = get_or ns 3 0 in
    let length = get_or ns 4 0 in
    by-tests _ (place_at (get_or ns 2 0)) (standing_in number length) (leb (get_or ns 2 0) 2)
    (eqb number 52 or eqb length 0 and stands_alone number)

-- numbers that stand for no kept state, and those that do
module _ (ns : List ℕ) where
  abbrev are : Bool
  are = are_kept (get_or ns 2 0) (get_or ns 3 0) (get_or ns 4 0)

  pub kept_in-none : are ≡ false → no_kept ≡ kept_in ns
  unfolding kept_in
  kept_in-none h = sym (pick_no are _ _ h)

  pub kept_in-some : are ≡ true
      → ◌≡◌ {A = Kept} (record { bytes = record { bits = get_or ns 0 0; len = get_or ns 1 0 }; mark = place_at (get_or ns 2 0); standing = standing_in (get_or ns 3 0) (get_or ns 4 0) }) (kept_in ns)
  unfolding kept_in
  kept_in-some h = sym (pick_yes are _ _ h)
