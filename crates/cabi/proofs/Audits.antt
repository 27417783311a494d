-- What a call exported to C answers, by what was found of its record and of its results.
use mathlib.Core.Path.{◌≡◌, refl, ap, ◌∙◌}
use Rattle.std.proofs.Common.{ℕ, List, Bool, true, false, ltb, length}
use Rattle.std.specs.Prelude.{Result, Ok, Err}
use Rattle.lists.specs.Pick.{pick}
use Rattle.table.specs.declared.valid.Record.{Record}
use Rattle.cabi.specs.Exported.{record_in, if_fewer, if_short}
use Rattle.cabi.specs.loops.Asked.{record_beside}
use Rattle.cabi.specs.declared.Misuse.{Misuse}
use Rattle.cabi.specs.declared.Misuse.TheVariants as misuse

module _ {A : Type 0} (short : A) (done : Record → A) where
  abbrev answered_for : Result Record Misuse → A
  answered_for (Ok r) = done r
  answered_for (Err w) = short

  by-tests : (a b : Bool) (r : Record)
      → answered_for (pick a (Err misuse.Short) (pick b (Err misuse.Short) (Ok r))) ≡ pick a short (pick b short (done r))
  by-tests true b r = refl
  by-tests false true r = refl
  by-tests false false r = refl

  -- where both have their space, the call's own answer
  pub beside-ok : (n : ℕ) (rec result : List ℕ) (held : Record) → Ok held ≡ record_beside n rec result
      → done held ≡ if_short n rec result short (done (record_in rec))
  unfolding if_short if_fewer
  beside-ok n rec result held e = ap answered_for e ∙ by-tests (ltb (length rec) 7) (ltb (length result) n) (record_in rec)
