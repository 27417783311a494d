-- What the steps look up in memory that passes the test behind 60 is what the table's states and lines say.
use Rattle.std.specs.Prelude.{Option as Optional}
use Prim.Native.Nat.{ℕ, ◌<◌}
use mathlib.Core.Path.{◌≡◌, refl, sym, ap, subst, ◌∙◌}
use mathlib.Core.Bool.{Bool, true}
use mathlib.Core.Option.{Option, none, some}
use mathlib.Core.List.{List}
use native.Mathlib.Omega.{arith}
use lib.Dec.{lit<}
use lib.ListN.{length, take}
use lib.Seq.{length-take-le}
use Rattle.lists.specs.Order.{All}
use Rattle.lists.proofs.AllParts.{All-take}
use Rattle.utf.specs.declared.utf8.Sequence.TheVariants as sequence
use Rattle.table.specs.Limits.{limits}
use Rattle.table.specs.States.{step_at, cut_of}
use Rattle.table.specs.Codes.{packed, code_of}
use Rattle.table.specs.Meaning.{Line, Table, reader}
use Rattle.table.specs.Slices.{Slices}
use Rattle.table.specs.Memory.{sub1_in, table_in}
use Rattle.table.specs.Valid.{valid}
use Rattle.table.specs.Lookup.{line_found, CodeFound, PointFound}
use Rattle.table.specs.declared.states.Code.{Code}
use Rattle.table.specs.declared.states.Cut.{Cut}
use Rattle.table.specs.declared.states.Cut.TheVariants as cut
use Rattle.table.specs.declared.valid.Record.{Record}
use Rattle.table.proofs.Packing.{all-bytes}
use Rattle.table.proofs.Cuts.{cut-within}
use Rattle.table.proofs.HeldMemory.{cut-held}
use Rattle.table.proofs.TableParts.{table-subchar1}
use Rattle.table.proofs.LookupLaws.{bytes_read, point-writes}
use Rattle.convert.specs.Step.{point_for, on_cut, to_sequence, read_as, point_read_as, written_by, writes}
use Rattle.std.specs.Prelude.{Option as Optional, Some, None}
use Rattle.convert.specs.declared.Settings.{Settings}
use Rattle.table.specs.declared.lookup.Mapping.{Mapping}
use Rattle.table.specs.declared.states.EndKind.{EndKind}

-- the code point of a code, by what it reads as
pub point-some : (sub1 : Option ℕ) (substitute : Bool) (n c : ℕ) (o : Option Line) → read_as o ≡ some c → point_for sub1 substitute n o ≡ sequence.Scalar c n
point-some sub1 substitute n c none e = absurd (let z : ◌≡◌ {A = ℕ} 0 1 = cc in omega arith)
point-some sub1 substitute n c (some l) e = let q : l.point ≡ c = cc in ap (λ (k : ℕ). sequence.Scalar k n) q

pub point-none : (sub1 : Option ℕ) (substitute : Bool) (n : ℕ) (o : Option Line) → read_as o ≡ none → point_for sub1 substitute n o ≡ point_for sub1 substitute n none
point-none sub1 substitute n none e = refl
point-none sub1 substitute n (some l) e = absurd (let z : ◌≡◌ {A = ℕ} 0 1 = cc in omega arith)

-- a complete code at the front of the input, by the number of its bytes
pub packed-code : (states s : List ℕ) (n : ℕ) (kind : EndKind) (v : ℕ) → cut_of (step_at states) 0 s ≡ cut.Complete n kind → v ≡ packed (take n s)
    → ◌≡◌ {A = Code} (record { bits = v; len = n }) (code_of (take n s))
packed-code states s n kind v e p =
    let m : length (take n s) ≡ n = length-take-le n s (cut-within (step_at states) s 0 n kind e).2 in
    (λ i. record { bits = p i; len = sym m i })

module _ (rec : Record) (lent : Slices) (ok : valid limits rec lent ≡ true) where
  abbrev t : Table
  t = table_in rec lent

  -- TO UNICODE
  module _ (settings : Settings) (s : List ℕ) (bytes : All (λ b. b < 256) s) where
    pub to-cut : (x : Cut) → cut_of (step_at lent.states) 0 s ≡ x → to_sequence t settings 0 s ≡ on_cut t settings.substitute s x
    unfolding to_sequence
    to-cut x e = ap (on_cut t settings.substitute s) (sym (cut-held limits rec lent ok 0 (lit< tt) s (all-bytes s bytes)) ∙ e)

    module _ (n : ℕ) (kind : EndKind) (e : cut_of (step_at lent.states) 0 s ≡ cut.Complete n kind) (code : Code) (code_is : code ≡ code_of (take n s))
        (f : Optional Mapping) (found : CodeFound rec lent.codes lent.infos code f) where
      found-reader : reader (take n s) t.lines ≡ line_found f
      found-reader =
          let w = cut-within (step_at lent.states) s 0 n kind e in
          let m : length (take n s) ≡ n = length-take-le n s w.2 in
          bytes_read limits rec lent ok (take n s) (all-bytes (take n s) (All-take (λ b. b < 256) n s bytes)) (omega (arith, w.0)) (omega (arith, w.1)) f
          (subst (λ (c : Code). CodeFound rec lent.codes lent.infos c f) code_is found)

      to-found : to_sequence t settings 0 s ≡ point_for (sub1_in rec.subchar1) settings.substitute n (line_found f)
      to-found = to-cut (cut.Complete n kind) e ∙ (λ i. point_for (table-subchar1 rec lent i) settings.substitute n (found-reader i))

      module _ (r : Optional ℕ) (choice : point_read_as r ≡ read_as (line_found f)) where
        pub to-point : (c : ℕ) → r ≡ Some c → to_sequence t settings 0 s ≡ sequence.Scalar c n
        to-point c q = to-found ∙ point-some (sub1_in rec.subchar1) settings.substitute n c (line_found f) (sym choice ∙ ap point_read_as q)

        pub to-nothing : r ≡ None → to_sequence t settings 0 s ≡ point_for (sub1_in rec.subchar1) settings.substitute n none
        to-nothing q = to-found ∙ point-none (sub1_in rec.subchar1) settings.substitute n (line_found f) (sym choice ∙ ap point_read_as q)

  -- FROM UNICODE
  pub found-writes : (c : ℕ) (f : Optional Mapping) → PointFound rec lent.codes lent.infos lent.order c f → (fallback : Bool)
      → writes t fallback c ≡ written_by fallback (line_found f)
  unfolding writes
  found-writes c f found fallback = ap (written_by fallback) (point-writes limits rec lent ok c f found)
