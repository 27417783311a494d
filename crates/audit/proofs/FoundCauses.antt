-- The cause of a code by what the two look-ups found and what the conversions choose by it.
use Prim.Native.Nat.{ℕ}
use native.Mathlib.Omega.{arith}
use mathlib.Core.Path.{◌≡◌, refl, sym, ap, subst, ◌∙◌}
use mathlib.Core.Bool.{Bool, true, false, ◌&&◌}
use mathlib.Core.Option.{Option, none, some}
use lib.Dec.{eqb}
use Rattle.lists.specs.Pick.{pick}
use Rattle.lists.proofs.Cases.{pick_yes}
use Rattle.table.specs.States.{end_kind}
use Rattle.table.specs.Codes.{bytes_of}
use Rattle.table.specs.Meaning.{Line, Table, steps_of, reader, writer}
use Rattle.lists.specs.Strings.{same}
use Rattle.table.specs.Stored.{padded}
use Rattle.table.specs.Lookup.{line_found, reader_of}
use Rattle.table.specs.Held.{IsPadded}
use Rattle.table.specs.declared.states.Code.{Code}
use Rattle.convert.specs.Step.{read_as, point_read_as, written_by, written_in, OwnCode, writes}
use Rattle.std.specs.Prelude.{Option as Optional, Some, None}
use Rattle.convert.specs.declared.WrittenAs.{WrittenAs}
use Rattle.convert.specs.declared.WrittenAs.TheVariants as written
use Rattle.table.proofs.LookupLaws.{same_codes}
use Rattle.audit.specs.declared.Cause.{Cause}
use Rattle.audit.specs.declared.Cause.TheVariants as cause
use Rattle.audit.specs.Audit.{number_of, cause_number, Back, unread, back_by, back_of, cause_by, cause_of, is_unassigned}
use Rattle.table.specs.declared.lookup.Mapping.{Mapping}

-- a code that no line reads, and one that reads as u
back_none : (t : Table) (fallback : Bool) (o : Option Line) → read_as o ≡ none → back_of t fallback o ≡ unread
back_none t fallback none e = refl
back_none t fallback (some l) e = absurd (let z : ◌≡◌ {A = ℕ} 0 1 = cc in omega arith)

back_some : (t : Table) (fallback : Bool) (u : ℕ) (o : Option Line) → read_as o ≡ some u → back_of t fallback o ≡ back_by (writes t fallback u)
back_some t fallback u none e = absurd (let z : ◌≡◌ {A = ℕ} 0 1 = cc in omega arith)
back_some t fallback u (some l) e = let q : l.point ≡ u = cc in ap (λ (k : ℕ). back_by (writes t fallback k)) q

-- a code that is written has zeros in its unused bits
pub back-padded : (g : Optional Mapping) → IsPadded g → (w : WrittenAs) → OwnCode g w → (d : Code) → w ≡ written.Code d → padded d.len d.bits ≡ true
back-padded g p w own d e =
    let o = subst (OwnCode g) e own in
    subst (λ (x : Code). padded x.len x.bits ≡ true) o.2 (subst IsPadded o.1 p)

-- codes with zeros in their unused bits are equal exactly where their bytes are
pub equal-codes : (a b : Code) → padded a.len a.bits ≡ true → padded b.len b.bits ≡ true → (r : Bool)
    → r ≡ (eqb a.bits b.bits && eqb a.len b.len) → r ≡ same (bytes_of a) (bytes_of b)
equal-codes a b p q r e = e ∙ both (eqb a.bits b.bits) (eqb a.len b.len) ∙ sym (same_codes a b p q)
  where
    both : (x y : Bool) → (x && y) ≡ pick x y false
    both true y = refl
    both false y = refl

-- a cause has a number
pub caused : (o : Optional Cause) (w : Cause) → o ≡ Some w → cause_number o ≡ 0 → ⊥
caused o w e z = some w (sym (ap cause_number e) ∙ z)
  where
    some : (w : Cause) → ◌≡◌ {A = ℕ} (number_of w) 0 → ⊥
    some cause.Unassigned k = omega arith
    some cause.NotRead k = omega arith
    some cause.OtherCode k = omega arith
    some cause.NotWritten k = omega arith

module _ (t : Table) (fallback : Bool) (c : Code) (pad : padded c.len c.bits ≡ true) where
  abbrev by_u : Bool
  by_u = is_unassigned (end_kind (steps_of t) 0 (bytes_of c))

  module _ (f : Optional Mapping) (found : line_found f ≡ reader_of c t.lines) (r : Optional ℕ) (reads : point_read_as r ≡ read_as (line_found f)) where
    cause-back : (b : Back) → back_of t fallback (line_found f) ≡ b → cause_by (bytes_of c) by_u b ≡ cause_of t fallback (bytes_of c)
    unfolding cause_of
    cause-back b e =
        ap (cause_by (bytes_of c) by_u)
        (sym e ∙ ap (back_of t fallback) (found ∙ pick_yes (padded c.len c.bits) (reader (bytes_of c) t.lines) none pad))

    -- no line reads it
    pub cause-unread : r ≡ None → pick by_u 1 2 ≡ cause_of t fallback (bytes_of c)
    cause-unread e = cause-back unread (back_none t fallback (line_found f) (sym reads ∙ ap point_read_as e))

    -- it reads as u, which is written so
    module _ (u : ℕ) (point : r ≡ Some u) (g : Optional Mapping) (wrote : line_found g ≡ writer u t.lines)
        (w : WrittenAs) (writes-so : written_in w ≡ written_by fallback (line_found g)) where
      cause-written : cause_by (bytes_of c) by_u (back_by (written_in w)) ≡ cause_of t fallback (bytes_of c)
      unfolding writes
      cause-written =
          cause-back (back_by (written_in w))
          (back_some t fallback u (line_found f) (sym reads ∙ ap point_read_as point)
          ∙ ap back_by (sym (writes-so ∙ ap (written_by fallback) wrote)))

      pub cause-subchar1 : w ≡ written.Subchar1 → pick by_u 1 4 ≡ cause_of t fallback (bytes_of c)
      cause-subchar1 e = ap (λ (x : WrittenAs). cause_by (bytes_of c) by_u (back_by (written_in x))) (sym e) ∙ cause-written

      pub cause-unwritten : w ≡ written.Nothing → pick by_u 1 4 ≡ cause_of t fallback (bytes_of c)
      cause-unwritten e = ap (λ (x : WrittenAs). cause_by (bytes_of c) by_u (back_by (written_in x))) (sym e) ∙ cause-written

      module _ (d : Code) (e : w ≡ written.Code d) where
        cause-code : (b : Bool) → b ≡ same (bytes_of d) (bytes_of c) → pick b 0 (pick by_u 1 3) ≡ cause_of t fallback (bytes_of c)
        cause-code b s =
            ap (λ (x : Bool). pick x 0 (pick by_u 1 3)) s
            ∙ ap (λ (x : WrittenAs). cause_by (bytes_of c) by_u (back_by (written_in x))) (sym e) ∙ cause-written

        pub cause-own : true ≡ same (bytes_of d) (bytes_of c) → 0 ≡ cause_of t fallback (bytes_of c)
        cause-own s = cause-code true s

        pub cause-other : false ≡ same (bytes_of d) (bytes_of c) → pick by_u 1 3 ≡ cause_of t fallback (bytes_of c)
        cause-other s = cause-code false s
