-- The table that record and memory hold: its lines, subchar and subchar1. On memory that passes the test subchar1 is none or a byte.
use mathlib.Core.Path.{◌≡◌, refl}
use Prim.Native.Nat.{ℕ, ◌-◌, ◌≤◌}
use mathlib.Core.Bool.{true}
use mathlib.Core.Option.{none, some}
use lib.Dec.{eqb}
use borrow.Author.Tests.{eq-eqb, ne_eqb}
use Rattle.lists.proofs.Cases.{pick_yes, pick_no}
use Rattle.table.specs.Limits.{Limits}
use Rattle.table.specs.Codes.{bytes_of}
use Rattle.table.specs.Slices.{Slices}
use Rattle.table.specs.Memory.{sub1_in, lines_in, table_in}
use Rattle.table.specs.Valid.{valid}
use Rattle.table.specs.declared.valid.Record.{Record}
use Rattle.table.proofs.TestParts.{tested, record_ok⇒RecordKept}

module _ (rec : Record) (m : Slices) where
  pub table-lines : (table_in rec m).lines ≡ lines_in rec m.codes m.infos
  unfolding table_in
  table-lines = refl

  pub table-subchar : (table_in rec m).subchar ≡ bytes_of rec.subchar
  unfolding table_in
  table-subchar = refl

  pub table-subchar1 : (table_in rec m).subchar1 ≡ sub1_in rec.subchar1
  unfolding table_in
  table-subchar1 = refl

pub subchar1-byte : (lim : Limits) (rec : Record) (m : Slices) → valid lim rec m ≡ true → rec.subchar1 ≤ 256
subchar1-byte lim rec m ok = (record_ok⇒RecordKept lim rec (tested lim rec m ok).rec-ok).sub1-byte

-- subchar1 by the record's number: none, or a byte
pub subchar1-none : (n : ℕ) → n ≡ 0 → sub1_in n ≡ none
subchar1-none n z = pick_yes (eqb n 0) none (some (n - 1)) (eq-eqb n 0 z)

pub subchar1-some : (n : ℕ) → (n ≡ 0 → ⊥) → sub1_in n ≡ some (n - 1)
subchar1-some n z = pick_no (eqb n 0) none (some (n - 1)) (ne_eqb n 0 z)
