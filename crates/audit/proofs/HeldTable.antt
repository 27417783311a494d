-- An audit call on a memory in a table's form is the call on the table: the order of its lines does not matter.
use Prim.Native.Nat.{ℕ}
use mathlib.Core.Path.{◌≡◌, refl, ap, ◌∙◌}
use mathlib.Core.Bool.{Bool, true}
use mathlib.Core.Option.{Option, none, some}
use mathlib.Core.List.{List, []}
use Rattle.lists.specs.Pick.{pick}
use Rattle.lists.specs.Paging.{page_from}
use Rattle.lists.proofs.Cases.{pick_yes}
use Rattle.table.specs.Limits.{limits}
use Rattle.table.specs.States.{end_kind}
use Rattle.table.specs.Codes.{bytes_of, next_of}
use Rattle.table.specs.Meaning.{Line, Table, steps_on, steps_of, reader}
use Rattle.table.specs.Rules.{t9, Keeps}
use Rattle.table.specs.Slices.{Slices}
use Rattle.table.specs.Memory.{table_in, Form, Proper}
use Rattle.table.specs.Valid.{valid}
use Rattle.table.specs.declared.states.Code.{Code}
use Rattle.table.specs.declared.valid.Record.{Record}
use Rattle.table.proofs.ValidLaws.{form-valid}
use Rattle.table.specs.Forms.{SameTable}
use Rattle.table.proofs.InMemory.{SameTable-table_in, same-reader, same_writer}
use Rattle.convert.proofs.SameLines.{writer⇒writes}
use Rattle.audit.specs.Audit.{back_of, back_by, cause_by, cause_of, finding_of, next_bytes, pageable_codes, refused, looked, is_position, audit_on, audit_tested, is_unassigned, BadPosition, BadTable}
use Rattle.lists.specs.Strings.{before}

-- two tables with the same rows and, as members, the same lines
module _ (t u : Table) (s : SameTable u t) (apart : t9 t.lines ≡ true) where
  steps-same : steps_of u ≡ steps_of t
  steps-same = ap steps_on s.same_rows

  pub cause-same : (fallback : Bool) (c : List ℕ) → cause_of u fallback c ≡ cause_of t fallback c
  unfolding cause_of
  cause-same fallback c =
      ap (λ (o : Option Line). cause_by c (is_unassigned (end_kind (steps_of u) 0 c)) (back_of u fallback o)) (same-reader t u s apart c)
      ∙ (λ i. cause_by c (is_unassigned (end_kind (steps-same i) 0 c)) (back-same (reader c t.lines) i))
    where
      back-same : (o : Option Line) → back_of u fallback o ≡ back_of t fallback o
      back-same none = refl
      back-same (some l) = ap back_by (writer⇒writes t u fallback l.point (same_writer t u s apart l.point))

  listing-same : (fallback : Bool) → pageable_codes u fallback ≡ pageable_codes t fallback
  unfolding pageable_codes
  listing-same fallback = λ i. record {
    start = [];
    after = before;
    at = λ c. c;
    note = λ c. finding_of c (cause-same fallback c i);
    next = λ p. next_bytes (next_of (steps-same i) 0 p);
  }

  pub audit-same : (fallback : Bool) (pos : Code) (allowance space : ℕ) → audit_on u fallback pos allowance space ≡ audit_on t fallback pos allowance space
  unfolding audit_on
  audit-same fallback pos allowance space = λ i. pick (is_position (steps-same i) pos) (looked (page_from (listing-same fallback i) allowance space (bytes_of pos))) (refused BadPosition pos)

-- a memory in the form of a table that keeps the rules
module _ (t : Table) (p : Proper t) (k : Keeps limits t) (rec : Record) (m : Slices) (f : Form limits t rec m) where
  pub audit_tested-audit_on : (fallback : Bool) (pos : Code) (allowance space : ℕ)
      → audit_tested limits rec m fallback pos allowance space ≡ audit_on t fallback pos allowance space
  unfolding audit_tested
  audit_tested-audit_on fallback pos allowance space =
      pick_yes (valid limits rec m) (audit_on (table_in rec m) fallback pos allowance space) (refused BadTable pos) (form-valid limits t p k rec m f)
      ∙ audit-same t (table_in rec m) (SameTable-table_in limits t p k rec m f) k.so_far.rule9 fallback pos allowance space
