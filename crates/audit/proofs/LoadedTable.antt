-- Audit calls on a memory in the form of a table, and on what loading an accepted text leaves: each is the call on the table, and all that
-- demand 3 claims of a list of them holds.
use Prim.Native.Nat.{ℕ}
use mathlib.Core.Path.{◌≡◌, ap, ◌∙◌}
use mathlib.Core.Bool.{Bool}
use mathlib.Core.List.{List}
use lib.Dec.{lit≤}
use Rattle.lists.specs.Order.{All}
use Rattle.lists.specs.Paging.{map_entries}
use Rattle.lists.proofs.Order.{All-⇒, All-×⁺}
use Rattle.table.specs.Limits.{limits}
use Rattle.table.specs.Meaning.{Table}
use Rattle.table.specs.Rules.{Keeps}
use Rattle.table.specs.Slices.{Slices}
use Rattle.table.specs.Memory.{Form, Proper}
use Rattle.table.specs.Load.{read, accepted, loaded_by, given, left_in, record_handed}
use Rattle.table.specs.declared.states.Code.{Code}
use Rattle.table.specs.declared.valid.Record.{Record}
use Rattle.table.proofs.LoadedForm.{LoadedForm, loaded-form}
use Rattle.audit.specs.Audit.{Finding, Answer, audit_on, audit_tested}
use Rattle.audit.specs.Demand.{AuditCall, Gets, InTurn, Claims}
use Rattle.audit.proofs.HeldTable.{audit_tested-audit_on}
use Rattle.audit.proofs.CodeCalls.{OnTable, table-claims}

-- an audit call on a record and these slices
abbrev pub audit_in : Record → Slices → Bool → Code → ℕ → ℕ → Answer
audit_in rec m fallback pos allowance space =
    audit_tested limits rec m fallback pos allowance space

-- a call answered as the definition has it, with each entry as its number
abbrev pub Answered : {F : Type 0} → (Finding → F) → AuditCall F → Type 0
Answered number c =
    let a = audit_in c.table c.memory c.fallback c.paged.came c.paged.allowance c.paged.space in
    (c.ending ≡ a.ending) × (c.paged.page ≡ map_entries number a.page)

-- any memory in the form of a table that keeps the rules
module _ (t : Table) (p : Proper t) (k : Keeps limits t) (rec : Record) (m : Slices)
    (f : Form limits t rec m) (fallback : Bool) {F : Type 0} (number : Finding → F) where
  on-table : (c : AuditCall F) → Gets rec m fallback c → Answered number c → OnTable t fallback number c
  on-table c g h =
      let pos = c.paged.came in
      let allowance = c.paged.allowance in
      let space = c.paged.space in
      let e : audit_in c.table c.memory c.fallback pos allowance space ≡ audit_on t fallback pos allowance space =
      (λ i. audit_in (g.0 i) (g.1 i) (g.2 i) pos allowance space)
      ∙ audit_tested-audit_on t p k rec m f fallback pos allowance space in
      (h.0 ∙ ap (λ (a : Answer). a.ending) e, h.1 ∙ ap (λ (a : Answer). map_entries number a.page) e)

  pub held-claims : (cs : List (AuditCall F)) → InTurn rec m fallback cs → All (Answered number) cs → Claims t fallback number cs
  held-claims cs g h =
      table-claims t fallback number k cs g.1
      (All-⇒ (λ c x. on-table c x.0 x.1) cs (All-×⁺ (Gets rec m fallback) (Answered number) cs g.0 h))

-- what loading an accepted text leaves is the form of its table
module _ (text : List ℕ) (old : Slices) (t : Table) (e : given limits text old ≡ read (accepted t)) where
  made : LoadedForm limits t (given limits text old) old
  made = loaded-form limits text old t (lit≤ tt) e

  -- an audit call there is the call on the text's table
  pub audit-loaded : (fallback : Bool) (pos : Code) (allowance space : ℕ)
      → audit_in (record_handed (loaded_by (given limits text old))) (left_in limits (given limits text old) old) fallback pos allowance space ≡ audit_on t fallback pos allowance space
  audit-loaded fallback pos allowance space =
      audit_tested-audit_on t made.proper made.keeps (record_handed (loaded_by (given limits text old))) _ made.form fallback pos allowance space

  pub loaded-claims : (fallback : Bool) {F : Type 0} (number : Finding → F) (cs : List (AuditCall F))
      → InTurn (record_handed (loaded_by (given limits text old))) (left_in limits (given limits text old) old) fallback cs → All (Answered number) cs → Claims t fallback number cs
  loaded-claims fallback {F} number cs =
      held-claims t made.proper made.keeps (record_handed (loaded_by (given limits text old))) (left_in limits (given limits text old) old) made.form fallback number cs
