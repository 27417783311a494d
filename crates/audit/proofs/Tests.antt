-- What an audit call answers by its two tests, 60 before 40.
use Prim.Native.Nat.{ℕ}
use mathlib.Core.Path.{◌≡◌, refl, sym, ap, ◌∙◌}
use mathlib.Core.Bool.{Bool, true, false}
use mathlib.Core.List.{List}
use lib.Dec.{eqb}
use borrow.Author.Tests.{eqb-true, ne_eqb}
use Rattle.lists.specs.Pick.{pick}
use Rattle.lists.specs.Paging.{Page, page_from}
use Rattle.lists.proofs.Laws.{and_left}
use Rattle.lists.proofs.Cases.{pick_yes, pick_no}
use Rattle.table.specs.Limits.{limits}
use Rattle.table.specs.States.{Rows, is_code}
use Rattle.table.specs.Codes.{code_of, bytes_of}
use Rattle.table.specs.Meaning.{Table, steps_of}
use Rattle.table.specs.Stored.{padded}
use Rattle.table.specs.Slices.{Slices}
use Rattle.table.specs.Memory.{table_in}
use Rattle.table.specs.Valid.{valid}
use Rattle.table.specs.declared.states.Code.{Code}
use Rattle.table.specs.declared.valid.Record.{Record}
use Rattle.table.proofs.Packing.{length-unpacked, pack-unpack}
use Rattle.table.proofs.CodePositions.{none-code, code-none}
use Rattle.audit.specs.Audit.{Finding, Answer, Ending, Looked, BadPosition, BadTable, ending_number, audit_number, pageable_codes, refused, looked, is_position, audit_on, audit_tested}
use Rattle.std.specs.Result.{result_err}
use Rattle.audit.specs.Audit.{refusal_by, ending_by, page_handed, handed_as, audited_of, ending_of, handed_on, space_after}
use Rattle.audit.specs.declared.Audited.{Audited}
use Rattle.audit.specs.declared.AuditRefusal.{AuditRefusal}
use Rattle.std.specs.Prelude.{Result}

-- a position is the code of its bytes
pub position-packed : (step : Rows) (pos : Code) → is_position step pos ≡ true → pos ≡ code_of (bytes_of pos)
unfolding is_position
position-packed step pos h = go (eqb pos.len 0) refl h
  where
    go : (t : Bool) → eqb pos.len 0 ≡ t → pick t (eqb pos.bits 0) (pick (padded pos.len pos.bits) (is_code step 0 (bytes_of pos)) false) ≡ true → pos ≡ code_of (bytes_of pos)
    go true e k =
        let n = eqb-true pos.len 0 e in
        let b = eqb-true pos.bits 0 k in
        let z : pos ≡ record { bits = 0; len = 0 } = (λ i. record { bits = b i; len = n i }) in
        z ∙ sym none-code ∙ ap code_of (sym code-none ∙ ap bytes_of (sym z))
    go false e k =
        let pad = and_left (padded pos.len pos.bits) _ k in
        (λ i. record { bits = sym (pack-unpack pos.len pos.bits pad) i; len = sym (length-unpacked pos.len pos.bits) i })

-- one that has bytes: with zeros in its unused bits, and a complete code
module _ (step : Rows) (pos : Code) (some : pos.len ≡ 0 → ⊥) where
  pub position-unpadded : padded pos.len pos.bits ≡ false → false ≡ is_position step pos
  unfolding is_position
  position-unpadded h = sym (pick_no (eqb pos.len 0) _ _ (ne_eqb pos.len 0 some) ∙ pick_no (padded pos.len pos.bits) _ _ h)

  pub position-code : padded pos.len pos.bits ≡ true → is_code step 0 (bytes_of pos) ≡ is_position step pos
  unfolding is_position
  position-code h =
      sym (pick_no (eqb pos.len 0) _ _ (ne_eqb pos.len 0 some) ∙ pick_yes (padded pos.len pos.bits) _ _ h)

module _ (t : Table) (fallback : Bool) (pos : Code) (allowance space : ℕ) where
  pub audit-misplaced : is_position (steps_of t) pos ≡ false → audit_on t fallback pos allowance space ≡ refused BadPosition pos
  unfolding audit_on
  audit-misplaced h = pick_no (is_position (steps_of t) pos) _ _ h

  pub audit-placed : is_position (steps_of t) pos ≡ true
      → audit_on t fallback pos allowance space ≡ looked (page_from (pageable_codes t fallback) allowance space (bytes_of pos))
  unfolding audit_on
  audit-placed h = pick_yes (is_position (steps_of t) pos) _ _ h

module _ (rec : Record) (m : Slices) (fallback : Bool) (pos : Code) (allowance space : ℕ) where
  pub audit-invalid : valid limits rec m ≡ false → audit_tested limits rec m fallback pos allowance space ≡ refused BadTable pos
  unfolding audit_tested
  audit-invalid h = pick_no (valid limits rec m) _ _ h

  pub audit-valid : valid limits rec m ≡ true → audit_tested limits rec m fallback pos allowance space ≡ audit_on (table_in rec m) fallback pos allowance space
  unfolding audit_tested
  audit-valid h = pick_yes (valid limits rec m) _ _ h

-- the ending of what an answer hands back
ending-as : (e : Ending) (d : Audited) → ending_of (handed_as e d) ≡ e
ending-as Looked d = refl
ending-as BadPosition d = refl
ending-as BadTable d = refl

pub ending-handed : (a : Answer) → ending_of (audited_of a) ≡ a.ending
ending-handed a = ending-as a.ending (page_handed a.page)

-- why what an answer hands back is refused
refusal-as : (e : Ending) (d : Audited) → result_err (handed_as e d) ≡ refusal_by e
refusal-as Looked d = refl
refusal-as BadPosition d = refl
refusal-as BadTable d = refl

pub refusal-handed : (a : Answer) → result_err (audited_of a) ≡ refusal_by a.ending
refusal-handed a = refusal-as a.ending (page_handed a.page)

pub ending-refusal : (e : Ending) → ending_by (refusal_by e) ≡ e
ending-refusal Looked = refl
ending-refusal BadPosition = refl
ending-refusal BadTable = refl

-- a call's answer is a page, or a refusal that hands on nothing
handed-either : (pos : Code) (v b : Bool) (page : Page Finding (List ℕ))
    → let a = pick v (pick b (looked page) (refused BadPosition pos)) (refused BadTable pos) in
    handed_on pos (audited_of a) ≡ page_handed a.page
handed-either pos false b page = refl
handed-either pos true false page = refl
handed-either pos true true page = refl

pub handed-page : (rec : Record) (m : Slices) (fallback : Bool) (pos : Code) (allowance space : ℕ)
    → let a = audit_tested limits rec m fallback pos allowance space in
    handed_on pos (audited_of a) ≡ page_handed a.page
unfolding audit_tested audit_on
handed-page rec m fallback pos allowance space =
    handed-either pos (valid limits rec m) (is_position (steps_of (table_in rec m)) pos) _

-- what is promised of an answer is promised of its equal
pub answer-≡ : (a b : Answer) → a ≡ b → (r : Result Audited AuditRefusal) (old new : List ℕ) → (r ≡ audited_of b) × (new ≡ space_after b old)
    → (r ≡ audited_of a) × (new ≡ space_after a old) × (ending_number (ending_of r) ≡ audit_number a)
answer-≡ a b e r old new h =
    let p : r ≡ audited_of a = h.0 ∙ ap audited_of (sym e) in
    (p, h.1 ∙ ap (λ (x : Answer). space_after x old) (sym e), ap (λ (x : Result Audited AuditRefusal). ending_number (ending_of x)) p ∙ ap ending_number (ending-handed a))
