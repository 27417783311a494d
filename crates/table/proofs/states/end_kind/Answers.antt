-- Invariant: the code ends as its bytes left end from the row that is reached.
use Prim.Native.Nat.{ℕ, suc, ◌+◌, ◌-◌, ◌*◌, ◌%◌}
use mathlib.Core.Path.{◌≡◌, sym, ap, ◌∙◌}
use native.Mathlib.Omega.{arith}
use Rattle.std.specs.Prelude.{Some, None}
use Rattle.lists.specs.Pick.{pick}
use Rattle.table.specs.States.{step_at, end_kind}
use Rattle.lists.specs.Tests.{is_empty}
use Rattle.table.specs.Codes.{unpacked}
use Rattle.table.specs.declared.states.Step.TheVariants.{Illegal, Ends, Leads}
use Rattle.table.proofs.Cuts.{end_kind-unpacked}
use Rattle.table.proofs.states.end_kind.Goals as goal

pub returns-then-code-eq0 : goal.returns-then-code-eq0
unfolding unpacked end_kind
returns-then-code-eq0 c =
    let a = c.args in
    sym (ap (λ (k : ℕ). end_kind (step_at a.states.now) a.row (unpacked k a.code.bits)) c.if-code-eq0.true)

pub loop-init : goal.loop-init
loop-init c =
    let a = c.args in
    let m : a.code.len + 1 - 1 ≡ a.code.len = omega arith in
    ap (λ (k : ℕ). end_kind (step_at a.states.now) a.row (unpacked k a.code.bits)) m

pub returns-in-Illegal : goal.returns-in-Illegal
returns-in-Illegal c =
    let q = c.loop in
    let left : ℕ = c.args.code.len + 1 - q.counter in
    sym (end_kind-unpacked (step_at c.args.states.now) q.at_row left q.bits Illegal (omega arith)
    (sym c.step_at.ensures ∙ c.in-Illegal.is)) ∙ q.invariant

pub returns-in-Ends : goal.returns-in-Ends
unfolding unpacked
returns-in-Ends c =
    let q = c.loop in
    let left : ℕ = c.args.code.len + 1 - q.counter in
    let m : left - 1 ≡ suc (left - 2) = omega arith in
    let w : ℕ = q.bits % 16777216 * 256 in
    let h = end_kind-unpacked (step_at c.args.states.now) q.at_row left q.bits
    (Ends c.in-Ends.field-0) (omega arith)
    (sym c.step_at.ensures ∙ c.in-Ends.is) in
    sym (h ∙ ap (λ (k : ℕ). pick (is_empty (unpacked k w)) (Some c.in-Ends.field-0) None) m) ∙ q.invariant

pub loop-preserved : goal.loop-preserved
loop-preserved c =
    let q = c.loop in
    let left : ℕ = c.args.code.len + 1 - q.counter in
    let m : c.args.code.len + 1 - (q.counter + 1) ≡ left - 1 = omega arith in
    ap (λ (k : ℕ). end_kind (step_at c.args.states.now) c.in-Leads.n (unpacked k (q.bits % 16777216 * 256))) m
    ∙ sym (end_kind-unpacked (step_at c.args.states.now) q.at_row left q.bits
    (Leads c.in-Leads.n) (omega arith)
    (sym c.step_at.ensures ∙ c.in-Leads.is)) ∙ q.invariant

pub returns : goal.returns
returns c =
    let q = c.loop in
    let m : c.args.code.len + 1 - q.counter ≡ 1 = omega arith in
    c.last_kind.ensures
    ∙ sym (ap (λ (k : ℕ). end_kind (step_at c.args.states.now) q.at_row (unpacked k q.bits)) m) ∙ q.invariant
