use Prim.Native.Nat.{◌+◌}
use mathlib.Core.Path.{◌≡◌, sym, subst, ◌∙◌}
use native.Mathlib.Omega.{arith}
use Rattle.table.specs.loops.Marks.{is_marked}
use Rattle.table.specs.States.{step_at}
use Rattle.table.proofs.Marks.{Dead, dead-none, dead-step, dead-row, live-row}
use Rattle.table.proofs.codes.is_productive.Goals as goal

pub loop-b-init : goal.loop-b-init
loop-b-init c =
    let a = c.args in dead-none (step_at a.states.now) (is_marked a.marks.now a.left) a.row

pub returns-then-ends_or_leads : goal.returns-then-ends_or_leads
returns-then-ends_or_leads c =
    let a = c.args in
    live-row (step_at a.states.now) (is_marked a.marks.now a.left) a.row c.loop-b.b (omega arith)
    (sym c.ends_or_leads.ensures ∙ c.if-ends_or_leads.true)

pub loop-b-preserved : goal.loop-b-preserved
loop-b-preserved c =
    let a = c.args in
    dead-step (step_at a.states.now) (is_marked a.marks.now a.left) a.row c.loop-b.b c.loop-b.invariant
    (sym c.ends_or_leads.ensures ∙ c.if-ends_or_leads.false)

pub returns-else-ends_or_leads : goal.returns-else-ends_or_leads
returns-else-ends_or_leads c =
    let a = c.args in
    let dead = Dead (step_at a.states.now) (is_marked a.marks.now a.left) a.row in
    let last : c.loop-b.b + 1 ≡ 256 = omega arith in
    dead-row (step_at a.states.now) (is_marked a.marks.now a.left) a.row
    (subst dead last (dead-step (step_at a.states.now) (is_marked a.marks.now a.left) a.row c.loop-b.b
    c.loop-b.invariant (sym c.ends_or_leads.ensures ∙ c.if-ends_or_leads.false)))
