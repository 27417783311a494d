-- The first byte by one step of the definition (cut-here), the rest by cut_on.
use Rattle.table.proofs.Cuts.{cut-here, cut-end}
use Rattle.table.specs.declared.states.Step.TheVariants.{Illegal, Ends, Leads}
use Rattle.table.specs.States.{step_at, broken_length}
use Rattle.table.specs.declared.states.Step.{Step}
use Rattle.table.specs.declared.states.Cut.TheVariants.{Stopped}
use Rattle.table.specs.declared.states.CutStop.TheVariants as cut_stop
use native.Mathlib.Omega.{arith}
use mathlib.Core.Path.{sym, ap, ◌∙◌}
use Rattle.table.proofs.states.cut_one.Goals as goal

pub returns-then-s-eq0 : goal.returns-then-s-eq0
returns-then-s-eq0 c =
    let a = c.args in
    sym (cut-end (step_at a.states.now) a.row 4 a.row 0 a.s.now (λ e. omega arith) (omega arith))

pub returns-in-Illegal : goal.returns-in-Illegal
returns-in-Illegal c =
    let a = c.args in
    let q = sym c.step_at.ensures ∙ c.in-Illegal.is in
    sym (cut-here (step_at a.states.now) a.row 4 a.row 0 a.s.now Illegal (λ e. omega arith) (omega arith) q
    ∙ ap (λ (x : Step). Stopped (cut_stop.Illegal (broken_length x 0))) q)

pub returns-in-Ends : goal.returns-in-Ends
returns-in-Ends c =
    let a = c.args in
    sym (cut-here (step_at a.states.now) a.row 4 a.row 0 a.s.now (Ends c.in-Ends.kind)
    (λ e. omega arith) (omega arith) (sym c.step_at.ensures ∙ c.in-Ends.is))

pub returns-in-Leads : goal.returns-in-Leads
returns-in-Leads c =
    let a = c.args in
    c.cut_on.ensures
    ∙ sym (cut-here (step_at a.states.now) a.row 4 a.row 0 a.s.now
    (Leads c.in-Leads.n) (λ e. omega arith) (omega arith)
    (sym c.step_at.ensures ∙ c.in-Leads.is))
