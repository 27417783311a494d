-- One step of the definition (end_kind-unpacked): only an end ends the code.
use Rattle.table.proofs.Cuts.{end_kind-unpacked}
use Rattle.table.specs.declared.states.Step.TheVariants.{Illegal, Ends, Leads}
use Rattle.table.specs.States.{step_at, end_kind}
use Rattle.table.specs.Codes.{unpacked}
use native.Mathlib.Omega.{arith}
use mathlib.Core.Path.{sym, ◌∙◌}
use Rattle.table.proofs.states.last_kind.Goals as goal

pub returns-in-Illegal : goal.returns-in-Illegal
unfolding unpacked
returns-in-Illegal c =
    let a = c.args in
    sym (end_kind-unpacked (step_at a.states.now) a.row 1 a.bits Illegal (omega arith)
    (sym c.step_at.ensures ∙ c.in-Illegal.is))

pub returns-in-Ends : goal.returns-in-Ends
unfolding unpacked
returns-in-Ends c =
    let a = c.args in
    sym (end_kind-unpacked (step_at a.states.now) a.row 1 a.bits (Ends c.in-Ends.kind) (omega arith)
    (sym c.step_at.ensures ∙ c.in-Ends.is))

pub returns-in-Leads : goal.returns-in-Leads
unfolding unpacked end_kind
returns-in-Leads c =
    let a = c.args in
    sym (end_kind-unpacked (step_at a.states.now) a.row 1 a.bits (Leads c.in-Leads.field-0) (omega arith)
    (sym c.step_at.ensures ∙ c.in-Leads.is))
