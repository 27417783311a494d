-- What the number of the cell says (CellLaws).
use Prim.Native.Nat.{ℕ}
use mathlib.Core.Path.{sym, ap, ◌∙◌}
use native.Mathlib.Omega.{arith}
use Rattle.table.specs.Cells.{cell_step, cell_in}
use Rattle.table.specs.States.{step_at}
use Rattle.table.proofs.CellLaws.{cell-far, cell_free}
use Rattle.table.proofs.states.step_at.Goals as goal

pub returns-in-1 : goal.returns-in-1
unfolding step_at cell_in
returns-in-1 c =
    ap (λ (x : ℕ). cell_step (cell_in x)) (sym c.in-1.is ∙ c.cell_number.ensures)

pub returns-in-2 : goal.returns-in-2
unfolding step_at cell_in
returns-in-2 c =
    ap (λ (x : ℕ). cell_step (cell_in x)) (sym c.in-2.is ∙ c.cell_number.ensures)

pub returns-in-3 : goal.returns-in-3
unfolding step_at cell_in
returns-in-3 c =
    ap (λ (x : ℕ). cell_step (cell_in x)) (sym c.in-3.is ∙ c.cell_number.ensures)

pub returns-in-0 : goal.returns-in-0
unfolding step_at cell_in
returns-in-0 c =
    ap (λ (x : ℕ). cell_step (cell_in x)) (sym c.in-0.is ∙ c.cell_number.ensures)

pub returns-in-4-to-65535 : goal.returns-in-4-to-65535
unfolding step_at
returns-in-4-to-65535 c =
    let e = c.cell_number in
    sym (ap cell_step (cell_free e.result (omega arith) (omega arith))) ∙ ap (λ (x : ℕ). cell_step (cell_in x)) e.ensures

pub returns-in_default : goal.returns-in_default
unfolding step_at
returns-in_default c =
    let e = c.cell_number in
    sym (ap cell_step (cell-far e.result (omega arith))) ∙ ap (λ (x : ℕ). cell_step (cell_in x)) e.ensures
