-- What passes keeps the rules (common-line); where a test fails nothing is said.
use Rattle.table.proofs.LineLaws.{common-line}
use Rattle.table.specs.Stored.{mk}
use Rattle.table.specs.States.{step_at}
use native.Mathlib.Omega.{arith}
use mathlib.Core.Path.{sym, ◌∙◌}
use Rattle.table.proofs.valid.common_ok.Goals as goal

pub returns-in-0 : goal.returns-in-0
returns-in-0 c =
    λ e. let a = c.args in
    common-line (step_at a.steps.now) a.rec (mk a.bits a.info) 0 c.in-0.is
    (c.one_byte_ok.ensures e) (omega arith) (omega arith)
    (sym c.keeps_t6.ensures ∙ c.if-not-keeps_t6.false)

pub returns-in-1 : goal.returns-in-1
returns-in-1 c =
    λ e. let a = c.args in
    common-line (step_at a.steps.now) a.rec (mk a.bits a.info) 1 c.in-1.is
    (c.two_bytes_ok.ensures e) (omega arith) (omega arith)
    (sym c.keeps_t6.ensures ∙ c.if-not-keeps_t6.false)
