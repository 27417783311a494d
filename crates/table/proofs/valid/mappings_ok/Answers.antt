use Rattle.table.specs.Limits.{limits}
use Rattle.table.proofs.Neighbours.{mappings-tested}
use Rattle.table.specs.States.{step_at}
use Rattle.std.proofs.Common.{rules}
use Rattle.table.proofs.valid.mappings_ok.Goals as goal

pub returns-then-not-are_long : goal.returns-then-not-are_long
returns-then-not-are_long c =
    let a = c.args in
    rw (mappings-tested limits (step_at a.steps.now) a.rec a.lines.codes.now a.lines.infos.now a.lines.order.now) (search rules)

pub returns-then-order_ok : goal.returns-then-order_ok
returns-then-order_ok c =
    let a = c.args in
    rw (mappings-tested limits (step_at a.steps.now) a.rec a.lines.codes.now a.lines.infos.now a.lines.order.now) (search rules)

pub returns-else-order_ok : goal.returns-else-order_ok
returns-else-order_ok c =
    let a = c.args in
    rw (mappings-tested limits (step_at a.steps.now) a.rec a.lines.codes.now a.lines.infos.now a.lines.order.now) (search rules)
