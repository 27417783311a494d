use Rattle.table.specs.Text.{number_at}
use Rattle.table.proofs.TextLaws.{scan, item-some, item-none, digit-is}
use Rattle.table.proofs.row.number.Goals as goal

pub returns-in_err-get : goal.returns-in_err-get
unfolding number_at
returns-in_err-get c =
    let h = item-none c.args.s.now c.args.at c.get.result c.get.ensures.lookup c.in_err-get.was in
    rw c.from_residual.ensures (search scan)

pub returns-then-s-next : goal.returns-then-s-next
unfolding number_at
returns-then-s-next c =
    let h = item-some c.args.s.now c.args.at c.get.result _ c.get.ensures.lookup c.in_ok-get.was in
    let l = h.0 in
    let d = digit-is _ _ c.in_ok-high.ensures in
    search (scan, h.1, d.0)
