use Rattle.lists.proofs.Laws.{tests}
use Rattle.table.proofs.HeaderLaws.{sub-lone}
use Rattle.table.proofs.value.sub_value.Goals as goal

pub returns-in_err-run : goal.returns-in_err-run
returns-in_err-run c = rw (c.from_residual.ensures, sub-lone, ← c.lone_run.ensures.0, c.in_err-run.was)

pub returns : goal.returns
returns c =
    let h = rw c.in_ok-run.was at c.lone_run.ensures.1 in
    search (tests, sub-lone, ← c.lone_run.ensures.0, c.in_ok-run.was)
