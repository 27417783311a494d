use borrow.Author.Rules.{rules}
use Rattle.table.proofs.RowText.{fewer_left, entries-step, entries-stop}
use Rattle.table.proofs.row.EntriesIterator.next.Goals as goal

pub returns-in-Some-clause-steps : goal.returns-in-Some-clause-steps
returns-in-Some-clause-steps c = rw c.in_ok-at.was (entries-step c.args.self.now.text.now c.in_ok-at.at _ c.in-Some.more c.in-Some.ensures)

pub returns-in-Some-clause-goes : goal.returns-in-Some-clause-goes
returns-in-Some-clause-goes c =
    let h = fewer_left c.args.self.now.text.now c.in_ok-at.at _ c.in-Some.more c.in-Some.ensures in search rules

pub returns-in-None-clause-steps : goal.returns-in-None-clause-steps
returns-in-None-clause-steps c = rw c.in_ok-at.was (entries-stop c.args.self.now.text.now c.in_ok-at.at c.in-None.ensures)
