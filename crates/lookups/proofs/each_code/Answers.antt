use borrow.Author.Rules.{rules}
use Rattle.lookups.proofs.Answers.{answered-turn}
use Rattle.lookups.proofs.each_code.Goals as goal

pub loop-k-preserved : goal.loop-k-preserved
loop-k-preserved c =
    let l = c.loop-k in
    answered-turn _ _ _ l.k _ l.found (search rules) c.answer_code.ensures l.invariant
