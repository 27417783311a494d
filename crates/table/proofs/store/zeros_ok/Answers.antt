-- Invariant: all are 0 exactly if those from k on are.
use Rattle.lists.proofs.Laws.{tests, drop-∷, drop_past}
use Rattle.lists.specs.Tests.{zeros}
use Rattle.table.proofs.store.zeros_ok.Goals as goal

pub returns-then-xs-k-ne0 : goal.returns-then-xs-k-ne0
unfolding zeros
returns-then-xs-k-ne0 c =
    search (tests, drop-∷, c.loop-k.invariant)

pub loop-k-preserved : goal.loop-k-preserved
unfolding zeros
loop-k-preserved c =
    let h = c.loop-k-test.true in rw (c.loop-k.invariant, drop-∷) (search tests)

pub returns : goal.returns
unfolding zeros
returns c =
    search (drop_past, c.loop-k.invariant)
