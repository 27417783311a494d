use native.Mathlib.Omega.{arith}
use mathlib.Core.Path.{◌≡◌}
use lib.ListN.{length}
use Rattle.lists.proofs.Laws.{tests, drop-∷, drop_past}
use Rattle.table.specs.Text.{quote_end}
use Rattle.table.proofs.value.quote_end.Goals as goal

pub returns-then-s-i-eq34 : goal.returns-then-s-i-eq34
unfolding quote_end
returns-then-s-i-eq34 c = (search (tests, drop-∷, c.loop-i.invariant), omega arith, omega arith)

pub loop-i-preserved : goal.loop-i-preserved
unfolding quote_end
loop-i-preserved c = let lt = c.loop-i-test.true in rw (c.loop-i.invariant, drop-∷) (search tests)

pub returns : goal.returns
unfolding quote_end
returns c =
    let k : c.loop-i.i ≡ length c.args.s.now = omega arith in
    (rw (← k) (search (tests, drop_past, c.loop-i.invariant)), omega arith, omega arith)
