use Rattle.lists.proofs.Laws.{tests}
use Rattle.frames.specs.loops.Inner.{hex_count}
use Rattle.frames.proofs.lines.hex_count.Goals as goal

pub returns-then-n-eq0 : goal.returns-then-n-eq0
unfolding hex_count
returns-then-n-eq0 c = search tests

pub returns-else-n-eq0 : goal.returns-else-n-eq0
unfolding hex_count
returns-else-n-eq0 c = search tests
