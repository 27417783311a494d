use Rattle.lists.proofs.Laws.{tests}
use Rattle.frames.specs.Lines.{is_dash}
use Rattle.frames.proofs.lines.is_dash.Goals as goal

pub returns-then-line-eq1 : goal.returns-then-line-eq1
unfolding is_dash
returns-then-line-eq1 c = search tests

pub returns-else-line-eq1 : goal.returns-else-line-eq1
unfolding is_dash
returns-else-line-eq1 c = search tests
