-- One index renumbered: one test.
use Rattle.lists.specs.Place.{bump}
use Rattle.lists.proofs.Laws.{tests}
use Rattle.table.proofs.store.bump_index.Goals as goal

pub returns-then-at-v : goal.returns-then-at-v
unfolding bump
returns-then-at-v c =
    search tests

pub returns-else-at-v : goal.returns-else-at-v
unfolding bump
returns-else-at-v c =
    search tests
