use Rattle.table.specs.Header.{quoted_from, quoted_of}
use Rattle.table.specs.loops.Ranges.{Ranged}
use Rattle.table.proofs.TextLaws.{scan}
use Rattle.table.proofs.value.find_quoted.Goals.{then-v-p-via-then-v-p, then-v-p-via-else-v-p+then-v-p-ne34}
use Rattle.table.proofs.value.find_quoted.Goals as goal

pub returns-then-v-p : goal.returns-then-v-p
unfolding quoted_of Ranged
returns-then-v-p c = (
  elim c.then-v-p.branch [
    | then-v-p-via-then-v-p w ↦ search (scan, ← c.skip-p.ensures.0)
    | then-v-p-via-else-v-p+then-v-p-ne34 w ↦ search (scan, ← c.skip-p.ensures.0)
  ],
  tt,
)

pub returns-then-skip-v : goal.returns-then-skip-v
unfolding quoted_of quoted_from Ranged
returns-then-skip-v c =
    (search (scan, ← c.skip-p.ensures.0, ← c.quote_end-e.ensures.0, ← c.skip.ensures.0), tt)

pub returns : goal.returns
unfolding quoted_of quoted_from Ranged
returns c = (
  search (scan, ← c.skip-p.ensures.0, ← c.quote_end-e.ensures.0, ← c.skip.ensures.0),
  (c.quote_end-e.ensures.1, c.quote_end-e.ensures.2),
)
