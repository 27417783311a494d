use native.Mathlib.Omega.{arith}
use Rattle.lists.proofs.Laws.{tests}
use Rattle.table.specs.loops.Ranges.{Stands, InLine}
use Rattle.table.specs.Header.{keyed_line}
use Rattle.table.proofs.header.keyed_line.Goals as goal

pub returns-then-at-e : goal.returns-then-at-e
unfolding keyed_line InLine
returns-then-at-e c =
    (search (tests, ← c.key_end.ensures.0, c.in_ok-e.was), tt)

pub slice_bounds-key_of-count : goal.slice_bounds-key_of-count
unfolding Stands
slice_bounds-key_of-count c =
    let h = rw c.in_ok-e.was at c.key_end.ensures.1 in omega arith

pub slice_bounds-key_of-start : goal.slice_bounds-key_of-start
unfolding Stands
slice_bounds-key_of-start c =
    let h = rw c.in_ok-e.was at c.key_end.ensures.1 in omega arith

pub slice_bounds-key_of-end : goal.slice_bounds-key_of-end
unfolding Stands
slice_bounds-key_of-end c =
    let h = rw c.in_ok-e.was at c.key_end.ensures.1 in omega arith

pub key_line-requires : goal.key_line-requires
unfolding Stands
key_line-requires c =
    let h = rw c.in_ok-e.was at c.key_end.ensures.1 in omega arith

pub returns-in_err-e : goal.returns-in_err-e
unfolding keyed_line InLine
returns-in_err-e c =
    rw c.from_residual.ensures (rw (← c.key_end.ensures.0, c.in_err-e.was), tt)

pub returns : goal.returns
unfolding keyed_line
returns c = (
  search (
    tests,
    ← c.key_end.ensures.0,
    c.in_ok-e.was,
    ← c.key_of.ensures,
    ← c.key_line.ensures.0,
  ),
  c.key_line.ensures.1,
)
