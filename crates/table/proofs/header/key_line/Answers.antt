use native.Mathlib.Omega.{arith}
use Rattle.table.specs.loops.Ranges.{Placed, InLine}
use Rattle.table.specs.Header.{key_line}
use Rattle.table.proofs.header.key_line.Goals as goal

pub slice_bounds-value_of-count : goal.slice_bounds-value_of-count
unfolding Placed
slice_bounds-value_of-count c =
    let h = rw c.in_ok-e.was at c.content_end.ensures.1 in omega arith

pub slice_bounds-value_of-start : goal.slice_bounds-value_of-start
unfolding Placed
slice_bounds-value_of-start c =
    let h = rw c.in_ok-e.was at c.content_end.ensures.1 in omega arith

pub slice_bounds-value_of-end : goal.slice_bounds-value_of-end
unfolding Placed
slice_bounds-value_of-end c =
    let h = rw c.in_ok-e.was at c.content_end.ensures.1 in omega arith

pub returns-in_err-e : goal.returns-in_err-e
unfolding key_line InLine
returns-in_err-e c =
    rw c.from_residual.ensures (rw (← c.content_end.ensures.0, c.in_err-e.was), tt)

pub returns : goal.returns
unfolding key_line InLine Placed
returns c =
    let h = rw c.in_ok-e.was at c.content_end.ensures.1 in
    (rw (← c.content_end.ensures.0, c.in_ok-e.was, ← c.value_of.ensures), (omega arith, omega arith))
