use native.Mathlib.Omega.{arith}
use Rattle.table.specs.Header.{class_in}
use Rattle.table.specs.loops.Ranges.{Ranged}
use Rattle.table.proofs.value.class_value.Goals as goal

pub slice_bounds-class_name-count : goal.slice_bounds-class_name-count
unfolding Ranged
slice_bounds-class_name-count c =
    let h = rw c.in_ok-a.was at c.find_quoted.ensures.1 in omega arith

pub slice_bounds-class_name-start : goal.slice_bounds-class_name-start
unfolding Ranged
slice_bounds-class_name-start c =
    let h = rw c.in_ok-a.was at c.find_quoted.ensures.1 in omega arith

pub slice_bounds-class_name-end : goal.slice_bounds-class_name-end
unfolding Ranged
slice_bounds-class_name-end c =
    let h = rw c.in_ok-a.was at c.find_quoted.ensures.1 in omega arith

pub returns-in_err-a : goal.returns-in_err-a
unfolding class_in
returns-in_err-a c = rw (c.from_residual.ensures, ← c.find_quoted.ensures.0, c.in_err-a.was)

pub returns : goal.returns
unfolding class_in
returns c =
    rw (← c.find_quoted.ensures.0, c.in_ok-a.was, ← c.class_name.ensures)
