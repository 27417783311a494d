use Prim.Native.Nat.{◌+◌, ◌*◌}
use mathlib.Core.Path.{refl}
use lib.ListN.{get_or-eq_default}
use borrow.Author.Tests.{le-ltb}
use Rattle.table.specs.loops.Marks.{is_marked}
use Rattle.table.proofs.codes.is_marked.Goals as goal

pub returns-then-i-marks : goal.returns-then-i-marks
unfolding is_marked
returns-then-i-marks c =
    refl

pub returns-else-i-marks : goal.returns-else-i-marks
unfolding is_marked
returns-else-i-marks c =
    let a = c.args in
    rw (le-ltb (a.row * 4 + a.left) _ c.if-i-marks.false, get_or-eq_default a.marks.now 0 c.if-i-marks.false)
