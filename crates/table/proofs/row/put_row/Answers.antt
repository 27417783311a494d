use mathlib.Core.Path.{◌≡◌}
use Prim.Native.Nat.{◌+◌, ◌-◌, ◌*◌}
use native.Mathlib.Omega.{arith}
use lib.Seq.{drop-drop}
use Rattle.table.specs.loops.Coded.{put_row}
use Rattle.table.proofs.row.put_row.Goals as goal

pub returns : goal.returns
unfolding put_row
returns c =
    let a = c.args in let k : a.r * 256 + 256 - a.r * 256 ≡ 256 = omega arith in rw (c.take_row.ensures, k, drop-drop)
