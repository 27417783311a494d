use mathlib.Core.Path.{◌≡◌}
use native.Mathlib.Omega.{arith}
use lib.ListN.{length, take}
use Rattle.std.proofs.lemmas.List.{length-take-le}
use Rattle.table.specs.loops.Coded.{put_row}
use Rattle.table.proofs.row.full_row.Goals as goal

pub slice_bounds-fill-end-2 : goal.slice_bounds-fill-end-2
slice_bounds-fill-end-2 c = omega (arith, length-take-le 256 c.args.states.now (omega arith))

pub returns : goal.returns
unfolding put_row
returns c =
    let n : length (take 256 c.args.states.now) ≡ 256 = length-take-le 256 c.args.states.now (omega arith) in
    rw (c.fill.ensures.after (λ y h. h), n)
