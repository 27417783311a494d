use Prim.Native.Nat.{◌≤◌}
use native.Mathlib.Omega.{arith}
use lib.ListN.{length}
use Rattle.table.specs.Text.{byte_at}
use Rattle.table.proofs.TextLaws.{scan, front, none-if}
use Rattle.table.proofs.text.byte.Goals as goal

pub returns-in_default : goal.returns-in_default
unfolding byte_at
returns-in_default c =
    let t = c.in_ok-get.field-0.now in
    let f = front c.args.s.now t c.args.at c.in_ok-get.ensures.lookup.0.2 in
    let l : length t ≤ 3 = omega arith in
    (search (scan, f.here, f.there, none-if), tt)
