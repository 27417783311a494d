-- Where the last line comes before the new one, the place is behind it; else the place parts the lines that do from the others (order-parts).
use Rattle.std.proofs.Common.{rules}
use Rattle.table.proofs.Halving.{side, order-sides, order-parts}
use Rattle.table.proofs.Places.{point-le}
use Rattle.table.specs.Stored.{mk}
use Rattle.table.specs.loops.Search.{point_place_in, picked}
use Prim.Native.Nat.{◌-◌}
use native.Mathlib.Omega.{arith}
use lib.ListN.{length}
use Rattle.table.proofs.store.place_point.Goals as goal

pub returns-then-before_at : goal.returns-then-before_at
returns-then-before_at c =
    let a = c.args in
    let e = mk a.c a.i in
    let t = c.before_at in (
      omega arith,
      λ q r. omega (
        arith,
        point-le a.codes.now a.infos.now a.order.now e,
        (order-sides a.codes.now a.infos.now a.order.now e (length a.order.now - 1) t.result t.ensures (omega arith) q r).0 c.if-before_at.true,
      ),
    )

pub returns : goal.returns
returns c =
    let a = c.args in
    let e = mk a.c a.i in
    let w = c.halve.ensures (side a.codes.now a.infos.now a.order.now e) (λ k r h p. search rules) in (
      w.inside,
      λ q r. w.parted (point_place_in e (picked a.codes.now a.infos.now a.order.now)) (order-parts a.codes.now a.infos.now a.order.now e q r),
    )
