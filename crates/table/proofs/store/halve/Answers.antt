-- Invariant: the place that parts the keys is in the window, and the gap is that of its last line. Measure: the looks left.
use Rattle.table.proofs.Looks.{looks-less}
use Rattle.table.proofs.Halving.{left-first, left-half, power-one, first-look, half-look, look-inside, window-starts, window-look, window-ends}
use Rattle.table.specs.loops.Search.{Parts}
use mathlib.Core.Path.{refl}
use Prim.Native.Nat.{◌+◌, ◌-◌, ◌/◌}
use native.Mathlib.Omega.{arith}
use Rattle.table.proofs.store.halve.Goals as goal

pub loop-size-init : goal.loop-size-init
loop-size-init g c =
    let a = c.args in
    let v = c.window-size in
    let size = v.result in
    let look = first-look a.n size v.ensures in
    let r = c.looked-spot in (
      left-first a.n size v.ensures,
      look-inside a.n _ r.result _ _ (a.n + 1) (size - 1) (a.n - (size - 1)) size r.ensures look (omega (arith, v.ensures.1, v.ensures.2)) (omega arith),
      λ keys told. window-look keys a.sought a.n (Parts keys a.sought a.n)
          _ r.result _ _ (a.n + 1) (size - 1) (a.n - (size - 1)) size
          (told (size - 1) c.key.result (omega (arith, v.ensures.1, v.ensures.2)) c.key.ensures) refl r.ensures look
          (omega (arith, v.ensures.1, v.ensures.2)) (λ place p. p.1 (size - 1) (omega (arith, v.ensures.1, v.ensures.2)))
          (window-starts keys a.sought a.n (Parts keys a.sought a.n) (λ place p. p.0)),
    )

pub loop-size-smaller : goal.loop-size-smaller
loop-size-smaller g c =
    looks-less (c.loop-size.size / 2) (omega arith)

pub loop-size-preserved : goal.loop-size-preserved
loop-size-preserved g c =
    let a = c.args in
    let l = c.loop-size in
    let at = l.spot.at + l.size / 2 - 1 in
    let look = half-look l.spot.at l.size l.invariant.0.power (omega arith) in
    let r = c.looked-spot-in-loop-size in (
      left-half _ l.size (omega arith) l.invariant.0,
      look-inside a.n l.spot r.result _ _ l.size at (l.spot.at + l.size / 2) (l.size / 2) r.ensures look (omega (arith, l.invariant.1)) l.invariant.1,
      λ keys told. window-look keys a.sought a.n (Parts keys a.sought a.n)
          l.spot r.result _ _ l.size at (l.spot.at + l.size / 2) (l.size / 2)
          (told at c.key-in-loop-size.result (omega (arith, l.invariant.1)) c.key-in-loop-size.ensures) refl r.ensures look
          (omega (arith, l.invariant.1)) (λ place p. p.1 at (omega (arith, l.invariant.1)))
          (l.invariant.2 keys told),
    )

pub returns : goal.returns
returns g c =
    λ keys told.
    let l = c.loop-size in
    let w = window-ends keys c.args.sought c.args.n _ l.spot.at l.size l.spot.gap (power-one l.size l.invariant.0.power (omega arith)) (l.invariant.2 keys told) in
    record { inside = w.0; ends = w.1; parted = w.2 }
