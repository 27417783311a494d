use mathlib.Core.Path.{◌≡◌, refl, sym, ◌∙◌}
use mathlib.Core.Bool.{true, false}
use Prim.Native.Nat.{◌-◌}
use native.Mathlib.Omega.{arith}
use lib.ListN.{length}
use Rattle.table.specs.Text.{plus_at}
use Rattle.table.proofs.TextLaws.{unicode-forth}
use Rattle.table.proofs.MappingLaws.{points-more, points-wrong, points-done}
use Rattle.table.proofs.mapping.more_points.Goals as goal

pub loop-next-init : goal.loop-next-init
loop-next-init c = record { fuel = length c.args.s.now; pending = refl; enough = omega arith }

pub loop-next-smaller : goal.loop-next-smaller
loop-next-smaller c =
    let h = rw c.in-Some.is at c.unicode.ensures.1 in
    let g = rw (← c.unicode.ensures.0, c.in-Some.is) at (unicode-forth c.args.s.now c.join.result) in omega arith

pub loop-next-preserved : goal.loop-next-preserved
loop-next-preserved c =
    let s = c.args.s.now in
    let l = c.loop-next.invariant in
    let h = rw c.in-Some.is at c.unicode.ensures.1 in
    let g = rw (← c.unicode.ensures.0, c.in-Some.is) at (unicode-forth s c.join.result) in
    record {
      fuel = l.fuel - 1;
      pending =
          rw (l.pending, ← c.join.ensures.0, ← c.unicode.ensures.0, c.in-Some.is)
          (points-more l.fuel s _ _ _ _ (omega (arith, l.enough)));
      enough = omega (arith, l.enough);
    }

pub returns-then-plus : goal.returns-then-plus
returns-then-plus c =
    let h : plus_at c.args.s.now c.loop-next.end ≡ true = rw c.skip.ensures.0 at (sym c.plus.ensures ∙ c.if-plus.true) in
    rw (c.loop-next.invariant.pending, ← c.join.ensures.0, ← c.unicode.ensures.0, c.in_default.is)
    (sym (points-wrong _ _ _ _ h))

pub returns : goal.returns
returns c =
    let h : plus_at c.args.s.now c.loop-next.end ≡ false = rw c.skip.ensures.0 at (sym c.plus.ensures ∙ c.if-plus.false) in
    rw (c.loop-next.invariant.pending, ← c.join.ensures.0, ← c.unicode.ensures.0, c.in_default.is)
    (sym (points-done _ _ _ _ h))
