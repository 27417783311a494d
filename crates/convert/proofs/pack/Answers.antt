-- One byte and two are packed straight. Invariant: `v` is the bytes from `i` on, packed. Measure: the bytes left.
use mathlib.Core.Path.{◌∙◌}
use native.Mathlib.Omega.{arith}
use Rattle.convert.proofs.CodeBytes.{pack_one, pack_two, pack-start, pack-step}
use Rattle.convert.proofs.pack.Goals as goal

pub returns-then-n-eq1 : goal.returns-then-n-eq1
returns-then-n-eq1 c =
    let a = c.args in
    c.on_top.ensures.0 ∙ pack_one a.s.now a.n c.if-n-eq1.true c.requires

pub returns-then-n-eq2 : goal.returns-then-n-eq2
returns-then-n-eq2 c =
    let a = c.args in
    rw (c.on_top-then-n-eq2.ensures.0, c.on_top-then-n-eq2-2.ensures.0)
    (pack_two a.s.now a.n c.if-n-eq2.true c.requires)

pub loop-i-init : goal.loop-i-init
loop-i-init c =
    let a = c.args in (pack-start a.s.now a.n c.requires, omega arith, omega arith)

pub loop-i-preserved : goal.loop-i-preserved
loop-i-preserved c =
    let l = c.loop-i in
    let a = c.args in (
      rw (c.on_top-in-loop-i.ensures.0, l.invariant.0) (pack-step a.s.now a.n l.i (omega arith) (omega arith)
          c.requires),
      omega arith,
      omega arith,
    )
