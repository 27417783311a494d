-- Invariant: `out` is false exactly of the rows that a mark before j leads to a row where `below` is false.
use Prim.Native.Nat.{◌*◌}
use mathlib.Core.Path.{◌≡◌, refl}
use native.Mathlib.Omega.{arith}
use lib.ListN.{length-set}
use Rattle.table.specs.Limits.{limits}
use Rattle.table.proofs.Marking.{level-none, level-skip, level-clear, level_all}
use Rattle.table.proofs.states.level.Goals.{then-marks-j+then-not-below-j, else-marks-j, else-marks-j-via-then-marks-j+else-not-below-j, else-marks-j-via-else-marks-j}
use Rattle.table.proofs.states.level.Goals as goal

pub loop-j-init : goal.loop-j-init
loop-j-init c =
    let a = c.args in
    (level-none a.marks.now a.below, refl)

pub loop-j-preserved : goal.loop-j-preserved
loop-j-preserved c =
    let q = c.loop-j in
    let a = c.args in
    let skip = level-skip a.marks.now a.below q.j q.out in
    elim c.if-marks-j.branch [
      | then-marks-j+then-not-below-j w ↦
          rw w.out-is (
            level-clear a.marks.now a.below q.j q.out q.invariant.1 (omega arith)
                (rw (w.if-marks-j.true, w.if-not-below-j.true) refl) q.invariant.0,
            simp length-set q.invariant.1,
          )
      | else-marks-j w ↦
          rw w.out-is (
            skip (elim w.else-marks-j.branch [
              | else-marks-j-via-then-marks-j+else-not-below-j v ↦ rw (v.if-marks-j.true, v.if-not-below-j.false) refl
              | else-marks-j-via-else-marks-j v ↦ rw (v.if-marks-j.false) refl
            ]) q.invariant.0,
            q.invariant.1,
          )
    ]

pub returns : goal.returns
returns c =
    let q = c.loop-j in
    let a = c.args in
    let e : q.j ≡ a.rows * limits.rows = omega arith in
    level_all a.marks.now a.below q.out a.rows (rw e at q.invariant.0)
