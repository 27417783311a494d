use native.Mathlib.Omega.{arith}
use mathlib.Core.Path.{◌≡◌}
use lib.ListN.{length}
use Rattle.lists.proofs.Laws.{tests, drop-∷, drop_past}
use Rattle.table.specs.Text.{content_end}
use Rattle.table.specs.loops.Ranges.{Placed}
use Rattle.table.proofs.header.content_end.Goals as goal
use Rattle.table.proofs.header.content_end.Goals.{then-not-quoted+else-b-eq35+else-foreign_byte, else-not-quoted}

pub returns-then-b-eq35 : goal.returns-then-b-eq35
unfolding content_end Placed
returns-then-b-eq35 c =
    let lt = c.loop-i-test.true in
    (rw (c.loop-i.invariant, drop-∷, c.if-not-quoted.true) (search tests), (omega arith, omega arith))

pub returns-then-foreign_byte : goal.returns-then-foreign_byte
unfolding content_end Placed
returns-then-foreign_byte c =
    let lt = c.loop-i-test.true in (
      rw (c.loop-i.invariant, drop-∷, c.if-not-quoted.true, ← c.foreign_byte.ensures, c.if-foreign_byte.true) (search tests),
      tt,
    )

pub loop-i-preserved : goal.loop-i-preserved
unfolding content_end
loop-i-preserved c =
    let lt = c.loop-i-test.true in
    elim c.if-not-quoted.branch [
      | then-not-quoted+else-b-eq35+else-foreign_byte w ↦
          rw (
            c.loop-i.invariant,
            drop-∷,
            ← c.flip-quoted.ensures,
            w.if-not-quoted.true,
            ← w.foreign_byte.ensures,
            w.if-foreign_byte.false,
          ) (search tests)
      | else-not-quoted w ↦ rw (c.loop-i.invariant, drop-∷, ← c.flip-quoted.ensures, w.if-not-quoted.false)
    ]

pub returns : goal.returns
unfolding content_end Placed
returns c =
    let k : c.loop-i.i ≡ length c.args.s.now = omega arith in
    (rw (← k) (search (drop_past, c.loop-i.invariant)), (omega arith, omega arith))
