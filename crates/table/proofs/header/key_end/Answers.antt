use native.Mathlib.Omega.{arith}
use Rattle.lists.proofs.Laws.{tests, drop-∷, drop_past}
use Rattle.table.specs.loops.Ranges.{Stands}
use Rattle.table.specs.Header.{key_end}
use Rattle.table.proofs.header.key_end.Goals as goal

pub returns-then-s-i-eq62 : goal.returns-then-s-i-eq62
unfolding key_end Stands
returns-then-s-i-eq62 c = (search (tests, drop-∷, c.loop-i.invariant), (omega arith, omega arith))

pub returns-then-not-key_byte : goal.returns-then-not-key_byte
unfolding key_end Stands
returns-then-not-key_byte c =
    let lt = c.loop-i-test.true in
    (rw (c.loop-i.invariant, drop-∷, ← c.key_byte.ensures, c.if-not-key_byte.true) (search tests), tt)

pub loop-i-preserved : goal.loop-i-preserved
unfolding key_end
loop-i-preserved c =
    let lt = c.loop-i-test.true in
    rw (c.loop-i.invariant, drop-∷, ← c.key_byte.ensures, c.if-not-key_byte.false) (search tests)

pub returns : goal.returns
unfolding key_end Stands
returns c = (search (drop_past, c.loop-i.invariant), tt)
