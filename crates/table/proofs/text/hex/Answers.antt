-- Invariant: the number from `at` on is the digits up to here, of the value so far, then the digits from here on.
use Prim.Native.Nat.{◌+◌, ◌-◌}
use native.Mathlib.Omega.{arith}
use mathlib.Core.Path.{◌≡◌}
use Rattle.lists.proofs.Laws.{tests, drop-∷, drop_past}
use Rattle.table.specs.Text.{point_digits}
use Rattle.table.proofs.TextLaws.{hex-more, hex-small, digit-is, digit_end}
use Rattle.table.proofs.text.hex.Goals as goal

pub returns-then-i-at : goal.returns-then-i-at
unfolding point_digits
returns-then-i-at c =
    let z : c.loop-i.i - c.args.at ≡ 0 = omega arith in
    (search (tests, drop-∷, c.loop-i.invariant.0), tt)

pub returns-then-s-i-eq62 : goal.returns-then-s-i-eq62
unfolding point_digits
returns-then-s-i-eq62 c =
    let z : c.loop-i.i - c.args.at ≡ 0 → ⊥ = λ e. omega arith in
    (search (tests, drop-∷, c.loop-i.invariant.0), omega (arith, hex-small _ _ (omega arith) c.loop-i.invariant.2))

pub returns-in_err-d : goal.returns-in_err-d
unfolding point_digits
returns-in_err-d c =
    let d = digit_end _ c.in_err-d.ensures in
    rw c.from_residual.ensures (search (tests, drop-∷, d, c.loop-i.invariant.0), tt)

pub returns-then-i-at-eq6 : goal.returns-then-i-at-eq6
unfolding point_digits
returns-then-i-at-eq6 c =
    let d = digit-is _ _ c.in_ok-d.ensures in
    let n : c.in_ok-d.d ≡ 16 → ⊥ = λ e. omega (arith, d.1) in
    (search (tests, drop-∷, d.0, c.loop-i.invariant.0), tt)

pub overflow_mul-value : goal.overflow_mul-value
overflow_mul-value c = omega (arith, hex-small _ _ (omega arith) c.loop-i.invariant.2)

pub overflow_add-value : goal.overflow_add-value
overflow_add-value c =
    let d = digit-is _ _ c.in_ok-d.ensures in omega (arith, d.1, hex-small _ _ (omega arith) c.loop-i.invariant.2)

pub loop-i-preserved : goal.loop-i-preserved
unfolding point_digits
loop-i-preserved c =
    let l = c.loop-i in
    let t = c.loop-i-test.true in
    let k : l.i + 1 - c.args.at ≡ l.i - c.args.at + 1 = omega arith in
    let d = digit-is _ _ c.in_ok-d.ensures in
    let n : c.in_ok-d.d ≡ 16 → ⊥ = λ e. omega (arith, d.1) in
    rw k (rw (l.invariant.0, drop-∷) (search (tests, d.0)), omega arith, hex-more _ l.value _ l.invariant.2 d.1)

pub returns : goal.returns
unfolding point_digits
returns c = (search (tests, drop_past, c.loop-i.invariant.0), tt)
