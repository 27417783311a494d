use Rattle.table.proofs.TextLaws.{run-start, run_more, run-wrong, run-done, run-fuel, room-more}
use mathlib.Core.Path.{◌≡◌, sym, ◌∙◌}
use mathlib.Core.Bool.{true, false}
use Prim.Native.Nat.{◌+◌, ◌-◌}
use native.Mathlib.Omega.{arith}
use lib.ListN.{length}
use Rattle.table.specs.Text.{plus_at, bytes_at}
use Rattle.table.proofs.text.bytes_run.Goals as goal

pub returns-in_err-first : goal.returns-in_err-first
unfolding bytes_at
returns-in_err-first c =
    rw c.from_residual.ensures (rw (← c.skip.ensures.0, ← c.byte.ensures.0, c.in_err-first.was), tt)

pub overflow_mul-bits : goal.overflow_mul-bits
overflow_mul-bits c =
    let h = rw c.in_ok-first.was at c.byte.ensures.1 in omega arith

pub loop-value-init : goal.loop-value-init
unfolding bytes_at
loop-value-init c =
    let s = c.args.s.now in
    let h = rw c.in_ok-first.was at c.byte.ensures.1 in
    let n : length s + 1 - 1 ≡ length s = omega arith in (
      rw (← c.skip.ensures.0, ← c.byte.ensures.0, c.in_ok-first.was, n) (run-start s _ _ h.2),
      omega arith,
      omega arith,
      omega arith,
      omega arith,
      omega arith,
    )

pub overflow_mul-bits-in-Some : goal.overflow_mul-bits-in-Some
overflow_mul-bits-in-Some c =
    let h = rw c.in-Some.is at c.byte-in-loop-value.ensures.1 in
    let r = room-more c.loop-value.bits c.loop-value.weight c.in-Some.value h.2 c.loop-value.invariant.5 in
    omega arith

pub overflow_add-bits : goal.overflow_add-bits
overflow_add-bits c =
    let h = rw c.in-Some.is at c.byte-in-loop-value.ensures.1 in
    let r = room-more c.loop-value.bits c.loop-value.weight c.in-Some.value h.2 c.loop-value.invariant.5 in
    omega arith

pub loop-value-smaller : goal.loop-value-smaller
loop-value-smaller c =
    let h = rw c.in-Some.is at c.byte-in-loop-value.ensures.1 in omega arith

pub loop-value-preserved : goal.loop-value-preserved
loop-value-preserved c =
    let l = c.loop-value in
    let s = c.args.s.now in
    let h = rw c.in-Some.is at c.byte-in-loop-value.ensures.1 in (
      rw (
        l.invariant.0,
        ← c.join.ensures.0,
        ← c.byte-in-loop-value.ensures.0,
        c.in-Some.is,
        run-fuel (length s) l.len (omega arith),
        c.plus-joined.ensures,
        c.skip-in-Some.ensures.0,
      ) (run_more _ _ _ _ _ s l.end _ _),
      omega arith,
      omega arith,
      omega arith,
      omega arith,
      room-more l.bits l.weight c.in-Some.value h.2 l.invariant.5,
    )

pub returns-then-plus : goal.returns-then-plus
returns-then-plus c =
    let h : plus_at c.args.s.now c.loop-value.end ≡ true = rw
    c.skip-2.ensures.0 at (sym c.plus.ensures ∙ c.if-plus.true) in
    (rw (c.loop-value.invariant.0, ← c.join.ensures.0, ← c.byte-in-loop-value.ensures.0, c.in_default.is) (sym (run-wrong _ _ _ _ _ _ _ h)), tt)

pub returns : goal.returns
returns c =
    let h : plus_at c.args.s.now c.loop-value.end ≡ false = rw
    c.skip-2.ensures.0 at (sym c.plus.ensures ∙ c.if-plus.false) in
    (rw (c.loop-value.invariant.0, ← c.join.ensures.0, ← c.byte-in-loop-value.ensures.0, c.in_default.is) (sym (run-done _ _ _ _ _ _ _ h)), omega arith)
