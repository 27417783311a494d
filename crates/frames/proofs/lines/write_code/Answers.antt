use Rattle.std.proofs.Common.{◌≡◌, ◌+◌, ◌-◌, ◌*◌, sym, ◌∙◌, arith}
use Rattle.table.specs.Codes.{unpacked}
use Rattle.table.proofs.Packing.{length-unpacked}
use Rattle.frames.proofs.Hex.{code-stored, code-done, hex-none, hex-some, count_none, count-some}
use Rattle.frames.proofs.lines.write_code.Goals as goal

pub bounds-out-at : goal.bounds-out-at
bounds-out-at c =
    omega (arith, count_none c.args.len c.if-len-eq0.true)

pub returns-then-len-eq0 : goal.returns-then-len-eq0
returns-then-len-eq0 c =
    let a = c.args in
    let e = c.if-len-eq0.true in
    record {
      place = omega (arith, count_none a.len e);
      written = rw (hex-none (unpacked a.len a.bits) (length-unpacked a.len a.bits ∙ e));
    }

pub overflow_mul-i : goal.overflow_mul-i
overflow_mul-i c =
    omega (arith, count-some c.args.len c.if-len-eq0.false)

pub overflow_add-at : goal.overflow_add-at
overflow_add-at c =
    omega (arith, count-some c.args.len c.if-len-eq0.false)

pub write_byte-requires : goal.write_byte-requires
write_byte-requires c =
    omega (arith, count-some c.args.len c.if-len-eq0.false)

pub loop-i-preserved : goal.loop-i-preserved
loop-i-preserved c =
    let l = c.loop-i in
    let p = c.args.at + 2 * l.i in
    let next : c.args.at + 2 * (l.i + 1) ≡ p + 2 = omega arith in
    let left : c.args.len - (l.i + 1) ≡ c.args.len - l.i - 1 = omega arith in (
      rw (c.write_byte.ensures, next, left) (sym (code-stored l.out p (c.args.len - l.i) l.rest (omega arith)) ∙ l.invariant.0),
      omega arith,
    )

pub overflow_mul-result : goal.overflow_mul-result
overflow_mul-result c =
    omega (arith, count-some c.args.len c.if-len-eq0.false)

pub overflow_add-result-2 : goal.overflow_add-result-2
overflow_add-result-2 c =
    omega (arith, count-some c.args.len c.if-len-eq0.false)

pub returns : goal.returns
returns c =
    let l = c.loop-i in
    let a = c.args in
    let e = c.if-len-eq0.false in
    record {
      place = omega (arith, count-some a.len e);
      written = rw (hex-some (unpacked a.len a.bits) (λ n. e (sym (length-unpacked a.len a.bits) ∙ n)))
          (sym (code-done l.out (a.at + 2 * l.i) (a.len - l.i) l.rest (omega arith)) ∙ l.invariant.0);
    }
