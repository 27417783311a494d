use Rattle.std.proofs.Common.{◌≡◌, ◌+◌, ◌*◌, length, sym, ◌∙◌, arith, eqb-true}
use borrow.Author.Tests.{eqb-false}
use Rattle.frames.proofs.Hex.{hex-stored, hex-done, hex-none, hex-some, count_none, count-some}
use Rattle.frames.proofs.lines.write_hex.Goals as goal

pub bounds-out-at : goal.bounds-out-at
bounds-out-at c =
    let n = length c.args.bytes.now in
    omega (arith, count_none n (eqb-true n 0 (sym c.if-is_empty.ensures)))

pub returns-then-is_empty : goal.returns-then-is_empty
returns-then-is_empty c =
    let n = length c.args.bytes.now in
    let e = eqb-true n 0 (sym c.if-is_empty.ensures) in
    record { place = omega (arith, count_none n e); written = rw (hex-none c.args.bytes.now e) }

pub overflow_add-at : goal.overflow_add-at
overflow_add-at c =
    let n = length c.args.bytes.now in
    omega (arith, count-some n (eqb-false n 0 (sym c.if-is_empty.ensures)))

pub write_byte-requires : goal.write_byte-requires
write_byte-requires c =
    let n = length c.args.bytes.now in
    omega (arith, count-some n (eqb-false n 0 (sym c.if-is_empty.ensures)))

pub loop-i-preserved : goal.loop-i-preserved
loop-i-preserved c =
    let l = c.loop-i in
    let p = c.args.at + 2 * l.i in
    let next : c.args.at + 2 * (l.i + 1) ≡ p + 2 = omega arith in
    rw (c.write_byte.ensures, next) (sym (hex-stored l.out c.args.bytes.now p l.i (omega arith)) ∙ l.invariant)

pub overflow_add-result-2 : goal.overflow_add-result-2
overflow_add-result-2 c =
    let n = length c.args.bytes.now in
    omega (arith, count-some n (eqb-false n 0 (sym c.if-is_empty.ensures)))

pub returns : goal.returns
returns c =
    let l = c.loop-i in
    let s = c.args.bytes.now in
    let e = eqb-false (length s) 0 (sym c.if-is_empty.ensures) in
    record {
      place = omega (arith, count-some (length s) e);
      written = rw (hex-some s e) (sym (hex-done l.out s (c.args.at + 2 * l.i) l.i (omega arith)) ∙ l.invariant);
    }
