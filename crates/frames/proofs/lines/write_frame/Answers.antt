use Rattle.std.proofs.Common.{◌≡◌, ◌+◌, ◌*◌, get_or, sym, ◌∙◌, arith}
use Rattle.table.specs.Text.{digit_of}
use Rattle.frames.proofs.Frame.{frame-stored, frame-done, digit_at}
use Rattle.frames.proofs.lines.write_frame.Goals as goal

pub overflow_cast-out : goal.overflow_cast-out
overflow_cast-out c =
    let i = 2 * c.loop-i.i in
    let s = c.args.line.now in
    let h : digit_of (get_or s i 0) ≡ 16 → ⊥ = digit_at s i c.requires.2 (omega arith) in
    let k : digit_of (get_or s (i + 1) 0) ≡ 16 → ⊥ = digit_at s (i + 1) c.requires.2 (omega arith) in
    omega arith

pub loop-i-preserved : goal.loop-i-preserved
loop-i-preserved c =
    let l = c.loop-i in
    let next : 2 * (l.i + 1) ≡ 2 * l.i + 2 = omega arith in
    rw (c.digit-high.ensures.0, c.digit-low.ensures.0, next)
    (sym (frame-stored l.out c.args.line.now l.i (2 * l.i) (omega arith)) ∙ l.invariant)

pub returns : goal.returns
returns c =
    let l = c.loop-i in
    sym (frame-done l.out c.args.line.now l.i (2 * l.i) (omega arith)) ∙ l.invariant
