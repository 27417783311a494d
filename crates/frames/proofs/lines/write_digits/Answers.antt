use Rattle.std.proofs.Common.{sym, ◌∙◌, arith}
use Rattle.frames.proofs.Digits.{digit-stored, digits-done}
use Rattle.frames.proofs.lines.write_digits.Goals as goal

pub loop-i-preserved : goal.loop-i-preserved
loop-i-preserved c =
    let l = c.loop-i in
    rw c.last_digit.ensures (sym (digit-stored l.out c.args.at l.i l.rest (omega arith)) ∙ l.invariant)

pub returns : goal.returns
returns c =
    let l = c.loop-i in
    sym (digits-done l.out c.args.at l.i l.rest (omega arith)) ∙ l.invariant
