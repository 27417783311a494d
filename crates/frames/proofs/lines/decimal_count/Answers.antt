use Rattle.std.proofs.Common.{sym}
use Rattle.frames.specs.Lines.{more_digits, decimal_count}
use Rattle.frames.proofs.Digits.{count-power}
use Rattle.frames.proofs.lines.decimal_count.Goals as goal

pub returns-in-Some-clause-count : goal.returns-in-Some-clause-count
returns-in-Some-clause-count c =
    let e = c.in-Some.ensures in
    sym (count-power c.in-Some.power c.args.n e.power_le e.next_power_gt)

pub returns-in-None-clause-count : goal.returns-in-None-clause-count
unfolding more_digits decimal_count
returns-in-None-clause-count c =
    rw c.in-None.ensures.none
