use Rattle.std.proofs.Common.{sym, ap, ◌∙◌}
use Rattle.frames.specs.Stream.{partial_in, partial_of}
use Rattle.frames.proofs.PartialLines.{partial-past, count-stands}
use Rattle.frames.proofs.report.normalise.Goals as goal

pub returns-in_err-held : goal.returns-in_err-held
unfolding partial_in partial_of
returns-in_err-held c =
    record { count = c.from_residual.ensures ∙ rw c.in_err-held.was; same_line = rw (c.in_err-held.was, c.from_residual.ensures) }

pub returns-then-branch : goal.returns-then-branch
unfolding partial_in partial_of
returns-then-branch c =
    let line = c.args.line.now in
    let e = ap (partial_in line) c.in_ok-held.was ∙ partial-past line c.in_ok-held.field-0 c.if-branch.true in
    record { count = sym (ap partial_of e); same_line = sym e }

pub returns-clause-count : goal.returns-clause-count
returns-clause-count c =
    rw c.in_ok-held.was (count-stands c.args.line.now c.in_ok-held.field-0 c.if-branch.false)
