use Rattle.std.proofs.Common.{◌∙◌}
use Rattle.frames.specs.Stream.{partial_in, partial_of, kept_in}
use Rattle.frames.proofs.Steps.{hold-by}
use Rattle.frames.proofs.lines.hold.Goals as goal

pub returns-in_err-held : goal.returns-in_err-held
unfolding partial_in partial_of kept_in
returns-in_err-held c =
    record { count = c.from_residual.ensures ∙ rw c.in_err-held.was; memory = rw c.in_err-held.was }

pub returns : goal.returns
returns c =
    let a = c.args in
    let e = hold-by a.line.now a.part.now c.in_ok-held.field-0 in
    record { count = c.put_bytes.ensures.0 ∙ rw c.in_ok-held.was e.0; memory = c.put_bytes.ensures.1 ∙ rw c.in_ok-held.was e.1 }
