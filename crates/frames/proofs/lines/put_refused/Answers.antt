use Rattle.frames.specs.Lines.{refused_line}
use Rattle.frames.proofs.lines.put_refused.Goals as goal

pub returns : goal.returns
unfolding refused_line
returns c =
    c.put_two.ensures
