use Rattle.frames.specs.Lines.{closing_line}
use Rattle.frames.proofs.lines.put_closing.Goals as goal

pub returns : goal.returns
unfolding closing_line
returns c =
    c.put_two.ensures
