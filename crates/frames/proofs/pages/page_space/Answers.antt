use Rattle.std.proofs.Common.{◌∙◌}
use Rattle.frames.proofs.OnePage.{space-min}
use Rattle.frames.proofs.pages.page_space.Goals as goal

pub returns-clause-space : goal.returns-clause-space
returns-clause-space c =
    c.min.ensures ∙ space-min c.args.room
