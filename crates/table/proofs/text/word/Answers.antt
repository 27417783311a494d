use Rattle.table.proofs.TextLaws.{front, starts-begins}
use Rattle.table.proofs.text.word.Goals as goal
use mathlib.Core.Path.{refl, ◌∙◌}

pub returns : goal.returns
returns c =
    let f = front c.args.s.now _ c.args.at refl in
    c.starts_with.ensures.value ∙ rw (f.rest) (starts-begins _ _)
