use mathlib.Core.Path.{sym, ◌∙◌}
use borrow.Author.Tests.{ne_eqb}
use Rattle.table.proofs.TextLaws.{same_lengths}
use Rattle.table.proofs.value.same.Goals as goal

pub returns-else-text-name : goal.returns-else-text-name
returns-else-text-name c =
    ne_eqb _ _ c.if-text-name.false ∙ sym (same_lengths _ _ c.if-text-name.false)
