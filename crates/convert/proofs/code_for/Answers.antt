-- By what the code point is written as.
use mathlib.Core.Path.{sym, ap, ◌∙◌}
use Rattle.table.specs.Held.{byte_given}
use Rattle.convert.proofs.Choices.{sends-byte}
use Rattle.convert.proofs.code_for.Goals as goal

pub returns-in-Some : goal.returns-in-Some
returns-in-Some c =
    let a = c.args in
    c.substitute_code-in-Some.ensures
    ∙ sends-byte a.table.now a.settings.substitute a.n a.written c.in-Subchar1.is c.in-Some.byte c.on_top-one.result
    (ap byte_given (sym c.in-Some.is) ∙ c.subchar1.ensures) c.on_top-one.ensures.0
