use mathlib.Core.Path.{◌∙◌, sym, ap}
use Rattle.std.specs.Option.{is_some}
use Rattle.lists.proofs.Laws.{tests}
use Rattle.table.specs.Meaning.{steps_of}
use Rattle.audit.proofs.Tests.{position-unpadded, position-code}
use Rattle.audit.specs.Audit.{is_position}
use Rattle.audit.proofs.is_position.Goals as goal

pub returns-then-pos-eq0 : goal.returns-then-pos-eq0
unfolding is_position
returns-then-pos-eq0 c =
    search tests

pub returns-then-not-is_padded : goal.returns-then-not-is_padded
returns-then-not-is_padded c =
    position-unpadded (steps_of c.args.table.now) c.args.pos
    c.if-pos-eq0.false (sym c.is_padded.ensures ∙ c.if-not-is_padded.true)

pub returns : goal.returns
returns c =
    c.is_some.ensures ∙ ap is_some c.end_kind.ensures ∙ position-code (steps_of c.args.table.now) c.args.pos
    c.if-pos-eq0.false
    (sym c.is_padded.ensures ∙ c.if-not-is_padded.false)
