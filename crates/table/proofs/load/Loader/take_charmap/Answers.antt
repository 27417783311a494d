use Rattle.table.proofs.HeaderSteps.{charmap-absent, charmap-broken, charmap-taken}
use Rattle.table.proofs.LineSteps.{refused-taken}
use Rattle.table.specs.declared.load.Refusal.TheVariants.{KeyAbsent, StatesBroken}
use Rattle.table.specs.Numbers.{lowest, charmap_conditions}
use Rattle.table.specs.Limits.{limits}
use Rattle.table.specs.loops.Progress.{keys_in}
use mathlib.Core.Path.{sym, ◌∙◌}
use Rattle.table.proofs.load.Loader.take_charmap.Goals as goal

pub returns-then-lacks_key-clause-taken : goal.returns-then-lacks_key-clause-taken
returns-then-lacks_key-clause-taken c =
    let h = c.args.self.now.head in
    λ rows held. refused-taken limits (lowest (charmap_conditions (keys_in h) rows)) _ KeyAbsent _ _ _ _
    (charmap-absent h rows held.rows-count (sym c.lacks_key.ensures ∙ c.if-lacks_key.true))

pub returns-then-not-keeps_states-clause-taken : goal.returns-then-not-keeps_states-clause-taken
returns-then-not-keeps_states-clause-taken c =
    let h = c.args.self.now.head in
    let s = c.args.self.now in
    λ rows held. refused-taken limits (lowest (charmap_conditions (keys_in h) rows)) _ StatesBroken _ _ _ _
    (charmap-broken limits h _ rows _ _ s.codes.now s.infos.now s.order.now
    held.rows-count (sym c.lacks_key.ensures ∙ c.if-lacks_key.false)
    (c.default_row-self.ensures.row rows s.codes.now s.infos.now s.order.now held) c.keeps_states.ensures
    c.if-not-keeps_states.true)

pub returns-clause-taken : goal.returns-clause-taken
returns-clause-taken c =
    let h = c.args.self.now.head in
    let s = c.args.self.now in
    λ rows held. charmap-taken limits h _ rows _ _ s.codes.now s.infos.now s.order.now
    held.rows-count (sym c.lacks_key.ensures ∙ c.if-lacks_key.false)
    (c.default_row-self.ensures.row rows s.codes.now s.infos.now s.order.now held) c.keeps_states.ensures
    _ c.requires.header.none-yet c.if-not-keeps_states.false
