use Rattle.table.specs.Limits.{limits}
use Rattle.table.proofs.HeaderSteps.{not-n16}
use Rattle.lists.proofs.Cases.{pick_yes, pick_no}
use borrow.Author.Tests.{le-leb, lt-leb}
use lib.Dec.{leb}
use mathlib.Core.Path.{sym, ◌∙◌}
use Rattle.table.proofs.load.Loader.keeps_states.Goals as goal

pub returns-then-h : goal.returns-then-h
returns-then-h c =
    let l = c.args.self.now in
    λ rows codes infos order held. sym (not-n16 limits l.head rows l.states.now codes infos order held c.requires.long
    c.requires.head.1
    ∙ pick_no (leb l.head.min l.head.max) _ _ (lt-leb l.head.min l.head.max c.if-h.true))

pub returns-then-states_ok : goal.returns-then-states_ok
returns-then-states_ok c =
    let l = c.args.self.now in
    λ rows codes infos order held. sym (not-n16 limits l.head rows l.states.now codes infos order held c.requires.long
    c.requires.head.1
    ∙ pick_yes (leb l.head.min l.head.max) _ _ (le-leb l.head.min l.head.max c.if-h.false)
    ∙ pick_yes _ _ _ (sym c.states_ok.ensures ∙ c.if-states_ok.true)
    ∙ sym (rw c.record_of.ensures at c.keeps_t4.ensures))

pub returns-else-states_ok : goal.returns-else-states_ok
returns-else-states_ok c =
    let l = c.args.self.now in
    λ rows codes infos order held. sym (not-n16 limits l.head rows l.states.now codes infos order held c.requires.long
    c.requires.head.1
    ∙ pick_yes (leb l.head.min l.head.max) _ _ (le-leb l.head.min l.head.max c.if-h.false)
    ∙ pick_no _ _ _ (sym c.states_ok.ensures ∙ c.if-states_ok.false) ∙ sym c.if-states_ok.false)
