use mathlib.Core.Path.{refl, sym, ◌∙◌}
use Rattle.table.specs.Limits.{limits}
use Rattle.table.specs.Slices.{slices}
use Rattle.table.specs.Load.{untouched, read, load_of, given}
use Rattle.table.specs.declared.load.Refusal.TheVariants.{MemoryTooSmall, TextTooLong}
use Rattle.table.proofs.RunSteps.{long-enough, given-small, given-long, given-read}
use Rattle.table.proofs.GivenText.{promised}
use Rattle.table.proofs.load.load.Goals as goal

pub load-requires-clause-lent : goal.load-requires-clause-lent
load-requires-clause-lent c =
    let a = c.args in
    long-enough limits (slices a.states.now a.codes.now a.infos.now a.order.now)
    (sym c.too_small.ensures ∙ c.if-too_small.false)

pub returns-then-too_small : goal.returns-then-too_small
returns-then-too_small c =
    let a = c.args in
    let m = slices a.states.now a.codes.now a.infos.now a.order.now in
    let p = promised limits (given limits a.text.now m) (untouched MemoryTooSmall) m m _
    (given-small limits a.text.now _ (sym c.too_small.ensures ∙ c.if-too_small.true)) refl refl in
    record { answer = p.0; number = p.1; memory = p.2 }

pub returns-then-text-gt-TEXT : goal.returns-then-text-gt-TEXT
returns-then-text-gt-TEXT c =
    let a = c.args in
    let m = slices a.states.now a.codes.now a.infos.now a.order.now in
    let p = promised limits (given limits a.text.now m) (untouched TextTooLong) m m _
    (given-long limits a.text.now _ (sym c.too_small.ensures ∙ c.if-too_small.false) c.if-text-gt-TEXT.true)
    refl refl in
    record { answer = p.0; number = p.1; memory = p.2 }

pub returns : goal.returns
returns c =
    let a = c.args in
    let m = slices a.states.now a.codes.now a.infos.now a.order.now in
    let p = promised limits (given limits a.text.now m) (read (load_of limits a.text.now)) m _ _
    (given-read limits a.text.now _ (sym c.too_small.ensures ∙ c.if-too_small.false) c.if-text-gt-TEXT.false)
    c.load.ensures.answer ((λ j. slices
    (c.states-1.given.1.1 (sym c.load.ensures.same.0) j) (c.codes-1.given.1.1 (sym c.load.ensures.same.1) j)
    (c.infos-1.given.1.1 (sym c.load.ensures.same.2) j) (c.order-1.given.1.1 (sym c.load.ensures.same.3) j))
    ∙ c.load.ensures.left) in
    record { answer = p.0; number = p.1; memory = p.2 }
