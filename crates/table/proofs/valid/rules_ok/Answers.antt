-- The rules in the order of the code (line-formed).
use Rattle.table.proofs.LineLaws.{line-unformed, line-formed, t5-rank-4, t5-rank-other}
use Rattle.table.proofs.StoredLine.{ok-rank}
use Rattle.table.specs.States.{step_at}
use Rattle.table.specs.Stored.{mk}
use mathlib.Core.Path.{sym, ◌∙◌}
use Rattle.table.proofs.valid.rules_ok.Goals as goal

pub returns-then-not-stored_ok : goal.returns-then-not-stored_ok
returns-then-not-stored_ok c =
    let a = c.args in
    sym (line-unformed (step_at a.steps.now) a.rec (mk a.bits a.info) (sym c.stored_ok.ensures ∙ c.if-not-stored_ok.true))

pub returns-then-not-keeps_t6 : goal.returns-then-not-keeps_t6
returns-then-not-keeps_t6 c =
    let a = c.args in
    let ok = sym c.stored_ok.ensures ∙ c.if-not-stored_ok.false in
    rw (line-formed (step_at a.steps.now) a.rec (mk a.bits a.info) ok, sym c.keeps_t6.ensures ∙ c.if-not-keeps_t6.true)

pub returns-then-not-keeps_t7_t8 : goal.returns-then-not-keeps_t7_t8
returns-then-not-keeps_t7_t8 c =
    let a = c.args in
    let ok = sym c.stored_ok.ensures ∙ c.if-not-stored_ok.false in
    rw (
      line-formed (step_at a.steps.now) a.rec (mk a.bits a.info) ok,
      sym c.keeps_t6.ensures
          ∙ c.if-not-keeps_t6.false,
      sym c.keeps_t7_t8.ensures ∙ c.if-not-keeps_t7_t8.true,
    )

pub returns-then-info-eq4 : goal.returns-then-info-eq4
returns-then-info-eq4 c =
    let a = c.args in
    let ok = sym c.stored_ok.ensures ∙ c.if-not-stored_ok.false in
    rw (
      line-formed (step_at a.steps.now) a.rec (mk a.bits a.info) ok,
      sym c.keeps_t6.ensures
          ∙ c.if-not-keeps_t6.false,
      sym c.keeps_t7_t8.ensures
          ∙ c.if-not-keeps_t7_t8.false,
      t5-rank-4 (mk a.bits a.info) (step_at a.steps.now) a.rec.min a.rec.max c.if-info-eq4.true,
    )

pub returns : goal.returns
returns c =
    let a = c.args in
    let ok = sym c.stored_ok.ensures ∙ c.if-not-stored_ok.false in
    c.keeps_t5.ensures
    ∙ sym (t5-rank-other (mk a.bits a.info) (step_at a.steps.now) a.rec.min a.rec.max
    (ok-rank (mk a.bits a.info) ok) c.if-info-eq4.false)
    ∙ rw (
      line-formed (step_at a.steps.now) a.rec (mk a.bits a.info) ok,
      sym c.keeps_t6.ensures
          ∙ c.if-not-keeps_t6.false,
      sym c.keeps_t7_t8.ensures ∙ c.if-not-keeps_t7_t8.false,
    )
