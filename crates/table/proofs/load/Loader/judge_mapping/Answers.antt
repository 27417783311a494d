use Rattle.table.specs.Limits.{limits, needed}
use Rattle.table.proofs.MappingSteps.{own_verdict-20, own_verdict-23-none, own_verdict-23-long, own_verdict-23-other, own_verdict-subchar1, own_verdict-21-long, own_verdict-21, own_verdict-only-read, own_verdict-one-byte, own_verdict-22, own_verdict-fine}
use Rattle.table.specs.States.{step_at}
use lib.ListN.{take}
use mathlib.Core.Path.{sym, ◌∙◌}
use Rattle.table.proofs.load.Loader.judge_mapping.Goals.{else-d-ne3-via-then-d-ne3+then-len-ne1-2+else-bits-eq0, else-d-ne3-via-then-d-ne3+else-len-ne1-2, else-d-ne3-via-else-d-ne3}
use Rattle.table.proofs.load.Loader.judge_mapping.Goals as goal

pub returns-then-not-keeps_t6-clause-answer : goal.returns-then-not-keeps_t6-clause-answer
returns-then-not-keeps_t6-clause-answer c =
    let a = c.args in
    λ l b e f. own_verdict-20 (step_at (take (needed limits) a.self.now.states.now)) a.self.now.head a.u a.d l a.bits
    a.len b e f (sym c.keeps_t6.ensures ∙ c.if-not-keeps_t6.true)

pub returns-then-self-eq0-clause-answer : goal.returns-then-self-eq0-clause-answer
returns-then-self-eq0-clause-answer c =
    let a = c.args in
    λ l b e f. own_verdict-23-none (step_at (take (needed limits) a.self.now.states.now)) a.self.now.head a.u a.d l a.bits
    a.len b e f (sym c.keeps_t6.ensures ∙ c.if-not-keeps_t6.false) c.if-d-eq2.true c.if-self-eq0.true

pub returns-then-len-ne1-clause-answer : goal.returns-then-len-ne1-clause-answer
returns-then-len-ne1-clause-answer c =
    let a = c.args in
    λ l b e f. own_verdict-23-long (step_at (take (needed limits) a.self.now.states.now)) a.self.now.head a.u a.d l a.bits
    a.len b e f (sym c.keeps_t6.ensures ∙ c.if-not-keeps_t6.false) c.if-d-eq2.true c.if-self-eq0.false c.if-len-ne1.true

pub returns-then-bits-self-clause-answer : goal.returns-then-bits-self-clause-answer
returns-then-bits-self-clause-answer c =
    let a = c.args in
    λ l b e f. own_verdict-23-other (step_at (take (needed limits) a.self.now.states.now)) a.self.now.head a.u a.d l a.bits
    a.len b e f (sym c.keeps_t6.ensures ∙ c.if-not-keeps_t6.false) c.if-d-eq2.true c.if-self-eq0.false c.if-len-ne1.false c.if-bits-self.true

pub returns-then-d-eq2-clause-answer : goal.returns-then-d-eq2-clause-answer
returns-then-d-eq2-clause-answer c =
    let a = c.args in
    λ l b e f. own_verdict-subchar1 (step_at (take (needed limits) a.self.now.states.now)) a.self.now.head a.u a.d l a.bits
    a.len b e f (sym c.keeps_t6.ensures ∙ c.if-not-keeps_t6.false) c.if-d-eq2.true c.if-self-eq0.false c.if-len-ne1.false c.if-bits-self.false

pub returns-then-len-gt4-clause-answer : goal.returns-then-len-gt4-clause-answer
returns-then-len-gt4-clause-answer c =
    let a = c.args in
    λ l b e f. own_verdict-21-long (step_at (take (needed limits) a.self.now.states.now)) a.self.now.head a.u a.d l a.bits
    a.len b e f (sym c.keeps_t6.ensures ∙ c.if-not-keeps_t6.false) c.requires.3 c.if-d-eq2.false c.requires.0 c.if-len-gt4.true

pub returns-then-not-keeps_t5-clause-answer : goal.returns-then-not-keeps_t5-clause-answer
returns-then-not-keeps_t5-clause-answer c =
    let a = c.args in
    λ l b e f. own_verdict-21 (step_at (take (needed limits) a.self.now.states.now)) a.self.now.head a.u a.d l a.bits
    a.len b e f (sym c.keeps_t6.ensures ∙ c.if-not-keeps_t6.false) c.requires.3 c.if-d-eq2.false c.if-len-gt4.false _ c.keeps_t5.ensures c.if-not-keeps_t5.true

pub returns-then-bits-eq0-clause-answer : goal.returns-then-bits-eq0-clause-answer
returns-then-bits-eq0-clause-answer c =
    let a = c.args in
    λ l b e f. own_verdict-22 (step_at (take (needed limits) a.self.now.states.now)) a.self.now.head a.u a.d l a.bits
    a.len b e f (sym c.keeps_t6.ensures ∙ c.if-not-keeps_t6.false) c.requires.3 c.if-d-eq2.false c.if-len-gt4.false _ c.keeps_t5.ensures c.if-not-keeps_t5.false c.if-d-ne3.true c.requires.2 c.if-len-ne1-2.true c.if-bits-eq0.true

pub returns-clause-answer : goal.returns-clause-answer
returns-clause-answer c =
    let a = c.args in
    let t = sym c.keeps_t6.ensures ∙ c.if-not-keeps_t6.false in
    λ l b e f. elim c.else-d-ne3.branch [
      | else-d-ne3-via-then-d-ne3+then-len-ne1-2+else-bits-eq0 w ↦
          own_verdict-fine (step_at (take (needed limits) a.self.now.states.now)) a.self.now.head a.u a.d l a.bits a.len b e f t
          c.requires.3 c.if-d-eq2.false c.if-len-gt4.false _ c.keeps_t5.ensures c.if-not-keeps_t5.false
          w.if-d-ne3.true c.requires.2 w.if-len-ne1-2.true w.if-bits-eq0.false
      | else-d-ne3-via-then-d-ne3+else-len-ne1-2 w ↦
          own_verdict-one-byte (step_at (take (needed limits) a.self.now.states.now)) a.self.now.head a.u a.d l a.bits a.len b e f t
          c.requires.3 c.if-d-eq2.false c.if-len-gt4.false _ c.keeps_t5.ensures c.if-not-keeps_t5.false
          w.if-len-ne1-2.false
      | else-d-ne3-via-else-d-ne3 w ↦
          own_verdict-only-read (step_at (take (needed limits) a.self.now.states.now)) a.self.now.head a.u a.d l a.bits a.len b e f t
          c.requires.3 c.if-d-eq2.false c.if-len-gt4.false _ c.keeps_t5.ensures c.if-not-keeps_t5.false
          w.if-d-ne3.false
    ]
