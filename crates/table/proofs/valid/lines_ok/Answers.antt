-- Invariant: the test of all stored mappings is that of those from k on behind the last one.
use Rattle.table.proofs.TestLoops.{lines_none, lines-void, lines-out, lines_start, lines_more, lines-fall, lines-break, lines_end}
use Rattle.table.specs.Valid.{line_ok}
use Rattle.table.specs.States.{step_at}
use Rattle.table.specs.Stored.{mk}
use Rattle.table.specs.loops.Backed.{line_next}
use mathlib.Core.Path.{sym, ◌∙◌}
use native.Mathlib.Omega.{arith}
use Rattle.table.proofs.valid.lines_ok.Goals as goal

pub returns-then-codes-eq0 : goal.returns-then-codes-eq0
returns-then-codes-eq0 c =
    let a = c.args in
    lines_none line_next (line_ok (step_at a.steps.now) a.rec) a.codes.now a.infos.now c.if-codes-eq0.true

pub returns-then-only_writes : goal.returns-then-only_writes
returns-then-only_writes c =
    let a = c.args in
    sym (lines-void line_next (line_ok (step_at a.steps.now) a.rec) a.codes.now a.infos.now
    c.requires c.if-codes-eq0.false
    (sym c.only_writes.ensures ∙ c.if-only_writes.true))

pub returns-then-not-rules_ok : goal.returns-then-not-rules_ok
returns-then-not-rules_ok c =
    let a = c.args in
    sym (lines-out line_next (line_ok (step_at a.steps.now) a.rec) a.codes.now a.infos.now
    c.requires c.if-codes-eq0.false
    (sym c.rules_ok.ensures ∙ c.if-not-rules_ok.true))

pub loop-k-init : goal.loop-k-init
loop-k-init c =
    let a = c.args in (
      lines_start line_next (line_ok (step_at a.steps.now) a.rec) a.codes.now a.infos.now c.requires
          c.if-codes-eq0.false (sym c.only_writes.ensures ∙ c.if-only_writes.false)
          (sym c.rules_ok.ensures ∙ c.if-not-rules_ok.false),
      omega arith,
    )

pub returns-then-not-line_next : goal.returns-then-not-line_next
returns-then-not-line_next c =
    let a = c.args in
    let l = c.loop-k in
    sym (l.invariant.0 ∙ lines-fall line_next (line_ok (step_at a.steps.now) a.rec) a.codes.now a.infos.now
    c.requires (mk l.c l.i) l.k c.loop-k-test.true
    (sym c.line_next.ensures ∙ c.if-not-line_next.true))

pub returns-then-not-line_ok : goal.returns-then-not-line_ok
returns-then-not-line_ok c =
    let a = c.args in
    let l = c.loop-k in
    sym (l.invariant.0 ∙ lines-break line_next (line_ok (step_at a.steps.now) a.rec) a.codes.now a.infos.now
    c.requires (mk l.c l.i) l.k c.loop-k-test.true
    (sym c.line_ok.ensures ∙ c.if-not-line_ok.true))

pub loop-k-preserved : goal.loop-k-preserved
loop-k-preserved c =
    let a = c.args in
    let l = c.loop-k in (
      l.invariant.0 ∙ lines_more line_next (line_ok (step_at a.steps.now) a.rec) a.codes.now a.infos.now
          c.requires (mk l.c l.i) l.k c.loop-k-test.true
          (sym c.line_next.ensures ∙ c.if-not-line_next.false)
          (sym c.line_ok.ensures ∙ c.if-not-line_ok.false),
      omega arith,
    )

pub returns : goal.returns
returns c =
    let a = c.args in
    let l = c.loop-k in
    sym (l.invariant.0 ∙ lines_end line_next (line_ok (step_at a.steps.now) a.rec) (mk l.c l.i) a.codes.now a.infos.now l.k c.loop-k-test.false)
