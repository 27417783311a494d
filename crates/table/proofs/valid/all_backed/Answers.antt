-- Invariant: the test of all stored mappings is that of those from k on behind the last one.
use Rattle.table.proofs.TestLoops.{any_line, lines-backed, lines_none, lines-void, lines_start, lines_more, lines-fall, lines_end}
use Rattle.table.specs.Memory.{stored_list}
use Rattle.table.specs.Stored.{mk}
use Rattle.table.specs.loops.Backed.{backed_by}
use mathlib.Core.Path.{refl, sym, ◌∙◌}
use native.Mathlib.Omega.{arith}
use Rattle.table.proofs.valid.all_backed.Goals as goal

pub returns-then-codes-eq0 : goal.returns-then-codes-eq0
returns-then-codes-eq0 c =
    let a = c.args in
    lines_none backed_by any_line a.codes.now a.infos.now c.if-codes-eq0.true ∙ lines-backed (stored_list a.codes.now a.infos.now)

pub returns-then-only_writes : goal.returns-then-only_writes
returns-then-only_writes c =
    let a = c.args in
    sym (lines-void backed_by any_line a.codes.now a.infos.now c.requires
    c.if-codes-eq0.false (sym c.only_writes.ensures ∙ c.if-only_writes.true))
    ∙ lines-backed (stored_list a.codes.now a.infos.now)

pub loop-k-init : goal.loop-k-init
loop-k-init c =
    let a = c.args in (
      lines_start backed_by any_line a.codes.now a.infos.now c.requires
          c.if-codes-eq0.false (sym c.only_writes.ensures ∙ c.if-only_writes.false) refl,
      omega arith,
    )

pub returns-then-not-backed_by : goal.returns-then-not-backed_by
returns-then-not-backed_by c =
    let a = c.args in
    let l = c.loop-k in
    sym (l.invariant.0 ∙ lines-fall backed_by any_line a.codes.now a.infos.now c.requires (mk l.c l.i) l.k
    c.loop-k-test.true
    (sym c.backed_by.ensures ∙ c.if-not-backed_by.true))
    ∙ lines-backed (stored_list a.codes.now a.infos.now)

pub loop-k-preserved : goal.loop-k-preserved
loop-k-preserved c =
    let a = c.args in
    let l = c.loop-k in (
      l.invariant.0 ∙ lines_more backed_by any_line a.codes.now a.infos.now c.requires (mk l.c l.i) l.k
          c.loop-k-test.true
          (sym c.backed_by.ensures ∙ c.if-not-backed_by.false) refl,
      omega arith,
    )

pub returns : goal.returns
returns c =
    let a = c.args in
    let l = c.loop-k in
    sym (l.invariant.0 ∙ lines_end backed_by any_line (mk l.c l.i) a.codes.now a.infos.now l.k c.loop-k-test.false)
    ∙ lines-backed (stored_list a.codes.now a.infos.now)
