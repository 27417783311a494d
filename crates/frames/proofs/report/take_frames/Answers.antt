use Rattle.std.proofs.Common.{sym, ◌∙◌, arith}
use Rattle.table.specs.Held.{memory_of}
use Rattle.frames.specs.Stream.{partial_in}
use Rattle.frames.specs.Report.{convert_in, line_report}
use Rattle.frames.proofs.Turns.{report-start, ends, ends_more, ends-full, took-some, report-turn}
use Rattle.frames.proofs.report.take_frames.Goals as goal

pub loop-done-init : goal.loop-done-init
loop-done-init c =
    let a = c.args in
    let write = line_report (convert_in a.lent.rec (memory_of a.lent)) in
    let n = c.normalise.ensures in
    report-start write a.chunk.now a.from a.line.now a.out.now (partial_in a.line.now a.held) c.normalise.result n.count n.same_line

pub returns-in-More : goal.returns-in-More
returns-in-More c =
    let t = c.take_line.ensures in
    ends_more c.loop-done.invariant c.loop-done-test.true (sym c.in-More.is ∙ t.answer) t.memory

pub overflow_sub-result : goal.overflow_sub-result
overflow_sub-result c =
    let t = c.take_line.ensures in
    let p = took-some c.loop-done.invariant c.loop-done-test.true (sym c.in-Line.is ∙ t.answer) t.memory in
    omega arith

pub returns-in_default : goal.returns-in_default
returns-in_default c =
    let t = c.take_line.ensures in
    let r = c.report_held.ensures in
    ends-full c.loop-done.invariant c.loop-done-test.true (sym c.in-Line.is ∙ t.answer) t.memory (sym c.in_default.is ∙ r.0) r.1

pub loop-done-smaller : goal.loop-done-smaller
loop-done-smaller c =
    let t = c.take_line.ensures in
    let p = took-some c.loop-done.invariant c.loop-done-test.true (sym c.in-Line.is ∙ t.answer) t.memory in
    omega arith

pub loop-done-preserved : goal.loop-done-preserved
loop-done-preserved c =
    let t = c.take_line.ensures in
    let r = c.report_held.ensures in
    report-turn c.loop-done.invariant c.loop-done-test.true (sym c.in-Line.is ∙ t.answer) t.memory (sym c.in-Some.is ∙ r.0) r.1

pub returns : goal.returns
returns c =
    ends c.loop-done.invariant c.loop-done-test.false
