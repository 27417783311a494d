use Rattle.std.proofs.Common.{sym, ap, ◌∙◌}
use Rattle.table.specs.Held.{memory_of}
use Rattle.frames.specs.Stream.{partial_in}
use Rattle.frames.specs.Report.{convert_in, line_report}
use Rattle.frames.proofs.Answers.{put_into-≡}
use Rattle.frames.proofs.PartialLines.{partial-past, partial-whole}
use Rattle.frames.proofs.report.report_held.Goals as goal

pub returns-in_default : goal.returns-in_default
unfolding line_report partial_in
returns-in_default c =
    let a = c.args in
    let write = line_report (convert_in a.lent.rec (memory_of a.lent)) in
    let e = ap (λ h. write (partial_in a.line.now h)) c.in_default.is in
    put_into-≡ a.out.now a.at (sym e) c.put_fixed.result c.put_fixed.new.out c.put_fixed.ensures

pub returns-then-line-len : goal.returns-then-line-len
unfolding line_report
returns-then-line-len c =
    let a = c.args in
    let write = line_report (convert_in a.lent.rec (memory_of a.lent)) in
    let e = ap (λ h. write (partial_in a.line.now h)) c.in-Some.is ∙ ap write (partial-past a.line.now c.in-Some.len c.if-line-len.true) in
    put_into-≡ a.out.now a.at (sym e) c.put_fixed-then-line-len.result c.put_fixed-then-line-len.new.out c.put_fixed-then-line-len.ensures

pub returns : goal.returns
unfolding line_report
returns c =
    let a = c.args in
    let write = line_report (convert_in a.lent.rec (memory_of a.lent)) in
    let e = ap (λ h. write (partial_in a.line.now h)) c.in-Some.is ∙ ap write (partial-whole a.line.now c.in-Some.len c.if-line-len.false) in
    put_into-≡ a.out.now a.at (sym e) c.report_line.result c.report_line.new.out c.report_line.ensures
