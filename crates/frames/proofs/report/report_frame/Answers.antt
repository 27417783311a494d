use Rattle.std.proofs.Common.{false, length, ap}
use Rattle.utf.specs.declared.scheme.Scheme.TheVariants.{Utf8}
use Rattle.table.specs.Limits.{limits}
use Rattle.table.specs.Held.{memory_of}
use Rattle.convert.specs.Step.{substituting}
use Rattle.convert.specs.Convert.{to_tested}
use Rattle.frames.specs.Report.{convert_in}
use Rattle.frames.proofs.Answers.{answer_line-≡, put_into-≡}
use Rattle.frames.proofs.report.report_frame.Goals as goal

pub returns : goal.returns
unfolding convert_in
returns c =
    let a = c.args in
    let n = c.number in
    let run = to_tested Utf8 limits a.lent.rec
    (memory_of a.lent) (substituting false)
    a.frame.now in
    let r = answer_line-≡ (run (length a.text.now)) a.text.now c.to_unicode-done.new.out c.to_unicode-done.result
    c.to_unicode-done.ensures.answer c.to_unicode-done.ensures.written (run 16384) (ap run c.requires) n.result n.ensures in
    put_into-≡ a.out.now a.at r c.put_answer.result c.put_answer.new.out c.put_answer.ensures
