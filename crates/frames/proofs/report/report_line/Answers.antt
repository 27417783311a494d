use Rattle.std.proofs.Common.{◌≤◌, length, sym, ap, ◌∙◌, length-take-le, arith}
use Rattle.table.specs.Held.{memory_of}
use Rattle.frames.specs.Report.{convert_in, frame_line}
use Rattle.frames.proofs.Answers.{Some⇒parsed, None⇒parsed, put_into-≡}
use Rattle.frames.proofs.report.report_line.Goals as goal

pub shared_ref_as_front-report_frame : goal.shared_ref_as_front-report_frame
shared_ref_as_front-report_frame c =
    let a = c.args in
    let p = c.parse_frame in
    let room : 4096 ≤ length a.space.now.frame = omega arith in
    let r = Some⇒parsed a.space.now.frame room a.line.now p.new.out c.in-Some.n p.ensures.written (sym c.in-Some.is ∙ p.ensures.answer) in
    omega (arith, r.1)

pub slice_bounds-report_frame-end : goal.slice_bounds-report_frame-end
slice_bounds-report_frame-end c =
    let a = c.args in
    let p = c.parse_frame in
    let room : 4096 ≤ length a.space.now.frame = omega arith in
    let r = Some⇒parsed a.space.now.frame room a.line.now p.new.out c.in-Some.n p.ensures.written (sym c.in-Some.is ∙ p.ensures.answer) in
    sym (length-take-le c.in-Some.n p.new.out r.1)

pub returns-in-Some : goal.returns-in-Some
returns-in-Some c =
    let a = c.args in
    let p = c.parse_frame in
    let room : 4096 ≤ length a.space.now.frame = omega arith in
    let r = Some⇒parsed a.space.now.frame room a.line.now p.new.out c.in-Some.n p.ensures.written (sym c.in-Some.is ∙ p.ensures.answer) in
    let e = ap (frame_line (convert_in a.lent.rec (memory_of a.lent))) r.0 in
    put_into-≡ a.out.now a.at e c.report_frame.result c.report_frame.new.out c.report_frame.ensures

pub returns-in-None : goal.returns-in-None
returns-in-None c =
    let a = c.args in
    let p = c.parse_frame in
    let room : 4096 ≤ length a.space.now.frame = omega arith in
    let e = ap (frame_line (convert_in a.lent.rec (memory_of a.lent)))
    (sym (None⇒parsed a.space.now.frame room a.line.now (sym c.in-None.is ∙ p.ensures.answer))) in
    put_into-≡ a.out.now a.at e c.put_fixed.result c.put_fixed.new.out c.put_fixed.ensures
