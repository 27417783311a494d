use Rattle.frames.proofs.Answers.{counted-put}
use Rattle.frames.proofs.pages.report_closing.Goals as goal

pub returns : goal.returns
returns c =
    let a = c.args in
    let p = c.put_closing-put in
    let r = counted-put a.out.now _ c.count_put.result p.result p.new.out c.count_put.ensures p.ensures in
    record { report = r.0; put_in_bounds = r.1 }
