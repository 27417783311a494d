use Rattle.std.proofs.Common.{ℕ, ap, ◌∙◌}
use Rattle.frames.specs.Lines.{refused_line, Puts}
use Rattle.frames.specs.Report.{table_line}
use Rattle.frames.proofs.Answers.{put_into-≡, counted-put, accepted-line, refused-line}
use Rattle.frames.proofs.report.report_table.Goals as goal
use Rattle.frames.proofs.report.report_table.Goals.{in-Ok, in-Err}

pub returns : goal.returns
returns c =
    let l = c.args.loaded in
    let out = c.args.out.now in
    let m = c.match-loaded in
    let puts : Puts out 0 (table_line l) m.put m.out =
    elim m.branch [
      | in-Ok w ↦ put_into-≡ out 0 (accepted-line l w.in-Ok.held w.in-Ok.is) m.put m.out
          (w.put-is ∙ w.put_ok-put.ensures.0, w.out-is ∙ w.put_ok-put.ensures.1)
      | in-Err w ↦ put_into-≡ out 0
          (ap (λ (x : ℕ). refused_line x w.in-Err.refused.line) w.number.ensures ∙ refused-line l w.in-Err.refused w.in-Err.is) m.put m.out
          (w.put-is ∙ w.put_refused-put.ensures.0, w.out-is ∙ w.put_refused-put.ensures.1)
    ] in
    let r = counted-put out (table_line l) c.count_put.result m.put m.out c.count_put.ensures puts in
    record { report = r.0; put_in_bounds = r.1 }
