use Rattle.std.proofs.Common.{◌<◌, ◌≤◌, length, arith}
use Rattle.table.specs.Held.{memory_of}
use Rattle.frames.specs.Stream.{partial_in}
use Rattle.frames.specs.Report.{convert_in, line_report}
use Rattle.frames.proofs.Widths.{line-fits}
use Rattle.frames.proofs.Turns.{answer-moves, answer-within, answer-put}
use Rattle.frames.proofs.report.report_frames.Goals as goal

pub returns : goal.returns
returns c =
    let a = c.args in
    let line = c.take_frames.new.line in
    let out = c.take_frames.new.out in
    let write = line_report (convert_in a.lent.rec (memory_of a.lent)) in
    let h = partial_in a.line.now a.held in
    let moves : (a.from < length a.chunk.now → 32777 ≤ length a.out.now → a.from < c.take_frames.result.at) ×
    (a.from ≤ length a.chunk.now → c.take_frames.result.at ≤ length a.chunk.now) = (
      λ b w. answer-moves write a.line.now h a.chunk.now a.from a.out.now c.take_frames.result line out c.take_frames.ensures b
          (λ l. let n = line-fits a.lent.rec (memory_of a.lent) l in omega arith),
      answer-within write a.line.now h a.chunk.now a.from a.out.now c.take_frames.result line out c.take_frames.ensures,
    ) in
    record {
      call = c.take_frames.ensures;
      moves_on = moves;
      put_in_bounds = answer-put write a.line.now h a.chunk.now a.from a.out.now c.take_frames.result line out c.take_frames.ensures;
    }
