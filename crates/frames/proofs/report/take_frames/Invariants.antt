-- Invariant (Going): the reports stored and those of the bytes from `at` on are the reports of the whole piece.
-- Measure: bytes left of the piece.
use Rattle.std.proofs.Common.{◌-◌, length}
use Rattle.table.specs.Held.{memory_of}
use Rattle.frames.specs.Stream.{partial_in}
use Rattle.frames.specs.Report.{convert_in, line_report}
use Rattle.frames.proofs.Turns.{Going}
use Rattle.frames.proofs.report.take_frames.Given as goal

abbrev pub invariant-loop-done : goal.invariant-loop-done
invariant-loop-done l =
    Going (line_report (convert_in l.lent.rec (memory_of l.lent))) l.chunk l.from l.initial.line l.initial.out
    (partial_in l.initial.line l.fn.held) l.line l.out l.done.held l.done.at l.done.put

abbrev pub decreases-loop-done : goal.decreases-loop-done
decreases-loop-done l =
    length l.chunk - l.done.at
