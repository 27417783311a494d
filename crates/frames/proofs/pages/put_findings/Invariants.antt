-- Invariant: storing the lines left gives what storing all of them gives.
use Rattle.frames.proofs.Findings.{Putting}
use Rattle.frames.proofs.pages.put_findings.Given as goal

abbrev pub invariant-loop-number : goal.invariant-loop-number
invariant-loop-number l =
    Putting l.entries l.initial.out l.out l.number-index l.put
