-- Invariant: storing the digits left gives what storing all of them gives.
use Rattle.std.proofs.Common.{◌≡◌, ◌-◌}
use lib.Seq.{sets}
use Rattle.frames.specs.Lines.{digits_of}
use Rattle.frames.proofs.lines.write_digits.Given as goal

abbrev pub invariant-loop-i : goal.invariant-loop-i
invariant-loop-i l =
    sets l.out l.at (digits_of (l.i - l.at) l.rest) ≡ sets l.initial.out l.at (digits_of l.count l.n)
