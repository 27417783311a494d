-- Invariant: storing the bytes left gives what storing all of them gives.
use Rattle.std.proofs.Common.{◌≡◌, ◌*◌, drop}
use lib.Seq.{sets}
use Rattle.frames.specs.Lines.{bytes_of_hex}
use Rattle.frames.proofs.lines.write_frame.Given as goal

abbrev pub invariant-loop-i : goal.invariant-loop-i
invariant-loop-i l =
    sets l.out l.i (bytes_of_hex (drop (2 * l.i) l.line)) ≡ sets l.initial.out 0 (bytes_of_hex l.line)
