-- Invariant: storing the digits of the bytes left gives what storing all of them gives.
use Rattle.std.proofs.Common.{◌≡◌, ◌+◌, ◌*◌, drop}
use lib.Seq.{sets}
use Rattle.frames.specs.Lines.{hex_bytes}
use Rattle.frames.proofs.lines.write_hex.Given as goal

abbrev pub invariant-loop-i : goal.invariant-loop-i
invariant-loop-i l =
    sets l.out (l.at + 2 * l.i) (hex_bytes (drop l.i l.bytes)) ≡ sets l.initial.out l.at (hex_bytes l.bytes)
