-- Invariant: storing the digits of the bytes left gives what storing all of them gives.
use Rattle.std.proofs.Common.{◌≡◌, ◌+◌, ◌-◌, ◌*◌, ◌^◌, ◌<◌}
use lib.Seq.{sets}
use Rattle.table.specs.Codes.{unpacked}
use Rattle.frames.specs.Lines.{hex_bytes}
use Rattle.frames.proofs.lines.write_code.Given as goal

abbrev pub invariant-loop-i : goal.invariant-loop-i
invariant-loop-i l =
    (sets l.out (l.at + 2 * l.i) (hex_bytes (unpacked (l.len - l.i) l.rest)) ≡ sets l.initial.out l.at (hex_bytes (unpacked l.len l.bits))) ×
    (l.rest < 2 ^ 32)
