-- Invariant: storing the bytes left gives what storing all of them gives. Measure: the bytes left.
use Prim.Native.Nat.{◌+◌, ◌<◌, ◌≤◌}
use mathlib.Core.Path.{◌≡◌}
use lib.ListN.{length}
use lib.Seq.{sets}
use Rattle.table.specs.Codes.{unpacked}
use Rattle.convert.proofs.put_bytes.Given as goal

abbrev pub invariant-loop-k : goal.invariant-loop-k
invariant-loop-k l =
    (sets l.out l.i (unpacked l.k l.v) ≡ sets l.initial.out l.initial.i (unpacked l.initial.k l.initial.v)) × (l.i + l.k ≡ l.initial.i + l.initial.k) × (length l.out ≡ length l.initial.out) ×
    (l.k ≤ l.initial.k) × (l.v < 4294967296)

abbrev pub decreases-loop-k : goal.decreases-loop-k
decreases-loop-k l =
    l.k
