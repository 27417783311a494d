-- Invariant: the run is `len` bytes with the packed value `bits`, then the bytes from i on. Measure: bytes left.
use Rattle.table.proofs.TextLaws.{on_run, Room}
use mathlib.Core.Path.{◌≡◌}
use Prim.Native.Nat.{◌+◌, ◌-◌, ◌≤◌}
use lib.ListN.{length}
use Rattle.table.specs.Text.{byte_at, join_at, bytes_more, bytes_at}
use Rattle.table.specs.loops.Coded.{byte_run_of}
use Rattle.table.proofs.text.bytes_run.Given as goal

abbrev pub invariant-loop-value : goal.invariant-loop-value
invariant-loop-value l =
    (byte_run_of (bytes_at l.s l.at) ≡ on_run l.bits l.weight l.len l.joined
    (bytes_more (length l.s + 1 - l.len) l.s l.end (byte_at l.s (join_at l.s l.end)))) × (1 ≤ l.len) × (l.len ≤ l.end) × (l.at ≤ l.end) ×
    (l.end ≤ length l.s) × Room l.bits l.weight

abbrev pub decreases-loop-value : goal.decreases-loop-value
decreases-loop-value l =
    length l.s - l.end
