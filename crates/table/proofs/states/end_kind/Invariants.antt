-- Invariant: the code ends as its bytes left end from the row that is reached.
use Prim.Native.Nat.{◌+◌, ◌-◌}
use mathlib.Core.Path.{◌≡◌}
use Rattle.table.specs.States.{step_at, end_kind}
use Rattle.table.specs.Codes.{unpacked, bytes_of}
use Rattle.table.proofs.states.end_kind.Given as goal

abbrev pub invariant-loop : goal.invariant-loop
invariant-loop l =
    end_kind (step_at l.states) l.at_row (unpacked (l.fn.code.len + 1 - l.counter) l.bits) ≡ end_kind (step_at l.states) l.fn.row (bytes_of l.fn.code)
