-- A conversion, whatever its step (document 01, 'The two pipes'): what is read and written until all is read, the
-- output does not fit, or a sequence stops it; the numbers 0, 50, 51, 52, 53 and 60, and the length of what is illegal.
-- The state is what the step hands on from one sequence to the next (an initial row; always 0 where a table has one).
use Rattle.std.specs.Prelude.{if◌then◌else◌, ℕ, zero, suc, ◌+◌, ◌-◌, List, [], ◌∷◌, ◌++◌, leb, length, drop}
use Rattle.utf.specs.Utf8.{stop_number}
use Rattle.utf.specs.declared.utf8.Stop.{Stop}
use Rattle.utf.specs.declared.utf8.Stop.TheVariants as stopped
use Rattle.convert.specs.declared.RunEnd.{RunEnd}
use Rattle.convert.specs.declared.RunEnd.TheVariants.{AllRead, OutputFull, BadTable, Stopped}
use Rattle.convert.specs.declared.Converted.{Converted}

-- what one sequence gives: these bytes, how many were read, and the next state; or a stop
pub data Gives : Type 0 where
  give : List ℕ → ℕ → ℕ → Gives
  stop : Stop → Gives

-- a step: the state, and the rest of the input
abbrev pub SequenceStep : Type 0
SequenceStep = ℕ → List ℕ → Gives

-- how a run ended, what it read and wrote, and the state it ended in
pub record Run : Type 0 where
  pub end : RunEnd
  pub read : ℕ
  pub bytes : List ℕ
  pub state : ℕ

-- a run after n bytes read and bs written
abbrev pub after : ℕ → List ℕ → Run → Run
after n bs r = record { end = r.end; read = n + r.read; bytes = bs ++ r.bytes; state = r.state }

abbrev pub ended_with : RunEnd → ℕ → Run
ended_with h st = record { end = h; read = 0; bytes = []; state = st }

-- one sequence: if it both stops and does not fit, the stop is reported; `go st k room` is the run past k more bytes
abbrev pub on_gives : Gives → ℕ → ℕ → (ℕ → ℕ → ℕ → Run) → Run
on_gives (stop w) st room go = ended_with (Stopped w) st
on_gives (give bs n next) st room go =
    if leb (length bs) room then after n bs (go next (n - 1) (room - length bs)) else ended_with OutputFull st

-- the run on the rest of an input, whose first k bytes belong to a sequence already cut
abbrev pub run_of : SequenceStep → ℕ → ℕ → List ℕ → ℕ → Run
run_of step st k [] room = ended_with AllRead st
run_of step st (suc k) (b ∷ t) room = run_of step st k t room
run_of step st zero (b ∷ t) room = on_gives (step st (b ∷ t)) st room (λ next n room'. run_of step next n t room')

abbrev pub converted_of : Run → Converted
converted_of r = record { end = r.end; read = r.read; written = length r.bytes }

-- the output slice: bytes past the written count keep their values
abbrev pub put_bytes : List ℕ → List ℕ → List ℕ
put_bytes bs old = bs ++ drop (length bs) old

abbrev pub put_out : Run → List ℕ → List ℕ
put_out r old = put_bytes r.bytes old

-- document 01's numbers
abbrev pub end_number : RunEnd → ℕ
end_number AllRead = 0
end_number OutputFull = 50
end_number BadTable = 60
end_number (Stopped w) = stop_number w

-- and of a run, by its end
abbrev pub run_number : Run → ℕ
run_number r = end_number r.end

-- the length of the illegal sequence that ended a conversion; 0 where none did (document 02, request 3)
abbrev pub end_length : RunEnd → ℕ
end_length AllRead = 0
end_length OutputFull = 0
end_length BadTable = 0
end_length (Stopped stopped.CutShort) = 0
end_length (Stopped (stopped.Illegal n)) = n
end_length (Stopped stopped.Unassigned) = 0

abbrev pub run_length : Run → ℕ
run_length r = end_length r.end
