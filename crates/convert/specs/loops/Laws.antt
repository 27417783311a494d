-- What the laws of conversions speak of on the way to the promises: an output that did not fill up, code points spelt
-- out, the round trip of a code by runs and by the terms of the contracts, a conversion that skips, split at an illegal
-- sequence.
use Rattle.std.specs.Prelude.{if◌then◌else◌, ℕ, ◌+◌, ◌-◌, ◌≡◌, List, [], ◌∷◌, ◌++◌, Bool, leb, length, drop}
use Rattle.utf.specs.Scheme.{Side}
use Rattle.utf.specs.declared.scheme.Scheme.{Scheme}
use Rattle.table.specs.Limits.{limits}
use Rattle.table.specs.Meaning.{Table}
use Rattle.table.specs.Slices.{Slices}
use Rattle.table.specs.declared.valid.Record.{Record}
use Rattle.convert.specs.Run.{SequenceStep, Run, after, ended_with, run_of}
use Rattle.convert.specs.Step.{strict}
use Rattle.convert.specs.Convert.{to_run, from_run, to_tested, from_tested}
use Rattle.utf.specs.declared.utf8.Stop.TheVariants as stopped
use Rattle.convert.specs.declared.RunEnd.{RunEnd}
use Rattle.convert.specs.declared.RunEnd.TheVariants.{AllRead, OutputFull, BadTable, Stopped}
use Rattle.convert.specs.Claims.{RoundTripCode}

-- the output did not fill up
abbrev pub NotFull : Run → Type 0
NotFull r = r.end ≡ OutputFull → ⊥

-- code points, spelt out in a side of Unicode
unfoldable pub spell : Side → List ℕ → List ℕ
spell u [] = []
spell u (c ∷ cs) = u.encode c ++ spell u cs

-- a code there and back by two conversions, each with its input and a space: one reads the code whole, the other reads
-- whole what that wrote and writes the code
abbrev pub ThereAndBack : (List ℕ → ℕ → Run) → (List ℕ → ℕ → Run) → List ℕ → ℕ → ℕ → Type 0
ThereAndBack to from c room room' =
    let there = to c room in
    let back = from there.bytes room' in
    (there.end ≡ AllRead) × (back.end ≡ AllRead) × (back.bytes ≡ c)

-- by the strict conversions of a table, in a scheme
abbrev pub RoundTripsByRuns : Scheme → Table → Bool → List ℕ → ℕ → ℕ → Type 0
RoundTripsByRuns e t fallback = ThereAndBack (to_run e t (strict fallback)) (from_run e t (strict fallback))

-- by what the functions promise on any record and lent slices
abbrev pub RoundTripsByCalls : Scheme → Record → Slices → Bool → List ℕ → ℕ → ℕ → Type 0
RoundTripsByCalls e rec m fallback =
    ThereAndBack (to_tested e limits rec m (strict fallback))
    (from_tested e limits rec m (strict fallback))

-- the code points of a frame of codes that round-trip
unfoldable pub points_of : {t : Table} {fallback : Bool} → List (RoundTripCode t fallback) → List ℕ
points_of [] = []
points_of (h ∷ l) = h.round-trips.line.point ∷ points_of l

-- a conversion that skips, by what the one that does not, r, came to on s with space for `room` bytes: the same where r
-- did not end at an illegal sequence; else the bytes `bs` for that sequence, if they fit, and then `skips`, the
-- conversion that skips, of what is behind it
abbrev pub split_by : SequenceStep → List ℕ → List ℕ → ℕ → Run → RunEnd → Run
split_by skips bs s room r (Stopped (stopped.Illegal n)) =
    let left = room - length r.bytes in
    let rest = run_of skips r.state 0 (drop (r.read + n) s) (left - length bs) in
    after r.read r.bytes (if leb (length bs) left then after n bs rest else ended_with OutputFull r.state)
split_by skips bs s room r (Stopped stopped.CutShort) = r
split_by skips bs s room r (Stopped stopped.Unassigned) = r
split_by skips bs s room r AllRead = r
split_by skips bs s room r OutputFull = r
split_by skips bs s room r BadTable = r

abbrev pub split_at : SequenceStep → List ℕ → List ℕ → ℕ → Run → Run
split_at skips bs s room r = split_by skips bs s room r r.end

-- the part of s that a run read, converted by itself
abbrev pub whole_part : Run → Run
whole_part r = record { end = AllRead; read = r.read; bytes = r.bytes; state = r.state }
