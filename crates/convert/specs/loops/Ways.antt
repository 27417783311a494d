-- What one of the two ways makes of one sequence: it is read, and what it gives is put where it fits; or the run ends.
use Rattle.std.specs.Prelude.{ℕ, ◌+◌, ◌<◌, ◌≤◌, ◌≡◌, List, length, Result, Ok, Err}
use Rattle.lists.specs.Place.{placed}
use Rattle.convert.specs.Run.{SequenceStep, give, stop}
use Rattle.convert.specs.declared.RunEnd.{RunEnd}
use Rattle.convert.specs.declared.RunEnd.TheVariants.{AllRead, OutputFull, BadTable, Stopped}
use Rattle.convert.specs.declared.way.Moved.{Moved}

-- a sequence of n bytes, and what it gives
pub record Gave (step : SequenceStep) (s : List ℕ) (n : ℕ) : Type 0 where
  pub bytes : List ℕ
  pub gives : step 0 s ≡ give bytes n 0
  pub some : 0 < n
  pub within : n ≤ length s

abbrev pub Advances : SequenceStep → List ℕ → List ℕ → ℕ → Result Moved RunEnd → List ℕ → Type 0
Advances step s old at (Ok m) new =
    (g : Gave step s m.read) × (m.written ≡ length g.bytes) × (at + length g.bytes ≤ length old)
    × (new ≡ placed old at g.bytes)
Advances step s old at (Err (Stopped w)) new = (step 0 s ≡ stop w) × (new ≡ old)
Advances step s old at (Err OutputFull) new =
    (n : ℕ) × (g : Gave step s n) × (length old < at + length g.bytes) × (new ≡ old)
Advances step s old at (Err AllRead) new = ⊥
Advances step s old at (Err BadTable) new = ⊥
