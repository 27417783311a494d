-- Invariant (Going): loading the text from `at` on gives the outcome of the whole; the memory holds what was read, and
-- past the needed places it is as it was.
-- Measure: bytes left.
use Prim.Native.Nat.{ℕ, ◌-◌, ◌≤◌}
use mathlib.Core.Path.{◌≡◌}
use mathlib.Core.List.{List, []}
use lib.ListN.{length, drop}
use Rattle.table.specs.Limits.{limits}
use Rattle.table.specs.Cells.{Cell}
use Rattle.table.specs.Meaning.{Line}
use Rattle.table.specs.Text.{lines_of}
use Rattle.table.specs.Numbers.{lowest}
use Rattle.table.specs.Load.{goes_on, reading, load_go, load_of}
use Rattle.table.specs.loops.Progress.{keys_in, Holding, Beyond}
use Rattle.table.specs.loops.Progress.{slices_in, SameSlices}
use Rattle.table.specs.declared.load.Phase.TheVariants.{Header}
use Rattle.table.specs.declared.load.Loader.{Loader}
use Rattle.table.proofs.load.Loader.read.Given as goal

-- what is left to read gives the outcome of the whole; what was read is held, and nothing past the needed places is changed
pub record Going (text : List ℕ) (old l : Loader) (at k : ℕ) : Type 0 where
  pub rows : List (List Cell)
  pub lines : List Line
  pub pending : load_of limits text ≡ load_go lowest limits k (lines_of (drop at text)) (goes_on (reading l.phase (keys_in l.head) rows lines))
  pub holding : Holding limits l.head l.mappings rows lines (slices_in l)
  pub none-yet-read : l.phase ≡ Header → [] ≡ lines
  pub beyond : Beyond limits (slices_in old) (slices_in l)
  pub same : SameSlices old l
  pub counted : k ≤ at
  pub inside : at ≤ length text

abbrev pub invariant-loop-at : goal.invariant-loop-at
invariant-loop-at l = Going l.text l.initial.self l.self l.at l.line

abbrev pub decreases-loop-at : goal.decreases-loop-at
decreases-loop-at l = length l.text - l.at
