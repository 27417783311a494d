-- Invariant (Going): the code points from `at` on are those from i on, and `several` says whether one lies before i.
-- Measure: bytes left.
use mathlib.Core.Path.{◌≡◌}
use mathlib.Core.Bool.{Bool}
use mathlib.Core.List.{List}
use Prim.Native.Nat.{ℕ, ◌+◌, ◌-◌, ◌≤◌}
use lib.ListN.{length}
use Rattle.table.specs.Text.{unicode_at, join_at}
use Rattle.table.specs.Mapping.{points_more}
use Rattle.table.specs.loops.Coded.{flag_number}
use Rattle.table.proofs.mapping.more_points.Given as goal

pub record Going (s : List ℕ) (at : ℕ) (several : Bool) (i : ℕ) : Type 0 where
  pub fuel : ℕ
  pub pending : points_more (length s) s 0 at (unicode_at s (join_at s at))
      ≡ points_more fuel s (flag_number several) i (unicode_at s (join_at s i))
  pub enough : length s ≤ fuel + i

abbrev pub invariant-loop-next : goal.invariant-loop-next
invariant-loop-next l = Going l.s l.at l.several l.end

abbrev pub decreases-loop-next : goal.decreases-loop-next
decreases-loop-next l = length l.s - l.end
