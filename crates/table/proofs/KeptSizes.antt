-- T1 and T3 on lengths: mb_cur_min and mb_cur_max of a table that keeps the rules, and its complete codes of at most four bytes.
use Prim.Native.Nat.{ℕ, ◌≤◌}
use mathlib.Core.Path.{◌≡◌}
use mathlib.Core.Bool.{true}
use mathlib.Core.List.{List}
use native.Mathlib.Omega.{arith}
use lib.Dec.{leb}
use lib.ListN.{length}
use borrow.Author.Tests.{leb-true}
use Rattle.lists.proofs.Laws.{and_left, and_right}
use Rattle.table.specs.Limits.{Limits}
use Rattle.table.specs.States.{longest, end_kind}
use Rattle.table.specs.Codes.{AllByte}
use Rattle.table.specs.Meaning.{Table, steps_of}
use Rattle.table.specs.Rules.{t1_sizes, Keeps}
use Rattle.table.proofs.Depth.{short-code}
use Rattle.std.specs.Prelude.{None}

-- mb_cur_min is no larger than mb_cur_max, both are 1 to 4
pub record Sizes (min max : ℕ) : Type 0 where
  pub least : 1 ≤ min
  pub ordered : min ≤ max
  pub most : max ≤ longest

pub t1_sizes⇒Sizes : (min max : ℕ) → t1_sizes min max ≡ true → Sizes min max
t1_sizes⇒Sizes min max h =
    let h1 = and_right (leb 1 min) _ h in
    record {
      least = leb-true 1 min (and_left (leb 1 min) _ h);
      ordered = leb-true min max (and_left (leb min max) _ h1);
      most = leb-true max 4 (and_right (leb min max) _ h1);
    }

-- a table that keeps the rules
module _ (lim : Limits) (t : Table) (k : Keeps lim t) where
  pub kept-sizes : Sizes t.min t.max
  kept-sizes = t1_sizes⇒Sizes t.min t.max k.so_far.rule1-sizes

  pub kept-short : (s : List ℕ) → AllByte s → (end_kind (steps_of t) 0 s ≡ None → ⊥) → length s ≤ longest
  kept-short s b e = let h = short-code (steps_of t) t.max 0 s k.so_far.rule3 b e in omega (arith, kept-sizes.most)
