-- The loop of many look-ups, once for either side: where it starts, one turn, where it ends.
use mathlib.Core.Path.{◌≡◌, refl, subst, ◌∙◌}
use mathlib.Core.List.{List}
use Prim.Native.Nat.{ℕ, ◌+◌, ◌<◌, ◌≤◌}
use native.Mathlib.Nat.{le_antisymm}
use native.Mathlib.Omega.{arith}
use lib.ListN.{length, get_or, set, length-set}
use lib.Seq.{get_or-set_same, get_or-set_other}
use borrow.Author.Count.{below_none, below_more}
use Rattle.lookups.specs.Lookups.{Answered, AllAnswered, shorter}

module _ (A : ℕ → ℕ → Type 0) (wanted before : List ℕ) where
  pub answered-start : Answered A 0 wanted before before
  answered-start =
      record {
        same_length = refl;
        first = below_none (λ k. A (get_or wanted k 0) (get_or before k 0));
        others = λ k h. refl;
      }

  -- a store of the next answer
  pub answered-turn : (n v : ℕ) (after : List ℕ) → n < length after → A (get_or wanted n 0) v
      → Answered A n wanted before after → Answered A (n + 1) wanted before (set after n v)
  answered-turn n v after h here a =
      record {
        same_length = length-set after n v ∙ a.same_length;
        first =
            below_more (λ k. A (get_or wanted k 0) (get_or (set after n v) k 0)) n
            (λ k l. rw (get_or-set_other after n k v 0 (λ e. omega (arith, e))) (a.first k l))
            (rw (get_or-set_same after n v 0 h) here);
        others = λ k l. get_or-set_other after n k v 0 (λ e. omega (arith, e)) ∙ a.others k (omega arith);
      }

  -- at the shorter length
  pub answered-end : (n m : ℕ) (after : List ℕ) → Answered A n wanted before after → n ≤ m → m ≤ n
      → m ≡ shorter (length wanted) (length before) → AllAnswered A wanted before after
  answered-end n m after a h l e = subst (λ (i : ℕ). Answered A i wanted before after) (le_antisymm h l ∙ e) a
