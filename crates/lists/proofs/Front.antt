-- Lists whose front is written anew, equal elements without the first ones, and a part of a front.
use Prim.Native.Nat.{ℕ, zero, suc, ◌+◌, ◌-◌, ◌≤◌}
use mathlib.Core.Path.{◌≡◌, sym, ap, ◌∙◌}
use mathlib.Core.List.{List, [], ◌∷◌, ◌++◌}
use native.Mathlib.Nat.{sub-zero, zero-sub, suc-sub-suc}
use native.Mathlib.Omega.{arith}
use lib.ListN.{length, take, drop, replicate, length-replicate, replicate-append-replicate}
use lib.Seq.{length-take-le, take-nil, drop_at, drop-append-add, drop-drop}

module _ {A : Type 0} where
  -- what lies past n elements, of which the first m are written anew
  pub drop-++-drop : (n m : ℕ) (ys l : List A) → length ys ≡ m → m ≤ n → drop n (ys ++ drop m l) ≡ drop n l
  drop-++-drop n m ys l e h =
      let a : n ≡ length ys + (n - m) = omega arith in
      let b : m + (n - m) ≡ n = omega arith in
      ap (λ (k : ℕ). drop k (ys ++ drop m l)) a ∙ drop-append-add ys (drop m l) (n - m) ∙ drop-drop (n - m) m l
      ∙ ap (λ (k : ℕ). drop k l) b

  -- equal elements without the first m
  pub drop-replicate : (m k : ℕ) (x : A) → m ≤ k → drop m (replicate k x) ≡ replicate (k - m) x
  drop-replicate m k x h =
      let e : k ≡ m + (k - m) = omega arith in
      ap (λ (j : ℕ). drop m (replicate j x)) e
      ∙ ap (λ (l : List A). drop m l) (sym (replicate-append-replicate m (k - m) x))
      ∙ drop_at (replicate m x) (replicate (k - m) x) m (length-replicate m x)

-- the first n elements without the first r of them
pub drop-take : (r n : ℕ) (l : List ℕ) → drop r (take n l) ≡ take (n - r) (drop r l)
drop-take zero n l = rw sub-zero
drop-take (suc r) zero l = rw zero-sub
drop-take (suc r) (suc n) [] = rw take-nil
drop-take (suc r) (suc n) (x ∷ xs) = rw suc-sub-suc (drop-take r n xs)

-- a front of a list that kept its length
pub ≤⇒length-take : (k : ℕ) (s old : List ℕ) → length s ≡ length old → k ≤ length old
    → (k ≤ length s) × (k ≡ length (take k s))
≤⇒length-take k s old e h = let n : k ≤ length s = omega (arith, e, h) in (n, sym (length-take-le k s n))
