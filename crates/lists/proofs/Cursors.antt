-- How far a test holds from a place of a list on.
use mathlib.Core.Path.{◌≡◌, refl}
use mathlib.Core.Bool.{Bool, true, false}
use mathlib.Core.List.{List, [], ◌∷◌}
use Prim.Native.Nat.{ℕ, suc, ◌+◌, ◌<◌, ◌≤◌}
use native.Mathlib.Omega.{arith}
use lib.ListN.{length, get_or, drop}
use Rattle.lists.specs.Order.{prefix_length}
use Rattle.lists.proofs.Laws.{drop-∷, drop_past}

module _ (f : ℕ → Bool) (s : List ℕ) (i : ℕ) where
  pub prefix-on : i < length s → f (get_or s i 0) ≡ true → prefix_length f (drop i s) ≡ suc (prefix_length f (drop (i + 1) s))
  unfolding prefix_length
  prefix-on h e = rw (drop-∷ s i h, e)

  pub prefix-stop : i < length s → f (get_or s i 0) ≡ false → prefix_length f (drop i s) ≡ 0
  unfolding prefix_length
  prefix-stop h e = rw (drop-∷ s i h, e)

  pub prefix-end : length s ≤ i → prefix_length f (drop i s) ≡ 0
  unfolding prefix_length
  prefix-end h = rw (drop_past s i h)

-- it holds no further from where it stopped
pub prefix-again : (f : ℕ → Bool) (s : List ℕ) → prefix_length f (drop (prefix_length f s) s) ≡ 0
prefix-again f [] = let z = prefix-end f [] 0 (omega arith) in rw z z
prefix-again f (x ∷ s) = go (f x) refl (prefix-again f s)
  where
    go : (b : Bool) → f x ≡ b → prefix_length f (drop (prefix_length f s) s) ≡ 0 → prefix_length f (drop (prefix_length f (x ∷ s)) (x ∷ s)) ≡ 0
    go true p ih = rw (prefix-on f (x ∷ s) 0 (omega arith) p) ih
    go false p ih = let z = prefix-stop f (x ∷ s) 0 (omega arith) p in rw z z
