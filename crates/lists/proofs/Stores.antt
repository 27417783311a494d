-- A run of stores: two runs in a row, a store behind a run, the next element of a run.
use mathlib.Core.Path.{◌≡◌, refl, ap, ◌∙◌}
use mathlib.Core.List.{List, [], ◌∷◌, ◌++◌}
use Prim.Native.Nat.{ℕ, suc, ◌+◌, ◌<◌, ◌≤◌}
use native.Mathlib.Numerals.{add-one}
use native.Mathlib.Omega.{arith}
use lib.ListN.{length, get_or, drop, set}
use lib.Seq.{sets, set_comm}
use Rattle.lists.proofs.Laws.{drop-∷}

module _ {A : Type 0} where
  pub sets-++ : (l : List A) (i : ℕ) (vs ws : List A)
      → sets l i (vs ++ ws) ≡ sets (sets l i vs) (i + length vs) ws
  sets-++ l i [] ws = let e : i + 0 ≡ i = omega arith in rw e
  sets-++ l i (v ∷ vs) ws =
      let e : i + suc (length vs) ≡ suc i + length vs = omega arith in
      rw e (sets-++ (set l i v) (suc i) vs ws)

  pub set-sets : (l : List A) (i : ℕ) (vs : List A) (j : ℕ) (w : A) → i + length vs ≤ j
      → set (sets l i vs) j w ≡ sets (set l j w) i vs
  set-sets l i [] j w h = refl
  set-sets l i (v ∷ vs) j w h =
      set-sets (set l i v) (suc i) vs j w (omega arith)
      ∙ ap (λ (m : List A). sets m (suc i) vs) (set_comm l i j v w (λ e. omega arith))

-- one more element of a list is stored
pub sets-drop-∷ : (l s : List ℕ) (p i : ℕ) → i < length s
    → sets l p (drop i s) ≡ sets (set l p (get_or s i 0)) (p + 1) (drop (i + 1) s)
sets-drop-∷ l s p i h = rw (drop-∷ s i h, add-one p)
