-- A list as the values of a function at the numbers from 0 on.
use Prim.Native.Nat.{ℕ, zero, suc, ◌+◌, ◌<◌}
use mathlib.Core.Path.{◌≡◌, refl, sym, ap, ◌∙◌}
use mathlib.Core.List.{List, [], ◌∷◌, map}
use native.Mathlib.Nat.{zero-add}
use native.Mathlib.Omega.{arith}
use lib.ListN.{length, get_or}
use Rattle.lists.specs.Order.{up_from}

module _ {A : Type 0} (f : ℕ → A) where
  get_d-map-up_from-from : (b n k : ℕ) (d : A) → k < n → get_or (map f (up_from b n)) k d ≡ f (b + k)
  unfolding up_from
  get_d-map-up_from-from b zero k d h = absurd (omega arith)
  get_d-map-up_from-from b (suc n) zero d h = let e : b ≡ b + 0 = omega arith in ap f e
  get_d-map-up_from-from b (suc n) (suc k) d h =
      let e : suc b + k ≡ b + suc k = omega arith in
      get_d-map-up_from-from (suc b) n k d (omega arith) ∙ ap f e

  map-up_from-ext-from : (b : ℕ) (l : List A) (d : A) → ((k : ℕ) → k < length l → get_or l k d ≡ f (b + k))
      → l ≡ map f (up_from b (length l))
  unfolding up_from
  map-up_from-ext-from b [] d h = refl
  map-up_from-ext-from b (x ∷ l) d h =
      let e : b + 0 ≡ b = omega arith in
      let first : x ≡ f b = h 0 (omega arith) ∙ ap f e in
      let rest : l ≡ map f (up_from (suc b) (length l)) =
      map-up_from-ext-from (suc b) l d (λ k q. let w : b + suc k ≡ suc b + k = omega arith in h (suc k) (omega arith) ∙ ap f w) in
      (λ i. first i ∷ rest i)

  -- its elements
  pub get_d-map-up_from : (n k : ℕ) (d : A) → k < n → get_or (map f (up_from 0 n)) k d ≡ f k
  get_d-map-up_from n k d h = get_d-map-up_from-from 0 n k d h ∙ ap f (zero-add k)

  -- the list by its elements
  pub map-up_from-ext : (l : List A) (d : A) → ((k : ℕ) → k < length l → get_or l k d ≡ f k)
      → l ≡ map f (up_from 0 (length l))
  map-up_from-ext l d h = map-up_from-ext-from 0 l d (λ k q. h k q ∙ ap f (sym (zero-add k)))
