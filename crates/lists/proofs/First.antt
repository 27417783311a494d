-- The first element that passes a test is a member that passes it; the first of images.
use mathlib.Core.Path.{◌≡◌, refl, sym, ap, subst, ◌∙◌}
use mathlib.Core.Logic.{inl, inr}
use mathlib.Core.Bool.{Bool, true, false}
use mathlib.Core.Option
use mathlib.Core.Option.{Option, some}
use mathlib.Core.List.{List, [], ◌∷◌, map}
use Prim.Native.Nat.{ℕ}
use native.Mathlib.Omega.{arith}
use Rattle.lists.specs.Pick.{pick}
use Rattle.lists.specs.Order.{All, In, first_of}
use Rattle.lists.proofs.Cases.{pick-case}

pub first_of-some⁻ : {A : Type 0} (f : A → Bool) (x : A) (l : List A) → first_of f l ≡ some x → In x l × (f x ≡ true)
unfolding first_of
first_of-some⁻ f x [] e = absurd (let z : ◌≡◌ {A = ℕ} 0 1 = cc in omega arith)
first_of-some⁻ {A} f x (y ∷ l) e =
    pick-case (λ (o : Option A). o ≡ some x → In x (y ∷ l) × (f x ≡ true)) (f y) _ _
    (λ t q. let k : y ≡ x = cc in (inl (sym k), subst (λ (z : A). f z ≡ true) k t))
    (λ t q. let r = first_of-some⁻ f x l q in (inr r.0, r.1))
    e

-- the first of the images, by a test that agrees
module _ {A B : Type 0} (h : A → B) (f : A → Bool) (g : B → Bool) where
  first_of-map-∷ : (t : Bool) (x : A) (o : Option A) (q : Option B) → q ≡ Option.map h o
      → pick t (some (h x)) q ≡ Option.map h (pick t (some x) o)
  first_of-map-∷ true x o q e = refl
  first_of-map-∷ false x o q e = e

  pub first_of-map : (l : List A) → All (λ x. f x ≡ g (h x)) l → first_of g (map h l) ≡ Option.map h (first_of f l)
  unfolding first_of
  first_of-map [] a = refl
  first_of-map (x ∷ l) a =
      ap (λ (t : Bool). pick t (some (h x)) (first_of g (map h l))) (sym a.0)
      ∙ first_of-map-∷ (f x) x (first_of f l) (first_of g (map h l)) (first_of-map l a.1)
