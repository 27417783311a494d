-- Two members of a list: they are the same, or one comes first; a test that at most one passes; neighbours under two
-- relations (rises-and).
use mathlib.Core.Path.{◌≡◌, refl, sym, ap, subst, ◌∙◌}
use mathlib.Core.Bool.{Bool, true, false}
use mathlib.Core.Logic.{◌⊎◌, inl, inr}
use mathlib.Core.List.{List, [], ◌∷◌}
use Rattle.lists.specs.Pick.{pick}
use Rattle.lists.specs.Order.{Pairs, In, rises_from, rises}
use Rattle.lists.proofs.Choice.{and-interchange}
use Rattle.lists.proofs.Order.{All-In⁻}

Pairs-cases : {A : Type 0} (R : A → A → Type 0) (x y : A) (l : List A) → Pairs R l → In x l → In y l
    → (x ≡ y) ⊎ (R x y ⊎ R y x)
Pairs-cases R x y [] h i j = absurd i
Pairs-cases R x y (z ∷ l) h (inl e) (inl f) = inl (e ∙ sym f)
Pairs-cases {A} R x y (z ∷ l) h (inl e) (inr j) =
    inr (inl (subst (λ (w : A). R w y) (sym e) (All-In⁻ (R z) y l h.0 j)))
Pairs-cases {A} R x y (z ∷ l) h (inr i) (inl f) =
    inr (inr (subst (λ (w : A). R w x) (sym f) (All-In⁻ (R z) x l h.0 i)))
Pairs-cases R x y (z ∷ l) h (inr i) (inr j) = Pairs-cases R x y l h.1 i j

-- where no two elements pass a test both, two members that do are one
pub Pairs-unique : {A : Type 0} (f : A → Bool) (R : A → A → Type 0)
    → ((a b : A) → f a ≡ true → f b ≡ true → R a b → ⊥)
    → (l : List A) → Pairs R l → (x y : A) → In x l → In y l → f x ≡ true → f y ≡ true → x ≡ y
Pairs-unique f R n l h x y i j p q = go (Pairs-cases R x y l h i j)
  where
    go : (x ≡ y) ⊎ (R x y ⊎ R y x) → x ≡ y
    go (inl e) = e
    go (inr (inl r)) = absurd (n x y p q r)
    go (inr (inr r)) = absurd (n y x q p r)

-- neighbours under two relations at once
module _ {A : Type 0} (f g : A → A → Bool) where
  rises_from-and : (x : A) (l : List A)
      → rises_from (λ a b. pick (f a b) (g a b) false) x l ≡ pick (rises_from f x l) (rises_from g x l) false
  unfolding rises_from
  rises_from-and x [] = refl
  rises_from-and x (y ∷ l) =
      ap (λ (t : Bool). pick (pick (f x y) (g x y) false) t false) (rises_from-and y l)
      ∙ and-interchange (f x y) (g x y) (rises_from f y l) (rises_from g y l)

  pub rises-and : (l : List A) → rises (λ a b. pick (f a b) (g a b) false) l ≡ pick (rises f l) (rises g l) false
  unfolding rises
  rises-and [] = refl
  rises-and (x ∷ l) = rises_from-and x l
