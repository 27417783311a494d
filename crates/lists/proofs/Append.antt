-- One list behind another: every element, every pair, members.
use mathlib.Core.Logic.{inl, inr}
use mathlib.Core.List.{List, [], ◌∷◌, ◌++◌}
use Rattle.lists.specs.Order.{All, Pairs, In}

module _ {A : Type 0} where
  pub All-++⁺ : (P : A → Type 0) (l m : List A) → All P l → All P m → All P (l ++ m)
  All-++⁺ P [] m h k = k
  All-++⁺ P (x ∷ l) m h k = (h.0, All-++⁺ P l m h.1 k)

  pub Pairs-++⁺ : (R : A → A → Type 0) (l m : List A) → Pairs R l → Pairs R m → All (λ x. All (R x) m) l
      → Pairs R (l ++ m)
  Pairs-++⁺ R [] m h k a = k
  Pairs-++⁺ R (x ∷ l) m h k a = (All-++⁺ (R x) l m h.0 a.0, Pairs-++⁺ R l m h.1 k a.1)

  pub In-++ˡ : (x : A) (l m : List A) → In x l → In x (l ++ m)
  In-++ˡ x [] m i = absurd i
  In-++ˡ x (y ∷ l) m (inl e) = inl e
  In-++ˡ x (y ∷ l) m (inr i) = inr (In-++ˡ x l m i)

  pub In-++ʳ : (x : A) (l m : List A) → In x m → In x (l ++ m)
  In-++ʳ x [] m i = i
  In-++ʳ x (y ∷ l) m i = inr (In-++ʳ x l m i)
