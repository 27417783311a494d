-- Elements of a list by their place, and what follows for pairs, parts and images.
-- at_all, Pairs-get_d⁺   what holds at every place, of every two places       Pairs-get_d⁻   and back
-- In-get_d, In⇒get_d       the element at a place is a member, a member stands at a place
-- Pairs-×⁺         two relations of every two elements                  In-map-⊆ members of images
-- take-++-take         a part as two parts                                  length-take⇒≤  a list whose part is full
-- Rising⇒Falls       of a rising list the elements less than x come first
use mathlib.Core.Path.{◌≡◌, refl, sym, ap, subst, ◌∙◌}
use mathlib.Core.Bool.{Bool, true}
use mathlib.Core.Logic.{inl, inr}
use mathlib.Core.List.{List, [], ◌∷◌, ◌++◌, map}
use Prim.Native.Nat.{ℕ, zero, suc, ◌+◌, ◌-◌, ◌<◌, ◌≤◌}
use native.Mathlib.Omega.{arith}
use lib.ListN.{length, take, drop, get_or}
use lib.Seq.{take-add}
use Rattle.lists.specs.Order.{All, Pairs, In, Rising}
use Rattle.lists.proofs.Laws.{clash, ¬true⇒false}
use Rattle.lists.proofs.Order.{All-get_d⁻, All-×⁺, All-In⁺, Pairs-⇒, Falls, In-map⁺, In-map⁻}

module _ {A : Type 0} (d : A) where
  at_all : (P : A → Type 0) (l : List A) → ((i : ℕ) → i < length l → P (get_or l i d)) → All P l
  at_all P [] f = tt
  at_all P (x ∷ l) f = (f 0 (omega arith), at_all P l (λ i q. f (suc i) (omega arith)))

  module _ (R : A → A → Type 0) where
    pub Pairs-get_d⁻ : (l : List A) → Pairs R l → (i j : ℕ) → i < j → j < length l → R (get_or l i d) (get_or l j d)
    Pairs-get_d⁻ [] h i j p q = absurd (omega arith)
    Pairs-get_d⁻ (x ∷ l) h i zero p q = absurd (omega arith)
    Pairs-get_d⁻ (x ∷ l) h zero (suc j) p q = All-get_d⁻ (R x) l j d h.0 (omega arith)
    Pairs-get_d⁻ (x ∷ l) h (suc i) (suc j) p q = Pairs-get_d⁻ l h.1 i j (omega arith) (omega arith)

    pub Pairs-get_d⁺ : (l : List A) → ((i j : ℕ) → i < j → j < length l → R (get_or l i d) (get_or l j d)) → Pairs R l
    Pairs-get_d⁺ [] f = tt
    Pairs-get_d⁺ (x ∷ l) f = (
      at_all (R x) l (λ j q. f 0 (suc j) (omega arith) (omega arith)),
      Pairs-get_d⁺ l (λ i j p q. f (suc i) (suc j) (omega arith) (omega arith)),
    )

  pub In-get_d : (l : List A) (i : ℕ) → i < length l → In (get_or l i d) l
  In-get_d [] i h = absurd (omega arith)
  In-get_d (x ∷ l) zero h = inl refl
  In-get_d (x ∷ l) (suc i) h = inr (In-get_d l i (omega arith))

  pub In⇒get_d : (x : A) (l : List A) → In x l → (i : ℕ) × ((i < length l) × (x ≡ get_or l i d))
  In⇒get_d x [] h = absurd h
  In⇒get_d x (y ∷ l) (inl p) = (0, (omega arith, p))
  In⇒get_d x (y ∷ l) (inr h) = let r = In⇒get_d x l h in (suc r.0, (let a = r.1.0 in omega arith, r.1.1))

-- two relations of every two
pub Pairs-×⁺ : {A : Type 0} (R S : A → A → Type 0) (l : List A)
    → Pairs R l
    → Pairs S l
    → Pairs (λ a b. R a b × S a b) l
Pairs-×⁺ R S [] h k = tt
Pairs-×⁺ R S (x ∷ l) h k = (All-×⁺ (R x) (S x) l h.0 k.0, Pairs-×⁺ R S l h.1 k.1)

-- the images of members of a list that lies within another
pub In-map-⊆ : {A B : Type 0} (g : A → B) (l m : List A) → ((x : A) → In x l → In x m) → (y : B) → In y (map g l) → In y (map g m)
In-map-⊆ {A} {B} g l m h y i =
    let r = In-map⁻ g y l i in
    subst (λ (z : B). In z (map g m)) (sym r.1.1) (In-map⁺ g r.0 m (h r.0 r.1.0))

-- a part as its first n and the rest of it
pub take-++-take : {A : Type 0} (m n : ℕ) (l : List A) → n ≤ m → take m l ≡ take n l ++ take (m - n) (drop n l)
take-++-take {A} m n l h = let e : m ≡ n + (m - n) = omega arith in ap (λ (k : ℕ). take k l) e ∙ take-add n (m - n) l

pub length-take⇒≤ : {A : Type 0} (k : ℕ) (l : List A) → length (take k l) ≡ k → k ≤ length l
length-take⇒≤ zero l q = omega arith
length-take⇒≤ (suc k) [] q = absurd (omega arith)
length-take⇒≤ (suc k) (x ∷ l) q = let r = length-take⇒≤ k l (omega arith) in omega arith

-- of a rising list those less than an element come first
pub Rising⇒Falls : {A : Type 0} (less : A → A → Bool)
    → ((x y z : A) → less x y ≡ true → less y z ≡ true → less x z ≡ true)
    → (e : A) (l : List A) → Rising less l → Falls (λ x. less x e) l
Rising⇒Falls less trans e l r =
    Pairs-⇒ {P = λ x. Unit {0}} (λ x y u v p n. ¬true⇒false (less y e) (λ q. clash (trans x y e p q) n)) l
    (All-In⁺ l (λ x i. tt)) r
