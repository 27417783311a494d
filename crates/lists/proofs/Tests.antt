-- Laws of the tests over a list or a range of numbers: `all_of`, `any_of`, `all_below`, `some_below`, `zeros`.
use mathlib.Core.Path.{◌≡◌, refl, ap, subst, sym, ◌∙◌}
use mathlib.Core.Bool.{Bool, true, false}
use mathlib.Core.Logic.{inl, inr, ⊎_elim, ◌↔◌}
use mathlib.Core.List.{List, [], ◌∷◌}
use Rattle.lists.specs.Pick.{pick}
use Rattle.lists.specs.Order.{All, In}
use Rattle.lists.proofs.Laws.{clash, and_yes, and_left, and_right, ¬true⇒false}
use Rattle.lists.specs.Tests.{any_of, all_below, some_below, all_of, zeros}
use Prim.Native.Nat.{ℕ, zero, suc, ◌+◌, ◌-◌, ◌<◌, ◌≤◌}
use native.Mathlib.Nat.{eq-or-lt_of_le, le_of_suc-le-suc}
use native.Mathlib.Omega.{arith}
use lib.Dec.{eqb}
use lib.ListN.{length, get_or, take, drop}
use Rattle.std.specs.List.{fold}
use Rattle.std.specs.Int.Bits.{bit_or, or_zero_l}
use Rattle.std.proofs.lemmas.Nat.{le_or_l}
use borrow.Author.Tests.{eqb-true, ne_eqb}
use Rattle.lists.proofs.Choice.{pick-true-false, and-absorb, and-swap-right, and-interchange, or-implies}
use Rattle.lists.proofs.Parts.{take-drop-∷}
use Rattle.lists.proofs.Order.{All-⇒, All-In⁻}

-- some element
pub any_of⇒In : {A : Type 0} (f : A → Bool) (l : List A) → any_of f l ≡ true → (x : A) × (In x l × (f x ≡ true))
unfolding any_of
any_of⇒In f [] h = absurd (clash h refl)
any_of⇒In {A} f (x ∷ l) h = go (f x) refl (any_of⇒In f l) h
  where
    go : (t : Bool) → f x ≡ t → (any_of f l ≡ true → (y : A) × (In y l × (f y ≡ true)))
        → pick t true (any_of f l) ≡ true → (y : A) × (In y (x ∷ l) × (f y ≡ true))
    go true p ih q = (x, (inl refl, p))
    go false p ih q = let r = ih q in (r.0, (inr r.1.0, r.1.1))

pub In⇒any_of : {A : Type 0} (f : A → Bool) (x : A) (l : List A) → In x l → f x ≡ true → any_of f l ≡ true
unfolding any_of
In⇒any_of f x [] i h = absurd i
In⇒any_of {A} f x (y ∷ l) (inl e) h = ap (λ (t : Bool). pick t true (any_of f l)) (subst (λ (z : A). f z ≡ true) e h)
In⇒any_of f x (y ∷ l) (inr i) h = go (f y) (In⇒any_of f x l i h)
  where
    go : (t : Bool) → any_of f l ≡ true → pick t true (any_of f l) ≡ true
    go true q = refl
    go false q = q

-- and none
pub any_of-no⁻ : {A : Type 0} (f : A → Bool) (l : List A) → any_of f l ≡ false → All (λ x. f x ≡ false) l
unfolding any_of
any_of-no⁻ f [] e = tt
any_of-no⁻ f (x ∷ l) e = go (any_of-no⁻ f l) (f x) refl e
  where
    go : (any_of f l ≡ false → All (λ y. f y ≡ false) l) → (b : Bool) → f x ≡ b → pick b true (any_of f l) ≡ false
        → (f x ≡ false) × All (λ y. f y ≡ false) l
    go ih true q e = absurd (clash refl e)
    go ih false q e = (q, ih e)

-- a test that holds of just the P holds of some element, or of none
module _ {A : Type 0} (f : A → Bool) (P : A → Type 0) (is : (x : A) → (f x ≡ true) ↔ P x) where
  pub any_of-no⇔ : (l : List A) → (any_of f l ≡ false) ↔ All (λ x. P x → ⊥) l
  any_of-no⇔ l = (
    λ e. let g : (x : A) → f x ≡ false → P x → ⊥ = λ x h p. clash ((is x).1 p) h in All-⇒ g l (any_of-no⁻ f l e),
    λ a. ¬true⇒false (any_of f l)
        (λ e. let r = any_of⇒In f l e in All-In⁻ (λ x. P x → ⊥) r.0 l a r.1.0 ((is r.0).0 r.1.1)),
  )

  pub any_of-yes⇔ : (l : List A) → (any_of f l ≡ true) ↔ ((x : A) × In x l × P x)
  any_of-yes⇔ l =
      (λ e. let r = any_of⇒In f l e in (r.0, r.1.0, (is r.0).0 r.1.1), λ s. In⇒any_of f s.0 l s.1 ((is s.0).1 s.2))

-- every element
pub all_of-get_d : {A : Type 0} (f : A → Bool) (l : List A) (i : ℕ) (d : A) → all_of f l ≡ true → i < length l
    → f (get_or l i d) ≡ true
unfolding all_of
all_of-get_d f [] i d a h = absurd (omega arith)
all_of-get_d f (x ∷ l) zero d a h = and_left (f x) (all_of f l) a
all_of-get_d f (x ∷ l) (suc i) d a h = all_of-get_d f l i d (and_right (f x) (all_of f l) a) (omega arith)

-- the part from a place up to an end, by the element there
pub all_of-turn : (f : ℕ → Bool) (l : List ℕ) (i m : ℕ) → i < m → i < length l
    → all_of f (take (m - i) (drop i l))
    ≡ pick (f (get_or l i 0)) (all_of f (take (m - (i + 1)) (drop (i + 1) l))) false
unfolding all_of
all_of-turn f l i m h k = rw (take-drop-∷ l i m h k)

pub all_of-end : (f : ℕ → Bool) (l : List ℕ) (i m : ℕ) → m ≤ i → all_of f (take (m - i) (drop i l)) ≡ true
unfolding all_of
all_of-end f l i m h = let e : m - i ≡ 0 = omega arith in rw e

-- all are zeros exactly if no bit is set in any
any-zeros : (l : List ℕ) (a : ℕ) → eqb (fold bit_or a l) 0 ≡ pick (eqb a 0) (zeros l) false
unfolding zeros
any-zeros [] a = sym (pick-true-false (eqb a 0))
any-zeros (x ∷ l) zero = any-zeros l (bit_or zero x) ∙ rw (or_zero_l x)
any-zeros (x ∷ l) (suc a) =
    let some : suc a ≤ bit_or (suc a) x = le_or_l (suc a) x in
    any-zeros l (bit_or (suc a) x) ∙ rw (ne_eqb (bit_or (suc a) x) 0 (λ e. omega arith), ne_eqb (suc a) 0 (λ e. omega arith))

pub zeros-fold : (l : List ℕ) → eqb (fold bit_or 0 l) 0 ≡ zeros l
zeros-fold l = any-zeros l 0

pub get_d-zeros : (l : List ℕ) (i : ℕ) → zeros l ≡ true → get_or l i 0 ≡ 0
unfolding zeros
get_d-zeros [] i a = refl
get_d-zeros (x ∷ l) zero a = eqb-true x 0 (and_left (eqb x 0) (zeros l) a)
get_d-zeros (x ∷ l) (suc i) a = get_d-zeros l i (and_right (eqb x 0) (zeros l) a)

-- a test of every number below a bound
pub all_below-yes⁻ : (f : ℕ → Bool) (n : ℕ) → all_below f n ≡ true → (k : ℕ) → k < n → f k ≡ true
unfolding all_below
all_below-yes⁻ f zero a k h = absurd (omega arith)
all_below-yes⁻ f (suc n) a k h =
    ⊎_elim
    (λ e. subst (λ (m : ℕ). f m ≡ true) (sym e) (and_right (all_below f n) (f n) a))
    (λ l. all_below-yes⁻ f n (and_left (all_below f n) (f n) a) k l)
    (eq-or-lt_of_le (le_of_suc-le-suc h))

pub all_below-ext : (f g : ℕ → Bool) (n : ℕ) → ((k : ℕ) → k < n → f k ≡ g k) → all_below f n ≡ all_below g n
unfolding all_below
all_below-ext f g zero h = refl
all_below-ext f g (suc n) h = rw (all_below-ext f g n (λ k q. h k (omega arith)), h n (omega arith))

pub all_below-yes⁺ : (f : ℕ → Bool) (n : ℕ) → ((k : ℕ) → k < n → f k ≡ true) → all_below f n ≡ true
unfolding all_below
all_below-yes⁺ f zero h = refl
all_below-yes⁺ f (suc n) h = and_yes (all_below f n) (f n) (all_below-yes⁺ f n (λ k q. h k (omega arith))) (h n (omega arith))

-- a test that asks more at one number
all_below-but-one : (f g : ℕ → Bool) (n p : ℕ) → p < n → ((k : ℕ) → k < n → (k ≡ p → ⊥) → f k ≡ g k)
    → (g p ≡ true → f p ≡ true) → all_below g n ≡ pick (all_below f n) (g p) false
unfolding all_below
all_below-but-one f g zero p h same more = absurd (omega arith)
all_below-but-one f g (suc n) p h same more =
    ⊎_elim
    (λ e. last e)
    (λ l. early (omega arith) (all_below-but-one f g n p l (λ k q. same k (omega arith)) more))
    (eq-or-lt_of_le (le_of_suc-le-suc h))
  where
    last : p ≡ n → pick (all_below g n) (g n) false ≡ pick (pick (all_below f n) (f n) false) (g p) false
    last e =
        rw (e, sym (all_below-ext f g n (λ k q. same k (omega arith) (λ r. omega arith))))
        (and-absorb (all_below f n) (f n) (g n) (subst (λ (m : ℕ). g m ≡ true → f m ≡ true) e more))

    early : (n ≡ p → ⊥) → all_below g n ≡ pick (all_below f n) (g p) false
        → pick (all_below g n) (g n) false ≡ pick (pick (all_below f n) (f n) false) (g p) false
    early d e = rw (e, same n (omega arith) d) (and-swap-right (all_below f n) (g n) (g p))

-- a test that only one number can fail
pub all_below-one : (g : ℕ → Bool) (n p : ℕ) → p < n → ((k : ℕ) → k < n → (k ≡ p → ⊥) → g k ≡ true)
    → all_below g n ≡ g p
all_below-one g n p h other =
    all_below-but-one (λ k. true) g n p h (λ k q d. sym (other k q d)) (λ e. refl)
    ∙ rw (all_below-yes⁺ (λ k. true) n (λ k q. refl))

all_below-and : (f g : ℕ → Bool) (n : ℕ)
    → all_below (λ k. pick (f k) (g k) false) n ≡ pick (all_below f n) (all_below g n) false
unfolding all_below
all_below-and f g zero = refl
all_below-and f g (suc n) = rw (all_below-and f g n) (and-interchange (all_below f n) (all_below g n) (f n) (g n))

pub all_below-swap : (f : ℕ → ℕ → Bool) (m n : ℕ)
    → all_below (λ k. all_below (λ b. f k b) m) n ≡ all_below (λ b. all_below (λ k. f k b) n) m
unfolding all_below
all_below-swap f m zero = sym (all_below-yes⁺ (λ b. true) m (λ b q. refl))
all_below-swap f m (suc n) = rw (all_below-swap f m n) (sym (all_below-and (λ b. all_below (λ k. f k b) n) (λ b. f n b) m))

-- some number below a bound
pub some_below-yes⁺ : (f : ℕ → Bool) (n k : ℕ) → k < n → f k ≡ true → some_below f n ≡ true
unfolding some_below
some_below-yes⁺ f zero k h e = absurd (omega arith)
some_below-yes⁺ f (suc n) k h e =
    ⊎_elim (λ q. here (some_below f n) (subst (λ (m : ℕ). f m ≡ true) q e)) (λ l. rw (some_below-yes⁺ f n k l e))
    (eq-or-lt_of_le (le_of_suc-le-suc h))
  where
    here : (t : Bool) → f n ≡ true → pick t true (f n) ≡ true
    here true p = refl
    here false p = p

pub some_below-no⁻ : (f : ℕ → Bool) (n : ℕ) → some_below f n ≡ false → (k : ℕ) → k < n → f k ≡ false
some_below-no⁻ f n e k h = ¬true⇒false (f k) (λ p. clash (some_below-yes⁺ f n k h p) e)

pub some_below-ext : (f g : ℕ → Bool) (n : ℕ) → ((k : ℕ) → k < n → f k ≡ g k) → some_below f n ≡ some_below g n
unfolding some_below
some_below-ext f g zero h = refl
some_below-ext f g (suc n) h = rw (some_below-ext f g n (λ k q. h k (omega arith)), h n (omega arith))

pub some_below-no⁺ : (f : ℕ → Bool) (n : ℕ) → ((k : ℕ) → k < n → f k ≡ false) → some_below f n ≡ false
unfolding some_below
some_below-no⁺ f zero h = refl
some_below-no⁺ f (suc n) h = rw (some_below-no⁺ f n (λ k q. h k (omega arith)), h n (omega arith))

pub some_below-implies : (f : ℕ → Bool) (x : Bool) (n : ℕ)
    → pick (some_below f n) x true ≡ all_below (λ b. pick (f b) x true) n
unfolding some_below all_below
some_below-implies f x zero = refl
some_below-implies f x (suc n) = or-implies (some_below f n) (f n) x ∙ rw (some_below-implies f x n)
