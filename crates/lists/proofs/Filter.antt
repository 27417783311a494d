-- `filtered f l`, the elements of a list that pass a test: what they are, how many, and what changes one element on.
use Prim.Native.Nat.{suc, ◌+◌}
use native.Mathlib.Omega.{arith}
use mathlib.Core.Path.{◌≡◌, refl, sym, ap, ◌∙◌, subst}
use mathlib.Core.Bool.{Bool, true, false, not}
use mathlib.Core.List.{List, [], ◌∷◌, ◌++◌, nil≢cons, cons≢nil, head-eq_of_cons-eq, tail-eq_of_cons-eq}
use lib.ListN.{length}
use Rattle.lists.specs.Pick.{pick}
use Rattle.lists.specs.Order.{All, Pairs, Rising, filtered}
use Rattle.lists.proofs.Laws.{clash, ¬true⇒false}
use Rattle.lists.proofs.Order.{All-⇒}

pub not-true : {b : Bool} → b ≡ true → not b ≡ false
not-true e = rw e

pub not-false : {b : Bool} → b ≡ false → not b ≡ true
not-false e = rw e

module _ {A : Type 0} (f : A → Bool) where
  pub filtered-yes : (x : A) (l : List A) → f x ≡ true → filtered f (x ∷ l) ≡ x ∷ filtered f l
  unfolding filtered
  filtered-yes x l e = rw e

  pub filtered-no : (x : A) (l : List A) → f x ≡ false → filtered f (x ∷ l) ≡ filtered f l
  unfolding filtered
  filtered-no x l e = rw e

  pub filtered-all : (l : List A) → All (λ x. f x ≡ true) l → filtered f l ≡ l
  unfolding filtered
  filtered-all [] h = refl
  filtered-all (x ∷ l) h = filtered-yes x l h.0 ∙ ap (λ (m : List A). x ∷ m) (filtered-all l h.1)

  pub filtered-none : (l : List A) → All (λ x. f x ≡ false) l → filtered f l ≡ []
  unfolding filtered
  filtered-none [] h = refl
  filtered-none (x ∷ l) h = filtered-no x l h.0 ∙ filtered-none l h.1

  -- each of them is one of the list, and passes the test
  pub filtered-keep : (Q : A → Type 0) (l : List A) → All Q l → All (λ x. Q x × (f x ≡ true)) (filtered f l)
  unfolding filtered
  filtered-keep Q [] h = tt
  filtered-keep Q (x ∷ l) h = go (f x) refl (filtered-keep Q l h.1)
    where
      go : (b : Bool) → f x ≡ b → All (λ y. Q y × (f y ≡ true)) (filtered f l)
          → All (λ y. Q y × (f y ≡ true)) (pick b (x ∷ filtered f l) (filtered f l))
      go true e r = ((h.0, e), r)
      go false e r = r

  -- if no element passes f, filtering by `not f` keeps the list
  pub filtered-rest : (l : List A) → filtered f l ≡ [] → filtered (λ x. not (f x)) l ≡ l
  unfolding filtered
  filtered-rest [] e = refl
  filtered-rest (x ∷ l) e = go (f x) (filtered-rest l) e
    where
      go : (b : Bool) → (filtered f l ≡ [] → filtered (λ x. not (f x)) l ≡ l) → pick b (x ∷ filtered f l) (filtered f l) ≡ []
          → pick (not b) (x ∷ filtered (λ x. not (f x)) l) (filtered (λ x. not (f x)) l) ≡ x ∷ l
      go true ih e = absurd (cons≢nil e)
      go false ih e = ap (λ (m : List A). x ∷ m) (ih e)

  -- they and the others are as many as the list has
  pub filtered-both : (l : List A) → length (filtered f l) + length (filtered (λ x. not (f x)) l) ≡ length l
  unfolding filtered
  filtered-both [] = refl
  filtered-both (x ∷ l) = go (f x) (filtered-both l)
    where
      go : (b : Bool) → length (filtered f l) + length (filtered (λ x. not (f x)) l) ≡ length l
          → length (pick b (x ∷ filtered f l) (filtered f l))
          + length (pick (not b) (x ∷ filtered (λ x. not (f x)) l) (filtered (λ x. not (f x)) l)) ≡ suc (length l)
      go true e = omega arith
      go false e = omega arith

  pub filtered-append : (l m : List A) → filtered f (l ++ m) ≡ filtered f l ++ filtered f m
  unfolding filtered
  filtered-append [] m = refl
  filtered-append (x ∷ l) m = go (f x) (filtered-append l m)
    where
      go : (b : Bool) → filtered f (l ++ m) ≡ filtered f l ++ filtered f m
          → pick b (x ∷ filtered f (l ++ m)) (filtered f (l ++ m)) ≡ pick b (x ∷ filtered f l) (filtered f l) ++ filtered f m
      go true e = ap (λ (k : List A). x ∷ k) e
      go false e = e

  -- what holds of all elements, or of every pair, holds of those
  pub all-filtered : (Q : A → Type 0) (l : List A) → All Q l → All Q (filtered f l)
  all-filtered Q l h = All-⇒ (λ x k. k.0) (filtered f l) (filtered-keep Q l h)

  pub pairs-filtered : (R : A → A → Type 0) (l : List A) → Pairs R l → Pairs R (filtered f l)
  unfolding filtered
  pairs-filtered R [] h = tt
  pairs-filtered R (x ∷ l) h = go (f x) (pairs-filtered R l h.1)
    where
      go : (b : Bool) → Pairs R (filtered f l) → Pairs R (pick b (x ∷ filtered f l) (filtered f l))
      go true r = (all-filtered (R x) l h.0, r)
      go false r = r

-- elements up to and including a position
abbrev up_to : {A P : Type 0} → (P → A → Bool) → P → List A → List A
up_to after p l = filtered (λ a. not (after p a)) l

-- elements of type A after a position of type P, where each element has a position of its own
module _ {A P : Type 0} (after : P → A → Bool) (at : A → P) (irrefl : (a : A) → after (at a) a ≡ false)
    (trans : (p : P) (a b : A) → after p a ≡ true → after (at a) b ≡ true → after p b ≡ true) where
  abbrev before : A → A → Bool
  before a b = after (at a) b

  behind : (p : P) (d : A) (l : List A) → after p d ≡ true → All (λ b. before d b ≡ true) l
      → All (λ b. after p b ≡ true) l
  behind p d l e h = All-⇒ (λ b q. trans p d b e q) l h

  not_back : (a b : A) → before a b ≡ true → before b a ≡ false
  not_back a b t = ¬true⇒false (before b a) (λ u. clash (trans (at a) b a t u) (irrefl a))

  -- the first element after a position, by whether the first of the list is it
  here : (p : P) (c d : A) (l r : List A) → after p d ≡ true → All (λ b. before d b ≡ true) l
      → filtered (after p) (d ∷ l) ≡ c ∷ r → (d ≡ c) × (l ≡ r)
  here p c d l r t h e =
      let q : d ∷ filtered (after p) l ≡ c ∷ r = sym (filtered-yes (after p) d l t) ∙ e in
      (head-eq_of_cons-eq q, sym (filtered-all (after p) l (behind p d l t h)) ∙ tail-eq_of_cons-eq q)

  later : (p : P) (c d : A) (l r : List A) → after p d ≡ false → All (λ b. before d b ≡ true) l
      → filtered (after p) (d ∷ l) ≡ c ∷ r → (filtered (after p) l ≡ c ∷ r) × (before c d ≡ false)
  later p c d l r t h e =
      let q : filtered (after p) l ≡ c ∷ r = sym (filtered-no (after p) d l t) ∙ e in
      let k : All (λ b. (before d b ≡ true) × (after p b ≡ true)) (c ∷ r) =
      subst (All (λ b. (before d b ≡ true) × (after p b ≡ true))) q
      (filtered-keep (after p) (λ b. before d b ≡ true) l h) in
      (q, not_back d c k.0.0)

  -- nothing is skipped: those after the first after p are the rest of those after p
  pub filtered-after-next : (p : P) (c : A) (l r : List A) → Rising before l → filtered (after p) l ≡ c ∷ r
      → filtered (after (at c)) l ≡ r
  unfolding filtered
  filtered-after-next p c [] r h e = absurd (nil≢cons e)
  filtered-after-next p c (d ∷ l) r h e = go (filtered-after-next p c l r h.1) (after p d) refl
    where
      go : (filtered (after p) l ≡ c ∷ r → filtered (after (at c)) l ≡ r) → (b : Bool) → after p d ≡ b
          → filtered (after (at c)) (d ∷ l) ≡ r
      go ih true t =
          let w = here p c d l r t h.0 e in
          subst (λ (x : A). filtered (after (at x)) (d ∷ l) ≡ r) w.0
          (filtered-no (before d) d l (irrefl d) ∙ filtered-all (before d) l h.0 ∙ w.1)
      go ih false t = let w = later p c d l r t h.0 e in filtered-no (before c) d l w.1 ∙ ih w.0

  -- and it is the one element more that is up to it
  pub filtered-not-after-next : (p : P) (c : A) (l r : List A) → Rising before l → filtered (after p) l ≡ c ∷ r
      → up_to after (at c) l ≡ up_to after p l ++ (c ∷ [])
  unfolding filtered
  filtered-not-after-next p c [] r h e = absurd (nil≢cons e)
  filtered-not-after-next p c (d ∷ l) r h e = go (filtered-not-after-next p c l r h.1) (after p d) refl
    where
      go : (filtered (after p) l ≡ c ∷ r → up_to after (at c) l ≡ up_to after p l ++ (c ∷ [])) → (b : Bool)
          → after p d ≡ b → up_to after (at c) (d ∷ l) ≡ up_to after p (d ∷ l) ++ (c ∷ [])
      go ih true t =
          let w = here p c d l r t h.0 e in
          let one : up_to after (at d) (d ∷ l) ≡ d ∷ [] =
          filtered-yes (λ x. not (before d x)) d l (not-false (irrefl d))
          ∙ ap (λ (m : List A). d ∷ m)
          (filtered-none (λ x. not (before d x)) l (All-⇒ (λ b q. not-true q) l h.0)) in
          let none-p : up_to after p (d ∷ l) ≡ [] =
          filtered-none (λ x. not (after p x)) (d ∷ l)
          (not-true t, All-⇒ (λ b q. not-true q) l (behind p d l t h.0)) in
          subst (λ (x : A). up_to after (at x) (d ∷ l) ≡ up_to after p (d ∷ l) ++ (x ∷ [])) w.0
          (one ∙ ap (λ (m : List A). m ++ (d ∷ [])) (sym none-p))
      go ih false t =
          let w = later p c d l r t h.0 e in
          filtered-yes (λ x. not (before c x)) d l (not-false w.1)
          ∙ ap (λ (m : List A). d ∷ m) (ih w.0)
          ∙ ap (λ (m : List A). m ++ (c ∷ [])) (sym (filtered-yes (λ x. not (after p x)) d l (not-false t)))
