-- Strings of bytes: byte order is a strict total order; prefixes; the strings after a position and up to one.
-- before-iff   the first differing byte decides (cited by docs/LAWS.md)
-- before-irrefl, before-trans   it is strict       after_next, up_to-next   one string on, nothing is skipped
-- up_to-after-split   from one position to the next and on to a third
-- begins-++, begins⇒++   a prefix, both ways. Assumes nothing.
use Prim.Native.Nat.{ℕ, ◌<◌, suc, ◌≤◌}
use mathlib.Core.Path.{◌≡◌, refl, sym, subst, ◌∙◌, ap}
use mathlib.Core.Bool.{Bool, true, false, not}
use mathlib.Core.Logic.{◌⊎◌, inl, inr, ◌↔◌}
use mathlib.Core.List.{List, [], ◌∷◌, ◌++◌, map}
use native.Mathlib.Omega.{arith}
use lib.Dec.{ltb, eqb}
use borrow.Author.Tests.{lt-ltb, le-ltb, eq-eqb, ne_eqb, ltb-true, ltb-false, eqb-true}
use Rattle.lists.specs.Pick.{pick}
use Rattle.lists.specs.Order.{All, Rising, Comparable, filtered}
use Rattle.lists.proofs.Laws.{clash, ¬true⇒false, tests, and_left, and_right, and_yes}
use Rattle.lists.proofs.Order.{All-⇒}
use Rattle.lists.proofs.Filter.{filtered-all, filtered-none, pairs-filtered, filtered-after-next, filtered-not-after-next}
use Rattle.lists.specs.Strings.{same, before, after, up_to, begins, onto}
use lib.ListN.{length, drop}

-- by the first bytes
pub before-< : (a b : ℕ) (s t : List ℕ) → a < b → before (a ∷ s) (b ∷ t) ≡ true
unfolding before
before-< a b s t h = rw (lt-ltb a b h)

before-> : (a b : ℕ) (s t : List ℕ) → b < a → before (a ∷ s) (b ∷ t) ≡ false
unfolding before
before-> a b s t h =
    let e : ¬ (a ≡ b) = λ q. omega arith in
    rw (le-ltb a b (omega arith), ne_eqb a b e)

pub before-∷ : (a : ℕ) (s t : List ℕ) → before (a ∷ s) (a ∷ t) ≡ before s t
unfolding before
before-∷ a s t = rw (le-ltb a a (omega arith), eq-eqb a a refl)

before-∷⁻ : (a b : ℕ) (s t : List ℕ) → before (a ∷ s) (b ∷ t) ≡ true
    → (a < b) ⊎ ((a ≡ b) × (before s t ≡ true))
unfolding before
before-∷⁻ a b s t e = go (ltb a b) refl (eqb a b) refl e
  where
    go : (x : Bool) → ltb a b ≡ x → (y : Bool) → eqb a b ≡ y → pick x true (pick y (before s t) false) ≡ true
        → (a < b) ⊎ ((a ≡ b) × (before s t ≡ true))
    go true p y q e = inl (ltb-true a b p)
    go false p true q e = inr (eqb-true a b q, e)
    go false p false q e = absurd (clash e refl)

before-∷⁺ : (a b : ℕ) (s t : List ℕ) → (a < b) ⊎ ((a ≡ b) × (before s t ≡ true))
    → before (a ∷ s) (b ∷ t) ≡ true
before-∷⁺ a b s t (inl h) = before-< a b s t h
before-∷⁺ a b s t (inr h) = subst (λ (x : ℕ). before (a ∷ s) (x ∷ t) ≡ true) h.0 (before-∷ a s t ∙ h.1)

pub before-iff : (a b : ℕ) (s t : List ℕ)
    → (before (a ∷ s) (b ∷ t) ≡ true) ↔ ((a < b) ⊎ ((a ≡ b) × (before s t ≡ true)))
before-iff a b s t = (before-∷⁻ a b s t, before-∷⁺ a b s t)

-- a strict total order
pub before-irrefl : (s : List ℕ) → before s s ≡ false
unfolding before
before-irrefl [] = refl
before-irrefl (a ∷ s) = before-∷ a s s ∙ before-irrefl s

pub before-trans : (s t u : List ℕ) → before s t ≡ true → before t u ≡ true → before s u ≡ true
unfolding before
before-trans s t [] p q = q
before-trans [] t (c ∷ u) p q = refl
before-trans (a ∷ s) [] (c ∷ u) p q = absurd (clash p refl)
before-trans (a ∷ s) (b ∷ t) (c ∷ u) p q =
    go (before-trans s t u) (before-∷⁻ a b s t p) (before-∷⁻ b c t u q)
  where
    go : (before s t ≡ true → before t u ≡ true → before s u ≡ true) → (a < b) ⊎ ((a ≡ b) × (before s t ≡ true))
        → (b < c) ⊎ ((b ≡ c) × (before t u ≡ true)) → before (a ∷ s) (c ∷ u) ≡ true
    go ih (inl x) (inl y) = before-< a c s u (omega arith)
    go ih (inl x) (inr y) = before-< a c s u (omega (arith, y.0))
    go ih (inr x) (inl y) = before-< a c s u (omega (arith, x.0))
    go ih (inr x) (inr y) = before-∷⁺ a c s u (inr (x.0 ∙ y.0, ih x.1 y.1))

before-total : (s t : List ℕ) → (s ≡ t → ⊥) → Comparable before s t
unfolding before
before-total [] [] d = absurd (d refl)
before-total [] (b ∷ t) d = inl refl
before-total (a ∷ s) [] d = inr refl
before-total (a ∷ s) (b ∷ t) d = go (ltb a b) refl (ltb b a) refl (before-total s t)
  where
    same : a ≡ b → Comparable before s t → Comparable before (a ∷ s) (b ∷ t)
    same e (inl h) = inl (before-∷⁺ a b s t (inr (e, h)))
    same e (inr h) = inr (before-∷⁺ b a t s (inr (sym e, h)))

    go : (x : Bool) → ltb a b ≡ x → (y : Bool) → ltb b a ≡ y → ((s ≡ t → ⊥) → Comparable before s t)
        → Comparable before (a ∷ s) (b ∷ t)
    go true p y q ih = inl (before-< a b s t (ltb-true a b p))
    go false p true q ih = inr (before-< b a t s (ltb-true b a q))
    go false p false q ih =
        let u = ltb-false a b p in
        let v = ltb-false b a q in
        let e : a ≡ b = omega arith in
        same e (ih (λ r. d (λ i. e i ∷ r i)))

-- what comes after q comes after p too, where q does not come before p
not-before-trans : (p q x : List ℕ) → before q p ≡ false → before q x ≡ true → before p x ≡ true
not-before-trans p q x h e = go (before p x) refl
  where
    go : (b : Bool) → before p x ≡ b → b ≡ true
    go true w = refl
    go false w =
        absurd (clash (some (before-total p x (λ r. clash (subst (λ (y : List ℕ). before q y ≡ true) (sym r) e) h))) w)
      where
        some : Comparable before p x → before p x ≡ true
        some (inl u) = u
        some (inr u) = absurd (clash (before-trans q x p e u) h)

-- those after a position, of lists put one behind the other and of strings with one byte put in front
pick-map-∷ : (b : Bool) (x : ℕ) (c : List ℕ) (l : List (List ℕ))
    → pick b ((x ∷ c) ∷ map (λ s. x ∷ s) l) (map (λ s. x ∷ s) l) ≡ map (λ s. x ∷ s) (pick b (c ∷ l) l)
pick-map-∷ true x c l = refl
pick-map-∷ false x c l = refl

pub after-map-∷ : (b : ℕ) (p : List ℕ) (l : List (List ℕ))
    → after (b ∷ p) (map (λ s. b ∷ s) l) ≡ map (λ s. b ∷ s) (after p l)
unfolding filtered
after-map-∷ b p [] = refl
after-map-∷ b p (c ∷ l) = rw (before-∷ b p c, after-map-∷ b p l) (pick-map-∷ (before p c) b c (after p l))

pub after-map-low : (a b : ℕ) (p : List ℕ) → b < a → (l : List (List ℕ)) → after (a ∷ p) (map (λ s. b ∷ s) l) ≡ []
unfolding filtered
after-map-low a b p h [] = refl
after-map-low a b p h (c ∷ l) = rw (before-> a b p c h, after-map-low a b p h l)

-- those after p, of which all are
pub after-all : (p : List ℕ) (l : List (List ℕ)) → All (λ s. before p s ≡ true) l → after p l ≡ l
after-all p l h = filtered-all (before p) l h

up_to-none : (q : List ℕ) (l : List (List ℕ)) → All (λ s. before q s ≡ true) l → up_to q l ≡ []
unfolding filtered
up_to-none q l h = filtered-none (λ c. not (before q c)) l (All-⇒ (λ c e. ap not e) l h)

-- a string that comes after p, and all behind it in a rising list
All-before : (p x : List ℕ) (l : List (List ℕ)) → before p x ≡ true → All (λ s. before x s ≡ true) l
    → All (λ s. before p s ≡ true) l
All-before p x l e h = All-⇒ (λ s q. before-trans p x s e q) l h

-- nothing is skipped: those after the first after p are the rest of those after p
pub after_next : (p c : List ℕ) (l k : List (List ℕ)) → Rising before l → after p l ≡ c ∷ k → after c l ≡ k
after_next p c l k r q = filtered-after-next before (λ s. s) before-irrefl before-trans p c l k r q

-- and it is the one string more that is up to it
pub up_to-next : (p c : List ℕ) (l k : List (List ℕ)) → Rising before l → after p l ≡ c ∷ k
    → up_to c l ≡ up_to p l ++ (c ∷ [])
up_to-next p c l k r q = filtered-not-after-next before (λ s. s) before-irrefl before-trans p c l k r q

-- the first string after p comes after p
pub after⇒before : (p c : List ℕ) (l k : List (List ℕ)) → after p l ≡ c ∷ k → before p c ≡ true
unfolding filtered
after⇒before p c [] k q = absurd (let z : ◌≡◌ {A = ℕ} 0 1 = cc in omega arith)
after⇒before p c (x ∷ l) k q = go (before p x) refl (after⇒before p c l k) q
  where
    go : (b : Bool) → before p x ≡ b → (after p l ≡ c ∷ k → before p c ≡ true)
        → pick b (x ∷ after p l) (after p l) ≡ c ∷ k → before p c ≡ true
    go true e ih q = let w : x ≡ c = cc in rw w at e
    go false e ih q = ih q

-- those after q, of those after a position that q does not come before
pub after-after : (p q : List ℕ) → before q p ≡ false → (l : List (List ℕ)) → after q (after p l) ≡ after q l
unfolding filtered
after-after p q h [] = refl
after-after p q h (x ∷ l) = go (before p x) refl (before q x) refl (after-after p q h l)
  where
    go : (a : Bool) → before p x ≡ a → (b : Bool) → before q x ≡ b → after q (after p l) ≡ after q l
        → after q (pick a (x ∷ after p l) (after p l)) ≡ pick b (x ∷ after q l) (after q l)
    go true e b f ih = rw (f, ih)
    go false e true f ih = absurd (clash (not-before-trans p q x h f) e)
    go false e false f ih = ih

-- those after p stay rising
pub Rising-after : (p : List ℕ) (l : List (List ℕ)) → Rising before l → Rising before (after p l)
Rising-after p l h = pairs-filtered (before p) (λ s t. before s t ≡ true) l h

-- those up to r are those up to q and then those after q up to r
up_to-split : (q r : List ℕ) → before r q ≡ false → (l : List (List ℕ)) → Rising before l
    → up_to r l ≡ up_to q l ++ up_to r (after q l)
unfolding filtered
up_to-split q r h [] s = refl
up_to-split q r h (x ∷ l) s = go (before q x) refl (up_to-split q r h l s.1)
  where
    go : (b : Bool) → before q x ≡ b → up_to r l ≡ up_to q l ++ up_to r (after q l)
        → up_to r (x ∷ l) ≡ up_to q (x ∷ l) ++ up_to r (after q (x ∷ l))
    go true e ih =
        let all = All-before q x l e s.0 in
        rw (e, up_to-none q l all, after-all q l all)
    go false e ih =
        let w : before r x ≡ false = ¬true⇒false (before r x) (λ p. clash (not-before-trans q r x h p) e) in
        rw (e, w, ih)

pub up_to-after-split : (p q r : List ℕ) → before q p ≡ false → before r q ≡ false → (l : List (List ℕ))
    → Rising before l
    → up_to r (after p l) ≡ up_to q (after p l) ++ up_to r (after q l)
up_to-after-split p q r h k l s =
    up_to-split q r k (after p l) (Rising-after p l s)
    ∙ ap (λ (m : List (List ℕ)). up_to q (after p l) ++ up_to r m) (after-after p q h l)

-- a word that the list begins with
pub begins-++ : (w r : List ℕ) → begins w (w ++ r) ≡ true
unfolding begins
begins-++ [] r = refl
begins-++ (x ∷ w) r = let e : eqb x x ≡ true = search tests in rw (e, begins-++ w r)

pub begins⇒++ : (w t : List ℕ) → begins w t ≡ true → t ≡ w ++ drop (length w) t
unfolding begins
begins⇒++ [] t e = refl
begins⇒++ (x ∷ w) [] e = absurd (clash e refl)
begins⇒++ (x ∷ w) (b ∷ t) e =
    let h = and_left (eqb x b) (begins w t) e in
    ap (λ (y : ℕ). y ∷ t) (sym (eqb-true x b h))
    ∙ ap (λ (l : List ℕ). x ∷ l) (begins⇒++ w t (and_right (eqb x b) (begins w t) e))

-- no more lines than bytes
pub length-onto : (b n : ℕ) (ls : List (List ℕ)) → length ls ≤ n → length (onto b ls) ≤ suc n
unfolding onto
length-onto b n [] h = omega arith
length-onto b n (l ∷ ls) h = omega arith

-- ## The same bytes

-- the same bytes
pub same⇒≡ : (s t : List ℕ) → same s t ≡ true → s ≡ t
unfolding same
same⇒≡ [] [] h = refl
same⇒≡ [] (b ∷ t) h = absurd (clash h refl)
same⇒≡ (a ∷ s) [] h = absurd (clash h refl)
same⇒≡ (a ∷ s) (b ∷ t) h =
    let p : a ≡ b = eqb-true a b (and_left (eqb a b) (same s t) h) in
    (λ i. p i ∷ same⇒≡ s t (and_right (eqb a b) (same s t) h) i)

pub same_refl : (s : List ℕ) → same s s ≡ true
unfolding same
same_refl [] = refl
same_refl (a ∷ s) = and_yes (eqb a a) (same s s) (eq-eqb a a refl) (same_refl s)
