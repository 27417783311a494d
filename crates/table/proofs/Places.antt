-- The place of a stored mapping in either order (place-*, point-*), and the stored mapping at a place: that it is one (is_at⇒Inside, in-entries), that a test
-- holds of it (holds_at_lem, holds-in, holds-out), that it is the first of which one does (first_out, head_at_lem).
use mathlib.Core.Path.{◌≡◌, refl, sym, ◌∙◌}
use mathlib.Core.Bool.{Bool, true, false}
use mathlib.Core.Logic.{inl, inr}
use mathlib.Core.Option.{none, some}
use mathlib.Core.List.{List, [], ◌∷◌}
use Prim.Native.Nat.{ℕ, zero, suc, ◌<◌, ◌≤◌}
use native.Mathlib.Omega.{arith}
use lib.Dec.{ltb}
use lib.ListN.{length, take, drop, get_or, length-map, get_or-map}
use lib.Seq.{length-take-le, get_or-take}
use borrow.Author.Tests.{lt-ltb, le-ltb, ltb-true, ltb-false}
use Rattle.lists.specs.Pick.{pick}
use Rattle.lists.specs.Order.{In, Rising, first_of}
use Rattle.lists.proofs.Cases.{pick_no}
use Rattle.lists.proofs.Laws.{and_left, and_right}
use Rattle.lists.proofs.Order.{prefix-le, prefix-no, prefix-yes, head_if}
use Rattle.table.specs.Stored.{Stored, mk, point_in, less, point_less}
use Rattle.table.specs.Memory.{stored_list, stored_at}
use Rattle.table.specs.loops.Search.{is_at, holds_at, FirstAt, place_in, point_place_in, picked, point_seen}
use Rattle.table.proofs.StoredLaws.{less-trans, point-trans}
use Rattle.table.proofs.Entries.{length-entries, entries-step, entries-end, entries_at, drop-entries}
use Rattle.lists.proofs.Nth.{Rising⇒Falls}

-- the first order
module _ (a b : List ℕ) (e : Stored) (same : length a ≡ length b) where
  pub place-le : place_in e (stored_list a b) ≤ length a
  place-le = omega (arith, prefix-le (λ x. less x e) (stored_list a b), length-entries a b same)

  pub less⇒<place_in : Rising less (stored_list a b) → (m : ℕ)
      → m < length a
      → less (mk (get_or a m 0) (get_or b m 0)) e ≡ true
      → m < place_in e (stored_list a b)
  less⇒<place_in r m h q =
      prefix-yes (λ x. less x e) (stored_list a b) m (mk 0 0) (Rising⇒Falls less less-trans e (stored_list a b) r)
      (omega (arith, length-entries a b same)) (rw (entries_at a b m same h) q)

  pub ¬less⇒place_in≤ : (m : ℕ) → m < length a → less (mk (get_or a m 0) (get_or b m 0)) e ≡ false → place_in e (stored_list a b) ≤ m
  ¬less⇒place_in≤ m h q =
      prefix-no (λ x. less x e) (stored_list a b) m (mk 0 0) (omega (arith, length-entries a b same))
      (rw (entries_at a b m same h) q)

-- the second order
picked-at : (a b o : List ℕ) (m : ℕ) → get_or (picked a b o) m (stored_at a b 0) ≡ stored_at a b (get_or o m 0)
picked-at a b o m = get_or-map (stored_at a b) o m 0

module _ (a b o : List ℕ) (e : Stored) where
  pub point-le : point_place_in e (picked a b o) ≤ length o
  point-le = omega (arith, prefix-le (λ x. point_less x e) (picked a b o), length-map o (stored_at a b))

  pub point-yes : Rising point_less (picked a b o) → (m : ℕ)
      → m < length o
      → point_less (stored_at a b (get_or o m 0)) e ≡ true
      → m < point_place_in e (picked a b o)
  point-yes r m h q =
      prefix-yes (λ x. point_less x e) (picked a b o) m (stored_at a b 0)
      (Rising⇒Falls point_less point-trans e (picked a b o) r) (omega (arith, length-map o (stored_at a b)))
      (rw (picked-at a b o m) q)

  pub point-no : (m : ℕ)
      → m < length o
      → point_less (stored_at a b (get_or o m 0)) e ≡ false
      → point_place_in e (picked a b o) ≤ m
  point-no m h q =
      prefix-no (λ x. point_less x e) (picked a b o) m (stored_at a b 0) (omega (arith, length-map o (stored_at a b)))
      (rw (picked-at a b o m) q)

-- a place of the first n stored mappings
pub record Inside (n : ℕ) (codes infos : List ℕ) (at : ℕ) : Type 0 where
  pub below : at < n
  pub in-codes : at < length codes
  pub in-infos : at < length infos

pub is_at⇒Inside : (n : ℕ) (codes infos : List ℕ) (at : ℕ) → is_at n codes infos at ≡ true → Inside n codes infos at
unfolding is_at
is_at⇒Inside n codes infos at p =
    let q = and_right (ltb at n) _ p in
    record {
      below = ltb-true at n (and_left (ltb at n) _ p);
      in-codes = ltb-true at (length codes) (and_left (ltb at (length codes)) _ q);
      in-infos = ltb-true at (length infos) (and_right (ltb at (length codes)) _ q);
    }

pub in-entries : (n : ℕ) (codes infos : List ℕ) (at : ℕ) → Inside n codes infos at
    → In (stored_at codes infos at) (stored_list (take n codes) (take n infos))
unfolding stored_list
in-entries n codes infos at w = go n codes infos at w.below w.in-codes w.in-infos
  where
    go : (m : ℕ) (a b : List ℕ) (k : ℕ)
        → k < m
        → k < length a
        → k < length b
        → In (stored_at a b k) (stored_list (take m a) (take m b))
    go zero a b k p q r = absurd (omega arith)
    go (suc m) [] b k p q r = absurd (omega arith)
    go (suc m) (u ∷ a) [] k p q r = absurd (omega arith)
    go (suc m) (u ∷ a) (v ∷ b) zero p q r = inl refl
    go (suc m) (u ∷ a) (v ∷ b) (suc k) p q r = inr (go m a b k (omega arith) (omega arith) (omega arith))

-- f holds of the stored mapping there
pub holds_at_lem : (f : Stored → Bool) (n : ℕ) (codes infos : List ℕ) (at : ℕ) → holds_at f n codes infos at ≡ true
    → Inside n codes infos at × (f (stored_at codes infos at) ≡ true)
unfolding holds_at
holds_at_lem f n codes infos at p =
    (is_at⇒Inside n codes infos at (and_left (is_at n codes infos at) _ p), and_right (is_at n codes infos at) _ p)

module _ (f : Stored → Bool) (n : ℕ) (codes infos : List ℕ) (at : ℕ) where
  pub holds-in : at < n
      → at < length codes
      → at < length infos
      → holds_at f n codes infos at ≡ f (stored_at codes infos at)
  unfolding holds_at is_at
  holds-in p q r = rw (lt-ltb at n p, lt-ltb at (length codes) q, lt-ltb at (length infos) r)

  pub holds-out : n ≤ at → holds_at f n codes infos at ≡ false
  unfolding holds_at is_at
  holds-out h = rw (le-ltb at n h)

-- where f holds of none, any place behind the last will do
pub first_out : (f : Stored → Bool) (n : ℕ) (codes infos : List ℕ)
    → first_of f (stored_list (take n codes) (take n infos)) ≡ none
    → FirstAt f n codes infos n
first_out f n codes infos e =
    e ∙ sym (pick_no (holds_at f n codes infos n) (some (stored_at codes infos n)) none
    (holds-out f n codes infos n (omega arith)))

-- the code point at a place of the second order, through an index in range
pub point_seen-in : (infos order : List ℕ) (at : ℕ) → get_or order at 0 < length infos
    → point_seen infos order at ≡ point_in (get_or infos (get_or order at 0) 0)
point_seen-in infos order at h = rw (lt-ltb (get_or order at 0) (length infos) h)

-- the code point behind an index of the first n
pub taken-point : (n : ℕ) (infos order : List ℕ) (at : ℕ) → at < n → get_or order at 0 < n
    → point_in (get_or (take n infos) (get_or (take n order) at 0) 0) ≡ point_in (get_or infos (get_or order at 0) 0)
taken-point n infos order at h s =
    (λ t. point_in (get_or (take n infos) (get_or-take n order at 0 h t) 0)) ∙ (λ t. point_in (get_or-take n infos (get_or order at 0) 0 s t))

-- look-up of a code over the first n of the slices
module _ (n : ℕ) (codes infos : List ℕ) (c-long : n ≤ length codes) (i-long : n ≤ length infos) where
  first-codes : length (take n codes) ≡ n
  first-codes = length-take-le n codes c-long

  pub first-lengths : length (take n codes) ≡ length (take n infos)
  first-lengths = first-codes ∙ sym (length-take-le n infos i-long)

  abbrev es : List Stored
  es = stored_list (take n codes) (take n infos)

  pub head_at_lem : (f : Stored → Bool) (at : ℕ)
      → head_if f (drop at es) ≡ pick (holds_at f n codes infos at) (some (stored_at codes infos at)) none
  head_at_lem f at = go (ltb at n) refl
    where
      go : (t : Bool)
          → ltb at n ≡ t
          → head_if f (drop at es) ≡ pick (holds_at f n codes infos at) (some (stored_at codes infos at)) none
      go true p =
          let h = ltb-true at n p in
          rw (
            drop-entries (take n codes) (take n infos) at,
            entries-step (take n codes) (take n infos) at first-lengths (omega (arith, first-codes)),
            holds-in f n codes infos at h (omega arith) (omega arith),
          )
          (λ t. let x = mk (get_or-take n codes at 0 h t) (get_or-take n infos at 0 h t) in pick (f x) (some x) none)
      go false p =
          let h = ltb-false at n p in
          rw (
            drop-entries (take n codes) (take n infos) at,
            entries-end (take n codes) (take n infos) at (omega (arith, first-codes)),
            holds-out f n codes infos at h,
          )
