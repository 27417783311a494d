-- The indices in the second order: there is one order, and the test of the indices holds exactly of it.
-- all-nth, nth_in, in-nth                stored mappings by index
-- index_less-trans, Rising-order_of, length-order_of, In-order_of⁻, in_order_lem    the order of a list: it rises, and has each index once
-- order_of-unique                           indices in range that rise are the order
-- passed-order, passed-writes            indices that pass the test are the order, and no two stored mappings clash in writing
-- order-passes                           the order of stored mappings that keep T9 passes
use mathlib.Core.Path.{◌≡◌, refl, sym, ◌∙◌, subst}
use mathlib.Core.Bool.{Bool, true, false}
use mathlib.Core.List.{List, [], ◌∷◌, map}
use Prim.Native.Nat.{ℕ, ◌<◌, ◌≤◌}
use native.Mathlib.Omega.{arith}
use lib.Dec.{ltb}
use lib.ListN.{length, length-map, get_or, get_or-map}
use borrow.Author.Tests.{lt-ltb, ltb-true, ltb-false}
use Rattle.lists.specs.Order.{All, Pairs, In, Rising, Comparable, up_from}
use Rattle.lists.proofs.Laws.{clash, and_yes, and_left, and_right}
use Rattle.lists.proofs.Order.{All-⇒, All-In⁻, All-In⁺, Pairs-⇒, Pairs-In⁻, rises_from⇒Rising, Rising⇒rises_from, Rising-unique, In-sort⁻, In-sort⁺, length-sort, Rising-sort, In-up_from⁺, In-up_from⁻, length-up_from, Pairs-up_from⁺, pigeonhole, All-get_d⁻, less⇒≢}
use Rattle.table.specs.Stored.{Stored, bits_of, info_of, less, point_less, write_clash, write_next, mk}
use Rattle.table.specs.Memory.{stored_at, nth, index_less, order_of}
use Rattle.table.specs.Valid.{index_next, ordered}
use Rattle.table.proofs.StoredLaws.{less-irrefl, point-irrefl, point-trans, point-apart, less-trans, writing, clash-sym, next-yes, next-parts, next-trans}
use Rattle.lists.proofs.Nth.{Pairs-get_d⁻, Pairs-get_d⁺, In-get_d, In⇒get_d}
use Rattle.table.specs.loops.Search.{Apart, AllApart}

-- the stored mapping at an index
nth-is : (es : List Stored) → nth es ≡ (λ (i : ℕ). get_or es i (mk 0 0))
nth-is es = λ t i. mk (get_or-map bits_of es i (mk 0 0) t) (get_or-map info_of es i (mk 0 0) t)

pub all-nth : (P : Stored → Type 0) (es : List Stored) → All P es → (i : ℕ) → i < length es → P (nth es i)
all-nth P es h i q = subst (λ (at : ℕ → Stored). P (at i)) (sym (nth-is es)) (All-get_d⁻ P es i (mk 0 0) h q)

pairs-nth : (R : Stored → Stored → Type 0) (es : List Stored)
    → Pairs R es
    → (i j : ℕ)
    → i < j
    → j < length es
    → R (nth es i) (nth es j)
pairs-nth R es h i j p q =
    subst (λ (at : ℕ → Stored). R (at i) (at j)) (sym (nth-is es)) (Pairs-get_d⁻ (mk 0 0) R es h i j p q)

nth-pairs : (R : Stored → Stored → Type 0) (es : List Stored)
    → ((i j : ℕ) → i < j → j < length es → R (nth es i) (nth es j))
    → Pairs R es
nth-pairs R es f =
    Pairs-get_d⁺ (mk 0 0) R es (λ i j p q. subst (λ (at : ℕ → Stored). R (at i) (at j)) (nth-is es) (f i j p q))

pub nth_in : (es : List Stored) (i : ℕ) → i < length es → In (nth es i) es
nth_in es i h = subst (λ (at : ℕ → Stored). In (at i) es) (sym (nth-is es)) (In-get_d (mk 0 0) es i h)

pub in-nth : (x : Stored) (es : List Stored) → In x es → (i : ℕ) × ((i < length es) × (x ≡ nth es i))
in-nth x es h = let r = In⇒get_d (mk 0 0) x es h in (r.0, (r.1.0, r.1.1 ∙ (λ t. sym (nth-is es) t r.0)))

-- the second order on indices
index_less-irrefl : (es : List Stored) (i : ℕ) → index_less es i i ≡ false
unfolding index_less
index_less-irrefl es i = point-irrefl (nth es i)

pub index_less-trans : (es : List Stored) (i j k : ℕ)
    → index_less es i j ≡ true
    → index_less es j k ≡ true
    → index_less es i k ≡ true
unfolding index_less
index_less-trans es i j k p q = point-trans (nth es i) (nth es j) (nth es k) p q

index-apart : (es : List Stored) → Rising less es → (i j : ℕ) → i < j → j < length es → Comparable (index_less es) i j
unfolding index_less
index-apart es h i j p q =
    point-apart (nth es i) (nth es j)
    (less⇒≢ less less-irrefl less-trans (nth es i) (nth es j) (pairs-nth (λ a b. less a b ≡ true) es h i j p q))

pub Rising-order_of : (es : List Stored) → Rising less es → Rising (index_less es) (order_of es)
unfolding order_of
Rising-order_of es h =
    Rising-sort (index_less es) (index_less-trans es) (up_from 0 (length es))
    (Pairs-up_from⁺ {R = Comparable (index_less es)} 0 (length es) (λ i j o p q. index-apart es h i j p (omega arith)))

pub length-order_of : (es : List Stored) → length (order_of es) ≡ length es
unfolding order_of
length-order_of es = length-sort (index_less es) (up_from 0 (length es)) ∙ length-up_from 0 (length es)

pub In-order_of⁻ : (es : List Stored) (i : ℕ) → In i (order_of es) → i < length es
unfolding order_of
In-order_of⁻ es i h =
    let r = In-up_from⁻ 0 (length es) i (In-sort⁻ (index_less es) i (up_from 0 (length es)) h) in omega (arith, r.1)

pub in_order_lem : (es : List Stored) (i : ℕ) → i < length es → In i (order_of es)
unfolding order_of
in_order_lem es i h =
    In-sort⁺ (index_less es) i (up_from 0 (length es)) (In-up_from⁺ 0 (length es) i (omega arith) (omega arith))

-- indices that rise are all of them
index-all : (es : List Stored) (ord : List ℕ)
    → length ord ≡ length es
    → All (λ i. i < length es) ord
    → Rising (index_less es) ord
    → (i : ℕ)
    → i < length es
    → In i ord
index-all es ord n h r i q =
    pigeonhole ord
    (Pairs-⇒ {P = λ k. k < length es}
    (λ x y u v l e. clash (subst (λ (z : ℕ). index_less es x z ≡ true) (sym e) l) (index_less-irrefl es x)) ord h r)
    (All-⇒ (λ k (u : k < length es). let a : k < length ord = omega arith in a) ord h)
    i (omega arith)

-- there is one order
pub order_of-unique : (es : List Stored) (ord : List ℕ)
    → Rising less es
    → length ord ≡ length es
    → All (λ i. i < length es) ord
    → Rising (index_less es) ord
    → ord ≡ order_of es
order_of-unique es ord s n h r =
    Rising-unique (index_less es) (index_less-irrefl es) (index_less-trans es) ord (order_of es) r (Rising-order_of es s)
    (λ i q. in_order_lem es i (All-In⁻ (λ k. k < length es) i ord h q))
    (λ i q. index-all es ord n h r i (In-order_of⁻ es i q))

-- the test of the indices
next-index : (cs is : List ℕ) (i j : ℕ)
    → index_next cs is i j ≡ true
    → (j < length cs) × (write_next (stored_at cs is i) (stored_at cs is j) ≡ true)
unfolding index_next
next-index cs is i j e =
    (ltb-true j (length cs) (and_left (ltb j (length cs)) _ e), and_right (ltb j (length cs)) _ e)

index-next : (cs is : List ℕ) (i j : ℕ)
    → j < length cs
    → write_next (stored_at cs is i) (stored_at cs is j) ≡ true
    → index_next cs is i j ≡ true
unfolding index_next
index-next cs is i j h e = and_yes (ltb j (length cs)) _ (lt-ltb j (length cs) h) e

index-next-trans : (cs is : List ℕ) (i j k : ℕ)
    → index_next cs is i j ≡ true
    → index_next cs is j k ≡ true
    → index_next cs is i k ≡ true
index-next-trans cs is i j k p q =
    let u = next-index cs is i j p in
    let v = next-index cs is j k q in
    index-next cs is i k v.0 (next-trans writing (stored_at cs is i) (stored_at cs is j) (stored_at cs is k) u.1 v.1)

ordered-is : (cs is ord : List ℕ)
    → ordered cs is ord ≡ true
    → All (λ i. i < length cs) ord × Rising (index_next cs is) ord
unfolding ordered
ordered-is cs is [] e = (tt, tt)
ordered-is cs is (i ∷ l) e =
    let r = rises_from⇒Rising (index_next cs is) (index-next-trans cs is) i l (and_right (ltb i (length cs)) _ e) in (
      (ltb-true i (length cs) (and_left (ltb i (length cs)) _ e), All-⇒ (λ j q. (next-index cs is i j q).0) l r.0),
      r,
    )

is-ordered : (cs is ord : List ℕ)
    → All (λ i. i < length cs) ord
    → Rising (index_next cs is) ord
    → ordered cs is ord ≡ true
unfolding ordered
is-ordered cs is [] h r = refl
is-ordered cs is (i ∷ l) h r =
    and_yes (ltb i (length cs)) _ (lt-ltb i (length cs) h.0) (Rising⇒rises_from (index_next cs is) i l r)

-- stored mappings whose indices pass
module _ (es : List Stored) (ord : List ℕ) (s : Rising less es) (n : length ord ≡ length es)
    (ok : ordered (map bits_of es) (map info_of es) ord ≡ true) where
  len : length (map bits_of es) ≡ length es
  len = length-map es bits_of

  passed-range : All (λ i. i < length es) ord
  passed-range =
      All-⇒ (λ i (q : i < length (map bits_of es)). let a : i < length es = omega (arith, len) in a) ord
      (ordered-is (map bits_of es) (map info_of es) ord ok).0

  passed-rising : Rising (index_less es) ord
  unfolding index_less
  passed-rising =
      Pairs-⇒ {P = λ i. i < length es}
      (λ i j p q e. (next-parts writing (nth es i) (nth es j)
      (next-index (map bits_of es) (map info_of es) i j e).1).0) ord passed-range
      (ordered-is (map bits_of es) (map info_of es) ord ok).1

  pub passed-order : ord ≡ order_of es
  passed-order = order_of-unique es ord s n passed-range passed-rising

  abbrev NoWrite : ℕ → ℕ → Type 0
  NoWrite i j = write_clash (nth es i) (nth es j) ≡ false

  passed-pairs : Pairs NoWrite ord
  passed-pairs =
      Pairs-⇒ {P = λ i. i < length es}
      (λ i j p q e. (next-parts writing (nth es i) (nth es j)
      (next-index (map bits_of es) (map info_of es) i j e).1).1) ord passed-range
      (ordered-is (map bits_of es) (map info_of es) ord ok).1

  pub passed-writes : Pairs (λ a b. write_clash a b ≡ false) es
  passed-writes =
      nth-pairs (λ a b. write_clash a b ≡ false) es
      (λ i j p q. Pairs-In⁻ {R = NoWrite} (λ x y e. clash-sym writing (nth es x) (nth es y) e) i j ord passed-pairs
      (index-all es ord n passed-range passed-rising i (omega arith))
      (index-all es ord n passed-range passed-rising j q)
      (λ e. omega arith))

-- the order of stored mappings that keep T9 passes
pub order-passes : (es : List Stored)
    → Rising less es
    → AllApart es
    → ordered (map bits_of es) (map info_of es) (order_of es) ≡ true
unfolding index_less
order-passes es s t =
    let len : length (map bits_of es) ≡ length es = length-map es bits_of in
    let inside : All (λ i. i < length es) (order_of es) = All-In⁺ (order_of es) (λ i h. In-order_of⁻ es i h) in
    is-ordered (map bits_of es) (map info_of es) (order_of es)
    (All-⇒ (λ i (q : i < length es). let a : i < length (map bits_of es) = omega arith in a) (order_of es) inside)
    (Pairs-⇒ {P = λ i. i < length es} (next es s t) (order_of es) inside (Rising-order_of es s))
  where
    apart : (es : List Stored)
        → AllApart es
        → (i j : ℕ)
        → i < length es
        → j < length es
        → (i ≡ j → ⊥)
        → write_clash (nth es i) (nth es j) ≡ false
    apart es t i j p q d = go (ltb i j) refl
      where
        go : (b : Bool) → ltb i j ≡ b → write_clash (nth es i) (nth es j) ≡ false
        go true e = (pairs-nth Apart es t i j (ltb-true i j e) q).1
        go false e =
            clash-sym writing (nth es j) (nth es i)
            (pairs-nth Apart es t j i (let a = ltb-false' i j e in lt_of i j a d) p).1
          where
            ltb-false' : (a b : ℕ) → ltb a b ≡ false → b ≤ a
            ltb-false' a b e = ltb-false a b e

            lt_of : (a b : ℕ) → b ≤ a → (a ≡ b → ⊥) → b < a
            lt_of a b h d = omega arith

    next : (es : List Stored)
        → Rising less es
        → AllApart es
        → (i j : ℕ)
        → i < length es
        → j < length es
        → index_less es i j ≡ true
        → index_next (map bits_of es) (map info_of es) i j ≡ true
    next es s t i j p q e =
        index-next (map bits_of es) (map info_of es) i j (let l = length-map es bits_of in omega arith)
        (next-yes writing (nth es i) (nth es j) (point-of es i j e)
        (apart es t i j p q (λ f. clash (subst (λ (z : ℕ). index_less es i z ≡ true) (sym f) e) (index_less-irrefl es i))))
      where
        point-of : (es : List Stored) (i j : ℕ) → index_less es i j ≡ true → point_less (nth es i) (nth es j) ≡ true
        point-of es i j e = e
