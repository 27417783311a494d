-- A search by halving: a window of `size` places from `base` on, the place that is sought among them, and the gap of the
-- line at the last of them, or `far` if that is behind the last line. Before the first look the window has n + 1 places.
-- power-half, power-one, window-of                powers of two; the largest that is at most n
-- LooksLeft, left-first, left-half                how many looks are left
-- Look, first-look, half-look                     the two windows that a look at a line chooses from
-- Among, among-look                               the place, after a look
-- Window, window-starts, window-look, window-ends, gap-inside     the place and the gap
-- stored-key-less, stored-key-not-less, code-sides                the first order by its key
-- below-point, not-below-point, point-sides       the second order by code points, for a code point's first line
-- side, order-sides, order-parts, OrderWindow, order-look                  the whole second order
use Prim.Native.Nat.{ℕ, zero, suc, ◌+◌, ◌-◌, ◌*◌, ◌/◌, ◌%◌, ◌^◌, ◌<◌, ◌≤◌}
use native.Mathlib.Nat.{pow-suc, pow-zero, lt_of_le_of_lt}
use native.Mathlib.Omega.{arith}
use mathlib.Core.Path.{◌≡◌, refl, sym, ap, subst, ◌∙◌}
use mathlib.Core.Bool.{Bool, true, false}
use mathlib.Core.Logic.{◌⊎◌, inl, inr}
use mathlib.Core.List.{List}
use lib.Count.{count_leading_zeros, leading_top}
use lib.Dec.{eqb, ltb}
use lib.ListN.{length, get_or}
use lib.Pow.{pow_pos}
use borrow.Author.Tests.{ne_eqb, lt-ltb, ltb-true, ltb-false}
use Rattle.lists.specs.Pick.{pick, ◌and◌}
use Rattle.lists.specs.Order.{All, Rising, Comparable}
use Rattle.lists.proofs.Laws.{clash, ¬true⇒false}
use Rattle.lists.proofs.Order.{All-get_d⁻, by_key-<}
use Rattle.table.specs.Stored.{Stored, mk, point_in, rank_in, order_key_in, order_key, less, point_less}
use Rattle.table.specs.Memory.{stored_list, stored_at}
use Rattle.table.specs.loops.Search.{stored_key, far, KeyGap, GapAt, point_seen, Power, WindowOf, after_look, Parts, place_in, point_place_in, picked}
use Rattle.table.specs.declared.store.Spot.{Spot}
use Rattle.table.specs.Looks.{looks_for}
use Rattle.table.proofs.Looks.{looks-less, looks-window}
use Rattle.table.proofs.StoredLaws.{Before, less-cases, less-apart, point-cases}
use Rattle.table.proofs.Places.{place-le, less⇒<place_in, ¬less⇒place_in≤, point-le, point-yes, point-no, point_seen-in}

-- ## Powers of two
power-half : (size : ℕ) → Power size → 1 < size → Power (size / 2) × (size ≡ size / 2 * 2)
power-half size (zero, e) h = absurd (omega (arith, e ∙ pow-zero 2))
power-half size (suc j, e) h =
    let d : size ≡ 2 ^ j * 2 = e ∙ pow-suc 2 j in
    ((j, omega (arith, d)), omega (arith, d))

pub power-one : (size : ℕ) → Power size → size ≤ 1 → size ≡ 1
power-one size (j, e) h = omega (arith, e, pow_pos j)

pub window-of : (n : ℕ) → 0 < n → n < 2 ^ 64 → WindowOf n ((1 * 2 ^ (63 - count_leading_zeros 64 n)) % 18446744073709551616)
window-of n h f =
    let t = leading_top 64 n h f in
    let j = t.0 in
    let e : 63 - count_leading_zeros 64 n ≡ j = omega (arith, t.1) in
    let small : 2 ^ j < 18446744073709551616 = lt_of_le_of_lt t.2 f in
    let s : (1 * 2 ^ (63 - count_leading_zeros 64 n)) % 18446744073709551616 ≡ 2 ^ j =
    ap (λ (k : ℕ). (1 * 2 ^ k) % 18446744073709551616) e ∙ omega (arith, small) in
    subst (λ (r : ℕ). WindowOf n r) (sym s)
    ((j, refl), t.2, subst (λ (k : ℕ). n < k) (pow-suc 2 j) t.3)

-- places that are left in a search among n lines: a power of two, and the first look and those that are left are no more
-- than looks_for n
pub record LooksLeft (n size : ℕ) : Type 0 where
  pub power : Power size
  pub looks : looks_for (size / 2) + 1 ≤ looks_for n

pub left-first : (n size : ℕ) → WindowOf n size → LooksLeft n size
left-first n size w = record { power = w.0; looks = looks-window n size (omega (arith, w.2)) w.1 }

pub left-half : (n size : ℕ) → 1 < size → LooksLeft n size → LooksLeft n (size / 2)
left-half n size h w = record {
  power = (power-half size w.power h).0;
  looks = omega (arith, looks-less (size / 2) (omega arith), w.looks);
}

-- ## A look
-- at the line at `at`: the window from `next` on, which ends where the old one does, or the one up to `at`; both have
-- `half` places
pub record Look (base size at next half : ℕ) : Type 0 where
  pub above : next + half ≡ base + size
  pub below : at + 1 ≡ base + half
  pub meet : next ≤ at + 1

pub first-look : (n size : ℕ) → WindowOf n size → Look 0 (n + 1) (size - 1) (n - (size - 1)) size
first-look n size w = record {
  above = omega (arith, w.1, w.2);
  below = omega (arith, w.1, w.2);
  meet = omega (arith, w.1, w.2);
}

pub half-look : (base size : ℕ) → Power size → 1 < size
    → Look base size (base + size / 2 - 1) (base + size / 2) (size / 2)
half-look base size p h =
    let e = (power-half size p h).1 in
    record { above = omega arith; below = omega arith; meet = omega arith }

-- ## The place
abbrev pub Among : ℕ → ℕ → ℕ → Type 0
Among base size place = (base ≤ place) × (place < base + size)

among-look : (base size at next half place : ℕ) (t : Bool) → Look base size at next half → Among base size place
    → (t ≡ true → at < place) → (t ≡ false → place ≤ at)
    → Among (pick t next base) half place
among-look base size at next half place true l w before behind =
    let p = before refl in
    (omega (arith, l.meet), omega (arith, w.1, l.above))
among-look base size at next half place false l w before behind =
    let p = behind refl in
    (omega (arith, w.0), omega (arith, l.below))

pub look-inside : (n : ℕ) (s r : Spot) (k q size at next half : ℕ) → r ≡ after_look k q s next
    → Look s.at size at next half → at < n → s.at + size ≤ n + 1 → r.at + half ≤ n + 1
look-inside n s r k q size at next half e l h w =
    subst (λ (x : Spot). x.at + half ≤ n + 1) (sym e) (go (ltb k q))
  where
    go : (t : Bool) → let x : Spot = pick t (record { at = next; gap = s.gap }) (record { at = s.at; gap = k - q }) in x.at + half ≤ n + 1
    go true = omega (arith, l.above)
    go false = omega (arith, l.below)

-- ## The place and the gap
-- the lines' keys, the one that is sought, and what the place is known by
module _ (key : ℕ → ℕ) (sought n : ℕ) (Sought : ℕ → Type 0) where
  pub record Window (base size gap : ℕ) : Type 0 where
    pub inside : base + size ≤ n + 1
    pub ends : GapAt (KeyGap key sought) n (base + size - 1) gap
    pub among : (place : ℕ) → Sought place → Among base size place

  -- a line's key says on which side of it the place is
  abbrev pub Sides : ℕ → Type 0
  Sides at = (place : ℕ) → Sought place → (key at < sought → at < place) × (sought ≤ key at → place ≤ at)

  pub window-starts : ((place : ℕ) → Sought place → place ≤ n) → Window 0 (n + 1) far
  window-starts h = record {
    inside = omega arith;
    ends = (λ l. absurd (omega arith), λ l. refl);
    among = λ place p. (omega arith, omega (arith, h place p));
  }

  pub window-look : (s r : Spot) (k q size at next half : ℕ) → k ≡ key at → q ≡ sought → r ≡ after_look k q s next
      → Look s.at size at next half → at < n → Sides at
      → Window s.at size s.gap → Window r.at half r.gap
  window-look s r k q size at next half ke qe e l h sides w =
      subst (λ (x : Spot). Window x.at half x.gap) (sym (e ∙ λ t. after_look (ke t) (qe t) s next))
      (go (ltb (key at) sought) refl)
    where
      go : (t : Bool) → ltb (key at) sought ≡ t
          → let x : Spot = pick t (record { at = next; gap = s.gap }) (record { at = s.at; gap = key at - sought }) in
          Window x.at half x.gap
      go true p = record {
        inside = omega (arith, w.inside, l.above);
        ends = subst (λ (k : ℕ). GapAt (KeyGap key sought) n (k - 1) s.gap) (sym l.above) w.ends;
        among = λ place q. among-look s.at size at next half place true l (w.among place q)
            (λ _. (sides place q).0 (ltb-true (key at) sought p)) (λ e. absurd (clash refl e));
      }
      go false p =
          let m = ltb-false (key at) sought p in
          record {
            inside = omega (arith, l.below);
            ends = subst (λ (k : ℕ). GapAt (KeyGap key sought) n (k - 1) (key at - sought)) l.below
                (subst (λ (k : ℕ). GapAt (KeyGap key sought) n k (key at - sought)) (let e : at ≡ at + 1 - 1 = omega arith in e)
                (λ _. omega arith, λ k. absurd (omega arith)));
            among = λ place q. among-look s.at size at next half place false l (w.among place q)
                (λ e. absurd (clash e refl)) (λ _. (sides place q).1 m);
          }

  pub window-ends : (base size gap : ℕ) → size ≡ 1 → Window base size gap
      → (base ≤ n) × GapAt (KeyGap key sought) n base gap × ((place : ℕ) → Sought place → base ≡ place)
  window-ends base size gap e w = (
    omega (arith, w.inside),
    subst (λ (k : ℕ). GapAt (KeyGap key sought) n k gap) (let d : base + size - 1 ≡ base = omega arith in d) w.ends,
    λ place p. let a = w.among place p in omega (arith, a.0, a.1),
  )

-- a gap less than FAR is that of a line
pub gap-inside : (n at gap : ℕ) → (n ≤ at → gap ≡ far) → gap < far → at < n
gap-inside n at gap g h = go (ltb at n) refl
  where
    go : (t : Bool) → ltb at n ≡ t → at < n
    go true p = ltb-true at n p
    go false p = absurd (omega (arith, g (ltb-false at n p)))

-- ## The orders
module _ (a b : Stored) (p : a.info < 4294967296) (q : b.info < 4294967296) where
  stored-key-less : stored_key a < stored_key b → less a b ≡ true
  stored-key-less h = go (less-apart a b (λ e. let f = ap stored_key e in omega arith))
    where
      not_after : Before b a → ⊥
      not_after (inl k) = omega arith
      not_after (inr k) = omega (arith, k.0, k.1)

      go : Comparable less a b → less a b ≡ true
      go (inl l) = l
      go (inr l) = absurd (not_after (less-cases b a l))

  stored-key-not-less : stored_key b ≤ stored_key a → less a b ≡ false
  stored-key-not-less h = ¬true⇒false (less a b) (λ l. go (less-cases a b l))
    where
      go : Before a b → ⊥
      go (inl k) = omega arith
      go (inr k) = omega (arith, k.0, k.1)

key-bounds : (i : ℕ) → (point_in i * 2 ≤ order_key_in i) × (order_key_in i ≤ point_in i * 2 + 1)
unfolding order_key_in
key-bounds i = go (eqb (rank_in i) 1)
  where
    go : (t : Bool) → (point_in i * 2 ≤ pick t (point_in i * 2 + 1) (point_in i * 2)) × (pick t (point_in i * 2 + 1) (point_in i * 2) ≤ point_in i * 2 + 1)
    go true = (omega arith, omega arith)
    go false = (omega arith, omega arith)

-- a code point's first line is the first that has not a lower one
module _ (x : Stored) (point : ℕ) (small : point < 2097152) where
  key-is : order_key_in point ≡ point * 2
  unfolding order_key_in
  key-is =
      let r : rank_in point ≡ 0 = omega arith in
      let p : point_in point ≡ point = omega arith in
      rw (ne_eqb (rank_in point) 1 (λ e. omega arith), p)

  below-point : point_in x.info < point → point_less x (mk 0 point) ≡ true
  unfolding point_less
  below-point h = by_key-< order_key less x (mk 0 point) (omega (arith, key-is, (key-bounds x.info).1))

  not-below-point : point ≤ point_in x.info → point_less x (mk 0 point) ≡ false
  not-below-point h = ¬true⇒false (point_less x (mk 0 point)) (λ l. go (point-cases x (mk 0 point) l))
    where
      later : Before x (mk 0 point) → ⊥
      later (inl k) = omega arith
      later (inr k) = omega (arith, k.1)

      go : (order_key x < order_key (mk 0 point)) ⊎ ((order_key x ≡ order_key (mk 0 point)) × (less x (mk 0 point) ≡ true)) → ⊥
      go (inl k) = omega (arith, key-is, (key-bounds x.info).0)
      go (inr k) = later (less-cases x (mk 0 point) k.1)

-- ## Which side of a line the place is on
-- in the first order
pub record CodeSought (codes infos : List ℕ) (e : Stored) (place : ℕ) : Type 0 where
  pub rises : Rising less (stored_list codes infos)
  pub is : place ≡ place_in e (stored_list codes infos)

module _ (codes infos : List ℕ) (e : Stored) (same : length codes ≡ length infos) where
  pub code-within : (place : ℕ) → CodeSought codes infos e place → place ≤ length codes
  code-within place w = omega (arith, w.is, place-le codes infos e same)

  pub code-sides : (at : ℕ) → at < length codes → get_or infos at 0 < 4294967296 → e.info < 4294967296
      → Sides (λ at. stored_key (stored_at codes infos at)) (stored_key e) (length codes) (CodeSought codes infos e) at
  code-sides at h p q place w =
      let x = stored_at codes infos at in (
        λ l. omega (arith, w.is, less⇒<place_in codes infos e same w.rises at h (stored-key-less x e p q l)),
        λ l. omega (arith, w.is, ¬less⇒place_in≤ codes infos e same at h (stored-key-not-less x e p q l)),
      )

-- in the second order, by code points
pub record PointSought (infos order : List ℕ) (point place : ℕ) : Type 0 where
  pub codes : List ℕ
  pub inside : All (λ k. k < length infos) order
  pub rises : Rising point_less (picked codes infos order)
  pub is : place ≡ point_place_in (mk 0 point) (picked codes infos order)

module _ (infos order : List ℕ) (point : ℕ) (small : point < 2097152) where
  pub point-within : (place : ℕ) → PointSought infos order point place → place ≤ length order
  point-within place w = omega (arith, w.is, point-le w.codes infos order (mk 0 point))

  pub point-sides : (at : ℕ) → at < length order
      → Sides (point_seen infos order) point (length order) (PointSought infos order point) at
  point-sides at h place w =
      let k = get_or order at 0 in
      let x = stored_at w.codes infos k in
      let seen = point_seen-in infos order at (All-get_d⁻ (λ k. k < length infos) order at 0 w.inside h) in (
        λ l. omega (
          arith,
          w.is,
          point-yes w.codes infos order (mk 0 point) w.rises at h
              (below-point x point small (omega (arith, seen))),
        ),
        λ l. omega (
          arith,
          w.is,
          point-no w.codes infos order (mk 0 point) at h
              (not-below-point x point small (omega (arith, seen))),
        ),
      )

-- in the whole second order, with no gap
module _ (codes infos order : List ℕ) (e : Stored) where
  abbrev pub is_before : ℕ → Bool
  is_before at = ltb (get_or order at 0) (length codes) and point_less (stored_at codes infos (get_or order at 0)) e

  -- the key of a place: 0 if its line comes before e
  abbrev pub side : ℕ → ℕ
  side at = pick (is_before at) 0 1

  pub order-sides : (at : ℕ) (t : Bool)
      → t ≡ is_before at
      → at < length order → All (λ k. k < length codes) order → Rising point_less (picked codes infos order)
      → (t ≡ true → at < point_place_in e (picked codes infos order))
      × (t ≡ false → point_place_in e (picked codes infos order) ≤ at)
  order-sides at t is h q p =
      let k = get_or order at 0 in
      let tested : t ≡ point_less (stored_at codes infos k) e =
      is ∙ rw (lt-ltb k (length codes) (All-get_d⁻ (λ k. k < length codes) order at 0 q h)) in (
        λ y. point-yes codes infos order e p at h (sym tested ∙ y),
        λ y. point-no codes infos order e at h (sym tested ∙ y),
      )

  pub order-parts : All (λ k. k < length codes) order → Rising point_less (picked codes infos order)
      → Parts side 1 (length order) (point_place_in e (picked codes infos order))
  order-parts q p = (point-le codes infos order e, λ at h. go at (is_before at) (order-sides at (is_before at) refl h q p))
    where
      go : (at : ℕ) (t : Bool)
          → (t ≡ true → at < point_place_in e (picked codes infos order)) × (t ≡ false → point_place_in e (picked codes infos order) ≤ at)
          → (pick t 0 1 < 1 → at < point_place_in e (picked codes infos order)) × (1 ≤ pick t 0 1 → point_place_in e (picked codes infos order) ≤ at)
      go at true w = (λ _. w.0 refl, λ l. absurd (omega arith))
      go at false w = (λ l. absurd (omega arith), λ _. w.1 refl)

  -- the same with no key, a look at a time
  abbrev pub OrderWindow : ℕ → ℕ → Type 0
  OrderWindow base size =
      (base + size ≤ length order + 1)
      × (All (λ k. k < length codes) order → Rising point_less (picked codes infos order)
      → Among base size (point_place_in e (picked codes infos order)))

  pub order-look : (base size at next half r : ℕ) (t : Bool) → r ≡ pick t next base → t ≡ is_before at
      → Look base size at next half → at < length order → OrderWindow base size → OrderWindow r half
  order-look base size at next half r t moved is l h w =
      subst (λ (b : ℕ). OrderWindow b half) (sym moved) (
        inside t,
        λ q p.
            let sides = order-sides at t is h q p in
            among-look base size at next half _ t l (w.1 q p) sides.0 sides.1,
      )
    where
      inside : (t : Bool) → pick t next base + half ≤ length order + 1
      inside true = omega (arith, l.above, w.0)
      inside false = omega (arith, l.below)
