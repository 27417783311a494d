-- The two orders of stored mappings, and the two sides of T9: lines that are read share no code, lines that are written no code point.
-- less-irrefl, less-trans, less-cases, less-bits, less-apart       the first order is strict and total; it by numbers
-- point-irrefl, point-trans, point-cases, point-apart              so is the second
-- Side                                       one side of T9: an order, a clash test, the key, and which lines take part
-- clashes, clashing, clash-sym               two lines clash that have one key and take part
-- next-yes, next-no, next-parts, next-trans  what neighbours are tested for, which is transitive
-- rank_rises, code-between                   the lines of one code stand together, by rising rank
-- reading, writing                           the two sides; key-writes: the key of the second order of a line that is written
-- apart-sym, apart-differ                    lines that clash on neither side
use mathlib.Core.Path.{◌≡◌, refl, sym, ap, subst, ◌∙◌}
use mathlib.Core.Bool.{Bool, true, false}
use mathlib.Core.Logic.{◌⊎◌, inl, inr}
use Prim.Native.Nat.{ℕ, ◌+◌, ◌*◌, ◌<◌, ◌≤◌}
use native.Mathlib.Omega.{arith}
use lib.Dec.{eqb}
use borrow.Author.Tests.{eqb-true, eq-eqb, leb-true, le-leb}
use Rattle.lists.specs.Pick.{pick}
use Rattle.lists.specs.Order.{by_key, Comparable}
use Rattle.lists.proofs.Laws.{clash, ¬true⇒false, and_left, and_right, and_yes}
use Rattle.lists.proofs.Order.{by_key-<, by_key⁻, by_key-irrefl, by_key-trans, by_key-total}
use Rattle.table.specs.Stored.{Stored, bits_of, info_of, mk, point_in, rank_in, extra_in, stored_decides, order_key_in, order_key, never, less, point_less, read_clash, write_clash, read_next, write_next, stored_is_read}
use Rattle.lists.proofs.Conjunctions.{and_assoc}
use Rattle.lists.proofs.Chains.{unless-left}
use Rattle.table.specs.loops.Search.{Apart}

-- ## The orders
pub less-irrefl : (a : Stored) → less a a ≡ false
unfolding less
less-irrefl a = by_key-irrefl bits_of (by_key info_of never) (by_key-irrefl info_of never (λ b. refl)) a

pub less-trans : (a b c : Stored) → less a b ≡ true → less b c ≡ true → less a c ≡ true
unfolding less
less-trans a b c p q = by_key-trans bits_of (by_key info_of never) (by_key-trans info_of never (λ x y z u v. u)) a b c p q

-- by numbers
abbrev pub Before : Stored → Stored → Type 0
Before a b = (a.bits < b.bits) ⊎ ((a.bits ≡ b.bits) × (a.info < b.info))

pub less-cases : (a b : Stored) → less a b ≡ true → Before a b
unfolding less
less-cases a b p = go (by_key⁻ bits_of (by_key info_of never) a b p)
  where
    last : a.bits ≡ b.bits → (a.info < b.info) ⊎ ((a.info ≡ b.info) × (never a b ≡ true)) → Before a b
    last e (inl h) = inr (e, h)
    last e (inr h) = absurd (clash h.1 refl)

    go : (a.bits < b.bits) ⊎ ((a.bits ≡ b.bits) × (by_key info_of never a b ≡ true)) → Before a b
    go (inl h) = inl h
    go (inr h) = last h.0 (by_key⁻ info_of never a b h.1)

pub less-bits : (a b : Stored) → a.bits < b.bits → less a b ≡ true
unfolding less
less-bits a b h = by_key-< bits_of (by_key info_of never) a b h

pub less-apart : (a b : Stored) → (a ≡ b → ⊥) → Comparable less a b
unfolding less
less-apart a b d =
    by_key-total bits_of (by_key info_of never) a b (λ e. by_key-total info_of never a b (λ f. absurd (d (λ i. mk (e i) (f i)))))

pub point-irrefl : (a : Stored) → point_less a a ≡ false
unfolding point_less
point-irrefl a = by_key-irrefl order_key less less-irrefl a

pub point-trans : (a b c : Stored) → point_less a b ≡ true → point_less b c ≡ true → point_less a c ≡ true
unfolding point_less
point-trans a b c p q = by_key-trans order_key less less-trans a b c p q

pub point-cases : (a b : Stored) → point_less a b ≡ true → (order_key a < order_key b) ⊎ ((order_key a ≡ order_key b) × (less a b ≡ true))
unfolding point_less
point-cases a b p = by_key⁻ order_key less a b p

point-key : (a b : Stored) → point_less a b ≡ true → order_key_in a.info ≤ order_key_in b.info
point-key a b p = go (point-cases a b p)
  where
    go : (order_key_in a.info < order_key_in b.info) ⊎ ((order_key_in a.info ≡ order_key_in b.info) × (less a b ≡ true))
        → order_key_in a.info ≤ order_key_in b.info
    go (inl h) = omega arith
    go (inr h) = omega (arith, h.0)

pub point-apart : (a b : Stored) → (a ≡ b → ⊥) → Comparable point_less a b
unfolding point_less
point-apart a b d = by_key-total order_key less a b (λ e. less-apart a b d)

-- ## One side of T9, reading or writing
-- between two that have one key and take part all do
abbrev pub Between : {K : Type 0} → (Stored → Stored → Bool) → (Stored → K) → (Stored → Bool) → Type 0
Between before key takes =
    (a b c : Stored) → before a b ≡ true → before b c ≡ true → key a ≡ key c → takes a ≡ true → takes c ≡ true
    → (key a ≡ key b) × (takes b ≡ true)

-- an order, the test of two lines that clash, what neighbours are tested for, the key of a line, which lines take part
pub record Side {K : Type 0} (before shares next : Stored → Stored → Bool) (key : Stored → K)
    (takes : Stored → Bool) : Type 0 where
  pub trans : (a b c : Stored) → before a b ≡ true → before b c ≡ true → before a c ≡ true
  pub total : (a b : Stored) → (a ≡ b → ⊥) → Comparable before a b
  pub same : Stored → Stored → Bool
  pub same_key : (a b : Stored) → same a b ≡ true → key a ≡ key b
  pub key-same : (a b : Stored) → key a ≡ key b → same a b ≡ true
  pub shares-is : (a b : Stored) → shares a b ≡ pick (same a b) (pick (takes a) (takes b) false) false
  pub between : Between before key takes
  pub next-is : (a b : Stored) → next a b ≡ pick (before a b) (pick (shares a b) false true) false

module _ {K : Type 0} {before shares next : Stored → Stored → Bool} {key : Stored → K} {takes : Stored → Bool}
    (side : Side before shares next key takes) where
  pub clashes : (a b : Stored) → key a ≡ key b → takes a ≡ true → takes b ≡ true → shares a b ≡ true
  clashes a b e f g = side.shares-is a b ∙ rw (side.key-same a b e, f, g)

  pub clashing : (a b : Stored) → shares a b ≡ true → (key a ≡ key b) × ((takes a ≡ true) × (takes b ≡ true))
  clashing a b p =
      let q = sym (side.shares-is a b) ∙ p in
      let r = and_right (side.same a b) _ q in
      (side.same_key a b (and_left (side.same a b) _ q), (and_left (takes a) _ r, and_right (takes a) _ r))

  pub clash-sym : (a b : Stored) → shares a b ≡ false → shares b a ≡ false
  clash-sym a b p =
      ¬true⇒false (shares b a) (λ r. let w = clashing b a r in clash (clashes a b (sym w.0) w.1.1 w.1.0) p)

  pub next-yes : (a b : Stored) → before a b ≡ true → shares a b ≡ false → next a b ≡ true
  next-yes a b p q = side.next-is a b ∙ rw (p, q)

  pub next-no : (a b : Stored) → before a b ≡ false → next a b ≡ false
  next-no a b p = side.next-is a b ∙ rw p

  pub next-parts : (a b : Stored) → next a b ≡ true → (before a b ≡ true) × (shares a b ≡ false)
  next-parts a b h =
      let e = sym (side.next-is a b) ∙ h in
      (and_left (before a b) _ e, unless-left (shares a b) true (and_right (before a b) _ e))

  pub next-trans : (a b c : Stored) → next a b ≡ true → next b c ≡ true → next a c ≡ true
  next-trans a b c p q =
      let u = next-parts a b p in
      let v = next-parts b c q in
      next-yes a c (side.trans a b c u.0 v.0) (¬true⇒false (shares a c) (λ r.
      let w = clashing a c r in
      let m = side.between a b c u.0 v.0 w.0 w.1.0 w.1.1 in
      clash (clashes a b m.0 w.1.0 m.1) u.1))

-- ## Reading: by code, and lines of ranks 0 and 1 take part
abbrev pub read_key : Stored → ℕ × ℕ
read_key e = (e.bits, extra_in e.info)

-- the test of one code
pub code⇒read_key : (a b : Stored)
    → pick (eqb a.bits b.bits) (eqb (extra_in a.info) (extra_in b.info)) false ≡ true
    → read_key a ≡ read_key b
code⇒read_key a b p =
    let c = eqb-true a.bits b.bits (and_left (eqb a.bits b.bits) _ p) in
    let n = eqb-true (extra_in a.info) (extra_in b.info) (and_right (eqb a.bits b.bits) _ p) in
    λ i. (c i, n i)

pub read_key⇒code : (a b : Stored) → read_key a ≡ read_key b
    → pick (eqb a.bits b.bits) (eqb (extra_in a.info) (extra_in b.info)) false ≡ true
read_key⇒code a b e =
    and_yes _ _ (eq-eqb a.bits b.bits (ap (λ (k : ℕ × ℕ). k.0) e))
    (eq-eqb (extra_in a.info) (extra_in b.info) (ap (λ (k : ℕ × ℕ). k.1) e))

-- of one code the ranks rise
pub rank_rises : (a b : Stored) → less a b ≡ true → read_key a ≡ read_key b → rank_in a.info ≤ rank_in b.info
rank_rises a b p e = go (less-cases a b p)
  where
    by-infos : (x y : ℕ) → x < y → extra_in x ≡ extra_in y → rank_in x ≤ rank_in y
    by-infos x y h k = omega arith

    go : Before a b → rank_in a.info ≤ rank_in b.info
    go (inl u) = absurd (omega (arith, ap (λ (k : ℕ × ℕ). k.0) e))
    go (inr u) = by-infos a.info b.info u.1 (ap (λ (k : ℕ × ℕ). k.1) e)

-- the lines of one code stand together
pub code-between : (a b c : Stored) → less a b ≡ true → less b c ≡ true → read_key a ≡ read_key c → read_key a ≡ read_key b
code-between a b c p q e = go (less-cases a b p) (less-cases b c q)
  where
    bits : a.bits ≡ c.bits
    bits = ap (λ (k : ℕ × ℕ). k.0) e

    by-infos : (x y z : ℕ) → x < y → y < z → extra_in x ≡ extra_in z → extra_in x ≡ extra_in y
    by-infos x y z u v k = omega arith

    go : Before a b → Before b c → read_key a ≡ read_key b
    go (inl u) (inl v) = absurd (omega (arith, bits))
    go (inl u) (inr v) = absurd (omega (arith, bits, v.0))
    go (inr u) (inl v) = absurd (omega (arith, bits, u.0))
    go (inr u) (inr v) =
        let m = by-infos a.info b.info c.info u.1 v.1 (ap (λ (k : ℕ × ℕ). k.1) e) in
        λ i. (u.0 i, m i)

read_between : Between less read_key stored_is_read
read_between a b c p q e f g =
    let k = code-between a b c p q e in
    (k, le-leb (rank_in b.info) 1 (omega (arith, rank_rises b c q (sym k ∙ e), leb-true (rank_in c.info) 1 g)))

pub reading : Side less read_clash read_next read_key stored_is_read
unfolding read_next read_clash
reading = record {
  trans = less-trans;
  total = less-apart;
  same = λ a b. pick (eqb a.bits b.bits) (eqb (extra_in a.info) (extra_in b.info)) false;
  same_key = code⇒read_key;
  key-same = read_key⇒code;
  shares-is =
      λ a b. sym (and_assoc (eqb a.bits b.bits) (eqb (extra_in a.info) (extra_in b.info))
      (pick (stored_is_read a) (stored_is_read b) false));
  between = read_between;
  next-is = λ a b. refl;
}

-- ## Writing: by code point, and all but lines of rank 1 take part
abbrev pub write_key : Stored → ℕ
write_key e = point_in e.info

-- the key of one that writes is twice its code point, and only that of one that writes is
pub key-writes : (a : Stored) → stored_decides a ≡ true → order_key a ≡ point_in a.info * 2
unfolding order_key_in
key-writes a w = go (point_in a.info) (eqb (rank_in a.info) 1) w
  where
    go : (p : ℕ) (t : Bool) → pick t false true ≡ true → pick t (p * 2 + 1) (p * 2) ≡ p * 2
    go p true e = absurd (clash e refl)
    go p false e = refl

writes_key : (a : Stored) (q : ℕ) → order_key a ≡ q * 2 → (point_in a.info ≡ q) × (stored_decides a ≡ true)
unfolding order_key_in
writes_key a q e = go (point_in a.info) (eqb (rank_in a.info) 1) e
  where
    go : (p : ℕ) (t : Bool) → pick t (p * 2 + 1) (p * 2) ≡ q * 2 → (p ≡ q) × (pick t false true ≡ true)
    go p true e = absurd (omega arith)
    go p false e = (omega arith, refl)

write-between : Between point_less write_key stored_decides
write-between a b c p q e f g =
    let k : order_key b ≡ point_in a.info * 2 =
    omega (arith, key-writes a f, key-writes c g, point-key a b p, point-key b c q) in
    let m = writes_key b (point_in a.info) k in
    (sym m.0, m.1)

pub writing : Side point_less write_clash write_next write_key stored_decides
unfolding write_next write_clash
writing = record {
  trans = point-trans;
  total = point-apart;
  same = λ a b. eqb (write_key a) (write_key b);
  same_key = λ a b. eqb-true (write_key a) (write_key b);
  key-same = λ a b. eq-eqb (write_key a) (write_key b);
  shares-is = λ a b. refl;
  between = write-between;
  next-is = λ a b. refl;
}

-- ## Both sides
pub apart-sym : (a b : Stored) → Apart a b → Apart b a
apart-sym a b w = (clash-sym reading a b w.0, clash-sym writing a b w.1)

-- a stored mapping clashes with itself: it reads or it writes
pub apart-differ : (a b : Stored) → read_clash a b ≡ false → write_clash a b ≡ false → a ≡ b → ⊥
apart-differ a b p q e = go (eqb (rank_in a.info) 1) refl
  where
    go : (t : Bool) → eqb (rank_in a.info) 1 ≡ t → ⊥
    go true h =
        let r : stored_is_read a ≡ true =
        le-leb (rank_in a.info) 1 (let k = eqb-true (rank_in a.info) 1 h in omega arith) in
        clash (clashes reading a a refl r r) (subst (λ (x : Stored). read_clash a x ≡ false) (sym e) p)
    go false h =
        let w : stored_decides a ≡ true = rw h in
        clash (clashes writing a a refl w w) (subst (λ (x : Stored). write_clash a x ≡ false) (sym e) q)
