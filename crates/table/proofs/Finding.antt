-- What reads a code and what becomes of a code point: the first stored mapping behind a mark in either order, and no other.
-- apart_in                              of stored mappings that keep T9, two that would clash are one
-- Sought, two-clash                     what is looked for on one side of T9; two of it clash
-- Reads, reads_code⇒Reads, is-reads             a stored mapping that reads a code, by numbers
-- reads-in-one                          its length and rank in one test
-- gap-behind, gap-found                 what the gap says of the line where the search ended
-- none-at, point_at, point-decided, point-undecided   what a place of the code point's line says
-- sought-code, code-none, code-first    a code as what is looked for; it is found at the place that the search gives
-- is-writes, sought-point               a code point as what is looked for
-- write-out, write-in, write-ordered    it is found by the second order, which finds the same line as the first
use mathlib.Core.Path.{◌≡◌, refl, sym, ap, ◌∙◌, subst}
use mathlib.Core.Bool.{Bool, true, false}
use mathlib.Core.Logic.{◌⊎◌, inl, inr}
use mathlib.Core.Option.{none}
use mathlib.Core.List.{List, [], ◌∷◌, map}
use Prim.Native.Nat.{ℕ, ◌+◌, ◌-◌, ◌*◌, ◌/◌, ◌<◌, ◌≤◌}
use native.Mathlib.Omega.{arith}
use lib.Dec.{eqb, ltb}
use lib.ListN.{length, take, drop, get_or}
use lib.Seq.{get_or-take, length-take-le}
use borrow.Author.Tests.{eqb-true, eqb-false, eq-eqb, leb-true, le-leb, ne_eqb, ltb-true, ltb-false, le-ltb}
use Rattle.lists.specs.Pick.{pick}
use Rattle.lists.specs.Order.{In, Rising, first_of, Comparable, prefix_length}
use Rattle.lists.proofs.Laws.{clash, ¬true⇒false, and_yes, and_left, and_right, drop-∷, drop_past}
use Rattle.lists.proofs.Order.{first_of-none, All-In⁺, Pairs-⇒, Pairs-In⁻, head_if, first-prefix, first_of-unique, In-map⁺, In-map⁻}
use Rattle.table.specs.Stored.{Stored, mk, bits_of, info_of, point_in, rank_in, extra_in, order_key_in, order_key, less, point_less, stored_is_read, stored_decides}
use Rattle.table.specs.Memory.{stored_list, stored_at, nth, order_of}
use Rattle.table.specs.loops.Search.{reads_code, writes_point, FirstAt, place_in, point_place_in, picked, Apart, AllApart}
use Rattle.table.specs.loops.Search.{stored_key, far, holds_at, GapAt, CodeGap, point_seen, PointGap, GapTells, HasPoint}
use Rattle.table.proofs.StoredLaws.{Side, clashes, reading, writing, read_key, write_key, Before, less-cases, point-cases, key-writes, apart-sym}
use Rattle.table.proofs.IndexOrder.{In-order_of⁻, in_order_lem, nth_in, in-nth}
use Rattle.table.proofs.Places.{first_out, head_at_lem, holds-in, holds-out, taken-point}
use Rattle.lists.proofs.Parts.{map-drop}

-- two stored mappings are equal or not
same_or_not : (x y : Stored) → (x ≡ y) ⊎ (x ≡ y → ⊥)
same_or_not x y = go (eqb x.bits y.bits) refl (eqb x.info y.info) refl
  where
    go : (s : Bool) → eqb x.bits y.bits ≡ s → (t : Bool) → eqb x.info y.info ≡ t → (x ≡ y) ⊎ (x ≡ y → ⊥)
    go true p true q = inl (λ i. mk (eqb-true x.bits y.bits p i) (eqb-true x.info y.info q i))
    go true p false q = inr (λ e. eqb-false x.info y.info q (ap info_of e))
    go false p t q = inr (λ e. eqb-false x.bits y.bits p (ap bits_of e))

-- at most one of a list that keeps T9, where any two would clash
pub apart_in : (es : List Stored) → AllApart es → (x y : Stored) → In x es → In y es → (Apart x y → ⊥) → x ≡ y
apart_in es t x y i j n = go (same_or_not x y)
  where
    go : (x ≡ y) ⊎ (x ≡ y → ⊥) → x ≡ y
    go (inl e) = e
    go (inr d) = absurd (n (Pairs-In⁻ {R = Apart} apart-sym x y es t i j d))

-- ## What is looked for on one side
-- stored mappings of one key that take part, and a mark: a stored mapping with that key that is before all of them
pub record Sought {K : Type 0} (before : Stored → Stored → Bool) (key : Stored → K) (takes holds : Stored → Bool)
    (mark : Stored) : Type 0 where
  pub found : (x : Stored) → holds x ≡ true → (key x ≡ key mark) × ((takes x ≡ true) × (takes mark ≡ true))
  pub alike : (x y : Stored) → holds y ≡ true → key x ≡ key y → takes x ≡ true → holds x ≡ true
  pub least : (x : Stored) → before x mark ≡ true → holds x ≡ false

module _ {K : Type 0} {before shares next : Stored → Stored → Bool} {key : Stored → K} {takes holds : Stored → Bool}
    {mark : Stored}
    (side : Side before shares next key takes) (sought : Sought before key takes holds mark) where
  pub two-clash : (x y : Stored) → holds x ≡ true → holds y ≡ true → shares x y ≡ true
  two-clash x y p q =
      let u = sought.found x p in
      let v = sought.found y q in
      clashes side x y (u.0 ∙ sym v.0) u.1.0 v.1.0

  -- where the first that is not before the mark is none, no later one is
  no-later : (x y : Stored) → before x y ≡ true → before x mark ≡ false → holds x ≡ false → holds y ≡ false
  no-later x y p n m = ¬true⇒false (holds y) (λ q. go q (sought.found y q) (same_or_not x mark))
    where
      later : holds y ≡ true
          → (key y ≡ key mark) × ((takes y ≡ true) × (takes mark ≡ true))
          → Comparable before x mark
          → ⊥
      later q w (inl l) = clash l n
      later q w (inr l) =
          let b = side.between mark x y l p (sym w.0) w.1.1 w.1.0 in
          clash (sought.alike x y q (sym b.0 ∙ sym w.0) b.1) m

      go : holds y ≡ true
          → (key y ≡ key mark) × ((takes y ≡ true) × (takes mark ≡ true))
          → (x ≡ mark) ⊎ (x ≡ mark → ⊥)
          → ⊥
      go q w (inl e) =
          clash (sought.alike x y q (ap key e ∙ sym w.0)
          (subst (λ (z : Stored). takes z ≡ true) (sym e) w.1.1)) m
      go q w (inr d) = later q w (side.total x mark d)

  first-behind : (es : List Stored) (at : ℕ)
      → Rising before es
      → at ≡ prefix_length (λ x. before x mark) es
      → first_of holds es ≡ head_if holds (drop at es)
  first-behind es at r e =
      first-prefix holds (λ x. before x mark) sought.least es
      (Pairs-⇒ {P = λ x. Unit {0}} (λ x y u v p. no-later x y p) es (All-In⁺ es (λ x i. tt)) r)
      ∙ ap (λ (k : ℕ). head_if holds (drop k es)) (sym e)

-- ## A code
pub record Reads (code len : ℕ) (e : Stored) : Type 0 where
  pub its-code : e.bits ≡ code
  pub its-len : extra_in e.info + 1 ≡ len
  pub its-rank : rank_in e.info ≤ 1

pub reads_code⇒Reads : (code len : ℕ) (e : Stored) → reads_code code len e ≡ true → Reads code len e
unfolding reads_code
reads_code⇒Reads code len e p =
    let p2 = and_right (eqb e.bits code) _ p in
    record {
      its-code = eqb-true e.bits code (and_left _ _ p);
      its-len = eqb-true (extra_in e.info + 1) len (and_left _ _ p2);
      its-rank = leb-true (rank_in e.info) 1 (and_right (eqb (extra_in e.info + 1) len) _ p2);
    }

pub is-reads : (code len : ℕ) (e : Stored)
    → e.bits ≡ code
    → extra_in e.info + 1 ≡ len
    → stored_is_read e ≡ true
    → reads_code code len e ≡ true
unfolding reads_code
is-reads code len e p q r = rw (eq-eqb e.bits code p, eq-eqb (extra_in e.info + 1) len q, r)

abbrev pub code_key : ℕ → ℕ → Stored
code_key code len = mk code ((len - 1) * 16777216)

pub sought-code : (code len : ℕ) → Sought less read_key stored_is_read (reads_code code len) (code_key code len)
sought-code code len = record {
  found = λ x q.
      let w = reads_code⇒Reads code len x q in
      let e : extra_in x.info ≡ extra_in ((len - 1) * 16777216) = omega (arith, w.its-len) in (
        (λ i. (w.its-code i, e i)),
        (le-leb (rank_in x.info) 1 w.its-rank, le-leb (rank_in ((len - 1) * 16777216)) 1 (omega arith)),
      );
  alike = λ x y q e f.
      let w = reads_code⇒Reads code len y q in
      is-reads code len x (ap (λ (k : ℕ × ℕ). k.0) e ∙ w.its-code) (ap (λ (k : ℕ × ℕ). k.1 + 1) e ∙ w.its-len) f;
  least = λ x p. ¬true⇒false (reads_code code len x) (λ q. go x (reads_code⇒Reads code len x q) (less-cases x (code_key code len) p));
}
  where
    go : (x : Stored) → Reads code len x → Before x (code_key code len) → ⊥
    go x w (inl h) = omega (arith, w.its-code)
    go x w (inr h) = omega (arith, w.its-len, h.1)

-- no line has a code of no bytes
pub code-none : (bits len n : ℕ) (codes infos : List ℕ) → len < 1 → FirstAt (reads_code bits len) n codes infos n
code-none bits len n codes infos h =
    first_out (reads_code bits len) n codes infos
    (first_of-none (reads_code bits len) (stored_list (take n codes) (take n infos))
    (All-In⁺ (stored_list (take n codes) (take n infos))
    (λ x i. ¬true⇒false (reads_code bits len x) (λ q. let w = (reads_code⇒Reads bits len x q).its-len in omega arith))))

pub code-first : (n : ℕ) (codes infos : List ℕ) (c-long : n ≤ length codes) (i-long : n ≤ length infos)
    → (bits len at : ℕ)
    → Rising less (stored_list (take n codes) (take n infos))
    → at ≡ place_in (code_key bits len) (stored_list (take n codes) (take n infos))
    → FirstAt (reads_code bits len) n codes infos at
code-first n codes infos c-long i-long bits len at r e =
    first-behind reading (sought-code bits len) (stored_list (take n codes) (take n infos)) at r e
    ∙ head_at_lem n codes infos c-long i-long (reads_code bits len) at

-- length and rank in one test
pub reads-in-one : (code len : ℕ) (e : Stored) → e.bits ≡ code → 1 ≤ len
    → reads_code code len e ≡ eqb (e.info / 4194304) ((len - 1) * 4)
reads-in-one code len e b lo = go (eqb (e.info / 4194304) ((len - 1) * 4)) refl
  where
    go : (t : Bool) → eqb (e.info / 4194304) ((len - 1) * 4) ≡ t → reads_code code len e ≡ t
    go true p =
        let q = eqb-true (e.info / 4194304) ((len - 1) * 4) p in
        is-reads code len e b (omega arith) (le-leb (rank_in e.info) 1 (omega arith))
    go false p =
        let q = eqb-false (e.info / 4194304) ((len - 1) * 4) p in
        ¬true⇒false (reads_code code len e) (λ r.
        let w = reads_code⇒Reads code len e r in
        q (omega (arith, w.its-len, w.its-rank)))

-- what the gap says at the place where the search ended
module _ (bits len n : ℕ) (codes infos : List ℕ) (at gap : ℕ) where
  pub gap-behind : at ≡ n → gap ≡ far → GapTells bits len n codes infos at gap
  gap-behind p q = record {
    told = holds-out (reads_code bits len) n codes infos at (omega arith) ∙ sym (le-ltb gap far (omega arith));
    held = λ h. absurd (omega arith);
    few = λ h. absurd (omega arith);
  }

  abbrev here : Stored
  here = stored_at codes infos at

  module _ (lo : 1 ≤ len) (hi : len ≤ 4) (fits : get_or infos at 0 < 4294967296)
      (e : stored_key here ≡ stored_key (code_key bits len) + gap) where
    gap_bits : gap < far → here.bits ≡ bits
    gap_bits h = omega arith

    gap-info : gap < far → here.info ≡ (len - 1) * 16777216 + gap
    gap-info h = omega arith

    reads-near : gap < far → reads_code bits len here ≡ true
    reads-near h =
        let i = gap-info h in
        is-reads bits len here (gap_bits h) (omega arith) (le-leb (rank_in here.info) 1 (omega arith))

    reads-far : far ≤ gap → reads_code bits len here ≡ false
    reads-far h = ¬true⇒false (reads_code bits len here) (λ q.
        let w = reads_code⇒Reads bits len here q in
        omega (arith, w.its-code, w.its-len, w.its-rank))

    told_at : reads_code bits len here ≡ ltb gap far
    told_at = go (ltb gap far) refl
      where
        go : (t : Bool) → ltb gap far ≡ t → reads_code bits len here ≡ t
        go true p = reads-near (ltb-true gap far p)
        go false p = reads-far (ltb-false gap far p)

  pub gap-found : n ≤ length codes → n ≤ length infos → 1 ≤ len → len ≤ 4
      → get_or (take n infos) at 0 < 4294967296
      → GapAt (CodeGap (take n codes) (take n infos) (code_key bits len)) n at gap
      → GapTells bits len n codes infos at gap
  gap-found cl il lo hi near g = go (ltb at n) refl
    where
      at-is : at < n → stored_key here ≡ stored_key (code_key bits len) + gap
      at-is h = sym (λ t. get_or-take n codes at 0 h t * 4294967296 + get_or-take n infos at 0 h t) ∙ g.0 h

      go : (t : Bool) → ltb at n ≡ t → GapTells bits len n codes infos at gap
      go false p =
          let h = ltb-false at n p in
          record {
            told = holds-out (reads_code bits len) n codes infos at h ∙ sym (le-ltb gap far (omega (arith, g.1 h)));
            held = λ s. absurd (omega (arith, g.1 h));
            few = λ s. (lo, hi);
          }
      go true p =
          let h = ltb-true at n p in
          let fits : get_or infos at 0 < 4294967296 = omega (arith, get_or-take n infos at 0 h, near) in
          record {
            told = holds-in (reads_code bits len) n codes infos at h (omega arith) (omega arith)
                ∙ told_at lo hi fits (at-is h);
            held = λ s i. mk (gap_bits lo hi fits (at-is h) s i) (gap-info lo hi fits (at-is h) s i);
            few = λ s. (lo, hi);
          }

-- ## A code point
abbrev pub point_key : ℕ → Stored
point_key point = mk 0 point

writes-is : (point : ℕ) (e : Stored) → writes_point point e ≡ true → (point_in e.info ≡ point) × (stored_decides e ≡ true)
unfolding writes_point
writes-is point e p =
    (eqb-true (point_in e.info) point (and_left _ _ p), and_right (eqb (point_in e.info) point) _ p)

pub is-writes : (point : ℕ) (e : Stored) → point_in e.info ≡ point → stored_decides e ≡ true → writes_point point e ≡ true
unfolding writes_point
is-writes point e p q = and_yes _ _ (eq-eqb (point_in e.info) point p) q

pub sought-point : (point : ℕ) → Sought point_less write_key stored_decides (writes_point point) (point_key point)
sought-point point = record {
  found = λ x q.
      let w = writes-is point x q in
      (let e : point_in x.info ≡ point_in point = omega (arith, w.0) in e, (w.1, marked x w.0));
  alike = λ x y q e f. is-writes point x (e ∙ (writes-is point y q).0) f;
  least = λ x p. ¬true⇒false (writes_point point x) (λ q. go x (writes-is point x q) (point-cases x (point_key point) p));
}
  where
    marked : (x : Stored) → point_in x.info ≡ point → stored_decides (point_key point) ≡ true
    marked x e = rw (ne_eqb (rank_in point) 1 (λ h. omega arith))

    less-no : (x : Stored) → point_in x.info ≡ point → Before x (point_key point) → ⊥
    less-no x e (inl h) = omega arith
    less-no x e (inr h) = omega (arith, h.1)

    go : (x : Stored) → (point_in x.info ≡ point) × (stored_decides x ≡ true)
        → (order_key x < order_key_in point) ⊎ ((order_key x ≡ order_key_in point) × (less x (point_key point) ≡ true)) → ⊥
    go x w (inl h) = omega (arith, key-writes x w.1, key-writes (point_key point) (marked x w.0), w.0)
    go x w (inr h) = less-no x w.0 (less-cases x (point_key point) h.1)

-- a code point that is seen is that of a line
point-seen : (infos order : List ℕ) (at point : ℕ) → point < 2097152 → point_seen infos order at ≡ point
    → (get_or order at 0 < length infos) × (point_in (get_or infos (get_or order at 0) 0) ≡ point)
point-seen infos order at point small e = go (ltb (get_or order at 0) (length infos)) refl e
  where
    go : (t : Bool) → ltb (get_or order at 0) (length infos) ≡ t
        → pick t (point_in (get_or infos (get_or order at 0) 0)) 2097152 ≡ point
        → (get_or order at 0 < length infos) × (point_in (get_or infos (get_or order at 0) 0) ≡ point)
    go true p q = (ltb-true (get_or order at 0) (length infos) p, q)
    go false p q = absurd (omega (arith, q))

-- what a place of a line that has the code point says
module _ (point n : ℕ) (codes infos : List ℕ) where
  pub none-at : HasPoint point n codes infos n
  none-at = record {
    in-codes = λ h. absurd (omega arith);
    in-infos = λ h. absurd (omega arith);
    its-point = λ h. absurd (omega arith);
  }

  pub point_at : (order : List ℕ) (at : ℕ) → n ≤ length codes → n ≤ length infos → at < n → point < 2097152
      → PointGap (take n infos) (take n order) point at 0 → HasPoint point n codes infos (get_or order at 0)
  point_at order at cl il h small g =
      let k = get_or order at 0 in
      let e : point + 0 ≡ point = omega arith in
      let w = point-seen (take n infos) (take n order) at point small (g ∙ e) in
      let s : k < n = omega (arith, w.0, get_or-take n order at 0 h, length-take-le n infos il) in
      record {
        in-codes = λ t. omega arith;
        in-infos = λ t. omega arith;
        its-point = λ t. sym (taken-point n infos order at h s) ∙ w.1;
      }

  module _ (at : ℕ) (w : HasPoint point n codes infos at) (h : at < n) where
    pub point-decided : (rank_in (get_or infos at 0) ≡ 1 → ⊥) → holds_at (writes_point point) n codes infos at ≡ true
    point-decided d =
        holds-in (writes_point point) n codes infos at h (w.in-codes h) (w.in-infos h)
        ∙ is-writes point (stored_at codes infos at) (w.its-point h) (rw (ne_eqb (rank_in (get_or infos at 0)) 1 d))

    pub point-undecided : rank_in (get_or infos at 0) ≡ 1 → holds_at (writes_point point) n codes infos at ≡ false
    unfolding writes_point
    point-undecided e =
        holds-in (writes_point point) n codes infos at h (w.in-codes h) (w.in-infos h)
        ∙ rw (eq-eqb (point_in (get_or infos at 0)) point (w.its-point h), eq-eqb (rank_in (get_or infos at 0)) 1 e)

module _ (point : ℕ) (a b o : List ℕ) (at : ℕ) (r : Rising point_less (picked a b o))
    (e : at ≡ point_place_in (point_key point) (picked a b o)) where
  pub write-out : length o ≤ at → first_of (writes_point point) (picked a b o) ≡ none
  write-out h =
      rw (
        first-behind writing (sought-point point) (picked a b o) at r e,
        sym (map-drop (stored_at a b) at o),
        drop_past o at h,
      )

  pub write-in : at < length o
      → first_of (writes_point point) (picked a b o) ≡ head_if (writes_point point) (stored_at a b (get_or o at 0) ∷ [])
  write-in h =
      rw (
        first-behind writing (sought-point point) (picked a b o) at r e,
        sym (map-drop (stored_at a b) at o),
        drop-∷ o at h,
      )

-- in the second order the same line is found
pub write-ordered : (point : ℕ) (es : List Stored)
    → AllApart es
    → first_of (writes_point point) (map (nth es) (order_of es)) ≡ first_of (writes_point point) es
write-ordered point es t =
    first_of-unique (writes_point point) (map (nth es) (order_of es)) es
    (λ x h. let r = In-map⁻ (nth es) x (order_of es) h in subst (λ (y : Stored). In y es) (sym r.1.1)
    (nth_in es r.0 (In-order_of⁻ es r.0 r.1.0)))
    (λ x h. let r = in-nth x es h in subst (λ (y : Stored). In y (map (nth es) (order_of es))) (sym r.1.1)
    (In-map⁺ (nth es) r.0 (order_of es) (in_order_lem es r.0 r.1.0)))
    (λ x y i j p q. apart_in es t x y i j (λ w. clash (two-clash writing (sought-point point) x y p q) w.1))
