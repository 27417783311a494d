-- A stored line and the line itself: one form for one line.
-- ok-rank, ok-padded, padded-length   a stored mapping of the form: its rank, its code of 1 to 4 bytes
-- line-stored, stored-of-ok             a line that can be stored comes back, and is of the form
-- stored-line, good-stored             a stored mapping of the form comes back, and its line can be stored
-- same-packed       the same bytes as they are stored
-- stored-bits to stored-writes          what is stored of a line
use mathlib.Core.Path.{◌≡◌, refl, ap, ◌∙◌, subst}
use mathlib.Core.Bool.{Bool, true, false}
use mathlib.Core.List.{List}
use Prim.Native.Nat.{ℕ, ◌+◌, ◌-◌, ◌*◌, ◌/◌, ◌%◌, ◌<◌, ◌≤◌}
use native.Mathlib.Omega.{arith}
use lib.Dec.{ltb, leb, eqb}
use lib.ListN.{length}
use borrow.Author.Tests.{eqb-true, eq-eqb, leb-true, ltb-true}
use Rattle.lists.specs.Pick.{pick}
use Rattle.lists.proofs.Choice.{⇔⇒≡}
use Rattle.lists.proofs.Laws.{clash, and_yes, and_left, and_right}
use Rattle.table.specs.Codes.{packed, unpacked, AllByte}
use Rattle.table.specs.Meaning.{Line, is_read, decides_point}
use Rattle.table.specs.Rules.{t6}
use Rattle.table.specs.Stored.{Stored, mk, point_in, rank_in, extra_in, rank_of, indicator_in, stored_of, line_in, padded, is_rank, stored_ok, stored_is_read, stored_decides}
use Rattle.table.specs.loops.Progress.{GoodLine}
use Rattle.table.proofs.Ranks.{rank-back, is_rank-rank_of, is_rank⇒≤4, rank_of-indicator_in, is_rank⇒indicator_in<4, rank_of-is_read, rank_of-is_written}
use Rattle.table.proofs.Packing.{length-unpacked, unpacked-bytes, unpacked-packed, pack-unpack, pack-one-way, packed-padded}
use Rattle.lists.specs.Strings.{same}
use Rattle.lists.proofs.Strings.{same⇒≡, same_refl}

-- the rank of a stored mapping of the form
pub ok-rank : (e : Stored) → stored_ok e ≡ true → is_rank (rank_in e.info) ≡ true
unfolding stored_ok
ok-rank e h = and_left _ _ h

pub ok-padded : (e : Stored) → stored_ok e ≡ true → padded (extra_in e.info + 1) e.bits ≡ true
unfolding stored_ok
ok-padded e h = and_right (is_rank (rank_in e.info)) _ h

-- lengths of a code with zeros in its unused places
pub padded-length : (len bits : ℕ) → padded len bits ≡ true → (1 ≤ len) × (len ≤ 4)
unfolding padded
padded-length len v h = go (eqb len 1) refl (eqb len 2) refl (eqb len 3) refl h
  where
    go : (x : Bool) → eqb len 1 ≡ x → (y : Bool) → eqb len 2 ≡ y → (z : Bool) → eqb len 3 ≡ z
        → pick x (eqb (v % 16777216) 0) (pick y (eqb (v % 65536) 0) (pick z (eqb (v % 256) 0) (eqb len 4))) ≡ true
        → (1 ≤ len) × (len ≤ 4)
    go true p y q z r e = let n = eqb-true len 1 p in (omega arith, omega arith)
    go false p true q z r e = let n = eqb-true len 2 q in (omega arith, omega arith)
    go false p false q true r e = let n = eqb-true len 3 r in (omega arith, omega arith)
    go false p false q false r e = let n = eqb-true len 4 e in (omega arith, omega arith)

t6-small : (l : Line) → t6 l ≡ true → l.point < 2097152
t6-small l h = go (ltb l.point 0xd800) refl (ltb l.point 0xe000) h
  where
    go : (x : Bool)
        → ltb l.point 0xd800 ≡ x
        → (y : Bool)
        → pick x true (pick y false (leb l.point 0x10ffff)) ≡ true
        → l.point < 2097152
    go true p y e = let a = ltb-true l.point 0xd800 p in omega arith
    go false p true e = absurd (clash e refl)
    go false p false e = let a = leb-true l.point 0x10ffff e in omega arith

-- the parts of what is stored
abbrev info_for : Line → ℕ
info_for l = l.point + 2097152 * rank_of l.indicator + 16777216 * (length l.code - 1)

parts-of : (p r x : ℕ)
    → p < 2097152
    → r ≤ 4
    → ((p + 2097152 * r + 16777216 * x) % 2097152 ≡ p) × ((p + 2097152 * r + 16777216 * x) / 2097152 % 8 ≡ r)
    × ((p + 2097152 * r + 16777216 * x) / 16777216 ≡ x)
parts-of p r x h k = (omega arith, omega arith, omega arith)

module _ (l : Line) (g : GoodLine l) where
  parts : (point_in (info_for l) ≡ l.point) × (rank_in (info_for l) ≡ rank_of l.indicator)
      × (extra_in (info_for l) ≡ length l.code - 1)
  parts =
      parts-of l.point (rank_of l.indicator) (length l.code - 1) (t6-small l g.scalar)
      (is_rank⇒≤4 (rank_of l.indicator) (is_rank-rank_of l.indicator g.proper.digit))

  pub line-stored : line_in (stored_of l) ≡ l
  unfolding line_in stored_of
  line-stored =
      let n : length l.code - 1 + 1 ≡ length l.code = let h = g.some_bytes in omega arith in
      let c : unpacked (extra_in (info_for l) + 1) (packed l.code) ≡ l.code =
      ap (λ (k : ℕ). unpacked (k + 1) (packed l.code)) parts.2 ∙ ap (λ (k : ℕ). unpacked k (packed l.code)) n
      ∙ unpacked-packed l.code g.proper.bytes g.few_bytes in
      let d : indicator_in (rank_in (info_for l)) ≡ l.indicator =
      ap indicator_in parts.1 ∙ rank-back l.indicator g.proper.digit in
      (λ i. record { point = parts.0 i; code = c i; indicator = d i })

  pub stored-of-ok : stored_ok (stored_of l) ≡ true
  unfolding stored_ok stored_of
  stored-of-ok =
      let n : extra_in (info_for l) + 1 ≡ length l.code = let h = g.some_bytes in let q = parts.2 in omega arith in
      and_yes (is_rank (rank_in (info_for l))) _
      (ap is_rank parts.1 ∙ is_rank-rank_of l.indicator g.proper.digit)
      (ap (λ (k : ℕ). padded k (packed l.code)) n
      ∙ packed-padded l.code g.proper.bytes g.some_bytes g.few_bytes)

pub stored-line : (e : Stored) → stored_ok e ≡ true → stored_of (line_in e) ≡ e
unfolding line_in stored_of
stored-line e h =
    let b : packed (unpacked (extra_in e.info + 1) e.bits) ≡ e.bits =
    pack-unpack (extra_in e.info + 1) e.bits (ok-padded e h) in
    let r : rank_of (indicator_in (rank_in e.info)) ≡ rank_in e.info =
    rank_of-indicator_in (rank_in e.info) (ok-rank e h) in
    let n : length (unpacked (extra_in e.info + 1) e.bits) ≡ extra_in e.info + 1 =
    length-unpacked (extra_in e.info + 1) e.bits in
    let i : point_in e.info + 2097152 * rank_of (indicator_in (rank_in e.info))
    + 16777216 * (length (unpacked (extra_in e.info + 1) e.bits) - 1) ≡ e.info = rw (r, n) (whole e.info) in
    (λ t. mk (b t) (i t))
  where
    whole : (v : ℕ) → v % 2097152 + 2097152 * (v / 2097152 % 8) + 16777216 * (v / 16777216 + 1 - 1) ≡ v
    whole v = omega arith

-- a stored line of the form whose bytes are bytes
pub good-stored : (e : Stored) → stored_ok e ≡ true → e.bits < 4294967296 → t6 (line_in e) ≡ true → GoodLine (line_in e)
unfolding line_in
good-stored e h b p =
    let n = padded-length (extra_in e.info + 1) e.bits (ok-padded e h) in
    let q = length-unpacked (extra_in e.info + 1) e.bits in
    record {
      proper =
          record {
            bytes = unpacked-bytes (extra_in e.info + 1) e.bits b;
            digit = is_rank⇒indicator_in<4 (rank_in e.info) (ok-rank e h);
          };
      some_bytes = omega (arith, n.0);
      few_bytes = omega (arith, n.1);
      scalar = p;
    }

-- a code of a line against a code of as many bytes as can be stored
module _ (s t : List ℕ) (ps : AllByte s) (pt : AllByte t) (ls : 1 ≤ length s) (ms : length s ≤ 4)
    (lt : 1 ≤ length t) where
  pub same-packed : same s t ≡ pick (eqb (packed s) (packed t)) (eqb (length s - 1) (length t - 1)) false
  same-packed =
      ⇔⇒≡ (same s t) (pick (eqb (packed s) (packed t)) (eqb (length s - 1) (length t - 1)) false) there back
    where
      there : same s t ≡ true → pick (eqb (packed s) (packed t)) (eqb (length s - 1) (length t - 1)) false ≡ true
      there h =
          let e = same⇒≡ s t h in
          and_yes _ _ (eq-eqb (packed s) (packed t) (ap packed e))
          (eq-eqb (length s - 1) (length t - 1) (ap (λ (l : List ℕ). length l - 1) e))

      back : pick (eqb (packed s) (packed t)) (eqb (length s - 1) (length t - 1)) false ≡ true → same s t ≡ true
      back h =
          let p = eqb-true (packed s) (packed t) (and_left (eqb (packed s) (packed t)) _ h) in
          let n = eqb-true (length s - 1) (length t - 1) (and_right (eqb (packed s) (packed t)) _ h) in
          subst (λ (l : List ℕ). same s l ≡ true) (pack-one-way s t ps pt (omega arith) ms p) (same_refl s)

module _ (l : Line) (g : GoodLine l) where
  pub stored-bits : (stored_of l).bits ≡ packed l.code
  unfolding stored_of
  stored-bits = refl

  pub stored-point : point_in (stored_of l).info ≡ l.point
  unfolding stored_of
  stored-point = (parts l g).0

  pub stored-extra : extra_in (stored_of l).info ≡ length l.code - 1
  unfolding stored_of
  stored-extra = (parts l g).2

  pub stored-reads : stored_is_read (stored_of l) ≡ is_read l
  unfolding stored_of
  stored-reads = ap (λ (k : ℕ). leb k 1) (parts l g).1 ∙ rank_of-is_read l g.proper.digit

  pub stored-writes : stored_decides (stored_of l) ≡ decides_point l
  unfolding stored_of
  stored-writes = ap (λ (k : ℕ). pick (eqb k 1) false true) (parts l g).1 ∙ rank_of-is_written l g.proper.digit
