-- A text written from a place on, piece by piece, and the answer for it.
use Rattle.std.proofs.Common.{◌≡◌, ℕ, ◌+◌, ◌<◌, ◌≤◌, Bool, true, false, List, [], ◌∷◌, ◌++◌, length, sym, refl, ap, ◌∙◌, arith, length-append, le-leb, leb-false, leb-true}
use borrow.Author.Tests.{lt-leb}
use lib.Seq.{sets, sets-eq}
use Rattle.lists.proofs.Stores.{sets-++}
use Rattle.frames.specs.Lines.{digits_of, decimal_count, decimal_of, fixed_line, two_numbers, ok_line, answer_line, finding_line, room_after, put_into}
use Rattle.frames.specs.loops.Inner.{hex_count}
use Rattle.lists.specs.Pick.{pick}
use Rattle.lists.specs.Place.{fits, placed}
use Rattle.frames.proofs.Digits.{length-decimal}
use Rattle.frames.proofs.Hex.{length-hex_of}
use Rattle.std.specs.Prelude.{Some, None}

-- a text was written into old from at on, which left out, and p is the place behind it
pub record Wrote (old : List ℕ) (at : ℕ) (text : List ℕ) (p : ℕ) (out : List ℕ) : Type 0 where
  pub bytes : out ≡ sets old at text
  pub place : p ≡ at + length text

module _ {old : List ℕ} {at : ℕ} {text : List ℕ} {p : ℕ} {out : List ℕ} (w : Wrote old at text p out) where
  -- more was written behind it
  pub wrote-more : (new : List ℕ) (q : ℕ) (next : List ℕ) → next ≡ sets out p new → q ≡ p + length new → Wrote old at (text ++ new) q next
  wrote-more new q next e h =
      record {
        bytes = e ∙ rw (w.bytes, w.place) (sym (sets-++ old at text new));
        place = rw (length-append text new) (omega (arith, w.place));
      }

  -- a text and a number
  pub wrote-number : (before : List ℕ) (n count q : ℕ) (next : List ℕ) → count ≡ decimal_count n → next ≡ sets out p (before ++ digits_of count n)
      → q ≡ p + (length before + count) → Wrote old at (text ++ (before ++ decimal_of n)) q next
  unfolding decimal_of
  wrote-number before n count q next c e h =
      let d : digits_of count n ≡ digits_of (decimal_count n) n = ap (λ (k : ℕ). digits_of k n) c in
      wrote-more (before ++ digits_of (decimal_count n) n) q next (e ∙ rw d) (rw (length-append before (digits_of (decimal_count n) n)) (omega (arith, length-decimal n)))

  pub wrote-all : at + length text ≤ length old → (Some p ≡ room_after old at text) × (out ≡ put_into old at text)
  unfolding room_after put_into
  wrote-all h =
      let t = le-leb (at + length text) (length old) h in
      (rw (t, w.place), rw (t, w.bytes) (sets-eq text old at h))

pub wrote-start : (old : List ℕ) (at : ℕ) → Wrote old at [] at old
wrote-start old at = record { bytes = refl; place = omega arith }

pub wrote_none : (old : List ℕ) (at : ℕ) (text : List ℕ) → length old < at + length text → (None ≡ room_after old at text) × (old ≡ put_into old at text)
unfolding room_after put_into
wrote_none old at text h =
    let t = lt-leb (at + length text) (length old) h in
    (rw t, rw t)

-- how long each line is
pub length-fixed : (s : List ℕ) → length (fixed_line s) ≡ length s + 1
unfolding fixed_line
length-fixed s = length-append s (10 ∷ [])

pub length_two : (a : List ℕ) (n : ℕ) (b : List ℕ) (m : ℕ) → length (two_numbers a n b m) ≡ length a + decimal_count n + (length b + decimal_count m) + 1
unfolding two_numbers
length_two a n b m = simp (length-append, length-decimal)

pub length-ok : (n : ℕ) → length (ok_line n) ≡ 9 + decimal_count n + 1
unfolding ok_line
length-ok n = simp (length-append, length-decimal) (omega arith)

pub length-answer : (n m : ℕ) (s : List ℕ) → length (answer_line n m s) ≡ decimal_count n + decimal_count m + 3 + hex_count (length s)
unfolding answer_line
length-answer n m s = simp (length-append, length-decimal, length-hex_of) (omega arith)

pub length-finding : (code : List ℕ) (n : ℕ) → length (finding_line code n) ≡ hex_count (length code) + (decimal_count n + 2)
unfolding finding_line
length-finding code n = simp (length-append, length-decimal, length-hex_of) (omega arith)

-- what an answer tells a caller
module _ (old : List ℕ) (at : ℕ) (text : List ℕ) where
  put-by : (m : ℕ) (t : Bool) → Some m ≡ pick t (Some (at + length text)) None → (t ≡ true) × (m ≡ at + length text)
  put-by m true e = (refl, cc)
  put-by m false e = let z : ◌≡◌ {A = ℕ} 0 1 = cc in absurd (omega arith)

  full_by : (t : Bool) → None ≡ pick t (Some (at + length text)) None → t ≡ false
  full_by true e = let z : ◌≡◌ {A = ℕ} 0 1 = cc in absurd (omega arith)
  full_by false e = refl

  pub was-put : (m : ℕ) → Some m ≡ room_after old at text → (at + length text ≤ length old) × (m ≡ at + length text) × (put_into old at text ≡ placed old at text)
  unfolding room_after put_into
  was-put m e =
      let r = put-by m (fits old at text) e in
      (leb-true (at + length text) (length old) r.0, r.1, simp r.0)

  pub was-full : None ≡ room_after old at text → (length old < at + length text) × (put_into old at text ≡ old)
  unfolding room_after put_into
  was-full e =
      let r = full_by (fits old at text) e in
      (leb-false (at + length text) (length old) r, simp r)
