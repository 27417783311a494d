-- UTF-32, over the byte order.
-- utf32-encode-decode   a scalar value's four bytes are decoded to it      utf32-decode-encode  and the other way round
-- utf32-decodes         just that is decoded                               utf32-cut-short      51 is fewer than four bytes
-- utf32-illegal         52 is a number that is no scalar value             decode_in⇒Read        what a decoded sequence is
-- utf32-same            behind four bytes nothing matters                  formed_in-encode_in    what is encoded is well formed
-- mark_at-mark_in         a text that begins with a mark has it              mark-begins          a mark is its four bytes
-- mark_at⇒long           a text with a mark has four bytes                  utf32-long           an illegal number has four bytes
-- Cited by: docs/PROMISES.md, demand 2.
use mathlib.Core.Path.{◌≡◌, refl, sym, ap, subst, ◌∙◌}
use mathlib.Core.Logic.{◌↔◌}
use Prim.Native.Nat.{ℕ, ◌≤◌, ◌<◌}
use mathlib.Core.List.{List, [], ◌++◌, append-nil}
use mathlib.Core.Bool.{true, false}
use native.Mathlib.Omega.{arith}
use borrow.Author.Tests.{ltb-true, ltb-false, le-ltb, eqb-true, eq-eqb}
use lib.Dec.{ltb}
use lib.ListN.{length, drop, take-append-drop, length-append}
use lib.Seq.{take-append-le}
use Rattle.lists.specs.Order.{All}
use Rattle.lists.proofs.Laws.{clash, ¬true⇒false}
use Rattle.lists.proofs.Cases.{pick-case}
use Rattle.utf.specs.Utf8.{Scalar, is_scalar}
use Rattle.utf.specs.Utf32.{encode_in, word_in, decode_in, mark_in, is_mark, mark_at}
use Rattle.utf.specs.Scheme.{formed_in}
use Rattle.utf.specs.declared.utf8.Stop.TheVariants as stop
use Rattle.utf.specs.declared.utf8.Sequence.{Sequence}
use Rattle.utf.specs.declared.utf8.Sequence.TheVariants as sequence
use Rattle.utf.specs.declared.utf32.ByteOrder.{ByteOrder}
use Rattle.utf.specs.declared.utf32.ByteOrder.TheVariants.{Big, Little}
use Rattle.std.specs.Prelude.{Option, Some}
use Rattle.utf.proofs.Puts.{is_scalar⇒Scalar, Scalar⇒is_scalar}
use Rattle.utf.proofs.Words.{length-encode_in, decode_in-short, decode_in-scalar, decode_in-illegal, word_in-encode_in, encode_in-word_in}

module _ (order : ByteOrder) where
  long-enough : (c : ℕ) (rest : List ℕ) → 4 ≤ length (encode_in order c ++ rest)
  long-enough c rest = omega (arith, length-append (encode_in order c) rest, length-encode_in order c)

  pub utf32-encode-decode : (c : ℕ) (rest : List ℕ) → Scalar c
      → decode_in order (encode_in order c ++ rest) ≡ sequence.Scalar c (length (encode_in order c))
  utf32-encode-decode c rest s =
      let h = s.below in
      sym (decode_in-scalar order (encode_in order c ++ rest) (long-enough c rest) c (sym (word_in-encode_in order c rest (omega arith))) (Scalar⇒is_scalar c s))
      ∙ ap (sequence.Scalar c) (sym (length-encode_in order c))

  -- what was decoded
  pub record Read (s : List ℕ) (c n : ℕ) : Type 0 where
    pub count : n ≡ 4
    pub long : 4 ≤ length s
    pub word : c ≡ word_in order s
    pub scalar : Scalar c

  pub decode_in⇒Read : (s : List ℕ) (c n : ℕ) → decode_in order s ≡ sequence.Scalar c n → Read s c n
  unfolding decode_in
  decode_in⇒Read s c n =
      pick-case (λ (q : Sequence). q ≡ sequence.Scalar c n → Read s c n) (ltb (length s) 4) _ _
      (λ t e. absurd (let z : ◌≡◌ {A = ℕ} 0 1 = cc in omega arith))
      (λ t. pick-case (λ (q : Sequence). q ≡ sequence.Scalar c n → Read s c n) (is_scalar (word_in order s)) _ _
      (λ u e.
      let w : word_in order s ≡ c = cc in
      let m : 4 ≡ n = cc in
      record { count = sym m; long = ltb-false (length s) 4 t; word = sym w; scalar = is_scalar⇒Scalar c (ap is_scalar (sym w) ∙ u) })
      (λ u e. absurd (let z : ◌≡◌ {A = ℕ} 0 1 = cc in omega arith)))

  pub utf32-decode-encode : (s : List ℕ) (c n : ℕ) → All (λ b. b < 256) s → decode_in order s ≡ sequence.Scalar c n
      → s ≡ encode_in order c ++ drop n s
  utf32-decode-encode s c n bytes e =
      let r = decode_in⇒Read s c n e in
      sym (take-append-drop 4 s)
      ∙ (λ i. (sym (encode_in-word_in order s r.long bytes) ∙ ap (encode_in order) (sym r.word)) i ++ drop (sym r.count i) s)

  pub utf32-decodes : (s : List ℕ) (c n : ℕ) → All (λ b. b < 256) s
      → (decode_in order s ≡ sequence.Scalar c n) ↔ ((n ≡ 4) × Scalar c × ((rest : List ℕ) × (s ≡ encode_in order c ++ rest)))
  utf32-decodes s c n bytes = (
    λ e. let r = decode_in⇒Read s c n e in (r.count, r.scalar, (drop n s, utf32-decode-encode s c n bytes e)),
    λ h. ap (decode_in order) h.2.1 ∙ utf32-encode-decode c h.2.0 h.1 ∙ ap (sequence.Scalar c) (length-encode_in order c ∙ sym h.0),
  )

  pub utf32-cut-short : (s : List ℕ) → (decode_in order s ≡ sequence.Stopped stop.CutShort) ↔ (length s < 4)
  unfolding decode_in
  utf32-cut-short s = (
    pick-case (λ (q : Sequence). q ≡ sequence.Stopped stop.CutShort → length s < 4) (ltb (length s) 4) _ _
        (λ t e. ltb-true (length s) 4 t)
        (λ t. pick-case (λ (q : Sequence). q ≡ sequence.Stopped stop.CutShort → length s < 4) (is_scalar (word_in order s)) _ _
        (λ u e. absurd (let z : ◌≡◌ {A = ℕ} 0 1 = cc in omega arith))
        (λ u e. absurd (let z : ◌≡◌ {A = ℕ} 0 1 = cc in omega arith))),
    λ h. decode_in-short order s h,
  )

  pub utf32-illegal : (s : List ℕ)
      → (decode_in order s ≡ sequence.Stopped (stop.Illegal 4)) ↔ ((4 ≤ length s) × (Scalar (word_in order s) → ⊥))
  unfolding decode_in
  utf32-illegal s = (
    pick-case (λ (q : Sequence). q ≡ sequence.Stopped (stop.Illegal 4) → Illegal) (ltb (length s) 4) _ _
        (λ t e. absurd (let z : ◌≡◌ {A = ℕ} 0 1 = cc in omega arith))
        (λ t. pick-case (λ (q : Sequence). q ≡ sequence.Stopped (stop.Illegal 4) → Illegal) (is_scalar (word_in order s)) _ _
        (λ u e. absurd (let z : ◌≡◌ {A = ℕ} 0 1 = cc in omega arith))
        (λ u e. (ltb-false (length s) 4 t, λ k. clash (Scalar⇒is_scalar (word_in order s) k) u))),
    λ h. sym (decode_in-illegal order s h.0 (word_in order s) refl (¬true⇒false (is_scalar (word_in order s)) (λ y. h.1 (is_scalar⇒Scalar (word_in order s) y)))),
  )
    where
      Illegal : Type 0
      Illegal = (4 ≤ length s) × (Scalar (word_in order s) → ⊥)

  -- behind four bytes nothing matters
  pub utf32-same : (s t : List ℕ) → 4 ≤ length s → decode_in order (s ++ t) ≡ decode_in order s
  unfolding decode_in
  utf32-same s t h =
      let w : word_in order (s ++ t) ≡ word_in order s = rw (take-append-le 4 s t h) in
      rw (le-ltb (length (s ++ t)) 4 (omega (arith, length-append s t)), le-ltb (length s) 4 h, w)

  -- an illegal number has four bytes
  pub utf32-long : (s : List ℕ) (n : ℕ) → decode_in order s ≡ sequence.Stopped (stop.Illegal n) → 4 ≤ length s
  utf32-long s n e =
      pick-case (λ (x : ℕ). 4 ≤ length s) (ltb (length s) 4) 0 0
      (λ t. absurd (let q = sym ((utf32-cut-short s).1 (ltb-true (length s) 4 t)) ∙ e in let z : ◌≡◌ {A = ℕ} 0 1 = cc in omega arith))
      (λ t. ltb-false (length s) 4 t)

  -- the encoding of a scalar value is one whole well-formed sequence
  pub formed_in-encode_in : (c : ℕ) → Scalar c → formed_in order (encode_in order c) ≡ true
  unfolding formed_in
  formed_in-encode_in c s =
      let h = s.below in
      let w : word_in order (encode_in order c) ≡ c = ap (word_in order) (sym (append-nil (encode_in order c))) ∙ word_in-encode_in order c [] (omega arith) in
      let t : is_scalar (word_in order (encode_in order c)) ≡ true = ap is_scalar w ∙ Scalar⇒is_scalar c s in
      simp (eq-eqb (length (encode_in order c)) 4 (length-encode_in order c), t)

-- ## The byte order mark

fe-ff : Scalar 0xfeff
fe-ff = record { below = omega arith; plain = λ w. omega (arith, w.1) }

is_mark-mark_in : (order : ByteOrder) (s : List ℕ) → is_mark (decode_in order (mark_in order ++ s)) ≡ true
is_mark-mark_in order s = ap is_mark (utf32-encode-decode order 0xfeff s fe-ff)

-- FF FE 00 00 is no number of a code point in big-endian order
is_mark-Little : (s : List ℕ) → is_mark (decode_in Big (mark_in Little ++ s)) ≡ false
unfolding encode_in is_scalar
is_mark-Little s = ap is_mark (sym (decode_in-illegal Big (mark_in Little ++ s) (omega arith) 0xfffe0000 refl refl))

mark-read : (q : Sequence) → is_mark q ≡ true → (n : ℕ) × (q ≡ sequence.Scalar 0xfeff n)
mark-read (sequence.Scalar c n) e = (n, ap (λ (x : ℕ). sequence.Scalar x n) (eqb-true c 0xfeff e))
mark-read (sequence.Stopped w) e = absurd (clash e refl)

pub mark_at-mark_in : (order : ByteOrder) (s : List ℕ) → mark_at (mark_in order ++ s) ≡ Some order
unfolding mark_at
mark_at-mark_in Big s = simp (is_mark-mark_in Big s)
mark_at-mark_in Little s = simp (is_mark-Little s, is_mark-mark_in Little s)

-- a mark is U+FEFF, decoded in its order
mark-decodes : (order : ByteOrder) (s : List ℕ) → mark_at s ≡ Some order → (n : ℕ) × (decode_in order s ≡ sequence.Scalar 0xfeff n)
unfolding mark_at
mark-decodes order s =
    pick-case (λ (m : Option ByteOrder). m ≡ Some order → (n : ℕ) × (decode_in order s ≡ sequence.Scalar 0xfeff n)) (is_mark (decode_in Big s)) _ _
    (λ t e. let o : Big ≡ order = cc in subst (λ (x : ByteOrder). (n : ℕ) × (decode_in x s ≡ sequence.Scalar 0xfeff n)) o (mark-read (decode_in Big s) t))
    (λ t. pick-case (λ (m : Option ByteOrder). m ≡ Some order → (n : ℕ) × (decode_in order s ≡ sequence.Scalar 0xfeff n)) (is_mark (decode_in Little s)) _ _
    (λ u e. let o : Little ≡ order = cc in subst (λ (x : ByteOrder). (n : ℕ) × (decode_in x s ≡ sequence.Scalar 0xfeff n)) o (mark-read (decode_in Little s) u))
    (λ u e. absurd (let z : ◌≡◌ {A = ℕ} 0 1 = cc in omega arith)))

pub mark_at⇒long : (order : ByteOrder) (s : List ℕ) → mark_at s ≡ Some order → 4 ≤ length s
mark_at⇒long order s e = let r = mark-decodes order s e in (decode_in⇒Read order s 0xfeff r.0 r.1).long

pub mark-begins : (order : ByteOrder) (s : List ℕ) → All (λ b. b < 256) s → mark_at s ≡ Some order → s ≡ mark_in order ++ drop 4 s
mark-begins order s bytes e =
    let r = mark-decodes order s e in
    utf32-decode-encode order s 0xfeff r.0 bytes r.1 ∙ ap (λ (n : ℕ). mark_in order ++ drop n s) (decode_in⇒Read order s 0xfeff r.0 r.1).count
