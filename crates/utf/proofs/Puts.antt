-- Encoding into a list: the answer and the list in each of the three cases, and what an answer tells a caller.
use mathlib.Core.Path.{◌≡◌, refl, sym, ap, ◌∙◌}
use Prim.Native.Nat.{ℕ, zero, suc, ◌+◌, ◌≤◌, ◌<◌}
use mathlib.Core.List.{List, ◌∷◌}
use mathlib.Core.Bool.{Bool, true, false}
use native.Mathlib.Omega.{arith}
use native.Mathlib.Numerals.{add-one}
use borrow.Author.Tests.{lt-ltb, ltb-true, ltb-false, leb-true, leb-false}
use lib.Dec.{ltb}
use lib.ListN.{length}
use Rattle.lists.specs.Pick.{pick}
use Rattle.lists.specs.Place.{fits, placed}
use Rattle.lists.proofs.Laws.{clash, ¬true⇒false}
use Rattle.lists.proofs.Cases.{pick-case}
use Rattle.utf.specs.Utf8.{Scalar, is_scalar, trail_count, lead_byte, trail_bytes, encode_of, encode_answer, encode_into, put_answer, put_into}
use Rattle.std.specs.Prelude.{Result, Ok, Err}
use Rattle.utf.specs.declared.utf8.PutError.{PutError}
use Rattle.utf.specs.declared.utf8.PutError.TheVariants.{NoRoom, NotScalar}
use Rattle.utf.proofs.Groups.{count_most}

-- the test of a scalar value, both ways
pub is_scalar⇒Scalar : (c : ℕ) → is_scalar c ≡ true → Scalar c
unfolding is_scalar
is_scalar⇒Scalar c =
    pick-case (λ (t : Bool). t ≡ true → Scalar c) (ltb c 0xd800) _ _
    (λ t e. let a = ltb-true c 0xd800 t in record { below = omega arith; plain = λ p. omega arith })
    (λ t0. pick-case (λ (t : Bool). t ≡ true → Scalar c) (ltb c 0xe000) _ _ (λ t e. absurd (clash e refl))
    (λ t1 e. let a = ltb-false c 0xe000 t1 in record { below = ltb-true c 0x110000 e; plain = λ p. omega arith }))

pub Scalar⇒is_scalar : (c : ℕ) → Scalar c → is_scalar c ≡ true
unfolding is_scalar
Scalar⇒is_scalar c s =
    pick-case (λ (t : Bool). t ≡ true) (ltb c 0xd800) _ _ (λ t. refl)
    (λ t0. pick-case (λ (t : Bool). t ≡ true) (ltb c 0xe000) _ _ (λ t. absurd (s.plain (ltb-false c 0xd800 t0, ltb-true c 0xe000 t))) (λ t1. lt-ltb c 0x110000 s.below))

-- how long an encoding is
length-trails : (c k : ℕ) → length (trail_bytes c k) ≡ k
length-trails c zero = refl
length-trails c (suc k) = ap suc (length-trails c k)

pub length-encode_of : (c : ℕ) → length (encode_of c) ≡ trail_count c + 1
unfolding encode_of
length-encode_of c = ap suc (length-trails c (trail_count c)) ∙ sym (add-one (trail_count c))

pub length-encode : (c : ℕ) → (1 ≤ length (encode_of c)) × (length (encode_of c) ≤ 4)
length-encode c = omega (arith, length-encode_of c, count_most c)

-- the answer and the list, by what the number is
not-scalar : (c : ℕ) → (Scalar c → ⊥) → is_scalar c ≡ false
not-scalar c other = ¬true⇒false (is_scalar c) (λ e. other (is_scalar⇒Scalar c e))

module _ (encode : ℕ → List ℕ) (c : ℕ) (old : List ℕ) (at : ℕ) where
  pub encode_answer-refused : (Scalar c → ⊥) → encode_answer encode c old at ≡ Err NotScalar
  unfolding encode_answer
  encode_answer-refused other = rw (not-scalar c other)

  pub encode_into-refused : (Scalar c → ⊥) → encode_into encode c old at ≡ old
  unfolding encode_into
  encode_into-refused other = rw (not-scalar c other)

  pub encode_answer-scalar : Scalar c → encode_answer encode c old at ≡ put_answer old at (encode c)
  unfolding encode_answer
  encode_answer-scalar scalar = rw (Scalar⇒is_scalar c scalar)

  pub encode_into-scalar : Scalar c → encode_into encode c old at ≡ put_into old at (encode c)
  unfolding encode_into
  encode_into-scalar scalar = rw (Scalar⇒is_scalar c scalar)

-- an encoding by its count of trail bytes
pub encode_of-count : (c k : ℕ) → k ≡ trail_count c → encode_of c ≡ lead_byte c k ∷ trail_bytes c k
unfolding encode_of
encode_of-count c k e = rw e refl

pub ruleset puts = (encode_answer-refused, encode_into-refused, encode_answer-scalar, encode_into-scalar, encode_of-count)

-- what each answer tells a caller
pub record PutDone (encode : ℕ → List ℕ) (c : ℕ) (old : List ℕ) (at m : ℕ) : Type 0 where
  pub scalar : Scalar c
  pub within : at + length (encode c) ≤ length old
  pub count : m ≡ length (encode c)
  pub bytes : encode_into encode c old at ≡ placed old at (encode c)

pub record PutFull (encode : ℕ → List ℕ) (c : ℕ) (old : List ℕ) (at : ℕ) : Type 0 where
  pub scalar : Scalar c
  pub beyond : length old < at + length (encode c)
  pub kept : encode_into encode c old at ≡ old

pub record PutRefused (encode : ℕ → List ℕ) (c : ℕ) (old : List ℕ) (at : ℕ) : Type 0 where
  pub other : Scalar c → ⊥
  pub kept : encode_into encode c old at ≡ old

-- the answer and the list by the two tests
module _ (encode : ℕ → List ℕ) (c : ℕ) (old : List ℕ) (at : ℕ) where
  abbrev AnswerBy : Bool → Bool → Result ℕ PutError
  AnswerBy s t = pick s (pick t (Ok (length (encode c))) (Err NoRoom)) (Err NotScalar)

  abbrev IntoBy : Bool → Bool → List ℕ
  IntoBy s t = pick s (pick t (placed old at (encode c)) old) old

  done-by : (m : ℕ) (s t : Bool) → Ok m ≡ AnswerBy s t → (s ≡ true) × (t ≡ true) × (m ≡ length (encode c)) × (IntoBy s t ≡ placed old at (encode c))
  done-by m true true e = (refl, refl, cc, refl)
  done-by m true false e = let z : ◌≡◌ {A = ℕ} 0 1 = cc in absurd (omega arith)
  done-by m false t e = let z : ◌≡◌ {A = ℕ} 0 1 = cc in absurd (omega arith)

  full_by : (s t : Bool) → Err NoRoom ≡ AnswerBy s t → (s ≡ true) × (t ≡ false) × (IntoBy s t ≡ old)
  full_by true true e = let z : ◌≡◌ {A = ℕ} 0 1 = cc in absurd (omega arith)
  full_by true false e = (refl, refl, refl)
  full_by false t e = let z : ◌≡◌ {A = ℕ} 0 1 = cc in absurd (omega arith)

  refused-by : (s t : Bool) → Err NotScalar ≡ AnswerBy s t → (s ≡ false) × (IntoBy s t ≡ old)
  refused-by true true e = let z : ◌≡◌ {A = ℕ} 0 1 = cc in absurd (omega arith)
  refused-by true false e = let z : ◌≡◌ {A = ℕ} 0 1 = cc in absurd (omega arith)
  refused-by false t e = (refl, refl)

  pub put-done : (m : ℕ) → Ok m ≡ encode_answer encode c old at → PutDone encode c old at m
  unfolding encode_answer encode_into
  put-done m e =
      let r = done-by m (is_scalar c) (fits old at (encode c)) e in
      record { scalar = is_scalar⇒Scalar c r.0; within = leb-true _ _ r.1; count = r.2; bytes = r.3 }

  pub put_full : Err NoRoom ≡ encode_answer encode c old at → PutFull encode c old at
  unfolding encode_answer encode_into
  put_full e =
      let r = full_by (is_scalar c) (fits old at (encode c)) e in
      record { scalar = is_scalar⇒Scalar c r.0; beyond = leb-false _ _ r.1; kept = r.2 }

  pub put_refused : Err NotScalar ≡ encode_answer encode c old at → PutRefused encode c old at
  unfolding encode_answer encode_into
  put_refused e =
      let r = refused-by (is_scalar c) (fits old at (encode c)) e in
      record { other = λ s. clash (Scalar⇒is_scalar c s) r.0; kept = r.1 }
