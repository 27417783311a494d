-- A frame's line: its digits, its bytes, the answer and the memory in each case.
use Rattle.std.proofs.Common.{◌≡◌, ◌∙◌, inl, inr, ℕ, zero, suc, ◌+◌, ◌-◌, ◌*◌, ◌/◌, ◌%◌, ◌<◌, ◌≤◌, Bool, true, false, eqb, List, [], ◌∷◌, length, get_or, drop, set, sym, refl, ap, add-one, arith, le-ltb, lt-ltb, ne_eqb, eqb-true, le-leb}
use borrow.Author.Tests.{lt-leb, eqb-false}
use lib.Seq.{sets, sets-eq}
use Rattle.lists.specs.Pick.{pick}
use Rattle.lists.specs.Between.{between}
use Rattle.lists.proofs.Laws.{tests, drop-∷, drop_past, clash, and_left, and_right}
use Rattle.lists.proofs.Between.{between-yes⁻}
use Rattle.table.specs.Text.{digit_of}
use Rattle.frames.specs.Lines.{all_digits, bytes_of_hex, is_dash, is_hex, parsed, parsed_answer, parsed_into, put_into}
use Rattle.std.specs.Prelude.{◌⊎◌, ◌&&◌, Some, None}
use Rattle.std.specs.List.{list_all}
use Rattle.std.proofs.lemmas.Bool.{cases_lt}
use Rattle.std.specs.Char.{is_ascii_hexdigit}

-- the value of a digit, by ranges
module _ (b : ℕ) where
  pub value-digit : 48 ≤ b → b ≤ 57 → b - 48 ≡ digit_of b
  unfolding digit_of
  value-digit h k = search tests

  pub value-capital : 65 ≤ b → b ≤ 70 → b - 55 ≡ digit_of b
  unfolding digit_of
  value-capital h k = simp (le-ltb b 48 (omega arith), lt-leb b 57 (omega arith), le-ltb b 65 h, le-leb b 70 k)

-- a digit, by the library's test
module _ (b : ℕ) where
  abbrev Tested : Type 0
  Tested = is_ascii_hexdigit b ≡ pick (eqb (digit_of b) 16) false true

  pub digit-test : Tested
  unfolding digit_of
  digit-test = from48 (cases_lt b 48)
    where
      from97 : (b < 97) ⊎ (97 ≤ b) → 70 < b → Tested
      from97 (inl h) g = simp (le-leb 48 b (omega arith), le-ltb b 48 (omega arith), lt-leb b 57 (omega arith), le-leb 65 b (omega arith), le-ltb b 65 (omega arith), lt-leb b 70 (omega arith), lt-leb 97 b (omega arith), lt-ltb b 97 (omega arith), le-leb b 102 (omega arith))
      from97 (inr h) g = to102 (cases_lt 102 b)
        where
          to102 : (102 < b) ⊎ (b ≤ 102) → Tested
          to102 (inl k) = simp (le-leb 48 b (omega arith), le-ltb b 48 (omega arith), lt-leb b 57 (omega arith), le-leb 65 b (omega arith), le-ltb b 65 (omega arith), lt-leb b 70 (omega arith), le-leb 97 b (omega arith), le-ltb b 97 (omega arith), lt-leb b 102 (omega arith))
          to102 (inr k) = simp (le-leb 48 b (omega arith), le-ltb b 48 (omega arith), lt-leb b 57 (omega arith), le-leb 65 b (omega arith), le-ltb b 65 (omega arith), lt-leb b 70 (omega arith), le-leb 97 b (omega arith), le-ltb b 97 (omega arith), le-leb b 102 (omega arith), ne_eqb (b - 87) 16 (λ e. omega arith))

      from65 : (b < 65) ⊎ (65 ≤ b) → 57 < b → Tested
      from65 (inl h) g = simp (le-leb 48 b (omega arith), le-ltb b 48 (omega arith), lt-leb b 57 (omega arith), lt-leb 65 b (omega arith), lt-ltb b 65 (omega arith), le-leb b 70 (omega arith), lt-leb 97 b (omega arith), lt-ltb b 97 (omega arith), le-leb b 102 (omega arith))
      from65 (inr h) g = to70 (cases_lt 70 b)
        where
          to70 : (70 < b) ⊎ (b ≤ 70) → Tested
          to70 (inl k) = from97 (cases_lt b 97) k
          to70 (inr k) = simp (le-leb 48 b (omega arith), le-ltb b 48 (omega arith), lt-leb b 57 (omega arith), le-leb 65 b (omega arith), le-ltb b 65 (omega arith), le-leb b 70 (omega arith), lt-leb 97 b (omega arith), lt-ltb b 97 (omega arith), le-leb b 102 (omega arith), ne_eqb (b - 55) 16 (λ e. omega arith))

      from48 : (b < 48) ⊎ (48 ≤ b) → Tested
      from48 (inl h) = simp (lt-leb 48 b (omega arith), lt-ltb b 48 (omega arith), le-leb b 57 (omega arith), lt-leb 65 b (omega arith), lt-ltb b 65 (omega arith), le-leb b 70 (omega arith), lt-leb 97 b (omega arith), lt-ltb b 97 (omega arith), le-leb b 102 (omega arith))
      from48 (inr h) = to57 (cases_lt 57 b)
        where
          to57 : (57 < b) ⊎ (b ≤ 57) → Tested
          to57 (inl k) = from65 (cases_lt b 65) k
          to57 (inr k) = simp (le-leb 48 b (omega arith), le-ltb b 48 (omega arith), le-leb b 57 (omega arith), lt-leb 65 b (omega arith), lt-ltb b 65 (omega arith), le-leb b 70 (omega arith), lt-leb 97 b (omega arith), lt-ltb b 97 (omega arith), le-leb b 102 (omega arith), ne_eqb (b - 48) 16 (λ e. omega arith))

digits-one : (t u r : Bool) → t ≡ pick u false true → (t && r) ≡ pick u false r
digits-one t true r e = rw e
digits-one t false r e = rw e

pub digits-test : (s : List ℕ) → list_all (λ b. is_ascii_hexdigit b) s ≡ all_digits s
unfolding all_digits
digits-test [] = refl
digits-test (b ∷ s) = digits-one (is_ascii_hexdigit b) (eqb (digit_of b) 16) (list_all (λ b. is_ascii_hexdigit b) s) (digit-test b) ∙ rw (digits-test s)

pub digit_at : (s : List ℕ) (i : ℕ) → all_digits s ≡ true → i < length s → digit_of (get_or s i 0) ≡ 16 → ⊥
unfolding all_digits
digit_at [] i e h q = omega arith
digit_at (b ∷ s) i e h q = go (eqb (digit_of b) 16) refl e (λ j f. digit_at s j f) i h q
  where
    go : (t : Bool) → eqb (digit_of b) 16 ≡ t → pick t false (all_digits s) ≡ true
        → ((j : ℕ) → all_digits s ≡ true → j < length s → digit_of (get_or s j 0) ≡ 16 → ⊥)
        → (i : ℕ) → i < suc (length s) → digit_of (get_or (b ∷ s) i 0) ≡ 16 → ⊥
    go true p f ih i h q = clash f refl
    go false p f ih zero h q = eqb-false (digit_of b) 16 p q
    go false p f ih (suc i) h q = ih i f (omega arith) q

-- two digits to a byte
pub frame-stored : (out s : List ℕ) (i p : ℕ) → p + 1 < length s
    → sets out i (bytes_of_hex (drop p s)) ≡ sets (set out i (digit_of (get_or s p 0) * 16 + digit_of (get_or s (p + 1) 0))) (i + 1) (bytes_of_hex (drop (p + 2) s))
unfolding bytes_of_hex
frame-stored out s i p h =
    let a : p < length s = omega arith in
    let e : p + 1 + 1 ≡ p + 2 = omega arith in
    rw (drop-∷ s p a, drop-∷ s (p + 1) h, e, add-one i)

pub frame-done : (out s : List ℕ) (i p : ℕ) → length s ≤ p → sets out i (bytes_of_hex (drop p s)) ≡ out
unfolding bytes_of_hex
frame-done out s i p h = rw (drop_past s p h)

pub length-bytes : (s : List ℕ) → length (bytes_of_hex s) ≡ length s / 2
unfolding bytes_of_hex
length-bytes [] = refl
length-bytes (a ∷ []) = refl
length-bytes (a ∷ b ∷ s) = omega (arith, length-bytes s)

-- what the test of a line of digits says
pub is_hex⁻ : (line : List ℕ) → is_hex line ≡ true → (2 ≤ length line) × (length line ≤ 8192) × (length line % 2 ≡ 0) × (all_digits line ≡ true)
unfolding is_hex
is_hex⁻ line e =
    let n = length line in
    let r = between-yes⁻ 2 8192 n (and_left (between 2 8192 n) _ e) in
    let q = and_right (between 2 8192 n) _ e in
    (r.0, r.1, eqb-true (n % 2) 0 (and_left (eqb (n % 2) 0) _ q), and_right (eqb (n % 2) 0) _ q)

-- the answer and the memory, by what the tests said
module _ (line old : List ℕ) where
  pub frame-dash : is_dash line ≡ true → (Some 0 ≡ parsed_answer old (parsed line)) × (old ≡ parsed_into old (parsed line))
  unfolding parsed parsed_answer parsed_into put_into
  frame-dash h =
      let t = le-leb 0 (length old) (omega arith) in
      (rw h (simp t), rw h (simp t))

  pub frame-bad : is_dash line ≡ false → is_hex line ≡ false → (None ≡ parsed_answer old (parsed line)) × (old ≡ parsed_into old (parsed line))
  unfolding parsed parsed_answer parsed_into
  frame-bad h k = (rw (h, k), rw (h, k))

  module _ (h : is_dash line ≡ false) (k : is_hex line ≡ true) where
    pub frame-full : length old < length line / 2 → (None ≡ parsed_answer old (parsed line)) × (old ≡ parsed_into old (parsed line))
    unfolding parsed parsed_answer parsed_into put_into
    frame-full l =
        let t = lt-leb (0 + length (bytes_of_hex line)) (length old) (omega (arith, length-bytes line)) in
        (rw (h, k) (simp t), rw (h, k) (simp t))

    pub frame-read : length line / 2 ≤ length old
        → (Some (length line / 2) ≡ parsed_answer old (parsed line)) × (sets old 0 (bytes_of_hex line) ≡ parsed_into old (parsed line))
    unfolding parsed parsed_answer parsed_into put_into
    frame-read l =
        let n = length-bytes line in
        let f : 0 + length (bytes_of_hex line) ≤ length old = omega arith in
        let t = le-leb (0 + length (bytes_of_hex line)) (length old) f in
        (rw (h, k) (simp t (ap Some (sym n))), rw (h, k) (simp t (sets-eq (bytes_of_hex line) old 0 f)))
