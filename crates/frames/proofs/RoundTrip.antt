-- What is written as hexadecimal digits is read back as it was.
use Rattle.std.proofs.Common.{◌≡◌, ℕ, suc, ◌+◌, ◌-◌, ◌*◌, ◌/◌, ◌%◌, ◌<◌, ◌≤◌, true, false, eqb, ltb, List, [], ◌∷◌, length, sym, refl, ap, ◌∙◌, arith, ltb-false, ltb-true, eq-eqb, ne_eqb}
use mathlib.Core.Option.{Option, none, some}
use Rattle.lists.specs.Order.{All}
use Rattle.lists.proofs.Laws.{and_yes}
use Rattle.lists.proofs.Cases.{pick-case}
use Rattle.lists.proofs.Between.{between-yes⁺}
use Rattle.frames.specs.Lines.{hex_digit, hex_bytes, hex_of, all_digits, bytes_of_hex, is_dash, is_hex, parsed}
use Rattle.frames.proofs.Hex.{length-hex}
use Rattle.frames.proofs.Frame.{value-digit, value-capital, length-bytes, is_hex⁻}
use Rattle.table.specs.Text.{digit_of}

-- each number of the list is a byte
abbrev pub Bytes : List ℕ → Type 0
Bytes s = All (λ b. b < 256) s

digit-back : (d : ℕ) → d < 16 → digit_of (hex_digit d) ≡ d
digit-back d h =
    pick-case (λ (x : ℕ). digit_of x ≡ d) (ltb d 10) (48 + d) (65 + (d - 10))
    (λ t. let l = ltb-true d 10 t in sym (value-digit (48 + d) (omega arith) (omega arith)) ∙ omega arith)
    (λ t. let l = ltb-false d 10 t in sym (value-capital (65 + (d - 10)) (omega arith) (omega arith)) ∙ omega arith)

bytes_back : (s : List ℕ) → Bytes s → bytes_of_hex (hex_bytes s) ≡ s
unfolding hex_bytes bytes_of_hex
bytes_back [] h = refl
bytes_back (b ∷ s) h =
    let l : b < 256 = h.0 in
    let p = digit-back (b / 16) (omega arith) in
    let q = digit-back (b % 16) (omega arith) in
    let e : digit_of (hex_digit (b / 16)) * 16 + digit_of (hex_digit (b % 16)) ≡ b = omega arith in
    (λ i. e i ∷ bytes_back s h.1 i)

is_digit : (d : ℕ) → d < 16 → eqb (digit_of (hex_digit d)) 16 ≡ false
is_digit d h = let e = digit-back d h in ne_eqb (digit_of (hex_digit d)) 16 (λ q. omega arith)

all_digits_lem : (s : List ℕ) → Bytes s → all_digits (hex_bytes s) ≡ true
unfolding hex_bytes all_digits
all_digits_lem [] h = refl
all_digits_lem (b ∷ s) h =
    let l : b < 256 = h.0 in
    rw (is_digit (b / 16) (omega arith), is_digit (b % 16) (omega arith)) (all_digits_lem s h.1)

-- a frame of up to 4,096 bytes, none among them, is read back
pub parsed-hex : (s : List ℕ) → Bytes s → length s ≤ 4096 → parsed (hex_of s) ≡ some s
unfolding hex_of parsed is_dash is_hex
parsed-hex [] h l = refl
parsed-hex (b ∷ s) h l =
    let t = hex_bytes (b ∷ s) in
    let n : length t ≡ 2 * suc (length s) = length-hex (b ∷ s) in
    let d : is_dash t ≡ false = simp (ne_eqb (length t) 1 (λ q. omega arith)) in
    let x : is_hex t ≡ true = and_yes _ _ (between-yes⁺ 2 8192 (length t) (omega arith) (omega arith)) (and_yes (eqb (length t % 2) 0) _ (eq-eqb (length t % 2) 0 (omega arith)) (all_digits_lem (b ∷ s) h)) in
    rw (d, x) (ap some (bytes_back (b ∷ s) h))

-- two byte strings with the same digits are the same
pub hex-one-way : (s t : List ℕ) → Bytes s → Bytes t → hex_of s ≡ hex_of t → s ≡ t
unfolding hex_of
hex-one-way [] [] h k e = refl
hex-one-way [] (b ∷ t) h k e = absurd (let n = length-hex (b ∷ t) in let m = ap length e in omega arith)
hex-one-way (a ∷ s) [] h k e = absurd (let n = length-hex (a ∷ s) in let m = ap length e in omega arith)
hex-one-way (a ∷ s) (b ∷ t) h k e = sym (bytes_back (a ∷ s) h) ∙ ap bytes_of_hex e ∙ bytes_back (b ∷ t) k

-- a frame has at most 4,096 bytes
pub parsed-short : (line s : List ℕ) → parsed line ≡ some s → length s ≤ 4096
unfolding parsed
parsed-short line s e =
    pick-case (λ (o : Option (List ℕ)). o ≡ some s → length s ≤ 4096) (is_dash line) (some []) _
    (λ t q. let r : [] ≡ s = cc in omega (arith, ap length r))
    (λ u. pick-case (λ (o : Option (List ℕ)). o ≡ some s → length s ≤ 4096) (is_hex line) (some (bytes_of_hex line)) none
    (λ t q. let r : bytes_of_hex line ≡ s = cc in let m = is_hex⁻ line t in omega (arith, ap length r, length-bytes line))
    (λ t q. let z : ◌≡◌ {A = ℕ} 0 1 = cc in absurd (omega arith)))
    e
