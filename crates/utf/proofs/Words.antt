-- UTF-32, over the byte order: four bytes as a number and a number as four bytes, which undo each other.
-- word_in-four      the first four bytes, one by one            encode_in-four   a number's bytes, one by one
-- word_in-encode_in a number put into four bytes and read       encode_in-word_in four bytes read and put
-- decode_in-short, decode_in-scalar, decode_in-illegal   what is decoded, by the tests     length-encode_in  always four
use mathlib.Core.Path.{◌≡◌, refl, sym, ap, ◌∙◌}
use Prim.Native.Nat.{ℕ, zero, suc, ◌+◌, ◌*◌, ◌/◌, ◌%◌, ◌^◌, ◌≤◌, ◌<◌}
use mathlib.Core.List.{List, [], ◌∷◌, ◌++◌}
use mathlib.Core.Bool.{true, false}
use native.Mathlib.Omega.{arith}
use borrow.Author.Tests.{lt-ltb, le-ltb}
use lib.ListN.{length, get_or, take}
use lib.Pow.{shr-shr}
use lib.Seq.{take-append_seam}
use Rattle.std.specs.Prelude.{if◌then◌else◌}
use Rattle.lists.specs.Order.{All}
use Rattle.utf.specs.Utf8.{is_scalar}
use Rattle.utf.specs.Utf32.{number_from, number_of, in_order, low_bytes, encode_in, word_in, decode_in}
use Rattle.utf.specs.declared.utf8.Stop.TheVariants as stop
use Rattle.utf.specs.declared.utf8.Sequence.TheVariants as sequence
use Rattle.utf.specs.declared.utf32.ByteOrder.{ByteOrder}
use Rattle.utf.specs.declared.utf32.ByteOrder.TheVariants.{Big, Little}

-- four in an order
abbrev pub four_in : ByteOrder → ℕ → ℕ → ℕ → ℕ → List ℕ
four_in Big a b c d = a ∷ b ∷ c ∷ d ∷ []
four_in Little a b c d = d ∷ c ∷ b ∷ a ∷ []

in_order-four : (order : ByteOrder) (a b c d : ℕ) → in_order order (a ∷ b ∷ c ∷ d ∷ []) ≡ four_in order a b c d
in_order-four Big a b c d = refl
in_order-four Little a b c d = refl

-- the order is undone by itself
in_order-in_order : (order : ByteOrder) (a b c d : ℕ) → in_order order (four_in order a b c d) ≡ a ∷ b ∷ c ∷ d ∷ []
in_order-in_order Big a b c d = refl
in_order-in_order Little a b c d = refl

-- the first four, one by one
pub word_in_four : (order : ByteOrder) (s : List ℕ) → 4 ≤ length s
    → word_in order s ≡ number_of (in_order order (get_or s 0 0 ∷ get_or s 1 0 ∷ get_or s 2 0 ∷ get_or s 3 0 ∷ []))
word_in_four order [] h = absurd (omega arith)
word_in_four order (a ∷ []) h = absurd (omega arith)
word_in_four order (a ∷ b ∷ []) h = absurd (omega arith)
word_in_four order (a ∷ b ∷ c ∷ []) h = absurd (omega arith)
word_in_four order (a ∷ b ∷ c ∷ d ∷ s) h = refl

-- what is decoded, by the length
pub decode_in-short : (order : ByteOrder) (s : List ℕ) → length s < 4 → decode_in order s ≡ sequence.Stopped stop.CutShort
unfolding decode_in
decode_in-short order s h = simp (lt-ltb (length s) 4 h)

pub decode_in-four : (order : ByteOrder) (s : List ℕ) → 4 ≤ length s
    → decode_in order s ≡ (if is_scalar (word_in order s) then sequence.Scalar (word_in order s) 4 else sequence.Stopped (stop.Illegal 4))
unfolding decode_in
decode_in-four order s h = simp (le-ltb (length s) 4 h)

pub ruleset words = (word_in_four, decode_in-short, decode_in-four)

pub encode_in-four : (order : ByteOrder) (c w x y z : ℕ)
    → w ≡ c / 2 ^ (8 * 3) % 256 → x ≡ c / 2 ^ (8 * 2) % 256 → y ≡ c / 2 ^ (8 * 1) % 256 → z ≡ c / 2 ^ (8 * 0) % 256
    → four_in order w x y z ≡ encode_in order c
unfolding encode_in
encode_in-four order c w x y z e f g h = (λ i. four_in order (e i) (f i) (g i) (h i)) ∙ sym (in_order-four order _ _ _ _)

pub length-encode_in : (order : ByteOrder) (c : ℕ) → length (encode_in order c) ≡ 4
unfolding encode_in
length-encode_in Big c = refl
length-encode_in Little c = refl

-- what is decoded, by the tests
module _ (order : ByteOrder) (s : List ℕ) where
  module _ (long : 4 ≤ length s) (c : ℕ) (e : c ≡ word_in order s) where
    pub decode_in-scalar : is_scalar c ≡ true → sequence.Scalar c 4 ≡ decode_in order s
    unfolding decode_in
    decode_in-scalar t =
        let u : is_scalar (word_in order s) ≡ true = ap is_scalar (sym e) ∙ t in
        simp (le-ltb (length s) 4 long, u) (ap (λ (x : ℕ). sequence.Scalar x 4) e)

    pub decode_in-illegal : is_scalar c ≡ false → sequence.Stopped (stop.Illegal 4) ≡ decode_in order s
    unfolding decode_in
    decode_in-illegal t =
        let u : is_scalar (word_in order s) ≡ false = ap is_scalar (sym e) ∙ t in
        simp (le-ltb (length s) 4 long, u)

-- ## Into four bytes and back

-- one byte further up
div-byte : (c k : ℕ) → c / 2 ^ (8 * suc k) * 256 + c / 2 ^ (8 * k) % 256 ≡ c / 2 ^ (8 * k)
div-byte c k =
    let e : 8 * suc k ≡ 8 * k + 8 = omega arith in
    let f : c / 2 ^ (8 * suc k) ≡ c / 2 ^ (8 * k) / 256 = rw e (sym (shr-shr c (8 * k) 8)) in
    omega arith

number_from-low_bytes : (k c : ℕ) → number_from (c / 2 ^ (8 * k)) (low_bytes k c) ≡ c
number_from-low_bytes zero c = omega arith
number_from-low_bytes (suc k) c = ap (λ (v : ℕ). number_from v (low_bytes k c)) (div-byte c k) ∙ number_from-low_bytes k c

pub word_in-encode_in : (order : ByteOrder) (c : ℕ) (rest : List ℕ) → c < 2 ^ 32 → word_in order (encode_in order c ++ rest) ≡ c
word_in-encode_in order c rest h =
    let z : c / 2 ^ (8 * 4) ≡ 0 = omega arith in
    ap (λ (s : List ℕ). number_of (in_order order s)) (front ∙ sym (encode_in-four order c _ _ _ _ refl refl refl refl))
    ∙ ap number_of (in_order-in_order order _ _ _ _)
    ∙ ap (λ (v : ℕ). number_from v (low_bytes 4 c)) (sym z)
    ∙ number_from-low_bytes 4 c
  where
    front : take 4 (encode_in order c ++ rest) ≡ encode_in order c
    front = ap (λ (n : ℕ). take n (encode_in order c ++ rest)) (sym (length-encode_in order c)) ∙ take-append_seam (encode_in order c) rest

low_bytes-number_of : (w x y z : ℕ) → w < 256 → x < 256 → y < 256 → z < 256 → low_bytes 4 (number_of (w ∷ x ∷ y ∷ z ∷ [])) ≡ w ∷ x ∷ y ∷ z ∷ []
low_bytes-number_of w x y z hw hx hy hz =
    let n = number_of (w ∷ x ∷ y ∷ z ∷ []) in
    let a : n / 2 ^ (8 * 3) % 256 ≡ w = omega arith in
    let b : n / 2 ^ (8 * 2) % 256 ≡ x = omega arith in
    let c : n / 2 ^ (8 * 1) % 256 ≡ y = omega arith in
    let d : n / 2 ^ (8 * 0) % 256 ≡ z = omega arith in
    (λ i. a i ∷ b i ∷ c i ∷ d i ∷ [])

low_bytes-four_in : (order : ByteOrder) (w x y z : ℕ) → w < 256 → x < 256 → y < 256 → z < 256 → low_bytes 4 (number_of (four_in order w x y z)) ≡ four_in order w x y z
low_bytes-four_in Big w x y z hw hx hy hz = low_bytes-number_of w x y z hw hx hy hz
low_bytes-four_in Little w x y z hw hx hy hz = low_bytes-number_of z y x w hz hy hx hw

pub encode_in-word_in : (order : ByteOrder) (s : List ℕ) → 4 ≤ length s → All (λ b. b < 256) s → encode_in order (word_in order s) ≡ take 4 s
unfolding encode_in
encode_in-word_in order [] h bytes = absurd (omega arith)
encode_in-word_in order (a ∷ []) h bytes = absurd (omega arith)
encode_in-word_in order (a ∷ b ∷ []) h bytes = absurd (omega arith)
encode_in-word_in order (a ∷ b ∷ c ∷ []) h bytes = absurd (omega arith)
encode_in-word_in order (a ∷ b ∷ c ∷ d ∷ s) h bytes =
    ap (λ (x : List ℕ). in_order order (low_bytes 4 (number_of x))) (in_order-four order a b c d)
    ∙ ap (in_order order) (low_bytes-four_in order a b c d bytes.0 bytes.1.0 bytes.1.1.0 bytes.1.1.1.0)
    ∙ in_order-in_order order a b c d
