-- Hexadecimal digits: one more byte's are stored, and how many there are.
use Rattle.std.proofs.Common.{◌≡◌, ℕ, suc, ◌+◌, ◌-◌, ◌*◌, ◌/◌, ◌%◌, ◌<◌, ◌≤◌, eqb, List, [], ◌∷◌, length, get_or, drop, sym, refl, ◌∙◌, arith, eq-eqb, ne_eqb}
use lib.Seq.{sets}
use Rattle.lists.proofs.Cases.{pick-case}
use Rattle.lists.proofs.Laws.{drop-∷, drop_past}
use Rattle.table.specs.Codes.{unpacked}
use Rattle.table.proofs.Packing.{unpacked-none, unpacked-more}
use Rattle.frames.specs.Lines.{hex_byte, hex_bytes, hex_of}
use Rattle.frames.specs.loops.Inner.{hex_count}

-- a capital digit by its number
pub capital : (d : ℕ) → 10 ≤ d → 65 + (d - 10) ≡ 55 + d
capital d h = omega arith

pub hex-stored : (out s : List ℕ) (p i : ℕ) → i < length s
    → sets out p (hex_bytes (drop i s)) ≡ sets (sets out p (hex_byte (get_or s i 0))) (p + 2) (hex_bytes (drop (i + 1) s))
unfolding hex_bytes
hex-stored out s p i h =
    let e : p + 2 ≡ suc (suc p) = omega arith in
    rw (drop-∷ s i h, e)

pub hex-done : (out s : List ℕ) (p i : ℕ) → length s ≤ i → sets out p (hex_bytes (drop i s)) ≡ out
unfolding hex_bytes
hex-done out s p i h = rw (drop_past s i h)

-- the same for a code that is held in a number
pub code-stored : (out : List ℕ) (p n bits : ℕ) → 0 < n
    → sets out p (hex_bytes (unpacked n bits)) ≡ sets (sets out p (hex_byte (bits / 16777216))) (p + 2) (hex_bytes (unpacked (n - 1) (bits % 16777216 * 256)))
unfolding hex_bytes
code-stored out p n bits h =
    let e : p + 2 ≡ suc (suc p) = omega arith in
    rw (unpacked-more n bits h, e)

pub code-done : (out : List ℕ) (p n bits : ℕ) → n ≤ 0 → sets out p (hex_bytes (unpacked n bits)) ≡ out
unfolding hex_bytes
code-done out p n bits h = rw (unpacked-none n bits h)

pub length-hex : (s : List ℕ) → length (hex_bytes s) ≡ 2 * length s
unfolding hex_bytes
length-hex [] = refl
length-hex (b ∷ s) = omega (arith, length-hex s)

-- no bytes, and some
pub hex-none : (s : List ℕ) → length s ≡ 0 → hex_of s ≡ 45 ∷ []
unfolding hex_of
hex-none [] h = refl
hex-none (b ∷ s) h = absurd (omega arith)

pub hex-some : (s : List ℕ) → (length s ≡ 0 → ⊥) → hex_of s ≡ hex_bytes s
unfolding hex_of
hex-some [] h = absurd (h refl)
hex-some (b ∷ s) h = refl

pub count_none : (n : ℕ) → n ≡ 0 → hex_count n ≡ 1
unfolding hex_count
count_none n h = simp (eq-eqb n 0 h)

pub count-some : (n : ℕ) → (n ≡ 0 → ⊥) → hex_count n ≡ 2 * n
unfolding hex_count
count-some n h = simp (ne_eqb n 0 h)

pub count_most : (n : ℕ) → hex_count n ≤ 2 * n + 1
unfolding hex_count
count_most n = pick-case (λ (m : ℕ). m ≤ 2 * n + 1) (eqb n 0) 1 (2 * n) (λ t. omega arith) (λ t. omega arith)

pub length-hex_of : (s : List ℕ) → length (hex_of s) ≡ hex_count (length s)
unfolding hex_of
length-hex_of [] = sym (count_none 0 refl)
length-hex_of (b ∷ s) = length-hex (b ∷ s) ∙ sym (count-some (suc (length s)) (λ e. omega arith))
