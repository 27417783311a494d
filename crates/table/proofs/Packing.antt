-- A code of at most four bytes in 32 bits, and back.
use Prim.Native.Nat.{ℕ, zero, suc, ◌+◌, ◌-◌, ◌*◌, ◌/◌, ◌%◌, ◌<◌, ◌≤◌}
use mathlib.Core.Path.{◌≡◌, refl, sym, ap, ◌∙◌}
use mathlib.Core.Bool.{Bool, true, false}
use mathlib.Core.List.{List, [], ◌∷◌}
use native.Mathlib.Omega.{arith}
use lib.Dec.{eqb}
use lib.ListN.{length}
use borrow.Author.Tests.{eqb-true, eq-eqb}
use Rattle.lists.specs.Pick.{pick}
use Rattle.lists.specs.Order.{All}
use Rattle.table.specs.Codes.{packed, unpacked, AllByte}
use Rattle.table.specs.Stored.{padded}

-- no bytes, and a byte before others
pub packed_none : packed [] ≡ 0
unfolding packed
packed_none = refl

pub packed_more : (b : ℕ) (s : List ℕ) → packed (b ∷ s) ≡ b * 16777216 + packed s / 256
unfolding packed
packed_more b s = refl

pub length-unpacked : (n v : ℕ) → length (unpacked n v) ≡ n
unfolding unpacked
length-unpacked zero v = refl
length-unpacked (suc n) v = ap suc (length-unpacked n (v % 16777216 * 256))

-- no bytes, and the first of some
pub unpacked-none : (n v : ℕ) → n ≤ 0 → unpacked n v ≡ []
unfolding unpacked
unpacked-none zero v h = refl
unpacked-none (suc n) v h = absurd (omega arith)

pub unpacked-more : (n v : ℕ) → 0 < n → unpacked n v ≡ v / 16777216 ∷ unpacked (n - 1) (v % 16777216 * 256)
unfolding unpacked
unpacked-more zero v h = absurd (omega arith)
unpacked-more (suc n) v h = let e : suc n - 1 ≡ n = omega arith in rw e

-- one byte on top
pub unpacked-one : (x v : ℕ) → v ≡ x * 16777216 → unpacked 1 v ≡ x ∷ []
unfolding unpacked
unpacked-one x v e = let d : v / 16777216 ≡ x = omega arith in ap (λ (b : ℕ). b ∷ []) d

-- numbers below 256 are bytes
pub all-bytes : (s : List ℕ) → All (λ b. b < 256) s → AllByte s
unfolding AllByte
all-bytes [] h = tt
all-bytes (b ∷ s) h = (h.0, all-bytes s h.1)

pub unpacked-bytes : (n bits : ℕ) → bits < 4294967296 → AllByte (unpacked n bits)
unfolding unpacked AllByte
unpacked-bytes zero v h = tt
unpacked-bytes (suc n) v h = (omega arith, unpacked-bytes n (v % 16777216 * 256) (omega arith))

pub packed-fits : (s : List ℕ) → AllByte s → packed s < 4294967296
unfolding packed AllByte
packed-fits [] a = omega arith
packed-fits (b ∷ s) a = let h = packed-fits s a.1 in omega (arith, a.0)

-- unused places are zeros
one-padded : (s : List ℕ) → length s ≤ 1 → packed s % 16777216 ≡ 0
unfolding packed
one-padded [] h = refl
one-padded (a ∷ []) h = omega arith
one-padded (a ∷ b ∷ s) h = absurd (omega arith)

two-padded : (s : List ℕ) → length s ≤ 2 → packed s % 65536 ≡ 0
unfolding packed
two-padded [] h = refl
two-padded (a ∷ s) h = let e = one-padded s (omega arith) in omega arith

three-padded : (s : List ℕ) → length s ≤ 3 → packed s % 256 ≡ 0
unfolding packed
three-padded [] h = refl
three-padded (a ∷ s) h = let e = two-padded s (omega arith) in omega arith

pub packed-padded : (s : List ℕ) → AllByte s → 1 ≤ length s → length s ≤ 4 → padded (length s) (packed s) ≡ true
unfolding padded
packed-padded [] a h k = absurd (omega arith)
packed-padded (b ∷ []) a h k = eq-eqb (packed (b ∷ []) % 16777216) 0 (one-padded (b ∷ []) (omega arith))
packed-padded (b ∷ c ∷ []) a h k = eq-eqb (packed (b ∷ c ∷ []) % 65536) 0 (two-padded (b ∷ c ∷ []) (omega arith))
packed-padded (b ∷ c ∷ d ∷ []) a h k = eq-eqb (packed (b ∷ c ∷ d ∷ []) % 256) 0 (three-padded (b ∷ c ∷ d ∷ []) (omega arith))
packed-padded (b ∷ c ∷ d ∷ e ∷ []) a h k = refl
packed-padded (b ∷ c ∷ d ∷ e ∷ x ∷ s) a h k = absurd (omega arith)

pub unpacked-packed : (s : List ℕ) → AllByte s → length s ≤ 4 → unpacked (length s) (packed s) ≡ s
unfolding packed unpacked AllByte
unpacked-packed [] a h = refl
unpacked-packed (b ∷ s) a h =
    let lt = packed-fits s a.1 in
    let ev = three-padded s (omega arith) in
    let hi : (b * 16777216 + packed s / 256) / 16777216 ≡ b = omega (arith, a.0) in
    let lo : (b * 16777216 + packed s / 256) % 16777216 * 256 ≡ packed s = omega (arith, a.0) in
    rw (hi, lo) (ap (λ (t : List ℕ). b ∷ t) (unpacked-packed s a.1 (omega arith)))

pub pack-one-way : (s t : List ℕ) → AllByte s → AllByte t → length s ≡ length t → length s ≤ 4 → packed s ≡ packed t → s ≡ t
pack-one-way s t a b n h e = sym (unpacked-packed s a h) ∙ ap (λ (k : ℕ). unpacked k (packed s)) n ∙ ap (unpacked (length t)) e ∙ unpacked-packed t b (omega arith)

-- one byte more, where the rest goes back
pack-more : (n v : ℕ) → packed (unpacked n (v % 16777216 * 256)) ≡ v % 16777216 * 256 → packed (unpacked (suc n) v) ≡ v
unfolding packed unpacked
pack-more n v e = rw e (omega arith)

pack-1 : (v : ℕ) → v % 16777216 ≡ 0 → packed (unpacked 1 v) ≡ v
unfolding packed unpacked
pack-1 v e = omega arith

pack-2 : (v : ℕ) → v % 65536 ≡ 0 → packed (unpacked 2 v) ≡ v
pack-2 v e = pack-more 1 v (pack-1 (v % 16777216 * 256) (omega arith))

pack-3 : (v : ℕ) → v % 256 ≡ 0 → packed (unpacked 3 v) ≡ v
pack-3 v e = pack-more 2 v (pack-2 (v % 16777216 * 256) (omega arith))

pack-4 : (v : ℕ) → packed (unpacked 4 v) ≡ v
pack-4 v = pack-more 3 v (pack-3 (v % 16777216 * 256) (omega arith))

pub pack-unpack : (len bits : ℕ) → padded len bits ≡ true → packed (unpacked len bits) ≡ bits
unfolding padded
pack-unpack len v h = go (eqb len 1) refl (eqb len 2) refl (eqb len 3) refl h
  where
    go : (x : Bool) → eqb len 1 ≡ x → (y : Bool) → eqb len 2 ≡ y → (z : Bool) → eqb len 3 ≡ z
        → pick x (eqb (v % 16777216) 0) (pick y (eqb (v % 65536) 0) (pick z (eqb (v % 256) 0) (eqb len 4))) ≡ true → packed (unpacked len v) ≡ v
    go true p y q z r e = rw (eqb-true len 1 p) (pack-1 v (eqb-true (v % 16777216) 0 e))
    go false p true q z r e = rw (eqb-true len 2 q) (pack-2 v (eqb-true (v % 65536) 0 e))
    go false p false q true r e = rw (eqb-true len 3 r) (pack-3 v (eqb-true (v % 256) 0 e))
    go false p false q false r e = rw (eqb-true len 4 e) (pack-4 v)
