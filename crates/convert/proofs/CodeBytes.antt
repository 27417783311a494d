-- A code's bytes into a number and out of it.
use mathlib.Core.Path.{◌≡◌, refl, sym, ◌∙◌}
use Prim.Native.Nat.{ℕ, zero, suc, ◌+◌, ◌-◌, ◌*◌, ◌/◌, ◌%◌, ◌≤◌, ◌<◌}
use mathlib.Core.List.{List, [], ◌∷◌}
use mathlib.Core.Bool.{true, false}
use native.Mathlib.Omega.{arith}
use native.Mathlib.Numerals.{add-one}
use borrow.Author.Tests.{le-leb, lt-leb, leb-true, leb-false}
use lib.ListN.{length, get_or, take, drop, set, drop_of_length-le}
use lib.Seq.{length-take-le, get_or-take, sets, sets-eq}
use Rattle.lists.specs.Pick.{pick}
use Rattle.lists.specs.Place.{fits, placed}
use Rattle.lists.proofs.Laws.{drop-∷}
use Rattle.table.specs.Codes.{packed, unpacked}
use Rattle.table.proofs.Packing.{packed_none, packed_more, length-unpacked, unpacked-none, unpacked-more}

-- one byte and two, packed straight
pub pack_one : (s : List ℕ) (n : ℕ) → n ≡ 1 → n ≤ length s → get_or s 0 0 * 16777216 ≡ packed (take n s)
pack_one [] n e h = absurd (omega arith)
pack_one (b ∷ s) n e h = rw (e, packed_more b [], packed_none) (omega arith)

pub pack_two : (s : List ℕ) (n : ℕ) → n ≡ 2 → n ≤ length s → get_or s 0 0 * 16777216 + get_or s 1 0 * 16777216 / 256 ≡ packed (take n s)
pack_two [] n e h = absurd (omega arith)
pack_two (a ∷ []) n e h = absurd (omega arith)
pack_two (a ∷ b ∷ s) n e h = rw (e, packed_more a (b ∷ []), packed_more b [], packed_none) (omega arith)

-- packing from the last byte to the first
pub pack-start : (s : List ℕ) (n : ℕ) → n ≤ length s → 0 ≡ packed (drop n (take n s))
pack-start s n h =
    let e : length (take n s) ≡ n = length-take-le n s h in
    let l : length (take n s) ≤ n = omega arith in
    rw (drop_of_length-le (take n s) l) (sym packed_none)

pub pack-step : (s : List ℕ) (n i : ℕ) → 0 < i → i ≤ n → n ≤ length s
    → get_or s (i - 1) 0 * 16777216 + packed (drop i (take n s)) / 256 ≡ packed (drop (i - 1) (take n s))
pack-step s n i p q h =
    let e : length (take n s) ≡ n = length-take-le n s h in
    let j : i - 1 + 1 ≡ i = omega arith in
    rw (drop-∷ (take n s) (i - 1) (omega arith), get_or-take n s (i - 1) 0 (omega arith), j) (sym (packed_more (get_or s (i - 1) 0) (drop i (take n s))))

pub pack-end : (s : List ℕ) (n i : ℕ) → i ≤ 0 → packed (drop i (take n s)) ≡ packed (take n s)
pack-end s n zero h = refl
pack-end s n (suc i) h = absurd (omega arith)

-- a turn: one more byte is stored
pub put_one : (out : List ℕ) (i k v : ℕ) → 0 < k → sets out i (unpacked k v) ≡ sets (set out i (v / 16777216)) (i + 1) (unpacked (k - 1) (v % 16777216 * 256))
put_one out i k v h = rw (unpacked-more k v h, add-one i)

-- two turns
pub put_two : (out : List ℕ) (i k v : ℕ) → 1 < k → sets out i (unpacked k v)
    ≡ sets (set (set out i (v / 16777216)) (i + 1) (v % 16777216 * 256 / 16777216)) (i + 2) (unpacked (k - 2) (v % 16777216 * 256 % 16777216 * 256))
put_two out i k v h =
    let l : i + 1 + 1 ≡ i + 2 = omega arith in
    let m : k - 1 - 1 ≡ k - 2 = omega arith in
    put_one out i k v (omega arith)
    ∙ put_one (set out i (v / 16777216)) (i + 1) (k - 1) (v % 16777216 * 256) (omega arith)
    ∙ rw (l, m)

pub put-none : (out : List ℕ) (i k v : ℕ) → k ≤ 0 → sets out i (unpacked k v) ≡ out
put-none out i k v h = rw (unpacked-none k v h)

module _ (out : List ℕ) (at n v : ℕ) where
  -- no room: nothing is put
  pub store-full : length out < at + n → (false ≡ fits out at (unpacked n v)) × (out ≡ pick (fits out at (unpacked n v)) (placed out at (unpacked n v)) out)
  store-full h =
      let e = length-unpacked n v in
      let t = lt-leb (at + length (unpacked n v)) (length out) (omega arith) in
      (sym t, simp t)

  pub store-done : at + n ≤ length out
      → (true ≡ fits out at (unpacked n v)) × (sets out at (unpacked n v) ≡ pick (fits out at (unpacked n v)) (placed out at (unpacked n v)) out)
  store-done h =
      let e = length-unpacked n v in
      let t = le-leb (at + length (unpacked n v)) (length out) (omega arith) in
      (sym t, simp t (sets-eq (unpacked n v) out at (omega arith)))

  -- what the answer says
  module _ (new : List ℕ) (is : new ≡ pick (fits out at (unpacked n v)) (placed out at (unpacked n v)) out) where
    pub was-full : fits out at (unpacked n v) ≡ false → (length out < at + length (unpacked n v)) × (new ≡ out)
    was-full t = (leb-false (at + length (unpacked n v)) (length out) t, is ∙ simp t)

    pub was-put : fits out at (unpacked n v) ≡ true → (at + length (unpacked n v) ≤ length out) × (new ≡ placed out at (unpacked n v))
    was-put t = (leb-true (at + length (unpacked n v)) (length out) t, is ∙ simp t)
