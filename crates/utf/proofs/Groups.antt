-- Groups of six bits by shifts and masks: put under a value, taken from a code point, and the lead byte above them.
use mathlib.Core.Path.{◌≡◌, sym}
use Prim.Native.Nat.{ℕ, suc, ◌+◌, ◌*◌, ◌/◌, ◌%◌, ◌^◌, ◌≤◌, ◌<◌}
use native.Mathlib.Omega.{arith}
use borrow.Author.Tests.{lt-ltb, le-ltb, ltb-true, ltb-false}
use lib.Bits.{bit_or, or_shifted}
use lib.Dec.{lit≤, ltb}
use lib.Pow.{shl_exact, shr-shr}
use Rattle.lists.proofs.Cases.{pick-case}
use Rattle.utf.specs.Utf8.{lead_mark, trail_count, trail_byte, lead_byte}

-- six bits are put under a value that has room for them
pub or-group : (v y : ℕ) → v < 2 ^ 26 → y < 64 → bit_or (v * 2 ^ 6 % 2 ^ 32) y ≡ v * 64 + y
or-group v y h l = rw (shl_exact 26 6 32 h (lit≤ tt)) (or_shifted v 6 y l)

-- one group further up
pub div-group : (c k : ℕ) → c / 2 ^ (6 * suc k) ≡ c / 2 ^ (6 * k) / 64
div-group c k =
    let e : 6 * suc k ≡ 6 * k + 6 = omega arith in
    rw e (sym (shr-shr c (6 * k) 6))

-- a group that was taken and put back
pub shift-group : (c k : ℕ) → c / 2 ^ (6 * suc k) * 64 + trail_byte c k % 64 ≡ c / 2 ^ (6 * k)
shift-group c k = omega (arith, div-group c k)

-- six bits under the mark of a trail byte
pub trail-or : (y : ℕ) → y < 64 → bit_or 0x80 y ≡ 0x80 + y
trail-or y l = or_shifted 2 6 y l

-- the rows of the table of lengths
module _ (c : ℕ) where
  pub count-one : c < 0x80 → 0 ≡ trail_count c
  count-one h = simp (lt-ltb c 0x80 h)

  pub count-two : 0x80 ≤ c → c < 0x800 → 1 ≡ trail_count c
  count-two a b = simp (le-ltb c 0x80 a, lt-ltb c 0x800 b)

  pub count-three : 0x800 ≤ c → c < 0x10000 → 2 ≡ trail_count c
  count-three a b = simp (le-ltb c 0x80 (omega arith), le-ltb c 0x800 a, lt-ltb c 0x10000 b)

  pub count-four : 0x10000 ≤ c → 3 ≡ trail_count c
  count-four a = simp (le-ltb c 0x80 (omega arith), le-ltb c 0x800 (omega arith), le-ltb c 0x10000 a)

-- what holds of each length holds of every code point
pub count-case : (P : ℕ → Type 0) (c : ℕ)
    → (c < 0x80 → P 0)
    → ((0x80 ≤ c) × (c < 0x800) → P 1)
    → ((0x800 ≤ c) × (c < 0x10000) → P 2)
    → (0x10000 ≤ c → P 3)
    → P (trail_count c)
count-case P c one two three four =
    pick-case P (ltb c 0x80) _ _ (λ t. one (ltb-true _ _ t))
    (λ t0. pick-case P (ltb c 0x800) _ _ (λ t. two (ltb-false _ _ t0, ltb-true _ _ t))
    (λ t1. pick-case P (ltb c 0x10000) _ _ (λ t. three (ltb-false _ _ t1, ltb-true _ _ t)) (λ t2. four (ltb-false _ _ t2))))

-- at most three trail bytes
abbrev UpToThree : ℕ → Type 0
UpToThree k = k ≤ 3

pub count_most : (c : ℕ) → trail_count c ≤ 3
count_most c = count-case UpToThree c (λ h. omega arith) (λ h. omega arith) (λ h. omega arith) (λ h. omega arith)

-- what stands above the groups does not reach into the lead byte's mark
abbrev pub LeadOk : ℕ → ℕ → Type 0
LeadOk c k = (k ≤ 3) × (bit_or (lead_mark k) (c / 2 ^ (6 * k)) ≡ lead_byte c k) × (lead_byte c k < 256)

pub lead-ok : {c k : ℕ} → k ≡ trail_count c → c < 0x110000 → LeadOk c k
lead-ok {c} e l =
    rw e
    (count-case (LeadOk c) c
    (λ h. (omega arith, omega arith, omega arith))
    (λ h. (omega arith, or_shifted 6 5 (c / 64) (omega arith), omega arith))
    (λ h. (omega arith, or_shifted 14 4 (c / 4096) (omega arith), omega arith))
    (λ h. (omega arith, or_shifted 30 3 (c / 262144) (omega arith), omega arith)))
