-- The table of lead bytes: each row as an equation, and a fact about all rows by cases.
use mathlib.Core.Path.{◌≡◌}
use Prim.Native.Nat.{ℕ, ◌-◌, ◌≤◌, ◌<◌}
use native.Mathlib.Omega.{arith}
use borrow.Author.Tests.{lt-ltb, le-ltb, ne_eqb, ltb-true, ltb-false, eqb-true, eqb-false}
use lib.Dec.{ltb, eqb}
use Rattle.lists.specs.Pick.{pick}
use Rattle.lists.proofs.Cases.{pick-case}
use Rattle.std.specs.Prelude.{Option, None}
use Rattle.utf.specs.Utf8.{lead_of, leads}
use Rattle.utf.specs.declared.utf8.Lead.{Lead}

-- the rows
module _ (b : ℕ) where
  pub lead-one : b < 0x80 → lead_of b ≡ leads 0 0x80 0xbf (b - 0)
  lead-one h = simp (lt-ltb b 0x80 h)

  pub lead-two : (0xc2 ≤ b) × (b < 0xe0) → lead_of b ≡ leads 1 0x80 0xbf (b - 0xc0)
  lead-two h = simp (le-ltb b 0x80 (omega arith), le-ltb b 0xc2 h.0, lt-ltb b 0xe0 h.1)

  pub lead-e0 : b ≡ 0xe0 → lead_of b ≡ leads 2 0xa0 0xbf (b - 0xe0)
  lead-e0 h = rw h

  pub lead-ed : b ≡ 0xed → lead_of b ≡ leads 2 0x80 0x9f (b - 0xe0)
  lead-ed h = rw h

  pub lead-three : (0xe0 < b) × (b < 0xf0) × (b ≡ 0xed → ⊥) → lead_of b ≡ leads 2 0x80 0xbf (b - 0xe0)
  lead-three h =
      simp (le-ltb b 0x80 (omega arith), le-ltb b 0xc2 (omega arith), le-ltb b 0xe0 (omega arith), lt-ltb b 0xf0 h.1, ne_eqb b 0xe0 (omega arith), ne_eqb b 0xed h.2)

  pub lead-f0 : b ≡ 0xf0 → lead_of b ≡ leads 3 0x90 0xbf (b - 0xf0)
  lead-f0 h = rw h

  pub lead-f4 : b ≡ 0xf4 → lead_of b ≡ leads 3 0x80 0x8f (b - 0xf0)
  lead-f4 h = rw h

  pub lead-four : (0xf0 < b) × (b < 0xf4) → lead_of b ≡ leads 3 0x80 0xbf (b - 0xf0)
  lead-four h =
      simp (le-ltb b 0x80 (omega arith), le-ltb b 0xc2 (omega arith), le-ltb b 0xe0 (omega arith), le-ltb b 0xf0 (omega arith), lt-ltb b 0xf5 (omega arith), ne_eqb b 0xf0 (omega arith), ne_eqb b 0xf4 (omega arith))

  pub lead_low : (0x80 ≤ b) × (b < 0xc2) → lead_of b ≡ None
  lead_low h = simp (le-ltb b 0x80 h.0, lt-ltb b 0xc2 h.1)

  pub lead_high : 0xf5 ≤ b → lead_of b ≡ None
  lead_high h = simp (le-ltb b 0x80 (omega arith), le-ltb b 0xc2 (omega arith), le-ltb b 0xe0 (omega arith), le-ltb b 0xf0 (omega arith), le-ltb b 0xf5 h)

-- what holds of each row holds of every byte
pub lead-case : (P : Option Lead → Type 0) (b : ℕ)
    → (b < 0x80 → P (leads 0 0x80 0xbf (b - 0)))
    → ((0x80 ≤ b) × (b < 0xc2) → P None)
    → ((0xc2 ≤ b) × (b < 0xe0) → P (leads 1 0x80 0xbf (b - 0xc0)))
    → (b ≡ 0xe0 → P (leads 2 0xa0 0xbf (b - 0xe0)))
    → (b ≡ 0xed → P (leads 2 0x80 0x9f (b - 0xe0)))
    → ((0xe0 < b) × (b < 0xf0) × (b ≡ 0xed → ⊥) → P (leads 2 0x80 0xbf (b - 0xe0)))
    → (b ≡ 0xf0 → P (leads 3 0x90 0xbf (b - 0xf0)))
    → (b ≡ 0xf4 → P (leads 3 0x80 0x8f (b - 0xf0)))
    → ((0xf0 < b) × (b < 0xf4) → P (leads 3 0x80 0xbf (b - 0xf0)))
    → (0xf5 ≤ b → P None)
    → P (lead_of b)
lead-case P b one low two e0 ed three f0 f4 four high =
    pick-case P (ltb b 0x80) _ _ (λ t. one (ltb-true _ _ t))
    (λ t0. pick-case P (ltb b 0xc2) _ _ (λ t. low (ltb-false _ _ t0, ltb-true _ _ t))
    (λ t1. pick-case P (ltb b 0xe0) _ _ (λ t. two (ltb-false _ _ t1, ltb-true _ _ t))
    (λ t2. pick-case P (ltb b 0xf0) _ _
    (λ t. pick-case (λ (lo : ℕ). P (leads 2 lo (pick (eqb b 0xed) 0x9f 0xbf) (b - 0xe0))) (eqb b 0xe0) _ _
    (λ u. pick-case (λ (hi : ℕ). P (leads 2 0xa0 hi (b - 0xe0))) (eqb b 0xed) _ _ (λ w. absurd (omega (arith, eqb-true))) (λ w. e0 (eqb-true _ _ u)))
    (λ u. pick-case (λ (hi : ℕ). P (leads 2 0x80 hi (b - 0xe0))) (eqb b 0xed) _ _ (λ w. ed (eqb-true _ _ w))
    (λ w. three (omega (arith, ltb-false, eqb-false), ltb-true _ _ t, eqb-false _ _ w))))
    (λ t3. pick-case P (ltb b 0xf5) _ _
    (λ t. pick-case (λ (lo : ℕ). P (leads 3 lo (pick (eqb b 0xf4) 0x8f 0xbf) (b - 0xf0))) (eqb b 0xf0) _ _
    (λ u. pick-case (λ (hi : ℕ). P (leads 3 0x90 hi (b - 0xf0))) (eqb b 0xf4) _ _ (λ w. absurd (omega (arith, eqb-true))) (λ w. f0 (eqb-true _ _ u)))
    (λ u. pick-case (λ (hi : ℕ). P (leads 3 0x80 hi (b - 0xf0))) (eqb b 0xf4) _ _ (λ w. f4 (eqb-true _ _ w))
    (λ w. four (omega (arith, ltb-false, ltb-true, eqb-false)))))
    (λ t4. high (ltb-false _ _ t4))))))
