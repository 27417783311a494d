-- How many complete codes there can be: with each byte more at most 256 times as many.
use Prim.Native.Nat.{ℕ, zero, suc, ◌+◌, ◌*◌, ◌≤◌}
use mathlib.Core.List.{List, ◌∷◌}
use native.Mathlib.Omega.{arith}
use native.Mathlib.Nat.{suc-mul}
use lib.ListN.{length, length-append, length-map}
use Rattle.table.specs.States.{Rows}
use Rattle.table.specs.Codes.{codes_on, scan, codes_from, all_codes}
use Rattle.table.specs.declared.states.Step.{Step}
use Rattle.table.specs.declared.states.Step.TheVariants.{Illegal, Ends, Leads}

-- where each row that is led on to has at most n codes
module _ (sub : ℕ → List (List ℕ)) (n : ℕ) (some : 1 ≤ n) (few : (row : ℕ) → length (sub row) ≤ n) where
  few_on : (b : ℕ) (x : Step) → length (codes_on sub b x) ≤ n
  few_on b Illegal = omega arith
  few_on b (Ends e) = some
  few_on b (Leads row) = omega (arith, few row, length-map (sub row) (λ s. b ∷ s))

  few-scan : (step : Rows) (row m b : ℕ) → length (scan sub step row m b) ≤ m * n
  unfolding scan
  few-scan step row zero b = omega arith
  few-scan step row (suc m) b =
      omega (arith, length-append (codes_on sub b (step row b)) (scan sub step row m (b + 1)), few_on b (step row b), few-scan step row m (b + 1), suc-mul m n)

module _ (step : Rows) where
  few-more : (f n : ℕ) → 1 ≤ n → ((row : ℕ) → length (codes_from step f row) ≤ n) → (row : ℕ) → length (codes_from step (suc f) row) ≤ 256 * n
  unfolding codes_from
  few-more f n some few row = few-scan (codes_from step f) n some few step row 256 0

  few-none : (row : ℕ) → length (codes_from step 0 row) ≤ 1
  unfolding codes_from
  few-none row = omega arith

  pub codes-few : (row : ℕ) → length (all_codes step row) ≤ 4294967296
  codes-few = few-more 3 16777216 (omega arith) (few-more 2 65536 (omega arith) (few-more 1 256 (omega arith) (few-more 0 1 (omega arith) few-none)))
