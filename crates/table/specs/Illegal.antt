-- What an illegal sequence takes in (document 02, request 3): its bytes before the one that breaks it lead on; that one
-- only where it is illegal as a first byte too.
use Rattle.std.specs.Prelude.{ℕ, ◌+◌, ◌<◌, ◌≤◌, ◌≡◌, List, [], ◌∷◌, Bool, true, false, ◌⊎◌, ◌↔◌, get_or, take}
use Rattle.table.specs.States.{Rows}
use Rattle.table.specs.declared.states.Step.TheVariants.{Illegal, Ends, Leads}

-- every byte of s leads on, from a row on
unfoldable pub all_lead : Rows → ℕ → List ℕ → Bool
all_lead step row [] = true
all_lead step row (b ∷ s) =
    elim (step row b) [
      | Illegal ↦ false
      | Ends e ↦ false
      | Leads n ↦ all_lead step n s
    ]

-- the row that the bytes of s lead to, up to the first that does not lead on
unfoldable pub reached : Rows → ℕ → List ℕ → ℕ
reached step row [] = row
reached step row (b ∷ s) =
    elim (step row b) [
      | Illegal ↦ row
      | Ends e ↦ row
      | Leads n ↦ reached step n s
    ]

-- an illegal sequence of n bytes at the front of s, from a row on, by rows whose codes have at most `max` bytes
pub record TakesIn (step : Rows) (row max : ℕ) (s : List ℕ) (n : ℕ) : Type 0 where
  -- so many bytes lead on, and the next is illegal in the row reached: it breaks the sequence
  pub before : ℕ
  pub lead-on : all_lead step row (take before s) ≡ true
  pub breaks : step (reached step row (take before s)) (get_or s before 0) ≡ Illegal
  -- the sequence ends before that byte or behind it; it takes it in exactly where it is illegal as a first byte
  pub ends : (before ≤ n) × (n ≤ before + 1)
  pub taken_in : (before < n) ↔ (step row (get_or s before 0) ≡ Illegal)
  -- so a byte of it, other than its own first, is illegal as a first byte, or led on
  pub inner : (j : ℕ) → 0 < j → j < n → (step row (get_or s j 0) ≡ Illegal) ⊎ (j < before)
  -- where codes have at most two bytes no byte that could begin a code is taken in, but as its own first
  pub of_two : max ≤ 2 → (j : ℕ) → 0 < j → j < n → step row (get_or s j 0) ≡ Illegal
