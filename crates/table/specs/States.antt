-- What state rows say of a byte string (document 01, 'State rows'): a sequence cut by the states (`cut_of`), a complete
-- code (`end_kind`, `is_code`), and how often rows lead on (`within`, T3). Rows are known by what a row says of a byte:
-- `step row byte`.
use Rattle.std.specs.Prelude.{if◌then◌else◌, ℕ, zero, suc, ◌+◌, ◌*◌, List, [], ◌∷◌, Bool, true, false, get_or}
use Rattle.std.specs.Prelude.{Option, Some, None, is_some}
use Rattle.lists.specs.Tests.{is_empty, all_below}
use Rattle.table.specs.Cells.{cell_step, cell_in}
use Rattle.table.specs.declared.states.Step.{Step}
use Rattle.table.specs.declared.states.Step.TheVariants.{Illegal, Ends, Leads}
use Rattle.table.specs.declared.states.CutStop.TheVariants as cut_stop
use Rattle.table.specs.declared.states.Cut.{Cut}
use Rattle.table.specs.declared.states.Cut.TheVariants.{Complete, Stopped}
use Rattle.table.specs.declared.states.EndKind.{EndKind}

-- what the numbers in memory say: row r, byte b stands at 256 r + b; past the end all is illegal
unfoldable pub step_at : List ℕ → ℕ → ℕ → Step
step_at entries row b = cell_step (cell_in (get_or entries (row * 256 + b) 0))

abbrev pub Rows : Type 0
Rows = ℕ → ℕ → Step

-- the longest code has four bytes
abbrev pub longest : ℕ
longest = 4

-- how many bytes an illegal sequence has, by what its initial row says of the byte that broke it, behind k others
-- (document 02, request 3): up to and including that byte, but where it would not be illegal as a first byte, up to it.
-- (A first byte that breaks is illegal as one: with no others before it, the length is 1.)
abbrev pub broken_length : Step → ℕ → ℕ
broken_length Illegal k = k + 1
broken_length (Ends e) k = k
broken_length (Leads n) k = k

-- the sequence at the front of s, which began in the row `first`: from a row on, with f bytes left of the longest and k
-- read
unfoldable pub cut_from : Rows → ℕ → ℕ → ℕ → ℕ → List ℕ → Cut
cut_from step first zero row k s = Stopped (cut_stop.Illegal k)
cut_from step first (suc f) row k [] = Stopped cut_stop.CutShort
cut_from step first (suc f) row k (b ∷ s) =
    elim (step row b) [
      | Illegal ↦ Stopped (cut_stop.Illegal (broken_length (step first b) k))
      | Ends e ↦ Complete (k + 1) e
      | Leads n ↦ cut_from step first f n (k + 1) s
    ]

-- the sequence at the front of s, from its initial row on
abbrev pub cut_of : Rows → ℕ → List ℕ → Cut
cut_of step row s = cut_from step row longest row 0 s

-- how the whole of s ends as a complete code (document 01's term) from a row on; None where s is none.
-- It leads on at every byte but the last and ends there without being illegal.
unfoldable pub end_kind : Rows → ℕ → List ℕ → Option EndKind
end_kind step row [] = None
end_kind step row (b ∷ s) =
    elim (step row b) [
      | Illegal ↦ None
      | Ends e ↦ if is_empty s then Some e else None
      | Leads n ↦ end_kind step n s
    ]

abbrev pub is_code : Rows → ℕ → List ℕ → Bool
is_code step row s = is_some (end_kind step row s)

abbrev pub leads_to : (ℕ → Bool) → Step → Bool
leads_to w Illegal = true
leads_to w (Ends e) = true
leads_to w (Leads n) = w n

-- every way from a row leads on fewer than d times, a row with no entry counted like any other
unfoldable pub within : Rows → ℕ → ℕ → Bool
within step zero row = false
within step (suc d) row = all_below (λ b. leads_to (within step d) (step row b)) 256
