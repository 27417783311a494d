-- Which rows lead on to which, as marks: the mark at r times the limit on rows, plus k, says that row r leads on to row
-- k.
use Rattle.std.specs.Prelude.{ℕ, zero, suc, ◌+◌, ◌*◌, ◌/◌, ◌%◌, List, map, Bool, false, get_or, ltb, eqb}
use Rattle.lists.specs.Pick.{◌and◌, ◌implies◌}
use Rattle.lists.specs.Order.{up_from}
use Rattle.table.specs.Limits.{limits}
use Rattle.table.specs.States.{Rows}
use Rattle.lists.specs.Tests.{all_below, some_below}
use Rattle.table.specs.declared.states.Step.{Step}
use Rattle.table.specs.declared.states.Step.TheVariants.{Illegal, Ends, Leads}

-- a step leads on to row k
abbrev pub leads_on : ℕ → Step → Bool
leads_on k Illegal = false
leads_on k (Ends e) = false
leads_on k (Leads n) = eqb n k

-- the mark at a place: some byte of its row, one of the first n, leads on to row k
abbrev pub lead_mark : ℕ → Rows → ℕ → Bool
lead_mark n step j =
    ltb (j / limits.rows) n and some_below (λ b. leads_on (j % limits.rows) (step (j / limits.rows) b)) 256

-- the marks of the first n rows; the marks of other rows are not set
unfoldable pub lead_marks : ℕ → Rows → List Bool
lead_marks n step = map (lead_mark n step) (up_from 0 (limits.rows * limits.rows))

-- w holds of every row that a row leads on to
unfoldable pub marked : List Bool → (ℕ → Bool) → ℕ → Bool
marked marks w row = all_below (λ k. get_or marks (row * limits.rows + k) false implies w k) limits.rows

-- T3 by the marks of n rows: every way from a row leads on fewer than d times; a row past the last leads nowhere
unfoldable pub marked_within : ℕ → List Bool → ℕ → ℕ → Bool
marked_within n marks zero row = false
marked_within n marks (suc d) row = ltb row n implies marked marks (marked_within n marks d) row
