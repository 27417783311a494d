-- Which rows are productive: some code starts in them. The next complete code, found by passing over rows that are not.
use Rattle.std.specs.Prelude.{if◌then◌else◌, ℕ, zero, suc, ◌+◌, ◌*◌, ◌/◌, ◌%◌, ◌≡◌, List}
use Rattle.std.specs.Prelude.{[], ◌∷◌, map, Bool, true, false, not, ltb, eqb, get_or, Option}
use Rattle.lists.specs.Pick.{◌and◌}
use Rattle.lists.specs.Order.{up_from}
use Rattle.table.specs.Limits.{limits}
use Rattle.table.specs.States.{Rows, longest}
use Rattle.lists.specs.Tests.{some_below}
use Rattle.table.specs.Codes.{scan, first_code, first_byte_unit}
use Rattle.lists.specs.Strings.{after}
use Rattle.table.specs.declared.states.Step.{Step}
use Rattle.table.specs.declared.states.Step.TheVariants.{Illegal, Ends, Leads}
use Rattle.table.specs.declared.states.Code.{Code}

-- a code ends here, or goes on in a row of which w holds
abbrev pub ends_or_leads : (ℕ → Bool) → Step → Bool
ends_or_leads w Illegal = false
ends_or_leads w (Ends e) = true
ends_or_leads w (Leads n) = w n

-- some byte of a row ends a code, or leads on to a row that satisfies w
unfoldable pub row_productive : Rows → (ℕ → Bool) → ℕ → Bool
row_productive step w row = some_below (λ b. ends_or_leads w (step row b)) 256

-- some code of at most f bytes starts in the row; in a row past the last that a table can have, none
unfoldable pub productive : Rows → ℕ → ℕ → Bool
productive step zero row = false
productive step (suc f) row = ltb row limits.rows and row_productive step (productive step f) row

-- the mark of a row with `left` bytes to come stands at 4 row + left: 1 where the row is productive, else 0
abbrev pub mark_at : Rows → ℕ → ℕ
mark_at step k = if productive step (k % longest) (k / longest) then 1 else 0

-- the marks of all rows that a table can have
unfoldable pub marks_of : Rows → List ℕ
marks_of step = map (mark_at step) (up_from 0 (limits.rows * longest))

-- whether a row is marked with `left` bytes to come; past the end of the marks it is not
unfoldable pub is_marked : List ℕ → ℕ → ℕ → Bool
is_marked marks left row = not (eqb (get_or marks (row * longest + left) 0) 0)

-- the codes of a row that is marked, none of any other
abbrev pub on_marked : List ℕ → ℕ → (ℕ → List (List ℕ)) → ℕ → List (List ℕ)
on_marked marks left sub row = if is_marked marks left row then sub row else []

-- the codes of at most f bytes from a row on, where only marked rows are led on to
unfoldable pub codes_marked : List ℕ → Rows → ℕ → ℕ → List (List ℕ)
codes_marked marks step zero row = []
codes_marked marks step (suc f) row = scan (on_marked marks f (codes_marked marks step f)) step row 256 0

-- the first of them after p
abbrev pub next_marked : List ℕ → Rows → ℕ → List ℕ → Option Code
next_marked marks step row p = first_code (after p (codes_marked marks step longest row))

-- the codes of a row led to with f bytes to come
abbrev pub codes_led : List ℕ → Rows → ℕ → ℕ → List (List ℕ)
codes_led marks step f = on_marked marks f (codes_marked marks step f)

-- a code with one more byte in front
abbrev pub put_first : ℕ → Code → Code
put_first b c = record { bits = b * first_byte_unit + c.bits / 256; len = c.len + 1 }

-- a position of no bytes, or one that begins with the byte b
abbrev pub Starts : ℕ → List ℕ → Type 0
Starts b [] = Unit {0}
Starts b (a ∷ p) = a ≡ b
