-- State rows as the loader reads them: a list, maybe empty, of entries `number [- number] [: number] [. [letter]]` with
-- commas between (document 01, 'State rows'; document 004). Which byte strings are rows, and which entries 14 and 15
-- name, Grammar.antt says; this reader need not be believed. What an entry means stands here (`meaning`, `row_of`).
-- Contents: the parts of an entry; entries one after the other; entries under 14 and 15; what an entry means, and a
-- row; `initial`.
-- Cases: proofs/HeaderCases.antt
use Rattle.std.specs.Prelude.{if◌then◌else◌, ℕ, zero, suc, ◌+◌, List, [], ◌∷◌, Bool, Option, Some, None}
use Rattle.std.specs.Prelude.{true, false, length, drop, replicate, ltb, leb, eqb}
use Rattle.lists.specs.Ascii.{ascii, byte}
use Rattle.lists.specs.Pick.{◌or◌}
use Rattle.table.specs.Cells.{Cell, illegal, ends, ends_any, ends_unassigned, leads}
use Rattle.table.specs.Text.{byte_of, skip_at, number_at}
use Rattle.lists.specs.Strings.{begins}
use Rattle.lists.specs.Place.{fill_range}

-- one entry of a row: bytes lo to hi, the next row (256 where none is named) and how it ends (0 no point; after a
-- point: 1 no letter, 2 `p`, 3 `u`, 4 `i`, 5 `s`)
pub record Entry : Type 0 where
  pub lo : ℕ
  pub hi : ℕ
  pub next : ℕ
  pub kind : ℕ

-- an entry, and where the next one begins if a comma follows; or text of no such form
abbrev pub ReadEntry : Type 0
ReadEntry = Option (Entry × Option ℕ)

-- `- number`, or the byte itself
unfoldable pub to_at : List ℕ → ℕ → ℕ → Option (ℕ × ℕ)
to_at s from q =
    if eqb (byte_of s (skip_at s q)) (byte "-") then number_at s (skip_at s (skip_at s q + 1)) else Some (from, q)

-- `: number`, or 256 for none
unfoldable pub next_at : List ℕ → ℕ → Option (ℕ × ℕ)
next_at s q =
    if eqb (byte_of s (skip_at s q)) (byte ":") then number_at s (skip_at s (skip_at s q + 1)) else Some (256, q)

-- after a point: 2 `p`, 3 `u`, 4 `i`, 5 `s`, 1 for none of them
unfoldable pub letter_at : List ℕ → ℕ → ℕ → Option (ℕ × ℕ)
letter_at s back at =
    if eqb (byte_of s at) (byte "p") then Some (2, at + 1) else
    if eqb (byte_of s at) (byte "u") then Some (3, at + 1) else
    if eqb (byte_of s at) (byte "i") then Some (4, at + 1) else
    if eqb (byte_of s at) (byte "s") then Some (5, at + 1) else
    Some (1, back)

-- `.` and a letter or nothing; 0 for no point
unfoldable pub end_at : List ℕ → ℕ → Option (ℕ × ℕ)
end_at s q =
    if eqb (byte_of s (skip_at s q)) (byte ".")
    then letter_at s (skip_at s q + 1) (skip_at s (skip_at s q + 1))
    else Some (0, q)

-- an entry is followed by a comma or by the end
unfoldable pub entry_sep : List ℕ → Entry → ℕ → ReadEntry
entry_sep s e at =
    if leb (length s) at then Some (e, None) else
    if eqb (byte_of s at) (byte ",") then Some (e, Some (at + 1)) else
    None

abbrev pub entry_end : List ℕ → ℕ → ℕ → ℕ → Option (ℕ × ℕ) → ReadEntry
entry_end s from to next None = None
entry_end s from to next (Some (end, q)) =
    entry_sep s (record { lo = from; hi = to; next = next; kind = end }) (skip_at s q)

abbrev pub entry_next : List ℕ → ℕ → ℕ → Option (ℕ × ℕ) → ReadEntry
entry_next s from to None = None
entry_next s from to (Some (next, q)) = entry_end s from to next (end_at s q)

abbrev pub entry_to : List ℕ → ℕ → Option (ℕ × ℕ) → ReadEntry
entry_to s from None = None
entry_to s from (Some (to, q)) = entry_next s from to (next_at s q)

abbrev pub entry_from : List ℕ → Option (ℕ × ℕ) → ReadEntry
entry_from s None = None
entry_from s (Some (from, q)) = entry_to s from (to_at s from q)

-- one entry, blanks around its tokens
unfoldable pub entry_at : List ℕ → ℕ → ReadEntry
entry_at s at = entry_from s (number_at s (skip_at s at))

-- the entries from one that was read on, up to one of no form. f bounds their number
unfoldable pub entries_go : ℕ → List ℕ → ReadEntry → List Entry
entries_go zero s None = []
entries_go zero s (Some (e, None)) = e ∷ []
entries_go zero s (Some (e, Some q)) = []
entries_go (suc f) s None = []
entries_go (suc f) s (Some (e, None)) = e ∷ []
entries_go (suc f) s (Some (e, Some q)) = e ∷ entries_go f s (entry_at s q)

-- every one has the form of an entry
unfoldable pub well_go : ℕ → List ℕ → ReadEntry → Bool
well_go zero s None = false
well_go zero s (Some (e, None)) = true
well_go zero s (Some (e, Some q)) = false
well_go (suc f) s None = false
well_go (suc f) s (Some (e, None)) = true
well_go (suc f) s (Some (e, Some q)) = well_go f s (entry_at s q)

unfoldable pub entries_at : List ℕ → ℕ → List Entry
entries_at s at = entries_go (length s) s (entry_at s at)

unfoldable pub well_at : List ℕ → ℕ → Bool
well_at s at = well_go (length s) s (entry_at s at)

-- letter `s`, or an end with a next row other than 0
unfoldable pub unbuilt_entry : Entry → Bool
unbuilt_entry e =
    eqb e.kind 5
    or (if eqb e.kind 0 then false else
    if eqb e.next 256 then false else
    if eqb e.next 0 then false else
    true)

-- a falling range, or a next row over 7f
unfoldable pub over_entry : Entry → Bool
over_entry e = ltb e.hi e.lo or (if eqb e.next 256 then false else ltb 0x7f e.next)

-- what an entry says of its bytes
unfoldable pub meaning : Entry → Cell
meaning e =
    if eqb e.kind 0 then (if eqb e.next 256 then ends else leads e.next) else
    if eqb e.kind 1 then ends else
    if eqb e.kind 2 then ends_any else
    if eqb e.kind 3 then ends_unassigned else
    illegal

-- later entries overwrite earlier; value gives what an entry puts into its places
unfoldable pub overwritten : {A : Type 0} → (Entry → A) → List Entry → List A → List A
overwritten value [] row = row
overwritten value (e ∷ es) row = overwritten value es (fill_range e.lo e.hi (value e) row)

-- the word that may open a row (1 `initial`, 2 `surrogates`, 0 none) and where the entries begin
unfoldable pub comma_at : List ℕ → ℕ → ℕ → Option (ℕ × ℕ)
comma_at s k at = if eqb (byte_of s at) (byte ",") then Some (k, at + 1) else None

unfoldable pub open_at : List ℕ → ℕ → Option (ℕ × ℕ)
open_at s p =
    if begins (ascii "initial") (drop p s) then comma_at s 1 (skip_at s (p + 7)) else
    if begins (ascii "surrogates") (drop p s) then comma_at s 2 (skip_at s (p + 10)) else
    Some (0, p)

-- the entries of a row's text
unfoldable pub entries_from : List ℕ → Option (ℕ × ℕ) → List Entry
entries_from s None = []
entries_from s (Some (k, q)) = entries_at s q

unfoldable pub entries_of : List ℕ → List Entry
entries_of s = if leb (length s) (skip_at s 0) then [] else entries_from s (open_at s (skip_at s 0))

-- the 256 cells of a row: bytes not named are illegal
unfoldable pub row_of : List Entry → List Cell
row_of es = overwritten meaning es (replicate 256 illegal)
