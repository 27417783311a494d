-- What the readers find, as the code holds it: a run of bytes and a mapping line packed into numbers, a row's numbers
-- among the states, and a text cut at its first line. Only contracts of inner functions speak of it.
use Rattle.std.specs.Prelude.{if◌then◌else◌, ℕ, ◌+◌, ◌*◌, Bool, true, false, List, [], ◌∷◌, ◌++◌}
use Rattle.std.specs.Prelude.{◌-◌, ◌≡◌, length, take, drop, eqb, leb, Option, Some, None}
use Rattle.std.specs.Iterator.{Count, at_most}
use Rattle.lists.specs.Ascii.{byte}
use Rattle.table.specs.Codes.{packed}
use Rattle.table.specs.Text.{ByteSeries, series, broken, cr_before}
use Rattle.table.specs.Mapping.{BodyLine, no_form, reserved, blank, ending, mapping}
use Rattle.table.specs.Text.{byte_of, skip_at}
use Rattle.table.specs.Row.{Entry, ReadEntry, entries_at, well_at, unbuilt_entry, over_entry}
use Rattle.lists.specs.Tests.{any_of}
use Rattle.table.specs.declared.row.EntryEnd.{EntryEnd}
use Rattle.table.specs.declared.row.EntryEnd.TheVariants.{Plain, Any, Unassigned, Illegal, Shift}
use Rattle.table.specs.declared.row.Entry as row
use Rattle.table.specs.declared.row.Entries.{Entries}
use Rattle.table.specs.declared.row.Forms.{Forms}
use Rattle.table.specs.declared.row.OpeningWord.{OpeningWord}
use Rattle.table.specs.declared.row.OpeningWord.TheVariants.{Initial, Surrogates}
use Rattle.table.specs.declared.text.ByteRun.{ByteRun}
use Rattle.table.specs.Lookup.{indicator_of}
use Rattle.table.specs.declared.lookup.Use.{Use}
use Rattle.table.specs.declared.mapping.Mapped.{Mapped}
use Rattle.table.specs.declared.mapping.Mapped.TheVariants as coded

-- the first line, and what follows its end
unfoldable pub first_line : List ℕ → List ℕ
first_line [] = []
first_line (b ∷ bs) =
    let r = first_line bs in
    if eqb b (byte "\n") then [] else if cr_before b bs then r else b ∷ r

unfoldable pub rest_lines : List ℕ → List ℕ
rest_lines [] = []
rest_lines (b ∷ bs) = let r = rest_lines bs in if eqb b (byte "\n") then bs else r

-- a run as the code holds it
abbrev pub byte_run_of : ByteSeries → Option ByteRun
byte_run_of broken = None
byte_run_of (series l m e) = Some (record { bits = packed l; len = length l; joined = m; end = e })

-- a run of at most `most` bytes with nothing after it, and a digit that was read
abbrev pub lone_run : List ℕ → ℕ → Option ByteRun → Option ByteRun
lone_run v most None = None
lone_run v most (Some r) =
    if r.joined then None else
    if leb r.len most then (if leb (length v) (skip_at v r.end) then Some r else None) else
    None

abbrev pub digit_read : ℕ → Option ℕ
digit_read d = if eqb d 0 then None else Some d

-- the numbers of a flag, and of the use that an indicator names; none for `|4`
abbrev pub flag_number : Bool → ℕ
flag_number false = 0
flag_number true = 1

abbrev pub indicator_number : Option Use → ℕ
indicator_number None = 4
indicator_number (Some used) = indicator_of used

-- a form by what the code holds of it: of a mapping's bytes the first four, and the count
abbrev pub FormAs : Option Mapped → BodyLine → Type 0
FormAs None f = f ≡ no_form
FormAs (Some coded.Reserved) f = f ≡ reserved
FormAs (Some coded.Blank) f = f ≡ blank
FormAs (Some coded.End) f = f ≡ ending
FormAs (Some (coded.Line m)) f =
    (l : List ℕ) × ((f ≡ mapping m.point l (indicator_of m.used)) × (m.bits ≡ packed l) × (m.len ≡ length l))

-- the place after the sign b, if it is the next token after q
abbrev pub sign_after : List ℕ → ℕ → ℕ → Option ℕ
sign_after s q b = if eqb (byte_of s (skip_at s q)) b then Some (skip_at s q + 1) else None

-- the numbers of what an entry names, as the grammar has them, and of the word that opens a row
abbrev pub next_number : Option ℕ → ℕ
next_number None = 256
next_number (Some n) = n

abbrev pub end_number : Option EntryEnd → ℕ
end_number None = 0
end_number (Some Plain) = 1
end_number (Some Any) = 2
end_number (Some Unassigned) = 3
end_number (Some Illegal) = 4
end_number (Some Shift) = 5

abbrev pub opener_number : Option OpeningWord → ℕ
opener_number None = 0
opener_number (Some Initial) = 1
opener_number (Some Surrogates) = 2

-- what was read, and the place after it, by its number
abbrev pub numbered : {A : Type 0} → (A → ℕ) → Option (A × ℕ) → Option (ℕ × ℕ)
numbered number None = None
numbered number (Some (v, q)) = Some (number v, q)

abbrev pub entry_of : row.Entry → Entry
entry_of e = record { lo = e.lo; hi = e.hi; next = next_number e.next; kind = end_number e.end }

abbrev pub entry_read : Option (row.Entry × Option ℕ) → ReadEntry
entry_read None = None
entry_read (Some (e, q)) = Some (entry_of e, q)

-- entries of a row, where all have the form: whether 14 is given for one, whether 15 is
abbrev pub forms_at : List ℕ → ℕ → Option Forms
forms_at s at =
    if well_at s at
    then Some (record { later = any_of unbuilt_entry (entries_at s at); over = any_of over_entry (entries_at s at) })
    else None

-- 256 numbers put in the place of row r among the states
unfoldable pub put_row : ℕ → List ℕ → List ℕ → List ℕ
put_row r row l = take (r * 256) l ++ (row ++ drop (r * 256 + 256) l)

-- the entries from a place on, if there is one, and whether all have the form
abbrev pub rest_at : List ℕ → Option ℕ → List Entry
rest_at s None = []
rest_at s (Some q) = entries_at s q

abbrev pub well_rest : List ℕ → Option ℕ → Bool
well_rest s None = true
well_rest s (Some q) = well_at s q

-- the same of what an iterator has left
abbrev pub entries_left : Entries → List Entry
entries_left it = rest_at it.text.now it.at

abbrev pub well_left : Entries → Bool
well_left it = well_rest it.text.now it.at

-- the first of the entries that are left, or none where text of no such form stands; nothing after either
abbrev pub GivesEntry : Entries → Option (Option row.Entry) → Entries → Type 0
GivesEntry old None new = (entries_left old ≡ []) × (well_left old ≡ true)
GivesEntry old (Some None) new = (entries_left old ≡ []) × (well_left old ≡ false)
GivesEntry old (Some (Some e)) new =
    (entries_left old ≡ entry_of e ∷ entries_left new) × (well_left old ≡ well_left new)

-- no more than the places that are left
abbrev pub places_left : ℕ → Option ℕ → ℕ
places_left n None = 0
places_left n (Some at) = n - at + 1

abbrev pub entries_most : Entries → Count
entries_most it = at_most (places_left (length it.text.now) it.at)
