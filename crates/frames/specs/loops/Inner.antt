-- What only inner functions and laws of the program's output speak of: lengths of texts, entries as numbers, lines
-- found piece by piece, and the claim on the audit's pages alone.
use Rattle.std.specs.Prelude.{if◌then◌else◌, ◌≡◌, ℕ, ◌*◌, ◌≤◌, false, List, [], ◌∷◌, ◌++◌, length, ◌==◌, nat_eq}
use Rattle.std.specs.Prelude.{Option, position}
use Rattle.lists.specs.Ascii.{byte}
use Rattle.lists.specs.Order.{All}
use Rattle.table.specs.Limits.{limits}
use Rattle.table.specs.Codes.{bytes_of}
use Rattle.table.specs.Meaning.{Table}
use Rattle.table.specs.Slices.{Slices}
use Rattle.table.specs.Load.{read, accepted, loaded_by, given, left_in, record_handed}
use Rattle.audit.specs.Audit.{complete_codes, plain_list, entry_in}
use Rattle.frames.specs.Lines.{finding_line}
use Rattle.frames.specs.Stream.{InputLine, whole, extend, last_line}
use Rattle.frames.specs.loops.Inputs.{Piece, Shown, pages_from, text_of, last_listed}
use Rattle.frames.specs.Pages.{finding_lines, nothing_yet}

-- the place of the first LF, if there is one
abbrev pub first_lf : List ℕ → Option ℕ
first_lf s = position (λ b. b == 10) s

-- how many digits `hex_of` writes for n bytes
unfoldable pub hex_count : ℕ → ℕ
hex_count n = if n == 0 then 1 else 2 * n

-- the line of an entry that is a number of 64 bits
abbrev pub entry_line : ℕ → List ℕ
entry_line e = finding_line (bytes_of (entry_in e).code) (entry_in e).cause

unfoldable pub entry_lines : List ℕ → List ℕ
entry_lines [] = []
entry_lines (e ∷ l) = entry_line e ++ entry_lines l

-- all of a table's findings were put, and the sums are right
pub record WholeList (t : Table) (pages : List Shown) : Type 0 where
  pub text : text_of pages ≡ finding_lines (plain_list t false)
  pub looked : (last_listed nothing_yet pages).reached.looked ≡ length (complete_codes t)
  pub listed : (last_listed nothing_yet pages).reached.listed ≡ length (plain_list t false)

-- the whole list: of every accepted text, whatever the lent slices held, and any rooms, once the last call says that
-- there is no more
abbrev pub ListedWhole : Type 0
ListedWhole =
    (text : List ℕ) (old : Slices) (t : Table) → given limits text old ≡ read (accepted t) → (rooms : List ℕ)
    → let g = given limits text old in
    let pages = pages_from (record_handed (loaded_by g)) (left_in limits g old) nothing_yet.reached rooms in
    (last_listed nothing_yet pages).more ≡ false → WholeList t pages

-- a piece with as many calls as bytes, each with room for the widest line
pub record Ample (widest : ℕ) (p : Piece) : Type 0 where
  pub calls : length p.bytes ≤ length p.rooms
  pub wide : All (λ (room : ℕ). widest ≤ room) p.rooms

-- the lines that came to their end, and what is held of the next
pub record Fed : Type 0 where
  pub lines : List InputLine
  pub held : InputLine

-- what a piece of input gives behind what is held
unfoldable pub feed : ℕ → InputLine → List ℕ → Fed
feed cap h [] = record { lines = []; held = h }
feed cap h (b ∷ s) =
    let r = feed cap (if nat_eq b (byte "\n") then whole [] else extend cap h (b ∷ [])) s in
    if b == (byte "\n") then record { lines = h ∷ r.lines; held = r.held } else r

-- the lines of an input that comes in pieces
unfoldable pub feed_all : ℕ → InputLine → List (List ℕ) → List InputLine
feed_all cap h [] = last_line h
feed_all cap h (s ∷ pieces) = (feed cap h s).lines ++ feed_all cap (feed cap h s).held pieces
