-- What an accepted text means (document 01, 'Table text'): rows, lines and the numbers of its header, with no word of
-- memory; which lines read and write (`|0` to `|3`), and the line that reads a code or writes a code point.
use Rattle.std.specs.Prelude.{ℕ, ◌+◌, ◌*◌, Bool, List, [], ◌∷◌, ◌++◌, get_or, eqb}
use Rattle.std.proofs.Math.Option.{Option}
use Rattle.lists.specs.Pick.{◌and◌, ◌or◌}
use Rattle.lists.specs.Order.{first_of}
use Rattle.lists.specs.Strings.{same}
use Rattle.table.specs.Cells.{Cell, illegal, cell_step}
use Rattle.table.specs.States.{Rows}

-- a mapping line: code point, bytes, and the indicator's digit (0 both ways, 1 only from Unicode, 2 not mappable, 3
-- only to Unicode)
pub record Line : Type 0 where
  pub point : ℕ
  pub code : List ℕ
  pub indicator : ℕ

-- a row has 256 cells; lines stand with the text's last one first (their order means nothing)
pub record Table : Type 0 where
  pub rows : List (List Cell)
  pub lines : List Line
  pub min : ℕ
  pub max : ℕ
  pub subchar : List ℕ
  pub subchar1 : Option ℕ

-- the cells of all rows, row after row
unfoldable pub flat : List (List Cell) → List Cell
flat [] = []
flat (r ∷ rs) = r ++ flat rs

-- what the cell of a row at a byte says; past the last row all is illegal
unfoldable pub steps_on : List (List Cell) → Rows
steps_on rows row b = cell_step (get_or (flat rows) (row * 256 + b) illegal)

abbrev pub steps_of : Table → Rows
steps_of t = steps_on t.rows

-- ## Lines by name: each test lists the digits that it means, and no other digit passes it

-- `|0`, `|3`: its code is read towards Unicode
abbrev pub is_read : Line → Bool
is_read l = eqb l.indicator 0 or eqb l.indicator 3

-- `|0`, `|1`, `|2`: it says what becomes of its code point
abbrev pub decides_point : Line → Bool
decides_point l = eqb l.indicator 0 or eqb l.indicator 1 or eqb l.indicator 2

-- `|0`, `|1`, `|3`: it maps between its code point and a code
abbrev pub has_code : Line → Bool
has_code l = eqb l.indicator 0 or eqb l.indicator 1 or eqb l.indicator 3

-- `|0`, `|1`: its code is written for its code point
abbrev pub writes_code : Line → Bool
writes_code l = eqb l.indicator 0 or eqb l.indicator 1

-- `|1`, a fallback: its code is written for its code point, and not read
abbrev pub only_writes : Line → Bool
only_writes l = eqb l.indicator 1

-- `|2`: its code point is substituted by subchar1
abbrev pub is_substituted : Line → Bool
is_substituted l = eqb l.indicator 2

-- ## Look-up among lines

-- the line that reads a code
abbrev pub reader : List ℕ → List Line → Option Line
reader c ls = first_of (λ l. is_read l and same l.code c) ls

-- the line that says what becomes of a code point
abbrev pub writer : ℕ → List Line → Option Line
writer u ls = first_of (λ l. decides_point l and eqb l.point u) ls
