-- The form in memory (document 01, 'What every table keeps': sorted for search from either side, zeros in the unused
-- needed places, and a record; docs/MEMORY.md): the record and the lent numbers of a table. One form for one meaning.
-- Contents: stored lines in both orders; the record; `Form`, the form of a table; `table_in`, the table that memory
-- holds; `Proper`, a table as a text can give it.
use Rattle.std.specs.Prelude.{if◌then◌else◌, ℕ, zero, suc, ◌+◌, ◌-◌, ◌≤◌, ◌<◌, Bool, ◌≡◌}
use Rattle.std.specs.Prelude.{List, [], ◌∷◌, map, eqb, length, take, drop, get_or}
use Rattle.std.proofs.Math.Option.{Option, none, some}
use Rattle.lists.specs.Order.{sort, up_from, All}
use Rattle.lists.specs.Place.{filled}
use Rattle.table.specs.Limits.{Limits, needed}
use Rattle.table.specs.Cells.{Cell, cell_number, cell_in}
use Rattle.table.specs.Codes.{code_of, bytes_of, AllByte}
use Rattle.table.specs.Meaning.{Line, Table, flat}
use Rattle.table.specs.Stored.{Stored, mk, bits_of, info_of, stored_of, line_in, less, point_less}
use Rattle.table.specs.Slices.{Slices}
use Rattle.table.specs.declared.valid.Record.{Record}

-- the stored mapping at an index of the two slices
abbrev pub stored_at : List ℕ → List ℕ → ℕ → Stored
stored_at bs is k = mk (get_or bs k 0) (get_or is k 0)

abbrev pub nth : List Stored → ℕ → Stored
nth es k = stored_at (map bits_of es) (map info_of es) k

-- two slices as a list of stored mappings
unfoldable pub stored_list : List ℕ → List ℕ → List Stored
stored_list [] is = []
stored_list (b ∷ bs) [] = []
stored_list (b ∷ bs) (i ∷ is) = mk b i ∷ stored_list bs is

-- the indices by the second order
unfoldable pub index_less : List Stored → ℕ → ℕ → Bool
index_less es i j = point_less (nth es i) (nth es j)

unfoldable pub order_of : List Stored → List ℕ
order_of es = sort (index_less es) (up_from 0 (length es))

-- the stored lines, rising by code
abbrev pub sorted : List Line → List Stored
sorted ls = sort less (map stored_of ls)

-- subchar1: 0 where none is given, else 1 + the byte
abbrev pub sub1_of : Option ℕ → ℕ
sub1_of none = 0
sub1_of (some b) = 1 + b

abbrev pub sub1_in : ℕ → Option ℕ
sub1_in n = if eqb n 0 then none else some (n - 1)

unfoldable pub record_of : Table → Record
record_of t =
    record {
      rows = length t.rows;
      mappings = length t.lines;
      min = t.min;
      max = t.max;
      subchar = code_of t.subchar;
      subchar1 = sub1_of t.subchar1;
    }

-- the mapping slices hold these, and zeros after them
pub record SlicesHold (limit : ℕ) (es : List Stored) (codes infos order : List ℕ) : Type 0 where
  pub fits : length es ≤ limit
  pub codes-are : take limit codes ≡ filled limit (map bits_of es)
  pub infos-are : take limit infos ≡ filled limit (map info_of es)
  pub order_is : take limit order ≡ filled limit (order_of es)

-- the numbers of the rows' cells, row by row
abbrev pub numbers_of : List (List Cell) → List ℕ
numbers_of rows = map cell_number (flat rows)

-- THE FORM of a table; past the needed places anything may stand
pub record Form (lim : Limits) (t : Table) (rec : Record) (m : Slices) : Type 0 where
  pub record_is : rec ≡ record_of t
  pub states-are : take (needed lim) m.states ≡ filled (needed lim) (numbers_of t.rows)
  pub mappings-are : SlicesHold lim.mappings (sorted t.lines) m.codes m.infos m.order

-- n rows of 256 cells from the front of a list
unfoldable pub pieces : ℕ → List Cell → List (List Cell)
pieces zero l = []
pieces (suc n) l = take 256 l ∷ pieces n (drop 256 l)

-- the lines that a record and memory hold, whatever they are
unfoldable pub lines_in : Record → List ℕ → List ℕ → List Line
lines_in rec codes infos = map line_in (stored_list (take rec.mappings codes) (take rec.mappings infos))

-- the table that they hold
unfoldable pub table_in : Record → Slices → Table
table_in rec m =
    record {
      rows = pieces rec.rows (map cell_in m.states);
      lines = lines_in rec m.codes m.infos;
      min = rec.min;
      max = rec.max;
      subchar = bytes_of rec.subchar;
      subchar1 = sub1_in rec.subchar1;
    }

-- a line as a text can give it
pub record ProperLine (l : Line) : Type 0 where
  pub bytes : AllByte l.code
  pub digit : l.indicator < 4

-- a table as a text can give it: rows of 256 cells, bytes that are bytes, digits that are indicators
pub record Proper (t : Table) : Type 0 where
  pub rows-full : All (λ r. length r ≡ 256) t.rows
  pub lines-proper : All ProperLine t.lines
  pub sub-bytes : AllByte t.subchar
  pub sub1-byte : sub1_of t.subchar1 < 257
