-- The words of the promises about forms: a memory that is the form of some table, two tables of one meaning, two
-- memories that agree in all needed places. Assumes nothing.
use Rattle.std.specs.Prelude.{◌≡◌, take}
use Rattle.lists.specs.Order.{In}
use Rattle.table.specs.Limits.{Limits, needed}
use Rattle.table.specs.Meaning.{Line, Table}
use Rattle.table.specs.Rules.{Keeps}
use Rattle.table.specs.Slices.{Slices}
use Rattle.table.specs.Memory.{Form, Proper}
use Rattle.table.specs.declared.valid.Record.{Record}

-- a table whose form a memory is
pub record FormOf (lim : Limits) (rec : Record) (m : Slices) : Type 0 where
  pub table : Table
  pub proper : Proper table
  pub keeps : Keeps lim table
  pub form : Form lim table rec m

-- the same meaning: rows, the header's numbers, and the same lines in any order
pub record SameTable (t u : Table) : Type 0 where
  pub same_rows : t.rows ≡ u.rows
  pub same-min : t.min ≡ u.min
  pub same-max : t.max ≡ u.max
  pub same-subchar : t.subchar ≡ u.subchar
  pub same-subchar1 : t.subchar1 ≡ u.subchar1
  pub there : (l : Line) → In l t.lines → In l u.lines
  pub back : (l : Line) → In l u.lines → In l t.lines

-- the same record, and the same numbers in all needed places
pub record SameMemory (lim : Limits) (rec rec' : Record) (m m' : Slices) : Type 0 where
  pub same-record : rec ≡ rec'
  pub same-states : take (needed lim) m.states ≡ take (needed lim) m'.states
  pub same_codes : take lim.mappings m.codes ≡ take lim.mappings m'.codes
  pub same-infos : take lim.mappings m.infos ≡ take lim.mappings m'.infos
  pub same-order : take lim.mappings m.order ≡ take lim.mappings m'.order
