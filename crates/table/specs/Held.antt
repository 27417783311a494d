-- What a caller lends, as the memory that it is and the table that it holds.
use Rattle.std.specs.Prelude.{ℕ, Bool, true, ◌≡◌}
use Rattle.std.specs.Prelude.{Option as Optional, Some, None}
use Rattle.std.proofs.Math.Option.{Option, none, some}
use Rattle.table.specs.Limits.{limits}
use Rattle.table.specs.Meaning.{Table}
use Rattle.table.specs.Rules.{Keeps}
use Rattle.table.specs.Stored.{padded}
use Rattle.table.specs.Slices.{Slices, slices}
use Rattle.table.specs.Memory.{table_in}
use Rattle.table.specs.Valid.{valid}
use Rattle.table.specs.declared.states.Code.{Code}
use Rattle.table.specs.Codes.{code_of, bytes_of}
use Rattle.table.specs.declared.lent.Lent.{Lent}
use Rattle.table.specs.declared.lookup.Mapping.{Mapping}

-- the four slices
abbrev pub memory_of : Lent → Slices
memory_of l = slices l.states.now l.lines.codes.now l.lines.infos.now l.lines.order.now

-- the test behind 60
abbrev pub is_valid : Lent → Bool
is_valid l = valid limits l.rec (memory_of l)

-- the table that they hold
abbrev pub table_of : Lent → Table
table_of l = table_in l.rec (memory_of l)

-- what every value of a table's type is known by: it passed the test, and keeps the rules
pub record IsTable (l : Lent) : Type 0 where
  pub tested : is_valid l ≡ true
  pub keeps : Keeps limits (table_of l)

-- a byte that a table may give, as its methods hand it back
abbrev pub byte_given : Optional ℕ → Option ℕ
byte_given (Some b) = some b
byte_given None = none

-- a line that was found has a code of the form
abbrev pub IsPadded : Optional Mapping → Type 0
IsPadded (Some m) = padded m.code.len m.code.bits ≡ true
IsPadded None = Unit {0}

-- a line that was found has this code
abbrev pub HasCode : Code → Optional Mapping → Type 0
HasCode c (Some m) = m.code ≡ c
HasCode c None = Unit {0}

-- a code that comes next has 1 to 4 bytes, and zeros in its unused bits
abbrev pub IsNextCode : Optional Code → Type 0
IsNextCode (Some c) = (padded c.len c.bits ≡ true) × (c ≡ code_of (bytes_of c))
IsNextCode None = Unit {0}
