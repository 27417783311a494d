-- A cell is what a state row says of a byte (document 01, 'State rows'). A row of a table has 256 of them.
-- The number that stands for a cell in memory is given here alone.
use Rattle.std.specs.Prelude.{if◌then◌else◌, ℕ, ◌+◌, ◌-◌, Bool, leb, eqb}
use Rattle.lists.specs.Pick.{◌or◌}
use Rattle.table.specs.declared.states.Step.{Step}
use Rattle.table.specs.declared.states.Step.TheVariants.{Illegal, Ends, Leads}
use Rattle.table.specs.declared.states.EndKind.TheVariants.{Assigned, AnyPoint, Unassigned}

-- illegal; ends the code: assigned up to U+FFFF, any code point (`p`), legal but unassigned (`u`); leads on to row n
pub data Cell : Type 0 where
  illegal : Cell
  ends : Cell
  ends_any : Cell
  ends_unassigned : Cell
  leads : ℕ → Cell

-- the step of a reader of codes
abbrev pub cell_step : Cell → Step
cell_step illegal = Illegal
cell_step ends = Ends Assigned
cell_step ends_any = Ends AnyPoint
cell_step ends_unassigned = Ends Unassigned
cell_step (leads n) = Leads n

-- the number of a cell in memory
abbrev pub cell_number : Cell → ℕ
cell_number illegal = 0
cell_number ends = 1
cell_number ends_any = 2
cell_number ends_unassigned = 3
cell_number (leads n) = 16 + n

-- the cell that a number stands for; the numbers 4 to 15 stand for none and read as illegal
unfoldable pub cell_in : ℕ → Cell
cell_in e =
    if leb 16 e then leads (e - 16) else
    if eqb e 1 then ends else
    if eqb e 2 then ends_any else
    if eqb e 3 then ends_unassigned else
    illegal

-- a number that stands for a cell: 0 to 3, or from 16 on
abbrev pub known : ℕ → Bool
known e = leb e 3 or leb 16 e
