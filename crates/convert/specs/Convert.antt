-- The two conversions (document 01, 'The two pipes'; document 02, request 1), in any scheme: the test behind 60 first,
-- then the byte order mark of plain UTF-32, then the run from row 0.
-- Cases: audit/specs/Cases.antt (the starred ones)
use Rattle.std.specs.Prelude.{if◌then◌else◌, ℕ, ◌-◌, List, [], leb, drop}
use Rattle.std.specs.Prelude.{Option, Some, None}
use Rattle.utf.specs.declared.utf32.ByteOrder.{ByteOrder}
use Rattle.utf.specs.Utf32.{mark_in, mark_at}
use Rattle.utf.specs.Scheme.{Side, utf8, utf32}
use Rattle.utf.specs.declared.utf32.ByteOrder.TheVariants.{Big, Little}
use Rattle.utf.specs.declared.scheme.Scheme.{Scheme}
use Rattle.utf.specs.declared.scheme.Scheme.TheVariants as scheme
use Rattle.table.specs.Limits.{Limits}
use Rattle.table.specs.Meaning.{Table}
use Rattle.table.specs.Slices.{Slices}
use Rattle.table.specs.Memory.{table_in}
use Rattle.table.specs.Valid.{valid}
use Rattle.table.specs.declared.valid.Record.{Record}
use Rattle.convert.specs.Run.{Run, run_of, after, ended_with}
use Rattle.convert.specs.Step.{to_step, from_step}
use Rattle.convert.specs.declared.RunEnd.TheVariants.{OutputFull, BadTable}
use Rattle.convert.specs.declared.Settings.{Settings}

-- ## In a scheme

-- the mark in front of a text that is written
abbrev pub mark_of : Scheme → List ℕ
mark_of scheme.Utf8 = []
mark_of scheme.Utf32Be = []
mark_of scheme.Utf32Le = []
mark_of scheme.Utf32 = mark_in Big

-- writing, by what is written to a side of Unicode with space for `room` bytes: plain UTF-32 is big-endian and has its
-- mark in front of all else; where the mark does not fit, nothing is done, and the answer is 50. (Each scheme has its
-- own clause, so that UTF-8 computes to the run itself.)
abbrev pub write_in : Scheme → (Side → ℕ → Run) → ℕ → Run
write_in scheme.Utf8 run room = run utf8 room
write_in scheme.Utf32Be run room = run (utf32 Big) room
write_in scheme.Utf32Le run room = run (utf32 Little) room
write_in scheme.Utf32 run room =
    if leb 4 room then after 0 (mark_in Big) (run (utf32 Big) (room - 4)) else ended_with OutputFull 0

-- reading a text s: a mark chooses the order; its four bytes are read and give nothing; without one the order is
-- big-endian
abbrev pub behind_mark : Option ByteOrder → (Side → List ℕ → ℕ → Run) → List ℕ → ℕ → Run
behind_mark None run s room = run (utf32 Big) s room
behind_mark (Some order) run s room = after 4 [] (run (utf32 order) (drop 4 s) room)

-- reading: only plain UTF-32 has a mark
abbrev pub read_in : Scheme → (Side → List ℕ → ℕ → Run) → List ℕ → ℕ → Run
read_in scheme.Utf8 run s room = run utf8 s room
read_in scheme.Utf32Be run s room = run (utf32 Big) s room
read_in scheme.Utf32Le run s room = run (utf32 Little) s room
read_in scheme.Utf32 run s room = behind_mark (mark_at s) run s room

-- ## By a table

-- a table's bytes to a side of Unicode, with space for `room` bytes
abbrev pub to_side : Side → Table → Settings → List ℕ → ℕ → Run
to_side u t settings s room = run_of (to_step u t settings) 0 0 s room

abbrev pub from_side : Side → Table → Settings → List ℕ → ℕ → Run
from_side u t settings s room = run_of (from_step u t settings) 0 0 s room

-- to a scheme, and from it
abbrev pub to_run : Scheme → Table → Settings → List ℕ → ℕ → Run
to_run e t settings s room = write_in e (λ u. to_side u t settings s) room

abbrev pub from_run : Scheme → Table → Settings → List ℕ → ℕ → Run
from_run e t settings s room = read_in e (λ u. from_side u t settings) s room

-- by record and lent memory, whatever they are: 60 where they are not valid, nothing read or written
abbrev pub tested : Limits → Record → Slices → Run → Run
tested lim rec m run = if valid lim rec m then run else ended_with BadTable 0

unfoldable pub to_tested : Scheme → Limits → Record → Slices → Settings → List ℕ → ℕ → Run
to_tested e lim rec m settings s room =
    tested lim rec m (to_run e (table_in rec m) settings s room)

unfoldable pub from_tested : Scheme → Limits → Record → Slices → Settings → List ℕ → ℕ → Run
from_tested e lim rec m settings s room =
    tested lim rec m (from_run e (table_in rec m) settings s room)
