-- The test behind 60 (document 01, 'The two pipes': record and memory against T1 to T9 and the fixed form; T10 is
-- document 02's, request 5): one named test for each rule, and the form.
use Rattle.std.specs.Prelude.{ℕ, ◌-◌, ◌*◌, Bool, true, List, [], ◌∷◌, ltb, leb, length, take, drop}
use Rattle.lists.specs.Pick.{◌and◌}
use Rattle.lists.specs.Order.{rises, rises_from}
use Rattle.table.specs.Limits.{Limits, needed}
use Rattle.table.specs.Cells.{cell_step, cell_in, known}
use Rattle.table.specs.States.{Rows, step_at, leads_to}
use Rattle.table.specs.Codes.{bytes_of}
use Rattle.table.specs.Rules.{t1_rows, t1_lines, t1_sizes, t2_row, t3, t4_sub, t4_sub1, t5, t6, t7, t8, t10}
use Rattle.lists.specs.Tests.{all_of, zeros}
use Rattle.table.specs.Stored.{Stored, line_in, stored_ok, padded, read_next, write_next}
use Rattle.table.specs.Slices.{Slices}
use Rattle.table.specs.Memory.{stored_list, stored_at, sub1_in, lines_in}
use Rattle.table.specs.declared.valid.Record.{Record}

-- a number of the states: of the form, and T2
abbrev pub state_ok : ℕ → ℕ → Bool
state_ok n e = known e and leads_to (t2_row n) (cell_step (cell_in e))

-- the states: n rows, then zeros up to the needed ones
unfoldable pub states_ok : Limits → ℕ → List ℕ → Bool
states_ok lim n states =
    leb (needed lim) (length states)
    and all_of (state_ok n) (take (n * 256) states)
    and zeros (take (needed lim - n * 256) (drop (n * 256) states))

-- the record: T1, subchar a code of 1 to 4 bytes, subchar1 none or a byte
unfoldable pub record_ok : Limits → Record → Bool
record_ok lim rec =
    t1_rows lim rec.rows
    and t1_lines lim rec.mappings
    and t1_sizes rec.min rec.max
    and padded rec.subchar.len rec.subchar.bits
    and leb rec.subchar1 256

-- a stored line: of the form, and T5 to T8
unfoldable pub line_ok : Rows → Record → Stored → Bool
line_ok step rec e =
    stored_ok e
    and t5 step rec.min rec.max (line_in e)
    and t6 (line_in e)
    and t7 (line_in e)
    and t8 (sub1_in rec.subchar1) (line_in e)

-- an index after another: in range and later in the second order
unfoldable pub index_next : List ℕ → List ℕ → ℕ → ℕ → Bool
index_next bs is i j = ltb j (length bs) and write_next (stored_at bs is i) (stored_at bs is j)

unfoldable pub ordered : List ℕ → List ℕ → List ℕ → Bool
ordered bs is [] = true
ordered bs is (i ∷ l) = ltb i (length bs) and rises_from (index_next bs is) i l

-- the mapping slices: rising in both orders, T9 by neighbours, zeros after the last
unfoldable pub store_ok : ℕ → ℕ → List ℕ → List ℕ → List ℕ → Bool
store_ok limit n codes infos order =
    leb n limit
    and leb limit (length codes)
    and leb limit (length infos)
    and leb limit (length order)
    and rises read_next (stored_list (take n codes) (take n infos))
    and ordered (take n codes) (take n infos) (take n order)
    and zeros (take (limit - n) (drop n codes))
    and zeros (take (limit - n) (drop n infos))
    and zeros (take (limit - n) (drop n order))

-- THE TEST: record and memory keep T1 to T10 and the form
unfoldable pub valid : Limits → Record → Slices → Bool
valid lim rec m =
    record_ok lim rec
    and states_ok lim rec.rows m.states
    and t3 (step_at (take (needed lim) m.states)) rec.max
    and t4_sub (step_at (take (needed lim) m.states)) (bytes_of rec.subchar)
    and t4_sub1 (step_at (take (needed lim) m.states)) (sub1_in rec.subchar1)
    and store_ok lim.mappings rec.mappings m.codes m.infos m.order
    and t10 (lines_in rec m.codes m.infos)
    and all_of (line_ok (step_at (take (needed lim) m.states)) rec)
    (stored_list (take rec.mappings m.codes) (take rec.mappings m.infos))
