-- Loading a text (document 01, 'Numbers handed back for a text', and what is said there of line, record and memory):
-- line after line, the answer, and what it leaves in the lent memory.
-- Contents: what was read so far; the keys with one more value; what a line asks (`line_asks`); line after line
-- (`load_of`); what loading into lent slices gives (`given`), hands back (`loaded_by`) and leaves (`left_in`).
-- Cases: proofs/TextCases.antt
use Rattle.table.specs.Keys.{number_of_class}
use Rattle.table.specs.Codes.{bytes_of}
use Rattle.table.specs.Header.{ReadValue}
use Rattle.std.specs.Prelude.{Some, None}
use Rattle.table.specs.Header.{ReadLine}
use Rattle.std.specs.Prelude.{if◌then◌else◌, ℕ, ◌+◌, ◌-◌, true, false, List, [], Ok, Err}
use Rattle.std.specs.Prelude.{◌∷◌, ◌++◌, map, length, take, drop, replicate}
use Rattle.std.proofs.Math.Option.{Option, none, some}
use Rattle.table.specs.Limits.{Limits, needed}
use Rattle.table.specs.Cells.{Cell}
use Rattle.table.specs.Meaning.{Line, Table}
use Rattle.table.specs.Stored.{bits_of, info_of}
use Rattle.table.specs.Slices.{Slices}
use Rattle.table.specs.Memory.{sorted, order_of, record_of, numbers_of}
use Rattle.lists.specs.Place.{filled}
use Rattle.table.specs.Keys.{Keys, no_keys, class_by, min_of, max_of, subchar_of, keys}
use Rattle.table.specs.Text.{lines_of}
use Rattle.table.specs.Row.{entries_of, row_of}
use Rattle.table.specs.Header.{is_row, header_line_of}
use Rattle.table.specs.Mapping.{BodyLine, no_form, reserved, blank, ending, mapping, body_line_of, after_end_of}
use Rattle.table.specs.Numbers.{Cond, Verdict, Loaded, refusal_number, lowest, in_form}
use Rattle.table.specs.Numbers.{key_conditions, charmap_conditions}
use Rattle.table.specs.Numbers.{mapping_conditions, rows_at, n1, n2, n27, form_conditions, behind_conditions}
use Rattle.table.specs.Numbers.{end_conditions}
use Rattle.table.specs.declared.valid.Record.{Record}
use Rattle.table.specs.declared.header.HeaderLine.TheVariants as header
use Rattle.table.specs.declared.load.Refusal.{Refusal}
use Rattle.table.specs.declared.load.Refusal.TheVariants as refusal
use Rattle.table.specs.declared.load.Phase.{Phase}
use Rattle.table.specs.declared.load.Phase.TheVariants.{Header, Mappings, Ended}
use Rattle.table.specs.declared.value.Value.TheVariants.{Any, Name, Min, Max, Class, Sub, Sub1, Row}
use Rattle.table.specs.declared.value.Value.TheVariants.{Unbuilt}

-- what the lines so far have given; lines stand with the last one first
pub record Reading : Type 0 where
  pub phase : Phase
  pub head : Keys
  pub rows : List (List Cell)
  pub lines : List Line

-- a line's outcome: the reading goes on, or the text is refused
pub data LineStep : Type 0 where
  goes_on : Reading → LineStep
  stop : Refusal → LineStep

abbrev pub judged : Verdict → Reading → LineStep
judged (Ok tt) r = goes_on r
judged (Err x) r = stop x

-- the keys with a line's value in them
unfoldable pub keep_value : Keys → ReadValue → Keys
keep_value h None = h
keep_value h (Some Any) = h
keep_value h (Some Unbuilt) = h
keep_value h (Some Name) = keys true h.min h.max h.class h.subchar h.subchar1
keep_value h (Some (Min d)) = keys h.name (some d) h.max h.class h.subchar h.subchar1
keep_value h (Some (Max d)) = keys h.name h.min (some d) h.class h.subchar h.subchar1
keep_value h (Some (Class c)) = keys h.name h.min h.max (some (class_by (number_of_class c))) h.subchar h.subchar1
keep_value h (Some (Sub c)) = keys h.name h.min h.max h.class (some (bytes_of c)) h.subchar1
keep_value h (Some (Sub1 b)) = keys h.name h.min h.max h.class h.subchar (some b)
keep_value h (Some (Row w l o)) = h

-- the rows with a line's row added at the end; s is the value's text
unfoldable pub keep_row : ReadValue → List ℕ → List (List Cell) → List (List Cell)
keep_row v s rows = if is_row v then rows ++ (row_of (entries_of s) ∷ []) else rows

abbrev pub reading : Phase → Keys → List (List Cell) → List Line → Reading
reading p h rows ls = record { phase = p; head = h; rows = rows; lines = ls }

-- a line: the conditions at it, and what has been read after it where none holds
pub record Asks : Type 0 where
  pub conditions : List Cond
  pub behind : Reading

abbrev pub asks : List Cond → Reading → Asks
asks cs r = record { conditions = cs; behind = r }

-- a line before CHARMAP
abbrev pub header_asks : Limits → Keys → List (List Cell) → List ℕ → ReadLine → Asks
header_asks lim h rows s None = asks (form_conditions None) (reading Header h rows [])
header_asks lim h rows s (Some header.Blank) = asks (form_conditions (Some header.Blank)) (reading Header h rows [])
header_asks lim h rows s (Some header.Charmap) =
    asks (charmap_conditions h rows) (reading Mappings h (rows_at h rows) [])
header_asks lim h rows s (Some (header.Known k v q e)) =
    asks (key_conditions lim h (length rows) k v)
    (reading Header (keep_value h v) (keep_row v (take (e - q) (drop q s)) rows) [])

abbrev pub line_as : ℕ → List ℕ → ℕ → Line
line_as u c d = record { point = u; code = c; indicator = d }

-- a line between CHARMAP and END CHARMAP
abbrev pub mapping_asks : Limits → Keys → List (List Cell) → List Line → BodyLine → Asks
mapping_asks lim h rows ls no_form = asks (behind_conditions false no_form) (reading Mappings h rows ls)
mapping_asks lim h rows ls reserved = asks (behind_conditions false reserved) (reading Mappings h rows ls)
mapping_asks lim h rows ls blank = asks (behind_conditions false blank) (reading Mappings h rows ls)
mapping_asks lim h rows ls ending = asks (end_conditions ls) (reading Ended h rows ls)
mapping_asks lim h rows ls (mapping u c d) =
    asks (mapping_conditions lim h rows ls (line_as u c d)) (reading Mappings h rows (line_as u c d ∷ ls))

-- a line after END CHARMAP, where only blank lines may stand
abbrev pub last_asks : Keys → List (List Cell) → List Line → BodyLine → Asks
last_asks h rows ls f = asks (behind_conditions true f) (reading Ended h rows ls)

-- a line, by the part of the text that it stands in
abbrev pub phase_asks : Limits → Phase → Keys → List (List Cell) → List Line → List ℕ → Asks
phase_asks lim Header h rows ls s = header_asks lim h rows s (header_line_of s)
phase_asks lim Mappings h rows ls s = mapping_asks lim h rows ls (body_line_of s)
phase_asks lim Ended h rows ls s = last_asks h rows ls (after_end_of s)

-- a line, given what was read before it
abbrev pub line_asks : Limits → Reading → List ℕ → Asks
line_asks lim r s = phase_asks lim r.phase r.head r.rows r.lines s

-- how the conditions at a line are judged: all of them (`lowest`), or only the conditions of the grammar (`in_form`)
abbrev pub Judge : Type 0
Judge = List Cond → Verdict

abbrev pub judged_by : Judge → Asks → LineStep
judged_by judge a = judged (judge a.conditions) a.behind

-- one line
abbrev pub line_step : Judge → Limits → Reading → List ℕ → LineStep
line_step judge lim r s = judged_by judge (line_asks lim r s)

-- the meaning of what was read
unfoldable pub table_of : Reading → Table
table_of r =
    record {
      rows = r.rows;
      lines = r.lines;
      min = min_of r.head;
      max = max_of r.head;
      subchar = subchar_of r.head;
      subchar1 = r.head.subchar1;
    }

pub data Outcome : Type 0 where
  accepted : Table → Outcome
  refused : Refusal → ℕ → Outcome

-- behind the last of k lines: 27 names the line count plus 1
unfoldable pub outcome_at : ℕ → Reading → Phase → Outcome
outcome_at k r p = if n27 p then refused refusal.NoEnd (k + 1) else accepted (table_of r)

-- line k gave the step, and the others are still to be read: the first line at which a condition holds is named
unfoldable pub load_go : Judge → Limits → ℕ → List (List ℕ) → LineStep → Outcome
load_go judge lim k [] (stop x) = refused x k
load_go judge lim k [] (goes_on r) = outcome_at k r r.phase
load_go judge lim k (l ∷ ls) (stop x) = refused x k
load_go judge lim k (l ∷ ls) (goes_on r) = load_go judge lim (k + 1) ls (line_step judge lim r l)

abbrev pub start : Reading
start = reading Header no_keys [] []

-- the text by itself
unfoldable pub load_of : Limits → List ℕ → Outcome
load_of lim text = load_go lowest lim 0 (lines_of text) (goes_on start)

-- the reader asked for the grammar alone: no number from 10 to 15 and no 27 holds; rows and lines, whatever they break
-- of T2 to T10, of T1's sizes and its count of lines. Which texts are read so: `TableText` of Grammar.antt
-- (proofs/TextRead.antt)
unfoldable pub load_in_form : Limits → List ℕ → Outcome
load_in_form lim text = load_go in_form lim 0 (lines_of text) (goes_on start)

abbrev pub loaded_as : Outcome → Loaded
loaded_as (accepted t) = Ok (record_of t)
loaded_as (refused x k) = Err (record { why = x; line = k })

-- what is handed on beside the number: the refusal if there is one, the line that is refused, 0 where there is none,
-- and the record, which is zeros for a refused text
abbrev pub refusal_in : Loaded → Option Refusal
refusal_in (Ok rec) = none
refusal_in (Err e) = some e.why

abbrev pub line_refused : Loaded → ℕ
line_refused (Ok rec) = 0
line_refused (Err e) = e.line

abbrev pub zero_record : Record
zero_record = record { rows = 0; mappings = 0; min = 0; max = 0; subchar = record { bits = 0; len = 0 }; subchar1 = 0 }

abbrev pub record_handed : Loaded → Record
record_handed (Ok rec) = rec
record_handed (Err e) = zero_record

-- what loading a text into lent slices gives: the outcome, and whether the slices are looked at
pub data Given : Type 0 where
  untouched : Refusal → Given
  read : Outcome → Given

-- 1 goes before 2, both with memory untouched
unfoldable pub given : Limits → List ℕ → Slices → Given
given lim text m =
    if n1 lim (length m.states) (length m.codes) (length m.infos) (length m.order)
    then untouched refusal.MemoryTooSmall
    else
    if n2 lim text then untouched refusal.TextTooLong else
    read (load_of lim text)

-- document 01's number for it: 0 for an accepted text, else the refusal's
abbrev pub given_number : Given → ℕ
given_number (untouched x) = refusal_number x
given_number (read (accepted t)) = 0
given_number (read (refused x k)) = refusal_number x

abbrev pub loaded_by : Given → Loaded
loaded_by (untouched x) = loaded_as (refused x 0)
loaded_by (read o) = loaded_as o

-- a lent slice afterwards: an accepted table fills the n needed numbers with `numbers` and zeros, a refusal with zeros
abbrev pub left_by : ℕ → (Table → List ℕ) → Given → List ℕ → List ℕ
left_by n numbers (untouched x) old = old
left_by n numbers (read (refused x k)) old = replicate n 0 ++ drop n old
left_by n numbers (read (accepted t)) old = filled n (numbers t) ++ drop n old

abbrev pub states_of : Table → List ℕ
states_of t = numbers_of t.rows

abbrev pub codes_of : Table → List ℕ
codes_of t = map bits_of (sorted t.lines)

abbrev pub infos_of : Table → List ℕ
infos_of t = map info_of (sorted t.lines)

abbrev pub ordered_of : Table → List ℕ
ordered_of t = order_of (sorted t.lines)

-- what loading leaves in lent slices: the words of the load's own promise
abbrev pub left_in : Limits → Given → Slices → Slices
left_in lim g old =
    record {
      states = left_by (needed lim) states_of g old.states;
      codes = left_by lim.mappings codes_of g old.codes;
      infos = left_by lim.mappings infos_of g old.infos;
      order = left_by lim.mappings ordered_of g old.order;
    }
