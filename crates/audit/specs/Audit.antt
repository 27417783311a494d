-- The audit (document 01, 'The audit of codes'): which complete codes do not round-trip and why, the plain list, and
-- one audit call.
-- Contents: a code read and written back (`cause_of`); the plain list; a call's answer and its number (0, 40, 60); a
-- call on a table and on lent memory (`audit_tested`); entries as numbers, and what a call hands back and leaves in its
-- space.
-- Cases: specs/Cases.antt
use Rattle.std.specs.Prelude.{if◌then◌else◌, ℕ, zero, suc, ◌+◌, ◌*◌, ◌/◌, ◌%◌, Bool, true}
use Rattle.std.specs.Prelude.{false, List, [], ◌++◌, map, eqb, length, drop, Option as Optional, Some, None}
use Rattle.std.specs.Prelude.{Result, Ok, Err}
use Rattle.std.specs.Result.{result_unwrap_or}
use Rattle.std.proofs.Math.Option.{Option, none, some}
use Rattle.lists.specs.Pick.{◌and◌}
use Rattle.lists.specs.Paging.{Pageable, Page, map_position, stopped_at, entries_for, page_from}
use Rattle.table.specs.Limits.{Limits}
use Rattle.table.specs.States.{Rows, end_kind, is_code}
use Rattle.table.specs.Codes.{all_codes, packed, code_of, bytes_of, next_of}
use Rattle.lists.specs.Strings.{before, same}
use Rattle.table.specs.Meaning.{Line, Table, steps_of, reader}
use Rattle.table.specs.Stored.{padded}
use Rattle.table.specs.Slices.{Slices}
use Rattle.table.specs.Memory.{table_in}
use Rattle.table.specs.Valid.{valid}
use Rattle.table.specs.declared.states.Code.{Code}
use Rattle.table.specs.declared.valid.Record.{Record}
use Rattle.convert.specs.Step.{Written, code, subchar1, nothing, writes}
use Rattle.audit.specs.declared.Cause.{Cause}
use Rattle.audit.specs.declared.Cause.TheVariants as cause
use Rattle.audit.specs.declared.AuditRefusal.{AuditRefusal}
use Rattle.audit.specs.declared.AuditRefusal.TheVariants as refusal
use Rattle.audit.specs.declared.Audited.{Audited}
use Rattle.audit.specs.declared.AuditEntry.{AuditEntry}
use Rattle.table.specs.declared.states.EndKind.{EndKind}
use Rattle.table.specs.declared.states.EndKind.TheVariants.{Assigned, AnyPoint, Unassigned}

-- every complete code, in byte order
abbrev pub complete_codes : Table → List (List ℕ)
complete_codes t = all_codes (steps_of t) 0

-- a code read towards Unicode and written back, strict: no line reads it; its code point is not written; it is written
-- as this code
pub data Back : Type 0 where
  unread : Back
  unwritten : Back
  written : List ℕ → Back

abbrev pub back_by : Written → Back
back_by (code d) = written d
back_by subchar1 = unwritten
back_by nothing = unwritten

abbrev pub back_of : Table → Bool → Option Line → Back
back_of t fallback none = unread
back_of t fallback (some l) = back_by (writes t fallback l.point)

-- 0 where the code round-trips ('comes home' in document 01), else the lowest cause that holds: 1, it is ended by `u`;
-- 2, no line reads it; 3, it reads but is written as another code; 4, it reads but is not written
abbrev pub cause_by : List ℕ → Bool → Back → ℕ
cause_by c u (written d) = if same d c then 0 else if u then 1 else 3
cause_by c u unread = if u then 1 else 2
cause_by c u unwritten = if u then 1 else 4

-- the numbers of the causes, and 0 for none
abbrev pub number_of : Cause → ℕ
number_of cause.Unassigned = 1
number_of cause.NotRead = 2
number_of cause.OtherCode = 3
number_of cause.NotWritten = 4

abbrev pub cause_number : Optional Cause → ℕ
cause_number None = 0
cause_number (Some w) = number_of w

-- a code that ends by `u`
abbrev pub is_unassigned : Optional EndKind → Bool
is_unassigned (Some Unassigned) = true
is_unassigned (Some Assigned) = false
is_unassigned (Some AnyPoint) = false
is_unassigned None = false

-- the cause of a complete code, under a fallback setting
unfoldable pub cause_of : Table → Bool → List ℕ → ℕ
cause_of t fallback c = cause_by c (is_unassigned (end_kind (steps_of t) 0 c)) (back_of t fallback (reader c t.lines))

-- a code that does not round-trip, with its cause
pub record Finding : Type 0 where
  pub code : List ℕ
  pub cause : ℕ

abbrev pub finding_of : List ℕ → ℕ → Option Finding
finding_of c zero = none
finding_of c (suc w) = some (record { code = c; cause = suc w })

abbrev pub next_bytes : Optional Code → Option (List ℕ)
next_bytes (Some c) = some (bytes_of c)
next_bytes None = none

-- the complete codes as a list to page through; a position is a byte string, that of no bytes is the beginning
unfoldable pub pageable_codes : Table → Bool → Pageable (List ℕ) Finding (List ℕ)
pageable_codes t fallback =
    record {
      start = [];
      after = before;
      at = λ c. c;
      note = λ c. finding_of c (cause_of t fallback c);
      next = λ p. next_bytes (next_of (steps_of t) 0 p);
    }

-- the plain list: every complete code in byte order that does not round-trip, with its cause
unfoldable pub plain_list : Table → Bool → List Finding
plain_list t fallback = entries_for (pageable_codes t fallback) (complete_codes t)

-- how a call ends: codes were looked at, or it is refused
pub data Ending : Type 0 where
  Looked : Ending
  BadPosition : Ending
  BadTable : Ending

-- document 01's number for each ending
abbrev pub ending_number : Ending → ℕ
ending_number Looked = 0
ending_number BadPosition = 40
ending_number BadTable = 60

-- what a call answers: how it ended; its entries, position and count, and whether it is finished
pub record Answer : Type 0 where
  pub ending : Ending
  pub page : Page Finding Code

-- its number
abbrev pub audit_number : Answer → ℕ
audit_number a = ending_number a.ending

-- a refusal: no entries, count 0, the position as it came, not finished
abbrev pub refused : Ending → Code → Answer
refused e pos = record { ending = e; page = stopped_at pos false }

abbrev pub looked : Page Finding (List ℕ) → Answer
looked a = record { ending = Looked; page = map_position code_of a }

-- a position: the beginning, or a complete code of 1 to 4 bytes with zeros in the unused bits
unfoldable pub is_position : Rows → Code → Bool
is_position step pos =
    if eqb pos.len 0 then eqb pos.bits 0 else
    padded pos.len pos.bits and is_code step 0 (bytes_of pos)

-- a call on a table: 40 for what is no position
unfoldable pub audit_on : Table → Bool → Code → ℕ → ℕ → Answer
audit_on t fallback pos allowance space =
    if is_position (steps_of t) pos
    then looked (page_from (pageable_codes t fallback) allowance space (bytes_of pos))
    else refused BadPosition pos

-- a call on record and lent memory, whatever they are: 60 where they are not valid, before 40
unfoldable pub audit_tested : Limits → Record → Slices → Bool → Code → ℕ → ℕ → Answer
audit_tested lim rec m fallback pos allowance space =
    if valid lim rec m then audit_on (table_in rec m) fallback pos allowance space else refused BadTable pos

-- 2^32 and 2^40: the units of the length and of the cause in an entry's number
abbrev pub entry_length_unit : ℕ
entry_length_unit = 4294967296

abbrev pub cause_unit : ℕ
cause_unit = 1099511627776

-- an entry as a number of 64 bits: the code's bits, 2^32 * its length, 2^40 * its cause
unfoldable pub entry_number : Finding → ℕ
entry_number f = packed f.code + entry_length_unit * length f.code + cause_unit * f.cause

-- a number of 64 bits taken apart
unfoldable pub entry_in : ℕ → AuditEntry
entry_in n =
    record { code = record { bits = n % entry_length_unit; len = n / entry_length_unit % 256 }; cause = n / cause_unit }

-- a page as the function hands it back
abbrev pub page_handed : Page Finding Code → Audited
page_handed p =
    record {
      written = length p.entries;
      position = p.position;
      finished = p.finished;
      count = p.count;
    }

-- an answer as the function hands it back: a page, or why the call is refused
abbrev pub handed_as : Ending → Audited → Result Audited AuditRefusal
handed_as Looked d = Ok d
handed_as BadPosition d = Err refusal.BadPosition
handed_as BadTable d = Err refusal.BadTable

abbrev pub audited_of : Answer → Result Audited AuditRefusal
audited_of a = handed_as a.ending (page_handed a.page)

-- how the call ended, by what it handed back
abbrev pub ending_refused : AuditRefusal → Ending
ending_refused refusal.BadPosition = BadPosition
ending_refused refusal.BadTable = BadTable

abbrev pub ending_of : Result Audited AuditRefusal → Ending
ending_of (Ok d) = Looked
ending_of (Err e) = ending_refused e

-- why a call that ended so is refused, if it is; and back
abbrev pub refusal_by : Ending → Optional AuditRefusal
refusal_by Looked = None
refusal_by BadPosition = Some refusal.BadPosition
refusal_by BadTable = Some refusal.BadTable

abbrev pub ending_by : Optional AuditRefusal → Ending
ending_by None = Looked
ending_by (Some e) = ending_refused e

-- what a call at a position hands on: of a refusal no entries, count 0, the position as it came, not finished
abbrev pub handed_on : Code → Result Audited AuditRefusal → Audited
handed_on pos r = result_unwrap_or r (record { written = 0; position = pos; finished = false; count = 0 })

-- the lent space afterwards: what is not used keeps its values
abbrev pub space_after : Answer → List ℕ → List ℕ
space_after a old = map entry_number a.page.entries ++ drop (length a.page.entries) old
