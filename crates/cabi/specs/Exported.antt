-- What the functions exported to C answer, and what they leave in the lent slices, by document 01's own functions: the
-- record as seven numbers, settings and the scheme as numbers, each answer as a number and a slice of results. 70 is
-- the number for a slice that is too short, 71 for a number that is no scheme.
use Rattle.utf.specs.declared.utf8.Stop.{Stop}
use Rattle.std.specs.Prelude.{if◌then◌else◌, ℕ, Bool, not, List, [], ◌∷◌, eqb, ltb, leb, length, get_or}
use Rattle.std.specs.Prelude.{Option, Some, None}
use Rattle.lists.specs.Pick.{◌and◌, ◌or◌}
use Rattle.lists.specs.Place.{placed}
use Rattle.utf.specs.Utf8.{stop_number}
use Rattle.utf.specs.declared.utf8.Stop.TheVariants as stopped
use Rattle.utf.specs.declared.scheme.Scheme.{Scheme}
use Rattle.utf.specs.declared.scheme.Scheme.TheVariants as scheme
use Rattle.table.specs.Limits.{limits}
use Rattle.table.specs.Slices.{Slices}
use Rattle.table.specs.Valid.{valid}
use Rattle.table.specs.declared.valid.Record.{Record}
use Rattle.table.specs.Numbers.{Loaded}
use Rattle.table.specs.Load.{line_refused}
use Rattle.table.specs.declared.states.Code.{Code}
use Rattle.convert.specs.Run.{Run, put_bytes, put_out, end_number, run_length}
use Rattle.convert.specs.Convert.{to_tested, from_tested}
use Rattle.convert.specs.Pieces.{state_at, place_at, PieceAnswer, piece_tested}
use Rattle.convert.specs.Pieces.{close_tested, piece_number, piece_length}
use Rattle.convert.specs.loops.Carried.{is_refused}
use Rattle.convert.specs.declared.Settings.{Settings}
use Rattle.convert.specs.declared.pieces.Way.{Way}
use Rattle.convert.specs.declared.pieces.Kept.{Kept}
use Rattle.convert.specs.declared.pieces.PieceEnd.{PieceEnd}
use Rattle.audit.specs.Audit.{audit_tested, Answer as AuditAnswer}
use Rattle.audit.specs.declared.Audited.{Audited}

-- the record that seven numbers stand for
abbrev pub record_in : List ℕ → Record
record_in ns =
    record {
      rows = get_or ns 0 0;
      mappings = get_or ns 1 0;
      min = get_or ns 2 0;
      max = get_or ns 3 0;
      subchar = record { bits = get_or ns 4 0; len = get_or ns 5 0 };
      subchar1 = get_or ns 6 0;
    }

-- a setting: 0 is off, anything else on
abbrev pub is_on : ℕ → Bool
is_on n = not (eqb n 0)

-- the settings that three numbers stand for
abbrev pub settings_in : ℕ → ℕ → ℕ → Settings
settings_in fallback substitute skip =
    record { fallback = is_on fallback; substitute = is_on substitute; skip = is_on skip }

-- the first where the slice has fewer than n numbers, else the second
unfoldable pub if_fewer : {A : Type 0} → ℕ → List ℕ → A → A → A
if_fewer n slice short done = if ltb (length slice) n then short else done

-- the first where the record has fewer than seven numbers or the result slice fewer than n, else the second
unfoldable pub if_short : {A : Type 0} → ℕ → List ℕ → List ℕ → A → A → A
if_short n rec result short done = if_fewer 7 rec short (if_fewer n result short done)

-- the result slice with these numbers at its front
abbrev pub with_numbers : List ℕ → List ℕ → List ℕ
with_numbers ns old = placed old 0 ns

-- the seven numbers of a record, on the way out; `record_in` reads them on the way in
abbrev pub record_numbers : Record → List ℕ
record_numbers r =
    r.rows ∷ r.mappings ∷ r.min ∷ r.max ∷ r.subchar.bits ∷ r.subchar.len ∷ r.subchar1 ∷ []

-- what loading hands back beside its number and the record: the line
abbrev pub loaded_numbers : Loaded → List ℕ
loaded_numbers l = line_refused l ∷ []

-- oboepond_check: 0 where record and memory pass the test behind 60
unfoldable pub check_number : List ℕ → Slices → ℕ
check_number rec m =
    if_fewer 7 rec 70 (if valid limits (record_in rec) m then 0 else 60)

-- ## The conversions

-- the scheme that a number stands for
unfoldable pub scheme_in : ℕ → Option Scheme
scheme_in n =
    if eqb n 0 then Some scheme.Utf8 else
    if eqb n 1 then Some scheme.Utf32Be else
    if eqb n 2 then Some scheme.Utf32Le else
    if eqb n 3 then Some scheme.Utf32 else
    None

-- what a conversion hands back beside its number: bytes read, bytes written, the length of the illegal sequence
abbrev pub run_numbers : Run → List ℕ
run_numbers r = r.read ∷ length r.bytes ∷ run_length r ∷ []

-- its number, and the output and the result slice afterwards
pub record Answered : Type 0 where
  pub number : ℕ
  pub output : List ℕ
  pub result : List ℕ

-- nothing is written
abbrev pub unanswered : ℕ → List ℕ → List ℕ → Answered
unanswered n output result = record { number = n; output = output; result = result }

abbrev pub answered_by : Run → List ℕ → List ℕ → Answered
answered_by run output result =
    record { number = end_number run.end; output = put_out run output; result = with_numbers (run_numbers run) result }

abbrev pub in_scheme : Option Scheme → (Scheme → Run) → List ℕ → List ℕ → Answered
in_scheme None run output result = unanswered 71 output result
in_scheme (Some e) run output result = answered_by (run e) output result

-- either conversion, by record, scheme, and the output and the result slice before: 70, then 71, then the run
unfoldable pub answered : List ℕ → ℕ → (Scheme → Run) → List ℕ → List ℕ → Answered
answered rec n run output result =
    if_short 3 rec result (unanswered 70 output result) (in_scheme (scheme_in n) run output result)

-- oboepond_to_unicode's run, with space for `room` bytes
abbrev pub to_exported : List ℕ → Slices → ℕ → ℕ → List ℕ → ℕ → Scheme → Run
to_exported rec m substitute skip input room e =
    to_tested e limits (record_in rec) m (settings_in 0 substitute skip) input room

-- oboepond_from_unicode's run
abbrev pub from_exported : List ℕ → Slices → ℕ → ℕ → ℕ → List ℕ → ℕ → Scheme → Run
from_exported rec m fallback substitute skip input room e =
    from_tested e limits (record_in rec) m (settings_in fallback substitute skip) input room

-- ## The audit

-- what an audit call hands back beside its number: entries written, the position's bits and length, 1 where finished,
-- count
abbrev pub audited_numbers : Audited → List ℕ
audited_numbers a =
    a.written ∷ a.position.bits ∷ a.position.len ∷ (if a.finished then 1 else 0) ∷ a.count ∷ []

abbrev pub position_at : ℕ → ℕ → Code
position_at bits len = record { bits = bits; len = len }

-- oboepond_audit's call, with space for `space` entries
abbrev pub audit_exported : List ℕ → Slices → ℕ → ℕ → ℕ → ℕ → ℕ → AuditAnswer
audit_exported rec m fallback bits len allowance space =
    audit_tested limits (record_in rec) m (is_on fallback) (position_at bits len) allowance space

-- ## Pieces

-- the kept state as five numbers: bits and count of its bytes, the mark (0 ahead, 1 and 2 behind, big-endian and
-- little-endian), the answer that stands (0 for none) and the length beside a 52. Others stand for a state that no call
-- hands back: four bytes
abbrev pub no_kept : Kept
no_kept = record { bytes = record { bits = 0; len = 4 }; mark = None; standing = None }

abbrev pub stands_alone : ℕ → Bool
stands_alone number = eqb number 0 or eqb number 51 or eqb number 53

abbrev pub are_kept : ℕ → ℕ → ℕ → Bool
are_kept mark number length = leb mark 2 and (eqb number 52 or eqb length 0 and stands_alone number)

abbrev pub standing_in : ℕ → ℕ → Option Stop
standing_in number length =
    if eqb number 0 then None else
    if eqb number 51 then Some stopped.CutShort else
    if eqb number 52 then Some (stopped.Illegal length) else
    Some stopped.Unassigned

unfoldable pub kept_in : List ℕ → Kept
kept_in ns =
    if are_kept (get_or ns 2 0) (get_or ns 3 0) (get_or ns 4 0) then
    record {
      bytes = record { bits = get_or ns 0 0; len = get_or ns 1 0 };
      mark = place_at (get_or ns 2 0);
      standing = standing_in (get_or ns 3 0) (get_or ns 4 0);
    }
    else no_kept

abbrev pub standing_number : Option Stop → ℕ
standing_number None = 0
standing_number (Some w) = stop_number w

abbrev pub standing_length : Option Stop → ℕ
standing_length None = 0
standing_length (Some stopped.CutShort) = 0
standing_length (Some (stopped.Illegal n)) = n
standing_length (Some stopped.Unassigned) = 0

abbrev pub kept_numbers : Kept → List ℕ
kept_numbers k =
    k.bytes.bits ∷ k.bytes.len ∷ state_at k.mark
    ∷ standing_number k.standing ∷ standing_length k.standing ∷ []

-- a call's number, and the kept state, the output and the result slice afterwards; a refusal leaves the kept state
pub record PieceAnswered : Type 0 where
  pub number : ℕ
  pub kept : List ℕ
  pub output : List ℕ
  pub result : List ℕ

abbrev pub kept_after : PieceEnd → Kept → List ℕ → List ℕ
kept_after end k old = if is_refused end then old else with_numbers (kept_numbers k) old

abbrev pub piece_numbers : PieceAnswer → List ℕ
piece_numbers a = a.read ∷ length a.bytes ∷ piece_length a.end ∷ []

abbrev pub piece_unanswered : ℕ → List ℕ → List ℕ → List ℕ → PieceAnswered
piece_unanswered n kept output result = record { number = n; kept = kept; output = output; result = result }

abbrev pub piece_answered_by : PieceAnswer → List ℕ → List ℕ → List ℕ → PieceAnswered
piece_answered_by a kept output result =
    record {
      number = piece_number a.end;
      kept = kept_after a.end a.kept kept;
      output = put_bytes a.bytes output;
      result = with_numbers (piece_numbers a) result;
    }

abbrev pub piece_in_scheme : Option Scheme → (Scheme → PieceAnswer) → List ℕ → List ℕ → List ℕ → PieceAnswered
piece_in_scheme None run kept output result = piece_unanswered 71 kept output result
piece_in_scheme (Some e) run kept output result = piece_answered_by (run e) kept output result

-- any of the four calls: 70, then 71, then the answer
unfoldable pub piece_answered :
    List ℕ → ℕ → (Scheme → PieceAnswer) → List ℕ → List ℕ → List ℕ → PieceAnswered
piece_answered rec n run kept output result =
    let short = piece_unanswered 70 kept output result in
    if_fewer 5 kept short (if_short 3 rec result short (piece_in_scheme (scheme_in n) run kept output result))

-- a call on a piece, and a close, by a way and settings
abbrev pub piece_exported : Way → List ℕ → Slices → List ℕ → Settings → List ℕ → ℕ → Scheme → PieceAnswer
piece_exported way rec m kept settings input room e =
    piece_tested way e limits (record_in rec) m settings (kept_in kept) input room

abbrev pub close_exported : Way → List ℕ → Slices → List ℕ → Settings → ℕ → Scheme → PieceAnswer
close_exported way rec m kept settings room e =
    close_tested way e limits (record_in rec) m settings (kept_in kept) room
