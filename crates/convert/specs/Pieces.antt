-- A conversion in pieces (document 02, request 4): what is kept between calls, one call, the close.
-- Contents: whatever the step: one call on a piece (`piece_on`); in a scheme: the state (`step_in`), the mark, a call
-- and the close (`piece_in`, `close_in`); what 42 refuses (`kept_fits`); on any memory (`piece_tested`,
-- `close_tested`).
-- Cases: proofs/PieceCases.antt
use Rattle.std.specs.Prelude.{if◌then◌else◌, ℕ, zero, suc, ◌-◌, List, [], ◌∷◌, ◌++◌}
use Rattle.std.specs.Prelude.{Option as Optional, Some, None}
use Rattle.std.specs.Prelude.{Bool, true, false, leb, ltb, eqb, length, drop}
use Rattle.std.proofs.Math.Option.{Option, none, some}
use Rattle.lists.specs.Pick.{◌and◌, ◌or◌}
use Rattle.lists.specs.Between.{between}
use Rattle.utf.specs.Utf32.{mark_at}
use Rattle.utf.specs.Scheme.{utf32, side_of}
use Rattle.utf.specs.declared.utf8.Stop.{Stop}
use Rattle.utf.specs.declared.utf8.Stop.TheVariants as stopped
use Rattle.utf.specs.declared.utf8.Sequence.{Sequence}
use Rattle.utf.specs.declared.utf8.Sequence.TheVariants as sequence
use Rattle.utf.specs.declared.utf32.ByteOrder.{ByteOrder}
use Rattle.utf.specs.declared.utf32.ByteOrder.TheVariants.{Big, Little}
use Rattle.utf.specs.declared.scheme.Scheme.{Scheme}
use Rattle.utf.specs.declared.scheme.Scheme.TheVariants as scheme
use Rattle.table.specs.Limits.{Limits}
use Rattle.table.specs.States.{Rows, longest, cut_of}
use Rattle.table.specs.Codes.{code_of, bytes_of}
use Rattle.table.specs.Meaning.{Table, steps_of}
use Rattle.table.specs.Stored.{padded}
use Rattle.table.specs.Slices.{Slices}
use Rattle.table.specs.Memory.{table_in}
use Rattle.table.specs.Valid.{valid}
use Rattle.table.specs.declared.states.Code.{Code}
use Rattle.table.specs.declared.states.Cut.{Cut}
use Rattle.table.specs.declared.states.Cut.TheVariants as cut
use Rattle.table.specs.declared.states.CutStop.TheVariants as cut_stop
use Rattle.table.specs.declared.valid.Record.{Record}
use Rattle.convert.specs.Run.{Gives, give, stop, SequenceStep, Run, run_of, end_number, end_length}
use Rattle.convert.specs.Step.{to_step, from_step}
use Rattle.convert.specs.Convert.{mark_of}
use Rattle.convert.specs.declared.RunEnd.{RunEnd}
use Rattle.convert.specs.declared.RunEnd.TheVariants.{AllRead, OutputFull, BadTable, Stopped}
use Rattle.convert.specs.declared.Settings.{Settings}
use Rattle.convert.specs.declared.pieces.Way.{Way}
use Rattle.convert.specs.declared.pieces.Way.TheVariants.{ToUnicode, FromUnicode}
use Rattle.convert.specs.declared.pieces.Kept.{Kept}
use Rattle.convert.specs.declared.pieces.PieceEnd.{PieceEnd}
use Rattle.convert.specs.declared.pieces.PieceEnd.TheVariants.{Ended, BadKept}
use Rattle.convert.specs.declared.pieces.Pieced.{Pieced}

-- ## One call, whatever the step

-- what one call carries over to the next: bytes of a sequence that is not through, the step's state, and a final answer
-- that stands
pub record Carry : Type 0 where
  pub bytes : List ℕ
  pub state : ℕ
  pub stands : Option Stop

-- a fresh start
abbrev pub fresh : Carry
fresh = record { bytes = []; state = 0; stands = none }

-- how a call ended, how much of the piece it read, what it wrote, what it carries over
pub record PieceRun : Type 0 where
  pub end : RunEnd
  pub read : ℕ
  pub bytes : List ℕ
  pub carry : Carry

-- nothing read, written or changed
abbrev pub idle : RunEnd → Carry → PieceRun
idle h k = record { end = h; read = 0; bytes = []; carry = k }

abbrev pub is_cut_short : RunEnd → Bool
is_cut_short AllRead = false
is_cut_short OutputFull = false
is_cut_short BadTable = false
is_cut_short (Stopped stopped.CutShort) = true
is_cut_short (Stopped (stopped.Illegal n)) = false
is_cut_short (Stopped stopped.Unassigned) = false

-- the answers that stand: 51, 52, 53
abbrev pub standing : RunEnd → Option Stop
standing AllRead = none
standing OutputFull = none
standing BadTable = none
standing (Stopped w) = some w

-- a run over kept bytes and a piece that ended inside a sequence: all of the piece is read, the sequence's bytes are
-- kept
abbrev pub keeping : List ℕ → List ℕ → Run → PieceRun
keeping old piece r = record {
  end = AllRead;
  read = length piece;
  bytes = r.bytes;
  carry = record { bytes = drop r.read (old ++ piece); state = r.state; stands = none };
}

-- any other: read up to the run's place, or 0 where that lies in the kept bytes, and those from there on stay kept
abbrev pub ended_at : List ℕ → Run → PieceRun
ended_at old r = record {
  end = r.end;
  read = r.read - length old;
  bytes = r.bytes;
  carry = record { bytes = drop r.read old; state = r.state; stands = standing r.end };
}

abbrev pub pieced_by : List ℕ → List ℕ → Run → PieceRun
pieced_by old piece r = if is_cut_short r.end then keeping old piece r else ended_at old r

-- one call on a piece: the run over kept bytes and piece, as one text
unfoldable pub piece_on : SequenceStep → Carry → List ℕ → ℕ → PieceRun
piece_on step k piece room = pieced_by k.bytes piece (run_of step k.state 0 (k.bytes ++ piece) room)

-- an answer that stands is given again
abbrev pub unless : Option Stop → Carry → PieceRun → PieceRun
unless (some w) k r = idle (Stopped w) k
unless none k r = r

-- ## In a scheme

-- the state: 0 where the mark is ahead, 1 and 2 behind it, in big-endian and little-endian order
abbrev pub state_of : ByteOrder → ℕ
state_of Big = 1
state_of Little = 2

abbrev pub state_at : Optional ByteOrder → ℕ
state_at None = 0
state_at (Some order) = state_of order

-- what is given, and then this state
abbrev pub in_state : ℕ → Gives → Gives
in_state st (give bs n next) = give bs n st
in_state st (stop w) = stop w

-- a step from row 0 on, whatever the state, which stays
abbrev pub keep_state : SequenceStep → SequenceStep
keep_state step st s = in_state st (step 0 s)

-- reading plain UTF-32: the first four bytes choose the order; a mark gives nothing; without one it is big-endian
abbrev pub by_mark : Optional ByteOrder → Gives → Gives
by_mark None g = in_state 1 g
by_mark (Some order) g = give [] 4 (state_of order)

abbrev pub plain_step : (ByteOrder → SequenceStep) → SequenceStep
plain_step step zero s = by_mark (mark_at s) (step Big 0 s)
plain_step step (suc zero) s = in_state 1 (step Big 0 s)
plain_step step (suc (suc st)) s = in_state 2 (step Little 0 s)

abbrev pub from_step_in : Scheme → Table → Settings → SequenceStep
from_step_in scheme.Utf8 t settings = keep_state (from_step (side_of scheme.Utf8) t settings)
from_step_in scheme.Utf32Be t settings = keep_state (from_step (side_of scheme.Utf32Be) t settings)
from_step_in scheme.Utf32Le t settings = keep_state (from_step (side_of scheme.Utf32Le) t settings)
from_step_in scheme.Utf32 t settings = plain_step (λ order. from_step (utf32 order) t settings)

-- the step of either conversion
unfoldable pub step_in : Way → Scheme → Table → Settings → SequenceStep
step_in ToUnicode e t settings = keep_state (to_step (side_of e) t settings)
step_in FromUnicode e t settings = from_step_in e t settings

-- what is to be written before all else in a state: the mark, where it is ahead
abbrev pub due_in : Way → Scheme → ℕ → List ℕ
due_in ToUnicode e zero = mark_of e
due_in ToUnicode e (suc st) = []
due_in FromUnicode e st = []

-- the state when it is written
abbrev pub due_state : Way → Scheme → ℕ → ℕ
due_state ToUnicode scheme.Utf8 st = st
due_state ToUnicode scheme.Utf32Be st = st
due_state ToUnicode scheme.Utf32Le st = st
due_state ToUnicode scheme.Utf32 st = 1
due_state FromUnicode e st = st

abbrev pub past_due : Way → Scheme → Carry → Carry
past_due way e k = record { bytes = k.bytes; state = due_state way e k.state; stands = k.stands }

-- a call that wrote these bytes first
abbrev pub led : List ℕ → PieceRun → PieceRun
led bs r = record { end = r.end; read = r.read; bytes = bs ++ r.bytes; carry = r.carry }

-- no answer stands: what is due, or 50 where it does not fit, nothing done; then the piece
unfoldable pub piece_behind : Way → Scheme → Table → Settings → Carry → List ℕ → ℕ → PieceRun
piece_behind way e t settings k piece room =
    let due = due_in way e k.state in
    if leb (length due) room then
    led due (piece_on (step_in way e t settings) (past_due way e k) piece (room - length due))
    else idle OutputFull k

-- one call on a piece
abbrev pub piece_in : Way → Scheme → Table → Settings → Carry → List ℕ → ℕ → PieceRun
piece_in way e t settings k piece room = unless k.stands k (piece_behind way e t settings k piece room)

-- the close: 51 where bytes are kept, which stands; else what is due and a fresh start, or 50, nothing done
abbrev pub close_bytes : List ℕ → Carry → List ℕ → ℕ → PieceRun
close_bytes due k (b ∷ s) room =
    idle (Stopped stopped.CutShort)
    (record { bytes = k.bytes; state = k.state; stands = some stopped.CutShort })
close_bytes due k [] room =
    if leb (length due) room then record { end = AllRead; read = 0; bytes = due; carry = fresh } else idle OutputFull k

unfoldable pub close_in : Way → Scheme → Carry → ℕ → PieceRun
close_in way e k room = unless k.stands k (close_bytes (due_in way e k.state) k k.bytes room)

-- ## What 42 refuses

-- at most three bytes, with zeros in the unused bits
abbrev pub is_held : Code → Bool
is_held c = if eqb c.len 0 then eqb c.bits 0 else leb c.len 3 and padded c.len c.bits

-- the mark stays ahead but in plain UTF-32; written, that is big-endian, and nothing is kept before it
abbrev pub plain_mark_fits : Way → Bool → Optional ByteOrder → Bool
plain_mark_fits ToUnicode untouched None = untouched
plain_mark_fits ToUnicode untouched (Some Big) = true
plain_mark_fits ToUnicode untouched (Some Little) = false
plain_mark_fits FromUnicode untouched p = true

abbrev pub is_ahead : Optional ByteOrder → Bool
is_ahead None = true
is_ahead (Some order) = false

abbrev pub mark_fits : Way → Scheme → Bool → Optional ByteOrder → Bool
mark_fits way scheme.Utf8 untouched p = is_ahead p
mark_fits way scheme.Utf32Be untouched p = is_ahead p
mark_fits way scheme.Utf32Le untouched p = is_ahead p
mark_fits way scheme.Utf32 untouched p = plain_mark_fits way untouched p

-- 51 stands beside kept bytes; 52 with a length that an illegal sequence with n kept bytes can have
abbrev pub length_fits : Way → Scheme → ℕ → ℕ → Bool
length_fits ToUnicode e n m = leb 1 m and leb n m and leb m longest
length_fits FromUnicode e n m = eqb m (side_of e).unit

abbrev pub stands_fit : Way → Scheme → ℕ → Optional Stop → Bool
stands_fit way e n None = true
stands_fit way e n (Some stopped.CutShort) = ltb 0 n
stands_fit way e n (Some (stopped.Illegal m)) = length_fits way e n m
stands_fit way e n (Some stopped.Unassigned) = true

-- bytes that begin a sequence: by the states every one leads on; of a scheme, cut short
abbrev pub is_short : Sequence → Bool
is_short (sequence.Scalar c n) = false
is_short (sequence.Stopped stopped.CutShort) = true
is_short (sequence.Stopped (stopped.Illegal n)) = false
is_short (sequence.Stopped stopped.Unassigned) = false

abbrev pub is_short_cut : Cut → Bool
is_short_cut (cut.Complete n e) = false
is_short_cut (cut.Stopped cut_stop.CutShort) = true
is_short_cut (cut.Stopped (cut_stop.Illegal n)) = false

-- one or two trail bytes
abbrev pub trailing : List ℕ → Bool
trailing [] = false
trailing (a ∷ []) = between 0x80 0xbf a
trailing (a ∷ b ∷ []) = between 0x80 0xbf a and between 0x80 0xbf b
trailing (a ∷ b ∷ c ∷ s) = false

-- those that skipping in UTF-8 may keep
abbrev pub trails_in : Scheme → Bool → List ℕ → Bool
trails_in scheme.Utf8 skip s = skip and trailing s
trails_in scheme.Utf32Be skip s = false
trails_in scheme.Utf32Le skip s = false
trails_in scheme.Utf32 skip s = false

abbrev pub begun : Way → Scheme → Rows → Bool → List ℕ → Bool
begun ToUnicode e rows skip s = is_short_cut (cut_of rows 0 s)
begun FromUnicode e rows skip s = is_short ((side_of e).decode s) or trails_in e skip s

abbrev pub is_nothing : Optional Stop → Bool
is_nothing None = true
is_nothing (Some w) = false

-- what was handed over is a kept state
unfoldable pub kept_fits : Way → Scheme → Rows → Settings → Kept → Bool
kept_fits way e rows settings k =
    if is_held k.bytes then
    mark_fits way e (eqb k.bytes.len 0 and is_nothing k.standing) k.mark
    and stands_fit way e k.bytes.len k.standing
    and begun way e rows settings.skip (bytes_of k.bytes)
    else false

-- ## On any memory

-- kept, as the functions hold it: from it, and into it
abbrev pub stands_in : Optional Stop → Option Stop
stands_in None = none
stands_in (Some w) = some w

abbrev pub stands_as : Option Stop → Optional Stop
stands_as none = None
stands_as (some w) = Some w

abbrev pub place_at : ℕ → Optional ByteOrder
place_at zero = None
place_at (suc zero) = Some Big
place_at (suc (suc st)) = Some Little

abbrev pub carry_in : Kept → Carry
carry_in k = record { bytes = bytes_of k.bytes; state = state_at k.mark; stands = stands_in k.standing }

abbrev pub kept_as : Carry → Kept
kept_as k = record { bytes = code_of k.bytes; mark = place_at k.state; standing = stands_as k.stands }

-- a call's answer, with what it wrote
pub record PieceAnswer : Type 0 where
  pub end : PieceEnd
  pub read : ℕ
  pub bytes : List ℕ
  pub kept : Kept

-- a refusal: nothing read or written, and kept is handed back as it came
abbrev pub refused_piece : PieceEnd → Kept → PieceAnswer
refused_piece h k = record { end = h; read = 0; bytes = []; kept = k }

abbrev pub answered_piece : PieceRun → PieceAnswer
answered_piece r = record { end = Ended r.end; read = r.read; bytes = r.bytes; kept = kept_as r.carry }

-- 60 where record and memory are not valid, then 42
abbrev pub piece_guarded : Way → Scheme → Limits → Record → Slices → Settings → Kept → PieceRun → PieceAnswer
piece_guarded way e lim rec m settings k r =
    if valid lim rec m then
    (if kept_fits way e (steps_of (table_in rec m)) settings k then answered_piece r else refused_piece BadKept k)
    else refused_piece (Ended BadTable) k

unfoldable pub piece_tested : Way → Scheme → Limits → Record → Slices → Settings → Kept → List ℕ → ℕ → PieceAnswer
piece_tested way e lim rec m settings k piece room =
    piece_guarded way e lim rec m settings k (piece_in way e (table_in rec m) settings (carry_in k) piece room)

unfoldable pub close_tested : Way → Scheme → Limits → Record → Slices → Settings → Kept → ℕ → PieceAnswer
close_tested way e lim rec m settings k room =
    piece_guarded way e lim rec m settings k (close_in way e (carry_in k) room)

-- as the functions hand it back, and its numbers
abbrev pub answered_of : PieceAnswer → Pieced
answered_of a = record { end = a.end; read = a.read; written = length a.bytes; kept = a.kept }

abbrev pub pieced_of : PieceRun → Pieced
pieced_of r = answered_of (answered_piece r)

abbrev pub piece_number : PieceEnd → ℕ
piece_number (Ended h) = end_number h
piece_number BadKept = 42

abbrev pub piece_length : PieceEnd → ℕ
piece_length (Ended h) = end_length h
piece_length BadKept = 0
