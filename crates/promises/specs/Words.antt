-- Words of the promises: what a call of `load` refuses for, what a refusal leaves, and what a call answers by a
-- definition.
use Rattle.std.specs.Prelude.{ℕ, ◌<◌, ◌≡◌, ◌⊎◌, Bool, List, ◌++◌, length, take, drop, replicate}
use borrow.Fn.Kinds.{Out}
use Rattle.lists.specs.Order.{All}
use Rattle.lists.specs.Paging.{Page}
use Rattle.utf.specs.declared.scheme.Scheme.{Scheme}
use Rattle.table.specs.Limits.{limits, needed}
use Rattle.table.specs.Text.{lines_of}
use Rattle.table.specs.FirstLine.{FirstHolds, NeverEnds}
use Rattle.table.specs.Lookup.{CodeFound, PointFound}
use Rattle.table.specs.Slices.{Slices, Lent}
use Rattle.table.specs.Meaning.{steps_of}
use Rattle.table.specs.Memory.{table_in}
use Rattle.table.specs.Valid.{valid}
use Rattle.table.specs.declared.states.Code.{Code}
use Rattle.table.specs.declared.valid.Record.{Record}
use Rattle.table.specs.declared.load.Refusal.{Refusal}
use Rattle.table.specs.declared.load.Refusal.TheVariants as refusal
use Rattle.table.specs.Load.{record_handed}
use Rattle.convert.specs.Run.{Run, converted_of, put_bytes, put_out, end_number, run_number, end_length, run_length}
use Rattle.convert.specs.Pieces.{kept_fits, PieceAnswer, answered_of, piece_number, piece_length}
use Rattle.convert.specs.PieceClaims.{PieceCall}
use Rattle.convert.specs.declared.Settings.{Settings}
use Rattle.convert.specs.declared.pieces.Way.{Way}
use Rattle.convert.specs.declared.pieces.PieceEnd.{PieceEnd}
use Rattle.convert.proofs.to_unicode.Kinds as of-to-unicode
use Rattle.audit.specs.Audit.{Answer, ending_number, audit_number, audited_of, ending_of, handed_on}
use Rattle.audit.specs.Audit.{page_handed, space_after}
use Rattle.audit.specs.Demand.{AuditCall}
use Rattle.audit.specs.declared.Audited.{Audited}
use Rattle.promises.specs.Calls.{CodeCall, PointCall}
use Rattle.promises.specs.Calls.{LoadCall, text_of, lent_to, left_after, MayLoad, ConversionCall, record_given}
use Rattle.promises.specs.Calls.{slices_given, output_lent, output_after}
use Rattle.promises.specs.Calls.{PieceFunctionCall, CloseFunctionCall, PieceParts, piece_parts, close_parts}
use Rattle.promises.specs.Calls.{AuditFunctionCall, record_audited, slices_audited, fallback_of, position_of}
use Rattle.promises.specs.Calls.{allowance_of, space_lent, space_afterwards}

-- ## `load`

-- why it refuses, and with which line: memory too small, before text too long, both with line 0; else what the text's
-- lines say
abbrev pub RefusedFor : LoadCall → Refusal → ℕ → Type 0
RefusedFor c x k =
    ((Lent limits (lent_to c) → ⊥) × (x ≡ refusal.MemoryTooSmall) × (k ≡ 0))
    ⊎ ((Lent limits (lent_to c) × (limits.text < length (text_of c)) × (x ≡ refusal.TextTooLong) × (k ≡ 0))
    ⊎ (MayLoad c × (FirstHolds limits (lines_of (text_of c)) x k ⊎ NeverEnds limits (lines_of (text_of c)) x k)))

-- the first n numbers are zeros, and those behind them as before
abbrev pub Zeroed : ℕ → List ℕ → List ℕ → Type 0
Zeroed n old new = new ≡ replicate n 0 ++ drop n old

-- the needed numbers of all four slices
abbrev pub AllZeroed : Slices → Slices → Type 0
AllZeroed old new =
    Zeroed (needed limits) old.states new.states
    × Zeroed limits.mappings old.codes new.codes
    × Zeroed limits.mappings old.infos new.infos
    × Zeroed limits.mappings old.order new.order

-- the numbers past the needed ones are as before
abbrev pub SameBeyond : Slices → Slices → Type 0
SameBeyond old new =
    (drop (needed limits) new.states ≡ drop (needed limits) old.states)
    × (drop limits.mappings new.codes ≡ drop limits.mappings old.codes)
    × (drop limits.mappings new.infos ≡ drop limits.mappings old.infos)
    × (drop limits.mappings new.order ≡ drop limits.mappings old.order)

-- the numbers fit into 32 bits, as those of a slice of u32 do
pub record Words (rec : Record) (m : Slices) : Type 0 where
  pub codes-fit : All (λ x. x < 4294967296) m.codes
  pub subchar-fits : rec.subchar.bits < 4294967296

-- ## Look-up

-- a call of `find_code`: record, lines and the code; one of `find_point`: record, lines and the code point
abbrev pub FindsCode : CodeCall → Type 0
FindsCode c =
    let a = c.args in
    CodeFound a.0 a.1.0.codes.now a.1.0.infos.now a.1.1.0 c.result

abbrev pub FindsPoint : PointCall → Type 0
FindsPoint c =
    let a = c.args in
    PointFound a.0 a.1.0.codes.now a.1.0.infos.now a.1.0.order.now a.1.1.0 c.result

-- ## The conversions

-- a call answers by this run: how it ended, bytes read and written, the number, the length of an illegal sequence; the
-- output slice has the bytes in front and keeps the rest
module _ {Post : Out 3 of-to-unicode.ps of-to-unicode.r} where
  pub record AnswersBy (run : Run) (c : ConversionCall Post) : Type 0 where
    pub result : c.result ≡ converted_of run
    pub output : output_after c ≡ put_out run (output_lent c)
    pub number : end_number c.result.end ≡ run_number run
    pub length : end_length c.result.end ≡ run_length run

  -- a call on the record and the slices that a load handed back and left
  abbrev pub OnLoaded : LoadCall → ConversionCall Post → Type 0
  OnLoaded l c = (record_given c ≡ record_handed l.result) × (slices_given c ≡ left_after l)

-- ## A conversion in pieces

-- a call on a piece, or a close, answers by this definition
pub record AnswersPiece (a : PieceAnswer) (p : PieceParts) : Type 0 where
  pub result : p.result ≡ answered_of a
  pub output : p.after ≡ put_bytes a.bytes p.lent
  pub number : piece_number p.result.end ≡ piece_number a.end
  pub length : piece_length p.result.end ≡ piece_length a.end

-- it ended so, and did nothing: nothing read or written, the kept state handed back as it came, the output as it was
pub record DidNothing (h : PieceEnd) (p : PieceParts) : Type 0 where
  pub result : p.result ≡ record { end = h; read = 0; written = 0; kept = p.came }
  pub output : p.after ≡ p.lent

-- the tests behind 60 and 42, of what it got
abbrev pub memory_valid : PieceParts → Bool
memory_valid p = valid limits p.table p.memory

abbrev pub kept_fitting : PieceParts → Bool
kept_fitting p = kept_fits p.way p.scheme (steps_of (table_in p.table p.memory)) p.settings p.came

-- what it got, handed back and left in its output, as `InPieces` speaks of it
abbrev pub call_with : PieceParts → PieceCall
call_with p =
    record {
      came = p.came;
      piece = p.piece;
      room = length p.lent;
      end = p.result.end;
      read = p.result.read;
      output = take p.result.written p.after;
      kept = p.result.kept;
    }

abbrev pub piece_call_of : PieceFunctionCall → PieceCall
piece_call_of c = call_with (piece_parts c)

abbrev pub close_call_of : CloseFunctionCall → PieceCall
close_call_of c = call_with (close_parts c)

-- a call this way, in this scheme and with these settings, on the record and the slices that a load left
pub record PieceOn (l : LoadCall) (way : Way) (e : Scheme) (settings : Settings) (p : PieceParts) : Type 0 where
  pub on-table : p.table ≡ record_handed l.result
  pub on-memory : p.memory ≡ left_after l
  pub one_way : p.way ≡ way
  pub one-scheme : p.scheme ≡ e
  pub one-setting : p.settings ≡ settings

-- ## The audit

-- a call answers by this definition
pub record AuditsBy (a : Answer) (c : AuditFunctionCall) : Type 0 where
  pub result : c.result ≡ audited_of a
  -- a refusal too: no entries, count 0, the position as it came, not finished
  pub handed : handed_on (position_of c) c.result ≡ page_handed a.page
  pub space : space_afterwards c ≡ space_after a (space_lent c)
  pub number : ending_number (ending_of c.result) ≡ audit_number a

-- the page that it handed on: its entries are the numbers in the space
abbrev pub page_in : Audited → List ℕ → Page ℕ Code
page_in r space =
    record { entries = take r.written space; count = r.count; position = r.position; finished = r.finished }

-- what it got, handed back and left in its space, as demand 3 speaks of it
abbrev pub call_of : AuditFunctionCall → AuditCall ℕ
call_of c =
    record {
      table = record_audited c;
      memory = slices_audited c;
      fallback = fallback_of c;
      ending = ending_of c.result;
      paged =
          record {
            allowance = allowance_of c;
            space = length (space_lent c);
            came = position_of c;
            page = page_in (handed_on (position_of c) c.result) (space_afterwards c);
          };
    }
