-- What the program writes of the table and of frames (document 01: `A frame's line is number, bytes read, output`): a
-- line for each frame, whatever pieces the input comes in.
-- Contents: the table's line; a frame's line; one call on a piece of input (`reporting_of`).
-- Cases: proofs/Cases.antt
use Rattle.std.specs.Prelude.{if◌then◌else◌, ℕ, zero, suc, ◌+◌, ◌-◌, false, List}
use Rattle.std.specs.Prelude.{[], ◌∷◌, ◌++◌, length, drop, ◌==◌, nat_le, Ok, Err}
use Rattle.std.proofs.Math.Option.{Option, none, some}
use Rattle.utf.specs.declared.scheme.Scheme.TheVariants.{Utf8}
use Rattle.table.specs.Limits.{limits}
use Rattle.table.specs.Slices.{Slices}
use Rattle.table.specs.Numbers.{Loaded, refusal_number}
use Rattle.table.specs.declared.valid.Record.{Record}
use Rattle.convert.specs.Run.{Run, end_number}
use Rattle.convert.specs.Step.{substituting}
use Rattle.convert.specs.Convert.{to_tested}
use Rattle.frames.specs.Lines.{fixed_line, bad_frame, ok_line, refused_line, answer_line, parsed}
use Rattle.frames.specs.Stream.{InputLine, whole, too_long, PieceStep, ended, unended, piece_step, kept_in}
use Rattle.frames.specs.Stream.{partial_of}
use Rattle.frames.specs.declared.report.Progress.{Progress}

-- ## The table's line

-- accepted, with the count of mappings; or refused, with number and line
unfoldable pub table_line : Loaded → List ℕ
table_line (Ok rec) = ok_line rec.mappings
table_line (Err e) = refused_line (refusal_number e.why) e.line

-- ## A frame

-- its conversion: substitute on, space for four bytes to each byte of the longest frame
unfoldable pub convert_in : Record → Slices → List ℕ → Run
convert_in rec m s = to_tested Utf8 limits rec m (substituting false) s 16384

-- the line of a frame, by its bytes: number, bytes read, output; or BAD FRAME
abbrev pub frame_line : (List ℕ → Run) → Option (List ℕ) → List ℕ
frame_line convert none = fixed_line bad_frame
frame_line convert (some s) = let r = convert s in answer_line (end_number r.end) r.read r.bytes

-- what is written for a line of the input
unfoldable pub line_report : (List ℕ → Run) → InputLine → List ℕ
line_report convert (whole l) = frame_line convert (parsed l)
line_report convert too_long = fixed_line bad_frame

-- what is written for lines, whatever is written for one
unfoldable pub lines_report : (InputLine → List ℕ) → List InputLine → List ℕ
lines_report write [] = []
lines_report write (l ∷ ls) = write l ++ lines_report write ls

-- how far a call came through a piece of input: bytes taken, what is held of the next line, the memory that it is held
-- in, what was put
pub record Reporting : Type 0 where
  pub taken : ℕ
  pub held : InputLine
  pub memory : List ℕ
  pub text : List ℕ

abbrev pub stopped_in : ℕ → InputLine → List ℕ → Reporting
stopped_in n h memory = record { taken = n; held = h; memory = memory; text = [] }

abbrev pub reporting_after : ℕ → List ℕ → Reporting → Reporting
reporting_after n text r = record { taken = n + r.taken; held = r.held; memory = r.memory; text = text ++ r.text }

-- one step: the piece ends, or a line does; if its report does not fit, the call stops before its LF and keeps the line
abbrev pub on_line : (InputLine → List ℕ) → List ℕ → List ℕ → ℕ → PieceStep → (List ℕ → ℕ → ℕ → Reporting) → Reporting
on_line write memory s room (unended l) go = stopped_in (length s) l (kept_in memory l)
on_line write memory s room (ended n l) go =
    if nat_le (length (write l)) room
    then reporting_after n (write l) (go (kept_in memory l) n (room - length (write l)))
    else stopped_in (n - 1) l (kept_in memory l)

-- a call on a piece behind what is held, with room for some bytes; each line takes a byte, so the piece's length is
-- enough steps
unfoldable pub reporting_from : (InputLine → List ℕ) → ℕ → ℕ → InputLine → List ℕ → List ℕ → ℕ → Reporting
reporting_from write cap zero h memory s room = stopped_in 0 h memory
reporting_from write cap (suc steps) h memory s room =
    if length s == 0 then stopped_in 0 h memory else
    on_line write memory s room (piece_step cap h s)
    (λ memory' n room'. reporting_from write cap steps (whole []) memory' (drop n s) room')

abbrev pub reporting_of : (InputLine → List ℕ) → List ℕ → InputLine → List ℕ → ℕ → Reporting
reporting_of write memory h s room = reporting_from write (length memory) (length s) h memory s room

-- the answer for a call that began at a place of a piece
abbrev pub progress_of : ℕ → Reporting → Progress
progress_of from r = record { at = from + r.taken; held = partial_of r.held; put = length r.text }
