-- ALL THAT THE PROGRAM WRITES, from the meaning of the table's text and the bytes of standard input: the part of
-- document 01 that begins `The program reads table.ucm`. Every line ends in LF. That the program's calls put just this:
-- `whole-output` in promises/specs/Promises.antt.
-- Cases: proofs/OutputCases.antt
use Rattle.std.specs.Prelude.{if◌then◌else◌, ℕ, ◌*◌, false, List, ◌++◌, map, length, nat_le}
use Rattle.std.proofs.Math.Option.{Option, none, some}
use mathlib.Core.List.{flatten}
use Rattle.lists.specs.Ascii.{ascii}
use Rattle.utf.specs.declared.scheme.Scheme.TheVariants.{Utf8}
use Rattle.table.specs.Limits.{limits}
use Rattle.table.specs.Numbers.{refusal_number}
use Rattle.table.specs.Meaning.{Table}
use Rattle.table.specs.Load.{Outcome, accepted, refused, load_of}
use Rattle.convert.specs.Run.{Run}
use Rattle.convert.specs.Step.{substituting}
use Rattle.convert.specs.Convert.{to_run}
use Rattle.audit.specs.Audit.{complete_codes, plain_list}
use Rattle.frames.specs.Lines.{ok_line, refused_line, closing_line, parsed}
use Rattle.frames.specs.Stream.{input_lines}
use Rattle.frames.specs.Report.{frame_line}
use Rattle.frames.specs.Pages.{finding_lines}

-- a frame to UTF-8 by the text's own rows and lines, substitute setting; four bytes to each byte of the frame are
-- always space enough (`room-enough`)
abbrev pub to_utf8 : Table → List ℕ → Run
to_utf8 t frame = to_run Utf8 t (substituting false) frame (4 * length frame)

-- a line for each line of the input: number, bytes read, output; or `BAD FRAME` where it is malformed or has more than
-- 4,096 bytes
unfoldable pub frames_output : Table → List ℕ → List ℕ
frames_output t input = flatten (map (λ line. frame_line (to_utf8 t) (parsed line)) (input_lines input))

-- the audit, fallback off: a line for each finding of the plain list, code and cause; then how many complete codes
-- there are, and findings
unfoldable pub audit_output : Table → List ℕ
audit_output t =
    finding_lines (plain_list t false) ++ closing_line (length (complete_codes t)) (length (plain_list t false))

-- an accepted text: `TABLE OK` and the count of mappings, the frames, and then the audit; a refused one: `TABLE
-- REFUSED`, number and line, alone
abbrev pub output_for : Outcome → List ℕ → List ℕ
output_for (accepted t) input = ok_line (length t.lines) ++ (frames_output t input ++ audit_output t)
output_for (refused why line) input = refused_line (refusal_number why) line

-- THE WHOLE OUTPUT, for a table's text and an input
unfoldable pub output_of : List ℕ → List ℕ → List ℕ
output_of text input = output_for (load_of limits text) input

-- the same of the program: table.ucm may be unreadable, or have more than 32,768 bytes
unfoldable pub program_output : Option (List ℕ) → List ℕ → List ℕ
program_output none input = ascii "NO TABLE\n"
program_output (some text) input =
    if nat_le (length text) 32768 then output_of text input else ascii "TABLE TOO LONG\n"
