-- The whole output: what the program's calls put, joined, is what document 01 has it write.
use Rattle.std.proofs.Common.{◌≡◌, ℕ, ◌+◌, ◌-◌, ◌*◌, ◌<◌, ◌≤◌, false, leb, List, [], ◌∷◌, ◌++◌, map, length, take, sym, refl, ap, ◌∙◌, append-nil, arith, ne_eqb, le-leb, leb-false}
use mathlib.Core.Option.{Option, none, some}
use mathlib.Core.List.{flatten}
use Rattle.lists.specs.Order.{All}
use Rattle.lists.proofs.Cases.{pick-case, pick_yes, pick_no}
use Rattle.utf.specs.declared.scheme.Scheme.TheVariants.{Utf8}
use Rattle.table.specs.Limits.{limits}
use Rattle.table.specs.Meaning.{Table}
use Rattle.table.specs.Slices.{Slices, Lent}
use Rattle.table.specs.Load.{Outcome, accepted, refused, Given, read, load_of, loaded_by, given, left_in, record_handed, refusal_in}
use Rattle.table.proofs.GivenText.{given-lent}
use Rattle.table.proofs.Counts.{record-counts}
use Rattle.convert.specs.Run.{Run, end_number}
use Rattle.convert.specs.Step.{substituting}
use Rattle.convert.specs.Convert.{to_run}
use Rattle.convert.proofs.SchemeText.{to-more-room, room-enough}
use Rattle.audit.specs.Demand.{beginning}
use Rattle.frames.specs.Lines.{ok_line, answer_line, closing_line, is_dash, is_hex, parsed}
use Rattle.frames.specs.Stream.{InputLine, whole, too_long, input_lines, cut}
use Rattle.frames.specs.Report.{table_line, frame_line, line_report, lines_report}
use Rattle.frames.specs.loops.Inputs.{Piece, all_text, text_of, last_listed}
use Rattle.frames.specs.loops.Inner.{Ample}
use Rattle.frames.specs.Pages.{codes_left, nothing_yet}
use Rattle.frames.specs.Output.{to_utf8, frames_output, audit_output, output_for, output_of, program_output}
use Rattle.frames.specs.loops.Claims.{only_accepted, pages_put, all_put, Through, WholeOutput}
use Rattle.frames.proofs.Frame.{is_hex⁻}
use Rattle.frames.proofs.RoundTrip.{parsed-short}
use Rattle.frames.proofs.OfText.{loaded, read-by-text}
use Rattle.frames.proofs.WholeList.{whole-list}
use Rattle.frames.proofs.EnoughPages.{enough-pages}
use Rattle.frames.proofs.WholeInput.{program-reads}

-- A FRAME'S LINE. A line of more than 8,192 bytes is no frame
parsed-long : (l : List ℕ) → 8192 < length l → parsed l ≡ none
unfolding parsed is_dash
parsed-long l h =
    pick_no (is_dash l) (some []) _ (pick_no _ _ _ (ne_eqb (length l) 1 (λ e. omega arith)))
    ∙ pick-case (λ (o : Option (List ℕ)). o ≡ none) (is_hex l) _ none (λ t. absurd (let m = is_hex⁻ l t in omega arith)) (λ t. refl)

-- so memory for that many holds each line that matters
report-cut : (convert : List ℕ → Run) (cap : ℕ) (l : List ℕ) → 8192 ≤ cap → line_report convert (cut cap l) ≡ frame_line convert (parsed l)
unfolding line_report
report-cut convert cap l h =
    pick-case (λ (x : InputLine). line_report convert x ≡ frame_line convert (parsed l)) (leb (length l) cap) (whole l) too_long
    (λ t. refl)
    (λ t. sym (ap (frame_line convert) (parsed-long l (let m = leb-false (length l) cap t in omega arith))))

-- space for the longest frame is as good as space for this one
module _ (t : Table) where
  abbrev in_program : List ℕ → Run
  in_program s = to_run Utf8 t (substituting false) s 16384

  converts-same : (s : List ℕ) → length s ≤ 4096 → in_program s ≡ to_utf8 t s
  converts-same s h =
      let e : 4 * length s + (16384 - 4 * length s) ≡ 16384 = omega arith in
      ap (to_run Utf8 t (substituting false) s) (sym e)
      ∙ to-more-room Utf8 t (substituting false) s (4 * length s) (16384 - 4 * length s) (room-enough Utf8 t (substituting false) s (4 * length s) (omega arith))

  frame_same : (o : Option (List ℕ)) → ((s : List ℕ) → o ≡ some s → length s ≤ 4096) → frame_line in_program o ≡ frame_line (to_utf8 t) o
  frame_same none short = refl
  frame_same (some s) short = ap (λ (r : Run). answer_line (end_number r.end) r.read r.bytes) (converts-same s (short s refl))

  -- the lines of frames
  frames-same : (cap : ℕ) → 8192 ≤ cap → (ls : List (List ℕ))
      → lines_report (line_report in_program) (map (cut cap) ls) ≡ flatten (map (λ line. frame_line (to_utf8 t) (parsed line)) ls)
  unfolding lines_report flatten
  frames-same cap h [] = refl
  frames-same cap h (l ∷ ls) =
      (λ i. (report-cut in_program cap l h ∙ frame_same (parsed l) (parsed-short l)) i ++ frames-same cap h ls i)

module _ (text : List ℕ) (old : Slices) (line : List ℕ) (pieces : List Piece) (rooms : List ℕ) where
  abbrev input : List ℕ
  input = flatten (map (λ (p : Piece). p.bytes) pieces)

  -- what the calls put, and that they came to their end, by what the load gave
  abbrev put : Given → List ℕ
  put g = all_put (loaded_by g) (left_in limits g old) line pieces rooms

  abbrev Ends : Given → Type 0
  Ends g = Through (loaded_by g) (left_in limits g old) line pieces rooms

  -- an accepted text, part by part
  module _ (t : Table) (e : given limits text old ≡ read (accepted t)) where
    table_is : table_line (loaded_by (given limits text old)) ≡ ok_line (length t.lines)
    unfolding table_line
    table_is = ap (λ (g : Given). table_line (loaded_by g)) e ∙ ap ok_line (record-counts t)

    frames-are : Ends (given limits text old) → all_text (line_report (loaded text old t e)) line pieces ≡ frames_output t input
    unfolding frames_output
    frames-are x = read-by-text text old t e line pieces x.read ∙ frames-same t (length line) x.long (input_lines input)

    audit-is : Ends (given limits text old)
        → let pages = pages_put (loaded_by (given limits text old)) (left_in limits (given limits text old) old) rooms in
        let done = (last_listed nothing_yet pages).reached in
        text_of pages ++ closing_line done.looked done.listed ≡ audit_output t
    unfolding audit_output
    audit-is x = let w = whole-list text old t e rooms x.listed in λ i. w.text i ++ closing_line (w.looked i) (w.listed i)

    accepted-put : Ends (given limits text old) → put (given limits text old) ≡ output_for (accepted t) input
    accepted-put x = λ i. table_is i ++ only_accepted (refusal_in (loaded_by (e i))) (frames-are x i ++ audit-is x i)

  by-outcome : (o : Outcome) → given limits text old ≡ read o → (refusal_in (loaded_by (given limits text old)) ≡ none → Ends (given limits text old))
      → put (given limits text old) ≡ output_for o input
  unfolding table_line
  by-outcome (accepted t) e x = accepted-put t e (x (ap (λ (g : Given). refusal_in (loaded_by g)) e))
  by-outcome (refused why k) e x = ap put e ∙ append-nil (output_for (refused why k) input)

-- THE WHOLE OUTPUT
pub whole-output : WholeOutput
unfolding output_of
whole-output text old line pieces rooms h r x = by-outcome text old line pieces rooms (load_of limits text) (given-lent limits text old r h) x

-- the program's, where table.ucm is short enough
pub program-text : (text input : List ℕ) → length text ≤ 32768 → program_output (some text) input ≡ output_of text input
unfolding program_output
program-text text input h = pick_yes (leb (length text) 32768) _ _ (le-leb (length text) 32768 h)

-- THE PROGRAM'S OUTPUT, with nothing left to suppose: as many calls of `report_frames` as bytes, each with space for the widest line, and more pages than
-- complete codes, each with room for a finding, of which the first ones, up to one that says that there is no more, are enough
pub program-output : (text : List ℕ) (old : Slices) (line : List ℕ) (pieces : List Piece) (rooms : List ℕ)
    → length text ≤ 32768 → Lent limits old → 8192 ≤ length line → All (Ample 32777) pieces → All (λ (room : ℕ). 11 ≤ room) rooms
    → let l = loaded_by (given limits text old) in
    let m = left_in limits (given limits text old) old in
    codes_left (record_handed l) m beginning < length rooms
    → (pages : ℕ) × (all_put l m line pieces (take pages rooms) ≡ program_output (some text) (flatten (map (λ (p : Piece). p.bytes) pieces)))
program-output text old line pieces rooms h r long a w few =
    let l = loaded_by (given limits text old) in
    let m = left_in limits (given limits text old) old in
    let e = enough-pages (record_handed l) m rooms nothing_yet nothing_yet.reached w few in
    let reads = program-reads (record_handed l) m line pieces a in
    let put = whole-output text old line pieces (take e.pages rooms) (omega arith) r (λ x. record { long = long; read = reads; listed = e.last }) in
    (e.pages, put ∙ sym (program-text text (flatten (map (λ (p : Piece). p.bytes) pieces)) h))
