-- What the program's calls put together, and the claim that it is the whole output (Output.antt).
use Rattle.std.specs.Prelude.{◌≡◌, ℕ, ◌≤◌, false, List, [], ◌++◌, map, length}
use mathlib.Core.List.{flatten}
use Rattle.std.proofs.Math.Option.{Option, none, some}
use Rattle.table.specs.declared.load.Refusal.{Refusal}
use Rattle.table.specs.Limits.{limits}
use Rattle.table.specs.Slices.{Slices, Lent}
use Rattle.table.specs.Numbers.{Loaded}
use Rattle.table.specs.Load.{loaded_by, given, left_in, record_handed, refusal_in}
use Rattle.frames.specs.Lines.{closing_line, frame_digits}
use Rattle.frames.specs.Stream.{InputLine, whole}
use Rattle.frames.specs.Report.{table_line, convert_in, line_report}
use Rattle.frames.specs.loops.Inputs.{Piece, in_pieces, all_text, Shown, pages_from, text_of, last_listed}
use Rattle.frames.specs.Pages.{nothing_yet}
use Rattle.frames.specs.Output.{output_of}

-- nothing is put after the line of a refused table
abbrev pub only_accepted : Option Refusal → List ℕ → List ℕ
only_accepted none rest = rest
only_accepted (some why) rest = []

-- the program's calls, on what `load` handed back and the slices that it left, each in the words of its function's own
-- contract
module _ (l : Loaded) (m : Slices) where
  -- the line that `report_frames` and `report_last` put for a line of the input
  abbrev pub line_put : InputLine → List ℕ
  line_put = line_report (convert_in (record_handed l) m)

  -- calls of `list_codes`, the first at the beginning
  abbrev pub pages_put : List ℕ → List Shown
  pages_put rooms = pages_from (record_handed l) m nothing_yet.reached rooms

  -- all that is put, in the order of the calls: by `report_table`; where the table is accepted by `report_frames` on
  -- one piece of input after the other, `report_last`, `list_codes` page by page and `report_closing`
  abbrev pub all_put : List ℕ → List Piece → List ℕ → List ℕ
  all_put line pieces rooms =
      let done = (last_listed nothing_yet (pages_put rooms)).reached in
      table_line l
      ++ only_accepted (refusal_in l)
      (all_text line_put line pieces ++ (text_of (pages_put rooms) ++ closing_line done.looked done.listed))

  -- the calls came to their end: each piece is read through, with memory for a line of the longest frame's digits, and
  -- the last page says that there is no more
  pub record Through (line : List ℕ) (pieces : List Piece) (rooms : List ℕ) : Type 0 where
    pub long : frame_digits ≤ length line
    pub read : (in_pieces line_put line (whole []) pieces).unread ≡ []
    pub listed : (last_listed nothing_yet (pages_put rooms)).more ≡ false

-- THE CLAIM: for every text that may be loaded, whatever the lent slices and the memory for a line held, for an input
-- that comes in any pieces, and any space in each call and room of each page with which the calls come to their end
abbrev pub WholeOutput : Type 0
WholeOutput =
    (text : List ℕ) (old : Slices) (line : List ℕ) (pieces : List Piece) (rooms : List ℕ)
    → length text ≤ limits.text
    → Lent limits old
    → let l = loaded_by (given limits text old) in
    let m = left_in limits (given limits text old) old in
    (refusal_in l ≡ none → Through l m line pieces rooms)
    → all_put l m line pieces rooms ≡ output_of text (flatten (map (λ (p : Piece). p.bytes) pieces))
