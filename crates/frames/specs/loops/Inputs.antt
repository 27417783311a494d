-- Calls of the program one after the other, over the terms of the contracts: on an input that comes in pieces, and page
-- by page.
use Rattle.std.specs.Prelude.{ℕ, List, [], ◌∷◌, ◌++◌, drop}
use Rattle.table.specs.Slices.{Slices}
use Rattle.table.specs.declared.valid.Record.{Record}
use Rattle.frames.specs.Stream.{InputLine, whole}
use Rattle.frames.specs.Stream.{last_line}
use Rattle.frames.specs.declared.pages.ListedSoFar.{ListedSoFar}
use Rattle.frames.specs.declared.pages.Listed.{Listed}
use Rattle.frames.specs.Report.{reporting_of, lines_report}
use Rattle.frames.specs.Pages.{page_in, listed_of, listed_so_far_after, finding_lines}

-- ## A whole input

-- a piece of it, and the calls on that piece, by the room that each has
pub record Piece : Type 0 where
  pub bytes : List ℕ
  pub rooms : List ℕ

-- after calls: all that they put, what is held of the next line, the memory that it is held in, and bytes not taken
pub record AfterCalls : Type 0 where
  pub text : List ℕ
  pub held : InputLine
  pub memory : List ℕ
  pub unread : List ℕ

-- calls on a piece, each on the bytes that the call before did not take
unfoldable pub calls_on : (InputLine → List ℕ) → List ℕ → InputLine → List ℕ → List ℕ → AfterCalls
calls_on write memory h s [] = record { text = []; held = h; memory = memory; unread = s }
calls_on write memory h s (room ∷ rooms) =
    let r = reporting_of write memory h s room in
    let q = calls_on write r.memory r.held (drop r.taken s) rooms in
    record { text = r.text ++ q.text; held = q.held; memory = q.memory; unread = q.unread }

-- calls on one piece after the other
unfoldable pub in_pieces : (InputLine → List ℕ) → List ℕ → InputLine → List Piece → AfterCalls
in_pieces write memory h [] = record { text = []; held = h; memory = memory; unread = [] }
in_pieces write memory h (p ∷ pieces) =
    let r = calls_on write memory h p.bytes p.rooms in
    let q = in_pieces write r.memory r.held pieces in
    record { text = r.text ++ q.text; held = q.held; memory = q.memory; unread = r.unread ++ q.unread }

-- all that is put for an input in these pieces: by the calls, and then for the partial line at the end
abbrev pub all_text : (InputLine → List ℕ) → List ℕ → List Piece → List ℕ
all_text write memory pieces =
    let r = in_pieces write memory (whole []) pieces in
    r.text ++ lines_report write (last_line r.held)

-- ## The list, page by page

-- a call of `list_codes`: what it hands back, and the text that it puts
pub record Shown : Type 0 where
  pub answer : Listed
  pub text : List ℕ

-- calls one after the other, each with a room of its own and from the position that the call before reached
unfoldable pub pages_from : Record → Slices → ListedSoFar → List ℕ → List Shown
pages_from rec m done [] = []
pages_from rec m done (room ∷ rooms) =
    let a = page_in rec m done.position room in
    record { answer = listed_of done a; text = finding_lines a.page.entries }
    ∷ pages_from rec m (listed_so_far_after done a) rooms

-- their texts joined
unfoldable pub text_of : List Shown → List ℕ
text_of [] = []
text_of (p ∷ l) = p.text ++ text_of l

-- what the last of them handed back; `first` where there is none
unfoldable pub last_listed : Listed → List Shown → Listed
last_listed first [] = first
last_listed first (p ∷ l) = last_listed p.answer l
