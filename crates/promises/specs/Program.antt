-- The program's calls: `load`, `report_table`; of an accepted text `report_frames` on one piece of input after the
-- other, `report_last`, `list_codes` page by page and `report_closing`. Each is a call of which the function's own
-- contract holds (Called.antt).
use Rattle.std.specs.Prelude.{ℕ, ◌≤◌, ◌≡◌, Bool, true, false, length, take, Option, Some}
use mathlib.Core.List.{List, [], ◌∷◌, ◌++◌, map, flatten}
use Rattle.std.proofs.Math.Option.{none, some}
use Rattle.table.specs.Numbers.{Loaded}
use Rattle.table.specs.Slices.{Slices}
use Rattle.table.specs.Held.{memory_of}
use Rattle.table.specs.declared.valid.Record.{Record}
use Rattle.table.specs.declared.load.Refusal.{Refusal}
use Rattle.table.specs.Load.{record_handed, refusal_in}
use Rattle.frames.specs.Pages.{nothing_yet}
use Rattle.frames.specs.declared.pages.ListedSoFar.{ListedSoFar}
use Rattle.frames.proofs.report.report_table.Reads as report-table
use Rattle.frames.proofs.report.report_table.Kinds as of-report-table
use Rattle.frames.proofs.report.report_frames.Reads as report-frames
use Rattle.frames.proofs.report.report_frames.Kinds as of-report-frames
use Rattle.frames.proofs.report.report_last.Reads as report-last
use Rattle.frames.proofs.report.report_last.Kinds as of-report-last
use Rattle.frames.proofs.pages.list_codes.Reads as list-codes
use Rattle.frames.proofs.pages.list_codes.Kinds as of-list-codes
use Rattle.frames.proofs.pages.report_closing.Reads as report-closing
use Rattle.frames.proofs.pages.report_closing.Kinds as of-report-closing
use Rattle.promises.specs.Called.{Called}
use Rattle.promises.specs.Calls.{LoadCall, MayLoad, left_after}

-- ## A call of `report_table`

abbrev pub TableCall : Type 1
TableCall = Called 1 of-report-table.ps of-report-table.r report-table.Post

abbrev pub table_loaded : TableCall → Loaded
table_loaded c = c.args.0

abbrev pub table_out : TableCall → List ℕ
table_out c = c.args.1.0.now

-- what it put
abbrev pub table_put : TableCall → List ℕ
table_put c = take c.result c.exit.1.0.now

-- ## A call of `report_frames`

abbrev pub FramesCall : Type 1
FramesCall = Called 4 of-report-frames.ps of-report-frames.r report-frames.Post

abbrev pub frames_record : FramesCall → Record
frames_record c = c.args.0.rec

abbrev pub frames_slices : FramesCall → Slices
frames_slices c = memory_of c.args.0

-- the piece of input, and from where on it is read
abbrev pub piece_given : FramesCall → List ℕ
piece_given c = c.args.1.0.now

abbrev pub from_of : FramesCall → ℕ
from_of c = c.args.1.1.0

-- the memory for a line, and how much of a line it holds, when it is called; the memory when it returns
abbrev pub line_of : FramesCall → List ℕ
line_of c = c.args.1.1.1.0.now

abbrev pub partial_given : FramesCall → Option ℕ
partial_given c = c.args.1.1.1.1.0

abbrev pub line_after : FramesCall → List ℕ
line_after c = c.exit.1.1.1.0.now

abbrev pub frames_out : FramesCall → List ℕ
frames_out c = c.args.1.1.1.1.1.0.now

abbrev pub frames_out_after : FramesCall → List ℕ
frames_out_after c = c.exit.1.1.1.1.1.0.now

-- what it put
abbrev pub put_by : FramesCall → List ℕ
put_by c = take c.result.put (frames_out_after c)

-- calls on a piece, one after the other: each has the same record and memory and gets what the one before handed
-- back, until the piece is read through; `next` is what is asked of the memory for a line and of what it holds at the
-- end
abbrev pub OnPiece : Record → Slices → List ℕ → (List ℕ → Option ℕ → Type 0) → ℕ → List ℕ → Option ℕ → List FramesCall
    → Type 0
OnPiece rec m bytes next from line held [] = (length bytes ≤ from) × next line held
OnPiece rec m bytes next from line held (c ∷ cs) =
    (frames_record c ≡ rec) × (frames_slices c ≡ m) × (piece_given c ≡ bytes) × (from_of c ≡ from)
    × (line_of c ≡ line) × (partial_given c ≡ held)
    × OnPiece rec m bytes next c.result.at (line_after c) c.result.held cs

-- a piece of the input, and the calls on it
pub record PieceCalls : Type 1 where
  pub bytes : List ℕ
  pub calls : List FramesCall

-- one piece after the other
abbrev pub OnPieces : Record → Slices → (List ℕ → Option ℕ → Type 0) → List ℕ → Option ℕ → List PieceCalls → Type 0
OnPieces rec m next line held [] = next line held
OnPieces rec m next line held (p ∷ ps) =
    OnPiece rec m p.bytes (λ line' held'. OnPieces rec m next line' held' ps) 0 line held p.calls

-- what calls put, joined
unfoldable pub put_by_all : List FramesCall → List ℕ
put_by_all [] = []
put_by_all (c ∷ cs) = put_by c ++ put_by_all cs

unfoldable pub frames_put : List PieceCalls → List ℕ
frames_put [] = []
frames_put (p ∷ ps) = put_by_all p.calls ++ frames_put ps

-- ## A call of `report_last`

abbrev pub LastCall : Type 1
LastCall = Called 3 of-report-last.ps of-report-last.r report-last.Post

abbrev pub last_record : LastCall → Record
last_record c = c.args.0.rec

abbrev pub last_slices : LastCall → Slices
last_slices c = memory_of c.args.0

abbrev pub last_line_of : LastCall → List ℕ
last_line_of c = c.args.1.0.now

abbrev pub last_partial : LastCall → Option ℕ
last_partial c = c.args.1.1.0

abbrev pub last_out : LastCall → List ℕ
last_out c = c.args.1.1.1.0.now

abbrev pub last_out_after : LastCall → List ℕ
last_out_after c = c.exit.1.1.1.0.now

-- what it put
abbrev pub last_put : LastCall → List ℕ
last_put c = take c.result (last_out_after c)

-- the length of the widest line of a frame: document 01's longest frame, number, blanks and LF
abbrev pub widest : ℕ
widest = 32777

-- it has space for the widest line, and gets the memory for a line and what it holds as they are at the input's end
abbrev pub AtEnd : Record → Slices → LastCall → List ℕ → Option ℕ → Type 0
AtEnd rec m c line held =
    (last_record c ≡ rec) × (last_slices c ≡ m) × (last_line_of c ≡ line) × (last_partial c ≡ held)
    × (widest ≤ length (last_out c))

-- ## A call of `list_codes`

abbrev pub PageCall : Type 1
PageCall = Called 2 of-list-codes.ps of-list-codes.r list-codes.Post

abbrev pub page_record : PageCall → Record
page_record c = c.args.0.rec

abbrev pub page_slices : PageCall → Slices
page_slices c = memory_of c.args.0

-- how far the list had come
abbrev pub listing_of : PageCall → ListedSoFar
listing_of c = c.args.1.0

abbrev pub page_out : PageCall → List ℕ
page_out c = c.args.1.1.0.now

abbrev pub page_out_after : PageCall → List ℕ
page_out_after c = c.exit.1.1.0.now

-- what it put
abbrev pub page_put : PageCall → List ℕ
page_put c = take c.result.put (page_out_after c)

-- calls page by page: each has the same record and memory and gets what the one before handed back, until one says
-- that there is no more; `next` is what is asked of how far the list has come
abbrev pub OnPages : Record → Slices → (ListedSoFar → Type 0) → ListedSoFar → Bool → List PageCall → Type 0
OnPages rec m next done more [] = (more ≡ false) × next done
OnPages rec m next done more (c ∷ cs) =
    (page_record c ≡ rec) × (page_slices c ≡ m) × (listing_of c ≡ done)
    × OnPages rec m next c.result.reached c.result.more cs

-- what calls put, joined
unfoldable pub list_put : List PageCall → List ℕ
list_put [] = []
list_put (c ∷ cs) = page_put c ++ list_put cs

-- ## A call of `report_closing`

abbrev pub ClosingCall : Type 1
ClosingCall = Called 1 of-report-closing.ps of-report-closing.r report-closing.Post

abbrev pub closing_listing : ClosingCall → ListedSoFar
closing_listing c = c.args.0

abbrev pub closing_out : ClosingCall → List ℕ
closing_out c = c.args.1.0.now

-- what it put
abbrev pub closing_put : ClosingCall → List ℕ
closing_put c = take c.result c.exit.1.0.now

-- ## A run of the program

-- it begins: a text that may be loaded, and the table's line
pub record Begun : Type 1 where
  pub load : LoadCall
  pub may_load : MayLoad load
  pub table : TableCall
  pub gets : table_loaded table ≡ load.result
  pub room : widest ≤ length (table_out table)

-- and goes on: each call gets what `load` handed back and left, and what the call before it handed back. The input
-- comes in any pieces, and the output of each call of `report_frames` and `list_codes` may be of any length
pub record Rest (b : Begun) : Type 1 where
  pub line : List ℕ
  pub long : 8192 ≤ length line
  pub pieces : List PieceCalls
  pub last : LastCall
  pub pages : List PageCall
  pub closing : ClosingCall
  pub frames : let l = b.load.result in
      let m = left_after b.load in
      OnPieces (record_handed l) m (AtEnd (record_handed l) m last) line (Some 0) pieces
  pub list : OnPages (record_handed b.load.result) (left_after b.load) (λ done. closing_listing closing ≡ done)
      nothing_yet.reached true pages
  pub room : widest ≤ length (closing_out closing)

-- a run stops behind the line of a refused table, and goes on behind that of an accepted one
pub data Course (b : Begun) : Type 1 where
  stops : (why : Refusal) → refusal_in b.load.result ≡ some why → Course b
  goes : refusal_in b.load.result ≡ none → Rest b → Course b

-- all that it puts
abbrev pub written : (b : Begun) → Course b → List ℕ
written b (stops why e) = table_put b.table
written b (goes e r) =
    table_put b.table
    ++ ((frames_put r.pieces ++ last_put r.last) ++ (list_put r.pages ++ closing_put r.closing))

-- the input that it reads: the bytes of the pieces; a run that stops reads none of it
abbrev pub Reads : (b : Begun) → Course b → List ℕ → Type 0
Reads b (stops why e) input = Unit {0}
Reads b (goes e r) input = flatten (map (λ (p : PieceCalls). p.bytes) r.pieces) ≡ input
