-- The lines of standard input (document 01: one frame a line), and how they are found where the input comes in pieces.
-- Cases: proofs/Cases.antt
use Rattle.std.specs.Prelude.{if◌then◌else◌, ℕ, ◌+◌, Bool, not, List, [], ◌∷◌}
use Rattle.std.specs.Prelude.{◌++◌, map, length, take, drop, ◌==◌, nat_le, nat_lt}
use Rattle.lists.specs.Ascii.{byte}
use Rattle.lists.specs.Order.{prefix_length}
use Rattle.lists.specs.Strings.{onto}
use Rattle.std.specs.Prelude.{Option as Returned, Some, None}
use Rattle.frames.specs.declared.lines.Taken.{Taken}
use Rattle.frames.specs.declared.lines.Taken.TheVariants as taken

-- an input split at each LF; bytes behind the last LF are a line too
unfoldable pub input_lines : List ℕ → List (List ℕ)
input_lines [] = []
input_lines (b ∷ s) = let r = input_lines s in if b == (byte "\n") then [] ∷ r else onto b r

-- a line of the input: its bytes, or that it has more than there is room for
pub data InputLine : Type 0 where
  whole : List ℕ → InputLine
  too_long : InputLine

-- a line, if it has at most cap bytes
abbrev pub cut : ℕ → List ℕ → InputLine
cut cap s = if nat_le (length s) cap then whole s else too_long

-- the lines of an input, each with at most cap bytes or too long
abbrev pub cut_lines : ℕ → List ℕ → List InputLine
cut_lines cap s = map (cut cap) (input_lines s)

-- a partial line with more bytes at its end
abbrev pub extend : ℕ → InputLine → List ℕ → InputLine
extend cap (whole l) s = cut cap (l ++ s)
extend cap too_long s = too_long

-- what is held at the input's end is a line, if it has bytes
abbrev pub last_line : InputLine → List InputLine
last_line (whole []) = []
last_line (whole (b ∷ s)) = whole (b ∷ s) ∷ []
last_line too_long = too_long ∷ []

-- one step through a piece: a line came to its end after some bytes, LF included, or the piece did
pub data PieceStep : Type 0 where
  ended : ℕ → InputLine → PieceStep
  unended : InputLine → PieceStep

-- any byte but LF
abbrev pub in_line : ℕ → Bool
in_line b = not (b == (byte "\n"))

-- the step from a piece's start: the bytes before the first LF continue the partial line
unfoldable pub piece_step : ℕ → InputLine → List ℕ → PieceStep
piece_step cap h s =
    let k = prefix_length in_line s in
    let l = extend cap h (take k s) in
    if nat_lt k (length s) then ended (k + 1) l else unended l

-- the partial line that memory holds; no count, or one past the memory, stands for a line that is too long
unfoldable pub partial_in : List ℕ → Returned ℕ → InputLine
partial_in memory None = too_long
partial_in memory (Some n) = if nat_le n (length memory) then whole (take n memory) else too_long

-- the count by which memory holds a partial line, if it holds it
unfoldable pub partial_of : InputLine → Returned ℕ
partial_of (whole s) = Some (length s)
partial_of too_long = None

-- memory with a line at its front; one that is too long leaves it as it was
unfoldable pub kept_in : List ℕ → InputLine → List ℕ
kept_in memory (whole s) = s ++ drop (length s) memory
kept_in memory too_long = memory

-- the answer for a step that began at a place of a piece
unfoldable pub taken_answer : ℕ → PieceStep → Taken
taken_answer at (ended n l) = taken.Line (at + n) (partial_of l)
taken_answer at (unended l) = taken.More (partial_of l)

-- memory after a step
unfoldable pub taken_into : List ℕ → PieceStep → List ℕ
taken_into memory (ended n l) = kept_in memory l
taken_into memory (unended l) = kept_in memory l
