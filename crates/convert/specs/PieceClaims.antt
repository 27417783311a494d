-- What is claimed of any list of calls that convert a frame in pieces, and then close it (document 02, request 4).
-- It is promised of calls as `all-pieces` in promises/specs/Promises.antt.
use Rattle.std.specs.Prelude.{None}
use Rattle.std.specs.Prelude.{ℕ, ◌+◌, ◌*◌, ◌<◌, ◌≤◌, ◌≡◌, ◌⊎◌, List, [], ◌∷◌, ◌++◌, length, drop}
use Rattle.lists.specs.Order.{All}
use Rattle.utf.specs.declared.utf8.Stop.{Stop}
use Rattle.utf.specs.declared.scheme.Scheme.{Scheme}
use Rattle.table.specs.Meaning.{Table}
use Rattle.convert.specs.Run.{Run}
use Rattle.convert.specs.Convert.{to_run, from_run}
use Rattle.convert.specs.Pieces.{state_at, due_in}
use Rattle.convert.specs.declared.RunEnd.{RunEnd}
use Rattle.convert.specs.declared.RunEnd.TheVariants.{AllRead, OutputFull, BadTable, Stopped}
use Rattle.convert.specs.declared.Settings.{Settings}
use Rattle.convert.specs.declared.pieces.Way.{Way}
use Rattle.convert.specs.declared.pieces.Way.TheVariants.{ToUnicode, FromUnicode}
use Rattle.convert.specs.declared.pieces.Kept.{Kept}
use Rattle.convert.specs.declared.pieces.PieceEnd.{PieceEnd}
use Rattle.convert.specs.declared.pieces.PieceEnd.TheVariants.{Ended}

-- the conversion in one piece
abbrev pub one_run : Way → Scheme → Table → Settings → List ℕ → ℕ → Run
one_run ToUnicode e t settings s room = to_run e t settings s room
one_run FromUnicode e t settings s room = from_run e t settings s room

-- a fresh start, as the functions hold it
abbrev pub fresh_kept : Kept
fresh_kept = record { bytes = record { bits = 0; len = 0 }; mark = None; standing = None }

-- a call: the kept state it got, its piece (a close has none) and space; how it ended, how much it read, what it wrote,
-- and the kept state it handed back
pub record PieceCall : Type 0 where
  pub came : Kept
  pub piece : List ℕ
  pub room : ℕ
  pub end : PieceEnd
  pub read : ℕ
  pub output : List ℕ
  pub kept : Kept

-- each call gets the kept state that the last one handed back, and any beginning of what is still unread
abbrev pub InTurn : List ℕ → Kept → List PieceCall → Type 0
InTurn unread k [] = Unit {0}
InTurn unread k (c ∷ cs) =
    (c.came ≡ k) × ((rest : List ℕ) × (unread ≡ c.piece ++ rest)) × InTurn (drop c.read unread) c.kept cs

-- closes, one after the other, each after a 50
abbrev pub Closing : Kept → List PieceCall → Type 0
Closing k [] = Unit {0}
Closing k (c ∷ cs) =
    (c.came ≡ k) × ((0 < length cs) → c.end ≡ Ended OutputFull) × Closing c.kept cs

-- what several calls read and wrote; the last answer, and what is kept at last
abbrev pub read_by : List PieceCall → ℕ
read_by [] = 0
read_by (c ∷ cs) = c.read + read_by cs

abbrev pub written_by : List PieceCall → List ℕ
written_by [] = []
written_by (c ∷ cs) = c.output ++ written_by cs

abbrev pub last_end : PieceEnd → List PieceCall → PieceEnd
last_end h [] = h
last_end h (c ∷ cs) = last_end c.end cs

abbrev pub last_kept : Kept → List PieceCall → Kept
last_kept k [] = k
last_kept k (c ∷ cs) = last_kept c.kept cs

-- the last answer with its length, the place (bytes read, less those kept) and the joined output are those of one piece
pub record SameAsWhole (whole : Run) (cs : List PieceCall) : Type 0 where
  pub answer : last_end (Ended AllRead) cs ≡ Ended whole.end
  pub place : read_by cs ≡ whole.read + (last_kept fresh_kept cs).bytes.len
  pub output : written_by cs ≡ whole.bytes

-- not refused
abbrev pub Unrefused : PieceCall → Type 0
Unrefused c = (h : RunEnd) × (c.end ≡ Ended h) × (h ≡ BadTable → ⊥)

-- space for the longest output of n sequences, four bytes each, behind a mark that is still to be written
abbrev pub Ample : Way → Scheme → ℕ → PieceCall → Type 0
Ample way e n c = length (due_in way e (state_at c.came.mark)) + 4 * n ≤ c.room

-- THE CLAIM: calls on a frame, and closes behind them, where `whole` is the conversion in one piece with space enough
pub record InPieces (way : Way) (e : Scheme) (whole : Run) (frame : List ℕ) (cs closes : List PieceCall) : Type 0 where
  -- none is refused; each keeps at most three bytes
  pub unrefused : All Unrefused (cs ++ closes)
  pub few : All (λ c. c.kept.bytes.len ≤ 3) (cs ++ closes)
  -- what is read lies in the frame, what is kept in what is read; what is written is the beginning of the whole output
  pub inside : read_by cs ≤ length frame
  pub behind : (last_kept fresh_kept cs).bytes.len ≤ read_by cs
  pub output : (rest : List ℕ) × (whole.bytes ≡ written_by cs ++ rest)
  -- a final answer is the whole conversion's
  pub stops : (w : Stop) → last_end (Ended AllRead) cs ≡ Ended (Stopped w) → SameAsWhole whole cs
  -- where all is read, the closes, once the last is not 50, end as the whole conversion does
  pub ends : read_by cs ≡ length frame → (last_end (Ended OutputFull) closes ≡ Ended OutputFull → ⊥)
      → SameAsWhole whole (cs ++ closes)
  -- 0 has read all that was offered; 50 with space enough for one sequence reads a byte or keeps fewer, and with space
  -- for each byte, kept or offered, there is no 50
  pub all_read : All (λ c. c.end ≡ Ended AllRead → c.read ≡ length c.piece) cs
  pub moves : All (λ c. Ample way e 1 c → c.end ≡ Ended OutputFull
      → (0 < c.read) ⊎ (c.kept.bytes.len < c.came.bytes.len)) cs
  pub never-full : All (λ c. Ample way e (c.came.bytes.len + length c.piece) c → c.end ≡ Ended OutputFull → ⊥) cs
