-- What many look-ups in a row leave in a slice of numbers: the numbers in which codes are asked for and lines are
-- answered, one statement for either side, and the two relations that it is said of. `CodeFound` and `PointFound` of
-- `table` are the answers themselves.
use Rattle.std.specs.Prelude.{Option, Some, None}
use Rattle.std.specs.Prelude.{if◌then◌else◌, ℕ, ◌+◌, ◌*◌, ◌/◌, ◌%◌, ◌<◌, ◌≤◌, ◌≡◌, List, ltb, length, get_or}
use Rattle.table.specs.Lookup.{CodeFound, PointFound, indicator_of}
use Rattle.table.specs.declared.states.Code.{Code}
use Rattle.table.specs.declared.valid.Record.{Record}
use Rattle.table.specs.declared.lookup.Mapping.{Mapping}

-- the record that seven numbers stand for
abbrev pub record_in : (rows mappings least most bits len sub1 : ℕ) → Record
record_in rows mappings least most bits len sub1 =
    record {
      rows = rows;
      mappings = mappings;
      min = least;
      max = most;
      subchar = record { bits = bits; len = len };
      subchar1 = sub1;
    }

-- 2^32: the unit of what stands above the lower 32 bits
abbrev pub upper_unit : ℕ
upper_unit = 4294967296

-- the code that a number asks for: its bits below, its length above
abbrev pub code_in : ℕ → Code
code_in n = record { bits = n % upper_unit; len = n / upper_unit }

-- the line that reads a code: its code point below, 1 and its indicator's digit above; no line is 0
abbrev pub code_number : Option Mapping → ℕ
code_number (Some m) = m.point + upper_unit * (1 + indicator_of m.used)
code_number None = 0

-- the line of a code point: its code's bits below, the length above; no line is 0
abbrev pub point_number : Option Mapping → ℕ
point_number (Some m) = m.code.bits + upper_unit * m.code.len
point_number None = 0

-- a number answers the code that another asks for
abbrev pub AnswersCode : Record → List ℕ → List ℕ → ℕ → ℕ → Type 0
AnswersCode rec codes infos wanted number =
    (r : Option Mapping) × CodeFound rec codes infos (code_in wanted) r × (number ≡ code_number r)

-- a number answers a code point
abbrev pub AnswersPoint : Record → List ℕ → List ℕ → List ℕ → ℕ → ℕ → Type 0
AnswersPoint rec codes infos order wanted number =
    (r : Option Mapping) × PointFound rec codes infos order wanted r × (number ≡ point_number r)

-- the first n entries answer what was wanted there, and the others are as before
pub record Answered (Answers : ℕ → ℕ → Type 0) (n : ℕ) (wanted before after : List ℕ) : Type 0 where
  pub same_length : length after ≡ length before
  pub first : (k : ℕ) → k < n → Answers (get_or wanted k 0) (get_or after k 0)
  pub others : (k : ℕ) → n ≤ k → get_or after k 0 ≡ get_or before k 0

-- the shorter of two lengths
abbrev pub shorter : ℕ → ℕ → ℕ
shorter a b = if ltb a b then a else b

-- THE STATEMENT of both sides: all that is wanted and has an entry is answered
abbrev pub AllAnswered : (ℕ → ℕ → Type 0) → (wanted before after : List ℕ) → Type 0
AllAnswered Answers wanted before after =
    Answered Answers (shorter (length wanted) (length before)) wanted before after
