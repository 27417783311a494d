-- Well-formed UTF-8 by RFC 3629's own table (document 01, 'The two pipes': lead 00-7F; C2-DF; E0 then A0-BF; ..), row
-- by row, apart from how a sequence is decoded. That the two agree: proofs/WellFormed.antt.
use Rattle.std.specs.Prelude.{ℕ, ◌+◌, ◌-◌, ◌*◌, ◌%◌, ◌≤◌, ◌<◌, ◌≡◌, List, []}
use Rattle.std.specs.Prelude.{◌∷◌, ◌++◌, Bool, true, false, length, take}
use Rattle.lists.specs.Pick.{◌and◌, ◌or◌}
use Rattle.lists.specs.Between.{between}
use Rattle.utf.specs.Utf8.{lead_mark}

-- the bytes that may stand at one place
pub data Range : Type 0 where
  from : ℕ → ℕ → Range

-- one byte alone
abbrev only : ℕ → Range
only b = from b b

-- any trail byte
abbrev trail : Range
trail = from 0x80 0xbf

-- the rows of the table: what may stand at each place of a sequence
abbrev pub rows : List (List Range)
rows =
    (from 0x00 0x7f ∷ [])
    ∷ (from 0xc2 0xdf ∷ trail ∷ [])
    ∷ (only 0xe0 ∷ from 0xa0 0xbf ∷ trail ∷ [])
    ∷ (from 0xe1 0xec ∷ trail ∷ trail ∷ [])
    ∷ (only 0xed ∷ from 0x80 0x9f ∷ trail ∷ [])
    ∷ (from 0xee 0xef ∷ trail ∷ trail ∷ [])
    ∷ (only 0xf0 ∷ from 0x90 0xbf ∷ trail ∷ trail ∷ [])
    ∷ (from 0xf1 0xf3 ∷ trail ∷ trail ∷ trail ∷ [])
    ∷ (only 0xf4 ∷ from 0x80 0x8f ∷ trail ∷ trail ∷ [])
    ∷ []

-- each byte at its place, and no byte missing or left over
abbrev pub matches : List Range → List ℕ → Bool
matches [] [] = true
matches [] (b ∷ s) = false
matches (r ∷ row) [] = false
matches (from lo hi ∷ row) (b ∷ s) = between lo hi b and matches row s

-- some row matches
abbrev pub any_row : List (List Range) → List ℕ → Bool
any_row [] s = false
any_row (row ∷ rest) s = matches row s or any_row rest s

-- one whole well-formed sequence
unfoldable pub well_formed : List ℕ → Bool
well_formed s = any_row rows s

-- each byte's six bits put under v
abbrev pub value_from : ℕ → List ℕ → ℕ
value_from v [] = v
value_from v (x ∷ s) = value_from (v * 64 + x % 64) s

-- the value of a sequence: the lead byte without its mark, then six bits of each trail byte
unfoldable pub sequence_value : List ℕ → ℕ
sequence_value [] = 0
sequence_value (b ∷ s) = value_from (b - lead_mark (length s)) s

-- the first n bytes of s are one whole well-formed sequence, and c is its value
pub record StartsWith (s : List ℕ) (c n : ℕ) : Type 0 where
  pub within : n ≤ length s
  pub formed : well_formed (take n s) ≡ true
  pub value : sequence_value (take n s) ≡ c

-- s is a proper beginning of a well-formed sequence
pub record Begins (s : List ℕ) : Type 0 where
  pub rest : List ℕ
  pub some : 0 < length rest
  pub formed : well_formed (s ++ rest) ≡ true
