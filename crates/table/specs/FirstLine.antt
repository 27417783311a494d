-- Which line a refusal names and with which number, and when none is given (document 01: `the first line at which a
-- condition holds is named, counting from 1, with the lowest number that holds there`). The theorems over these are
-- `first-line-lowest`, `refused-exactly` and `accepted-no-condition` of proofs/FirstLine.antt.
use Rattle.std.specs.Prelude.{ℕ, ◌+◌, ◌≤◌, ◌≡◌, true, false, List, [], ◌∷◌, ◌++◌, length}
use Rattle.lists.specs.Order.{All, In}
use Rattle.table.specs.Limits.{Limits}
use Rattle.table.specs.Meaning.{Table}
use Rattle.table.specs.Numbers.{Cond, cond, refusal_number}
use Rattle.table.specs.Load.{Reading, line_asks, table_of, start}
use Rattle.table.specs.declared.load.Refusal.{Refusal}
use Rattle.table.specs.declared.load.Refusal.TheVariants as refusal
use Rattle.table.specs.declared.load.Phase.TheVariants.{Ended}

-- none of these conditions holds
abbrev pub NoneHolds : List Cond → Type 0
NoneHolds cs = All (λ c. c.holds ≡ false) cs

-- the condition of refusal x holds, and none that holds has a lower number
pub record HoldsLowest (x : Refusal) (cs : List Cond) : Type 0 where
  pub holds : In (cond x true) cs
  pub least : All (λ c. c.holds ≡ true → refusal_number x ≤ refusal_number c.refusal) cs

-- the conditions at a line, given what was read before it
abbrev pub conditions_at : Limits → Reading → List ℕ → List Cond
conditions_at lim r s = (line_asks lim r s).conditions

-- what has been read after a line, and after several lines, where no condition holds
abbrev pub reading_after : Limits → Reading → List ℕ → Reading
reading_after lim r s = (line_asks lim r s).behind

unfoldable pub reading_after_all : Limits → Reading → List (List ℕ) → Reading
reading_after_all lim r [] = r
reading_after_all lim r (l ∷ ls) = reading_after_all lim (reading_after lim r l) ls

-- no condition holds at any of these lines, each given what was read before it
abbrev pub NoCondition : Limits → Reading → List (List ℕ) → Type 0
NoCondition lim r [] = Unit {0}
NoCondition lim r (l ∷ ls) = NoneHolds (conditions_at lim r l) × NoCondition lim (reading_after lim r l) ls

-- refusal x is named at line k, counting from 1: no condition holds at the lines before it, and at it x holds with the
-- lowest number
pub record FirstHolds (lim : Limits) (ls : List (List ℕ)) (x : Refusal) (k : ℕ) : Type 0 where
  pub earlier : List (List ℕ)
  pub line : List ℕ
  pub later : List (List ℕ)
  pub lines_are : ls ≡ earlier ++ line ∷ later
  pub counted : k ≡ length earlier + 1
  pub no-condition : NoCondition lim start earlier
  pub named : HoldsLowest x (conditions_at lim (reading_after_all lim start earlier) line)

-- 27 at the line after the last: no condition holds at any line, and END CHARMAP did not come
pub record NeverEnds (lim : Limits) (ls : List (List ℕ)) (x : Refusal) (k : ℕ) : Type 0 where
  pub number : x ≡ refusal.NoEnd
  pub counted : k ≡ length ls + 1
  pub no-condition : NoCondition lim start ls
  pub unended : (reading_after_all lim start ls).phase ≡ Ended → ⊥

-- no condition holds at any line, and END CHARMAP came: the text means table t
pub record Unrefused (lim : Limits) (ls : List (List ℕ)) (t : Table) : Type 0 where
  pub no-condition : NoCondition lim start ls
  pub ended : (reading_after_all lim start ls).phase ≡ Ended
  pub table : t ≡ table_of (reading_after_all lim start ls)
