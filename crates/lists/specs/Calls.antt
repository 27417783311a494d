-- Calls through a rising list, one after the other, in the form in which they are represented: an entry e as
-- `number e`, a position p as `form p`. A is what is looked at, E an entry and F its representation, P a position and Q
-- its representation.
use Rattle.std.specs.Prelude.{ℕ, ◌+◌, ◌≤◌, ◌≡◌, Bool, true, ◌⊎◌, List, [], ◌∷◌, ◌++◌}
use Rattle.lists.specs.Paging.{Page}

-- a call: how many elements it may look at, how many entries it has space for, the position it came with, and the page
-- it handed back
pub record Call (F Q : Type 0) : Type 0 where
  pub allowance : ℕ
  pub space : ℕ
  pub came : Q
  pub page : Page F Q

module _ {F Q : Type 0} where
  -- one after the other: the first came with q, each later one with the position that the one before handed back
  abbrev pub Chain : Q → List (Call F Q) → Type 0
  Chain q [] = Unit {0}
  Chain q (c ∷ cs) = (c.came ≡ q) × Chain c.page.position cs

  unfoldable pub joined : List (Call F Q) → List F
  joined [] = []
  joined (c ∷ cs) = c.page.entries ++ joined cs

  unfoldable pub summed : List (Call F Q) → ℕ
  summed [] = 0
  summed (c ∷ cs) = c.page.count + summed cs

  -- the position that the last call handed back; q where there is no call
  unfoldable pub last_position : Q → List (Call F Q) → Q
  last_position q [] = q
  last_position q (c ∷ cs) = last_position c.page.position cs

  -- whether the last call is finished
  unfoldable pub last_finished : Bool → List (Call F Q) → Bool
  last_finished f [] = f
  last_finished f (c ∷ cs) = last_finished c.page.finished cs

  -- with an allowance and a space of at least one it looks at an element or is finished
  abbrev pub Moves : Call F Q → Type 0
  Moves c = 1 ≤ c.allowance → 1 ≤ c.space → (1 ≤ c.page.count) ⊎ (c.page.finished ≡ true)
