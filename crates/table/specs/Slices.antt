-- The four slices that a caller lends for a table, as one value, and that they are long enough (document 01, 'What
-- every table keeps': 4,096 sixteen-bit numbers for states, and slices of 32-bit numbers with 2,048 places each for
-- mappings).
use Rattle.std.specs.Prelude.{ℕ, ◌≤◌, List, length}
use Rattle.table.specs.Limits.{Limits, needed}

pub record Slices : Type 0 where
  pub states : List ℕ
  pub codes : List ℕ
  pub infos : List ℕ
  pub order : List ℕ

abbrev pub slices : List ℕ → List ℕ → List ℕ → List ℕ → Slices
slices states codes infos order = record { states = states; codes = codes; infos = infos; order = order }

-- the slices are long enough
pub record Lent (lim : Limits) (m : Slices) : Type 0 where
  pub states-long : needed lim ≤ length m.states
  pub codes-long : lim.mappings ≤ length m.codes
  pub infos-long : lim.mappings ≤ length m.infos
  pub order-long : lim.mappings ≤ length m.order
