-- A number from one bound to another, both included.
use Rattle.std.specs.Prelude.{ℕ, Bool, leb}
use Rattle.lists.specs.Pick.{◌and◌}

-- whether x lies from lo to hi
abbrev pub between : ℕ → ℕ → ℕ → Bool
between lo hi x = leb lo x and leb x hi
