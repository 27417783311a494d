-- The limits on tables (document 01, T1 and number 2): parameters of every definition that depends on them, with their
-- values here alone.
use Rattle.std.specs.Prelude.{ℕ, ◌*◌}

pub record Limits : Type 0 where
  pub rows : ℕ
  pub mappings : ℕ
  pub text : ℕ

abbrev pub limits : Limits
limits = record { rows = 16; mappings = 2048; text = 1048576 }

-- the sixteen-bit numbers that the states need
abbrev pub needed : Limits → ℕ
needed lim = lim.rows * 256
