-- The code of a common line: what one look at it decides.
use Rattle.std.specs.Prelude.{ℕ, ◌/◌, ◌≤◌, ◌≡◌, true}
use Rattle.table.specs.States.{Rows, end_kind}
use Rattle.table.specs.Codes.{unpacked, first_byte_unit}
use Rattle.table.specs.Rules.{t5_kind}
use Rattle.table.specs.Stored.{padded}

-- a code of len bytes that is of the form and keeps T5 and T7 in a line for any code point up to U+FFFF
pub record CommonCode (step : Rows) (min max len bits : ℕ) : Type 0 where
  pub its-form : padded len bits ≡ true
  pub at_least : min ≤ len
  pub at_most : len ≤ max
  pub its-first : bits / first_byte_unit ≡ 0 → len ≡ 1
  pub its-end : (point : ℕ) → point ≤ 0xffff → t5_kind point (end_kind step 0 (unpacked len bits)) ≡ true
