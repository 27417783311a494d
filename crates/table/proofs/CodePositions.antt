-- Positions as byte strings and as codes.
use Prim.Native.Nat.{ℕ}
use mathlib.Core.Path.{◌≡◌, refl}
use mathlib.Core.Bool.{true}
use mathlib.Core.List.{[]}
use Rattle.lists.specs.Order.{All}
use Rattle.table.specs.States.{Rows}
use Rattle.table.specs.Codes.{codes_from, all_codes, packed, unpacked, code_of, bytes_of}
use Rattle.lists.specs.Strings.{before}
use Rattle.table.proofs.CodeList.{scan-start}

-- the beginning has no bytes
pub none-code : code_of [] ≡ record { bits = 0; len = 0 }
unfolding packed
none-code = refl

pub code-none : bytes_of (record { bits = 0; len = 0 }) ≡ []
unfolding unpacked
code-none = refl

-- every code comes after it
pub all_after : (step : Rows) (row : ℕ) → All (λ s. before [] s ≡ true) (all_codes step row)
unfolding codes_from
all_after step row = scan-start (codes_from step 3) step row 256 0
