-- The record that loading writes is the record that every other call reads.
use mathlib.Core.Path.{◌≡◌, refl}
use Prim.Native.Nat.{ℕ}
use mathlib.Core.List.{List}
use Rattle.table.specs.declared.valid.Record.{Record}
use Rattle.cabi.specs.Exported.{record_in, record_numbers, with_numbers}

pub record_in-record_numbers : (r : Record) (old : List ℕ) → record_in (with_numbers (record_numbers r) old) ≡ r
record_in-record_numbers r old = refl
