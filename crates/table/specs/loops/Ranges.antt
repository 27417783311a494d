-- Bounds of what the readers of a line answer: where a token ends, and how large its value is. Only contracts of the
-- reading functions and their proofs speak of them; nothing that is promised does.
use Rattle.table.specs.Header.{ReadValue}
use Rattle.table.specs.Header.{ReadLine}
use Rattle.std.specs.Prelude.{ℕ, ◌<◌, ◌≤◌, ◌≡◌, true, Option, Some, None}
use Rattle.table.specs.Stored.{padded}
use Rattle.table.specs.declared.text.ByteRun.{ByteRun}
use Rattle.table.specs.declared.value.Value.TheVariants.{Any, Name, Min, Max, Class, Sub, Sub1, Row}
use Rattle.table.specs.declared.value.Value.TheVariants.{Unbuilt}
use Rattle.table.specs.declared.header.HeaderLine.TheVariants.{Blank, Charmap, Known}
use Rattle.table.specs.declared.mapping.Mapped.{Mapped}
use Rattle.table.specs.declared.mapping.Mapped.TheVariants as coded
use Rattle.table.specs.Codes.{first_byte_unit, word32}

-- a token that was read: it ends past `at`, within n, and its value is a byte
abbrev pub Within : Option (ℕ × ℕ) → ℕ → ℕ → Type 0
Within None at n = Unit {0}
Within (Some (v, q)) at n = (at < q) × (q ≤ n) × (v < 256)

-- it ends at or past `at`, within n, and its value is at most k
abbrev pub NumAtMost : ℕ → Option (ℕ × ℕ) → ℕ → ℕ → Type 0
NumAtMost k None at n = Unit {0}
NumAtMost k (Some (v, q)) at n = (at ≤ q) × (q ≤ n) × (v ≤ k)

-- a place at or past `at`, within n
unfoldable pub Placed : Option ℕ → ℕ → ℕ → Type 0
Placed None at n = Unit {0}
Placed (Some e) at n = (at ≤ e) × (e ≤ n)

-- and with a byte there
unfoldable pub Stands : Option ℕ → ℕ → ℕ → Type 0
Stands None at n = Unit {0}
Stands (Some e) at n = (at ≤ e) × (e < n)

-- a run of bytes ends at or past `at`, within n; it has 1 to n bytes, and four of them are packed
abbrev pub Ran : Option ByteRun → ℕ → ℕ → Type 0
Ran None at n = Unit {0}
Ran (Some r) at n = (at ≤ r.end) × (r.end ≤ n) × (1 ≤ r.len) × (r.len ≤ n) × (r.bits < word32)

abbrev pub RunAtMost : Option ByteRun → ℕ → Type 0
RunAtMost None n = Unit {0}
RunAtMost (Some r) n = r.len ≤ n

-- what stands in quotes lies within n
unfoldable pub Ranged : Option (ℕ × ℕ) → ℕ → Type 0
Ranged None n = Unit {0}
Ranged (Some (a, e)) n = (a ≤ e) × (e ≤ n)

-- a value's place lies in the line
unfoldable pub InLine : ReadLine → ℕ → Type 0
InLine None n = Unit {0}
InLine (Some Blank) n = Unit {0}
InLine (Some Charmap) n = Unit {0}
InLine (Some (Known k v q e)) n = (q ≤ e) × (e ≤ n)

-- what a value holds: digits 1 to 4, 1 to 4 bytes with zeros behind them, a byte
unfoldable pub InRange : ReadValue → Type 0
InRange None = Unit {0}
InRange (Some Any) = Unit {0}
InRange (Some Unbuilt) = Unit {0}
InRange (Some Name) = Unit {0}
InRange (Some (Min d)) = (1 ≤ d) × (d ≤ 4)
InRange (Some (Max d)) = (1 ≤ d) × (d ≤ 4)
InRange (Some (Class c)) = Unit {0}
InRange (Some (Sub c)) = (1 ≤ c.len) × (c.len ≤ 4) × (c.bits < word32) × (padded c.len c.bits ≡ true)
InRange (Some (Sub1 b)) = b < 256
InRange (Some (Row w l o)) = Unit {0}

-- a mapping of a line of n bytes
abbrev pub MappedFits : Option Mapped → ℕ → Type 0
MappedFits None n = Unit {0}
MappedFits (Some coded.Reserved) n = Unit {0}
MappedFits (Some coded.Blank) n = Unit {0}
MappedFits (Some coded.End) n = Unit {0}
MappedFits (Some (coded.Line l)) n = (l.point < first_byte_unit) × (l.bits < word32) × (1 ≤ l.len) × (l.len ≤ n)
