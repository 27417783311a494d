-- Tables that look up the same lines write the same.
use Prim.Native.Nat.{ℕ}
use mathlib.Core.Path.{◌≡◌, ap}
use mathlib.Core.Bool.{Bool}
use Rattle.table.specs.Meaning.{Table, writer}
use Rattle.convert.specs.Step.{written_by, writes}

pub writer⇒writes : (t u : Table) (fallback : Bool) (c : ℕ) → writer c u.lines ≡ writer c t.lines → writes u fallback c ≡ writes t fallback c
unfolding writes
writer⇒writes t u fallback c e = ap (written_by fallback) e
