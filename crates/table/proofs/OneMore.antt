-- T1 at one more: a row or a mapping more breaks it exactly where the count has come to the limit (15, 26).
use mathlib.Core.Path.{◌≡◌, refl, sym, ap, ◌∙◌}
use mathlib.Core.Bool.{Bool, true, false, not}
use mathlib.Core.List.{List}
use Prim.Native.Nat.{ℕ, ◌+◌}
use native.Mathlib.Omega.{arith}
use lib.Dec.{leb}
use lib.ListN.{length}
use borrow.Author.Tests.{leb-true, leb-false, le-leb, lt-leb}
use Rattle.lists.specs.Pick.{pick}
use Rattle.table.specs.Limits.{Limits}
use Rattle.table.specs.Meaning.{Line}
use Rattle.table.specs.Numbers.{row_over, n26}

one_more : (n limit : ℕ) → not (leb (n + 1) limit) ≡ leb limit n
one_more n limit = by-limit (leb limit n) refl
  where
    by-limit : (x : Bool) → leb limit n ≡ x → not (leb (n + 1) limit) ≡ leb limit n
    by-limit true e = let h = leb-true limit n e in ap not (lt-leb (n + 1) limit (omega arith)) ∙ sym e
    by-limit false e = let h = leb-false limit n e in ap not (le-leb (n + 1) limit (omega arith)) ∙ sym e

pub lines-over : (lim : Limits) (ls : List Line) → n26 lim ls ≡ leb lim.mappings (length ls)
unfolding n26
lines-over lim ls = one_more (length ls) lim.mappings

pub rows_over : (lim : Limits) (n : ℕ) (o : Bool) → row_over lim n o ≡ pick o true (leb lim.rows n)
unfolding row_over
rows_over lim n o =
    ap (λ (b : Bool). pick o true (not (pick b (leb (n + 1) lim.rows) false))) (le-leb 1 (n + 1) (omega arith))
    ∙ ap (λ (b : Bool). pick o true b) (one_more n lim.rows)
