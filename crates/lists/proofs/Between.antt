-- The test of a range, both ways.
use mathlib.Core.Path.{◌≡◌}
use mathlib.Core.Bool.{true, false}
use Prim.Native.Nat.{ℕ, ◌≤◌, ◌<◌}
use lib.Dec.{leb}
use borrow.Author.Tests.{le-leb, lt-leb, leb-true}
use Rattle.lists.specs.Between.{between}
use Rattle.lists.proofs.Laws.{¬true⇒false, and_yes, and_left, and_right}

module _ (lo hi x : ℕ) where
  pub between-yes⁺ : lo ≤ x → x ≤ hi → between lo hi x ≡ true
  between-yes⁺ a b = and_yes (leb lo x) (leb x hi) (le-leb lo x a) (le-leb x hi b)

  pub between-no-low : x < lo → between lo hi x ≡ false
  between-no-low a = simp (lt-leb lo x a)

  pub between-no-high : lo ≤ x → hi < x → between lo hi x ≡ false
  between-no-high a b = simp (le-leb lo x a, lt-leb x hi b)

  pub between-yes⁻ : between lo hi x ≡ true → (lo ≤ x) × (x ≤ hi)
  between-yes⁻ e =
      (leb-true lo x (and_left (leb lo x) (leb x hi) e), leb-true x hi (and_right (leb lo x) (leb x hi) e))

  pub between-no : (lo ≤ x → x ≤ hi → ⊥) → between lo hi x ≡ false
  between-no h = ¬true⇒false (between lo hi x) (λ e. let r = between-yes⁻ e in h r.0 r.1)
