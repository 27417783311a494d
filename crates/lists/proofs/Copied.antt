-- A list copied over the front of another, one number a turn.
use mathlib.Core.Path.{◌≡◌, refl, ap}
use mathlib.Core.List.{List, [], ◌∷◌, ◌++◌}
use Prim.Native.Nat.{ℕ, zero, suc, ◌+◌, ◌<◌}
use native.Mathlib.Nat.{not-suc-le-zero, le_of_suc-le-suc}
use native.Mathlib.Numerals.{add-one}
use native.Mathlib.Omega.{arith}
use lib.ListN.{length, get_or, set, take, drop}
use Rattle.lists.specs.Place.{placed}

copy-suc : (i : ℕ) (ns old : List ℕ) → i < length ns → i < length old
    → set (take i ns ++ drop i old) i (get_or ns i 0) ≡ take (suc i) ns ++ drop (suc i) old
copy-suc i [] old h k = absurd (not-suc-le-zero h)
copy-suc i (n ∷ ns) [] h k = absurd (not-suc-le-zero k)
copy-suc zero (n ∷ ns) (x ∷ old) h k = refl
copy-suc (suc i) (n ∷ ns) (x ∷ old) h k =
    ap (λ (t : List ℕ). n ∷ t) (copy-suc i ns old (le_of_suc-le-suc h) (le_of_suc-le-suc k))

-- the number at i is stored
pub copy-turn : (i : ℕ) (ns old : List ℕ) → i < length ns → i < length old
    → set (take i ns ++ drop i old) i (get_or ns i 0) ≡ take (i + 1) ns ++ drop (i + 1) old
copy-turn i ns old h k = rw add-one (copy-suc i ns old h k)

pub placed-0 : (ns old : List ℕ) → placed old 0 ns ≡ ns ++ drop (length ns) old
placed-0 ns old = let e : 0 + length ns ≡ length ns = omega arith in ap (λ (k : ℕ). ns ++ drop k old) e
