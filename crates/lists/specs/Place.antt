-- Lists with something written into them.
-- fits old at new         new has room in old from `at` on        placed old at new   old with new in it from `at` on
-- filled n xs             xs, and zeros up to n numbers
-- fill_range from to v l   l with v in the places from..to
-- shift_in n at x l        l with x inserted at `at`; elements `at` to n - 1 move up and overwrite element n
-- bump at k               the index k after something was inserted at `at`
-- Assumes nothing.
use Rattle.std.specs.Prelude.{if◌then◌else◌, ℕ, ◌+◌, ◌-◌, Bool, List, ◌∷◌, ◌++◌, leb, length, take, drop, replicate}

abbrev pub fits : List ℕ → ℕ → List ℕ → Bool
fits old at new = leb (at + length new) (length old)

abbrev pub placed : List ℕ → ℕ → List ℕ → List ℕ
placed old at new = take at old ++ new ++ drop (at + length new) old

unfoldable pub filled : ℕ → List ℕ → List ℕ
filled limit xs = xs ++ replicate (limit - length xs) 0

unfoldable pub fill_range : {A : Type 0} → ℕ → ℕ → A → List A → List A
fill_range from to v l = take from l ++ (replicate (to + 1 - from) v ++ drop (from + (to + 1 - from)) l)

unfoldable pub shift_in : ℕ → ℕ → ℕ → List ℕ → List ℕ
shift_in n at x l = take at l ++ x ∷ (take (n - at) (drop at l) ++ drop (n + 1) l)

unfoldable pub bump : ℕ → ℕ → ℕ
bump at k = if leb at k then k + 1 else k
