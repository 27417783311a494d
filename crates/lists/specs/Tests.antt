-- Tests over a list or a range of numbers, each true or false.
-- all_of f l      f holds of every element       any_of f l       f holds of some element
-- all_below f n   f holds of every number < n    some_below f n   f holds of some number < n
-- is_empty l      l has no element               zeros l         every element is 0
-- Assumes nothing.
use Rattle.std.specs.Prelude.{ℕ, zero, suc, Bool, true, false, List, [], ◌∷◌, eqb}
use Rattle.lists.specs.Pick.{◌and◌, ◌or◌}

unfoldable pub all_of : {A : Type 0} → (A → Bool) → List A → Bool
all_of f [] = true
all_of f (x ∷ l) = let r = all_of f l in f x and r

unfoldable pub any_of : {A : Type 0} → (A → Bool) → List A → Bool
any_of f [] = false
any_of f (x ∷ l) = let r = any_of f l in f x or r

unfoldable pub all_below : (ℕ → Bool) → ℕ → Bool
all_below f zero = true
all_below f (suc n) = all_below f n and f n

unfoldable pub some_below : (ℕ → Bool) → ℕ → Bool
some_below f zero = false
some_below f (suc n) = some_below f n or f n

abbrev pub is_empty : List ℕ → Bool
is_empty [] = true
is_empty (b ∷ s) = false

unfoldable pub zeros : List ℕ → Bool
zeros [] = true
zeros (x ∷ l) = let r = zeros l in eqb x 0 and r
