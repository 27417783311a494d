-- Strings of bytes: equality, prefixes and byte order.
-- same s t     the same bytes              begins w s   s begins with w
-- before s t   s comes before t: the first differing byte decides, and a string comes before those that it begins
-- after p l    the strings of l that come after p; the position of no bytes is the beginning
-- up_to q l     the strings of l up to and including q
-- onto b ls    b put in front of the first of several strings
-- Assumes nothing.
use Rattle.std.specs.Prelude.{ℕ, Bool, true, false, not, List, [], ◌∷◌, ltb, eqb}
use Rattle.lists.specs.Pick.{◌and◌, ◌or◌}
use Rattle.lists.specs.Order.{filtered}

unfoldable pub same : List ℕ → List ℕ → Bool
same [] [] = true
same [] (b ∷ t) = false
same (a ∷ s) [] = false
same (a ∷ s) (b ∷ t) = let r = same s t in eqb a b and r

unfoldable pub begins : List ℕ → List ℕ → Bool
begins [] s = true
begins (a ∷ us) [] = false
begins (a ∷ us) (b ∷ bs) = let r = begins us bs in eqb a b and r

unfoldable pub before : List ℕ → List ℕ → Bool
before s [] = false
before [] (b ∷ t) = true
before (a ∷ s) (b ∷ t) = ltb a b or (eqb a b and before s t)

abbrev pub after : List ℕ → List (List ℕ) → List (List ℕ)
after p l = filtered (before p) l

abbrev pub up_to : List ℕ → List (List ℕ) → List (List ℕ)
up_to q l = filtered (λ c. not (before q c)) l

unfoldable pub onto : ℕ → List (List ℕ) → List (List ℕ)
onto b [] = (b ∷ []) ∷ []
onto b (l ∷ ls) = (b ∷ l) ∷ ls
