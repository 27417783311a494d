-- The lines of a text, taken apart at the first.
use mathlib.Core.Path.{◌≡◌, refl}
use mathlib.Core.Bool.{Bool, true, false}
use mathlib.Core.List.{List, [], ◌∷◌}
use Prim.Native.Nat.{ℕ, ◌-◌, ◌<◌, ◌≤◌}
use native.Mathlib.Omega.{arith}
use lib.ListN.{length, take, drop}
use lib.Dec.{eqb}
use Rattle.lists.specs.Pick.{pick}
use Rattle.lists.proofs.Laws.{drop-∷, drop_past, clash, and_right}
use Rattle.table.specs.Text.{cr_before, lines_of}
use Rattle.lists.specs.Strings.{onto}
use Rattle.table.specs.loops.Coded.{first_line, rest_lines}

pub not-cr : (b : ℕ) (bs : List ℕ) → eqb b 13 ≡ false → cr_before b bs ≡ false
unfolding cr_before
not-cr b [] h = refl
not-cr b (d ∷ ds) h = rw h

-- behind a CR that belongs to a line's end stands an LF
pub cr-first : (b : ℕ) (l : List ℕ) → cr_before b l ≡ true → first_line l ≡ []
unfolding cr_before first_line
cr-first b [] e = absurd (clash e refl)
cr-first b (d ∷ ds) e = rw (and_right (eqb b 13) (eqb d 10) e)

pub cr-rest : (b : ℕ) (l : List ℕ) → cr_before b l ≡ true → rest_lines l ≡ drop 1 l
unfolding cr_before rest_lines
cr-rest b [] e = absurd (clash e refl)
cr-rest b (d ∷ ds) e = rw (and_right (eqb b 13) (eqb d 10) e)

pub cr-more : (b : ℕ) (l : List ℕ) → cr_before b l ≡ true → 1 ≤ length l
unfolding cr_before
cr-more b [] e = absurd (clash e refl)
cr-more b (d ∷ ds) e = omega arith

lines-pick : (t u : Bool) (b : ℕ) (bs : List ℕ) → lines_of bs ≡ first_line bs ∷ lines_of (rest_lines bs)
    → pick t ([] ∷ lines_of bs) (pick u (lines_of bs) (onto b (lines_of bs))) ≡ pick t [] (pick u (first_line bs) (b ∷ first_line bs)) ∷ lines_of (pick t bs (rest_lines bs))
unfolding onto
lines-pick true u b bs e = refl
lines-pick false true b bs e = e
lines-pick false false b bs e = rw e

last-pick : (t : Bool) (b : ℕ) → pick t ([] ∷ []) ((b ∷ []) ∷ []) ≡ pick t [] (b ∷ []) ∷ lines_of (pick t [] [])
unfolding lines_of
last-pick true b = refl
last-pick false b = refl

pub lines_none : lines_of [] ≡ []
unfolding lines_of
lines_none = refl

lines_step : (b : ℕ) (bs : List ℕ) → lines_of (b ∷ bs) ≡ first_line (b ∷ bs) ∷ lines_of (rest_lines (b ∷ bs))
unfolding lines_of first_line rest_lines cr_before onto
lines_step b [] = last-pick (eqb b 10) b
lines_step b (d ∷ ds) = lines-pick (eqb b 10) (cr_before b (d ∷ ds)) b (d ∷ ds) (lines_step d ds)

-- the same from a place on
lines_at : (s : List ℕ) (at : ℕ) → at < length s → lines_of (drop at s) ≡ first_line (drop at s) ∷ lines_of (rest_lines (drop at s))
lines_at s at h = rw (drop-∷ s at h) (lines_step _ _)

pub lines_end : (s : List ℕ) (at : ℕ) → length s ≤ at → lines_of (drop at s) ≡ []
lines_end s at h = rw (drop_past s at h) lines_none

-- and as the first line is cut out
pub lines_cut : (s : List ℕ) (at stop next : ℕ) → at < length s → take (stop - at) (drop at s) ≡ first_line (drop at s) → drop next s ≡ rest_lines (drop at s)
    → lines_of (drop at s) ≡ take (stop - at) (drop at s) ∷ lines_of (drop next s)
lines_cut s at stop next h e f = rw (lines_at s at h, ← e, ← f)
