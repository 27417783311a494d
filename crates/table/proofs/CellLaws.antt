-- A cell and its number in memory: there and back, the number as the code tests it, and the same steps by cells and by their numbers.
use Prim.Native.Nat.{ℕ, zero, suc, ◌+◌, ◌-◌, ◌*◌, ◌<◌, ◌≤◌}
use mathlib.Core.Path.{◌≡◌, refl, sym, ap, ◌∙◌}
use mathlib.Core.Bool.{Bool, true, false}
use mathlib.Core.List.{List, [], ◌∷◌, map}
use native.Mathlib.Omega.{arith}
use lib.Dec.{leb}
use lib.ListN.{get_or, get_or-map}
use borrow.Author.Tests.{leb-true, le-leb, lt-leb, ne_eqb}
use Rattle.lists.specs.Pick.{pick}
use Rattle.table.specs.Cells.{Cell, illegal, ends, ends_any, ends_unassigned, leads, cell_step, cell_number, cell_in, known}
use Rattle.table.specs.States.{step_at}
use Rattle.table.specs.Meaning.{flat, steps_on}
use Rattle.table.specs.Memory.{numbers_of}

-- from 16 on a number leads on
pub cell-far : (e : ℕ) → 16 ≤ e → cell_in e ≡ leads (e - 16)
unfolding cell_in
cell-far e h = rw (le-leb 16 e h)

-- 4 to 15 are kept free
pub cell_free : (e : ℕ) → 3 < e → e < 16 → cell_in e ≡ illegal
unfolding cell_in
cell_free e h k = rw (lt-leb 16 e k, ne_eqb e 1 (λ q. omega arith), ne_eqb e 2 (λ q. omega arith), ne_eqb e 3 (λ q. omega arith))

-- there and back
pub cell-back : (c : Cell) → cell_in (cell_number c) ≡ c
unfolding cell_in
cell-back illegal = refl
cell-back ends = refl
cell-back ends_any = refl
cell-back ends_unassigned = refl
cell-back (leads n) = rw (le-leb 16 (16 + n) (omega arith)) (ap leads (omega arith))

small-back : (e : ℕ) → e ≤ 3 → cell_number (cell_in e) ≡ e
unfolding cell_in
small-back zero h = refl
small-back (suc zero) h = refl
small-back (suc (suc zero)) h = refl
small-back (suc (suc (suc zero))) h = refl
small-back (suc (suc (suc (suc e)))) h = absurd (omega arith)

pub number-back : (e : ℕ) → known e ≡ true → cell_number (cell_in e) ≡ e
number-back e k = go (leb e 3) refl k
  where
    go : (t : Bool) → leb e 3 ≡ t → pick t true (leb 16 e) ≡ true → cell_number (cell_in e) ≡ e
    go true u w = small-back e (leb-true e 3 u)
    go false u w = let h = leb-true 16 e w in ap cell_number (cell-far e h) ∙ omega arith

pub number-known : (c : Cell) → known (cell_number c) ≡ true
number-known illegal = refl
number-known ends = refl
number-known ends_any = refl
number-known ends_unassigned = refl
number-known (leads n) = rw (lt-leb (16 + n) 3 (omega arith), le-leb 16 (16 + n) (omega arith))

-- cells with the same numbers are the same
pub map-cell_in-cell_number : (l : List Cell) → map cell_in (map cell_number l) ≡ l
map-cell_in-cell_number [] = refl
map-cell_in-cell_number (c ∷ l) = (λ i. cell-back c i ∷ map-cell_in-cell_number l i)

pub numbers-one : (l m : List Cell) → map cell_number l ≡ map cell_number m → l ≡ m
numbers-one l m e = sym (map-cell_in-cell_number l) ∙ ap (map cell_in) e ∙ map-cell_in-cell_number m

-- THE NUMBERS OF ROWS SAY WHAT THEIR CELLS SAY
pub numbers-say : (rows : List (List Cell)) → step_at (numbers_of rows) ≡ steps_on rows
unfolding step_at steps_on
numbers-say rows = λ i row b. cell_step ((ap cell_in (get_or-map cell_number (flat rows) (row * 256 + b) illegal) ∙ cell-back (get_or (flat rows) (row * 256 + b) illegal)) i)
