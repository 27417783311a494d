-- Numbers that pass the test as what they stand for: states as rows of cells, subchar1 as a byte; and back to the numbers.
use mathlib.Core.Path.{◌≡◌, refl, sym, ap, ◌∙◌}
use mathlib.Core.Bool.{Bool, true, false}
use mathlib.Core.Option.{Option, none, some}
use mathlib.Core.List.{List, [], ◌∷◌, ◌++◌, map}
use Prim.Native.Nat.{ℕ, zero, suc, ◌+◌, ◌-◌, ◌*◌, ◌≤◌}
use native.Mathlib.Omega.{arith}
use lib.Dec.{eqb}
use lib.ListN.{length, take, drop, length-drop}
use lib.Seq.{length-take-le, take-add, take_at, drop_at}
use borrow.Author.Tests.{eqb-true, eqb-false, ne_eqb}
use Rattle.lists.specs.Pick.{pick}
use Rattle.lists.specs.Order.{All}
use Rattle.lists.proofs.Parts.{map-take}
use Rattle.table.specs.Limits.{Limits, needed}
use Rattle.table.specs.Cells.{Cell, cell_number, cell_in}
use Rattle.table.specs.States.{step_at}
use Rattle.table.specs.Meaning.{flat, steps_on}
use Rattle.table.specs.Memory.{numbers_of, sub1_of, sub1_in, pieces}
use Rattle.table.specs.Valid.{state_ok, states_ok}
use Rattle.table.proofs.Depth.{states_ok⇒StatesKept}
use Rattle.table.proofs.RowLaws.{map-cell_number-cell_in, steps-filled}
use Rattle.lists.proofs.Filled.{part_filled}
use Rattle.lists.specs.Tests.{all_of}
use Rattle.lists.specs.Place.{filled}

pub rows-count : (n : ℕ) (cs : List Cell) → length (pieces n cs) ≡ n
unfolding pieces
rows-count zero cs = refl
rows-count (suc n) cs = ap suc (rows-count n (drop 256 cs))

pub rows-full : (n : ℕ) (cs : List Cell) → n * 256 ≤ length cs → All (λ r. length r ≡ 256) (pieces n cs)
unfolding pieces
rows-full zero cs h = tt
rows-full (suc n) cs h =
    (length-take-le 256 cs (omega arith), rows-full n (drop 256 cs) (omega (arith, length-drop 256 cs)))

rows-flat : (n : ℕ) (cs : List Cell) → flat (pieces n cs) ≡ take (n * 256) cs
unfolding pieces flat
rows-flat zero cs = refl
rows-flat (suc n) cs =
    let e : 256 + n * 256 ≡ suc n * 256 = omega arith in
    ap (λ (l : List Cell). take 256 cs ++ l) (rows-flat n (drop 256 cs)) ∙ sym (take-add 256 (n * 256) cs)
    ∙ ap (λ (k : ℕ). take k cs) e

-- numbers that pass the test, as rows of cells
pub rows-numbers : (n : ℕ) (ts : List ℕ)
    → all_of (state_ok n) (take (n * 256) ts) ≡ true
    → numbers_of (pieces n (map cell_in ts)) ≡ take (n * 256) ts
rows-numbers n ts h =
    ap (map cell_number) (rows-flat n (map cell_in ts) ∙ sym (map-take cell_in (n * 256) ts))
    ∙ map-cell_number-cell_in n (take (n * 256) ts) h

-- states that pass are the numbers of their rows one behind the other, and zeros
pub states-filled : (lim : Limits) (n : ℕ) (states : List ℕ)
    → n ≤ lim.rows
    → states_ok lim n states ≡ true
    → take (needed lim) states ≡ filled (needed lim) (numbers_of (pieces n (map cell_in states)))
states-filled lim n states few h =
    let k = states_ok⇒StatesKept lim n states h in
    part_filled (needed lim) (n * 256) states (omega arith) k.long k.behind
    ∙ ap (filled (needed lim)) (sym (rows-numbers n states k.entries))

pub states-say : (lim : Limits) (n : ℕ) (states : List ℕ)
    → n ≤ lim.rows
    → states_ok lim n states ≡ true
    → step_at (take (needed lim) states) ≡ steps_on (pieces n (map cell_in states))
states-say lim n states few h =
    steps-filled (needed lim) (pieces n (map cell_in states)) (take (needed lim) states)
    (states-filled lim n states few h)

pub flat-one : (rs ss : List (List Cell))
    → All (λ r. length r ≡ 256) rs
    → All (λ r. length r ≡ 256) ss
    → length rs ≡ length ss
    → flat rs ≡ flat ss
    → rs ≡ ss
unfolding flat
flat-one [] [] h k n e = refl
flat-one [] (s ∷ ss) h k n e = absurd (omega arith)
flat-one (r ∷ rs) [] h k n e = absurd (omega arith)
flat-one (r ∷ rs) (s ∷ ss) h k n e =
    let head : r ≡ s = sym (take_at r (flat rs) 256 h.0) ∙ ap (λ (l : List Cell). take 256 l) e
    ∙ take_at s (flat ss) 256 k.0 in
    let tail : flat rs ≡ flat ss =
    sym (drop_at r (flat rs) 256 h.0) ∙ ap (λ (l : List Cell). drop 256 l) e ∙ drop_at s (flat ss) 256 k.0 in
    (λ i. head i ∷ flat-one rs ss h.1 k.1 (omega arith) tail i)

-- subchar1 as a number and back
pub sub1_of-sub1_in : (n : ℕ) → sub1_of (sub1_in n) ≡ n
sub1_of-sub1_in n = go (eqb n 0) refl
  where
    go : (t : Bool) → eqb n 0 ≡ t → sub1_of (pick t none (some (n - 1))) ≡ n
    go true p = sym (eqb-true n 0 p)
    go false p = let d = eqb-false n 0 p in omega arith

pub sub1_in-sub1_of : (o : Option ℕ) → sub1_in (sub1_of o) ≡ o
sub1_in-sub1_of none = refl
sub1_in-sub1_of (some b) = let q : 1 + b - 1 ≡ b = omega arith in rw (ne_eqb (1 + b) 0 (λ e. omega arith), q)
