-- What the entries of a row say of a byte: the last one that names it decides, and a byte not named is illegal.
use Prim.Native.Nat.{ℕ, zero, suc, ◌+◌, ◌-◌, ◌<◌, ◌≤◌}
use mathlib.Core.Path.{◌≡◌, refl, sym, ap, ◌∙◌, subst}
use mathlib.Core.Logic.{◌⊎◌, inl, inr}
use mathlib.Core.Bool.{Bool, true, false}
use mathlib.Core.List.{List, [], ◌∷◌}
use native.Mathlib.Omega.{arith}
use lib.ListN.{length, get_or, set, replicate, get_or-replicate, length-replicate, length-set}
use lib.Seq.{get_or-set_same, get_or-set_other}
use lib.Dec.{leb}
use borrow.Author.Tests.{leb-true, leb-false}
use Rattle.lists.specs.Order.{All}
use Rattle.lists.proofs.Order.{All-⇒}
use Rattle.table.specs.Cells.{Cell, illegal}
use Rattle.table.specs.Row.{entries_of, meaning, overwritten, row_of}
use Rattle.lists.specs.Place.{fill_range}
use Rattle.table.specs.Grammar.{RowValue, Names, SaysElse, RowSays}
use Rattle.table.proofs.RowText.{Bounded, entries-bounded, overwritten-length}
use Rattle.lists.proofs.Place.{spread-turn, spread_end}
use Rattle.table.proofs.RowRead.{row_reads}
use Rattle.table.specs.Row.{Entry}

-- a byte outside a range of n bytes from i on keeps its value
spread-else : (n i to : ℕ) (v : Cell) (l : List Cell) (b : ℕ) → i + n ≡ to + 1 → to < length l → (b < i) ⊎ (to < b) → get_or (fill_range i to v l) b illegal ≡ get_or l b illegal
spread-else zero i to v l b e h c = ap (λ (r : List Cell). get_or r b illegal) (spread_end i to v l (omega arith))
spread-else (suc n) i to v l b e h c =
    ap (λ (r : List Cell). get_or r b illegal) (spread-turn i to v l (omega arith) h)
    ∙ spread-else n (i + 1) to v (set l i v) b (omega arith) (omega (arith, length-set l i v)) (further c) ∙ get_or-set_other l i b v illegal (other c)
  where
    further : (b < i) ⊎ (to < b) → (b < i + 1) ⊎ (to < b)
    further (inl x) = inl (omega arith)
    further (inr x) = inr x

    other : (b < i) ⊎ (to < b) → b ≡ i → ⊥
    other (inl x) y = omega arith
    other (inr x) y = omega arith

-- and one inside has the new one
spread-own : (n i to : ℕ) (v : Cell) (l : List Cell) (b : ℕ) → i + n ≡ to + 1 → to < length l → i ≤ b → b ≤ to → get_or (fill_range i to v l) b illegal ≡ v
spread-own zero i to v l b e h x y = absurd (omega arith)
spread-own (suc n) i to v l b e h x y =
    ap (λ (r : List Cell). get_or r b illegal) (spread-turn i to v l (omega arith) h) ∙ by_first (leb (i + 1) b) refl (spread-own n (i + 1) to v (set l i v) b (omega arith) (omega (arith, length-set l i v)))
  where
    by_first : (z : Bool) → leb (i + 1) b ≡ z → (i + 1 ≤ b → b ≤ to → get_or (fill_range (i + 1) to v (set l i v)) b illegal ≡ v) → get_or (fill_range (i + 1) to v (set l i v)) b illegal ≡ v
    by_first true k ih = ih (leb-true (i + 1) b k) y
    by_first false k ih =
        let w = leb-false (i + 1) b k in
        let q : b ≡ i = omega arith in
        spread-else n (i + 1) to v (set l i v) b (omega arith) (omega (arith, length-set l i v)) (inl w)
        ∙ ap (λ (j : ℕ). get_or (set l i v) j illegal) q ∙ get_or-set_same l i v illegal (omega arith)

-- one entry over a row
module _ (e : Entry) (row : List Cell) (b : ℕ) (h : e.hi < length row) where
  entry-says : (Names e b × (get_or (fill_range e.lo e.hi (meaning e) row) b illegal ≡ meaning e))
      ⊎ ((Names e b → ⊥) × (get_or (fill_range e.lo e.hi (meaning e) row) b illegal ≡ get_or row b illegal))
  entry-says = by-range (leb e.lo e.hi) refl (leb e.lo b) refl (leb b e.hi) refl
    where
      by-range : (x : Bool) → leb e.lo e.hi ≡ x → (y : Bool) → leb e.lo b ≡ y → (z : Bool) → leb b e.hi ≡ z
          → (Names e b × (get_or (fill_range e.lo e.hi (meaning e) row) b illegal ≡ meaning e)) ⊎ ((Names e b → ⊥) × (get_or (fill_range e.lo e.hi (meaning e) row) b illegal ≡ get_or row b illegal))
      by-range false p y q z r =
          let k = leb-false e.lo e.hi p in inr (λ n. omega (arith, n.0, n.1), ap (λ (l : List Cell). get_or l b illegal) (spread_end e.lo e.hi (meaning e) row k))
      by-range true p true q true r =
          let k = leb-true e.lo e.hi p in
          let x = leb-true e.lo b q in
          let y = leb-true b e.hi r in
          inl ((x, y), spread-own (e.hi + 1 - e.lo) e.lo e.hi (meaning e) row b (omega arith) h x y)
      by-range true p false q z r =
          let k = leb-true e.lo e.hi p in
          let x = leb-false e.lo b q in
          inr (λ n. omega (arith, n.0), spread-else (e.hi + 1 - e.lo) e.lo e.hi (meaning e) row b (omega arith) h (inl x))
      by-range true p true q false r =
          let k = leb-true e.lo e.hi p in
          let y = leb-false b e.hi r in
          inr (λ n. omega (arith, n.1), spread-else (e.hi + 1 - e.lo) e.lo e.hi (meaning e) row b (omega arith) h (inr y))

-- entries over a row
overwritten-says : (es : List Entry) (row : List Cell) (b : ℕ) → All (λ e. e.hi < length row) es → SaysElse (get_or row b illegal) es b (get_or (overwritten meaning es row) b illegal)
unfolding overwritten
overwritten-says [] row b a = inl (tt, refl)
overwritten-says (e ∷ es) row b a =
    let next : List Cell = fill_range e.lo e.hi (meaning e) row in
    by-rest (overwritten-says es next b (subst (λ (n : ℕ). All (λ x. x.hi < n) es) (sym (overwritten-length meaning (e ∷ []) (length row) row (a.0, tt) refl)) a.1)) (entry-says e row b a.0)
  where
    by-rest : SaysElse (get_or (fill_range e.lo e.hi (meaning e) row) b illegal) es b (get_or (overwritten meaning es (fill_range e.lo e.hi (meaning e) row)) b illegal)
        → (Names e b × (get_or (fill_range e.lo e.hi (meaning e) row) b illegal ≡ meaning e)) ⊎ ((Names e b → ⊥) × (get_or (fill_range e.lo e.hi (meaning e) row) b illegal ≡ get_or row b illegal))
        → SaysElse (get_or row b illegal) (e ∷ es) b (get_or (overwritten meaning es (fill_range e.lo e.hi (meaning e) row)) b illegal)
    by-rest (inl (none, v)) (inl (n, w)) = inr ([], e, es, refl, n, none, v ∙ w)
    by-rest (inl (none, v)) (inr (n, w)) = inl ((n, none), v ∙ w)
    by-rest (inr (before, x, after, are, n, none, v)) c = inr (e ∷ before, x, after, ap (λ (l : List Entry). e ∷ l) are, n, none, v)

entries-say : (es : List Entry) (b : ℕ) → All (λ e. e.hi < 256) es → b < 256 → RowSays es b (get_or (row_of es) b illegal)
unfolding row_of
entries-say es b a h =
    subst (λ (w : Cell). SaysElse w es b (get_or (overwritten meaning es (replicate 256 illegal)) b illegal)) (get_or-replicate 256 b illegal illegal h)
    (overwritten-says es (replicate 256 illegal) b (subst (λ (n : ℕ). All (λ e. e.hi < n) es) (sym (length-replicate {A = Cell} 256 illegal)) a))

-- A ROW SAYS OF EACH BYTE WHAT THE LAST ENTRY SAYS THAT NAMES IT
pub row-says : (k : ℕ) (es : List Entry) (v : List ℕ) (b : ℕ) → RowValue k es v → b < 256 → RowSays es b (get_or (row_of es) b illegal)
row-says k es v b f h =
    entries-say es b (subst (All (λ e. e.hi < 256)) (row_reads k es v f).0 (All-⇒ (λ c (x : Bounded c). x.0) (entries_of v) (entries-bounded v))) h
