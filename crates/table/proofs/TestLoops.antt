-- The loops of the test behind 60: the lines in one pass (lines-*), then the indices (ordered-*, index-*). T10 at END CHARMAP is such a
-- pass too (lines-backed).
use mathlib.Core.Path.{◌≡◌, refl, sym, ap, ◌∙◌}
use mathlib.Core.Bool.{Bool, true, false}
use mathlib.Core.List.{List, [], ◌∷◌}
use Prim.Native.Nat.{ℕ, ◌+◌, ◌<◌, ◌≤◌}
use native.Mathlib.Omega.{arith}
use lib.ListN.{length, drop, get_or}
use borrow.Author.Tests.{lt-ltb, le-ltb}
use Rattle.lists.specs.Pick.{pick}
use Rattle.lists.specs.Order.{rises_from, rises}
use Rattle.lists.proofs.Choice.{pick-false-false, pick-true-false}
use Rattle.lists.proofs.AllAny.{true-all}
use Rattle.lists.proofs.Order.{All-In⁺}
use Rattle.lists.proofs.Laws.{drop-∷, drop_past}
use Rattle.table.specs.Stored.{Stored, mk, write_next}
use Rattle.table.specs.loops.Backed.{stored_only_writes, backed_by, first_backed, backed}
use Rattle.table.specs.Memory.{stored_list, stored_at}
use Rattle.table.specs.Valid.{index_next, ordered}
use Rattle.table.proofs.Entries.{entries-step, entries-end}
use Rattle.lists.specs.Tests.{all_of}

-- stored mappings, each beside the next and for each of which f holds, in one pass
module _ (next : Stored → Stored → Bool) (f : Stored → Bool) where
  abbrev pub lines_all : List Stored → Bool
  lines_all l = pick (first_backed l) (pick (rises next l) (all_of f l) false) false

  abbrev pub lines_from : Stored → List Stored → Bool
  lines_from x l = pick (rises_from next x l) (all_of f l) false

  pub lines_none : (a b : List ℕ) → length a ≡ 0 → true ≡ lines_all (stored_list a b)
  unfolding rises all_of
  lines_none a b h = ap lines_all (sym (entries-end a b 0 (omega arith)))

  module _ (a b : List ℕ) (e : length a ≡ length b) where
    module _ (h : length a ≡ 0 → ⊥) where
      abbrev head : Stored
      head = mk (get_or a 0 0) (get_or b 0 0)

      abbrev tail : List Stored
      tail = stored_list (drop 1 a) (drop 1 b)

      lines-head : lines_all (stored_list a b)
          ≡ pick (pick (stored_only_writes head) false true)
          (pick (rises_from next head tail) (pick (f head) (all_of f tail) false) false) false
      unfolding rises all_of
      lines-head = ap lines_all (entries-step a b 0 e (omega arith))

      pub lines-void : stored_only_writes head ≡ true → lines_all (stored_list a b) ≡ false
      lines-void w =
          lines-head ∙ ap (λ (t : Bool). pick (pick t false true)
          (pick (rises_from next head tail) (pick (f head) (all_of f tail) false) false) false) w

      pub lines-out : f head ≡ false → lines_all (stored_list a b) ≡ false
      lines-out q =
          lines-head ∙ ap (λ (t : Bool). pick (pick (stored_only_writes head) false true)
          (pick (rises_from next head tail) (pick t (all_of f tail) false) false) false) q
          ∙ ap (λ (t : Bool). pick (pick (stored_only_writes head) false true) t false) (pick-false-false (rises_from next head tail))
          ∙ pick-false-false (pick (stored_only_writes head) false true)

      pub lines_start : stored_only_writes head ≡ false → f head ≡ true → lines_all (stored_list a b) ≡ lines_from head tail
      lines_start w q =
          lines-head ∙ (λ t. pick (pick (w t) false true)
          (pick (rises_from next head tail) (pick (q t) (all_of f tail) false) false) false)

    module _ (x : Stored) (k : ℕ) (h : k < length a) where
      abbrev here : Stored
      here = mk (get_or a k 0) (get_or b k 0)

      abbrev behind : List Stored
      behind = stored_list (drop (k + 1) a) (drop (k + 1) b)

      lines_step : lines_from x (stored_list (drop k a) (drop k b))
          ≡ pick (pick (next x here) (rises_from next here behind) false)
          (pick (f here) (all_of f behind) false) false
      unfolding rises_from all_of
      lines_step = ap (lines_from x) (entries-step a b k e h)

      pub lines_more : next x here ≡ true
          → f here ≡ true
          → lines_from x (stored_list (drop k a) (drop k b)) ≡ lines_from here behind
      lines_more p q =
          lines_step ∙ (λ t. pick (pick (p t) (rises_from next here behind) false)
          (pick (q t) (all_of f behind) false) false)

      pub lines-fall : next x here ≡ false → lines_from x (stored_list (drop k a) (drop k b)) ≡ false
      lines-fall p =
          lines_step ∙ (λ t. pick (pick (p t) (rises_from next here behind) false)
          (pick (f here) (all_of f behind) false) false)

      pub lines-break : f here ≡ false → lines_from x (stored_list (drop k a) (drop k b)) ≡ false
      lines-break q =
          lines_step ∙ (λ t. pick (pick (next x here) (rises_from next here behind) false)
          (pick (q t) (all_of f behind) false) false)
          ∙ pick-false-false (pick (next x here) (rises_from next here behind) false)

  pub lines_end : (x : Stored) (a b : List ℕ) (k : ℕ) → length a ≤ k → lines_from x (stored_list (drop k a) (drop k b)) ≡ true
  unfolding rises_from all_of
  lines_end x a b k h = ap (lines_from x) (entries-end a b k h)

-- where nothing is asked of each by itself
abbrev pub any_line : Stored → Bool
any_line e = true

pub lines-backed : (l : List Stored) → lines_all backed_by any_line l ≡ backed l
lines-backed l =
    ap (λ (t : Bool). pick (first_backed l) t false)
    (ap (λ (t : Bool). pick (rises backed_by l) t false) (true-all any_line l (All-In⁺ l (λ e i. refl)))
    ∙ pick-true-false (rises backed_by l))

-- the indices
pub ordered-none : (a b o : List ℕ) → length o ≡ 0 → true ≡ ordered a b o
unfolding ordered
ordered-none a b [] h = refl
ordered-none a b (x ∷ o) h = absurd (omega arith)

pub ordered-out : (a b o : List ℕ) → (length o ≡ 0 → ⊥) → length a ≤ get_or o 0 0 → false ≡ ordered a b o
unfolding ordered
ordered-out a b [] h q = absurd (h refl)
ordered-out a b (x ∷ o) h q = rw (le-ltb x (length a) q)

pub ordered-start : (a b o : List ℕ)
    → (length o ≡ 0 → ⊥)
    → get_or o 0 0 < length a
    → ordered a b o ≡ rises_from (index_next a b) (get_or o 0 0) (drop 1 o)
unfolding ordered
ordered-start a b [] h q = absurd (h refl)
ordered-start a b (x ∷ o) h q = rw (lt-ltb x (length a) q)

pub index-out : (a b o : List ℕ) (p k : ℕ)
    → k < length o
    → length a ≤ get_or o k 0
    → rises_from (index_next a b) p (drop k o) ≡ false
unfolding rises_from index_next
index-out a b o p k h q = rw (drop-∷ o k h, le-ltb (get_or o k 0) (length a) q)

pub index-more : (a b o : List ℕ) (p k : ℕ)
    → k < length o
    → get_or o k 0 < length a
    → write_next (stored_at a b p) (stored_at a b (get_or o k 0)) ≡ true
    → rises_from (index_next a b) p (drop k o) ≡ rises_from (index_next a b) (get_or o k 0) (drop (k + 1) o)
unfolding rises_from index_next
index-more a b o p k h q w = rw (drop-∷ o k h, lt-ltb (get_or o k 0) (length a) q, w)

pub index-no : (a b o : List ℕ) (p k : ℕ)
    → k < length o
    → get_or o k 0 < length a
    → write_next (stored_at a b p) (stored_at a b (get_or o k 0)) ≡ false
    → rises_from (index_next a b) p (drop k o) ≡ false
unfolding rises_from index_next
index-no a b o p k h q w = rw (drop-∷ o k h, lt-ltb (get_or o k 0) (length a) q, w)

pub index-end : (a b o : List ℕ) (p k : ℕ) → length o ≤ k → rises_from (index_next a b) p (drop k o) ≡ true
unfolding rises_from
index-end a b o p k h = rw (drop_past o k h)
