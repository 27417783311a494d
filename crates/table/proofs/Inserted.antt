-- Insertion by moving elements up, renumbering the indices; what it leaves passes the test again.
use mathlib.Core.Path.{◌≡◌, refl, sym, ap, ◌∙◌, subst}
use mathlib.Core.Bool.{true, false}
use mathlib.Core.Logic.{inl, inr}
use mathlib.Core.List.{List, [], ◌∷◌, ◌++◌, map}
use Prim.Native.Nat.{ℕ, zero, suc, ◌+◌, ◌<◌, ◌≤◌}
use native.Mathlib.Numerals.{add-one}
use native.Mathlib.Omega.{arith}
use lib.ListN.{length, take, drop, length-map}
use lib.Seq.{take_at, drop_at, drop-drop, length-take-le}
use Rattle.lists.specs.Order.{All, Rising, prefix_length, insert, Comparable, sort}
use Rattle.lists.proofs.Order.{All-⇒, All-In⁺, Pairs-⇒, insert-prefix, Rising-insert, All-insert, length-insert, Pairs-insert, prefix-map, All-map⁺, Pairs-map⁺, prefix-le}
use Rattle.table.specs.Stored.{Stored, bits_of, info_of, extra_in, less, point_less, stored_of}
use Rattle.table.specs.Memory.{stored_list, stored_at, nth, index_less, order_of, sorted}
use Rattle.table.specs.Meaning.{Line}
use Rattle.table.specs.loops.Search.{place_in, point_place_in, picked, Ready, read_taken, write_taken, Apart, Kept}
use Rattle.table.proofs.StoredLaws.{less-trans, less-apart, point-apart, apart-sym, apart-differ}
use Rattle.table.proofs.Sorted.{form-store}
use Rattle.table.proofs.IndexOrder.{all-nth, index_less-trans, Rising-order_of, length-order_of, In-order_of⁻, order_of-unique}
use Rattle.lists.proofs.Filled.{fill-put, filled-long}
use Rattle.table.proofs.Entries.{entries-map, length-entries, map-bits_of-entries, map-info_of-entries}
use Rattle.table.proofs.StoreLaws.{bits-count, infos-count, order-count, order-es, entries-es, Rising-entries, ok-codes, ok-infos}
use Rattle.table.proofs.Taken.{free-apart}
use Rattle.lists.specs.Place.{shift_in, bump}
use Rattle.lists.proofs.Place.{bumped, put, bump-0, bump-suc-0, bump-suc-suc, bump<suc, shift_in-put, map-put}

-- the stored mappings keep their contents under the new indices
nth-bump : (r k : ℕ) (e : Stored) (es : List Stored) → r ≤ length es → nth (put r e es) (bump r k) ≡ nth es k
nth-bump zero k e es h = rw (bump-0 k)
nth-bump (suc r) k e [] h = absurd (omega arith)
nth-bump (suc r) zero e (d ∷ es) h = rw (bump-suc-0 r)
nth-bump (suc r) (suc k) e (d ∷ es) h = rw (bump-suc-suc r k) (nth-bump r k e es (omega arith))

nth-put : (r : ℕ) (e : Stored) (es : List Stored) → r ≤ length es → nth (put r e es) r ≡ e
nth-put zero e es h = refl
nth-put (suc r) e [] h = absurd (omega arith)
nth-put (suc r) e (d ∷ es) h = nth-put r e es (omega arith)

-- the new order is the old one renumbered, with the new index at its place
module _ (es : List Stored) (e : Stored) (s : Rising less es) (f : All (λ x. x ≡ e → ⊥) es) where
  abbrev at : ℕ
  at = place_in e es

  abbrev new : List Stored
  new = insert less e es

  at-le : at ≤ length es
  at-le = prefix-le (λ x. less x e) es

  new_is : new ≡ put at e es
  new_is = insert-prefix less e es

  new-rising : Rising less new
  new-rising = Rising-insert less less-trans e es (All-⇒ (λ x d. less-apart e x (λ p. d (sym p))) es f) s

  new-length : length new ≡ suc (length es)
  new-length = length-insert less e es

  new-bump : (k : ℕ) → nth new (bump at k) ≡ nth es k
  new-bump k = rw new_is (nth-bump at k e es at-le)

  new-at : nth new at ≡ e
  new-at = rw new_is (nth-put at e es at-le)

  old-less : (i j : ℕ) → index_less new (bump at i) (bump at j) ≡ index_less es i j
  unfolding index_less
  old-less i j = λ t. point_less (new-bump i t) (new-bump j t)

  new-less : (k : ℕ) → index_less new (bump at k) at ≡ point_less (nth es k) e
  unfolding index_less
  new-less k = λ t. point_less (new-bump k t) (new-at t)

  less-new : (k : ℕ) → index_less new at (bump at k) ≡ point_less e (nth es k)
  unfolding index_less
  less-new k = λ t. point_less (new-at t) (new-bump k t)

  abbrev ord : List ℕ
  ord = order_of es

  abbrev moved : List ℕ
  moved = map (bump at) ord

  inside : All (λ k. k < length es) ord
  inside = All-In⁺ ord (λ k i. In-order_of⁻ es k i)

  moved_inside : All (λ k. k < length new) moved
  moved_inside = All-map⁺ (bump at) (λ k. k < length new) ord (All-⇒ (λ k (q : k < length es). let b = bump<suc at k (length es) q in let a : bump at k < length new = omega (arith, new-length) in a) ord inside)

  moved-rising : Rising (index_less new) moved
  moved-rising = Pairs-map⁺ (bump at) (λ i j. index_less new i j ≡ true) ord (Pairs-⇒ {P = λ k. k < length es} (λ i j p q r. old-less i j ∙ r) ord inside (Rising-order_of es s))

  apart_by : (k : ℕ) → Comparable point_less e (nth es k) → Comparable (index_less new) at (bump at k)
  apart_by k (inl c) = inl (less-new k ∙ c)
  apart_by k (inr c) = inr (new-less k ∙ c)

  moved_apart : All (Comparable (index_less new) at) moved
  moved_apart = All-map⁺ (bump at) (Comparable (index_less new) at) ord (All-⇒ (λ k (q : k < length es). apart_by k (point-apart e (nth es k) (λ p. all-nth (λ x. x ≡ e → ⊥) es f k q (sym p)))) ord inside)

  order-insert : order_of new ≡ put (point_place_in e (map (nth es) ord)) at moved
  order-insert =
      let ins : List ℕ = insert (index_less new) at moved in
      let len : length ins ≡ length new = length-insert (index_less new) at moved ∙ ap suc (length-map ord (bump at) ∙ length-order_of es) ∙ sym new-length in
      let here : at < length new = omega (arith, new-length, at-le) in
      let u : ins ≡ order_of new = order_of-unique new ins new-rising len (All-insert (index_less new) (λ k. k < length new) at moved here moved_inside) (Rising-insert (index_less new) (index_less-trans new) at moved moved_apart moved-rising) in
      let place : prefix_length (λ k. index_less new k at) moved ≡ point_place_in e (map (nth es) ord) =
      prefix-map (bump at) (λ k. index_less new k at) ord ∙ (λ t. prefix_length (λ k. new-less k t) ord) ∙ sym (prefix-map (nth es) (λ x. point_less x e) ord) in
      sym u ∙ insert-prefix (index_less new) at moved ∙ ap (λ (k : ℕ). put k at moved) place

module _ (n : ℕ) (codes infos order : List ℕ) (e : Stored) (r : Ready n codes infos order e) where
  abbrev held : List Stored
  held = stored_list (take n codes) (take n infos)

  clen : length (take n codes) ≡ n
  clen = length-take-le n codes (omega (arith, r.codes-room))

  ilen : length (take n infos) ≡ n
  ilen = length-take-le n infos (omega (arith, r.infos-room))

  olen : length (take n order) ≡ n
  olen = length-take-le n order (omega (arith, r.order-room))

  held-codes : map bits_of held ≡ take n codes
  held-codes = map-bits_of-entries (take n codes) (take n infos) (clen ∙ sym ilen)

  held-infos : map info_of held ≡ take n infos
  held-infos = map-info_of-entries (take n codes) (take n infos) (clen ∙ sym ilen)

  held-count : length held ≡ n
  held-count = length-entries (take n codes) (take n infos) (clen ∙ sym ilen) ∙ clen

  abbrev look : List Stored
  look = picked (take n codes) (take n infos) (take n order)

  look_is : look ≡ map (nth held) (order_of held)
  look_is = λ t. map (stored_at (sym held-codes t) (sym held-infos t)) (r.ordered-is t)

  order_small : All (λ k. k < n) (take n order)
  order_small = rw r.ordered-is (All-In⁺ (order_of held) (λ k i. let q = In-order_of⁻ held k i in let a : k < n = omega (arith, held-count) in a))

  look-rising : Rising point_less look
  unfolding index_less
  look-rising = subst (λ (l : List Stored). Rising point_less l) (sym look_is) (Pairs-map⁺ (nth held) (λ a b. point_less a b ≡ true) (order_of held) (Rising-order_of held r.rising))

  pub place-needs : (length (take n codes) ≡ length (take n infos)) × Rising less held
  place-needs = (clen ∙ sym ilen, r.rising)

  pub point-needs : (length (take n codes) ≡ length (take n infos)) × All (λ k. k < length (take n codes)) (take n order) × Rising point_less look
  point-needs = (clen ∙ sym ilen, All-⇒ (λ k (q : k < n). let a : k < length (take n codes) = omega (arith, clen) in a) (take n order) order_small, look-rising)

  pub renumber-needs : n < 4294967296 → (n ≤ length order) × (n < 4294967296) × All (λ k. k < n) (take n order)
  renumber-needs small = (omega (arith, r.order-room), small, order_small)

  pub codes-done : (p : ℕ) → p ≤ n → p ≡ place_in e held → shift_in n p e.bits codes ≡ map bits_of (insert less e held) ++ drop (n + 1) codes
  codes-done p h q = rw (insert-prefix less e held, ← q, map-put bits_of, held-codes) (shift_in-put n e.bits p codes h)

  pub infos-done : (p : ℕ) → p ≤ n → p ≡ place_in e held → shift_in n p e.info infos ≡ map info_of (insert less e held) ++ drop (n + 1) infos
  infos-done p h q = rw (insert-prefix less e held, ← q, map-put info_of, held-infos) (shift_in-put n e.info p infos h)

  pub order-done : (p z : ℕ) (m : List ℕ) → z ≤ n → p ≡ place_in e held → z ≡ point_place_in e look → m ≡ bumped p n order → shift_in n z p m ≡ order_of (insert less e held) ++ drop (n + 1) order
  order-done p z m h q w b =
      let len : length (map (bump p) (take n order)) ≡ n = length-map (take n order) (bump p) ∙ olen in
      let tk : take n m ≡ map (bump p) (take n order) = ap (λ (x : List ℕ). take n x) b ∙ take_at (map (bump p) (take n order)) (drop n order) n len in
      let dr : drop (n + 1) m ≡ drop (n + 1) order =
      sym (drop-drop 1 n m) ∙ ap (λ (x : List ℕ). drop 1 (drop n x)) b ∙ ap (λ (x : List ℕ). drop 1 x) (drop_at (map (bump p) (take n order)) (drop n order) n len) ∙ drop-drop 1 n order in
      let k : put z p (map (bump p) (take n order)) ≡ order_of (insert less e held) =
      (λ t. put (w t) (q t) (map (bump (q t)) (r.ordered-is t)))
      ∙ ap (λ (l : List Stored). put (point_place_in e l) (place_in e held) (map (bump (place_in e held)) (order_of held))) look_is
      ∙ sym (order-insert held e r.rising r.fresh) in
      shift_in-put n p z m h ∙ ap (λ (x : List ℕ). put z p x ++ drop (n + 1) m) tk ∙ (λ t. k t ++ dr t)

-- a memory that passes is ready for a stored mapping that keeps T9 with all others
module _ (limit n : ℕ) (codes infos order : List ℕ) (k : Kept limit n codes infos order) (e : Stored) (room : n < limit) (apart : All (Apart e) k.es) where
  kept-ready : Ready n codes infos order e
  kept-ready = record {
    codes-room = omega (arith, filled-long limit codes (map bits_of k.es) (omega (arith, (bits-count limit n codes infos order k))) k.stored.codes-are);
    infos-room = omega (arith, filled-long limit infos (map info_of k.es) (omega (arith, (infos-count limit n codes infos order k))) k.stored.infos-are);
    order-room = omega (arith, filled-long limit order (order_of k.es) (omega (arith, (order-count limit n codes infos order k))) k.stored.order_is);
    rising = Rising-entries limit n codes infos order k;
    ordered-is = (order-es limit n codes infos order k) ∙ ap order_of (sym (entries-es limit n codes infos order k));
    fresh = subst (λ (l : List Stored). All (λ x. x ≡ e → ⊥) l) (sym (entries-es limit n codes infos order k)) (All-⇒ (λ x w p. apart-differ e x w.0 w.1 (sym p)) k.es apart);
  }

  new-count : length (insert less e k.es) ≡ n + 1
  new-count = length-insert less e k.es ∙ ap suc k.count ∙ sym (add-one n)

  -- what insertion leaves passes again
  kept_next : Kept limit (n + 1)
      (map bits_of (insert less e (stored_list (take n codes) (take n infos))) ++ drop (n + 1) codes)
      (map info_of (insert less e (stored_list (take n codes) (take n infos))) ++ drop (n + 1) infos)
      (order_of (insert less e (stored_list (take n codes) (take n infos))) ++ drop (n + 1) order)
  kept_next = rw (entries-es limit n codes infos order k) (record {
    es = insert less e k.es;
    count = new-count;
    rising = Rising-insert less less-trans e k.es (All-⇒ (λ x w. less-apart e x (apart-differ e x w.0 w.1)) k.es apart) k.rising;
    apart = Pairs-insert less {R = Apart} apart-sym e k.es apart k.apart;
    stored = record {
      fits = omega (arith, new-count);
      codes-are = fill-put limit n 1 (map bits_of k.es) (map bits_of (insert less e k.es)) codes (bits-count limit n codes infos order k) (length-map (insert less e k.es) bits_of ∙ new-count) (omega arith) k.stored.codes-are;
      infos-are = fill-put limit n 1 (map info_of k.es) (map info_of (insert less e k.es)) infos (infos-count limit n codes infos order k) (length-map (insert less e k.es) info_of ∙ new-count) (omega arith) k.stored.infos-are;
      order_is = fill-put limit n 1 (order_of k.es) (order_of (insert less e k.es)) order (order-count limit n codes infos order k) (length-order_of (insert less e k.es) ∙ new-count) (omega arith) k.stored.order_is;
    };
  })

-- one more line, as the loader adds it
module _ (limit n : ℕ) (codes infos order : List ℕ) (k : Kept limit n codes infos order) (e : Stored) where
  abbrev stored-now : List Stored
  stored-now = stored_list (take n codes) (take n infos)

  -- what the look-up for a taken code requires
  pub kept-read-needs : extra_in e.info < 4 → (n ≤ length codes) × (n ≤ length infos) × Rising less stored-now × (extra_in e.info < 4)
  kept-read-needs h =
      let ok = form-store limit n codes infos order k in
      (ok-codes limit n codes infos order ok, ok-infos limit n codes infos order ok, Rising-entries limit n codes infos order k, h)

  module _ (reads-free : read_taken e stored-now ≡ false) (writes-free : write_taken e stored-now ≡ false) where
    kept-apart : All (Apart e) k.es
    kept-apart = subst (λ (l : List Stored). All (Apart e) l) (entries-es limit n codes infos order k) (free-apart e stored-now reads-free writes-free)

    pub free-ready : n < limit → Ready n codes infos order e
    free-ready h = kept-ready limit n codes infos order k e h kept-apart

    pub free-next : n < limit → Kept limit (n + 1) (map bits_of (insert less e stored-now) ++ drop (n + 1) codes) (map info_of (insert less e stored-now) ++ drop (n + 1) infos) (order_of (insert less e stored-now) ++ drop (n + 1) order)
    free-next h = kept_next limit n codes infos order k e h kept-apart

  -- the stored mappings that insertion leaves
  pub next-held : stored_list (take (n + 1) (map bits_of (insert less e stored-now) ++ drop (n + 1) codes)) (take (n + 1) (map info_of (insert less e stored-now) ++ drop (n + 1) infos)) ≡ insert less e stored-now
  next-held =
      let count : length (insert less e stored-now) ≡ n + 1 = length-insert less e stored-now ∙ ap suc (ap (λ (l : List Stored). length l) (entries-es limit n codes infos order k) ∙ k.count) ∙ sym (add-one n) in
      (λ t. stored_list
      (take_at (map bits_of (insert less e stored-now)) (drop (n + 1) codes) (n + 1) (length-map (insert less e stored-now) bits_of ∙ count) t)
      (take_at (map info_of (insert less e stored-now)) (drop (n + 1) infos) (n + 1) (length-map (insert less e stored-now) info_of ∙ count) t))
      ∙ entries-map (insert less e stored-now)

-- one more line in front of others
pub sorted_more : (l : Line) (ls : List Line) → sorted (l ∷ ls) ≡ insert less (stored_of l) (sorted ls)
unfolding sort
sorted_more l ls = refl
