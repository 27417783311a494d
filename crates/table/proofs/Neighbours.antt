-- T10 by neighbours: of stored mappings that rise, each that only writes stands behind one of its own code exactly when T10 holds.
-- backed-t10     of any stored mappings of the form that rise
-- backed-lines   of the lines that a text has given
-- mappings-tested   the mapping slices in the order of the code, with all that one pass over the stored mappings tests
-- Assumes nothing.
use mathlib.Core.Path.{◌≡◌, refl, sym, ap, subst, ◌∙◌}
use mathlib.Core.Bool.{Bool, true, false}
use mathlib.Core.Logic.{◌⊎◌, inl, inr}
use mathlib.Core.List.{List, [], ◌∷◌, map}
use Prim.Native.Nat.{ℕ, ◌+◌, ◌-◌, ◌≤◌}
use native.Mathlib.Omega.{arith}
use lib.Dec.{leb, eqb}
use lib.ListN.{length, take, drop}
use borrow.Author.Tests.{eqb-true, eq-eqb, leb-true, leb-false}
use Rattle.lists.specs.Pick.{pick}
use Rattle.lists.specs.Order.{All, In, Rising, rises, rises_from}
use Rattle.lists.specs.Tests.{all_of, zeros}
use Rattle.lists.proofs.Laws.{clash, ¬true⇒false, and_yes, and_left, and_right}
use Rattle.lists.proofs.Chains.{implies-right, implies-yes, unless-left}
use Rattle.lists.proofs.Choice.{⇔⇒≡}
use Rattle.lists.proofs.Order.{All-⇒, All-In⁻, All-map⁺, All-sort, In-map⁺, In-map⁻}
use Rattle.lists.proofs.Pairs.{rises-and}
use Rattle.lists.proofs.AllAny.{all_true}
use Rattle.table.specs.States.{Rows}
use Rattle.table.specs.Codes.{packed, unpacked}
use Rattle.table.specs.Meaning.{Line, is_read, only_writes}
use Rattle.table.specs.Rules.{t9, t10}
use Rattle.table.specs.Stored.{Stored, rank_in, extra_in, indicator_in, stored_of, line_in, stored_ok, stored_is_read, less, read_next}
use Rattle.table.specs.Limits.{Limits}
use Rattle.table.specs.Memory.{sorted, stored_list, lines_in}
use Rattle.table.specs.Valid.{ordered, store_ok, line_ok}
use Rattle.table.specs.loops.Backed.{stored_only_writes, backed_by, first_backed, backed, line_next}
use Rattle.table.specs.loops.Progress.{GoodLine}
use Rattle.table.specs.declared.valid.Record.{Record}
use Rattle.table.proofs.Packing.{pack-unpack, length-unpacked}
use Rattle.table.proofs.Ranks.{rank-case}
use Rattle.table.proofs.StoredLaws.{less-trans, read_key, code⇒read_key, read_key⇒code, rank_rises, code-between}
use Rattle.table.proofs.StoredLine.{ok-rank, ok-padded, stored-of-ok}
use Rattle.table.proofs.Sorted.{read_next⇒less, sorted-rising}
use Rattle.table.proofs.LineClashes.{t9⇒AllApart}
use Rattle.table.proofs.TestParts.{mappings-are, line_kept}
use Rattle.table.proofs.ReadBack.{ReadBack, t10⇒ReadBack, ReadBack⇒t10, t10-sorted}

-- ## Stored mappings and their lines

-- one code, as a line has it and as it is stored
module _ (a b : Stored) where
  code-key : stored_ok a ≡ true → stored_ok b ≡ true → (line_in a).code ≡ (line_in b).code → read_key a ≡ read_key b
  unfolding line_in
  code-key p q e =
      let n : extra_in a.info ≡ extra_in b.info =
      omega (arith, length-unpacked (extra_in a.info + 1) a.bits, length-unpacked (extra_in b.info + 1) b.bits, ap (λ (c : List ℕ). length c) e) in
      let c : a.bits ≡ b.bits =
      sym (pack-unpack (extra_in a.info + 1) a.bits (ok-padded a p)) ∙ ap packed e ∙ pack-unpack (extra_in b.info + 1) b.bits (ok-padded b q) in
      λ i. (c i, n i)

  key-code : read_key a ≡ read_key b → (line_in a).code ≡ (line_in b).code
  unfolding line_in
  key-code e = ap (λ (k : ℕ × ℕ). unpacked (k.1 + 1) k.0) e

module _ (e : Stored) (ok : stored_ok e ≡ true) where
  line_reads : is_read (line_in e) ≡ stored_is_read e
  unfolding line_in
  line_reads =
      rank-case (λ r. pick (eqb (indicator_in r) 0) true (eqb (indicator_in r) 3) ≡ leb r 1) refl refl refl refl (rank_in e.info) (ok-rank e ok)

  line-only : only_writes (line_in e) ≡ stored_only_writes e
  unfolding line_in
  line-only = rank-case (λ r. eqb (indicator_in r) 1 ≡ eqb r 2) refl refl refl refl (rank_in e.info) (ok-rank e ok)

-- a stored mapping whose code some stored mapping reads
abbrev Back : List Stored → Stored → Type 0
Back es e = (x : Stored) × In x es × (stored_is_read x ≡ true) × (read_key x ≡ read_key e)

abbrev AllBack : List Stored → Type 0
AllBack es = (e : Stored) → In e es → stored_only_writes e ≡ true → Back es e

module _ (es : List Stored) (oks : All (λ e. stored_ok e ≡ true) es) where
  ok : (e : Stored) → In e es → stored_ok e ≡ true
  ok e i = All-In⁻ (λ x. stored_ok x ≡ true) e es oks i

  ReadBack⇒AllBack : ReadBack (map line_in es) → AllBack es
  ReadBack⇒AllBack h e i w =
      let (l, j, p, q) = h (line_in e) (In-map⁺ line_in e es i) (line-only e (ok e i) ∙ w) in
      let (x, (k, s)) = In-map⁻ line_in l es j in
      (x, k, sym (line_reads x (ok x k)) ∙ ap (λ (y : Line). is_read y) (sym s) ∙ p, code-key x e (ok x k) (ok e i) (ap (λ (y : Line). y.code) (sym s) ∙ q))

  AllBack⇒ReadBack : AllBack es → ReadBack (map line_in es)
  AllBack⇒ReadBack h l j w =
      let (e, (i, s)) = In-map⁻ line_in l es j in
      let (x, k, p, q) = h e i (sym (line-only e (ok e i)) ∙ ap (λ (y : Line). only_writes y) (sym s) ∙ w) in
      (line_in x, In-map⁺ line_in x es k, line_reads x (ok x k) ∙ p, key-code x e q ∙ ap (λ (y : Line). y.code) (sym s))

-- ## From neighbours to all
reads-or-only : (e : Stored) → rank_in e.info ≤ 2 → (stored_is_read e ≡ true) ⊎ (stored_only_writes e ≡ true)
reads-or-only e h = go (leb (rank_in e.info) 1) refl
  where
    go : (b : Bool) → leb (rank_in e.info) 1 ≡ b → (b ≡ true) ⊎ (stored_only_writes e ≡ true)
    go true p = inl refl
    go false p = inr (eq-eqb (rank_in e.info) 2 (omega (arith, leb-false (rank_in e.info) 1 p)))

module _ (all : List Stored) where
  -- of a line that reads, or only writes: some line reads its code
  abbrev CodeRead : Stored → Type 0
  CodeRead e = rank_in e.info ≤ 2 → Back all e

  backed-next : (x y : Stored) → less x y ≡ true → backed_by x y ≡ true → CodeRead x → In y all → CodeRead y
  unfolding backed_by
  backed-next x y l b q i few = go (reads-or-only y few)
    where
      go : (stored_is_read y ≡ true) ⊎ (stored_only_writes y ≡ true) → Back all y
      go (inl r) = (y, i, r, refl)
      go (inr w) =
          let k : read_key x ≡ read_key y = code⇒read_key x y (implies-right (stored_only_writes y) _ b w) in
          let (z, j, r, e) = q (omega (arith, rank_rises x y l k)) in
          (z, j, r, e ∙ k)

  backed-from : (x : Stored) (l : List Stored) → CodeRead x → Rising less (x ∷ l) → rises_from backed_by x l ≡ true → ((e : Stored) → In e l → In e all)
      → (e : Stored) → In e l → CodeRead e
  unfolding rises_from
  backed-from x [] q r b within e i = absurd i
  backed-from x (y ∷ l) q r b within e (inl s) =
      subst CodeRead (sym s) (backed-next x y r.0.0 (and_left (backed_by x y) _ b) q (within y (inl refl)))
  backed-from x (y ∷ l) q r b within e (inr j) =
      backed-from y l (backed-next x y r.0.0 (and_left (backed_by x y) _ b) q (within y (inl refl))) r.1
      (and_right (backed_by x y) _ b) (λ z k. within z (inr k)) e j

backed⇒AllBack : (es : List Stored) → Rising less es → backed es ≡ true → AllBack es
unfolding rises
backed⇒AllBack [] r b e i w = absurd i
backed⇒AllBack (x ∷ l) r b e i w = go i (omega (arith, eqb-true (rank_in e.info) 2 w))
  where
    first : CodeRead (x ∷ l) x
    first few = by (reads-or-only x few)
      where
        by : (stored_is_read x ≡ true) ⊎ (stored_only_writes x ≡ true) → Back (x ∷ l) x
        by (inl p) = (x, inl refl, p, refl)
        by (inr p) = absurd (clash p (unless-left (stored_only_writes x) true (and_left (first_backed (x ∷ l)) _ b)))

    go : In e (x ∷ l) → CodeRead (x ∷ l) e
    go (inl s) = subst (CodeRead (x ∷ l)) (sym s) first
    go (inr j) = backed-from (x ∷ l) x l first r (and_right (first_backed (x ∷ l)) _ b) (λ z k. inr k) e j

-- ## From all to neighbours

-- the line that reads a code comes before those that only write it
reads_only : (x y : Stored) → stored_is_read x ≡ true → stored_only_writes y ≡ true → rank_in y.info ≤ rank_in x.info → ⊥
reads_only x y p w h = omega (arith, leb-true (rank_in x.info) 1 p, eqb-true (rank_in y.info) 2 w)

-- every member stands behind x, or is x, or before it
abbrev Passed : List Stored → Stored → List Stored → Type 0
Passed all x l = (z : Stored) → In z all → In z l ⊎ ((z ≡ x) ⊎ (less z x ≡ true))

module _ (all : List Stored) (back : AllBack all) where
  next-backed : (x y : Stored) (l : List Stored) → Passed all x (y ∷ l) → less x y ≡ true → All (λ z. less y z ≡ true) l → In y all → backed_by x y ≡ true
  unfolding backed_by
  next-backed x y l at p later i =
      implies-yes (stored_only_writes y) _ (λ w. let (z, j, r, e) = back y i w in read_key⇒code x y (go z r e w (at z j)))
    where
      go : (z : Stored) → stored_is_read z ≡ true → read_key z ≡ read_key y → stored_only_writes y ≡ true → In z (y ∷ l) ⊎ ((z ≡ x) ⊎ (less z x ≡ true)) → read_key x ≡ read_key y
      go z r e w (inl (inl s)) = absurd (reads_only z y r w (omega (arith, ap (λ (v : Stored). rank_in v.info) s)))
      go z r e w (inl (inr k)) = absurd (reads_only z y r w (rank_rises y z (All-In⁻ (λ v. less y v ≡ true) z l later k) (sym e)))
      go z r e w (inr (inl s)) = ap read_key (sym s) ∙ e
      go z r e w (inr (inr h)) = sym (code-between z x y h p e) ∙ e

  all-backed : (x : Stored) (l : List Stored) → Passed all x l → Rising less (x ∷ l) → ((e : Stored) → In e l → In e all) → rises_from backed_by x l ≡ true
  unfolding rises_from
  all-backed x [] at r within = refl
  all-backed x (y ∷ l) at r within =
      and_yes (backed_by x y) _ (next-backed x y l at r.0.0 r.1.0 (within y (inl refl)))
      (all-backed y l (λ z j. go z (at z j)) r.1 (λ z k. within z (inr k)))
    where
      go : (z : Stored) → In z (y ∷ l) ⊎ ((z ≡ x) ⊎ (less z x ≡ true)) → In z l ⊎ ((z ≡ y) ⊎ (less z y ≡ true))
      go z (inl (inl s)) = inr (inl s)
      go z (inl (inr k)) = inl k
      go z (inr (inl s)) = inr (inr (subst (λ (v : Stored). less v y ≡ true) (sym s) r.0.0))
      go z (inr (inr h)) = inr (inr (less-trans z x y h r.0.0))

AllBack⇒backed : (es : List Stored) → Rising less es → AllBack es → backed es ≡ true
unfolding rises
AllBack⇒backed [] r h = refl
AllBack⇒backed (x ∷ l) r h =
    and_yes (first_backed (x ∷ l)) _ (ap (λ (b : Bool). pick b false true) (¬true⇒false (stored_only_writes x) (λ w. let (z, j, p, e) = h x (inl refl) w in first z p e w j)))
    (all-backed (x ∷ l) h x l passed r (λ z k. inr k))
  where
    first : (z : Stored) → stored_is_read z ≡ true → read_key z ≡ read_key x → stored_only_writes x ≡ true → In z (x ∷ l) → ⊥
    first z p e w (inl s) = reads_only z x p w (omega (arith, ap (λ (v : Stored). rank_in v.info) s))
    first z p e w (inr k) = reads_only z x p w (rank_rises x z (All-In⁻ (λ v. less x v ≡ true) z l r.0 k) (sym e))

    passed : Passed (x ∷ l) x l
    passed z (inl s) = inr (inl s)
    passed z (inr k) = inl k

-- ## The test by neighbours is T10
pub backed-t10 : (es : List Stored) → Rising less es → All (λ e. stored_ok e ≡ true) es → backed es ≡ t10 (map line_in es)
backed-t10 es r oks =
    ⇔⇒≡ (backed es) (t10 (map line_in es))
    (λ h. ReadBack⇒t10 (map line_in es) (AllBack⇒ReadBack es oks (backed⇒AllBack es r h)))
    (λ h. AllBack⇒backed es r (ReadBack⇒AllBack es oks (t10⇒ReadBack (map line_in es) h)))

-- of the lines that a text has given
pub backed-lines : (ls : List Line) → All GoodLine ls → t9 ls ≡ true → backed (sorted ls) ≡ t10 ls
backed-lines ls gs apart =
    backed-t10 (sorted ls) (sorted-rising (map stored_of ls) (t9⇒AllApart ls gs apart))
    (All-sort less (λ e. stored_ok e ≡ true) (map stored_of ls) (All-map⁺ stored_of (λ e. stored_ok e ≡ true) ls (All-⇒ stored-of-ok ls gs)))
    ∙ t10-sorted ls gs

-- ## The pass of the test behind 60
tested-lines : (step : Rows) (rec : Record) (es : List Stored)
    → pick (rises read_next es) (pick (t10 (map line_in es)) (all_of (line_ok step rec) es) false) false
    ≡ pick (first_backed es) (pick (rises line_next es) (all_of (line_ok step rec) es) false) false
tested-lines step rec es = ⇔⇒≡ _ _ there back
  where
    formed : all_of (line_ok step rec) es ≡ true → All (λ e. stored_ok e ≡ true) es
    formed h = All-⇒ (λ e k. (line_kept step rec e k).formed) es (all_true (line_ok step rec) es h)

    there : pick (rises read_next es) (pick (t10 (map line_in es)) (all_of (line_ok step rec) es) false) false ≡ true
        → pick (first_backed es) (pick (rises line_next es) (all_of (line_ok step rec) es) false) false ≡ true
    there h =
        let r = and_left (rises read_next es) _ h in
        let t = and_right (rises read_next es) _ h in
        let l = and_right (t10 (map line_in es)) _ t in
        let b = backed-t10 es (read_next⇒less es r) (formed l) ∙ and_left (t10 (map line_in es)) _ t in
        and_yes (first_backed es) _ (and_left (first_backed es) _ b)
        (and_yes (rises line_next es) _
        (rises-and backed_by read_next es ∙ and_yes (rises backed_by es) _ (and_right (first_backed es) _ b) r) l)

    back : pick (first_backed es) (pick (rises line_next es) (all_of (line_ok step rec) es) false) false ≡ true
        → pick (rises read_next es) (pick (t10 (map line_in es)) (all_of (line_ok step rec) es) false) false ≡ true
    back h =
        let f = and_left (first_backed es) _ h in
        let t = and_right (first_backed es) _ h in
        let l = and_right (rises line_next es) _ t in
        let n = sym (rises-and backed_by read_next es) ∙ and_left (rises line_next es) _ t in
        let r = and_right (rises backed_by es) _ n in
        and_yes (rises read_next es) _ r
        (and_yes (t10 (map line_in es)) _
        (sym (backed-t10 es (read_next⇒less es r) (formed l)) ∙ and_yes (first_backed es) _ f (and_left (rises backed_by es) _ n)) l)

three_first : (a b c d : Bool) → pick a (pick b (pick c d false) false) false ≡ pick (pick a (pick b c false) false) d false
three_first true true c d = refl
three_first true false c d = refl
three_first false b c d = refl

pub mappings-tested : (lim : Limits) (step : Rows) (rec : Record) (codes infos order : List ℕ)
    → let n = rec.mappings in
    let es = stored_list (take n codes) (take n infos) in
    pick (store_ok lim.mappings n codes infos order)
    (pick (t10 (lines_in rec codes infos)) (all_of (line_ok step rec) es) false) false
    ≡ pick (leb n lim.mappings)
    (pick (pick (leb lim.mappings (length codes))
    (pick (leb lim.mappings (length infos)) (leb lim.mappings (length order)) false) false)
    (pick (pick (first_backed es) (pick (rises line_next es) (all_of (line_ok step rec) es) false) false)
    (pick (ordered (take n codes) (take n infos) (take n order))
    (pick (zeros (take (lim.mappings - n) (drop n codes)))
    (pick (zeros (take (lim.mappings - n) (drop n infos)))
    (zeros (take (lim.mappings - n) (drop n order)))
    false) false) false) false) false) false
unfolding lines_in
mappings-tested lim step rec codes infos order =
    mappings-are lim.mappings rec.mappings codes infos order _ _
    (tested-lines step rec (stored_list (take rec.mappings codes) (take rec.mappings infos)))
    ∙ ap (λ (b : Bool). pick (leb rec.mappings lim.mappings) b false)
    (three_first (leb lim.mappings (length codes)) (leb lim.mappings (length infos)) (leb lim.mappings (length order)) _)
