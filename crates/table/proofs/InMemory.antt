-- The table that a memory in a table's form holds: the same rows, header numbers and lines, so the same look-ups.
use mathlib.Core.Path.{◌≡◌, refl, sym, ap, ◌∙◌, subst}
use mathlib.Core.Bool.{Bool, true, false}
use mathlib.Core.List.{List, [], ◌∷◌, ◌++◌, map, append_assoc, map-append}
use Prim.Native.Nat.{ℕ, ◌-◌}
use lib.Dec.{eqb}
use lib.ListN.{length, take, drop, replicate, take-append-drop}
use lib.Seq.{take_at, drop_at}
use borrow.Author.Tests.{eq-eqb, eqb-true}
use Rattle.lists.specs.Pick.{pick}
use Rattle.lists.specs.Order.{All, Pairs, In}
use Rattle.lists.proofs.Laws.{clash, and_yes, and_left, and_right}
use Rattle.lists.proofs.Chains.{unless-left, unless-right}
use Rattle.lists.proofs.Order.{All-×⁺, first_of-unique}
use Rattle.lists.proofs.Pairs.{Pairs-unique}
use Rattle.table.specs.Limits.{Limits, needed}
use Rattle.table.specs.Cells.{Cell, cell_in}
use Rattle.table.specs.Codes.{bytes_of}
use Rattle.table.specs.Meaning.{Line, Table, flat, is_read, decides_point, reader, writer}
use Rattle.table.specs.Rules.{shares_bytes, shares_point, t9, Keeps}
use Rattle.table.specs.Stored.{line_in}
use Rattle.table.specs.Slices.{Slices}
use Rattle.table.specs.Memory.{sorted, numbers_of, sub1_in, record_of, pieces, table_in, Form, Proper, lines_in}
use Rattle.table.specs.declared.valid.Record.{Record}
use Rattle.table.proofs.CellLaws.{map-cell_in-cell_number}
use Rattle.table.proofs.Packing.{unpacked-packed}
use Rattle.table.specs.loops.Progress.{GoodLine}
use Rattle.table.proofs.FormLines.{keeps-good, entries-Form}
use Rattle.table.proofs.ReadBack.{stored_there, stored_back}
use Rattle.lists.proofs.Strings.{same⇒≡, same_refl}
use Rattle.table.specs.Forms.{SameTable}
use Rattle.table.proofs.FormTested.{sub-length}
use Rattle.table.proofs.NumbersBack.{sub1_in-sub1_of}
use Rattle.lists.specs.Strings.{same}
use Rattle.lists.specs.Tests.{any_of}
use Rattle.lists.specs.Place.{filled}
use Rattle.lists.proofs.Tests.{any_of-no⁻}

-- rows put one behind the other, and cut again
pieces-flat : (rows : List (List Cell)) (rest : List Cell) → All (λ r. length r ≡ 256) rows → pieces (length rows) (flat rows ++ rest) ≡ rows
unfolding pieces flat
pieces-flat [] rest h = refl
pieces-flat (r ∷ rows) rest h =
    let e : (r ++ flat rows) ++ rest ≡ r ++ (flat rows ++ rest) = append_assoc r (flat rows) rest in
    (λ i. take 256 (e i) ∷ pieces (length rows) (drop 256 (e i)))
    ∙ (λ i. take_at r (flat rows ++ rest) 256 h.0 i ∷ pieces (length rows) (drop_at r (flat rows ++ rest) 256 h.0 i))
    ∙ ap (λ (l : List (List Cell)). r ∷ l) (pieces-flat rows rest h.1)

pieces-filled : (limit : ℕ) (rows : List (List Cell)) (l : List ℕ) → All (λ r. length r ≡ 256) rows → take limit l ≡ filled limit (numbers_of rows) → pieces (length rows) (map cell_in l) ≡ rows
unfolding filled
pieces-filled limit rows l h e =
    let rest : List ℕ = replicate (limit - length (numbers_of rows)) 0 ++ drop limit l in
    let whole : l ≡ numbers_of rows ++ rest =
    sym (take-append-drop limit l) ∙ ap (λ (x : List ℕ). x ++ drop limit l) e ∙ append_assoc (numbers_of rows) (replicate (limit - length (numbers_of rows)) 0) (drop limit l) in
    let cells : map cell_in l ≡ flat rows ++ map cell_in rest =
    ap (map cell_in) whole ∙ map-append cell_in (numbers_of rows) rest ∙ ap (λ (x : List Cell). x ++ map cell_in rest) (map-cell_in-cell_number (flat rows)) in
    ap (pieces (length rows)) cells ∙ pieces-flat rows (map cell_in rest) h

-- a memory in the form of t holds a table of the same meaning
module _ (lim : Limits) (t : Table) (p : Proper t) (k : Keeps lim t) (rec : Record) (m : Slices) (f : Form lim t rec m) where
  good : All GoodLine t.lines
  good = keeps-good lim t p k

  lines_are : (table_in rec m).lines ≡ map line_in (sorted t.lines)
  unfolding table_in lines_in
  lines_are = ap (map line_in) (entries-Form lim t p k rec m f)

  rows_are : (table_in rec m).rows ≡ t.rows
  unfolding table_in record_of
  rows_are = ap (λ (r : Record). pieces r.rows (map cell_in m.states)) f.record_is ∙ pieces-filled (needed lim) t.rows m.states p.rows-full f.states-are

  min-is : (table_in rec m).min ≡ t.min
  unfolding table_in record_of
  min-is = ap (λ (r : Record). r.min) f.record_is

  max-is : (table_in rec m).max ≡ t.max
  unfolding table_in record_of
  max-is = ap (λ (r : Record). r.max) f.record_is

  subchar-is : (table_in rec m).subchar ≡ t.subchar
  unfolding table_in record_of
  subchar-is = ap (λ (r : Record). bytes_of r.subchar) f.record_is ∙ unpacked-packed t.subchar p.sub-bytes (sub-length lim t p k rec m f).1

  subchar1-is : (table_in rec m).subchar1 ≡ t.subchar1
  unfolding table_in record_of
  subchar1-is = ap (λ (r : Record). sub1_in r.subchar1) f.record_is ∙ sub1_in-sub1_of t.subchar1

  pub SameTable-table_in : SameTable (table_in rec m) t
  SameTable-table_in = record {
    same_rows = rows_are;
    same-min = min-is;
    same-max = max-is;
    same-subchar = subchar-is;
    same-subchar1 = subchar1-is;
    there = λ l i. stored_there t.lines good l (subst (In l) lines_are i);
    back = λ l i. subst (In l) (sym lines_are) (stored_back t.lines good l i);
  }

-- T9 of every two lines
abbrev Differ : Line → Line → Type 0
Differ a b = (shares_bytes b a ≡ false) × (shares_point b a ≡ false)

t9-pairs : (ls : List Line) → t9 ls ≡ true → Pairs Differ ls
unfolding t9
t9-pairs [] h = tt
t9-pairs (l ∷ ls) h =
    let b = any_of (λ x. shares_bytes x l) ls in
    let p = any_of (λ x. shares_point x l) ls in
    let r = unless-right b _ h in (
      All-×⁺ (λ x. shares_bytes x l ≡ false) (λ x. shares_point x l ≡ false) ls (any_of-no⁻ (λ x. shares_bytes x l) ls (unless-left b _ h)) (any_of-no⁻ (λ x. shares_point x l) ls (unless-left p (t9 ls) r)),
      t9-pairs ls (unless-right p (t9 ls) r),
    )

-- two lines that read one code share bytes, and two that write one code point share it
reads-share : (c : List ℕ) (a b : Line) → pick (is_read a) (same a.code c) false ≡ true → pick (is_read b) (same b.code c) false ≡ true → shares_bytes b a ≡ true
reads-share c a b u v =
    and_yes (is_read b) _ (and_left (is_read b) _ v)
    (and_yes (is_read a) _ (and_left (is_read a) _ u)
    (subst (λ (s : List ℕ). same b.code s ≡ true) (same⇒≡ b.code c (and_right (is_read b) _ v) ∙ sym (same⇒≡ a.code c (and_right (is_read a) _ u))) (same_refl b.code)))

writes-share : (c : ℕ) (a b : Line) → pick (decides_point a) (eqb a.point c) false ≡ true → pick (decides_point b) (eqb b.point c) false ≡ true → shares_point b a ≡ true
writes-share c a b u v =
    and_yes (decides_point b) _ (and_left (decides_point b) _ v)
    (and_yes (decides_point a) _ (and_left (decides_point a) _ u)
    (eq-eqb b.point a.point (eqb-true b.point c (and_right (decides_point b) _ v) ∙ sym (eqb-true a.point c (and_right (decides_point a) _ u)))))

-- the order of lines does not matter to look-up
module _ (t u : Table) (s : SameTable u t) (h : t9 t.lines ≡ true) where
  pub same-reader : (c : List ℕ) → reader c u.lines ≡ reader c t.lines
  same-reader c =
      let f : Line → Bool = λ l. pick (is_read l) (same l.code c) false in
      first_of-unique f u.lines t.lines s.there s.back (Pairs-unique f Differ (λ a b p q d. clash (reads-share c a b p q) d.0) t.lines (t9-pairs t.lines h))

  pub same_writer : (c : ℕ) → writer c u.lines ≡ writer c t.lines
  same_writer c =
      let f : Line → Bool = λ l. pick (decides_point l) (eqb l.point c) false in
      first_of-unique f u.lines t.lines s.there s.back (Pairs-unique f Differ (λ a b p q d. clash (writes-share c a b p q) d.1) t.lines (t9-pairs t.lines h))
