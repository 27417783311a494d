-- A text of the grammar is read as the table that it writes, and what is read so is a text of the grammar. So: accepted exactly when.
-- text-reads      a text of the grammar is read as its table              text-written       and what is read is such a text
-- one_table       one text writes one table                               accepted-exactly   a text of the grammar that keeps the rules
use Rattle.table.specs.Header.{ReadValue}
use Rattle.std.specs.Prelude.{Some, None}
use Rattle.table.specs.Header.{ReadLine}
use Rattle.std.specs.Prelude.{Ok, Err}
use Prim.Native.Nat.{ℕ, ◌+◌, ◌-◌, ◌≤◌}
use mathlib.Core.Path.{◌≡◌, refl, sym, ap, ◌∙◌, subst}
use mathlib.Core.Logic.{inl, inr, ◌↔◌}
use mathlib.Core.Bool.{Bool, true, false}
use mathlib.Core.List.{List, [], ◌∷◌, ◌++◌, reverse, reverse_aux, reverse-reverse}
use native.Mathlib.Omega.{arith}
use lib.ListN.{length, take, drop, length-map}
use lib.Dec.{leb}
use borrow.Author.Tests.{leb-true}
use Rattle.lists.specs.Pick.{pick}
use Rattle.lists.specs.Order.{All}
use Rattle.lists.proofs.Laws.{and_right}
use Rattle.table.specs.Limits.{Limits}
use Rattle.table.specs.Cells.{Cell}
use Rattle.table.specs.Meaning.{Line, Table}
use Rattle.table.specs.Rules.{Keeps}
use Rattle.table.specs.Text.{lines_of}
use Rattle.table.specs.Row.{row_of}
use Rattle.table.specs.Header.{key_of, value_of, header_line_of}
use Rattle.table.specs.Mapping.{BodyLine, no_form, reserved, blank, ending, mapping, body_line_of, after_end_of}
use Rattle.table.specs.Numbers.{in_form, n13, rows_at, key_conditions, charmap_conditions, mapping_conditions, Verdict}
use Rattle.table.specs.Load.{Reading, goes_on, stop, judged, reading, keep_value, keep_row, line_as, header_asks, mapping_asks, last_asks, judged_by, line_step, table_of, accepted, outcome_at, load_go, start, load_of, load_in_form}
use Rattle.table.specs.Grammar.{Lines, BlankLine, CharmapLine, EndLine, MappingLine, Pair, KeyLine, values_of, RowsAre, HeaderSays, Listed, TableText}
use Rattle.table.specs.declared.value.Key.{Key}
use Rattle.table.specs.Keys.{Keys, no_keys}
use Rattle.table.specs.declared.header.HeaderLine.TheVariants as header
use Rattle.table.specs.declared.load.Refusal.{Refusal}
use Rattle.table.specs.declared.load.Refusal.TheVariants as refusal
use Rattle.table.specs.declared.load.Phase.TheVariants.{Header, Mappings, Ended}
use Rattle.table.proofs.LowestLaws.{lowest-fine, none-in-form}
use Rattle.table.proofs.Judged.{table_with}
use Rattle.table.proofs.InGrammar.{key-form}
use Rattle.table.proofs.Accepted.{refused-accepted, accepted-injective, stop-outcome, accepted-in-grammar, accepted-keeps-rules, kept-rules-accepted}
use Rattle.table.proofs.LinesRead.{lines-reads, lines-written}
use Rattle.table.proofs.HeaderRead.{LineMeans, line-written, key-line-reads, blank-line-reads, charmap-line-reads}
use Rattle.table.proofs.MappingRead.{mapping-line-reads}
use Rattle.table.proofs.FormsRead.{FormMeans, form-written, blank-body, end_body, LastMeans, last_written, blank-last}
use Rattle.table.proofs.KeysHeld.{Slot, HeaderKept, KeyMeans, key-means, key-passes}
use Rattle.table.proofs.HeaderText.{Ordered, in_order_lem, header-said, Asked, key-asked, nothing-absent, says-one}

-- ## What is read is a text of the grammar

-- a line that is refused leads to no table
stopped : {A : Type 0} (lim : Limits) (k : ℕ) (ls : List (List ℕ)) (x : Refusal) (t : Table) → load_go in_form lim k ls (stop x) ≡ accepted t → A
stopped lim k ls x t e = absurd (refused-accepted x k t (sym (stop-outcome in_form lim k ls x) ∙ e))

-- behind END CHARMAP
last-go : (lim : Limits) (t : Table) (ls : List (List ℕ)) (k : ℕ) (h : Keys) (rows : List (List Cell)) (ms : List Line)
    → load_go in_form lim k ls (goes_on (reading Ended h rows ms)) ≡ accepted t → All BlankLine ls × (t ≡ table_with h rows ms)
unfolding load_go in_form outcome_at table_of
last-go lim t [] k h rows ms e = (tt, sym (accepted-injective _ t e))
last-go lim t (l ∷ ls) k h rows ms e = by_form (after_end_of l) (last_written l) (last-go lim t ls (k + 1) h rows ms) e
  where
    by_form : (f : BodyLine) → LastMeans l f → (load_go in_form lim (k + 1) ls (goes_on (reading Ended h rows ms)) ≡ accepted t → All BlankLine ls × (t ≡ table_with h rows ms))
        → load_go in_form lim (k + 1) ls (judged_by in_form (last_asks h rows ms f)) ≡ accepted t → All BlankLine (l ∷ ls) × (t ≡ table_with h rows ms)
    by_form no_form m ih x = stopped lim (k + 1) ls _ t x
    by_form reserved m ih x = stopped lim (k + 1) ls _ t x
    by_form blank m ih x = let r = ih x in ((m, r.0), r.1)
    by_form ending m ih x = absurd m
    by_form (mapping u c d) m ih x = absurd m

-- the conditions of a mapping line are all rules
mapping-fine : (lim : Limits) (h : Keys) (rows : List (List Cell)) (ms : List Line) (l : Line) → in_form (mapping_conditions lim h rows ms l) ≡ Ok tt
unfolding in_form mapping_conditions
mapping-fine lim h rows ms l = refl

mapping-goes : (lim : Limits) (h : Keys) (rows : List (List Cell)) (ms : List Line) (u : ℕ) (c : List ℕ) (d : ℕ)
    → judged_by in_form (mapping_asks lim h rows ms (mapping u c d)) ≡ goes_on (reading Mappings h rows (line_as u c d ∷ ms))
mapping-goes lim h rows ms u c d = rw (mapping-fine lim h rows ms (line_as u c d))

-- END CHARMAP and blank lines
abbrev Ending : List (List ℕ) → Type 0
Ending ls = (end : List ℕ) × (rest : List (List ℕ)) × (ls ≡ end ∷ rest) × EndLine end × All BlankLine rest

-- between CHARMAP and END CHARMAP, behind the mappings ms: mapping lines, and the end
abbrev BodyRest : List (List ℕ) → Keys → List (List Cell) → List Line → Table → Type 0
BodyRest ls h rows ms t =
    (body : List (List ℕ)) × (tail : List (List ℕ)) × (news : List Line)
    × (ls ≡ body ++ tail) × Listed MappingLine news body × Ending tail × (t ≡ table_with h rows (reverse_aux news ms))

body-go : (lim : Limits) (t : Table) (ls : List (List ℕ)) (k : ℕ) (h : Keys) (rows : List (List Cell)) (ms : List Line)
    → load_go in_form lim k ls (goes_on (reading Mappings h rows ms)) ≡ accepted t → BodyRest ls h rows ms t
unfolding load_go in_form outcome_at
body-go lim t [] k h rows ms e = absurd (refused-accepted _ _ t e)
body-go lim t (l ∷ ls) k h rows ms e = by_form (body_line_of l) (form-written l) (λ m. body-go lim t ls (k + 1) h rows m) e
  where
    longer : (x y : List (List ℕ)) → ls ≡ x ++ y → l ∷ ls ≡ l ∷ (x ++ y)
    longer x y are = ap (λ (z : List (List ℕ)). l ∷ z) are

    by_form : (f : BodyLine) → FormMeans l f → ((m : List Line) → load_go in_form lim (k + 1) ls (goes_on (reading Mappings h rows m)) ≡ accepted t → BodyRest ls h rows m t)
        → load_go in_form lim (k + 1) ls (judged_by in_form (mapping_asks lim h rows ms f)) ≡ accepted t → BodyRest (l ∷ ls) h rows ms t
    by_form no_form m ih x = stopped lim (k + 1) ls _ t x
    by_form reserved m ih x = stopped lim (k + 1) ls _ t x
    by_form blank m ih x = let (body, tail, news, are, each, end, table) = ih ms x in (l ∷ body, tail, news, longer body tail are, inl (m, each), end, table)
    by_form ending m ih x = let r = last-go lim t ls (k + 1) h rows ms x in ([], l ∷ ls, [], refl, refl, (l, ls, refl, m, r.0), r.1)
    by_form (mapping u c d) m ih x =
        let n : Line = line_as u c d in
        let (body, tail, news, are, each, end, table) = ih (n ∷ ms) (sym (ap (load_go in_form lim (k + 1) ls) (mapping-goes lim h rows ms u c d)) ∙ x) in
        (l ∷ body, tail, n ∷ news, longer body tail are, inr (n, news, refl, m, each), end, table)

-- CHARMAP and what follows it
abbrev Charmapped : List (List ℕ) → Table → Type 0
Charmapped ls t =
    (charmap : List ℕ) × (body : List (List ℕ)) × (tail : List (List ℕ))
    × (ls ≡ charmap ∷ (body ++ tail)) × CharmapLine charmap × Listed MappingLine (reverse t.lines) body × Ending tail

-- before CHARMAP, behind the keys ps, the last one first: key lines, and CHARMAP
abbrev HeaderRest : List (List ℕ) → List Pair → Table → Type 0
HeaderRest ls ps t =
    (pairs : List Pair) × (header : List (List ℕ)) × (tail : List (List ℕ))
    × (ls ≡ header ++ tail) × Listed KeyLine pairs header × Charmapped tail t × HeaderSays (reverse_aux ps pairs) t

-- the line CHARMAP
charmap-fine : (h : Keys) (rows : List (List Cell)) → in_form (charmap_conditions h rows) ≡ Ok tt → n13 h (length rows) ≡ false
unfolding in_form charmap_conditions
charmap-fine h rows e = by-absent (n13 h (length rows)) refl e
  where
    by-absent : (x : Bool) → n13 h (length rows) ≡ x → ◌≡◌ {A = Verdict} (pick x (Err refusal.KeyAbsent) (Ok tt)) (Ok tt) → n13 h (length rows) ≡ false
    by-absent false n f = n
    by-absent true n f = absurd (let z : ◌≡◌ {A = ℕ} 0 1 = cc in omega arith)

charmap-before : (l : List ℕ) (ls : List (List ℕ)) (ps : List Pair) (t : Table) (h : Keys) (rows : List (List Cell)) → HeaderKept h rows ps → n13 h (length rows) ≡ false → CharmapLine l
    → BodyRest ls h (rows_at h rows) [] t → HeaderRest (l ∷ ls) ps t
charmap-before l ls ps t h rows held n c (body, tail, news, are, each, end, table) =
    let back : reverse t.lines ≡ news = ap (λ (x : Table). reverse x.lines) table ∙ reverse-reverse news in
    let y = header-said h rows (reverse ps) (reverse news) (in_order_lem h rows ps held) n in (
      [],
      [],
      l ∷ ls,
      refl,
      refl,
      (l, body, tail, ap (λ (z : List (List ℕ)). l ∷ z) are, c, subst (λ (ns : List Line). Listed MappingLine ns body) (sym back) each, end),
      subst (HeaderSays (reverse ps)) (sym table) y,
    )

-- a header line of the grammar gives its key one value more
known-held : (lim : Limits) (h : Keys) (rows : List (List Cell)) (ps : List Pair) (k : Key) (v : ReadValue) (w : List ℕ) (p : Pair) → HeaderKept h rows ps
    → in_form (key_conditions lim h (length rows) k v) ≡ Ok tt → k ≡ key_of p.key → v ≡ value_of k p.value → w ≡ p.value → HeaderKept (keep_value h v) (keep_row v w rows) (p ∷ ps)
unfolding key_conditions
known-held lim h rows ps k v w p held fine key value part =
    let f : in_form (key_conditions lim h (length rows) k (value_of k p.value)) ≡ Ok tt = sym (ap (λ (x : ReadValue). in_form (key_conditions lim h (length rows) k x)) value) ∙ fine in
    let n = lowest-fine (key_conditions lim h (length rows) k (value_of k p.value)) (sym (key-form lim h (length rows) k (value_of k p.value)) ∙ f) in
    let m = subst (KeyMeans p.key) (sym key) (key-means p.key) in
    let g = key-passes lim h rows ps p.value held p.key k m n.0 n.1.0 n.1.1.0 n.1.1.1.0 in
    subst (λ (x : ReadValue). HeaderKept (keep_value h x) (keep_row x w rows) (p ∷ ps)) (sym value)
    (subst (λ (x : List ℕ). HeaderKept (keep_value h (value_of k p.value)) (keep_row (value_of k p.value) x rows) (p ∷ ps)) (sym part) g)

header-go : (lim : Limits) (t : Table) (ls : List (List ℕ)) (k : ℕ) (h : Keys) (rows : List (List Cell)) (ps : List Pair) → HeaderKept h rows ps
    → load_go in_form lim k ls (goes_on (reading Header h rows [])) ≡ accepted t → HeaderRest ls ps t
unfolding load_go in_form outcome_at
header-go lim t [] k h rows ps held e = absurd (refused-accepted _ _ t e)
header-go lim t (l ∷ ls) k h rows ps held e = by-line (header_line_of l) (line-written l) (header-go lim t ls (k + 1)) e
  where
    longer : (x y : List (List ℕ)) → ls ≡ x ++ y → l ∷ ls ≡ l ∷ (x ++ y)
    longer x y are = ap (λ (z : List (List ℕ)). l ∷ z) are

    by-line : (x : ReadLine) → LineMeans l x
        → ((g : Keys) (rs : List (List Cell)) (qs : List Pair) → HeaderKept g rs qs → load_go in_form lim (k + 1) ls (goes_on (reading Header g rs [])) ≡ accepted t → HeaderRest ls qs t)
        → load_go in_form lim (k + 1) ls (judged_by in_form (header_asks lim h rows l x)) ≡ accepted t → HeaderRest (l ∷ ls) ps t
    by-line None m ih x = stopped lim (k + 1) ls _ t x
    by-line (Some header.Blank) m ih x = let (pairs, header, tail, are, keys, rest, y) = ih h rows ps held x in (pairs, l ∷ header, tail, longer header tail are, inl (m, keys), rest, y)
    by-line (Some header.Charmap) m ih x = by-verdict (in_form (charmap_conditions h rows)) refl x
      where
        by-verdict : (v : Verdict) → in_form (charmap_conditions h rows) ≡ v
            → load_go in_form lim (k + 1) ls (judged v (reading Mappings h (rows_at h rows) [])) ≡ accepted t → HeaderRest (l ∷ ls) ps t
        by-verdict (Ok tt) f y = charmap-before l ls ps t h rows held (charmap-fine h rows f) m (body-go lim t ls (k + 1) h (rows_at h rows) [] y)
        by-verdict (Err r) f y = stopped lim (k + 1) ls r t y
    by-line (Some (header.Known i v q z)) (p, line, key, value, part) ih x = by-verdict (in_form (key_conditions lim h (length rows) i v)) refl x
      where
        by-verdict : (y : Verdict) → in_form (key_conditions lim h (length rows) i v) ≡ y
            → load_go in_form lim (k + 1) ls (judged y (reading Header (keep_value h v) (keep_row v (take (z - q) (drop q l)) rows) [])) ≡ accepted t → HeaderRest (l ∷ ls) ps t
        by-verdict (Ok tt) f y =
            let g = known-held lim h rows ps i v (take (z - q) (drop q l)) p held f key value part in
            let (pairs, header, tail, are, keys, rest, says) = ih (keep_value h v) (keep_row v (take (z - q) (drop q l)) rows) (p ∷ ps) g y in
            (p ∷ pairs, l ∷ header, tail, longer header tail are, inr (p, pairs, refl, line, keys), rest, says)
        by-verdict (Err r) f y = stopped lim (k + 1) ls r t y

-- before the first line
start-held : HeaderKept no_keys [] []
unfolding values_of
start-held = (
  (unset, unset, unset, unset, unset, unset),
  record { entries = []; states = tt; rows_are = refl; counted = refl; no-base = refl },
)
  where
    unset : {P : List ℕ → Type 0} → Slot 0 P []
    unset = record { either = inl (refl, refl) }

pub text-written : (lim : Limits) (text : List ℕ) (t : Table) → load_in_form lim text ≡ accepted t → TableText text t
unfolding load_in_form
text-written lim text t e =
    let (pairs, header, tail, are, keys, (charmap, body, last, lines, c, each, (end, rest, ends, d, blanks)), says) = header-go lim t (lines_of text) 0 no_keys [] [] start-held e in
    let all : lines_of text ≡ header ++ (charmap ∷ (body ++ (end ∷ rest))) =
    are ∙ ap (λ (x : List (List ℕ)). header ++ x) (lines ∙ ap (λ (x : List (List ℕ)). charmap ∷ (body ++ x)) ends) in
    record {
      pairs = pairs;
      header = header;
      charmap = charmap;
      body = body;
      ending = end;
      rest = rest;
      lines = subst (λ (ls : List (List ℕ)). Lines ls text) all (lines-written text);
      keys = keys;
      charmap-line = c;
      mappings = each;
      end_line = d;
      nothing-else = blanks;
      says = says;
    }

-- ## A text of the grammar is read as its table

-- one line
goes : (lim : Limits) (k : ℕ) (l : List ℕ) (ls : List (List ℕ)) (r q : Reading) → line_step in_form lim r l ≡ goes_on q
    → load_go in_form lim k (l ∷ ls) (goes_on r) ≡ load_go in_form lim (k + 1) ls (goes_on q)
unfolding load_go
goes lim k l ls r q e = ap (load_go in_form lim (k + 1) ls) e

module _ (lim : Limits) (h : Keys) (rows : List (List Cell)) where
  blank-ended : (ms : List Line) (l : List ℕ) → BlankLine l → line_step in_form lim (reading Ended h rows ms) l ≡ goes_on (reading Ended h rows ms)
  unfolding in_form
  blank-ended ms l b = ap (λ (f : BodyLine). judged_by in_form (last_asks h rows ms f)) (blank-last l b)

  blank-mapped : (ms : List Line) (l : List ℕ) → BlankLine l → line_step in_form lim (reading Mappings h rows ms) l ≡ goes_on (reading Mappings h rows ms)
  unfolding in_form
  blank-mapped ms l b = ap (λ (f : BodyLine). judged_by in_form (mapping_asks lim h rows ms f)) (blank-body l b)

  line-mapped : (ms : List Line) (n : Line) (l : List ℕ) → MappingLine n l → line_step in_form lim (reading Mappings h rows ms) l ≡ goes_on (reading Mappings h rows (n ∷ ms))
  line-mapped ms n l m = ap (λ (f : BodyLine). judged_by in_form (mapping_asks lim h rows ms f)) (mapping-line-reads n l m) ∙ mapping-goes lim h rows ms n.point n.code n.indicator

  end-mapped : (ms : List Line) (l : List ℕ) → EndLine l → line_step in_form lim (reading Mappings h rows ms) l ≡ goes_on (reading Ended h rows ms)
  unfolding in_form
  end-mapped ms l e = ap (λ (f : BodyLine). judged_by in_form (mapping_asks lim h rows ms f)) (end_body l e)

  blank-headed : (l : List ℕ) → BlankLine l → line_step in_form lim (reading Header h rows []) l ≡ goes_on (reading Header h rows [])
  unfolding in_form
  blank-headed l b = ap (λ (x : ReadLine). judged_by in_form (header_asks lim h rows l x)) (blank-line-reads l b)

  charmap-headed : (l : List ℕ) → CharmapLine l → in_form (charmap_conditions h rows) ≡ Ok tt
      → line_step in_form lim (reading Header h rows []) l ≡ goes_on (reading Mappings h (rows_at h rows) [])
  charmap-headed l c f =
      ap (λ (x : ReadLine). judged_by in_form (header_asks lim h rows l x)) (charmap-line-reads l c) ∙ ap (λ (v : Verdict). judged v (reading Mappings h (rows_at h rows) [])) f

  key-headed : (l : List ℕ) (k : Key) (v : ReadValue) (q e : ℕ) → header_line_of l ≡ Some (header.Known k v q e) → in_form (key_conditions lim h (length rows) k v) ≡ Ok tt
      → line_step in_form lim (reading Header h rows []) l ≡ goes_on (reading Header (keep_value h v) (keep_row v (take (e - q) (drop q l)) rows) [])
  key-headed l k v q e Line-read f =
      ap (λ (x : ReadLine). judged_by in_form (header_asks lim h rows l x)) Line-read ∙ ap (λ (x : Verdict). judged x (reading Header (keep_value h v) (keep_row v (take (e - q) (drop q l)) rows) [])) f

  -- blank lines behind END CHARMAP
  last-lines : (ls : List (List ℕ)) (k : ℕ) (ms : List Line) → All BlankLine ls → load_go in_form lim k ls (goes_on (reading Ended h rows ms)) ≡ accepted (table_with h rows ms)
  unfolding load_go outcome_at table_of
  last-lines [] k ms b = refl
  last-lines (l ∷ ls) k ms b = goes lim k l ls (reading Ended h rows ms) (reading Ended h rows ms) (blank-ended ms l b.0) ∙ last-lines ls (k + 1) ms b.1

  -- mapping lines, END CHARMAP, blank lines
  body-lines : (end : List ℕ) (rest : List (List ℕ)) → EndLine end → All BlankLine rest → (body : List (List ℕ)) (k : ℕ) (ns ms : List Line) → Listed MappingLine ns body
      → load_go in_form lim k (body ++ (end ∷ rest)) (goes_on (reading Mappings h rows ms)) ≡ accepted (table_with h rows (reverse_aux ns ms))
  body-lines end rest e b [] k ns ms l =
      goes lim k end rest (reading Mappings h rows ms) (reading Ended h rows ms) (end-mapped ms end e) ∙ last-lines rest (k + 1) ms b
      ∙ ap (λ (x : List Line). accepted (table_with h rows (reverse_aux x ms))) (sym l)
  body-lines end rest e b (s ∷ body) k ns ms (inl (x, l)) =
      goes lim k s (body ++ (end ∷ rest)) (reading Mappings h rows ms) (reading Mappings h rows ms) (blank-mapped ms s x) ∙ body-lines end rest e b body (k + 1) ns ms l
  body-lines end rest e b (s ∷ body) k ns ms (inr (n, more, are, x, l)) =
      goes lim k s (body ++ (end ∷ rest)) (reading Mappings h rows ms) (reading Mappings h rows (n ∷ ms)) (line-mapped ms n s x)
      ∙ body-lines end rest e b body (k + 1) more (n ∷ ms) l ∙ ap (λ (x : List Line). accepted (table_with h rows (reverse_aux x ms))) (sym are)

-- the conditions of a line that passes
key-fine : (lim : Limits) (h : Keys) (n : ℕ) (k : Key) (v : ReadValue) → Asked lim h n k v → in_form (key_conditions lim h n k v) ≡ Ok tt
unfolding key_conditions
key-fine lim h n k v a = none-in-form (key_conditions lim h n k v) (a.again, (a.fit, (a.built, (a.ranged, tt))))

charmap-passes : (h : Keys) (rows : List (List Cell)) → n13 h (length rows) ≡ false → in_form (charmap_conditions h rows) ≡ Ok tt
unfolding in_form charmap_conditions
charmap-passes h rows n = rw n

module _ (lim : Limits) (t : Table) (charmap : List ℕ) (body : List (List ℕ)) (end : List ℕ) (rest : List (List ℕ))
    (c : CharmapLine charmap) (m : Listed MappingLine (reverse t.lines) body) (e : EndLine end) (b : All BlankLine rest) where
  -- CHARMAP and what follows it
  charmap-lines : (k : ℕ) (h : Keys) (rows : List (List Cell)) (ps : List Pair) → Ordered h rows ps → HeaderSays ps t
      → load_go in_form lim k (charmap ∷ (body ++ (end ∷ rest))) (goes_on (reading Header h rows [])) ≡ accepted t
  charmap-lines k h rows ps held y =
      let n = nothing-absent h rows ps t held y in
      let hd : Keys = h in
      let u : Table = table_with hd (rows_at h rows) (reverse (reverse t.lines)) in
      let z : u ≡ t = says-one ps u t (header-said h rows ps (reverse (reverse t.lines)) held n) y (reverse-reverse t.lines) in
      goes lim k charmap (body ++ (end ∷ rest)) (reading Header h rows []) (reading Mappings hd (rows_at h rows) []) (charmap-headed lim h rows charmap c (charmap-passes h rows n))
      ∙ body-lines lim hd (rows_at h rows) end rest e b body (k + 1) (reverse t.lines) [] m ∙ ap accepted z

  -- ps are the keys so far, the last one first, and qs those to come
  header-lines : (header : List (List ℕ)) (k : ℕ) (h : Keys) (rows : List (List Cell)) (ps qs : List Pair) → HeaderKept h rows ps → Listed KeyLine qs header
      → (y : HeaderSays (reverse_aux ps qs) t) → length y.entries ≤ lim.rows
      → load_go in_form lim k (header ++ (charmap ∷ (body ++ (end ∷ rest)))) (goes_on (reading Header h rows [])) ≡ accepted t
  header-lines [] k h rows ps qs held l y room =
      charmap-lines k h rows (reverse ps) (in_order_lem h rows ps held) (subst (λ (x : List Pair). HeaderSays (reverse_aux ps x) t) l y)
  header-lines (s ∷ header) k h rows ps qs held (inl (x, l)) y room =
      goes lim k s (header ++ (charmap ∷ (body ++ (end ∷ rest)))) (reading Header h rows []) (reading Header h rows []) (blank-headed lim h rows s x)
      ∙ header-lines header (k + 1) h rows ps qs held l y room
  header-lines (s ∷ header) k h rows ps qs held (inr (p, more, are, x, l)) y room =
      let Line-read = key-line-reads p s x in
      let i : Key = key_of p.key in
      let v : ReadValue = value_of i p.value in
      let w : List ℕ = take (Line-read.to - Line-read.from) (drop Line-read.from s) in
      let y2 : (z : HeaderSays (reverse_aux ps (p ∷ more)) t) × (length z.entries ≤ lim.rows)
      = subst (λ (x : List Pair). (z : HeaderSays (reverse_aux ps x) t) × (length z.entries ≤ lim.rows)) are (y, room) in
      let f = key-fine lim h (length rows) i v (key-asked lim h rows ps more p.value t held p.key i (key-means p.key) y2.0 y2.1) in
      goes lim k s (header ++ (charmap ∷ (body ++ (end ∷ rest)))) (reading Header h rows []) (reading Header (keep_value h v) (keep_row v w rows) [])
      (key-headed lim h rows s i v Line-read.from Line-read.to Line-read.line f)
      ∙ header-lines header (k + 1) (keep_value h v) (keep_row v w rows) (p ∷ ps) more (known-held lim h rows ps i v w p held f refl refl Line-read.part) l y2.0 y2.1

-- no more state lines than rows of the table
entries-few : (n : ℕ) (ps : List Pair) (t : Table) (y : HeaderSays ps t) → length t.rows ≤ n → length y.entries ≤ n
entries-few n ps t y h = by_rows y.rows
  where
    by_rows : RowsAre y.class y.entries t.rows → length y.entries ≤ n
    by_rows (inl (one, e)) = omega (arith, ap length e, length-map y.entries row_of)
    by_rows (inr (e, x, z)) = omega (arith, ap length e)

pub text-reads : (lim : Limits) (text : List ℕ) (t : Table) → TableText text t → length t.rows ≤ lim.rows → load_in_form lim text ≡ accepted t
unfolding load_in_form
text-reads lim text t x h =
    ap (λ (ls : List (List ℕ)). load_go in_form lim 0 ls (goes_on start)) (lines-reads (x.header ++ (x.charmap ∷ (x.body ++ (x.ending ∷ x.rest)))) text x.lines)
    ∙ header-lines lim t x.charmap x.body x.ending x.rest x.charmap-line x.mappings x.end_line x.nothing-else x.header 0 no_keys [] [] x.pairs
    start-held x.keys x.says (entries-few lim.rows x.pairs t x.says h)

-- ## Exactly when

-- ONE TEXT WRITES ONE TABLE
pub one_table : (text : List ℕ) (t u : Table) → TableText text t → TableText text u → t ≡ u
one_table text t u x y =
    let lim : Limits = record { rows = length t.rows + length u.rows; mappings = 0; text = 0 } in
    accepted-injective t u (sym (text-reads lim text t x (omega arith)) ∙ text-reads lim text u y (omega arith))

-- A TEXT IS ACCEPTED EXACTLY WHEN IT IS A TEXT OF THE GRAMMAR WHOSE ROWS AND LINES KEEP THE RULES
pub accepted-exactly : (lim : Limits) (text : List ℕ) (t : Table) → 1 ≤ lim.rows → (load_of lim text ≡ accepted t) ↔ (TableText text t × Keeps lim t)
accepted-exactly lim text t one = (
  λ e. (text-written lim text t (accepted-in-grammar lim text t e), accepted-keeps-rules lim text t one e),
  λ p. kept-rules-accepted lim text t (text-reads lim text t p.0 (rows-within lim t p.1)) p.1,
)
  where
    rows-within : (lim : Limits) (t : Table) → Keeps lim t → length t.rows ≤ lim.rows
    rows-within lim t k = leb-true (length t.rows) lim.rows (and_right (leb 1 (length t.rows)) (leb (length t.rows) lim.rows) k.so_far.rule1-rows)
