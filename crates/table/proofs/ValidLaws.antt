-- The test behind number 60 holds exactly of the forms of tables that keep the rules; one form for one meaning.
-- valid-form    what passes is the form of a table that keeps T1 to T10
-- valid-table   the same of the table that the definitions read from the memory, for the crates above
-- form-valid    the form of a table that keeps the rules passes
-- one_form      one meaning, one form: two memories in it agree in all needed places
-- forms-apart   two meanings, two forms: memories that agree there are of tables of one meaning
-- Cited by docs/LAWS.md: valid-form, form-valid, one_form, forms-apart. The words are in specs/Forms.antt. Assumes nothing.
use mathlib.Core.Path.{◌≡◌, sym, ap, ◌∙◌, subst}
use mathlib.Core.Bool.{true}
use mathlib.Core.List.{List, map}
use Prim.Native.Nat.{ℕ, ◌*◌, ◌<◌}
use lib.ListN.{length, take, length-map}
use Rattle.lists.specs.Order.{All, In}
use Rattle.lists.proofs.Order.{All-In⁻, In-map⁺, In-map⁻, In-sort⁻, In-sort⁺, length-sort}
use Rattle.table.specs.Limits.{Limits, needed}
use Rattle.table.specs.Cells.{Cell}
use Rattle.table.specs.Codes.{code_of}
use Rattle.table.specs.Meaning.{Line, Table, flat}
use Rattle.table.specs.Rules.{Keeps}
use Rattle.table.specs.Stored.{Stored, bits_of, info_of, stored_of, line_in, less}
use Rattle.table.specs.Slices.{Slices}
use Rattle.table.specs.Memory.{sorted, order_of, numbers_of, sub1_of, sub1_in, record_of, Form, Proper, table_in, lines_in}
use Rattle.table.specs.loops.Progress.{GoodLine}
use Rattle.table.specs.Valid.{valid}
use Rattle.table.specs.declared.valid.Record.{Record}
use Rattle.table.proofs.CellLaws.{numbers-one}
use Rattle.table.proofs.Packing.{pack-one-way}
use Rattle.table.proofs.StoreLaws.{one-sorted}
use Rattle.table.proofs.StoredLine.{line-stored}
use Rattle.table.proofs.LineClashes.{t9⇒AllApart}
use Rattle.table.proofs.FormLines.{keeps-good, entries-Form}
use Rattle.table.proofs.TestParts.{untested}
use Rattle.table.proofs.NumbersBack.{flat-one, sub1_in-sub1_of}
use Rattle.table.proofs.ReadForm.{held-proper, held_keeps, held-form}
use Rattle.table.proofs.FormTested.{flat-taken, sub-length, form-tested}
use Rattle.table.specs.Forms.{FormOf, SameTable, SameMemory}
use Rattle.lists.proofs.Nth.{In-map-⊆}
use Rattle.lists.specs.Place.{filled}

-- what passes is the form of the table that the definitions read from the memory
module _ (lim : Limits) (rec : Record) (m : Slices) (ok : valid lim rec m ≡ true)
    (small : All (λ x. x < 4294967296) m.codes) (sub_small : rec.subchar.bits < 4294967296) where
  pub valid-table : Proper (table_in rec m) × Keeps lim (table_in rec m) × Form lim (table_in rec m) rec m
  unfolding table_in lines_in
  valid-table = (
    held-proper lim rec m ok small sub_small,
    held_keeps lim rec m ok small sub_small,
    held-form lim rec m ok small sub_small,
  )

  pub valid-form : FormOf lim rec m
  valid-form = record { table = table_in rec m; proper = valid-table.0; keeps = valid-table.1; form = valid-table.2 }

-- and the form of a table that keeps the rules passes
pub form-valid : (lim : Limits) (t : Table)
    → Proper t
    → Keeps lim t
    → (rec : Record) (m : Slices)
    → Form lim t rec m
    → valid lim rec m ≡ true
form-valid lim t p k rec m f = untested lim rec m (form-tested lim t p k rec m f)

-- a form asks of the needed places alone
form-moved : (lim : Limits) (t : Table) (rec rec' : Record) (m m' : Slices)
    → SameMemory lim rec rec' m m' → Form lim t rec' m'
    → Form lim t rec m
form-moved lim t rec rec' m m' s f = record {
  record_is = s.same-record ∙ f.record_is;
  states-are = s.same-states ∙ f.states-are;
  mappings-are = record {
    fits = f.mappings-are.fits;
    codes-are = s.same_codes ∙ f.mappings-are.codes-are;
    infos-are = s.same-infos ∙ f.mappings-are.infos-are;
    order_is = s.same-order ∙ f.mappings-are.order_is;
  };
}

-- lines that are stored alike
moved : (ls ms : List Line) → All GoodLine ls → All GoodLine ms → sorted ls ≡ sorted ms → (l : Line) → In l ls → In l ms
moved ls ms gs hs e l i =
    let j : In (stored_of l) (map stored_of ms) =
    In-sort⁻ less (stored_of l) (map stored_of ms)
    (subst (λ (x : List Stored). In (stored_of l) x) e
    (In-sort⁺ less (stored_of l) (map stored_of ls) (In-map⁺ stored_of l ls i))) in
    let r = In-map⁻ stored_of (stored_of l) ms j in
    let same : l ≡ r.0 = sym (line-stored l (All-In⁻ GoodLine l ls gs i)) ∙ ap line_in r.1.1
    ∙ line-stored r.0 (All-In⁻ GoodLine r.0 ms hs r.1.0) in
    subst (λ (x : Line). In x ms) (sym same) r.1.0

-- one form for one meaning
module _ (lim : Limits) (t u : Table) (p : Proper t) (q : Proper u) (k : Keeps lim t) (m : Keeps lim u) where
  sorted-one : SameTable t u → sorted t.lines ≡ sorted u.lines
  sorted-one s =
      one-sorted (map stored_of t.lines) (map stored_of u.lines)
      (t9⇒AllApart t.lines (keeps-good lim t p k) k.so_far.rule9) (t9⇒AllApart u.lines (keeps-good lim u q m) m.so_far.rule9)
      (In-map-⊆ stored_of t.lines u.lines s.there)
      (In-map-⊆ stored_of u.lines t.lines s.back)

  lines-count : (ls : List Line) → length (sorted ls) ≡ length ls
  lines-count ls = length-sort less (map stored_of ls) ∙ length-map ls stored_of

  record-one : SameTable t u → record_of t ≡ record_of u
  unfolding record_of
  record-one s =
      let n : length t.lines ≡ length u.lines =
      sym (lines-count t.lines) ∙ ap (λ (l : List Stored). length l) (sorted-one s) ∙ lines-count u.lines in
      (λ i. record {
        rows = length (s.same_rows i);
        mappings = n i;
        min = s.same-min i;
        max = s.same-max i;
        subchar = code_of (s.same-subchar i);
        subchar1 = sub1_of (s.same-subchar1 i);
      })

  -- two memories in these forms agree in all needed places
  module _ (s : SameTable t u) (rec rec' : Record) (lent lent' : Slices)
      (f : Form lim t rec lent) (g : Form lim u rec' lent') where
    pub one_form : SameMemory lim rec rec' lent lent'
    one_form =
        let e = sorted-one s in
        record {
          same-record = f.record_is ∙ record-one s ∙ sym g.record_is;
          same-states =
              f.states-are ∙ ap (λ (r : List (List Cell)). filled (needed lim) (numbers_of r)) s.same_rows
              ∙ sym g.states-are;
          same_codes =
              f.mappings-are.codes-are ∙ ap (λ (l : List Stored). filled lim.mappings (map bits_of l)) e
              ∙ sym g.mappings-are.codes-are;
          same-infos =
              f.mappings-are.infos-are ∙ ap (λ (l : List Stored). filled lim.mappings (map info_of l)) e
              ∙ sym g.mappings-are.infos-are;
          same-order =
              f.mappings-are.order_is ∙ ap (λ (l : List Stored). filled lim.mappings (order_of l)) e
              ∙ sym g.mappings-are.order_is;
        }

  -- and one meaning for one form: what lies past the needed places does not matter
  module _ (rec rec' : Record) (lent lent' : Slices)
      (same : SameMemory lim rec rec' lent lent')
      (f : Form lim t rec lent) (h : Form lim u rec' lent') where
    g : Form lim u rec lent
    g = form-moved lim u rec rec' lent lent' same h

    records-one : record_of t ≡ record_of u
    records-one = sym f.record_is ∙ g.record_is

    rows-one : t.rows ≡ u.rows
    unfolding record_of
    rows-one =
        let n : length t.rows ≡ length u.rows = ap (λ (r : Record). r.rows) records-one in
        flat-one t.rows u.rows p.rows-full q.rows-full n
        (numbers-one (flat t.rows) (flat u.rows)
        (sym (flat-taken lim t p k rec lent f) ∙ ap (λ (x : ℕ). take (x * 256) lent.states) n
        ∙ flat-taken lim u q m rec lent g))

    sub-one : t.subchar ≡ u.subchar
    unfolding record_of
    sub-one =
        pack-one-way t.subchar u.subchar p.sub-bytes q.sub-bytes
        (ap (λ (r : Record). r.subchar.len) records-one)
        (sub-length lim t p k rec lent f).1 (ap (λ (r : Record). r.subchar.bits) records-one)

    sub1-one : t.subchar1 ≡ u.subchar1
    unfolding record_of
    sub1-one =
        sym (sub1_in-sub1_of t.subchar1) ∙ ap (λ (r : Record). sub1_in r.subchar1) records-one ∙ sub1_in-sub1_of u.subchar1

    min-one : t.min ≡ u.min
    unfolding record_of
    min-one = ap (λ (r : Record). r.min) records-one

    max-one : t.max ≡ u.max
    unfolding record_of
    max-one = ap (λ (r : Record). r.max) records-one

    stored_one : sorted t.lines ≡ sorted u.lines
    stored_one = sym (entries-Form lim t p k rec lent f) ∙ entries-Form lim u q m rec lent g

    pub forms-apart : SameTable t u
    forms-apart = record {
      same_rows = rows-one;
      same-min = min-one;
      same-max = max-one;
      same-subchar = sub-one;
      same-subchar1 = sub1-one;
      there = λ l i. moved t.lines u.lines (keeps-good lim t p k) (keeps-good lim u q m) stored_one l i;
      back = λ l i. moved u.lines t.lines (keeps-good lim u q m) (keeps-good lim t p k) (sym stored_one) l i;
    }
