-- From the form to the test: the form of a table that keeps the rules passes every part of it (form-tested).
-- code-length, sub-length: a code of a table that keeps the rules has 1 to 4 bytes. flat-taken: its states are the numbers of its rows.
use mathlib.Core.Path.{◌≡◌, refl, sym, ap, ◌∙◌, subst}
use mathlib.Core.Bool.{true}
use mathlib.Core.Option.{Option}
use mathlib.Core.List.{List, [], ◌∷◌, map}
use Prim.Native.Nat.{ℕ, ◌*◌, ◌≤◌}
use native.Mathlib.Omega.{arith}
use lib.Dec.{leb}
use lib.ListN.{length, take}
use borrow.Author.Tests.{leb-true, le-leb}
use Rattle.lists.proofs.Order.{All-In⁺, All-In⁻, All-map⁺, All-sort}
use Rattle.lists.proofs.Laws.{clash, and_yes, and_left, and_right}
use Rattle.table.specs.Limits.{Limits, needed}
use Rattle.table.specs.States.{Rows, step_at, end_kind, is_code}
use Rattle.table.specs.Codes.{bytes_of, packed}
use Rattle.table.specs.Meaning.{Line, Table, flat, steps_of}
use Rattle.table.specs.Rules.{Keeps, t1_rows, t1_lines, t1_sizes, t3, t4_sub, t4_sub1, t5, t6, t7, t8, t10}
use Rattle.table.specs.Stored.{Stored, padded, stored_of, line_in, less}
use Rattle.table.specs.Slices.{Slices}
use Rattle.table.specs.Memory.{sorted, numbers_of, sub1_of, sub1_in, record_of, Form, Proper, lines_in}
use Rattle.table.specs.loops.Progress.{GoodLine}
use Rattle.table.specs.Valid.{state_ok, states_ok, record_ok, line_ok}
use Rattle.table.specs.declared.valid.Record.{Record}
use Rattle.table.proofs.KeptSizes.{kept-short}
use Rattle.table.proofs.RowLaws.{all_of-state_ok, steps-filled, length-numbers}
use Rattle.table.proofs.Packing.{unpacked-packed, packed-padded}
use Rattle.lists.proofs.AllAny.{all_true, true-all}
use Rattle.lists.proofs.Filled.{filled-long, filled-take, filled-zeros}
use Rattle.table.proofs.Sorted.{form-store}
use Rattle.table.proofs.StoredLine.{line-stored, stored-of-ok}
use Rattle.table.proofs.FormLines.{keeps-good, form-kept, entries-Form}
use Rattle.table.proofs.TestParts.{kept_line, Tested}
use Rattle.table.proofs.ReadBack.{t10-sorted}
use Rattle.table.proofs.NumbersBack.{sub1_in-sub1_of}
use Rattle.lists.specs.Tests.{all_of}
use Rattle.std.specs.Prelude.{None}

-- from the form to the test
pub code-length : (step : Rows) (c : List ℕ) → is_code step 0 c ≡ true → (end_kind step 0 c ≡ None → ⊥) × (1 ≤ length c)
unfolding end_kind
code-length step c h = (ends, long c ends)
  where
    ends : end_kind step 0 c ≡ None → ⊥
    ends e = clash h (rw e)

    long : (s : List ℕ) → (end_kind step 0 s ≡ None → ⊥) → 1 ≤ length s
    long [] q = absurd (q refl)
    long (b ∷ s) q = omega arith

module _ (lim : Limits) (t : Table) (p : Proper t) (k : Keeps lim t) (rec : Record) (lent : Slices)
    (f : Form lim t rec lent) where
  abbrev stored_lists : List ℕ
  stored_lists = numbers_of t.rows

  rows_few : (1 ≤ length t.rows) × (length t.rows ≤ lim.rows)
  rows_few = (
    leb-true 1 (length t.rows) (and_left (leb 1 (length t.rows)) _ k.so_far.rule1-rows),
    leb-true (length t.rows) lim.rows (and_right (leb 1 (length t.rows)) _ k.so_far.rule1-rows),
  )

  flat-length : length stored_lists ≡ length t.rows * 256
  flat-length = length-numbers t.rows p.rows-full

  flat-fits : length t.rows * 256 ≤ needed lim
  flat-fits = omega (arith, rows_few.1)

  pub flat-taken : take (length t.rows * 256) lent.states ≡ stored_lists
  flat-taken =
      filled-take (needed lim) (length t.rows * 256) lent.states stored_lists flat-length flat-fits f.states-are

  steps-are : step_at (take (needed lim) lent.states) ≡ steps_of t
  steps-are = steps-filled (needed lim) t.rows (take (needed lim) lent.states) f.states-are

  pub sub-length : (1 ≤ length t.subchar) × (length t.subchar ≤ 4)
  sub-length =
      let c = code-length (steps_of t) t.subchar k.so_far.rule4-sub in
      (c.1, kept-short lim t k t.subchar p.sub-bytes c.0)

  record-passes : record_ok lim (record_of t) ≡ true
  unfolding record_ok record_of
  record-passes =
      and_yes (t1_rows lim (length t.rows)) _ k.so_far.rule1-rows
      (and_yes (t1_lines lim (length t.lines)) _ k.so_far.rule1-lines
      (and_yes (t1_sizes t.min t.max) _ k.so_far.rule1-sizes
      (and_yes (padded (length t.subchar) (packed t.subchar)) _
      (packed-padded t.subchar p.sub-bytes sub-length.0 sub-length.1)
      (le-leb (sub1_of t.subchar1) 256 (let h = p.sub1-byte in omega arith)))))

  states-pass : states_ok lim (length t.rows) lent.states ≡ true
  unfolding states_ok
  states-pass =
      and_yes (leb (needed lim) (length lent.states)) _
      (le-leb (needed lim) (length lent.states)
      (filled-long (needed lim) lent.states stored_lists (omega (arith, flat-length, flat-fits)) f.states-are))
      (and_yes (all_of (state_ok (length t.rows)) (take (length t.rows * 256) lent.states)) _
      (subst (λ (l : List ℕ). all_of (state_ok (length t.rows)) l ≡ true) (sym flat-taken)
      (all_of-state_ok (length t.rows) (flat t.rows) ∙ k.so_far.rule2))
      (filled-zeros (needed lim) (length t.rows * 256) lent.states stored_lists flat-length f.states-are))

  line-passes : (l : Line)
      → GoodLine l
      → t5 (steps_of t) t.min t.max l ≡ true
      → t7 l ≡ true
      → t8 t.subchar1 l ≡ true
      → line_ok (steps_of t) (record_of t) (stored_of l) ≡ true
  unfolding record_of
  line-passes l g h5 h7 h8 =
      let e = line-stored l g in
      kept_line (steps_of t) (record_of t) (stored_of l) (record {
        formed = stored-of-ok l g;
        keeps-5 = subst (λ (x : Line). t5 (steps_of t) t.min t.max x ≡ true) (sym e) h5;
        keeps-6 = subst (λ (x : Line). t6 x ≡ true) (sym e) g.scalar;
        keeps-7 = subst (λ (x : Line). t7 x ≡ true) (sym e) h7;
        keeps-8 =
            subst (λ (o : Option ℕ). t8 o (line_in (stored_of l)) ≡ true) (sym (sub1_in-sub1_of t.subchar1))
            (subst (λ (x : Line). t8 t.subchar1 x ≡ true) (sym e) h8);
      })

  lines-pass : all_of (line_ok (steps_of t) (record_of t)) (sorted t.lines) ≡ true
  lines-pass =
      let good = keeps-good lim t p k in
      true-all (line_ok (steps_of t) (record_of t)) (sorted t.lines)
      (All-sort less (λ e. line_ok (steps_of t) (record_of t) e ≡ true) (map stored_of t.lines)
      (All-map⁺ stored_of (λ e. line_ok (steps_of t) (record_of t) e ≡ true) t.lines
      (All-In⁺ t.lines (λ l i. line-passes l (All-In⁻ GoodLine l t.lines good i)
      (All-In⁻ (λ x. t5 (steps_of t) t.min t.max x ≡ true) l t.lines
      (all_true (t5 (steps_of t) t.min t.max) t.lines k.so_far.rule5) i)
      (All-In⁻ (λ x. t7 x ≡ true) l t.lines (all_true t7 t.lines k.so_far.rule7) i)
      (All-In⁻ (λ x. t8 t.subchar1 x ≡ true) l t.lines (all_true (t8 t.subchar1) t.lines k.so_far.rule8) i)))))

  back_passes : t10 (lines_in rec lent.codes lent.infos) ≡ true
  unfolding lines_in
  back_passes =
      ap (λ (l : List Stored). t10 (map line_in l)) (entries-Form lim t p k rec lent f)
      ∙ t10-sorted t.lines (keeps-good lim t p k) ∙ k.rule10

  sub-passes : t4_sub (steps_of t) (bytes_of (record_of t).subchar) ≡ true
  unfolding record_of
  sub-passes =
      subst (λ (c : List ℕ). t4_sub (steps_of t) c ≡ true) (sym (unpacked-packed t.subchar p.sub-bytes sub-length.1))
      k.so_far.rule4-sub

  sub1-passes : t4_sub1 (steps_of t) (sub1_in (record_of t).subchar1) ≡ true
  unfolding record_of
  sub1-passes = subst (λ (o : Option ℕ). t4_sub1 (steps_of t) o ≡ true) (sym (sub1_in-sub1_of t.subchar1)) k.so_far.rule4-sub1

  rows-number : (record_of t).rows ≡ length t.rows
  unfolding record_of
  rows-number = refl

  max-number : (record_of t).max ≡ t.max
  unfolding record_of
  max-number = refl

  pub form-tested : Tested lim rec lent
  form-tested =
      let r = f.record_is in
      let s = sym steps-are in
      record {
        rec-ok = subst (λ (x : Record). record_ok lim x ≡ true) (sym r) record-passes;
        states-ok =
            subst (λ (x : Record). states_ok lim x.rows lent.states ≡ true) (sym r)
            (subst (λ (m : ℕ). states_ok lim m lent.states ≡ true) (sym rows-number) states-pass);
        deep =
            subst (λ (x : Record). t3 (step_at (take (needed lim) lent.states)) x.max ≡ true) (sym r)
            (subst (λ (m : ℕ). t3 (step_at (take (needed lim) lent.states)) m ≡ true) (sym max-number)
            (subst (λ (x : Rows). t3 x t.max ≡ true) s k.so_far.rule3));
        sub =
            subst (λ (x : Record). t4_sub (step_at (take (needed lim) lent.states)) (bytes_of x.subchar) ≡ true)
            (sym r) (subst (λ (x : Rows). t4_sub x (bytes_of (record_of t).subchar) ≡ true) s sub-passes);
        sub1 =
            subst (λ (x : Record). t4_sub1 (step_at (take (needed lim) lent.states)) (sub1_in x.subchar1) ≡ true)
            (sym r) (subst (λ (x : Rows). t4_sub1 x (sub1_in (record_of t).subchar1) ≡ true) s sub1-passes);
        store_ok =
            form-store lim.mappings rec.mappings lent.codes lent.infos lent.order
            (form-kept lim t p k rec lent f);
        read_back = back_passes;
        lines_ok =
            subst (λ (l : List Stored). all_of (line_ok (step_at (take (needed lim) lent.states)) rec) l ≡ true)
            (sym (entries-Form lim t p k rec lent f))
            (subst (λ (x : Record). all_of (line_ok (step_at (take (needed lim) lent.states)) x) (sorted t.lines)
            ≡ true) (sym r)
            (subst (λ (x : Rows). all_of (line_ok x (record_of t)) (sorted t.lines) ≡ true) s lines-pass));
      }
