-- From the test to the form: what passes is the form of the table that the memory holds.
-- held-proper, held_keeps, held-form: that table is as a text can give it, keeps T1 to T10, and this is its form.
use mathlib.Core.Path.{◌≡◌, refl, sym, ap, ◌∙◌, subst}
use mathlib.Core.Bool.{Bool, true}
use mathlib.Core.List.{List, [], ◌∷◌, map}
use Prim.Native.Nat.{ℕ, ◌*◌, ◌<◌, ◌≤◌}
use native.Mathlib.Omega.{arith}
use lib.Dec.{leb}
use lib.ListN.{length, take, length-map}
use borrow.Author.Tests.{le-leb}
use Rattle.lists.specs.Order.{All, Rising, sort}
use Rattle.lists.proofs.Order.{All-⇒, All-×⁺, All-map⁺, sort-Rising}
use Rattle.lists.proofs.AllParts.{All-take}
use Rattle.lists.proofs.Laws.{and_yes}
use Rattle.table.specs.Limits.{Limits, needed}
use Rattle.table.specs.Cells.{Cell, cell_in}
use Rattle.table.specs.States.{Rows, step_at}
use Rattle.table.specs.Codes.{code_of, bytes_of}
use Rattle.table.specs.Meaning.{Line, Table, flat, steps_on}
use Rattle.table.specs.Rules.{Keeps, t2, t3, t4_sub, t4_sub1, t5, t6, t7, t8, t10}
use Rattle.table.specs.Stored.{Stored, stored_ok, stored_of, line_in, less}
use Rattle.table.specs.Slices.{Slices}
use Rattle.table.specs.Memory.{stored_list, sorted, numbers_of, sub1_in, record_of, SlicesHold, Form, Proper, pieces, lines_in}
use Rattle.table.specs.loops.Progress.{GoodLine}
use Rattle.table.specs.Valid.{state_ok, valid}
use Rattle.table.specs.declared.valid.Record.{Record}
use Rattle.table.proofs.Depth.{StatesKept, states_ok⇒StatesKept}
use Rattle.table.proofs.RowLaws.{all_of-state_ok}
use Rattle.table.proofs.Packing.{unpacked-bytes, pack-unpack, length-unpacked}
use Rattle.table.proofs.StoredLaws.{less-irrefl, less-trans}
use Rattle.lists.proofs.AllAny.{true-all}
use Rattle.table.proofs.Sorted.{store-form}
use Rattle.table.proofs.StoreLaws.{entries-es, Rising-entries, AllApart-entries}
use Rattle.table.proofs.StoredLine.{stored-line, good-stored}
use Rattle.table.proofs.LineClashes.{AllApart⇒t9}
use Rattle.table.proofs.TestParts.{RecordKept, record_ok⇒RecordKept, LineKept, Tested, tested, Tested⇒LineKept, lines-formed}
use Rattle.table.proofs.NumbersBack.{rows-count, rows-full, rows-numbers, states-filled, states-say, sub1_of-sub1_in}
use Rattle.lists.specs.Tests.{all_of}
use Rattle.table.specs.loops.Search.{AllApart, Kept}

lines-map : (P : Stored → Type 0) (g : Line → Bool) (es : List Stored)
    → All P es
    → ((e : Stored) → P e → g (line_in e) ≡ true)
    → all_of g (map line_in es) ≡ true
lines-map P g es h q = true-all g (map line_in es) (All-map⁺ line_in (λ l. g l ≡ true) es (All-⇒ q es h))

-- bytes that are bytes
entries-small : (a b : List ℕ) → All (λ x. x < 4294967296) a → All (λ e. e.bits < 4294967296) (stored_list a b)
unfolding stored_list
entries-small [] b h = tt
entries-small (x ∷ a) [] h = tt
entries-small (x ∷ a) (y ∷ b) h = (h.0, entries-small a b h.1)

lines-back : (es : List Stored) → All (λ e. stored_ok e ≡ true) es → map stored_of (map line_in es) ≡ es
lines-back [] h = refl
lines-back (e ∷ es) h = (λ i. stored-line e h.0 i ∷ lines-back es h.1 i)

-- from the test to the form
module _ (lim : Limits) (rec : Record) (m : Slices) (ok : valid lim rec m ≡ true)
    (small : All (λ x. x < 4294967296) m.codes) (sub_small : rec.subchar.bits < 4294967296) where
  passed : Tested lim rec m
  passed = tested lim rec m ok

  numbers : RecordKept lim rec
  numbers = record_ok⇒RecordKept lim rec passed.rec-ok

  abbrev n : ℕ
  n = rec.rows

  abbrev es : List Stored
  es = stored_list (take rec.mappings m.codes) (take rec.mappings m.infos)

  abbrev step : Rows
  step = step_at (take (needed lim) m.states)

  rows-parts : StatesKept lim n m.states
  rows-parts = states_ok⇒StatesKept lim n m.states passed.states-ok

  rows_fit : n * 256 ≤ needed lim
  rows_fit = omega (arith, numbers.most-rows)

  abbrev rows-held : List (List Cell)
  rows-held = pieces n (map cell_in m.states)

  numbers-held : numbers_of rows-held ≡ take (n * 256) m.states
  numbers-held = rows-numbers n m.states rows-parts.entries

  steps-same : step ≡ steps_on rows-held
  steps-same = states-say lim n m.states numbers.most-rows passed.states-ok

  kept : Kept lim.mappings rec.mappings m.codes m.infos m.order
  kept = store-form lim.mappings rec.mappings m.codes m.infos m.order passed.store_ok

  es-is : es ≡ kept.es
  es-is = entries-es lim.mappings rec.mappings m.codes m.infos m.order kept

  es-rising : Rising less es
  es-rising = Rising-entries lim.mappings rec.mappings m.codes m.infos m.order kept

  es-apart : AllApart es
  es-apart = AllApart-entries lim.mappings rec.mappings m.codes m.infos m.order kept

  es-count : length es ≡ rec.mappings
  es-count = ap (λ (l : List Stored). length l) es-is ∙ kept.count

  each : All (LineKept step rec) es
  each = Tested⇒LineKept lim rec m passed

  back : map stored_of (map line_in es) ≡ es
  back = lines-back es (lines-formed lim rec m passed)

  sorted-is : sorted (map line_in es) ≡ es
  sorted-is = ap (sort less) back ∙ sort-Rising less less-irrefl less-trans es es-rising

  each-good : All GoodLine (map line_in es)
  each-good =
      All-map⁺ line_in GoodLine es
      (All-⇒ (λ e (w : LineKept step rec e × (e.bits < 4294967296)). good-stored e w.0.formed w.1
      w.0.keeps-6) es
      (All-×⁺ (LineKept step rec) (λ e. e.bits < 4294967296) es each
      (entries-small (take rec.mappings m.codes) (take rec.mappings m.infos)
      (All-take (λ x. x < 4294967296) rec.mappings m.codes small))))

  abbrev held-table : Table
  held-table = record {
    rows = rows-held;
    lines = map line_in es;
    min = rec.min;
    max = rec.max;
    subchar = bytes_of rec.subchar;
    subchar1 = sub1_in rec.subchar1;
  }

  pub held-proper : Proper held-table
  held-proper = record {
    rows-full =
        rows-full n (map cell_in m.states) (omega (arith, length-map m.states cell_in, rows_fit, rows-parts.long));
    lines-proper = All-⇒ (λ l g. g.proper) (map line_in es) each-good;
    sub-bytes = unpacked-bytes rec.subchar.len rec.subchar.bits sub_small;
    sub1-byte = omega (arith, sub1_of-sub1_in rec.subchar1, numbers.sub1-byte);
  }

  record_same : rec ≡ record_of held-table
  unfolding record_of
  record_same =
      let sub : rec.subchar ≡ code_of (bytes_of rec.subchar) =
      (λ i. record {
        bits = sym (pack-unpack rec.subchar.len rec.subchar.bits numbers.sub-padded) i;
        len = sym (length-unpacked rec.subchar.len rec.subchar.bits) i;
      }) in
      (λ i. record {
        rows = sym (rows-count n (map cell_in m.states)) i;
        mappings = sym (length-map es line_in ∙ es-count) i;
        min = rec.min;
        max = rec.max;
        subchar = sub i;
        subchar1 = sym (sub1_of-sub1_in rec.subchar1) i;
      })

  held_back : t10 (map line_in es) ≡ true
  unfolding lines_in
  held_back = passed.read_back

  pub held_keeps : Keeps lim held-table
  held_keeps =
      let rc = rows-count n (map cell_in m.states) in
      let lc = length-map es line_in ∙ es-count in
      record {
        rule10 = held_back;
        so_far = record {
          rule1-rows =
              and_yes (leb 1 (length rows-held)) _ (le-leb 1 (length rows-held) (omega (arith, numbers.least-rows)))
              (le-leb (length rows-held) lim.rows (omega (arith, numbers.most-rows)));
          rule1-lines = le-leb (length (map line_in es)) lim.mappings (omega (arith, numbers.few-lines));
          rule1-sizes = numbers.sizes;
          rule2 =
              ap (λ (k : ℕ). t2 k (flat rows-held)) rc ∙ sym (all_of-state_ok n (flat rows-held))
              ∙ ap (all_of (state_ok n)) numbers-held ∙ rows-parts.entries;
          rule3 = subst (λ (s : Rows). t3 s rec.max ≡ true) steps-same passed.deep;
          rule4-sub = subst (λ (s : Rows). t4_sub s (bytes_of rec.subchar) ≡ true) steps-same passed.sub;
          rule4-sub1 = subst (λ (s : Rows). t4_sub1 s (sub1_in rec.subchar1) ≡ true) steps-same passed.sub1;
          rule5 =
              subst (λ (s : Rows). all_of (t5 s rec.min rec.max) (map line_in es) ≡ true) steps-same
              (lines-map (LineKept step rec) (t5 step rec.min rec.max) es each (λ e k. k.keeps-5));
          rule6 = lines-map (LineKept step rec) t6 es each (λ e k. k.keeps-6);
          rule7 = lines-map (LineKept step rec) t7 es each (λ e k. k.keeps-7);
          rule8 = lines-map (LineKept step rec) (t8 (sub1_in rec.subchar1)) es each (λ e k. k.keeps-8);
          rule9 = AllApart⇒t9 (map line_in es) each-good (subst AllApart (sym back) es-apart);
        };
      }

  pub held-form : Form lim held-table rec m
  held-form = record {
    record_is = record_same;
    states-are = states-filled lim n m.states numbers.most-rows passed.states-ok;
    mappings-are =
        subst (λ (l : List Stored). SlicesHold lim.mappings l m.codes m.infos m.order)
        (sym es-is ∙ sym sorted-is) kept.stored;
  }
