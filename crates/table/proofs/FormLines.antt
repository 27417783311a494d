-- The lines of a table that keeps the rules can be stored (keeps-good); a memory in its form holds them sorted (entries-Form), and the
-- slices pass (form-kept); the line that reads a code keeps every rule (reader-keeps).
use mathlib.Core.Path.{◌≡◌, refl, sym, ap, ◌∙◌}
use mathlib.Core.Bool.{Bool, true, false}
use mathlib.Core.Option.{Option, none, some}
use mathlib.Core.List.{List, [], ◌∷◌, map}
use Prim.Native.Nat.{ℕ, ◌<◌, ◌≤◌}
use native.Mathlib.Omega.{arith}
use lib.Dec.{leb}
use lib.ListN.{length, take, length-map}
use borrow.Author.Tests.{leb-true}
use Rattle.lists.specs.Pick.{pick}
use Rattle.lists.specs.Order.{All}
use Rattle.lists.proofs.Order.{All-In⁻, All-In⁺, length-sort}
use Rattle.lists.proofs.First.{first_of-some⁻}
use Rattle.lists.proofs.Laws.{clash, and_left, and_right}
use Rattle.table.specs.Limits.{Limits}
use Rattle.table.specs.States.{Rows, end_kind}
use Rattle.table.specs.Meaning.{Line, Table, steps_of, is_substituted, reader}
use Rattle.table.specs.Rules.{Keeps, t1_sizes, t5, t5_kind, t6, t8, t8_byte}
use Rattle.table.specs.Stored.{stored_of, less}
use Rattle.table.specs.Slices.{Slices}
use Rattle.table.specs.Memory.{stored_list, sorted, record_of, Form, Proper, ProperLine}
use Rattle.table.specs.loops.Progress.{GoodLine}
use Rattle.table.specs.declared.valid.Record.{Record}
use Rattle.table.proofs.KeptSizes.{t1_sizes⇒Sizes}
use Rattle.table.proofs.Ranks.{has_code-is_substituted}
use Rattle.lists.proofs.AllAny.{all_true}
use Rattle.table.proofs.Sorted.{sorted-rising, sorted_apart}
use Rattle.table.proofs.StoreLaws.{entries-es}
use Rattle.lists.proofs.Strings.{same⇒≡}
use Rattle.table.proofs.LineClashes.{t9⇒AllApart}
use Rattle.lists.specs.Tests.{all_of}
use Rattle.table.specs.loops.Search.{AllApart, Kept}

-- lines of a table that keeps the rules can be stored
two-length : (sub1 : Option ℕ) (c : List ℕ) → t8_byte sub1 c ≡ true → length c ≡ 1
two-length none c h = absurd (clash h refl)
two-length (some b) c h = ap (λ (l : List ℕ). length l) (same⇒≡ c (b ∷ []) h)

line-length : (step : Rows) (min max : ℕ) (sub1 : Option ℕ) (l : Line)
    → l.indicator < 4
    → t1_sizes min max ≡ true
    → t5 step min max l ≡ true
    → t8 sub1 l ≡ true
    → (1 ≤ length l.code) × (length l.code ≤ 4)
line-length step min max sub1 l d s h k =
    go (is_substituted l) (sym (ap (λ (t : Bool). pick t sized true) (has_code-is_substituted l d)) ∙ h) k
  where
    sized : Bool
    sized =
        pick (leb min (length l.code))
        (pick (leb (length l.code) max) (t5_kind l.point (end_kind step 0 l.code)) false) false

    go : (t : Bool)
        → pick (pick t false true) sized true ≡ true
        → pick t (t8_byte sub1 l.code) true ≡ true
        → (1 ≤ length l.code) × (length l.code ≤ 4)
    go true p q = let n = two-length sub1 l.code q in (omega arith, omega arith)
    go false p q =
        let m = t1_sizes⇒Sizes min max s in
        let lo = leb-true min (length l.code) (and_left (leb min (length l.code)) _ p) in
        let p1 = and_right (leb min (length l.code)) _ p in
        let hi = leb-true (length l.code) max (and_left (leb (length l.code) max) _ p1) in
        (omega (arith, m.least, m.ordered), omega (arith, m.most))

pub keeps-good : (lim : Limits) (t : Table) → Proper t → Keeps lim t → All GoodLine t.lines
keeps-good lim t p k =
    All-In⁺ t.lines (λ l i.
    let proper = All-In⁻ ProperLine l t.lines p.lines-proper i in
    let n = line-length (steps_of t) t.min t.max t.subchar1 l proper.digit k.so_far.rule1-sizes
    (All-In⁻ (λ x. t5 (steps_of t) t.min t.max x ≡ true) l t.lines
    (all_true (t5 (steps_of t) t.min t.max) t.lines k.so_far.rule5) i)
    (All-In⁻ (λ x. t8 t.subchar1 x ≡ true) l t.lines (all_true (t8 t.subchar1) t.lines k.so_far.rule8) i) in
    record {
      proper = proper;
      some_bytes = n.0;
      few_bytes = n.1;
      scalar = All-In⁻ (λ x. t6 x ≡ true) l t.lines (all_true t6 t.lines k.so_far.rule6) i;
    })

-- what a memory in a table's form holds
module _ (lim : Limits) (t : Table) (p : Proper t) (k : Keeps lim t) (rec : Record) (m : Slices)
    (f : Form lim t rec m) where
  good : All GoodLine t.lines
  good = keeps-good lim t p k

  pub lines-apart : AllApart (map stored_of t.lines)
  lines-apart = t9⇒AllApart t.lines good k.so_far.rule9

  pub form-count : length (sorted t.lines) ≡ rec.mappings
  unfolding record_of
  form-count =
      length-sort less (map stored_of t.lines) ∙ length-map t.lines stored_of
      ∙ sym (ap (λ (r : Record). r.mappings) f.record_is)

  abbrev pub form-kept : Kept lim.mappings rec.mappings m.codes m.infos m.order
  form-kept = record {
    es = sorted t.lines;
    count = form-count;
    rising = sorted-rising (map stored_of t.lines) lines-apart;
    apart = sorted_apart (map stored_of t.lines) lines-apart;
    stored = f.mappings-are;
  }

  pub entries-Form : stored_list (take rec.mappings m.codes) (take rec.mappings m.infos) ≡ sorted t.lines
  entries-Form = entries-es lim.mappings rec.mappings m.codes m.infos m.order form-kept

-- the line that reads a code keeps a rule that all lines keep
pub reader-keeps : (rule : Line → Bool) (code : List ℕ) (ls : List Line) (l : Line)
    → all_of rule ls ≡ true
    → reader code ls ≡ some l
    → rule l ≡ true
reader-keeps rule code ls l ok e = All-In⁻ (λ x. rule x ≡ true) l ls (all_true rule ls ok) (first_of-some⁻ _ l ls e).0
