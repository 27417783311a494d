-- The test behind 60, in the order of the code and taken apart.
-- mappings-are, valid-is      the tests in the order in which the functions make them
-- record_ok⇒RecordKept, line_kept      what the record's test and a line's give; kept_line the other way round
-- states-long, t4_sub1-some, t4_sub1-none   enough states; T4 of subchar1 as a code of one byte
-- tested, untested            the test as a record of its parts, and back
-- Tested⇒LineKept, lines-formed    each stored line keeps the rules, is of the form
use mathlib.Core.Path.{◌≡◌}
use mathlib.Core.Bool.{Bool, true, false}
use mathlib.Core.List.{List}
use Prim.Native.Nat.{ℕ, ◌-◌, ◌*◌, ◌/◌, ◌≤◌}
use native.Mathlib.Omega.{arith}
use lib.Dec.{leb}
use lib.ListN.{length, take, drop}
use borrow.Author.Tests.{ne_eqb, leb-true}
use Rattle.lists.specs.Pick.{pick}
use Rattle.lists.specs.Order.{All, rises}
use Rattle.lists.proofs.Order.{All-⇒}
use Rattle.lists.proofs.Laws.{and_yes, and_left, and_right}
use Rattle.table.specs.Limits.{Limits, needed}
use Rattle.table.specs.States.{Rows, step_at, is_code}
use Rattle.table.specs.Codes.{bytes_of, unpacked}
use Rattle.table.specs.Rules.{t1_rows, t1_lines, t1_sizes, t3, t4_sub, t4_sub1, t5, t6, t7, t8, t10}
use Rattle.table.specs.Stored.{Stored, padded, stored_ok, line_in, read_next}
use Rattle.table.specs.Slices.{Slices}
use Rattle.table.specs.Memory.{stored_list, sub1_in, lines_in}
use Rattle.table.specs.Valid.{states_ok, record_ok, line_ok, ordered, store_ok, valid}
use Rattle.table.specs.declared.valid.Record.{Record}
use Rattle.table.proofs.Depth.{states_ok⇒StatesKept}
use Rattle.lists.proofs.AllAny.{all_true}
use Rattle.lists.proofs.Conjunctions.{and_last, and-pairs}
use Rattle.lists.specs.Tests.{all_of, zeros}

-- the tests in the order of the code
pub mappings-are : (limit n : ℕ) (codes infos order : List ℕ) (l m : Bool)
    → pick (rises read_next (stored_list (take n codes) (take n infos))) l false ≡ m
    → pick (store_ok limit n codes infos order) l false
    ≡ pick (leb n limit)
    (pick (leb limit (length codes))
    (pick (leb limit (length infos))
    (pick (leb limit (length order))
    (pick m
    (pick (ordered (take n codes) (take n infos) (take n order))
    (pick (zeros (take (limit - n) (drop n codes)))
    (pick (zeros (take (limit - n) (drop n infos)))
    (zeros (take (limit - n) (drop n order)))
    false) false) false) false) false) false) false) false
unfolding store_ok
mappings-are limit n codes infos order l m e =
    and_last (leb n limit) (leb limit (length codes)) (leb limit (length infos)) (leb limit (length order))
    (rises read_next (stored_list (take n codes) (take n infos))) l
    (pick (ordered (take n codes) (take n infos) (take n order))
    (pick (zeros (take (limit - n) (drop n codes)))
    (pick (zeros (take (limit - n) (drop n infos))) (zeros (take (limit - n) (drop n order))) false) false) false) m e

pub valid-is : (lim : Limits) (rec : Record) (m : Slices) → valid lim rec m
    ≡ pick (record_ok lim rec)
    (pick (pick (states_ok lim rec.rows m.states) (t3 (step_at (take (needed lim) m.states)) rec.max) false)
    (pick (pick (t4_sub (step_at (take (needed lim) m.states)) (bytes_of rec.subchar))
    (t4_sub1 (step_at (take (needed lim) m.states)) (sub1_in rec.subchar1)) false)
    (pick (store_ok lim.mappings rec.mappings m.codes m.infos m.order)
    (pick (t10 (lines_in rec m.codes m.infos))
    (all_of (line_ok (step_at (take (needed lim) m.states)) rec)
    (stored_list (take rec.mappings m.codes) (take rec.mappings m.infos))) false) false)
    false) false) false
unfolding valid
valid-is lim rec m =
    and-pairs (record_ok lim rec) (states_ok lim rec.rows m.states)
    (t3 (step_at (take (needed lim) m.states)) rec.max)
    (t4_sub (step_at (take (needed lim) m.states)) (bytes_of rec.subchar))
    (t4_sub1 (step_at (take (needed lim) m.states)) (sub1_in rec.subchar1))
    (pick (store_ok lim.mappings rec.mappings m.codes m.infos m.order)
    (pick (t10 (lines_in rec m.codes m.infos))
    (all_of (line_ok (step_at (take (needed lim) m.states)) rec)
    (stored_list (take rec.mappings m.codes) (take rec.mappings m.infos))) false) false)

-- what the record's test gives
pub record RecordKept (lim : Limits) (rec : Record) : Type 0 where
  pub least-rows : 1 ≤ rec.rows
  pub most-rows : rec.rows ≤ lim.rows
  pub few-lines : rec.mappings ≤ lim.mappings
  pub sizes : t1_sizes rec.min rec.max ≡ true
  pub sub-padded : padded rec.subchar.len rec.subchar.bits ≡ true
  pub sub1-byte : rec.subchar1 ≤ 256

pub record_ok⇒RecordKept : (lim : Limits) (rec : Record) → record_ok lim rec ≡ true → RecordKept lim rec
unfolding record_ok
record_ok⇒RecordKept lim rec h =
    let a = and_left (t1_rows lim rec.rows) _ h in
    let h1 = and_right (t1_rows lim rec.rows) _ h in
    let b = and_left (t1_lines lim rec.mappings) _ h1 in
    let h2 = and_right (t1_lines lim rec.mappings) _ h1 in
    let c = and_left (t1_sizes rec.min rec.max) _ h2 in
    let h3 = and_right (t1_sizes rec.min rec.max) _ h2 in
    record {
      least-rows = leb-true 1 rec.rows (and_left (leb 1 rec.rows) _ a);
      most-rows = leb-true rec.rows lim.rows (and_right (leb 1 rec.rows) _ a);
      few-lines = leb-true rec.mappings lim.mappings b;
      sizes = c;
      sub-padded = and_left _ _ h3;
      sub1-byte = leb-true rec.subchar1 256 (and_right (padded rec.subchar.len rec.subchar.bits) _ h3);
    }

pub states-long : (lim : Limits) (n : ℕ) (states : List ℕ) (t : Bool)
    → pick (states_ok lim n states) t false ≡ true
    → needed lim ≤ length states
states-long lim n states t h = (states_ok⇒StatesKept lim n states (and_left (states_ok lim n states) t h)).long

-- T4 of subchar1, as a code of one byte on top
pub t4_sub1-some : (step : Rows) (n : ℕ)
    → (n ≡ 0 → ⊥)
    → t4_sub1 step (sub1_in n) ≡ is_code step 0 (unpacked 1 ((n - 1) * 16777216))
unfolding unpacked
t4_sub1-some step n d = let q : (n - 1) * 16777216 / 16777216 ≡ n - 1 = omega arith in rw (ne_eqb n 0 d, q)

pub t4_sub1-none : (step : Rows) (n : ℕ) → n ≡ 0 → t4_sub1 step (sub1_in n) ≡ true
t4_sub1-none step n e = rw e

-- the rules of a stored line
pub record LineKept (step : Rows) (rec : Record) (e : Stored) : Type 0 where
  pub formed : stored_ok e ≡ true
  pub keeps-5 : t5 step rec.min rec.max (line_in e) ≡ true
  pub keeps-6 : t6 (line_in e) ≡ true
  pub keeps-7 : t7 (line_in e) ≡ true
  pub keeps-8 : t8 (sub1_in rec.subchar1) (line_in e) ≡ true

pub line_kept : (step : Rows) (rec : Record) (e : Stored) → line_ok step rec e ≡ true → LineKept step rec e
unfolding line_ok
line_kept step rec e h =
    let h1 = and_right (stored_ok e) _ h in
    let h2 = and_right (t5 step rec.min rec.max (line_in e)) _ h1 in
    let h3 = and_right (t6 (line_in e)) _ h2 in
    record {
      formed = and_left (stored_ok e) _ h;
      keeps-5 = and_left (t5 step rec.min rec.max (line_in e)) _ h1;
      keeps-6 = and_left (t6 (line_in e)) _ h2;
      keeps-7 = and_left (t7 (line_in e)) _ h3;
      keeps-8 = and_right (t7 (line_in e)) _ h3;
    }

pub kept_line : (step : Rows) (rec : Record) (e : Stored) → LineKept step rec e → line_ok step rec e ≡ true
unfolding line_ok
kept_line step rec e k =
    and_yes (stored_ok e) _ k.formed
    (and_yes (t5 step rec.min rec.max (line_in e)) _ k.keeps-5
    (and_yes (t6 (line_in e)) _ k.keeps-6
    (and_yes (t7 (line_in e)) _ k.keeps-7 k.keeps-8)))

-- ## The test taken apart
pub record Tested (lim : Limits) (rec : Record) (m : Slices) : Type 0 where
  pub rec-ok : record_ok lim rec ≡ true
  pub states-ok : states_ok lim rec.rows m.states ≡ true
  pub deep : t3 (step_at (take (needed lim) m.states)) rec.max ≡ true
  pub sub : t4_sub (step_at (take (needed lim) m.states)) (bytes_of rec.subchar) ≡ true
  pub sub1 : t4_sub1 (step_at (take (needed lim) m.states)) (sub1_in rec.subchar1) ≡ true
  pub store_ok : store_ok lim.mappings rec.mappings m.codes m.infos m.order ≡ true
  pub read_back : t10 (lines_in rec m.codes m.infos) ≡ true
  pub lines_ok : all_of (line_ok (step_at (take (needed lim) m.states)) rec)
      (stored_list (take rec.mappings m.codes) (take rec.mappings m.infos)) ≡ true

pub tested : (lim : Limits) (rec : Record) (m : Slices) → valid lim rec m ≡ true → Tested lim rec m
unfolding valid
tested lim rec m h =
    let h1 = and_right (record_ok lim rec) _ h in
    let h2 = and_right (states_ok lim rec.rows m.states) _ h1 in
    let h3 = and_right (t3 (step_at (take (needed lim) m.states)) rec.max) _ h2 in
    let h4 = and_right (t4_sub (step_at (take (needed lim) m.states)) (bytes_of rec.subchar)) _ h3 in
    let h5 = and_right (t4_sub1 (step_at (take (needed lim) m.states)) (sub1_in rec.subchar1)) _ h4 in
    let h6 = and_right (store_ok lim.mappings rec.mappings m.codes m.infos m.order) _ h5 in
    record {
      rec-ok = and_left (record_ok lim rec) _ h;
      states-ok = and_left (states_ok lim rec.rows m.states) _ h1;
      deep = and_left (t3 (step_at (take (needed lim) m.states)) rec.max) _ h2;
      sub = and_left (t4_sub (step_at (take (needed lim) m.states)) (bytes_of rec.subchar)) _ h3;
      sub1 = and_left (t4_sub1 (step_at (take (needed lim) m.states)) (sub1_in rec.subchar1)) _ h4;
      store_ok = and_left (store_ok lim.mappings rec.mappings m.codes m.infos m.order) _ h5;
      read_back = and_left (t10 (lines_in rec m.codes m.infos)) _ h6;
      lines_ok = and_right (t10 (lines_in rec m.codes m.infos)) _ h6;
    }

pub untested : (lim : Limits) (rec : Record) (m : Slices) → Tested lim rec m → valid lim rec m ≡ true
unfolding valid
untested lim rec m k =
    and_yes (record_ok lim rec) _ k.rec-ok
    (and_yes (states_ok lim rec.rows m.states) _ k.states-ok
    (and_yes (t3 (step_at (take (needed lim) m.states)) rec.max) _ k.deep
    (and_yes (t4_sub (step_at (take (needed lim) m.states)) (bytes_of rec.subchar)) _ k.sub
    (and_yes (t4_sub1 (step_at (take (needed lim) m.states)) (sub1_in rec.subchar1)) _ k.sub1
    (and_yes (store_ok lim.mappings rec.mappings m.codes m.infos m.order) _ k.store_ok
    (and_yes (t10 (lines_in rec m.codes m.infos)) _ k.read_back k.lines_ok))))))

-- each stored line keeps the rules
pub Tested⇒LineKept : (lim : Limits) (rec : Record) (m : Slices) → Tested lim rec m
    → All (LineKept (step_at (take (needed lim) m.states)) rec)
    (stored_list (take rec.mappings m.codes) (take rec.mappings m.infos))
Tested⇒LineKept lim rec m k =
    let step = step_at (take (needed lim) m.states) in
    let es = stored_list (take rec.mappings m.codes) (take rec.mappings m.infos) in
    All-⇒ (line_kept step rec) es (all_true (line_ok step rec) es k.lines_ok)

-- and is of the form
pub lines-formed : (lim : Limits) (rec : Record) (m : Slices) → Tested lim rec m
    → All (λ e. stored_ok e ≡ true) (stored_list (take rec.mappings m.codes) (take rec.mappings m.infos))
lines-formed lim rec m k =
    All-⇒ (λ e w. w.formed) (stored_list (take rec.mappings m.codes) (take rec.mappings m.infos))
    (Tested⇒LineKept lim rec m k)
