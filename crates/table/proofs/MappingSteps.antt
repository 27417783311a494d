-- After CHARMAP: the conditions on a mapping by its numbers, and what one mapping more leaves in memory; those at END CHARMAP.
use Rattle.std.specs.Prelude.{Ok, Err}
use Prim.Native.Nat.{ℕ, ◌+◌, ◌-◌, ◌*◌, ◌/◌, ◌<◌, ◌≤◌}
use mathlib.Core.Path.{◌≡◌, refl, sym, ap, subst, ◌∙◌}
use mathlib.Core.Bool.{Bool, true, false, not}
use mathlib.Core.Option.{none, some}
use mathlib.Core.List.{List, [], ◌∷◌, ◌++◌, map}
use native.Mathlib.Omega.{arith}
use lib.Dec.{leb, eqb}
use lib.ListN.{length, get_or, take, drop, length-map}
use borrow.Author.Tests.{le-leb, lt-leb, eq-eqb, ne_eqb}
use Rattle.lists.specs.Pick.{pick}
use Rattle.lists.specs.Order.{All, insert}
use Rattle.lists.proofs.Cases.{pick_yes, pick_no}
use Rattle.lists.proofs.Choice.{pick-true-true, pick-true-false, pick-false-false}
use Rattle.lists.proofs.Chains.{unless-yes}
use Rattle.lists.proofs.Front.{drop-++-drop}
use Rattle.lists.proofs.Order.{length-insert, length-sort}
use Rattle.table.specs.Limits.{Limits, needed}
use Rattle.table.specs.Cells.{Cell}
use Rattle.table.specs.States.{Rows, step_at, end_kind}
use Rattle.table.specs.Codes.{packed, unpacked, AllByte}
use Rattle.table.specs.Meaning.{Line, has_code, writes_code, steps_on}
use Rattle.table.specs.Rules.{t5, t5_kind, t6, t7, t8, t8_byte, t9, shares_bytes, shares_point}
use Rattle.table.specs.Stored.{Stored, mk, bits_of, info_of, rank_of, stored_of, less}
use Rattle.table.specs.Slices.{slices}
use Rattle.table.specs.Memory.{stored_list, sorted, order_of, sub1_in, SlicesHold}
use Rattle.table.specs.Keys.{min_of, max_of}
use Rattle.table.specs.loops.Backed.{backed}
use Rattle.table.proofs.Neighbours.{backed-lines}
use Rattle.table.specs.loops.Search.{read_taken, write_taken, AllApart, Kept}
use Rattle.table.specs.Numbers.{cond, lowest, n20, n21, n22, n23, n24, n25, n26, n28, mapping_conditions, end_conditions, Verdict}
use Rattle.table.specs.Load.{judged, reading, line_as}
use Rattle.table.specs.loops.Progress.{keys_in, GoodLine, Holding, StepTaken}
use Rattle.table.specs.declared.header.Head.{Head}
use Rattle.table.specs.declared.load.Refusal.{Refusal}
use Rattle.table.specs.declared.load.Refusal.TheVariants.{NoScalar, NoSuchCode, LeadingZero, NoSubchar1, BytesTaken, PointTaken, TooMany, NotReadBack}
use Rattle.table.specs.declared.load.Phase.{Phase}
use Rattle.table.specs.declared.load.Phase.TheVariants.{Mappings, Ended}
use Rattle.table.proofs.Packing.{packed-fits, unpacked-packed}
use Rattle.table.proofs.Sorted.{sorted-rising, sorted_apart}
use Rattle.table.proofs.IndexOrder.{length-order_of}
use Rattle.table.proofs.Inserted.{free-next, next-held, sorted_more}
use Rattle.table.proofs.StoreLaws.{entries-es}
use Rattle.table.proofs.Ranks.{has_code-is_substituted, writes-code}
use Rattle.table.proofs.LineClashes.{t9⇒AllApart, read-taken-lines, write-taken-lines}
use Rattle.table.proofs.StoredLine.{stored-point}
use Rattle.table.proofs.LowestLaws.{lowest-fine}
use Rattle.table.proofs.LineSteps.{fine-taken, same_taken, refused-taken}
use Rattle.table.proofs.RowLaws.{steps-filled}
use Rattle.table.proofs.KeyLaws.{min_of-keys_in, max_of-keys_in}
use Rattle.lists.specs.Strings.{same}
use Rattle.lists.specs.Tests.{any_of}
use Rattle.table.proofs.OneMore.{lines-over}

-- 20 to 23 by T6, T5, T7, T8
abbrev verdict_of : Bool → Bool → Bool → Bool → Verdict
verdict_of a b c d = pick (not a) (Err NoScalar) (pick (not b) (Err NoSuchCode) (pick (not c) (Err LeadingZero) (pick (not d) (Err NoSubchar1) (Ok tt))))

abbrev pub own_verdict : Rows → Head → Line → Verdict
own_verdict step h l = lowest (cond NoScalar (n20 l) ∷ cond NoSuchCode (not (t5 step h.min h.max l)) ∷ cond LeadingZero (n22 l) ∷ cond NoSubchar1 (n23 (keys_in h) l) ∷ [])

own_is : (step : Rows) (h : Head) (l : Line) → own_verdict step h l ≡ verdict_of (t6 l) (t5 step h.min h.max l) (t7 l) (t8 (sub1_in h.sub1) l)
unfolding lowest n20 n22 n23
own_is step h l = refl

-- the first byte of a code is on top
first_byte : (c : List ℕ) → AllByte c → packed c / 16777216 ≡ get_or c 0 0
unfolding packed AllByte
first_byte [] a = refl
first_byte (b ∷ s) a = let h = packed-fits s a.1 in omega arith

-- a code against one byte
same-one : (c : List ℕ) (b : ℕ) → AllByte c → same c (b ∷ []) ≡ pick (eqb (length c) 1) (eqb (packed c / 16777216) b) false
unfolding same
same-one [] b a = refl
same-one (x ∷ []) b a = pick-true-false (eqb x b) ∙ ap (λ (y : ℕ). eqb y b) (sym (first_byte (x ∷ []) a))
same-one (x ∷ y ∷ s) b a = pick-false-false (eqb x b) ∙ sym (pick_no (eqb (length (x ∷ y ∷ s)) 1) (eqb (packed (x ∷ y ∷ s) / 16777216) b) false (ne_eqb (length (x ∷ y ∷ s)) 1 (λ e. omega arith)))

-- a mapping of a code point, a code and an indicator, where the code is held as bits and length
module _ (step : Rows) (h : Head) (u d : ℕ) (c : List ℕ) (bits len : ℕ) (bytes : AllByte c) (eb : bits ≡ packed c) (el : len ≡ length c) where
  abbrev line : Line
  line = line_as u c d

  own_at : (p q r s : Bool) → t6 line ≡ p → t5 step h.min h.max line ≡ q → t7 line ≡ r → t8 (sub1_in h.sub1) line ≡ s → verdict_of p q r s ≡ own_verdict step h line
  own_at p q r s ep eq er es = sym (own_is step h line ∙ (λ t. verdict_of (ep t) (eq t) (er t) (es t)))

  pub own_verdict-20 : t6 line ≡ false → Err NoScalar ≡ own_verdict step h line
  own_verdict-20 e = own_at false (t5 step h.min h.max line) (t7 line) (t8 (sub1_in h.sub1) line) e refl refl refl

  -- a `|2` line
  module _ (scalar : t6 line ≡ true) (two : d ≡ 2) where
    by_8 : (b : Bool) → t8_byte (sub1_in h.sub1) c ≡ b → verdict_of true true true b ≡ own_verdict step h line
    by_8 b e =
        own_at true true true b scalar (ap (λ (x : ℕ). t5 step h.min h.max (line_as u c x)) two) (ap (λ (x : ℕ). t7 (line_as u c x)) two)
        (ap (λ (x : ℕ). t8 (sub1_in h.sub1) (line_as u c x)) two ∙ e)

    pub own_verdict-23-none : h.sub1 ≡ 0 → Err NoSubchar1 ≡ own_verdict step h line
    own_verdict-23-none e = by_8 false (ap (λ (n : ℕ). t8_byte (sub1_in n) c) e)

    module _ (given : h.sub1 ≡ 0 → ⊥) where
      byte-is : t8_byte (sub1_in h.sub1) c ≡ pick (eqb (length c) 1) (eqb (packed c / 16777216) (h.sub1 - 1)) false
      byte-is = ap (λ (b : Bool). t8_byte (pick b none (some (h.sub1 - 1))) c) (ne_eqb h.sub1 0 given) ∙ same-one c (h.sub1 - 1) bytes

      pub own_verdict-23-long : (len ≡ 1 → ⊥) → Err NoSubchar1 ≡ own_verdict step h line
      own_verdict-23-long n = by_8 false (byte-is ∙ pick_no (eqb (length c) 1) _ false (ne_eqb (length c) 1 (λ e. n (el ∙ e))))

      byte_one : len ≡ 1 → t8_byte (sub1_in h.sub1) c ≡ eqb (packed c / 16777216) (h.sub1 - 1)
      byte_one e = byte-is ∙ pick_yes (eqb (length c) 1) _ false (eq-eqb (length c) 1 (sym el ∙ e))

      pub own_verdict-23-other : len ≡ 1 → (bits / 16777216 ≡ h.sub1 - 1 → ⊥) → Err NoSubchar1 ≡ own_verdict step h line
      own_verdict-23-other e n = by_8 false (byte_one e ∙ ne_eqb (packed c / 16777216) (h.sub1 - 1) (λ q. n (ap (λ (b : ℕ). b / 16777216) eb ∙ q)))

      pub own_verdict-subchar1 : len ≡ 1 → bits / 16777216 ≡ h.sub1 - 1 → Ok tt ≡ own_verdict step h line
      own_verdict-subchar1 e q = by_8 true (byte_one e ∙ eq-eqb (packed c / 16777216) (h.sub1 - 1) (ap (λ (b : ℕ). b / 16777216) (sym eb) ∙ q))

  -- the others
  module _ (scalar : t6 line ≡ true) (few : d ≤ 3) (other : d ≡ 2 → ⊥) where
    own_verdict-t5-t7 : (q r : Bool) → t5 step h.min h.max line ≡ q → t7 line ≡ r → verdict_of true q r true ≡ own_verdict step h line
    own_verdict-t5-t7 q r eq er = own_at true q r true scalar eq er (pick_no (eqb d 2) _ true (ne_eqb d 2 other))

    t5-has_code : t5 step h.min h.max line ≡ pick (leb h.min (length c)) (pick (leb (length c) h.max) (t5_kind u (end_kind step 0 c)) false) false
    t5-has_code = pick_yes (has_code line) _ true (has_code-is_substituted line (omega arith) ∙ pick_no (eqb d 2) false true (ne_eqb d 2 other))

    pub own_verdict-21-long : h.max ≤ 4 → 4 < len → Err NoSuchCode ≡ own_verdict step h line
    own_verdict-21-long m n =
        own_verdict-t5-t7 false (t7 line) (t5-has_code ∙ ap (λ (b : Bool). pick (leb h.min (length c)) (pick b (t5_kind u (end_kind step 0 c)) false) false) (lt-leb (length c) h.max (omega arith)) ∙ pick-false-false (leb h.min (length c))) refl

    module _ (short : len ≤ 4) (t : Bool) (is : t ≡ pick (leb h.min len) (pick (leb len h.max) (t5_kind u (end_kind step 0 (unpacked len bits))) false) false) where
      code-5 : t5 step h.min h.max line ≡ t
      code-5 =
          let code : c ≡ unpacked len bits = sym (unpacked-packed c bytes (omega arith)) ∙ (λ i. unpacked (sym el i) (sym eb i)) in
          t5-has_code ∙ (λ i. pick (leb h.min (sym el i)) (pick (leb (sym el i) h.max) (t5_kind u (end_kind step 0 (code i))) false) false) ∙ sym is

      pub own_verdict-21 : t ≡ false → Err NoSuchCode ≡ own_verdict step h line
      own_verdict-21 e = own_verdict-t5-t7 false (t7 line) (code-5 ∙ e) refl

      pub own_verdict-only-read : t ≡ true → d ≡ 3 → Ok tt ≡ own_verdict step h line
      own_verdict-only-read e three = own_verdict-t5-t7 true true (code-5 ∙ e) (ap (λ (x : ℕ). t7 (line_as u c x)) three)

      pub own_verdict-one-byte : t ≡ true → len ≡ 1 → Ok tt ≡ own_verdict step h line
      own_verdict-one-byte e one =
          own_verdict-t5-t7 true true (code-5 ∙ e) (ap (λ (b : Bool). pick (writes_code line) (pick b true (pick (eqb (get_or c 0 0) 0) false true)) true) (le-leb (length c) 1 (omega arith)) ∙ pick-true-true (writes_code line))

      module _ (e : t ≡ true) (three : d ≡ 3 → ⊥) (some_bytes : 1 ≤ len) (one : len ≡ 1 → ⊥) where
        t7-long : t7 line ≡ pick (eqb (get_or c 0 0) 0) false true
        t7-long = pick_yes (writes_code line) _ true (writes-code line (omega arith) other three) ∙ pick_no (leb (length c) 1) true _ (lt-leb (length c) 1 (omega arith))

        pub own_verdict-22 : bits / 16777216 ≡ 0 → Err LeadingZero ≡ own_verdict step h line
        own_verdict-22 z = own_verdict-t5-t7 true false (code-5 ∙ e) (t7-long ∙ ap (λ (b : Bool). pick b false true) (eq-eqb (get_or c 0 0) 0 (sym (first_byte c bytes) ∙ ap (λ (b : ℕ). b / 16777216) (sym eb) ∙ z)))

        pub own_verdict-fine : (bits / 16777216 ≡ 0 → ⊥) → Ok tt ≡ own_verdict step h line
        own_verdict-fine z = own_verdict-t5-t7 true true (code-5 ∙ e) (t7-long ∙ ap (λ (b : Bool). pick b false true) (ne_eqb (get_or c 0 0) 0 (λ q. z (ap (λ (b : ℕ). b / 16777216) eb ∙ first_byte c bytes ∙ q))))

-- refused is not fine
pub refuse-fine : (x : Refusal) → ◌≡◌ {A = Verdict} (Err x) (Ok tt) → ⊥
refuse-fine x e = let z : ◌≡◌ {A = ℕ} 0 1 = cc in omega arith

pub point-small : (u : ℕ) → t6 (line_as u [] 0) ≡ true → u < 2097152
unfolding AllByte
point-small u h =
    let l = line_as u (0 ∷ []) 0 in
    let q = stored-point l (record { proper = record { bytes = (omega arith, tt); digit = omega arith }; some_bytes = omega arith; few_bytes = omega arith; scalar = h }) in
    omega arith

-- own conditions first, then the others
abbrev then_by : Verdict → Verdict → Verdict
then_by (Err x) w = Err x
then_by (Ok tt) w = w

then_by_lem : (a b c d : Bool) (w : Verdict) → pick (not a) (Err NoScalar) (pick (not b) (Err NoSuchCode) (pick (not c) (Err LeadingZero) (pick (not d) (Err NoSubchar1) w))) ≡ then_by (verdict_of a b c d) w
then_by_lem true true true true w = refl
then_by_lem true true true false w = refl
then_by_lem true true false d w = refl
then_by_lem true false c d w = refl
then_by_lem false b c d w = refl

fine-first : (a b c d : Bool) → verdict_of a b c d ≡ Ok tt → a ≡ true
fine-first true b c d e = refl
fine-first false b c d e = absurd (refuse-fine NoScalar e)

-- the memory behind CHARMAP, and one mapping more
module _ (lim : Limits) (h : Head) (n : ℕ) (rows : List (List Cell)) (ls : List Line) (s c i o : List ℕ) (held : Holding lim h n rows ls (slices s c i o)) where
  goods : All GoodLine ls
  goods = held.lines-good

  pub Holding⇒Kept : Kept lim.mappings n c i o
  Holding⇒Kept =
      let apart : AllApart (map stored_of ls) = t9⇒AllApart ls goods held.lines-apart in
      record {
        es = sorted ls;
        count = length-sort less (map stored_of ls) ∙ length-map ls stored_of ∙ held.lines-count;
        rising = sorted-rising (map stored_of ls) apart;
        apart = sorted_apart (map stored_of ls) apart;
        stored = held.stored;
      }

  held-stored : stored_list (take n c) (take n i) ≡ sorted ls
  unfolding Holding⇒Kept
  held-stored = entries-es lim.mappings n c i o Holding⇒Kept

  pub held-few : n ≤ lim.mappings
  unfolding Holding⇒Kept
  held-few = omega (arith, Holding⇒Kept.count, held.stored.fits)

  -- END CHARMAP: T10 by neighbours
  module _ (b : Bool) (is : b ≡ backed (stored_list (take n c) (take n i))) where
    lowest-end : (v : Bool) → b ≡ v → lowest (end_conditions ls) ≡ pick (not v) (Err NotReadBack) (Ok tt)
    unfolding lowest n28
    lowest-end v e =
        ap (λ (x : Bool). pick (not x) (Err NotReadBack) (Ok tt))
        (sym (is ∙ ap backed held-stored ∙ backed-lines ls goods held.lines-apart) ∙ e)

    pub end-taken : b ≡ true → StepTaken lim (judged (lowest (end_conditions ls)) (reading Ended (keys_in h) rows ls)) (Ok tt) Ended h n (slices s c i o)
    end-taken e =
        subst (λ (v : Verdict). StepTaken lim (judged v (reading Ended (keys_in h) rows ls)) (Ok tt) Ended h n (slices s c i o))
        (sym (lowest-end true e)) (same_taken lim Ended Ended h n rows ls (slices s c i o) refl held)

    pub end_refused : (p : Phase) → b ≡ false → StepTaken lim (judged (lowest (end_conditions ls)) (reading Ended (keys_in h) rows ls)) (Err NotReadBack) p h n (slices s c i o)
    end_refused p e =
        refused-taken lim (lowest (end_conditions ls)) (reading Ended (keys_in h) rows ls) NotReadBack p h n (slices s c i o) (lowest-end false e)

  module _ (l : Line) (own : Verdict) (own-by : own ≡ own_verdict (step_at (take (needed lim) s)) h l) where
    abbrev last : Verdict
    last = pick (n24 ls l) (Err BytesTaken) (pick (n25 ls l) (Err PointTaken) (pick (n26 lim ls) (Err TooMany) (Ok tt)))

    verdict : lowest (mapping_conditions lim (keys_in h) rows ls l) ≡ then_by own last
    unfolding lowest mapping_conditions n20 n21 n22 n23
    verdict =
        then_by_lem (t6 l) (t5 (steps_on rows) (min_of (keys_in h)) (max_of (keys_in h)) l) (t7 l) (t8 (sub1_in h.sub1) l) last
        ∙ (λ j. then_by (verdict_of (t6 l) (t5 (steps_on rows) (min_of-keys_in h j) (max_of-keys_in h j) l) (t7 l) (t8 (sub1_in h.sub1) l)) last)
        ∙ ap (λ (step : Rows). then_by (verdict_of (t6 l) (t5 step h.min h.max l) (t7 l) (t8 (sub1_in h.sub1) l)) last) (sym (steps-filled (needed lim) rows (take (needed lim) s) held.states-are))
        ∙ ap (λ (v : Verdict). then_by v last) (sym (own-by ∙ own_is (step_at (take (needed lim) s)) h l))

    pub own_verdict⇒lowest : (x : Refusal) → own ≡ Err x → lowest (mapping_conditions lim (keys_in h) rows ls l) ≡ Err x
    own_verdict⇒lowest x e = verdict ∙ ap (λ (v : Verdict). then_by v last) e

    -- none of 20 to 23 holds
    module _ (fine : own ≡ Ok tt) (digit : l.indicator ≤ 3) (bytes : AllByte l.code) (least : 1 ≤ length l.code) (most : length l.code ≤ 4) where
      abbrev held-now : List Stored
      held-now = stored_list (take n c) (take n i)

      good : GoodLine l
      good = record {
        proper = record { bytes = bytes; digit = omega arith };
        some_bytes = least;
        few_bytes = most;
        scalar = fine-first (t6 l) (t5 (step_at (take (needed lim) s)) h.min h.max l) (t7 l) (t8 (sub1_in h.sub1) l) (sym (own_is (step_at (take (needed lim) s)) h l) ∙ sym own-by ∙ fine);
      }

      reads-taken : n24 ls l ≡ read_taken (stored_of l) held-now
      unfolding n24
      reads-taken = sym (read-taken-lines l ls good goods) ∙ ap (read_taken (stored_of l)) (sym held-stored)

      writes-taken : n25 ls l ≡ write_taken (stored_of l) held-now
      unfolding n25
      writes-taken = sym (write-taken-lines l ls good goods) ∙ ap (write_taken (stored_of l)) (sym held-stored)

      full_is : n26 lim ls ≡ leb lim.mappings n
      full_is = lines-over lim ls ∙ ap (leb lim.mappings) held.lines-count

      pub lowest-mapping : (e : Stored) (v : Verdict) → e ≡ stored_of l
          → v ≡ pick (read_taken e held-now) (Err BytesTaken) (pick (write_taken e held-now) (Err PointTaken) (pick (leb lim.mappings n) (Err TooMany) (Ok tt)))
          → lowest (mapping_conditions lim (keys_in h) rows ls l) ≡ v
      lowest-mapping e v q is =
          verdict ∙ ap (λ (w : Verdict). then_by w last) fine
          ∙ (λ t. pick (reads-taken t) (Err BytesTaken) (pick (writes-taken t) (Err PointTaken) (pick (full_is t) (Err TooMany) (Ok tt))))
          ∙ ap (λ (x : Stored). pick (read_taken x held-now) (Err BytesTaken) (pick (write_taken x held-now) (Err PointTaken) (pick (leb lim.mappings n) (Err TooMany) (Ok tt)))) (sym q)
          ∙ sym is

      pub more-taken : (e : Stored) (p : Phase) (c' i' o' : List ℕ) → p ≡ Mappings → e ≡ stored_of l → lowest (mapping_conditions lim (keys_in h) rows ls l) ≡ Ok tt → Kept lim.mappings (n + 1) c' i' o'
          → stored_list (take (n + 1) c') (take (n + 1) i') ≡ insert less e held-now
          → StepTaken lim (judged (lowest (mapping_conditions lim (keys_in h) rows ls l)) (reading Mappings (keys_in h) rows (l ∷ ls))) (Ok tt) p h (n + 1) (slices s c' i' o')
      unfolding mapping_conditions n24 n25 t9
      more-taken e p c' i' o' ep q v k ins =
          let none = lowest-fine (mapping_conditions lim (keys_in h) rows ls l) v in
          let es : k.es ≡ sorted (l ∷ ls) = sym (entries-es lim.mappings (n + 1) c' i' o' k) ∙ ins ∙ (λ t. insert less (q t) (held-stored t)) ∙ sym (sorted_more l ls) in
          let m = held.lines-count in
          let count : n + 1 ≡ length (l ∷ ls) = omega arith in
          fine-taken lim (lowest (mapping_conditions lim (keys_in h) rows ls l)) (reading Mappings (keys_in h) rows (l ∷ ls)) p h (n + 1) (slices s c' i' o') v ep refl
          (record {
            head-proper = held.head-proper;
            rows-count = held.rows-count;
            rows_few = held.rows_few;
            rows-full = held.rows-full;
            states-are = held.states-are;
            lines-count = sym count;
            lines-good = (good, held.lines-good);
            lines-apart = unless-yes (any_of (λ x. shares_bytes x l) ls) _ none.1.1.1.1.0 (unless-yes (any_of (λ x. shares_point x l) ls) _ none.1.1.1.1.1.0 held.lines-apart);
            stored = subst (λ (z : List Stored). SlicesHold lim.mappings z c' i' o') es k.stored;
          })

-- the two numbers of a mapping
pub stored_same : (u d bits len info : ℕ) (c : List ℕ) → bits ≡ packed c → len ≡ length c → info ≡ u + 2097152 * rank_of d + 16777216 * (len - 1) → mk bits info ≡ stored_of (line_as u c d)
unfolding stored_of
stored_same u d bits len info c eb el ei = (λ t. mk (eb t) (i t))
  where
    i : info ≡ u + 2097152 * rank_of d + 16777216 * (length c - 1)
    i = ei ∙ ap (λ (n : ℕ). u + 2097152 * rank_of d + 16777216 * (n - 1)) el

-- what insertion leaves
module _ (limit n : ℕ) (c i o : List ℕ) (k : Kept limit n c i o) (e : Stored) (reads : read_taken e (stored_list (take n c) (take n i)) ≡ false) (writes : write_taken e (stored_list (take n c) (take n i)) ≡ false) (room : n < limit)
    (c' i' o' : List ℕ) (ec : c' ≡ map bits_of (insert less e (stored_list (take n c) (take n i))) ++ drop (n + 1) c)
    (ei : i' ≡ map info_of (insert less e (stored_list (take n c) (take n i))) ++ drop (n + 1) i) (eo : o' ≡ order_of (insert less e (stored_list (take n c) (take n i))) ++ drop (n + 1) o) where
  abbrev new : List Stored
  new = insert less e (stored_list (take n c) (take n i))

  new-count : length new ≡ n + 1
  new-count = let m = length-insert less e (stored_list (take n c) (take n i)) in let q : length (stored_list (take n c) (take n i)) ≡ n = ap (λ (l : List Stored). length l) (entries-es limit n c i o k) ∙ k.count in omega arith

  pub Kept-added : Kept limit (n + 1) c' i' o'
  Kept-added =
      subst (λ (x : List ℕ). Kept limit (n + 1) x i' o') (sym ec)
      (subst (λ (x : List ℕ). Kept limit (n + 1) (map bits_of new ++ drop (n + 1) c) x o') (sym ei)
      (subst (λ (x : List ℕ). Kept limit (n + 1) (map bits_of new ++ drop (n + 1) c) (map info_of new ++ drop (n + 1) i) x) (sym eo) (free-next limit n c i o k e reads writes room)))

  pub entries-added : stored_list (take (n + 1) c') (take (n + 1) i') ≡ new
  entries-added = (λ t. stored_list (take (n + 1) (ec t)) (take (n + 1) (ei t))) ∙ next-held limit n c i o k e

  pub added-codes : drop limit c' ≡ drop limit c
  added-codes = ap (λ (x : List ℕ). drop limit x) ec ∙ drop-++-drop limit (n + 1) (map bits_of new) c (length-map new bits_of ∙ new-count) (omega arith)

  pub added-infos : drop limit i' ≡ drop limit i
  added-infos = ap (λ (x : List ℕ). drop limit x) ei ∙ drop-++-drop limit (n + 1) (map info_of new) i (length-map new info_of ∙ new-count) (omega arith)

  pub added-order : drop limit o' ≡ drop limit o
  added-order = ap (λ (x : List ℕ). drop limit x) eo ∙ drop-++-drop limit (n + 1) (order_of new) o (length-order_of new ∙ new-count) (omega arith)
