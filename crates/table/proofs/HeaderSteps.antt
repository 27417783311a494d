-- Before CHARMAP: what a key's line and the line CHARMAP leave in memory, and 16 by what is in memory.
use Rattle.table.specs.Header.{ReadValue}
use Rattle.std.specs.Prelude.{Ok, Err}
use Prim.Native.Nat.{ℕ, ◌+◌, ◌-◌, ◌*◌, ◌<◌, ◌≤◌}
use mathlib.Core.Path.{◌≡◌, refl, sym, ap, subst, ◌∙◌}
use mathlib.Core.Bool.{Bool, true, false, not}
use mathlib.Core.List.{List, [], ◌∷◌, ◌++◌, append_assoc, append-nil, map, map-append}
use native.Mathlib.Omega.{arith}
use lib.Dec.{leb, eqb}
use lib.ListN.{length, take, drop, replicate, length-append, length-replicate, length-map}
use lib.Seq.{length-take-le}
use borrow.Author.Tests.{eq-eqb, eqb-true, not-true, not-false}
use Rattle.lists.specs.Pick.{pick}
use Rattle.lists.proofs.Cases.{pick_yes, pick_no}
use Rattle.lists.proofs.Choice.{pick-true-false, not-not-and-regroup, ltb-0-implies}
use Rattle.lists.proofs.Append.{All-++⁺}
use Rattle.lists.proofs.Parts.{map-replicate}
use Rattle.lists.proofs.Front.{drop-++-drop}
use Rattle.table.specs.Limits.{Limits, needed}
use Rattle.table.specs.Cells.{Cell, ends, cell_number}
use Rattle.table.specs.States.{step_at}
use Rattle.table.specs.Codes.{bytes_of}
use Rattle.table.specs.Meaning.{Line, flat, steps_on}
use Rattle.table.specs.Rules.{t2, t3, t4_sub, t4_sub1}
use Rattle.table.specs.Slices.{Slices, slices}
use Rattle.table.specs.Memory.{numbers_of, sub1_in}
use Rattle.table.specs.Valid.{state_ok, states_ok}
use Rattle.table.specs.Row.{entries_of, row_of}
use Rattle.table.specs.Header.{is_row}
use Rattle.table.specs.Numbers.{lowest, n13, n16, rows_at, key_conditions, charmap_conditions}
use Rattle.table.specs.Load.{judged, reading, keep_value, keep_row}
use Rattle.table.specs.loops.Progress.{keys_in, head_of, head_at, ProperHead, Holding, StepTaken}
use Rattle.table.specs.declared.header.Head.{Head}
use Rattle.table.specs.declared.load.Refusal.TheVariants as refusal
use Rattle.table.specs.declared.load.Phase.{Phase}
use Rattle.table.specs.declared.load.Phase.TheVariants.{Header, Mappings}
use Rattle.table.proofs.RowLaws.{all_of-state_ok, length-numbers, steps-filled}
use Rattle.table.proofs.Depth.{states-test}
use Rattle.lists.proofs.Filled.{fill-put, filled-take, filled-zeros}
use Rattle.table.proofs.HeaderLaws.{row_room, row-length}
use Rattle.table.proofs.KeyLaws.{min_of-keys_in, max_of-keys_in, subchar_of-keys_in, absent_by, rows-by, keep_in, keep-proper, keep-count, kept-keys, kept-head}
use Rattle.table.proofs.LineSteps.{fine-taken}
use Rattle.lists.specs.Tests.{all_of, zeros}
use Rattle.lists.specs.Place.{filled}
use Rattle.table.specs.loops.Coded.{put_row}
use Rattle.table.specs.loops.Ranges.{InRange}
use Rattle.table.specs.declared.value.Key.{Key}

-- the header with another count of rows
pub head_rows : (h : Head) (rows : List (List Cell)) → ProperHead h → ProperHead (head_at h rows)
head_rows h rows p = record { min-small = p.min-small; max-small = p.max-small; class-small = p.class-small; sub-short = p.sub-short; sub-none = p.sub-none; sub-padded = p.sub-padded; sub1-small = p.sub1-small }

-- one row behind the others
flat-more : (rows : List (List Cell)) (row : List Cell) → flat (rows ++ (row ∷ [])) ≡ flat rows ++ row
unfolding flat
flat-more [] row = append-nil row
flat-more (r ∷ rows) row = ap (λ (l : List Cell). r ++ l) (flat-more rows row) ∙ sym (append_assoc r (flat rows) row)

numbers_more : (rows : List (List Cell)) (row : List Cell) → numbers_of (rows ++ (row ∷ [])) ≡ numbers_of rows ++ map cell_number row
numbers_more rows row = ap (map cell_number) (flat-more rows row) ∙ map-append cell_number (flat rows) row

-- a row put among the states leaves what is past the needed places
pub row-beyond : (lim : Limits) (r : ℕ) (row s : List ℕ) → r < lim.rows → length row ≡ 256 → needed lim ≤ length s → drop (needed lim) (put_row r row s) ≡ drop (needed lim) s
unfolding put_row
row-beyond lim r row s h e k =
    let a : length (take (r * 256) s) ≡ r * 256 = length-take-le (r * 256) s (omega arith) in
    let n : length (take (r * 256) s ++ row) ≡ r * 256 + 256 = length-append (take (r * 256) s) row ∙ (λ t. a t + e t) in
    ap (λ (l : List ℕ). drop (needed lim) l) (sym (append_assoc (take (r * 256) s) row (drop (r * 256 + 256) s)))
    ∙ drop-++-drop (needed lim) (r * 256 + 256) (take (r * 256) s ++ row) s n (omega arith)

-- the conditions of a key's line, by the count of rows in the struct
pub key-count : (lim : Limits) (h : Head) (rows : List (List Cell)) → h.rows ≡ length rows → (k : Key) (v : ReadValue)
    → lowest (key_conditions lim (keys_in h) (length rows) k v) ≡ lowest (key_conditions lim (keys_in h) h.rows k v)
key-count lim h rows e k v = ap (λ (n : ℕ). lowest (key_conditions lim (keys_in h) n k v)) (sym e)

-- what is held before CHARMAP
module _ (lim : Limits) (h : Head) (rows : List (List Cell)) (s c i o : List ℕ) (held : Holding lim h 0 rows [] (slices s c i o)) where
  -- another header with as many rows
  head-holds : (g : Head) → ProperHead g → g.rows ≡ h.rows → Holding lim g 0 rows [] (slices s c i o)
  head-holds g p e = record {
    head-proper = p;
    rows-count = e ∙ held.rows-count;
    rows_few = held.rows_few;
    rows-full = held.rows-full;
    states-are = held.states-are;
    lines-count = held.lines-count;
    lines-good = held.lines-good;
    lines-apart = held.lines-apart;
    stored = held.stored;
  }

  numbers-length : length (numbers_of rows) ≡ h.rows * 256
  numbers-length = length-numbers rows held.rows-full ∙ ap (λ (k : ℕ). k * 256) (sym held.rows-count)

  numbers-held : h.rows ≤ lim.rows → take (h.rows * 256) s ≡ numbers_of rows
  numbers-held le = filled-take (needed lim) (h.rows * 256) s (numbers_of rows) numbers-length (omega arith) held.states-are

  -- one row more
  row-holds : (g : Head) (row : List Cell) → ProperHead g → g.rows ≡ h.rows + 1 → h.rows < lim.rows → length row ≡ 256
      → Holding lim g 0 (rows ++ (row ∷ [])) [] (slices (put_row h.rows (map cell_number row) s) c i o)
  unfolding put_row
  row-holds g row p e lt full =
      let n = held.rows-count in
      let old : List ℕ = numbers_of rows in
      let new : List ℕ = map cell_number row in
      let l : length (rows ++ (row ∷ [])) ≡ length rows + 1 = length-append rows (row ∷ []) in
      let a : h.rows * 256 + 256 ≡ (h.rows + 1) * 256 = omega arith in
      let m : length (old ++ new) ≡ h.rows * 256 + 256 = length-append old new ∙ (λ t. numbers-length t + (length-map row cell_number ∙ full) t) in
      let put : take (h.rows * 256) s ++ (new ++ drop (h.rows * 256 + 256) s) ≡ (old ++ new) ++ drop (h.rows * 256 + 256) s =
      ap (λ (x : List ℕ). x ++ (new ++ drop (h.rows * 256 + 256) s)) (numbers-held (omega arith)) ∙ sym (append_assoc old new (drop (h.rows * 256 + 256) s)) in
      record {
        head-proper = p;
        rows-count = omega arith;
        rows_few = omega arith;
        rows-full = All-++⁺ (λ r. length r ≡ 256) rows (row ∷ []) held.rows-full (full, tt);
        states-are = ap (λ (x : List ℕ). take (needed lim) x) put ∙ fill-put (needed lim) (h.rows * 256) 256 old (old ++ new) s numbers-length m (omega arith) held.states-are ∙ ap (λ (x : List ℕ). filled (needed lim) x) (sym (numbers_more rows row));
        lines-count = held.lines-count;
        lines-good = held.lines-good;
        lines-apart = held.lines-apart;
        stored = held.stored;
      }

  -- the first row
  first-row : (g : Head) (row : List Cell) (s' : List ℕ) → 1 ≤ lim.rows → ProperHead g → g.rows ≡ 1 → h.rows ≡ 0 → length row ≡ 256
      → s' ≡ put_row 0 (map cell_number row) s
      → Holding lim g 0 (row ∷ []) [] (slices s' c i o)
  first-row g row s' room p e z full q =
      let a : put_row h.rows (map cell_number row) s ≡ s' = ap (λ (k : ℕ). put_row k (map cell_number row) s) z ∙ sym q in
      let b : rows ++ (row ∷ []) ≡ row ∷ [] = ap (λ (rs : List (List Cell)). rs ++ (row ∷ [])) (none rows (sym held.rows-count ∙ z)) in
      subst (λ (x : List ℕ). Holding lim g 0 (row ∷ []) [] (slices x c i o)) a
      (subst (λ (rs : List (List Cell)). Holding lim g 0 rs [] (slices (put_row h.rows (map cell_number row) s) c i o)) b (row-holds g row p (omega arith) (omega arith) full))
    where
      none : (rs : List (List Cell)) → length rs ≡ 0 → rs ≡ []
      none [] e = refl
      none (r ∷ rs) e = absurd (omega arith)

  -- a key's line
  key-holds : (k : Key) (v : ReadValue) (t s' : List ℕ) → lowest (key_conditions lim (keys_in h) h.rows k v) ≡ Ok tt → InRange v → s' ≡ pick (is_row v) (put_row h.rows (map cell_number (row_of (entries_of t))) s) s
      → Holding lim (keep_in h v) 0 (keep_row v t rows) [] (slices s' c i o)
  unfolding keep_row
  key-holds k v t s' fine in-range q = go (is_row v) refl
    where
      go : (b : Bool) → is_row v ≡ b → Holding lim (keep_in h v) 0 (keep_row v t rows) [] (slices s' c i o)
      go true e =
          let row = row_of (entries_of t) in
          let a : put_row h.rows (map cell_number row) s ≡ s' = sym (q ∙ pick_yes (is_row v) (put_row h.rows (map cell_number row) s) s e) in
          let b : rows ++ (row ∷ []) ≡ keep_row v t rows = sym (pick_yes (is_row v) (rows ++ (row ∷ [])) rows e) in
          subst (λ (x : List ℕ). Holding lim (keep_in h v) 0 (keep_row v t rows) [] (slices x c i o)) a
          (subst (λ (rs : List (List Cell)). Holding lim (keep_in h v) 0 rs [] (slices (put_row h.rows (map cell_number row) s) c i o)) b
          (row-holds (keep_in h v) row (keep-proper h v in-range held.head-proper) (keep-count h v ∙ pick_yes (is_row v) (h.rows + 1) h.rows e) (row_room lim (keys_in h) h.rows k v fine e) (row-length t)))
      go false e =
          let a : s ≡ s' = sym (q ∙ pick_no (is_row v) (put_row h.rows (map cell_number (row_of (entries_of t))) s) s e) in
          let b : rows ≡ keep_row v t rows = sym (pick_no (is_row v) (rows ++ (row_of (entries_of t) ∷ [])) rows e) in
          subst (λ (x : List ℕ). Holding lim (keep_in h v) 0 (keep_row v t rows) [] (slices x c i o)) a
          (subst (λ (rs : List (List Cell)). Holding lim (keep_in h v) 0 rs [] (slices s c i o)) b
          (head-holds (keep_in h v) (keep-proper h v in-range held.head-proper) (keep-count h v ∙ pick_no (is_row v) (h.rows + 1) h.rows e)))

  pub key-taken : (k : Key) (v : ReadValue) (t s' : List ℕ) (g : Head) (p : Phase) (n : ℕ) → lowest (key_conditions lim (keys_in h) h.rows k v) ≡ Ok tt → InRange v → p ≡ Header → n ≡ 0 → g ≡ head_of (keep_value (keys_in h) v) (pick (is_row v) (h.rows + 1) h.rows)
      → s' ≡ pick (is_row v) (put_row h.rows (map cell_number (row_of (entries_of t))) s) s
      → StepTaken lim (judged (lowest (key_conditions lim (keys_in h) (length rows) k v)) (reading Header (keep_value (keys_in h) v) (keep_row v t rows) []))
      (Ok tt) p g n (slices s' c i o)
  key-taken k v t s' g p n fine in-range ep en e q =
      let at : keep_in h v ≡ g = kept-head h v in-range held.head-proper ∙ sym e in
      subst (λ (m : ℕ). StepTaken lim (judged (lowest (key_conditions lim (keys_in h) (length rows) k v)) (reading Header (keep_value (keys_in h) v) (keep_row v t rows) [])) (Ok tt) p g m (slices s' c i o)) (sym en)
      (fine-taken lim (lowest (key_conditions lim (keys_in h) (length rows) k v)) (reading Header (keep_value (keys_in h) v) (keep_row v t rows) []) p g 0
      (slices s' c i o) (key-count lim h rows held.rows-count k v ∙ fine) ep (ap keys_in (sym at) ∙ kept-keys h v in-range)
      (subst (λ (x : Head). Holding lim x 0 (keep_row v t rows) [] (slices s' c i o)) at (key-holds k v t s' fine in-range q)))

-- and what is past the needed places stays
pub key-beyond : (lim : Limits) (h : Head) (k : Key) (v : ReadValue) (t s s' : List ℕ) → lowest (key_conditions lim (keys_in h) h.rows k v) ≡ Ok tt → needed lim ≤ length s → s' ≡ pick (is_row v) (put_row h.rows (map cell_number (row_of (entries_of t))) s) s
    → drop (needed lim) s' ≡ drop (needed lim) s
key-beyond lim h k v t s s' fine long q = go (is_row v) refl
  where
    go : (b : Bool) → is_row v ≡ b → drop (needed lim) s' ≡ drop (needed lim) s
    go true e = ap (λ (x : List ℕ). drop (needed lim) x) (q ∙ pick_yes (is_row v) (put_row h.rows (map cell_number (row_of (entries_of t))) s) s e) ∙ row-beyond lim h.rows (map cell_number (row_of (entries_of t))) s (row_room lim (keys_in h) h.rows k v fine e) (length-map (row_of (entries_of t)) cell_number ∙ row-length t) long
    go false e = ap (λ (x : List ℕ). drop (needed lim) x) (q ∙ pick_no (is_row v) (put_row h.rows (map cell_number (row_of (entries_of t))) s) s e)

-- the rows at CHARMAP
rows_new : (h : Head) (rows : List (List Cell)) → h.rows ≡ length rows → h.class ≡ 1 → h.rows ≡ 0 → rows_at (keys_in h) rows ≡ replicate 256 ends ∷ []
rows_new h rows n a b = rows-by h rows n ∙ pick_yes (eqb h.class 1) (pick (eqb h.rows 0) (replicate 256 ends ∷ []) rows) rows (eq-eqb h.class 1 a) ∙ pick_yes (eqb h.rows 0) (replicate 256 ends ∷ []) rows (eq-eqb h.rows 0 b)

rows-old : (h : Head) (rows : List (List Cell)) → h.rows ≡ length rows → (h.class ≡ 1 → h.rows ≡ 0 → ⊥) → rows_at (keys_in h) rows ≡ rows
rows-old h rows n d = rows-by h rows n ∙ go (eqb h.class 1) refl (eqb h.rows 0) refl (replicate 256 ends ∷ [])
  where
    go : (a : Bool) → eqb h.class 1 ≡ a → (b : Bool) → eqb h.rows 0 ≡ b → (x : List (List Cell)) → pick a (pick b x rows) rows ≡ rows
    go true p true q x = absurd (d (eqb-true h.class 1 p) (eqb-true h.rows 0 q))
    go true p false q x = refl
    go false p b q x = refl

module _ (lim : Limits) (h : Head) (rows : List (List Cell)) (s c i o : List ℕ) (held : Holding lim h 0 rows [] (slices s c i o)) where
  -- the header and the states with the row `0-ff`
  pub default-yes : (s' : List ℕ) → 1 ≤ lim.rows → h.class ≡ 1 → h.rows ≡ 0 → s' ≡ put_row 0 (replicate 256 (cell_number ends)) s
      → (head_at h (replicate 256 ends ∷ []) ≡ head_at h (rows_at (keys_in h) rows)) × Holding lim (head_at h (rows_at (keys_in h) rows)) 0 (rows_at (keys_in h) rows) [] (slices s' c i o)
  default-yes s' room a b q =
      let e = sym (rows_new h rows held.rows-count a b) in (
        ap (head_at h) e,
        subst (λ (rs : List (List Cell)). Holding lim (head_at h rs) 0 rs [] (slices s' c i o)) e
            (first-row lim h rows s c i o held (head_at h (replicate 256 ends ∷ [])) (replicate 256 ends) s' room (head_rows h (replicate 256 ends ∷ []) held.head-proper) refl b (length-replicate {A = Cell} 256 ends) (q ∙ ap (λ (row : List ℕ). put_row 0 row s) (sym (map-replicate cell_number 256 ends)))),
      )

  -- and as they are
  pub default-no : (h.class ≡ 1 → h.rows ≡ 0 → ⊥)
      → (h ≡ head_at h (rows_at (keys_in h) rows)) × Holding lim (head_at h (rows_at (keys_in h) rows)) 0 (rows_at (keys_in h) rows) [] (slices s c i o)
  default-no d =
      let e = sym (rows-old h rows held.rows-count d) in
      let q : h ≡ head_at h rows = (λ t. record { name = h.name; min = h.min; max = h.max; class = h.class; sub = h.sub; sub1 = h.sub1; rows = held.rows-count t }) in
      (q ∙ ap (head_at h) e, subst (λ (rs : List (List Cell)). Holding lim (head_at h rs) 0 rs [] (slices s c i o)) e (subst (λ (g : Head). Holding lim g 0 rows [] (slices s c i o)) q held))

module _ (lim : Limits) (h : Head) (rows : List (List Cell)) (s c i o : List ℕ) (held : Holding lim h 0 rows [] (slices s c i o)) (long : needed lim ≤ length s) (few : h.rows ≤ lim.rows) where
  abbrev same : step_at (take (needed lim) s) ≡ steps_on rows
  same = steps-filled (needed lim) rows (take (needed lim) s) held.states-are

  states-held : states_ok lim h.rows s ≡ t2 (length rows) (flat rows)
  states-held =
      let z : zeros (take (needed lim - h.rows * 256) (drop (h.rows * 256) s)) ≡ true = filled-zeros (needed lim) (h.rows * 256) s (numbers_of rows) (numbers-length lim h rows s c i o held) held.states-are in
      states-test lim h.rows s long
      ∙ (λ t. pick (all_of (state_ok h.rows) (numbers-held lim h rows s c i o held few t)) (z t) false)
      ∙ pick-true-false (all_of (state_ok h.rows) (numbers_of rows))
      ∙ all_of-state_ok h.rows (flat rows)
      ∙ ap (λ (n : ℕ). t2 n (flat rows)) held.rows-count

  abbrev keeps_with : ℕ → ℕ → List ℕ → Bool
  keeps_with min max sub =
      pick (leb min max)
      (pick (t2 (length rows) (flat rows))
      (pick (t3 (steps_on rows) max)
      (pick (t4_sub (steps_on rows) sub)
      (t4_sub1 (steps_on rows) (sub1_in h.sub1)) false) false) false) false

  pub not-n16 : not (n16 (keys_in h) rows)
      ≡ pick (leb h.min h.max)
      (pick (pick (states_ok lim h.rows s) (t3 (step_at (take (needed lim) s)) h.max) false)
      (pick (t4_sub (step_at (take (needed lim) s)) (bytes_of h.sub)) (t4_sub1 (step_at (take (needed lim) s)) (sub1_in h.sub1)) false) false) false
  unfolding n16
  not-n16 =
      (λ t. not (not (keeps_with (min_of-keys_in h t) (max_of-keys_in h t) (subchar_of-keys_in h t))))
      ∙ not-not-and-regroup (leb h.min h.max) (t2 (length rows) (flat rows)) (t3 (steps_on rows) h.max) (t4_sub (steps_on rows) (bytes_of h.sub)) (t4_sub1 (steps_on rows) (sub1_in h.sub1))
      ∙ sym (λ t. pick (leb h.min h.max)
      (pick (pick (states-held t) (t3 (same t) h.max) false)
      (pick (t4_sub (same t) (bytes_of h.sub)) (t4_sub1 (same t) (sub1_in h.sub1)) false) false) false)

pub absent_is : (h : Head) → n13 (keys_in h) h.rows ≡ pick h.name (pick (eqb h.min 0) true (pick (eqb h.max 0) true (pick (eqb h.class 0) true (pick (eqb h.sub.len 0) true (pick (eqb h.class 1) false (eqb h.rows 0)))))) true
absent_is h =
    absent_by h
    ∙ ap (λ (b : Bool). pick h.name b true) (ltb-0-implies h.min _
    ∙ ap (λ (b : Bool). pick (eqb h.min 0) true b) (ltb-0-implies h.max _
    ∙ ap (λ (b : Bool). pick (eqb h.max 0) true b) (ltb-0-implies h.class _
    ∙ ap (λ (b : Bool). pick (eqb h.class 0) true b) (ltb-0-implies h.sub.len _))))

-- the line CHARMAP, condition by condition
charmap-verdict : (h : Head) (rows : List (List Cell)) → h.rows ≡ length rows
    → lowest (charmap_conditions (keys_in h) rows)
    ≡ pick (n13 (keys_in h) h.rows) (Err refusal.KeyAbsent) (pick (n16 (keys_in h) (rows_at (keys_in h) rows)) (Err refusal.StatesBroken) (Ok tt))
unfolding lowest charmap_conditions
charmap-verdict h rows e =
    ap (λ (n : ℕ). pick (n13 (keys_in h) n) (Err refusal.KeyAbsent) (pick (n16 (keys_in h) (rows_at (keys_in h) rows)) (Err refusal.StatesBroken) (Ok tt))) (sym e)

pub charmap-absent : (h : Head) (rows : List (List Cell)) → h.rows ≡ length rows → n13 (keys_in h) h.rows ≡ true
    → lowest (charmap_conditions (keys_in h) rows) ≡ Err refusal.KeyAbsent
charmap-absent h rows n e = charmap-verdict h rows n ∙ pick_yes (n13 (keys_in h) h.rows) _ _ e

-- where no key is absent: g is the header with its default row, b tells that 16 does not hold there
module _ (lim : Limits) (h g : Head) (rows : List (List Cell)) (b : Bool) (s c i o : List ℕ) (count : h.rows ≡ length rows) (there : n13 (keys_in h) h.rows ≡ false)
    (now : (g ≡ head_at h (rows_at (keys_in h) rows)) × Holding lim (head_at h (rows_at (keys_in h) rows)) 0 (rows_at (keys_in h) rows) [] (slices s c i o))
    (sound : (rs : List (List Cell)) (c i o : List ℕ) → Holding lim g 0 rs [] (slices s c i o) → b ≡ not (n16 (keys_in g) rs)) where
  sound-at : b ≡ not (n16 (keys_in h) (rows_at (keys_in h) rows))
  sound-at =
      sound (rows_at (keys_in h) rows) c i o (subst (λ (x : Head). Holding lim x 0 (rows_at (keys_in h) rows) [] (slices s c i o)) (sym now.0) now.1)
      ∙ ap (λ (x : Head). not (n16 (keys_in x) (rows_at (keys_in h) rows))) now.0

  verdict : lowest (charmap_conditions (keys_in h) rows) ≡ pick (n16 (keys_in h) (rows_at (keys_in h) rows)) (Err refusal.StatesBroken) (Ok tt)
  verdict = charmap-verdict h rows count ∙ pick_no (n13 (keys_in h) h.rows) _ _ there

  pub charmap-broken : b ≡ false → lowest (charmap_conditions (keys_in h) rows) ≡ Err refusal.StatesBroken
  charmap-broken e = verdict ∙ pick_yes (n16 (keys_in h) (rows_at (keys_in h) rows)) _ _ (not-false (n16 (keys_in h) (rows_at (keys_in h) rows)) (sym sound-at ∙ e))

  pub charmap-taken : (n : ℕ) → n ≡ 0 → b ≡ true
      → StepTaken lim (judged (lowest (charmap_conditions (keys_in h) rows)) (reading Mappings (keys_in h) (rows_at (keys_in h) rows) [])) (Ok tt) Mappings g n (slices s c i o)
  charmap-taken n en e =
      fine-taken lim (lowest (charmap_conditions (keys_in h) rows)) (reading Mappings (keys_in h) (rows_at (keys_in h) rows) [])
      Mappings g n (slices s c i o)
      (verdict ∙ pick_no (n16 (keys_in h) (rows_at (keys_in h) rows)) _ _ (not-true (n16 (keys_in h) (rows_at (keys_in h) rows)) (sym sound-at ∙ e)))
      refl (ap keys_in now.0)
      (subst (λ (k : ℕ). Holding lim g k (rows_at (keys_in h) rows) [] (slices s c i o)) (sym en)
      (subst (λ (x : Head). Holding lim x 0 (rows_at (keys_in h) rows) [] (slices s c i o)) (sym now.0) now.1))

-- no mapping is held yet
pub Holding-none : (lim : Limits) (h : Head) (n : ℕ) (rows : List (List Cell)) (ls : List Line) (lent : Slices) → n ≡ 0 → Holding lim h n rows ls lent
    → Holding lim h 0 rows [] lent
Holding-none lim h n rows [] lent e held = subst (λ (k : ℕ). Holding lim h k rows [] lent) e held
Holding-none lim h n rows (l ∷ ls) lent e held = let m = held.lines-count in absurd (omega arith)
