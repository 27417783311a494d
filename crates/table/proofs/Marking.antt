-- The pass over the cells that collects which row leads on to which, and T3 by the levels over these marks.
use Prim.Native.Nat.{ℕ, zero, suc, ◌+◌, ◌*◌, ◌/◌, ◌%◌, ◌<◌, ◌≤◌}
use mathlib.Core.Path.{◌≡◌, refl, sym, ap, subst, ◌∙◌}
use mathlib.Core.Bool.{Bool, true, false}
use mathlib.Core.List.{List, map}
use native.Mathlib.Numerals.{add-one}
use native.Mathlib.Omega.{arith}
use lib.Dec.{ltb, eqb}
use lib.ListN.{length, get_or, take, set, replicate, get_or-replicate}
use lib.Seq.{get_or-set_same, get_or-set_other}
use borrow.Author.Tests.{ltb-true, ltb-false, eqb-true, eqb-false, lt-ltb, le-ltb, eq-eqb, ne_eqb}
use Rattle.std.specs.Prelude.{Some, None}
use Rattle.lists.specs.Pick.{pick}
use Rattle.lists.specs.Order.{up_from}
use Rattle.lists.proofs.Laws.{clash, ¬true⇒false}
use Rattle.lists.proofs.Cases.{pick_yes, pick_no}
use Rattle.lists.proofs.Numbered.{map-up_from-ext, get_d-map-up_from}
use Rattle.lists.proofs.Parts.{get_d-replicate-self}
use Rattle.table.specs.Limits.{limits, needed}
use Rattle.table.specs.Cells.{cell_step, cell_in}
use Rattle.table.specs.States.{step_at, leads_to, within, Rows}
use Rattle.lists.specs.Tests.{all_below, some_below}
use Rattle.table.specs.loops.LeadMarks.{marked, marked_within, leads_on, lead_mark, lead_marks}
use Rattle.table.specs.declared.states.Step.{Step}
use Rattle.table.specs.declared.states.Step.TheVariants.{Illegal, Ends, Leads}
use Rattle.lists.proofs.Tests.{all_below-yes⁻, all_below-ext, all_below-yes⁺, all_below-one, all_below-swap, some_below-yes⁺, some_below-ext, some_below-no⁺, some_below-implies}
use Rattle.table.proofs.Depth.{StatesKept, zero-behind, step-needed, StatesKept⇒t2}

-- some cell before i leads from the row of a mark's place to the row that the mark is for
abbrev led_before : List ℕ → ℕ → ℕ → Bool
led_before l i j = some_below (λ b. pick (ltb (j / limits.rows * 256 + b) i) (leads_on (j % limits.rows) (step_at l (j / limits.rows) b)) false) 256

-- the marks say what the cells before i say
abbrev pub Seen : List Bool → List ℕ → ℕ → Type 0
Seen marks l i = (j : ℕ) → j < limits.rows * limits.rows → get_or marks j false ≡ led_before l i j

-- one more place is looked at, and what it says is what is said already
look-on : (j i : ℕ) (x y : Bool) → (j ≡ i → x ≡ y) → pick (ltb j i) x y ≡ pick (ltb j (i + 1)) x y
look-on j i x y h = go (ltb j i) refl (ltb j (i + 1)) refl
  where
    go : (t : Bool) → ltb j i ≡ t → (u : Bool) → ltb j (i + 1) ≡ u → pick t x y ≡ pick u x y
    go true p true q = refl
    go true p false q = let a = ltb-true j i p in let b = ltb-false j (i + 1) q in absurd (omega arith)
    go false p true q = let a = ltb-false j i p in let b = ltb-true j (i + 1) q in sym (h (omega arith))
    go false p false q = refl

pub seen_none : (m : ℕ) (l : List ℕ) → Seen (replicate m false) l 0
seen_none m l j h =
    get_d-replicate-self m j false
    ∙ sym (some_below-no⁺ (λ b. pick (ltb (j / limits.rows * 256 + b) 0) (leads_on (j % limits.rows) (step_at l (j / limits.rows) b)) false) 256
    (λ b q. rw (le-ltb (j / limits.rows * 256 + b) 0 (omega arith))))

-- the cell at i says nothing new of a place
look-past : (l : List ℕ) (i j : ℕ) → ((b : ℕ) → b < 256 → j / limits.rows * 256 + b ≡ i → leads_on (j % limits.rows) (step_at l (j / limits.rows) b) ≡ false)
    → led_before l i j ≡ led_before l (i + 1) j
look-past l i j h =
    some_below-ext (λ b. pick (ltb (j / limits.rows * 256 + b) i) (leads_on (j % limits.rows) (step_at l (j / limits.rows) b)) false)
    (λ b. pick (ltb (j / limits.rows * 256 + b) (i + 1)) (leads_on (j % limits.rows) (step_at l (j / limits.rows) b)) false) 256
    (λ b q. look-on (j / limits.rows * 256 + b) i (leads_on (j % limits.rows) (step_at l (j / limits.rows) b)) false (h b q))

pub seen_skip : (marks : List Bool) (l : List ℕ) (i : ℕ) → ((k : ℕ) → leads_on k (cell_step (cell_in (get_or l i 0))) ≡ false) → Seen marks l i → Seen marks l (i + 1)
unfolding step_at
seen_skip marks l i h s j lt = s j lt ∙ look-past l i j (λ b q e. subst (λ (p : ℕ). leads_on (j % limits.rows) (cell_step (cell_in (get_or l p 0))) ≡ false) (sym e) (h (j % limits.rows)))

-- a cell that leads on to row k: its mark is set
pub seen-mark : (marks : List Bool) (l : List ℕ) (i k : ℕ) → length marks ≡ limits.rows * limits.rows → i < needed limits → k < limits.rows → cell_step (cell_in (get_or l i 0)) ≡ Leads k → Seen marks l i
    → Seen (set marks (i / 256 * limits.rows + k) true) l (i + 1)
unfolding step_at
seen-mark marks l i k long near few leads s j lt = go (eqb j (i / 256 * limits.rows + k)) refl
  where
    here : j ≡ i / 256 * limits.rows + k → led_before l (i + 1) j ≡ true
    here e =
        let row : j / limits.rows ≡ i / 256 = omega arith in
        let col : j % limits.rows ≡ k = omega arith in
        let at : i / 256 * 256 + i % 256 ≡ i = omega arith in
        some_below-yes⁺ (λ b. pick (ltb (j / limits.rows * 256 + b) (i + 1)) (leads_on (j % limits.rows) (step_at l (j / limits.rows) b)) false) 256 (i % 256) (omega arith)
        (rw (row, col, at, lt-ltb i (i + 1) (omega arith), leads) (eq-eqb k k refl))

    other : (j ≡ i / 256 * limits.rows + k → ⊥) → (b : ℕ) → b < 256 → j / limits.rows * 256 + b ≡ i → leads_on (j % limits.rows) (step_at l (j / limits.rows) b) ≡ false
    other d b q e =
        ap (λ (p : ℕ). leads_on (j % limits.rows) (cell_step (cell_in (get_or l p 0)))) e ∙ ap (leads_on (j % limits.rows)) leads
        ∙ ne_eqb k (j % limits.rows) (λ c. d (omega arith))

    go : (t : Bool) → eqb j (i / 256 * limits.rows + k) ≡ t → get_or (set marks (i / 256 * limits.rows + k) true) j false ≡ led_before l (i + 1) j
    go true u =
        let e = eqb-true j (i / 256 * limits.rows + k) u in
        ap (λ (p : ℕ). get_or (set marks (i / 256 * limits.rows + k) true) p false) e ∙ get_or-set_same marks (i / 256 * limits.rows + k) true false (omega arith) ∙ sym (here e)
    go false u =
        let d = eqb-false j (i / 256 * limits.rows + k) u in
        get_or-set_other marks (i / 256 * limits.rows + k) j true false d ∙ s j lt ∙ look-past l i j (other d)

-- all cells of the rows
pub seen_all : (marks : List Bool) (l : List ℕ) (n : ℕ) → length marks ≡ limits.rows * limits.rows → Seen marks l (n * 256) → marks ≡ lead_marks n (step_at l)
unfolding lead_marks
seen_all marks l n long s =
    map-up_from-ext (lead_mark n (step_at l)) marks false (λ j q. s j (omega arith) ∙ all j (ltb (j / limits.rows) n) refl)
    ∙ ap (λ (m : ℕ). map (lead_mark n (step_at l)) (up_from 0 m)) long
  where
    all : (j : ℕ) (t : Bool) → ltb (j / limits.rows) n ≡ t → led_before l (n * 256) j ≡ lead_mark n (step_at l) j
    all j true u =
        let h = ltb-true (j / limits.rows) n u in
        some_below-ext (λ b. pick (ltb (j / limits.rows * 256 + b) (n * 256)) (leads_on (j % limits.rows) (step_at l (j / limits.rows) b)) false)
        (λ b. leads_on (j % limits.rows) (step_at l (j / limits.rows) b)) 256
        (λ b q. rw (lt-ltb (j / limits.rows * 256 + b) (n * 256) (omega arith)))
        ∙ sym (pick_yes (ltb (j / limits.rows) n) _ false u)
    all j false u =
        let h = ltb-false (j / limits.rows) n u in
        some_below-no⁺ (λ b. pick (ltb (j / limits.rows * 256 + b) (n * 256)) (leads_on (j % limits.rows) (step_at l (j / limits.rows) b)) false) 256
        (λ b q. rw (le-ltb (j / limits.rows * 256 + b) (n * 256) (omega arith)))
        ∙ sym (pick_no (ltb (j / limits.rows) n) _ false u)

-- what is handed back says whether all cells are of the form
pub marks-none : (ok : Bool) (m : List Bool) → None ≡ pick ok (Some m) None → ok ≡ false
marks-none true m e = absurd (let z : ◌≡◌ {A = ℕ} 0 1 = cc in omega arith)
marks-none false m e = refl

pub marks-some : (ok : Bool) (marks m : List Bool) → Some marks ≡ pick ok (Some m) None → (ok ≡ true) × (marks ≡ m)
marks-some true marks m e = (refl, cc)
marks-some false marks m e = absurd (let z : ◌≡◌ {A = ℕ} 0 1 = cc in omega arith)

-- asking w of every row marked is asking it of every row led to
asked-one : (w : ℕ → Bool) (x : Step) → ((m : ℕ) → x ≡ Leads m → m < limits.rows) → all_below (λ k. pick (leads_on k x) (w k) true) limits.rows ≡ leads_to w x
asked-one w Illegal h = all_below-yes⁺ (λ k. true) limits.rows (λ k q. refl)
asked-one w (Ends e) h = all_below-yes⁺ (λ k. true) limits.rows (λ k q. refl)
asked-one w (Leads m) h =
    all_below-one (λ k. pick (eqb m k) (w k) true) limits.rows m (h m refl) (λ k q d. rw (ne_eqb m k (λ e. d (sym e)))) ∙ rw (eq-eqb m m refl)

marked-asks : (n : ℕ) (step : Rows) (w : ℕ → Bool) (row : ℕ) → row < n → n ≤ limits.rows → ((b m : ℕ) → b < 256 → step row b ≡ Leads m → m < limits.rows)
    → marked (lead_marks n step) w row ≡ all_below (λ b. leads_to w (step row b)) 256
unfolding marked lead_marks
marked-asks n step w row lt few inside =
    all_below-ext (λ k. pick (get_or (lead_marks n step) (row * limits.rows + k) false) (w k) true) (λ k. all_below (λ b. pick (leads_on k (step row b)) (w k) true) 256) limits.rows each
    ∙ all_below-swap (λ k b. pick (leads_on k (step row b)) (w k) true) 256 limits.rows
    ∙ all_below-ext (λ b. all_below (λ k. pick (leads_on k (step row b)) (w k) true) limits.rows) (λ b. leads_to w (step row b)) 256
    (λ b q. asked-one w (step row b) (λ m e. inside b m q e))
  where
    each : (k : ℕ) → k < limits.rows → pick (get_or (lead_marks n step) (row * limits.rows + k) false) (w k) true ≡ all_below (λ b. pick (leads_on k (step row b)) (w k) true) 256
    each k q =
        let r : (row * limits.rows + k) / limits.rows ≡ row = omega arith in
        let c : (row * limits.rows + k) % limits.rows ≡ k = omega arith in
        let m : get_or (lead_marks n step) (row * limits.rows + k) false ≡ some_below (λ b. leads_on k (step row b)) 256 =
        get_d-map-up_from (lead_mark n step) (limits.rows * limits.rows) (row * limits.rows + k) false (omega arith) ∙ rw (r, c, lt-ltb row n lt) in
        ap (λ (t : Bool). pick t (w k) true) m ∙ some_below-implies (λ b. leads_on k (step row b)) (w k) 256

-- a test of the marks of row k that stand before j
unfoldable pub part : List Bool → List Bool → ℕ → ℕ → Bool
part marks below j k = all_below (λ i. pick (ltb (k * limits.rows + i) j) (pick (get_or marks (k * limits.rows + i) false) (get_or below i false) true) true) limits.rows

abbrev pub Levelled : List Bool → List Bool → List Bool → ℕ → Type 0
Levelled marks below out j = (k : ℕ) → k < limits.rows → get_or out k false ≡ part marks below j k

pub level-none : (marks below : List Bool) → Levelled marks below (replicate limits.rows true) 0
unfolding part
level-none marks below k h =
    get_or-replicate limits.rows k true false h
    ∙ sym (all_below-yes⁺ (λ i. pick (ltb (k * limits.rows + i) 0) (pick (get_or marks (k * limits.rows + i) false) (get_or below i false) true) true) limits.rows (λ i q. rw (le-ltb (k * limits.rows + i) 0 (omega arith))))

module _ (marks below : List Bool) (j : ℕ) where
  -- the next mark asks nothing of row k
  part_same : (k : ℕ) → ((i : ℕ) → i < limits.rows → k * limits.rows + i ≡ j → pick (get_or marks (k * limits.rows + i) false) (get_or below i false) true ≡ true) → part marks below j k ≡ part marks below (j + 1) k
  unfolding part
  part_same k h =
      all_below-ext (λ i. pick (ltb (k * limits.rows + i) j) (pick (get_or marks (k * limits.rows + i) false) (get_or below i false) true) true) (λ i. pick (ltb (k * limits.rows + i) (j + 1)) (pick (get_or marks (k * limits.rows + i) false) (get_or below i false) true) true) limits.rows
      (λ i q. look-on (k * limits.rows + i) j (pick (get_or marks (k * limits.rows + i) false) (get_or below i false) true) true (h i q))

  pub level-skip : (out : List Bool) → pick (get_or marks j false) (get_or below (j % limits.rows) false) true ≡ true → Levelled marks below out j → Levelled marks below out (j + 1)
  level-skip out e h k lt =
      h k lt
      ∙ part_same k
      (λ i q r. let m : j % limits.rows ≡ i = omega arith in subst (λ (x : ℕ). pick (get_or marks (k * limits.rows + i) false) (get_or below x false) true ≡ true) m (subst (λ (x : ℕ). pick (get_or marks x false) (get_or below (j % limits.rows) false) true ≡ true) (sym r) e))

  part-false : pick (get_or marks j false) (get_or below (j % limits.rows) false) true ≡ false → part marks below (j + 1) (j / limits.rows) ≡ false
  unfolding part
  part-false e =
      let f : ℕ → Bool = λ i. pick (ltb (j / limits.rows * limits.rows + i) (j + 1)) (pick (get_or marks (j / limits.rows * limits.rows + i) false) (get_or below i false) true) true in
      let at : j / limits.rows * limits.rows + j % limits.rows ≡ j = omega arith in
      let bad : f (j % limits.rows) ≡ false = rw (lt-ltb (j / limits.rows * limits.rows + j % limits.rows) (j + 1) (omega arith), at) e in
      ¬true⇒false (all_below f limits.rows) (λ a. clash (all_below-yes⁻ f limits.rows a (j % limits.rows) (omega arith)) bad)

  pub level-clear : (out : List Bool) → length out ≡ limits.rows → j < limits.rows * limits.rows → pick (get_or marks j false) (get_or below (j % limits.rows) false) true ≡ false → Levelled marks below out j → Levelled marks below (set out (j / limits.rows) false) (j + 1)
  level-clear out n near e h k lt = go (eqb k (j / limits.rows)) refl
    where
      go : (t : Bool) → eqb k (j / limits.rows) ≡ t → get_or (set out (j / limits.rows) false) k false ≡ part marks below (j + 1) k
      go true u = rw (eqb-true k (j / limits.rows) u) (get_or-set_same out (j / limits.rows) false false (omega arith) ∙ sym (part-false e))
      go false u = let d = eqb-false k (j / limits.rows) u in get_or-set_other out (j / limits.rows) k false false d ∙ h k lt ∙ part_same k (λ i q r. absurd (d (omega arith)))

-- all marks of the rows
pub level_all : (marks below out : List Bool) (n : ℕ) → Levelled marks below out (n * limits.rows) → (k : ℕ) → k < limits.rows → get_or out k false ≡ pick (ltb k n) (marked marks (λ j. get_or below j false) k) true
unfolding part marked
level_all marks below out n h k lt = h k lt ∙ go (ltb k n) refl
  where
    go : (t : Bool) → ltb k n ≡ t → part marks below (n * limits.rows) k ≡ pick t (marked marks (λ j. get_or below j false) k) true
    go true u =
        let a = ltb-true k n u in
        all_below-ext (λ i. pick (ltb (k * limits.rows + i) (n * limits.rows)) (pick (get_or marks (k * limits.rows + i) false) (get_or below i false) true) true) (λ i. pick (get_or marks (k * limits.rows + i) false) (get_or below i false) true) limits.rows
        (λ i q. rw (lt-ltb (k * limits.rows + i) (n * limits.rows) (omega arith)))
    go false u =
        let a = ltb-false k n u in
        all_below-yes⁺ (λ i. pick (ltb (k * limits.rows + i) (n * limits.rows)) (pick (get_or marks (k * limits.rows + i) false) (get_or below i false) true) true) limits.rows (λ i q. rw (le-ltb (k * limits.rows + i) (n * limits.rows) (omega arith)))

-- one level more
pub marked_step : (n : ℕ) (marks below : List Bool) (d : ℕ) → ((k : ℕ) → k < limits.rows → get_or below k false ≡ marked_within n marks d k) → (k : ℕ)
    → pick (ltb k n) (marked marks (λ j. get_or below j false) k) true ≡ marked_within n marks (d + 1) k
unfolding marked_within marked
marked_step n marks below d h k =
    rw (add-one d)
    (ap (λ (x : Bool). pick (ltb k n) x true)
    (all_below-ext (λ i. pick (get_or marks (k * limits.rows + i) false) (get_or below i false) true) (λ i. pick (get_or marks (k * limits.rows + i) false) (marked_within n marks d i) true) limits.rows
    (λ i q. rw (h i q))))

-- T3 by the marks is T3, where T2 holds: a row past the last is never led to
same-leads : (u v : ℕ → Bool) (x : Step) → ((m : ℕ) → x ≡ Leads m → u m ≡ v m) → leads_to u x ≡ leads_to v x
same-leads u v Illegal h = refl
same-leads u v (Ends e) h = refl
same-leads u v (Leads m) h = h m refl

module _ (n : ℕ) (few : n ≤ limits.rows) (ts : List ℕ) (kept : StatesKept limits n ts) where
  abbrev marks : List Bool
  marks = lead_marks n (step_at ts)

  -- behind the last row all is illegal
  past : (row b : ℕ) → n ≤ row → row < limits.rows → b < 256 → step_at ts row b ≡ Illegal
  unfolding step_at cell_in
  past row b h lt q = ap (λ (e : ℕ). cell_step (cell_in e)) (zero-behind limits n ts kept (row * 256 + b) (omega arith) (omega arith))

  pub marks-within : (d row : ℕ) → row < limits.rows → marked_within n marks d row ≡ within (step_at (take (needed limits) ts)) d row
  unfolding marked_within within
  marks-within zero row lt = refl
  marks-within (suc d) row lt = go (λ m h. marks-within d m h) (ltb row n) refl
    where
      f : ℕ → Bool
      f = λ b. leads_to (within (step_at (take (needed limits) ts)) d) (step_at (take (needed limits) ts) row b)

      go : ((m : ℕ) → m < limits.rows → marked_within n marks d m ≡ within (step_at (take (needed limits) ts)) d m) → (t : Bool) → ltb row n ≡ t
          → pick t (marked marks (marked_within n marks d) row) true ≡ all_below f 256
      go ih true u =
          marked-asks n (step_at ts) (marked_within n marks d) row (ltb-true row n u) few
          (λ b m q e. let r = StatesKept⇒t2 limits n ts kept row b m lt q e in omega (arith, r.1))
          ∙ all_below-ext (λ b. leads_to (marked_within n marks d) (step_at ts row b)) f 256
          (λ b q. rw (step-needed limits ts row b lt q) (same-leads (marked_within n marks d) (within (step_at (take (needed limits) ts)) d) (step_at ts row b) (λ m e. ih m (let r = StatesKept⇒t2 limits n ts kept row b m lt q e in omega (arith, r.1)))))
      go ih false u = sym (all_below-yes⁺ f 256 (λ b q. rw (step-needed limits ts row b lt q, past row b (ltb-false row n u) lt q)))
