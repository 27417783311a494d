-- The next code through marked rows, step by step; and that the marks of the productive rows leave no code out.
use Prim.Native.Nat.{ℕ, zero, suc, ◌+◌, ◌-◌, ◌*◌, ◌/◌, ◌%◌, ◌<◌, ◌≤◌}
use mathlib.Core.Path.{◌≡◌, refl, sym, subst, ◌∙◌, ap}
use mathlib.Core.Bool.{Bool, true, false, not}
use mathlib.Core.List.{List, [], ◌∷◌, ◌++◌, map}
use native.Mathlib.Numerals.{add-one, sub-one}
use native.Mathlib.Omega.{arith}
use lib.Dec.{ltb, eqb}
use lib.ListN.{length, get_or, drop, set, replicate, get_or-replicate, get_or-eq_default}
use lib.Seq.{get_or-set_same, get_or-set_other}
use borrow.Author.Tests.{lt-ltb, le-ltb, eq-eqb, ltb-true, ltb-false, eqb-true}
use Rattle.std.specs.Prelude.{Option, Some, None}
use Rattle.lists.specs.Pick.{pick}
use Rattle.lists.specs.Order.{All, up_from, filtered}
use Rattle.lists.proofs.Laws.{clash}
use Rattle.lists.proofs.Order.{All-⇒, All-map⁺}
use Rattle.lists.proofs.Numbered.{map-up_from-ext, get_d-map-up_from}
use Rattle.table.specs.Limits.{limits}
use Rattle.table.specs.States.{Rows, longest}
use Rattle.lists.specs.Tests.{some_below}
use Rattle.table.specs.Codes.{codes_on, scan, codes_from, packed, unpacked, code_of, first_code, next_of}
use Rattle.lists.specs.Strings.{before, after}
use Rattle.table.specs.loops.Marks.{ends_or_leads, row_productive, productive, mark_at, marks_of, is_marked, codes_marked, codes_led, next_marked, put_first, Starts}
use Rattle.table.specs.declared.states.Step.{Step}
use Rattle.table.specs.declared.states.Step.TheVariants.{Illegal, Ends, Leads}
use Rattle.table.specs.declared.states.Code.{Code}
use Rattle.lists.proofs.Tests.{some_below-yes⁺, some_below-no⁻, some_below-ext}
use Rattle.lists.proofs.Filter.{filtered-append, all-filtered}
use Rattle.lists.proofs.Strings.{before-∷, after-map-∷, after-all}
use Rattle.table.proofs.CodeList.{scan-end, scan-more, scan-all, scan-above, scan-start, scan-low, scan-ext, scan-empty, LeadsInside}
use Rattle.table.specs.declared.states.EndKind.{EndKind}

-- a string of some bytes has a first one
pub unpacked-more : (n v : ℕ) → ¬ (n ≡ 0) → unpacked n v ≡ v / 16777216 ∷ unpacked (n - 1) (v % 16777216 * 256)
unfolding unpacked
unpacked-more zero v h = absurd (h refl)
unpacked-more (suc n) v h = rw (sub-one (suc n))

pub unpacked-none : (n v : ℕ) → n ≡ 0 → unpacked n v ≡ []
unfolding unpacked
unpacked-none n v e = rw e

starts_first : (s : List ℕ) → Starts (get_or s 0 0) s
starts_first [] = tt
starts_first (b ∷ s) = refl

-- the first code of two lists, and of codes with a byte put in front
first-left : (l k : List (List ℕ)) (c : Code) → first_code l ≡ Some c → first_code (l ++ k) ≡ Some c
first-left [] k c e = absurd (let z : ◌≡◌ {A = ℕ} 0 1 = cc in omega arith)
first-left (s ∷ l) k c e = e

first-right : (l k : List (List ℕ)) → first_code l ≡ None → first_code (l ++ k) ≡ first_code k
first-right [] k e = refl
first-right (s ∷ l) k e = absurd (let z : ◌≡◌ {A = ℕ} 0 1 = cc in omega arith)

abbrev pub put_next : ℕ → Option Code → Option Code
put_next b None = None
put_next b (Some c) = Some (put_first b c)

first-map : (b : ℕ) (l : List (List ℕ)) → first_code (map (λ s. b ∷ s) l) ≡ put_next b (first_code l)
unfolding packed
first-map b [] = refl
first-map b (s ∷ l) = ap (λ (n : ℕ). Some (record { bits = b * 16777216 + packed s / 256; len = n })) (sym (add-one (length s)))

-- the codes of a row after a position that has come to the byte b
module _ (sub : ℕ → List (List ℕ)) (step : Rows) (row : ℕ) where
  after_more : (b : ℕ) (q : List ℕ) → Starts b q → b < 256
      → after q (scan sub step row (256 - b) b) ≡ after q (codes_on sub b (step row b)) ++ after [] (scan sub step row (256 - (b + 1)) (b + 1))
  after_more b q st lt =
      ap (after q) (scan-more sub step row b lt)
      ∙ filtered-append (before q) (codes_on sub b (step row b)) (scan sub step row (256 - (b + 1)) (b + 1))
      ∙ ap (λ (l : List (List ℕ)). after q (codes_on sub b (step row b)) ++ l) (go q st)
    where
      k : ℕ
      k = 256 - (b + 1)

      go : (q : List ℕ) → Starts b q → after q (scan sub step row k (b + 1)) ≡ after [] (scan sub step row k (b + 1))
      go [] st = refl
      go (a ∷ p) st =
          after-all (a ∷ p) (scan sub step row k (b + 1)) (scan-above sub step row a p k (b + 1) (omega arith))
          ∙ sym (after-all [] (scan sub step row k (b + 1)) (scan-start sub step row k (b + 1)))

  pub row-found : (b : ℕ) (q : List ℕ) (c : Code) → Starts b q → b < 256 → first_code (after q (codes_on sub b (step row b))) ≡ Some c
      → first_code (after q (scan sub step row (256 - b) b)) ≡ Some c
  row-found b q c st lt e = ap first_code (after_more b q st lt) ∙ first-left (after q (codes_on sub b (step row b))) _ c e

  pub row_next : (b : ℕ) (q : List ℕ) → Starts b q → b < 256 → first_code (after q (codes_on sub b (step row b))) ≡ None
      → first_code (after q (scan sub step row (256 - b) b)) ≡ first_code (after [] (scan sub step row (256 - (b + 1)) (b + 1)))
  row_next b q st lt e = ap first_code (after_more b q st lt) ∙ first-right (after q (codes_on sub b (step row b))) _ e

  pub rows_over : (b : ℕ) (q : List ℕ) → 256 ≤ b → first_code (after q (scan sub step row (256 - b) b)) ≡ None
  unfolding filtered
  rows_over b q h = rw (scan-end sub step row b h)

  -- the scan may begin at the position's first byte
  row-start : (q : List ℕ) → get_or q 0 0 < 256 → after q (scan sub step row 256 0) ≡ after q (scan sub step row (256 - get_or q 0 0) (get_or q 0 0))
  row-start [] lt = refl
  row-start (a ∷ p) lt =
      let e : 256 ≡ a + (256 - a) = omega arith in
      ap (λ (m : ℕ). after (a ∷ p) (scan sub step row m 0)) e ∙ scan-low sub step row a p a (256 - a) 0 (omega arith)

  pub row-begin : (b : ℕ) (q : List ℕ) → b ≡ get_or q 0 0 → b < 256
      → Starts b q × (first_code (after q (scan sub step row 256 0)) ≡ first_code (after q (scan sub step row (256 - b) b)))
  row-begin b q e lt = rw e (starts_first q, ap first_code (row-start q (omega arith)))

  -- the codes of one byte
  pub on-illegal : (b : ℕ) (q : List ℕ) → step row b ≡ Illegal → first_code (after q (codes_on sub b (step row b))) ≡ None
  unfolding filtered
  on-illegal b q e = rw e

  pub on-ends : (b : ℕ) (x : EndKind) (q : List ℕ) → step row b ≡ Ends x → q ≡ [] → first_code (after q (codes_on sub b (step row b))) ≡ Some (put_first b (record { bits = 0; len = 0 }))
  unfolding filtered before packed
  on-ends b x q e z = rw (e, z)

  pub on-ended : (b : ℕ) (x : EndKind) (a : ℕ) (p q : List ℕ) → step row b ≡ Ends x → q ≡ a ∷ p → Starts b q → first_code (after q (codes_on sub b (step row b))) ≡ None
  unfolding filtered before
  on-ended b x a p q e z st =
      let w : a ≡ b = subst (Starts b) z st in
      rw (e, z, w, before-∷ b p [])

  on-leads : (b n : ℕ) (q : List ℕ) → step row b ≡ Leads n → Starts b q → All (λ s. before [] s ≡ true) (sub n)
      → first_code (after q (codes_on sub b (step row b))) ≡ put_next b (first_code (after (drop 1 q) (sub n)))
  unfolding before
  on-leads b n q e st all = rw e (go q st ∙ first-map b (after (drop 1 q) (sub n)))
    where
      go : (q : List ℕ) → Starts b q → first_code (after q (map (λ s. b ∷ s) (sub n))) ≡ first_code (map (λ s. b ∷ s) (after (drop 1 q) (sub n)))
      go [] st = ap first_code (after-all [] (map (λ s. b ∷ s) (sub n)) (All-map⁺ (λ s. b ∷ s) (λ s. before [] s ≡ true) (sub n) (All-⇒ (λ s h. refl) (sub n) all)) ∙ ap (map (λ s. b ∷ s)) (sym (after-all [] (sub n) all)))
      go (a ∷ p) st = rw st (ap first_code (after-map-∷ b p (sub n)))

-- the codes through marked rows
module _ (marks : List ℕ) (step : Rows) where
  marked-none : (f row : ℕ) → f ≡ 0 → codes_marked marks step f row ≡ []
  unfolding codes_marked
  marked-none f row e = rw e

  pub next-none : (f row : ℕ) (q : List ℕ) → f ≡ 0 → first_code (after q (codes_marked marks step f row)) ≡ None
  unfolding filtered
  next-none f row q e = rw (marked-none f row e)

  pub next_more : (f row : ℕ) (q : List ℕ) → ¬ (f ≡ 0)
      → first_code (after q (codes_marked marks step f row)) ≡ first_code (after q (scan (codes_led marks step (f - 1)) step row 256 0))
  unfolding codes_marked
  next_more zero row q h = absurd (h refl)
  next_more (suc f) row q h = rw sub-one

  only-marked : (P : List ℕ → Type 0) (f : ℕ) (l : List (List ℕ)) (t : Bool) → All P l → All P (pick t l [])
  only-marked P f l true h = h
  only-marked P f l false h = tt

  marked_start : (f row : ℕ) → All (λ s. before [] s ≡ true) (codes_marked marks step f row)
  unfolding codes_marked
  marked_start zero row = tt
  marked_start (suc f) row = scan-start (codes_led marks step f) step row 256 0

  marked-short : (f row : ℕ) → All (λ s. length s ≤ f) (codes_marked marks step f row)
  unfolding codes_marked
  marked-short zero row = tt
  marked-short (suc f) row =
      scan-all (codes_led marks step f) step row (λ s. length s ≤ suc f) (λ b h. go b (marked-short f) (step row b)) 256 0 (omega arith)
    where
      go : (b : ℕ) → ((n : ℕ) → All (λ s. length s ≤ f) (codes_marked marks step f n)) → (x : Step) → All (λ s. length s ≤ suc f) (codes_on (codes_led marks step f) b x)
      go b ih Illegal = tt
      go b ih (Ends e) = (omega arith, tt)
      go b ih (Leads n) =
          let l : List (List ℕ) = codes_led marks step f n in
          All-map⁺ (λ s. b ∷ s) (λ s. length s ≤ suc f) l (All-⇒ (λ s (p : length s ≤ f). let q : suc (length s) ≤ suc f = omega arith in q) l (only-marked (λ s. length s ≤ f) f (codes_marked marks step f n) (is_marked marks f n) (ih n)))

  pub next-short : (f row : ℕ) (q : List ℕ) (c : Code) → first_code (after q (codes_marked marks step f row)) ≡ Some c → c.len ≤ f
  next-short f row q c e = go (after q (codes_marked marks step f row)) (all-filtered (before q) (λ s. length s ≤ f) (codes_marked marks step f row) (marked-short f row)) e
    where
      go : (l : List (List ℕ)) → All (λ s. length s ≤ f) l → first_code l ≡ Some c → c.len ≤ f
      go [] h e = absurd (let z : ◌≡◌ {A = ℕ} 0 1 = cc in omega arith)
      go (s ∷ l) h e =
          let w : code_of s ≡ c = cc in
          let m : length s ≡ c.len = ap (λ (d : Code). d.len) w in
          omega (arith, h.0)

  module _ (f row b n : ℕ) (q : List ℕ) (leads : step row b ≡ Leads n) (st : Starts b q) where
    by-mark : (t : Bool) → is_marked marks f n ≡ t
        → first_code (after q (codes_on (codes_led marks step f) b (step row b))) ≡ put_next b (first_code (after (drop 1 q) (pick t (codes_marked marks step f n) [])))
    by-mark t e =
        on-leads (codes_led marks step f) step row b n q leads st (only-marked (λ s. before [] s ≡ true) f (codes_marked marks step f n) (is_marked marks f n) (marked_start f n))
        ∙ ap (λ (u : Bool). put_next b (first_code (after (drop 1 q) (pick u (codes_marked marks step f n) [])))) e

    pub leads-dead : is_marked marks f n ≡ false → first_code (after q (codes_on (codes_led marks step f) b (step row b))) ≡ None
    unfolding filtered
    leads-dead e = by-mark false e

    pub leads-on : is_marked marks f n ≡ true → (p : List ℕ) → p ≡ drop 1 q → (r : Option Code) → first_code (after p (codes_marked marks step f n)) ≡ r
        → first_code (after q (codes_on (codes_led marks step f) b (step row b))) ≡ put_next b r
    leads-on e p w r d = by-mark true e ∙ ap (put_next b) (ap (λ (p : List ℕ). first_code (after p (codes_marked marks step f n))) (sym w) ∙ d)

-- the mark of a row, byte by byte
module _ (step : Rows) (w : ℕ → Bool) (row : ℕ) where
  abbrev pub Dead : ℕ → Type 0
  Dead b = some_below (λ x. ends_or_leads w (step row x)) b ≡ false

  pub dead-none : Dead 0
  unfolding some_below
  dead-none = refl

  pub dead-step : (b : ℕ) → Dead b → ends_or_leads w (step row b) ≡ false → Dead (b + 1)
  unfolding some_below
  dead-step b d e = rw (add-one b, d, e)

  pub dead-row : Dead 256 → false ≡ row_productive step w row
  unfolding row_productive
  dead-row d = sym d

  pub live-row : (b : ℕ) → b < 256 → ends_or_leads w (step row b) ≡ true → true ≡ row_productive step w row
  unfolding row_productive
  live-row b h e = sym (some_below-yes⁺ (λ y. ends_or_leads w (step row y)) 256 b h e)

-- a row past the last is not productive
productive-past : (step : Rows) (f row : ℕ) → limits.rows ≤ row → productive step f row ≡ false
unfolding productive
productive-past step zero row h = refl
productive-past step (suc f) row h = rw (le-ltb row limits.rows h)

productive-in : (step : Rows) (f row : ℕ) → row < limits.rows → productive step (suc f) row ≡ row_productive step (productive step f) row
unfolding productive
productive-in step f row h = rw (lt-ltb row limits.rows h)

row_same : (step : Rows) (v w : ℕ → Bool) → ((n : ℕ) → v n ≡ w n) → (row : ℕ) → row_productive step v row ≡ row_productive step w row
unfolding row_productive
row_same step v w h row = some_below-ext (λ b. ends_or_leads v (step row b)) (λ b. ends_or_leads w (step row b)) 256 (λ b q. go (step row b))
  where
    go : (x : Step) → ends_or_leads v x ≡ ends_or_leads w x
    go Illegal = refl
    go (Ends e) = refl
    go (Leads n) = h n

mark_of : (step : Rows) (n f : ℕ) → f < 4 → mark_at step (n * 4 + f) ≡ pick (productive step f n) 1 0
mark_of step n f h =
    let p : (n * 4 + f) % 4 ≡ f = omega arith in
    let q : (n * 4 + f) / 4 ≡ n = omega arith in
    rw (p, q)

-- a mark that is set says whether the row is productive
mark-means : (step : Rows) (marks : List ℕ) (f n : ℕ) → f < 4 → get_or marks (n * 4 + f) 0 ≡ mark_at step (n * 4 + f) → is_marked marks f n ≡ productive step f n
unfolding is_marked
mark-means step marks f n h e = ap (λ (x : ℕ). not (eqb x 0)) (e ∙ mark_of step n f h) ∙ go (productive step f n)
  where
    go : (t : Bool) → not (eqb (pick t 1 0) 0) ≡ t
    go true = refl
    go false = refl

-- the first i marks are right: level by level, the marks for no byte first
abbrev pub MarkedSoFar : Rows → List ℕ → ℕ → Type 0
MarkedSoFar step marks i = (k : ℕ) → k < limits.rows * longest → k % 4 * limits.rows + k / 4 < i → get_or marks k 0 ≡ mark_at step k

pub marked-so-far-none : (step : Rows) → MarkedSoFar step (replicate (limits.rows * longest) 0) limits.rows
unfolding productive
marked-so-far-none step k h l =
    let z : k % 4 ≡ 0 = omega arith in
    get_or-replicate (limits.rows * longest) k 0 0 h ∙ rw z

pub marked-so-far-all : (step : Rows) (marks : List ℕ) (i : ℕ) → length marks ≡ limits.rows * longest → limits.rows * longest ≤ i → MarkedSoFar step marks i → marks ≡ marks_of step
unfolding marks_of
marked-so-far-all step marks i len h t =
    map-up_from-ext (mark_at step) marks 0 (λ k l. t k (omega arith) (omega arith)) ∙ ap (λ (n : ℕ). map (mark_at step) (up_from 0 n)) len

marks-at : (step : Rows) (k : ℕ) → k < limits.rows * longest → get_or (marks_of step) k 0 ≡ mark_at step k
unfolding marks_of
marks-at step k h = get_d-map-up_from (mark_at step) (limits.rows * longest) k 0 h

level-marked-so-far : (step : Rows) (marks : List ℕ) (i f : ℕ) → length marks ≡ limits.rows * longest → MarkedSoFar step marks i → f < 4 → f * limits.rows + limits.rows ≤ i → (n : ℕ) → is_marked marks f n ≡ productive step f n
unfolding is_marked
level-marked-so-far step marks i f len t h l n = go (ltb n limits.rows) refl
  where
    past : limits.rows ≤ n → is_marked marks f n ≡ false
    past p =
        let l : length marks ≤ n * 4 + f = omega arith in
        rw (get_or-eq_default marks 0 l)

    go : (x : Bool) → ltb n limits.rows ≡ x → is_marked marks f n ≡ productive step f n
    go true e = let p = ltb-true n limits.rows e in mark-means step marks f n h (t (n * 4 + f) (omega arith) (omega arith))
    go false e = let p = ltb-false n limits.rows e in past p ∙ sym (productive-past step f n p)

pub marked-so-far-step : (step : Rows) (marks : List ℕ) (i v : ℕ) → length marks ≡ limits.rows * longest → limits.rows ≤ i → i < limits.rows * longest → MarkedSoFar step marks i
    → v ≡ pick (row_productive step (is_marked marks (i / limits.rows - 1)) (i % limits.rows)) 1 0 → MarkedSoFar step (set marks (i % limits.rows * 4 + i / limits.rows) v) (i + 1)
marked-so-far-step step marks i v len lo hi t e k h l = go (eqb k (i % limits.rows * 4 + i / limits.rows)) refl
  where
    here : v ≡ mark_at step (i % limits.rows * 4 + i / limits.rows)
    here =
        let p : suc (i / limits.rows - 1) ≡ i / limits.rows = omega arith in
        e ∙ ap (λ (t : Bool). pick t 1 0) (row_same step (is_marked marks (i / limits.rows - 1)) (productive step (i / limits.rows - 1)) (level-marked-so-far step marks i (i / limits.rows - 1) len t (omega arith) (omega arith)) (i % limits.rows) ∙ sym (productive-in step (i / limits.rows - 1) (i % limits.rows) (omega arith)))
        ∙ rw p (sym (mark_of step (i % limits.rows) (i / limits.rows) (omega arith)))

    go : (x : Bool) → eqb k (i % limits.rows * 4 + i / limits.rows) ≡ x → get_or (set marks (i % limits.rows * 4 + i / limits.rows) v) k 0 ≡ mark_at step k
    go true w =
        let s : k ≡ i % limits.rows * 4 + i / limits.rows = eqb-true k (i % limits.rows * 4 + i / limits.rows) w in
        rw s (get_or-set_same marks (i % limits.rows * 4 + i / limits.rows) v 0 (omega arith) ∙ here)
    go false w =
        let d : ¬ (k ≡ i % limits.rows * 4 + i / limits.rows) = λ s. clash (eq-eqb k (i % limits.rows * 4 + i / limits.rows) s) w in
        get_or-set_other marks (i % limits.rows * 4 + i / limits.rows) k v 0 d ∙ t k h (omega arith)

-- a row that is not productive has no codes
dead-codes : (step : Rows) → LeadsInside limits.rows step → (f row : ℕ) → row < limits.rows → productive step f row ≡ false → codes_from step f row ≡ []
unfolding codes_from row_productive
dead-codes step inside zero row lt e = refl
dead-codes step inside (suc f) row lt e =
    let d : (b : ℕ) → b < 256 → ends_or_leads (productive step f) (step row b) ≡ false = some_below-no⁻ (λ b. ends_or_leads (productive step f) (step row b)) 256 (sym (productive-in step f row lt) ∙ e) in
    scan-empty (codes_from step f) step row (λ b h. go b (dead-codes step inside f) (step row b) (λ n q. inside row b n lt h q) (d b h)) 256 0 (omega arith)
  where
    go : (b : ℕ) → ((n : ℕ) → n < limits.rows → productive step f n ≡ false → codes_from step f n ≡ []) → (x : Step) → ((n : ℕ) → x ≡ Leads n → n < limits.rows) → ends_or_leads (productive step f) x ≡ false → codes_on (codes_from step f) b x ≡ []
    go b ih Illegal i e = refl
    go b ih (Ends x) i e = absurd (clash refl e)
    go b ih (Leads n) i e = ap (map (λ s. b ∷ s)) (ih n (i n refl) e)

-- with the marks of the productive rows, passing over the others leaves no code out
module _ (step : Rows) (inside : LeadsInside limits.rows step) where
  marked-below : (f row : ℕ) → f ≤ 4 → row < limits.rows → codes_marked (marks_of step) step f row ≡ codes_from step f row
  unfolding codes_marked codes_from
  marked-below zero row le lt = refl
  marked-below (suc f) row le lt =
      scan-ext (codes_led (marks_of step) step f) (codes_from step f) step step row
      (λ b h. go b (λ n l. marked-below f n (omega arith) l) (step row b) (λ n q. inside row b n lt h q)) 256 0 (omega arith)
    where
      led : (n : ℕ) → n < limits.rows → codes_marked (marks_of step) step f n ≡ codes_from step f n → (t : Bool) → productive step f n ≡ t
          → pick t (codes_marked (marks_of step) step f n) [] ≡ codes_from step f n
      led n l ih true e = ih
      led n l ih false e = sym (dead-codes step inside f n l e)

      go : (b : ℕ) → ((n : ℕ) → n < limits.rows → codes_marked (marks_of step) step f n ≡ codes_from step f n) → (x : Step) → ((n : ℕ) → x ≡ Leads n → n < limits.rows)
          → codes_on (codes_led (marks_of step) step f) b x ≡ codes_on (codes_from step f) b x
      go b ih Illegal i = refl
      go b ih (Ends e) i = refl
      go b ih (Leads n) i =
          let l : n < limits.rows = i n refl in
          let t : is_marked (marks_of step) f n ≡ productive step f n = mark-means step (marks_of step) f n (omega arith) (marks-at step (n * 4 + f) (omega arith)) in
          ap (λ (x : Bool). map (λ s. b ∷ s) (pick x (codes_marked (marks_of step) step f n) [])) t
          ∙ ap (map (λ s. b ∷ s)) (led n l (ih n l) (productive step f n) refl)

  marked-codes : (row : ℕ) → row < limits.rows → codes_marked (marks_of step) step 4 row ≡ codes_from step 4 row
  marked-codes row lt = marked-below 4 row (omega arith) lt

  pub next-marked : (row : ℕ) (p : List ℕ) → row < limits.rows → next_marked (marks_of step) step row p ≡ next_of step row p
  next-marked row p lt = ap (λ (l : List (List ℕ)). first_code (after p l)) (marked-codes row lt)
