-- Illegal sequences (document 02, request 3): where they break, how long they are, and which of their bytes could begin a code.
use Prim.Native.Nat.{ℕ, zero, suc, ◌+◌, ◌≤◌, ◌<◌}
use mathlib.Core.Path.{◌≡◌, refl, sym, ap, ◌∙◌}
use mathlib.Core.Bool.{true}
use mathlib.Core.List.{List, [], ◌∷◌}
use mathlib.Core.Logic.{◌⊎◌, inl, inr}
use native.Mathlib.Omega.{arith}
use lib.ListN.{length, get_or, take}
use borrow.Author.Tests.{ltb-true, ltb-false}
use lib.Dec.{ltb, leb, eqb}
use Rattle.lists.specs.Pick.{pick}
use Rattle.lists.proofs.Laws.{clash}
use Rattle.lists.proofs.Cases.{pick-case}
use Rattle.table.specs.States.{Rows, broken_length, cut_from, cut_of, within, longest}
use Rattle.table.specs.Illegal.{TakesIn}
use Rattle.table.specs.Meaning.{flat, steps_on, steps_of}
use Rattle.table.specs.Codes.{AllByte}
use Rattle.table.specs.Illegal.{all_lead, reached}
use Rattle.table.specs.TableK.{table_k}
use Rattle.table.specs.declared.states.Step.{Step}
use Rattle.table.specs.declared.states.Step.TheVariants.{Illegal, Ends, Leads}
use Rattle.table.specs.declared.states.CutStop.TheVariants as cut_stop
use Rattle.table.specs.declared.states.Cut.{Cut}
use Rattle.table.specs.declared.states.Cut.TheVariants.{Complete, Stopped}
use Rattle.table.proofs.RowLaws.{on_step, cut_from-∷, all_lead-∷, reached-∷}
use Rattle.table.proofs.Depth.{within-row}
use Rattle.table.specs.declared.states.EndKind.TheVariants.{Assigned}

-- the breaking byte is the only one that may be left out
pub broken-length : (x : Step) (k : ℕ) → (k ≤ broken_length x k) × (broken_length x k ≤ k + 1)
broken-length Illegal k = (omega arith, omega arith)
broken-length (Ends e) k = (omega arith, omega arith)
broken-length (Leads n) k = (omega arith, omega arith)

taken-by : (x : Step) (k m : ℕ) → m ≡ broken_length x (0 + k) → k < m → x ≡ Illegal
taken-by Illegal k m e lt = refl
taken-by (Ends y) k m e lt = absurd (omega arith)
taken-by (Leads n) k m e lt = absurd (omega arith)

taken_back : (x : Step) (k m : ℕ) → m ≡ broken_length x (0 + k) → x ≡ Illegal → k < m
taken_back x k m e q = let z : m ≡ 0 + k + 1 = e ∙ ap (λ (y : Step). broken_length y (0 + k)) q in omega arith

length-by : (broken k f m : ℕ) (s : List ℕ) (x : Step) (go : ℕ → Cut)
    → (k ≤ broken) × (broken ≤ k + 1)
    → ((n : ℕ) → go n ≡ Stopped (cut_stop.Illegal m) → (k + 1 ≤ m) × (m ≤ k + 1 + length s) × (m ≤ k + 1 + f))
    → on_step x broken k go ≡ Stopped (cut_stop.Illegal m) → (k ≤ m) × (m ≤ k + suc (length s)) × (m ≤ k + suc f)
length-by broken k f m s Illegal go h ih c = let q : broken ≡ m = cc in (omega (arith, h.0), omega (arith, h.1), omega (arith, h.1))
length-by broken k f m s (Ends e) go h ih c = absurd (let z : ◌≡◌ {A = ℕ} 0 1 = cc in omega arith)
length-by broken k f m s (Leads n) go h ih c = let r = ih n c in (omega (arith, r.0), omega (arith, r.1), omega (arith, r.2))

some-by : (broken m : ℕ) (x : Step) (go : ℕ → Cut)
    → (x ≡ Illegal → broken ≡ 1)
    → ((n : ℕ) → go n ≡ Stopped (cut_stop.Illegal m) → 1 ≤ m)
    → on_step x broken 0 go ≡ Stopped (cut_stop.Illegal m) → 1 ≤ m
some-by broken m Illegal go h ih c = let q : broken ≡ m = cc in omega (arith, h refl)
some-by broken m (Ends e) go h ih c = absurd (let z : ◌≡◌ {A = ℕ} 0 1 = cc in omega arith)
some-by broken m (Leads n) go h ih c = ih n c

-- where every way leads on fewer than d times: `before` bytes lead on, the next is illegal in the row reached, and what the initial row
-- says of it decides whether it is taken in
pub record BrokenAt (step : Rows) (first d row k : ℕ) (s : List ℕ) (m : ℕ) : Type 0 where
  pub before : ℕ
  pub few : before < d
  pub inside : before < length s
  pub lead : all_lead step row (take before s) ≡ true
  pub breaks : step (reached step row (take before s)) (get_or s before 0) ≡ Illegal
  pub count : m ≡ broken_length (step first (get_or s before 0)) (k + before)

module _ (step : Rows) (first : ℕ) where
  -- whatever the states are, an illegal sequence lies in the input
  cut-illegal : (f row k : ℕ) (s : List ℕ) (m : ℕ) → cut_from step first f row k s ≡ Stopped (cut_stop.Illegal m)
      → (k ≤ m) × (m ≤ k + length s) × (m ≤ k + f)
  unfolding cut_from
  cut-illegal zero row k s m c = let q : k ≡ m = cc in (omega arith, omega arith, omega arith)
  cut-illegal (suc f) row k [] m c = absurd (let z : ◌≡◌ {A = ℕ} 0 1 = cc in omega arith)
  cut-illegal (suc f) row k (b ∷ s) m c =
      length-by (broken_length (step first b) k) k f m s (step row b) (λ n. cut_from step first f n (k + 1) s)
      (broken-length (step first b) k)
      (λ n. cut-illegal f n (k + 1) s m)
      (sym (cut_from-∷ step first f row k b s (step row b) refl) ∙ c)

  broken-by : (f d row k b : ℕ) (s : List ℕ) (m : ℕ)
      → ((n : ℕ) → step row b ≡ Leads n → cut_from step first f n (k + 1) s ≡ Stopped (cut_stop.Illegal m)
      → BrokenAt step first d n (k + 1) s m)
      → (x : Step)
      → step row b ≡ x
      → on_step x (broken_length (step first b) k) k (λ n. cut_from step first f n (k + 1) s) ≡ Stopped (cut_stop.Illegal m)
      → BrokenAt step first (suc d) row k (b ∷ s) m
  unfolding all_lead reached
  broken-by f d row k b s m ih Illegal q c =
      let u : broken_length (step first b) k ≡ m = cc in
      let z : k ≡ k + 0 = omega arith in
      record {
        before = 0;
        few = omega arith;
        inside = omega arith;
        lead = refl;
        breaks = q;
        count = sym u ∙ ap (broken_length (step first b)) z;
      }
  broken-by f d row k b s m ih (Ends e) q c = absurd (let z : ◌≡◌ {A = ℕ} 0 1 = cc in omega arith)
  broken-by f d row k b s m ih (Leads n) q c =
      let r = ih n q c in
      let t = take r.before s in
      let w : k + 1 + r.before ≡ k + suc r.before = omega arith in
      record {
        before = suc r.before;
        few = omega (arith, r.few);
        inside = omega (arith, r.inside);
        lead = all_lead-∷ step row b t (Leads n) q ∙ r.lead;
        breaks = rw (reached-∷ step row b t (Leads n) q) r.breaks;
        count = r.count ∙ ap (broken_length (step first (get_or s r.before 0))) w;
      }

  cut-broken : (f d row k : ℕ) (s : List ℕ) (m : ℕ) → within step d row ≡ true → d ≤ f → AllByte s
      → cut_from step first f row k s ≡ Stopped (cut_stop.Illegal m) → BrokenAt step first d row k s m
  unfolding cut_from within AllByte
  cut-broken f zero row k s m w le a c = absurd (clash w refl)
  cut-broken zero (suc d) row k s m w le a c = absurd (omega arith)
  cut-broken (suc f) (suc d) row k [] m w le a c = absurd (let z : ◌≡◌ {A = ℕ} 0 1 = cc in omega arith)
  cut-broken (suc f) (suc d) row k (b ∷ s) m w le a c =
      broken-by f d row k b s m
      (λ n q. cut-broken f d n (k + 1) s m (within-row step d row b n w a.0 q) (omega arith) a.1)
      (step row b) refl
      (sym (cut_from-∷ step first f row k b s (step row b) refl) ∙ c)

-- AN ILLEGAL SEQUENCE at the front of an input has some bytes, at most four, and lies in the input, whatever the states are
module _ (step : Rows) (row : ℕ) where
  pub illegal-some : (s : List ℕ) (m : ℕ) → cut_of step row s ≡ Stopped (cut_stop.Illegal m) → 1 ≤ m
  unfolding cut_from
  illegal-some [] m c = absurd (let z : ◌≡◌ {A = ℕ} 0 1 = cc in omega arith)
  illegal-some (b ∷ s) m c =
      some-by (broken_length (step row b) 0) m (step row b) (λ n. cut_from step row 3 n 1 s)
      (λ e. ap (λ (x : Step). broken_length x 0) e)
      (λ n e. (cut-illegal step row 3 n 1 s m e).0)
      (sym (cut_from-∷ step row 3 row 0 b s (step row b) refl) ∙ c)

  pub illegal-inside : (s : List ℕ) (m : ℕ) → cut_of step row s ≡ Stopped (cut_stop.Illegal m) → (m ≤ length s) × (m ≤ longest)
  illegal-inside s m c = let r = cut-illegal step row longest row 0 s m c in (omega (arith, r.1), omega (arith, r.2))

  -- under T3 with codes of at most d bytes
  module _ (d : ℕ) (w : within step d row ≡ true) (le : d ≤ longest) (s : List ℕ) (bytes : AllByte s) (m : ℕ) (c : cut_of step row s ≡ Stopped (cut_stop.Illegal m)) where
    broken : BrokenAt step row d row 0 s m
    broken = cut-broken step row longest d row 0 s m w le bytes c

    sized : (broken.before ≤ m) × (m ≤ broken.before + 1)
    sized =
        let r = broken-length (step row (get_or s broken.before 0)) (0 + broken.before) in
        let q = broken.count in
        (omega (arith, r.0), omega (arith, r.1))

    taken : broken.before < m → step row (get_or s broken.before 0) ≡ Illegal
    taken = taken-by (step row (get_or s broken.before 0)) broken.before m broken.count

    -- bytes between the first and the breaking one led on
    inner-by : (j : ℕ) → 0 < j → j < m → (step row (get_or s j 0) ≡ Illegal) ⊎ (j < broken.before)
    inner-by j lo hi =
        pick-case (λ (x : ℕ). (step row (get_or s j 0) ≡ Illegal) ⊎ (j < broken.before)) (ltb j broken.before) 0 0
        (λ t. inr (ltb-true j broken.before t))
        (λ t.
        let a = ltb-false j broken.before t in
        let e : j ≡ broken.before = omega (arith, sized.1) in
        inl (rw e (taken (omega arith))))

    -- with codes of two bytes there are none
    two-by : d ≤ 2 → (j : ℕ) → 0 < j → j < m → step row (get_or s j 0) ≡ Illegal
    two-by few j lo hi =
        let f = broken.few in
        let e : j ≡ broken.before = omega (arith, sized.1) in
        rw e (taken (omega arith))

    pub takes-in : TakesIn step row d s m
    takes-in = record {
      before = broken.before;
      lead-on = broken.lead;
      breaks = broken.breaks;
      ends = sized;
      taken_in = (taken, taken_back (step row (get_or s broken.before 0)) broken.before m broken.count);
      inner = inner-by;
      of_two = two-by;
    }

-- table K: 81 leads on to row 1; 2D, 33 and 81 are no illegal first bytes, FF is one
k-cases : (cut_of (steps_of table_k) 0 (0x81 ∷ 0x7c ∷ 0x33 ∷ []) ≡ Complete 2 Assigned)
    × (cut_of (steps_of table_k) 0 (0x81 ∷ []) ≡ Stopped cut_stop.CutShort)
    × (cut_of (steps_of table_k) 0 (0x81 ∷ 0x2d ∷ 0x33 ∷ []) ≡ Stopped (cut_stop.Illegal 1))
    × (cut_of (steps_of table_k) 0 (0x81 ∷ 0xff ∷ 0x33 ∷ []) ≡ Stopped (cut_stop.Illegal 2))
    × (cut_of (steps_of table_k) 0 (0x81 ∷ 0x81 ∷ []) ≡ Stopped (cut_stop.Illegal 1))
    × (cut_of (steps_of table_k) 0 (0xff ∷ 0x33 ∷ []) ≡ Stopped (cut_stop.Illegal 1))
    × (cut_of (steps_of table_k) 0 [] ≡ Stopped cut_stop.CutShort)
unfolding cut_from flat steps_on table_k
k-cases = (refl, refl, refl, refl, refl, refl, refl)

-- codes of three bytes: 81 leads on to row 1 and from there to row 2, where nothing goes on. Of 81 81 81 two bytes are taken in, though
-- the second could begin a code: it led on
threes : Rows
threes row b = pick (eqb b 0x81) (pick (leb 2 row) Illegal (Leads (row + 1))) Illegal

inner-led-on : cut_of threes 0 (0x81 ∷ 0x81 ∷ 0x81 ∷ []) ≡ Stopped (cut_stop.Illegal 2)
unfolding cut_from threes
inner-led-on = refl
