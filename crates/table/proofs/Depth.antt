-- T2 and T3: what they say of a row and a byte, how long a code can be, and that nothing past the needed cells matters.
use Prim.Native.Nat.{ℕ, zero, suc, ◌+◌, ◌-◌, ◌*◌, ◌<◌, ◌≤◌}
use mathlib.Core.Path.{◌≡◌, refl, sym, ap, ◌∙◌}
use mathlib.Core.Bool.{Bool, true, false}
use mathlib.Core.List.{List, [], ◌∷◌}
use native.Mathlib.Omega.{arith}
use lib.Dec.{ltb, leb}
use lib.ListN.{length, get_or, take, drop, length-take}
use lib.Seq.{get_or-take, get_or-drop}
use borrow.Author.Tests.{ltb-true, ltb-false, leb-true, le-leb, lt-leb}
use Rattle.lists.specs.Pick.{pick}
use Rattle.lists.proofs.Laws.{clash, and_left, and_right}
use Rattle.table.specs.Limits.{Limits, needed}
use Rattle.table.specs.Cells.{cell_step, cell_in, known}
use Rattle.table.specs.States.{Rows, step_at, end_kind, leads_to, within}
use Rattle.table.specs.Codes.{AllByte}
use Rattle.table.specs.Rules.{t2_row}
use Rattle.lists.specs.Tests.{all_of, zeros}
use Rattle.table.specs.Valid.{state_ok, states_ok}
use Rattle.table.specs.declared.states.Step.{Step}
use Rattle.table.specs.declared.states.Step.TheVariants.{Illegal, Ends, Leads}
use Rattle.table.proofs.RowLaws.{small-ok, end_on, end_kind-∷}
use Rattle.lists.proofs.Tests.{all_of-get_d, get_d-zeros, all_below-yes⁻}
use Rattle.std.specs.Prelude.{Option, None}
use Rattle.table.specs.declared.states.EndKind.{EndKind}

-- T3 at a byte that leads on
pub within-row : (step : Rows) (d row b n : ℕ) → within step (suc d) row ≡ true → b < 256 → step row b ≡ Leads n → within step d n ≡ true
unfolding within
within-row step d row b n h lt e = rw e at (all_below-yes⁻ (λ a. leads_to (within step d) (step row a)) 256 h b lt)

-- where every way leads on fewer than d times a code has at most d bytes
short-by : (d : ℕ) (s : List ℕ) (x : Step) (go : ℕ → Option EndKind) → ((n : ℕ) → x ≡ Leads n → (go n ≡ None → ⊥) → length s ≤ d) → (end_on x s go ≡ None → ⊥) → length s ≤ d
short-by d s Illegal go ih h = absurd (h refl)
short-by d [] (Ends e) go ih h = omega arith
short-by d (b ∷ s) (Ends e) go ih h = absurd (h refl)
short-by d s (Leads n) go ih h = ih n refl h

pub short-code : (step : Rows) (d row : ℕ) (s : List ℕ) → within step d row ≡ true → AllByte s → (end_kind step row s ≡ None → ⊥) → length s ≤ d
unfolding within AllByte
short-code step d row [] w a h = omega arith
short-code step zero row (b ∷ s) w a h = absurd (clash w refl)
short-code step (suc d) row (b ∷ s) w a h =
    let r = short-by d s (step row b) (λ n. end_kind step n s) (λ n q. short-code step d n s (within-row step d row b n w a.0 q) a.1) (λ e. h (end_kind-∷ step row b s (step row b) refl ∙ e)) in
    omega arith

-- the test of the states, by their number
pub states-few : (lim : Limits) (n : ℕ) (ts : List ℕ) → length ts < needed lim → states_ok lim n ts ≡ false
unfolding states_ok
states-few lim n ts h = rw (lt-leb (needed lim) (length ts) h)

pub states-test : (lim : Limits) (n : ℕ) (ts : List ℕ) → needed lim ≤ length ts → states_ok lim n ts ≡ pick (all_of (state_ok n) (take (n * 256) ts)) (zeros (take (needed lim - n * 256) (drop (n * 256) ts))) false
unfolding states_ok
states-test lim n ts h = rw (le-leb (needed lim) (length ts) h)

-- the parts of the test of the states
pub record StatesKept (lim : Limits) (n : ℕ) (ts : List ℕ) : Type 0 where
  pub long : needed lim ≤ length ts
  pub entries : all_of (state_ok n) (take (n * 256) ts) ≡ true
  pub behind : zeros (take (needed lim - n * 256) (drop (n * 256) ts)) ≡ true

pub states_ok⇒StatesKept : (lim : Limits) (n : ℕ) (ts : List ℕ) → states_ok lim n ts ≡ true → StatesKept lim n ts
unfolding states_ok
states_ok⇒StatesKept lim n ts h =
    let a = all_of (state_ok n) (take (n * 256) ts) in
    let z = zeros (take (needed lim - n * 256) (drop (n * 256) ts)) in
    let r = and_right (leb (needed lim) (length ts)) (pick a z false) h in
    record { long = leb-true (needed lim) (length ts) (and_left (leb (needed lim) (length ts)) (pick a z false) h); entries = and_left a z r; behind = and_right a z r }

-- cells behind the last row are zeros
pub zero-behind : (lim : Limits) (n : ℕ) (ts : List ℕ) → StatesKept lim n ts → (j : ℕ) → n * 256 ≤ j → j < needed lim → get_or ts j 0 ≡ 0
zero-behind lim n ts k j h lt =
    let e : n * 256 + (j - n * 256) ≡ j = omega arith in
    ap (λ (i : ℕ). get_or ts i 0) (sym e)
    ∙ sym (get_or-drop (n * 256) ts (j - n * 256) 0)
    ∙ sym (get_or-take (needed lim - n * 256) (drop (n * 256) ts) (j - n * 256) 0 (omega arith))
    ∙ get_d-zeros (take (needed lim - n * 256) (drop (n * 256) ts)) (j - n * 256) k.behind

-- every needed cell is of the form and keeps T2
entry_kept : (lim : Limits) (n : ℕ) (ts : List ℕ) → StatesKept lim n ts → (j : ℕ) → j < needed lim → state_ok n (get_or ts j 0) ≡ true
entry_kept lim n ts k j lt = go (ltb j (n * 256)) refl
  where
    go : (t : Bool) → ltb j (n * 256) ≡ t → state_ok n (get_or ts j 0) ≡ true
    go true u =
        let h = ltb-true j (n * 256) u in
        let l = k.long in
        rw (get_or-take (n * 256) ts j 0 h) at (all_of-get_d (state_ok n) (take (n * 256) ts) j 0 k.entries (rw (length-take (n * 256) ts) (omega arith)))
    go false u = rw (zero-behind lim n ts k j (ltb-false j (n * 256) u) lt) (small-ok n 0 (omega arith))

-- what lies past the needed cells does not matter to a row and a byte
pub step-needed : (lim : Limits) (ts : List ℕ) (r b : ℕ) → r < lim.rows → b < 256 → step_at (take (needed lim) ts) r b ≡ step_at ts r b
unfolding step_at
step-needed lim ts r b hr hb = ap (λ (e : ℕ). cell_step (cell_in e)) (get_or-take (needed lim) ts (r * 256 + b) 0 (omega arith))

pub StatesKept⇒t2 : (lim : Limits) (n : ℕ) (ts : List ℕ) → StatesKept lim n ts → (r b m : ℕ) → r < lim.rows → b < 256 → step_at ts r b ≡ Leads m → (1 ≤ m) × (m < n)
unfolding step_at
StatesKept⇒t2 lim n ts k r b m hr hb e =
    let x : ℕ = get_or ts (r * 256 + b) 0 in
    let o : t2_row n m ≡ true = sym (ap (leads_to (t2_row n)) e) ∙ and_right (known x) _ (entry_kept lim n ts k (r * 256 + b) (omega arith)) in
    (leb-true 1 m (and_left (leb 1 m) (ltb m n) o), ltb-true m n (and_right (leb 1 m) (ltb m n) o))

-- two ways to know the rows that say the same of the rows there can be
pub record Agree (rows : ℕ) (a c : Rows) : Type 0 where
  pub same : (r b : ℕ) → r < rows → b < 256 → a r b ≡ c r b
  pub stay : (r b m : ℕ) → r < rows → b < 256 → a r b ≡ Leads m → m < rows

-- the states, and the needed ones of them
pub needed-agree : (lim : Limits) (n : ℕ) (ts : List ℕ) → n ≤ lim.rows → states_ok lim n ts ≡ true → Agree lim.rows (step_at ts) (step_at (take (needed lim) ts))
needed-agree lim n ts few h =
    record {
      same = λ r b hr hb. sym (step-needed lim ts r b hr hb);
      stay = λ r b m hr hb e. let q = StatesKept⇒t2 lim n ts (states_ok⇒StatesKept lim n ts h) r b m hr hb e in omega (arith, q.1);
    }
