-- What the numbers of cells say: each by itself, all that are of the form, zeros behind them, rows one behind the other; and one byte of each recursion over rows.
use Prim.Native.Nat.{ℕ, zero, suc, suc, ◌+◌, ◌-◌, ◌*◌, ◌<◌, ◌≤◌}
use mathlib.Core.Path.{◌≡◌, refl, ap, ◌∙◌}
use mathlib.Core.Bool.{Bool, true, false}
use mathlib.Core.List.{List, [], ◌∷◌, map}
use native.Mathlib.Omega.{arith}
use lib.Dec.{ltb, leb}
use lib.ListN.{length, length-append, length-map}
use borrow.Author.Tests.{leb-true, le-leb, lt-leb, lt-ltb, le-ltb}
use Rattle.lists.specs.Pick.{pick}
use Rattle.lists.specs.Order.{All}
use Rattle.lists.proofs.Laws.{and_yes, and_left, and_right}
use Rattle.lists.proofs.Choice.{pick-false-false}
use Rattle.table.specs.Cells.{Cell, cell_step, cell_number, cell_in, known}
use Rattle.table.specs.States.{Rows, step_at, broken_length, cut_from, end_kind, leads_to}
use Rattle.lists.specs.Tests.{is_empty, all_of}
use Rattle.table.specs.loops.LeadMarks.{leads_on}
use Rattle.table.specs.Illegal.{all_lead, reached}
use Rattle.table.specs.Meaning.{flat, steps_on}
use Rattle.table.specs.Memory.{numbers_of}
use Rattle.lists.specs.Place.{filled}
use Rattle.lists.proofs.Place.{get_d-++-replicate}
use Rattle.table.specs.Rules.{t2_row, t2}
use Rattle.table.specs.Valid.{state_ok}
use Rattle.table.specs.declared.states.Step.{Step}
use Rattle.table.specs.declared.states.Step.TheVariants.{Illegal, Ends, Leads}
use Rattle.table.specs.declared.states.CutStop.TheVariants as cut_stop
use Rattle.table.specs.declared.states.Cut.{Cut}
use Rattle.table.specs.declared.states.Cut.TheVariants.{Complete, Stopped}
use Rattle.table.proofs.CellLaws.{cell-far, cell-back, number-back, number-known, numbers-say}
use Rattle.std.specs.Prelude.{Option, Some, None}
use Rattle.table.specs.declared.states.EndKind.{EndKind}

-- numbers of cells as the pass over the rows tests them: 0 to 3 lead nowhere; 4 to 16 are not of the form or lead to row 0; the rest lead on
small-leads : (w : ℕ → Bool) (e : ℕ) → e ≤ 3 → leads_to w (cell_step (cell_in e)) ≡ true
unfolding cell_in
small-leads w zero h = refl
small-leads w (suc zero) h = refl
small-leads w (suc (suc zero)) h = refl
small-leads w (suc (suc (suc zero))) h = refl
small-leads w (suc (suc (suc (suc e)))) h = absurd (omega arith)

pub small-never : (k e : ℕ) → e ≤ 3 → leads_on k (cell_step (cell_in e)) ≡ false
unfolding cell_in
small-never k zero h = refl
small-never k (suc zero) h = refl
small-never k (suc (suc zero)) h = refl
small-never k (suc (suc (suc zero))) h = refl
small-never k (suc (suc (suc (suc e)))) h = absurd (omega arith)

pub small-ok : (n e : ℕ) → e ≤ 3 → state_ok n e ≡ true
small-ok n e h = rw (le-leb e 3 h) (small-leads (t2_row n) e h)

leads-ok : (n e : ℕ) → 16 ≤ e → state_ok n e ≡ t2_row n (e - 16)
leads-ok n e h = rw (lt-leb e 3 (omega arith), le-leb 16 e h, cell-far e h)

pub free-bad : (n e : ℕ) → 3 < e → e ≤ 16 → state_ok n e ≡ false
free-bad n e h k = go (leb 16 e) refl
  where
    go : (t : Bool) → leb 16 e ≡ t → state_ok n e ≡ false
    go true u = let a = leb-true 16 e u in let b : e - 16 ≡ 0 = omega arith in leads-ok n e a ∙ rw b
    go false u = rw (lt-leb e 3 h, u)

pub far-bad : (n e : ℕ) → 16 ≤ e → n ≤ e - 16 → state_ok n e ≡ false
far-bad n e h k = leads-ok n e h ∙ rw (le-ltb (e - 16) n k) (pick-false-false (leb 1 (e - 16)))

pub near-ok : (n e : ℕ) → 16 < e → e - 16 < n → state_ok n e ≡ true
near-ok n e h k = leads-ok n e (omega arith) ∙ and_yes (leb 1 (e - 16)) (ltb (e - 16) n) (le-leb 1 (e - 16) (omega arith)) (lt-ltb (e - 16) n k)

-- the test of the numbers of cells is T2
pub all_of-state_ok : (n : ℕ) (cells : List Cell) → all_of (state_ok n) (map cell_number cells) ≡ t2 n cells
unfolding all_of
all_of-state_ok n [] = refl
all_of-state_ok n (c ∷ cells) = (λ i. pick (pick (number-known c i) (leads_to (t2_row n) (cell_step (cell-back c i))) false) (all_of-state_ok n cells i) false)

-- numbers that pass are those of cells
pub map-cell_number-cell_in : (n : ℕ) (l : List ℕ) → all_of (state_ok n) l ≡ true → map cell_number (map cell_in l) ≡ l
unfolding all_of
map-cell_number-cell_in n [] h = refl
map-cell_number-cell_in n (e ∷ l) h = (λ i. number-back e (and_left (known e) _ (and_left (state_ok n e) _ h)) i ∷ map-cell_number-cell_in n l (and_right (state_ok n e) _ h) i)

filled-steps : (n : ℕ) (xs : List ℕ) → step_at (filled n xs) ≡ step_at xs
unfolding step_at filled
filled-steps n xs = λ i row b. cell_step (cell_in (get_d-++-replicate (n - length xs) xs (row * 256 + b) i))

-- MEMORY THAT HOLDS THE NUMBERS OF ROWS SAYS WHAT THE ROWS SAY
pub steps-filled : (n : ℕ) (rows : List (List Cell)) (states : List ℕ) → states ≡ filled n (numbers_of rows) → step_at states ≡ steps_on rows
steps-filled n rows states e = ap step_at e ∙ filled-steps n (numbers_of rows) ∙ numbers-say rows

-- rows of 256 cells one behind the other
length-flat : (rows : List (List Cell)) → All (λ r. length r ≡ 256) rows → length (flat rows) ≡ length rows * 256
unfolding flat
length-flat [] h = refl
length-flat (r ∷ rows) h = let e = length-flat rows h.1 in let q = h.0 in rw (length-append r (flat rows)) (omega arith)

pub length-numbers : (rows : List (List Cell)) → All (λ r. length r ≡ 256) rows → length (numbers_of rows) ≡ length rows * 256
length-numbers rows h = length-map (flat rows) cell_number ∙ length-flat rows h

-- one byte of each recursion, by what the row says of it; an illegal sequence has `broken` bytes
abbrev pub on_step : Step → ℕ → ℕ → (ℕ → Cut) → Cut
on_step Illegal broken k go = Stopped (cut_stop.Illegal broken)
on_step (Ends e) broken k go = Complete (k + 1) e
on_step (Leads n) broken k go = go n

pub cut_from-∷ : (step : Rows) (first f row k b : ℕ) (s : List ℕ) (x : Step) → step row b ≡ x
    → cut_from step first (suc f) row k (b ∷ s) ≡ on_step x (broken_length (step first b) k) k (λ n. cut_from step first f n (k + 1) s)
unfolding cut_from
cut_from-∷ step first f row k b s Illegal q = rw (q, cut_from)
cut_from-∷ step first f row k b s (Ends e) q = rw (q, cut_from)
cut_from-∷ step first f row k b s (Leads n) q = rw (q, cut_from)

abbrev pub end_on : Step → List ℕ → (ℕ → Option EndKind) → Option EndKind
end_on Illegal s go = None
end_on (Ends e) s go = pick (is_empty s) (Some e) None
end_on (Leads n) s go = go n

pub end_kind-∷ : (step : Rows) (row b : ℕ) (s : List ℕ) (x : Step) → step row b ≡ x → end_kind step row (b ∷ s) ≡ end_on x s (λ n. end_kind step n s)
unfolding end_kind
end_kind-∷ step row b s Illegal q = rw (q, end_kind)
end_kind-∷ step row b s (Ends e) q = rw (q, end_kind)
end_kind-∷ step row b s (Leads n) q = rw (q, end_kind)

abbrev pub led_on : {A : Type 0} → Step → A → (ℕ → A) → A
led_on Illegal d go = d
led_on (Ends e) d go = d
led_on (Leads n) d go = go n

pub all_lead-∷ : (step : Rows) (row b : ℕ) (s : List ℕ) (x : Step) → step row b ≡ x → all_lead step row (b ∷ s) ≡ led_on x false (λ n. all_lead step n s)
unfolding all_lead
all_lead-∷ step row b s Illegal q = rw (q, all_lead)
all_lead-∷ step row b s (Ends e) q = rw (q, all_lead)
all_lead-∷ step row b s (Leads n) q = rw (q, all_lead)

pub reached-∷ : (step : Rows) (row b : ℕ) (s : List ℕ) (x : Step) → step row b ≡ x → reached step row (b ∷ s) ≡ led_on x row (λ n. reached step n s)
unfolding reached
reached-∷ step row b s Illegal q = rw (q, reached)
reached-∷ step row b s (Ends e) q = rw (q, reached)
reached-∷ step row b s (Leads n) q = rw (q, reached)
