-- Cutting is sound and complete, stable under more input; when a sequence is cut short. (Illegal sequences: Broken.antt)
use Prim.Native.Nat.{ℕ, zero, suc, ◌+◌, ◌-◌, ◌*◌, ◌/◌, ◌%◌, ◌<◌, ◌≤◌}
use mathlib.Core.Path.{◌≡◌, refl, sym, ap, ◌∙◌}
use mathlib.Core.Bool.{Bool, true, false}
use mathlib.Core.List.{List, [], ◌∷◌, ◌++◌}
use native.Mathlib.Numerals.{sub-one}
use native.Mathlib.Omega.{arith}
use lib.ListN.{length, get_or, take, drop}
use Rattle.lists.proofs.Laws.{clash, drop-∷, drop_past}
use Rattle.table.specs.States.{Rows, broken_length, cut_from, cut_of, end_kind, longest}
use Rattle.table.specs.Codes.{AllByte, unpacked}
use Rattle.table.specs.Illegal.{all_lead}
use Rattle.table.specs.declared.states.Step.{Step}
use Rattle.table.specs.declared.states.Step.TheVariants.{Illegal, Ends, Leads}
use Rattle.table.specs.declared.states.CutStop.TheVariants as cut_stop
use Rattle.table.specs.declared.states.Cut.{Cut}
use Rattle.table.specs.declared.states.Cut.TheVariants.{Complete, Stopped}
use Rattle.table.proofs.RowLaws.{on_step, cut_from-∷, end_on, end_kind-∷, led_on, all_lead-∷}
use Rattle.table.proofs.Depth.{Agree}
use Rattle.std.specs.Prelude.{Option, Some}
use Rattle.table.specs.declared.states.EndKind.{EndKind}

-- the next byte of an input, and the end of it
module _ (step : Rows) (first : ℕ) where
  pub cut-here : (f row k : ℕ) (s : List ℕ) (x : Step) → (f ≡ 0 → ⊥) → k < length s → step row (get_or s k 0) ≡ x
      → cut_from step first f row k (drop k s) ≡ on_step x (broken_length (step first (get_or s k 0)) k) k (λ n. cut_from step first (f - 1) n (k + 1) (drop (k + 1) s))
  cut-here zero row k s x pos h q = absurd (pos refl)
  cut-here (suc f) row k s x pos h q =
      rw (drop-∷ s k h, sub-one) (cut_from-∷ step first f row k (get_or s k 0) (drop (k + 1) s) x q)

  pub cut-end : (f row k : ℕ) (s : List ℕ)
      → (f ≡ 0 → ⊥)
      → length s ≤ k
      → cut_from step first f row k (drop k s) ≡ Stopped cut_stop.CutShort
  unfolding cut_from
  cut-end zero row k s pos h = absurd (pos refl)
  cut-end (suc f) row k s pos h = rw (drop_past s k h)

  pub cut-none : (f row k : ℕ) (s : List ℕ) → f ≡ 0 → cut_from step first f row k s ≡ Stopped (cut_stop.Illegal k)
  unfolding cut_from
  cut-none f row k s e = rw e

-- the next byte of a code
pub end_kind-unpacked : (step : Rows) (row n v : ℕ) (x : Step) → 0 < n → step row (v / 16777216) ≡ x
    → end_kind step row (unpacked n v)
    ≡ end_on x (unpacked (n - 1) (v % 16777216 * 256)) (λ m. end_kind step m (unpacked (n - 1) (v % 16777216 * 256)))
unfolding unpacked
end_kind-unpacked step row zero v x h q = absurd (omega arith)
end_kind-unpacked step row (suc n) v x h q = rw sub-one (end_kind-∷ step row (v / 16777216) (unpacked n (v % 16777216 * 256)) x q)

-- m bytes were read, those from k on are a code that ends by e
pub record CutCode (step : Rows) (f row k : ℕ) (s : List ℕ) (m : ℕ) (e : EndKind) : Type 0 where
  pub some : k < m
  pub inside : m ≤ k + length s
  pub few : m ≤ k + f
  pub ends : end_kind step row (take (m - k) s) ≡ Some e

-- the laws below at one byte, by what the row says of it
on-more : (broken k : ℕ) (x : Step) (go go' : ℕ → Cut) → ((n : ℕ) → (go n ≡ Stopped cut_stop.CutShort → ⊥) → go' n ≡ go n)
    → (on_step x broken k go ≡ Stopped cut_stop.CutShort → ⊥) → on_step x broken k go' ≡ on_step x broken k go
on-more broken k Illegal go go' h c = refl
on-more broken k (Ends x) go go' h c = refl
on-more broken k (Leads n) go go' h c = h n c

short-by : (broken k f : ℕ) (s : List ℕ) (x : Step) (go : ℕ → Cut) (all : ℕ → Bool)
    → ((n : ℕ) → go n ≡ Stopped cut_stop.CutShort → (all n ≡ true) × (length s < f))
    → on_step x broken k go ≡ Stopped cut_stop.CutShort → (led_on x false all ≡ true) × (length s < f)
short-by broken k f s Illegal go all ih c = absurd (let z : ◌≡◌ {A = ℕ} 0 1 = cc in omega arith)
short-by broken k f s (Ends e) go all ih c = absurd (let z : ◌≡◌ {A = ℕ} 0 1 = cc in omega arith)
short-by broken k f s (Leads n) go all ih c = ih n c

lead-by : (broken k : ℕ) (x : Step) (go : ℕ → Cut) (all : ℕ → Bool) → ((n : ℕ) → all n ≡ true → go n ≡ Stopped cut_stop.CutShort)
    → led_on x false all ≡ true → on_step x broken k go ≡ Stopped cut_stop.CutShort
lead-by broken k Illegal go all ih c = absurd (clash c refl)
lead-by broken k (Ends e) go all ih c = absurd (clash c refl)
lead-by broken k (Leads n) go all ih c = ih n c

-- a sequence that began in the row `first`
module _ (step : Rows) (first : ℕ) where
  complete-by : (f row k b : ℕ) (s : List ℕ) (m : ℕ) (e : EndKind)
      → ((n : ℕ) → cut_from step first f n (k + 1) s ≡ Complete m e → CutCode step f n (k + 1) s m e)
      → (x : Step)
      → step row b ≡ x
      → on_step x (broken_length (step first b) k) k (λ n. cut_from step first f n (k + 1) s) ≡ Complete m e
      → CutCode step (suc f) row k (b ∷ s) m e
  complete-by f row k b s m e ih Illegal q c = absurd (let z : ◌≡◌ {A = ℕ} 0 1 = cc in omega arith)
  complete-by f row k b s m e ih (Ends y) q c =
      let u : k + 1 ≡ m = cc in
      let v : Some y ≡ Some e = cc in
      let w : m - k ≡ 1 = omega arith in
      record
      { some = omega arith; inside = omega arith; few = omega arith; ends = rw w (end_kind-∷ step row b [] (Ends y) q ∙ v) }
  complete-by f row k b s m e ih (Leads n) q c =
      let r = ih n c in
      let p = r.some in
      let w : m - k ≡ suc (m - (k + 1)) = omega arith in
      record {
        some = omega arith;
        inside = omega (arith, r.inside);
        few = omega (arith, r.few);
        ends = rw w (end_kind-∷ step row b (take (m - (k + 1)) s) (Leads n) q ∙ r.ends);
      }

  pub cut-complete : (f row k : ℕ) (s : List ℕ) (m : ℕ) (e : EndKind)
      → cut_from step first f row k s ≡ Complete m e
      → CutCode step f row k s m e
  unfolding cut_from
  cut-complete zero row k s m e c = absurd (let z : ◌≡◌ {A = ℕ} 0 1 = cc in omega arith)
  cut-complete (suc f) row k [] m e c = absurd (let z : ◌≡◌ {A = ℕ} 0 1 = cc in omega arith)
  cut-complete (suc f) row k (b ∷ s) m e c =
      complete-by f row k b s m e (λ n. cut-complete f n (k + 1) s m e) (step row b) refl
      (sym (cut_from-∷ step first f row k b s (step row b) refl) ∙ c)

  -- a code at the front is cut, whatever follows
  code_by : (f row k b : ℕ) (s t : List ℕ) (e : EndKind)
      → ((n : ℕ) → end_kind step n s ≡ Some e → cut_from step first f n (k + 1) (s ++ t) ≡ Complete (k + 1 + length s) e)
      → (x : Step)
      → step row b ≡ x
      → end_on x s (λ n. end_kind step n s) ≡ Some e
      → cut_from step first (suc f) row k (b ∷ (s ++ t)) ≡ Complete (k + suc (length s)) e
  code_by f row k b s t e ih Illegal q c = absurd (let z : ◌≡◌ {A = ℕ} 0 1 = cc in omega arith)
  code_by f row k b [] t e ih (Ends y) q c =
      let same : y ≡ e = cc in
      cut_from-∷ step first f row k b t (Ends y) q ∙ ap (λ (z : EndKind). Complete (k + 1) z) same
  code_by f row k b (a ∷ s) t e ih (Ends y) q c = absurd (let z : ◌≡◌ {A = ℕ} 0 1 = cc in omega arith)
  code_by f row k b s t e ih (Leads n) q c =
      let w : k + 1 + length s ≡ k + suc (length s) = omega arith in
      cut_from-∷ step first f row k b (s ++ t) (Leads n) q ∙ ih n c ∙ ap (λ (z : ℕ). Complete z e) w

  pub cut-code : (f row k : ℕ) (c t : List ℕ) (e : EndKind) → end_kind step row c ≡ Some e → length c ≤ f
      → cut_from step first f row k (c ++ t) ≡ Complete (k + length c) e
  unfolding end_kind
  cut-code f row k [] t e h le = absurd (let z : ◌≡◌ {A = ℕ} 0 1 = cc in omega arith)
  cut-code zero row k (b ∷ c) t e h le = absurd (omega arith)
  cut-code (suc f) row k (b ∷ c) t e h le =
      code_by f row k b c t e (λ n q. cut-code f n (k + 1) c t e q (omega arith)) (step row b) refl
      (sym (end_kind-∷ step row b c (step row b) refl) ∙ h)

  -- more input changes nothing but what was cut short
  pub cut-more : (f row k : ℕ) (s t : List ℕ) → (cut_from step first f row k s ≡ Stopped cut_stop.CutShort → ⊥)
      → cut_from step first f row k (s ++ t) ≡ cut_from step first f row k s
  unfolding cut_from
  cut-more zero row k s t h = refl
  cut-more (suc f) row k [] t h = absurd (h refl)
  cut-more (suc f) row k (b ∷ s) t h =
      let e = cut_from-∷ step first f row k b s (step row b) refl in
      cut_from-∷ step first f row k b (s ++ t) (step row b) refl
      ∙ on-more (broken_length (step first b) k) k (step row b) (λ n. cut_from step first f n (k + 1) s) (λ n. cut_from step first f n (k + 1) (s ++ t))
      (λ n. cut-more f n (k + 1) s t) (λ c. h (e ∙ c))
      ∙ sym e

  -- cut short: exactly where every byte leads on and there is room for one more
  pub cut-short-leads : (f row k : ℕ) (s : List ℕ)
      → cut_from step first f row k s ≡ Stopped cut_stop.CutShort
      → (all_lead step row s ≡ true) × (length s < f)
  unfolding cut_from all_lead
  cut-short-leads zero row k s c = absurd (let z : ◌≡◌ {A = ℕ} 0 1 = cc in omega arith)
  cut-short-leads (suc f) row k [] c = (refl, omega arith)
  cut-short-leads (suc f) row k (b ∷ s) c =
      let r =
      short-by (broken_length (step first b) k) k f s (step row b) (λ n. cut_from step first f n (k + 1) s) (λ n. all_lead step n s)
      (λ n. cut-short-leads f n (k + 1) s)
      (sym (cut_from-∷ step first f row k b s (step row b) refl) ∙ c) in
      (all_lead-∷ step row b s (step row b) refl ∙ r.0, omega (arith, r.1))

  pub leads-cut-short : (f row k : ℕ) (s : List ℕ)
      → all_lead step row s ≡ true
      → length s < f
      → cut_from step first f row k s ≡ Stopped cut_stop.CutShort
  unfolding cut_from
  leads-cut-short zero row k s a h = absurd (omega arith)
  leads-cut-short (suc f) row k [] a h = refl
  leads-cut-short (suc f) row k (b ∷ s) a h =
      cut_from-∷ step first f row k b s (step row b) refl
      ∙ lead-by (broken_length (step first b) k) k (step row b) (λ n. cut_from step first f n (k + 1) s) (λ n. all_lead step n s)
      (λ n q. leads-cut-short f n (k + 1) s q (omega arith))
      (sym (all_lead-∷ step row b s (step row b) refl) ∙ a)

-- rows that agree cut alike and end alike
on-agree : (broken broken' k : ℕ) (x : Step) (go go' : ℕ → Cut)
    → broken ≡ broken'
    → ((n : ℕ) → x ≡ Leads n → go n ≡ go' n)
    → on_step x broken k go ≡ on_step x broken' k go'
on-agree broken broken' k Illegal go go' e h = ap (λ (m : ℕ). Stopped (cut_stop.Illegal m)) e
on-agree broken broken' k (Ends y) go go' e h = refl
on-agree broken broken' k (Leads n) go go' e h = h n refl

end-agree-by : (s : List ℕ) (x : Step) (go go' : ℕ → Option EndKind)
    → ((n : ℕ) → x ≡ Leads n → go n ≡ go' n)
    → end_on x s go ≡ end_on x s go'
end-agree-by s Illegal go go' h = refl
end-agree-by s (Ends e) go go' h = refl
end-agree-by s (Leads n) go go' h = h n refl

module _ (rows : ℕ) (a c : Rows) (g : Agree rows a c) where
  pub cut-agree : (first f row k : ℕ) (s : List ℕ)
      → first < rows
      → row < rows
      → AllByte s
      → cut_from a first f row k s ≡ cut_from c first f row k s
  unfolding cut_from AllByte
  cut-agree first zero row k s there lt all = refl
  cut-agree first (suc f) row k [] there lt all = refl
  cut-agree first (suc f) row k (b ∷ s) there lt all =
      cut_from-∷ a first f row k b s (a row b) refl
      ∙ on-agree _ _ k (a row b) (λ n. cut_from a first f n (k + 1) s) (λ n. cut_from c first f n (k + 1) s)
      (ap (λ (x : Step). broken_length x k) (g.same first b there all.0))
      (λ n e. cut-agree first f n (k + 1) s there (g.stay row b n lt all.0 e) all.1)
      ∙ sym (cut_from-∷ c first f row k b s (a row b) (sym (g.same row b lt all.0)))

  pub end-agree : (row : ℕ) (s : List ℕ) → row < rows → AllByte s → end_kind a row s ≡ end_kind c row s
  unfolding end_kind AllByte
  end-agree row [] lt all = refl
  end-agree row (b ∷ s) lt all =
      end_kind-∷ a row b s (a row b) refl
      ∙ end-agree-by s (a row b) (λ n. end_kind a n s) (λ n. end_kind c n s)
      (λ n e. end-agree n s (g.stay row b n lt all.0 e) all.1)
      ∙ sym (end_kind-∷ c row b s (a row b) (sym (g.same row b lt all.0)))

-- a complete code lies in the input and has one to four bytes, whatever the states are
pub cut-within : (step : Rows)
    → (s : List ℕ) (row n : ℕ) (kind : EndKind)
    → cut_of step row s ≡ Complete n kind
    → (1 ≤ n) × (n ≤ longest) × (n ≤ length s)
cut-within step s row n kind e =
    let r = cut-complete step row longest row 0 s n kind e in
    (r.some, omega (arith, r.few), omega (arith, r.inside))
