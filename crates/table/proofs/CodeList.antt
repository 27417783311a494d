-- The list of the complete codes: byte by byte, strictly rising, none beginning another, and exactly the complete codes.
use Prim.Native.Nat.{ℕ, zero, suc, ◌+◌, ◌-◌, ◌<◌, ◌≤◌}
use mathlib.Core.Path.{◌≡◌, refl, sym, subst, ◌∙◌, ap}
use mathlib.Core.Bool.{true}
use mathlib.Core.Logic.{inl, ⊎_elim}
use mathlib.Core.List.{List, [], ◌∷◌, ◌++◌, map}
use native.Mathlib.Nat.{suc-add, zero-add, add-zero, eq-or-lt_of_le}
use native.Mathlib.Omega.{arith}
use lib.ListN.{length}
use Rattle.std.specs.Prelude.{Some, None}
use Rattle.lists.specs.Pick.{pick}
use Rattle.lists.specs.Order.{All, Pairs, In, Rising, filtered}
use Rattle.lists.proofs.Order.{All-⇒, All-In⁻, All-In⁺, All-map⁺, Pairs-map⁺, In-map⁺, Rising-unique}
use Rattle.lists.proofs.Append.{All-++⁺, Pairs-++⁺, In-++ˡ, In-++ʳ}
use Rattle.table.specs.States.{Rows, end_kind, within}
use Rattle.lists.specs.Tests.{is_empty}
use Rattle.table.specs.Meaning.{flat, steps_on, steps_of}
use Rattle.table.specs.Codes.{codes_on, scan, codes_from, all_codes, packed, next_of, AllByte}
use Rattle.lists.specs.Strings.{before, after}
use Rattle.table.specs.TableK.{table_k}
use Rattle.table.specs.declared.states.Step.{Step}
use Rattle.table.specs.declared.states.Step.TheVariants.{Illegal, Ends, Leads}
use Rattle.table.proofs.Depth.{short-code}
use Rattle.lists.proofs.Filter.{filtered-append}
use Rattle.lists.proofs.Strings.{before-irrefl, before-trans, before-<, before-∷, after-map-low}
use Rattle.table.specs.declared.states.EndKind.{EndKind}

-- the codes of a byte are strings with that byte in front
abbrev rests : (ℕ → List (List ℕ)) → Step → List (List ℕ)
rests sub Illegal = []
rests sub (Ends e) = [] ∷ []
rests sub (Leads n) = sub n

on-rests : (sub : ℕ → List (List ℕ)) (b : ℕ) (x : Step) → codes_on sub b x ≡ map (λ s. b ∷ s) (rests sub x)
on-rests sub b Illegal = refl
on-rests sub b (Ends e) = refl
on-rests sub b (Leads n) = refl

-- the codes of a row, whatever the codes of the rows that it leads on to
module _ (sub : ℕ → List (List ℕ)) (step : Rows) (row : ℕ) where
  pub scan-end : (b : ℕ) → 256 ≤ b → scan sub step row (256 - b) b ≡ []
  unfolding scan
  scan-end b h = let e : 256 - b ≡ 0 = omega arith in rw e

  pub scan-more : (b : ℕ) → b < 256 → scan sub step row (256 - b) b ≡ codes_on sub b (step row b) ++ scan sub step row (256 - (b + 1)) (b + 1)
  unfolding scan
  scan-more b h =
      let e : 256 - b ≡ suc (256 - (b + 1)) = omega arith in
      ap (λ (m : ℕ). scan sub step row m b) e

  pub scan-empty : ((b : ℕ) → b < 256 → codes_on sub b (step row b) ≡ []) → (m b : ℕ) → b + m ≤ 256 → scan sub step row m b ≡ []
  unfolding scan
  scan-empty h zero b le = refl
  scan-empty h (suc m) b le = rw (h b (omega arith), scan-empty h m (b + 1) (omega arith))

  -- what holds of the codes of every byte holds of all
  pub scan-all : (P : List ℕ → Type 0) → ((b : ℕ) → b < 256 → All P (codes_on sub b (step row b))) → (m b : ℕ) → b + m ≤ 256 → All P (scan sub step row m b)
  unfolding scan
  scan-all P h zero b le = tt
  scan-all P h (suc m) b le = All-++⁺ P (codes_on sub b (step row b)) (scan sub step row m (b + 1)) (h b (omega arith)) (scan-all P h m (b + 1) (omega arith))

  in-scan : (a : ℕ) (s : List ℕ) → In s (codes_on sub a (step row a)) → (m b : ℕ) → b ≤ a → a < b + m → In s (scan sub step row m b)
  unfolding scan
  in-scan a s h zero b le lt = absurd (omega arith)
  in-scan a s h (suc m) b le lt =
      ⊎_elim
      (λ e. In-++ˡ s (codes_on sub b (step row b)) (scan sub step row m (b + 1)) (subst (λ (x : ℕ). In s (codes_on sub x (step row x))) (sym e) h))
      (λ l. In-++ʳ s (codes_on sub b (step row b)) (scan sub step row m (b + 1)) (in-scan a s h m (b + 1) (omega arith) (omega arith)))
      (eq-or-lt_of_le le)

  -- all come after a string with a lower first byte, and after the beginning
  pub scan-above : (a : ℕ) (p : List ℕ) (m b : ℕ) → a < b → All (λ s. before (a ∷ p) s ≡ true) (scan sub step row m b)
  unfolding scan
  scan-above a p zero b h = tt
  scan-above a p (suc m) b h =
      All-++⁺ (λ s. before (a ∷ p) s ≡ true) (codes_on sub b (step row b)) (scan sub step row m (b + 1))
      (rw (on-rests sub b (step row b)) (All-map⁺ (λ s. b ∷ s) (λ s. before (a ∷ p) s ≡ true) (rests sub (step row b)) (All-In⁺ (rests sub (step row b)) (λ s i. before-< a b p s h))))
      (scan-above a p m (b + 1) (omega arith))

  pub scan-start : (m b : ℕ) → All (λ s. before [] s ≡ true) (scan sub step row m b)
  unfolding scan before
  scan-start zero b = tt
  scan-start (suc m) b =
      All-++⁺ (λ s. before [] s ≡ true) (codes_on sub b (step row b)) (scan sub step row m (b + 1))
      (rw (on-rests sub b (step row b)) (All-map⁺ (λ s. b ∷ s) (λ s. before [] s ≡ true) (rests sub (step row b)) (All-In⁺ (rests sub (step row b)) (λ s i. refl))))
      (scan-start m (b + 1))

  -- after a string that begins with a, the codes of lower bytes are left out
  pub scan-low : (a : ℕ) (p : List ℕ) (k m b : ℕ) → b + k ≡ a → after (a ∷ p) (scan sub step row (k + m) b) ≡ after (a ∷ p) (scan sub step row m a)
  unfolding scan
  scan-low a p zero m b h = rw (zero-add m, sym h, add-zero b)
  scan-low a p (suc k) m b h =
      rw (suc-add k m)
      (filtered-append (before (a ∷ p)) (codes_on sub b (step row b)) (scan sub step row (k + m) (b + 1))
      ∙ rw (on-rests sub b (step row b), after-map-low a b p (omega arith)) (scan-low a p k m (b + 1) (omega arith)))

  rising-scan : ((n : ℕ) → Rising before (sub n)) → (m b : ℕ) → Rising before (scan sub step row m b)
  unfolding scan before
  rising-scan h zero b = tt
  rising-scan h (suc m) b =
      Pairs-++⁺ (λ x y. before x y ≡ true) (codes_on sub b (step row b)) (scan sub step row m (b + 1))
      (rw (on-rests sub b (step row b)) (Pairs-map⁺ (λ s. b ∷ s) (λ x y. before x y ≡ true) (rests sub (step row b)) (under (step row b))))
      (rising-scan h m (b + 1))
      (rw (on-rests sub b (step row b)) (All-map⁺ (λ s. b ∷ s) (λ x. All (λ y. before x y ≡ true) (scan sub step row m (b + 1))) (rests sub (step row b)) (All-In⁺ (rests sub (step row b)) (λ s i. scan-above b s m (b + 1) (omega arith)))))
    where
      under : (x : Step) → Pairs (λ s t. before (b ∷ s) (b ∷ t) ≡ true) (rests sub x)
      under Illegal = tt
      under (Ends e) = (tt, tt)
      under (Leads n) = rises (sub n) (h n)
        where
          rises : (l : List (List ℕ)) → Rising before l → Pairs (λ s t. before (b ∷ s) (b ∷ t) ≡ true) l
          rises [] r = tt
          rises (s ∷ l) r = (All-⇒ (λ t e. before-∷ b s t ∙ e) l r.0, rises l r.1)

-- rows of which a byte at a time says the same have the same codes
pub scan-ext : (sub other : ℕ → List (List ℕ)) (step steps : Rows) (row : ℕ) → ((b : ℕ) → b < 256 → codes_on sub b (step row b) ≡ codes_on other b (steps row b))
    → (m b : ℕ) → b + m ≤ 256 → scan sub step row m b ≡ scan other steps row m b
unfolding scan
scan-ext sub other step steps row h zero b le = refl
scan-ext sub other step steps row h (suc m) b le = rw (h b (omega arith), scan-ext sub other step steps row h m (b + 1) (omega arith))

-- the complete codes rise strictly
pub rising-codes : (step : Rows) (f row : ℕ) → Rising before (codes_from step f row)
unfolding codes_from
rising-codes step zero row = tt
rising-codes step (suc f) row = rising-scan (codes_from step f) step row (rising-codes step f) 256 0

-- a property of codes that goes back from a row led to
codes-by : (step : Rows) (P : ℕ → ℕ → List ℕ → Type 0)
    → ((f row b : ℕ) (e : EndKind) → b < 256 → step row b ≡ Ends e → P (suc f) row (b ∷ []))
    → ((f row b n : ℕ) (s : List ℕ) → b < 256 → step row b ≡ Leads n → P f n s → P (suc f) row (b ∷ s))
    → (f row : ℕ) → All (P f row) (codes_from step f row)
unfolding codes_from
codes-by step P one more zero row = tt
codes-by step P one more (suc f) row = scan-all (codes_from step f) step row (P (suc f) row) (λ b h. go (codes-by step P one more f) b h (step row b) refl) 256 0 (omega arith)
  where
    go : ((n : ℕ) → All (P f n) (codes_from step f n)) → (b : ℕ) → b < 256 → (x : Step) → step row b ≡ x → All (P (suc f) row) (codes_on (codes_from step f) b x)
    go ih b h Illegal q = tt
    go ih b h (Ends e) q = (one f row b e h q, tt)
    go ih b h (Leads n) q = All-map⁺ (λ s. b ∷ s) (P (suc f) row) (codes_from step f n) (All-⇒ (λ s p. more f row b n s h q p) (codes_from step f n) (ih n))

-- 1 to f bytes
pub record Bytes (f : ℕ) (s : List ℕ) : Type 0 where
  pub bytes : AllByte s
  pub some : 1 ≤ length s
  pub short : length s ≤ f

pub codes-bytes : (step : Rows) (f row : ℕ) → All (Bytes f) (codes_from step f row)
unfolding AllByte
codes-bytes step =
    codes-by step (λ f row. Bytes f)
    (λ f row b e h q. record { bytes = (h, tt); some = omega arith; short = omega arith })
    (λ f row b n s h q p. record { bytes = (h, p.bytes); some = omega arith; short = omega (arith, p.short) })

-- how a string ends, by what the row says of its first byte
end-kind-at : (step : Rows) (row b : ℕ) (s : List ℕ) (x : Step) → step row b ≡ x
    → end_kind step row (b ∷ s) ≡ elim x [ Illegal ↦ None | Ends e ↦ pick (is_empty s) (Some e) None | Leads n ↦ end_kind step n s ]
unfolding end_kind
end-kind-at step row b s x q = rw (q, end_kind)

-- what is listed is a complete code of 1 to f bytes
pub record CompleteCode (step : Rows) (f row : ℕ) (s : List ℕ) : Type 0 where
  pub ends : end_kind step row s ≡ None → ⊥
  pub bytes : AllByte s
  pub some : 1 ≤ length s
  pub short : length s ≤ f

pub codes-are-codes : (step : Rows) → (f row : ℕ) → All (CompleteCode step f row) (codes_from step f row)
unfolding AllByte
codes-are-codes step =
    codes-by step (CompleteCode step)
    (λ f row b e h q. record { ends = λ z. let w : Some e ≡ None = sym (end-kind-at step row b [] (Ends e) q) ∙ z in let u : ◌≡◌ {A = ℕ} 0 1 = cc in omega arith; bytes = (h, tt); some = omega arith; short = omega arith })
    (λ f row b n s h q p. record { ends = λ z. p.ends (sym (end-kind-at step row b s (Leads n) q) ∙ z); bytes = (h, p.bytes); some = omega arith; short = omega (arith, p.short) })

-- every complete code of at most f bytes is listed
pub codes_all : (step : Rows) (f row : ℕ) (s : List ℕ) → AllByte s → length s ≤ f → (end_kind step row s ≡ None → ⊥) → In s (codes_from step f row)
unfolding codes_from AllByte end_kind
codes_all step f row [] a le c = absurd (c refl)
codes_all step zero row (b ∷ s) a le c = absurd (omega arith)
codes_all step (suc f) row (b ∷ s) a le c = in-scan (codes_from step f) step row b (b ∷ s) (go s (λ n. codes_all step f n s a.1 (omega arith)) c (step row b) refl) 256 0 (omega arith) (omega (arith, a.0))
  where
    go : (t : List ℕ) → ((n : ℕ) → (end_kind step n t ≡ None → ⊥) → In t (codes_from step f n)) → (end_kind step row (b ∷ t) ≡ None → ⊥) → (x : Step) → step row b ≡ x → In (b ∷ t) (codes_on (codes_from step f) b x)
    go t ih c Illegal q = absurd (c (end-kind-at step row b t Illegal q))
    go [] ih c (Ends e) q = inl refl
    go (a ∷ t) ih c (Ends e) q = absurd (c (end-kind-at step row b (a ∷ t) (Ends e) q))
    go t ih c (Leads n) q = In-map⁺ (λ s. b ∷ s) t (codes_from step f n) (ih n (λ z. c (end-kind-at step row b t (Leads n) q ∙ z)))

-- where T3 holds the bound of four bytes leaves no complete code out
pub codes-whole : (step : Rows) (d row : ℕ) (s : List ℕ) → within step d row ≡ true → d ≤ 4 → AllByte s → (end_kind step row s ≡ None → ⊥) → In s (all_codes step row)
codes-whole step d row s w le a c = let h = short-code step d row s w a c in codes_all step 4 row s a (omega arith) c

-- no complete code begins another
pub code-alone : (step : Rows) (row : ℕ) (s t : List ℕ) → (end_kind step row s ≡ None → ⊥) → (end_kind step row (s ++ t) ≡ None → ⊥) → t ≡ []
unfolding end_kind
code-alone step row [] t c d = absurd (c refl)
code-alone step row (b ∷ s) t c d = go (step row b) refl (λ n. code-alone step n s t)
  where
    one : (e : EndKind) (u : List ℕ) → step row b ≡ Ends e → (end_kind step row (b ∷ u) ≡ None → ⊥) → (end_kind step row (b ∷ (u ++ t)) ≡ None → ⊥) → t ≡ []
    one e [] q c d = nil t d
      where
        nil : (v : List ℕ) → (end_kind step row (b ∷ v) ≡ None → ⊥) → v ≡ []
        nil [] d = refl
        nil (x ∷ v) d = absurd (d (end-kind-at step row b (x ∷ v) (Ends e) q))
    one e (x ∷ u) q c d = absurd (c (end-kind-at step row b (x ∷ u) (Ends e) q))

    go : (x : Step) → step row b ≡ x → ((n : ℕ) → (end_kind step n s ≡ None → ⊥) → (end_kind step n (s ++ t) ≡ None → ⊥) → t ≡ []) → t ≡ []
    go Illegal q ih = absurd (c (end-kind-at step row b s Illegal q))
    go (Ends e) q ih = one e s q c d
    go (Leads n) q ih = ih n (λ z. c (end-kind-at step row b s (Leads n) q ∙ z)) (λ z. d (end-kind-at step row b (s ++ t) (Leads n) q ∙ z))

-- of two different members neither begins the other
pub prefix-free : (step : Rows) → (f row : ℕ) (s t : List ℕ) → In s (codes_from step f row) → In (s ++ t) (codes_from step f row) → t ≡ []
prefix-free step f row s t i j =
    let all = codes-are-codes step f row in
    code-alone step row s t (All-In⁻ (CompleteCode step f row) s (codes_from step f row) all i).ends (All-In⁻ (CompleteCode step f row) (s ++ t) (codes_from step f row) all j).ends

-- any rising list of exactly the complete codes of at most four bytes is the list of the complete codes
pub the-list : (step : Rows) → (row : ℕ) (l : List (List ℕ)) → Rising before l
    → ((s : List ℕ) → In s l → CompleteCode step 4 row s) → ((s : List ℕ) → CompleteCode step 4 row s → In s l) → l ≡ all_codes step row
the-list step row l r f g =
    Rising-unique before before-irrefl before-trans l (all_codes step row) r (rising-codes step 4 row)
    (λ s i. let c = f s i in codes_all step 4 row s c.bytes c.short c.ends)
    (λ s i. g s (All-In⁻ (CompleteCode step 4 row) s (all_codes step row) (codes-are-codes step 4 row) i))

-- rows below the limit lead on to such rows alone
abbrev pub LeadsInside : (rows : ℕ) → Rows → Type 0
LeadsInside rows step = (r b n : ℕ) → r < rows → b < 256 → step r b ≡ Leads n → n < rows

-- rows that agree below the limit have the same codes
pub codes-agree : (rows : ℕ) (step steps : Rows) → LeadsInside rows step → ((r b : ℕ) → r < rows → b < 256 → step r b ≡ steps r b) → (f row : ℕ) → row < rows → codes_from step f row ≡ codes_from steps f row
unfolding codes_from
codes-agree rows step steps inside same zero row lt = refl
codes-agree rows step steps inside same (suc f) row lt =
    scan-ext (codes_from step f) (codes_from steps f) step steps row
    (λ b h. go b (codes-agree rows step steps inside same f) (step row b) (λ n q. inside row b n lt h q) ∙ ap (codes_on (codes_from steps f) b) (same row b lt h)) 256 0 (omega arith)
  where
    go : (b : ℕ) → ((n : ℕ) → n < rows → codes_from step f n ≡ codes_from steps f n) → (x : Step) → ((n : ℕ) → x ≡ Leads n → n < rows) → codes_on (codes_from step f) b x ≡ codes_on (codes_from steps f) b x
    go b ih Illegal i = refl
    go b ih (Ends e) i = refl
    go b ih (Leads n) i = ap (map (λ s. b ∷ s)) (ih n (i n refl))

-- document 01's table K: row 0 has 2d, 30, 33, 3f and leads on from 81; row 1 has 7c, 7d and, unassigned, 80
k-codes : (length (all_codes (steps_of table_k) 0) ≡ 7)
    × (next_of (steps_of table_k) 0 [] ≡ Some (record { bits = 0x2d000000; len = 1 }))
    × (next_of (steps_of table_k) 0 (0x81 ∷ 0x7d ∷ []) ≡ Some (record { bits = 0x81800000; len = 2 }))
    × (next_of (steps_of table_k) 0 (0x81 ∷ 0x80 ∷ []) ≡ None)
unfolding table_k flat steps_on codes_from scan filtered before packed
k-codes = (refl, refl, refl, refl)
