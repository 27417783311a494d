-- Decoding against RFC 3629's table: what decodes is well formed and has that value, and what is cut short begins a well-formed sequence; both ways.
use mathlib.Core.Path.{◌≡◌, refl, sym, ap, ◌∙◌, subst}
use mathlib.Core.Logic.{inl, inr}
use Prim.Native.Nat.{ℕ, zero, suc, ◌+◌, ◌-◌, ◌*◌, ◌%◌, ◌≤◌, ◌<◌}
use mathlib.Core.List.{List, [], ◌∷◌, ◌++◌, append-nil}
use mathlib.Core.Bool.{Bool, true}
use native.Mathlib.Omega.{arith}
use borrow.Author.Tests.{ltb-true, ltb-false}
use lib.Dec.{ltb}
use lib.ListN.{take, drop, length, length-append, take-append-drop}
use lib.Seq.{length-take-le, take-append-le, take-append-add}
use Rattle.lists.specs.Order.{All, In}
use Rattle.lists.specs.Between.{between}
use Rattle.lists.proofs.Laws.{clash, and_yes, and_left, and_right}
use Rattle.lists.proofs.Cases.{pick-case, pick_yes}
use Rattle.lists.proofs.Between.{between-yes⁺, between-yes⁻}
use Rattle.utf.specs.Utf8.{lead_mark, leads, lead_of, trails_of, after_lead, decode_one}
use Rattle.utf.specs.WellFormed.{Range, from, rows, matches, any_row, well_formed, value_from, sequence_value, StartsWith, Begins}
use Rattle.utf.specs.declared.utf8.Lead.{Lead}
use Rattle.std.specs.Prelude.{Option}
use Rattle.utf.specs.declared.utf8.Sequence.{Sequence}
use Rattle.utf.specs.declared.utf8.Sequence.TheVariants.{Scalar, Stopped}
use Rattle.utf.specs.declared.utf8.Stop.TheVariants as stop
use Rattle.utf.proofs.Leads.{lead-one, lead-two, lead-e0, lead-ed, lead-three, lead-f0, lead-f4, lead-four, lead-case}
use Rattle.utf.proofs.RoundTrip.{reads-within}
use Rattle.utf.proofs.MoreInput.{NotCutShort, more-input-same, short-fills}

-- some row of a table matches: from one that does, and by cases
any-in : (row : List Range) (l : List (List Range)) (s : List ℕ) → In row l → matches row s ≡ true → any_row l s ≡ true
any-in row [] s i m = absurd i
any-in row (r ∷ l) s (inl e) m =
    pick_yes (matches r s) true (any_row l s) (subst (λ (x : List Range). matches x s ≡ true) e m)
any-in row (r ∷ l) s (inr i) m =
    pick-case (λ (t : Bool). t ≡ true) (matches r s) true (any_row l s) (λ t. refl) (λ t. any-in row l s i m)

any_out : (Q : Type 0) (l : List (List Range)) (s : List ℕ) → All (λ row. matches row s ≡ true → Q) l → any_row l s ≡ true → Q
any_out Q [] s h e = absurd (clash e refl)
any_out Q (r ∷ l) s h e =
    pick-case (λ (t : Bool). t ≡ true → Q) (matches r s) true (any_row l s) (λ t q. h.0 t) (λ t q. any_out Q l s h.1 q) e

-- the places of k trail bytes, the first from lo to hi
abbrev ranges : ℕ → ℕ → ℕ → List Range
ranges zero lo hi = []
ranges (suc k) lo hi = from lo hi ∷ ranges k 0x80 0xbf

match-length : (k lo hi : ℕ) (s : List ℕ) → matches (ranges k lo hi) s ≡ true → length s ≡ k
match-length zero lo hi [] e = refl
match-length zero lo hi (x ∷ s) e = absurd (clash e refl)
match-length (suc k) lo hi [] e = absurd (clash e refl)
match-length (suc k) lo hi (x ∷ s) e = ap suc (match-length k 0x80 0xbf s (and_right (between lo hi x) _ e))

-- trail bytes at their places are decoded, over the length
match-reads : (k lo hi v n : ℕ) (s t : List ℕ) → matches (ranges k lo hi) s ≡ true → trails_of k lo hi v n (s ++ t) ≡ Scalar (value_from v s) (n + k)
match-reads zero lo hi v n [] t e = ap (Scalar v) (omega arith)
match-reads zero lo hi v n (x ∷ s) t e = absurd (clash e refl)
match-reads (suc k) lo hi v n [] t e = absurd (clash e refl)
match-reads (suc k) lo hi v n (x ∷ s) t e =
    pick_yes (between lo hi x) _ _ (and_left (between lo hi x) _ e)
    ∙ match-reads k 0x80 0xbf (v * 64 + x % 64) (n + 1) s t (and_right (between lo hi x) _ e)
    ∙ ap (Scalar (value_from (v * 64 + x % 64) s)) (omega arith)

-- a row whose lead bytes say what its other places are
row_reads : (a z k lo hi : ℕ) (s t : List ℕ) → ((b : ℕ) → (a ≤ b) × (b ≤ z) → lead_of b ≡ leads k lo hi (b - lead_mark k))
    → matches (from a z ∷ ranges k lo hi) s ≡ true → decode_one (s ++ t) ≡ Scalar (sequence_value s) (length s)
unfolding decode_one sequence_value
row_reads a z k lo hi [] t f e = absurd (clash e refl)
row_reads a z k lo hi (b ∷ s) t f e =
    let m = and_right (between a z b) _ e in
    let w = between-yes⁻ a z b (and_left (between a z b) _ e) in
    let n = match-length k lo hi s m in
    ap (λ (l : Option Lead). after_lead l (s ++ t)) (f b w)
    ∙ match-reads k lo hi (b - lead_mark k) 1 s t m
    ∙ ap (λ (j : ℕ). Scalar (value_from (b - lead_mark j) s) (1 + j)) (sym n)
    ∙ ap (Scalar (value_from (b - lead_mark (length s)) s)) (omega arith)

-- a well-formed sequence decodes to its value, whatever bytes stand behind it
pub well-formed-decodes : (s t : List ℕ) → well_formed s ≡ true → decode_one (s ++ t) ≡ Scalar (sequence_value s) (length s)
unfolding well_formed
well-formed-decodes s t =
    any_out (decode_one (s ++ t) ≡ Scalar (sequence_value s) (length s)) rows s (
      row_reads 0x00 0x7f 0 0x80 0xbf s t (λ b h. lead-one b (omega arith)),
      (
        row_reads 0xc2 0xdf 1 0x80 0xbf s t (λ b h. lead-two b (omega arith)),
        (
          row_reads 0xe0 0xe0 2 0xa0 0xbf s t (λ b h. lead-e0 b (omega arith)),
          (
            row_reads 0xe1 0xec 2 0x80 0xbf s t (λ b h. lead-three b (omega arith, omega arith, λ e. omega arith)),
            (
              row_reads 0xed 0xed 2 0x80 0x9f s t (λ b h. lead-ed b (omega arith)),
              (
                row_reads 0xee 0xef 2 0x80 0xbf s t (λ b h. lead-three b (omega arith, omega arith, λ e. omega arith)),
                (
                  row_reads 0xf0 0xf0 3 0x90 0xbf s t (λ b h. lead-f0 b (omega arith)),
                  (
                    row_reads 0xf1 0xf3 3 0x80 0xbf s t (λ b h. lead-four b (omega arith)),
                    (
                      row_reads 0xf4 0xf4 3 0x80 0x8f s t (λ b h. lead-f4 b (omega arith)),
                      tt,
                    ),
                  ),
                ),
              ),
            ),
          ),
        ),
      ),
    )

-- trail bytes that were decoded stand at their places, over the length
record Placed (k lo hi v n : ℕ) (s : List ℕ) (c m : ℕ) : Type 0 where
  within : k ≤ length s
  match : matches (ranges k lo hi) (take k s) ≡ true
  value : value_from v (take k s) ≡ c
  count : m ≡ n + k

reads-match : (k lo hi v n : ℕ) (s : List ℕ) (c m : ℕ) → trails_of k lo hi v n s ≡ Scalar c m → Placed k lo hi v n s c m
reads-match zero lo hi v n s c m e =
    let a : v ≡ c = cc in
    let b : n ≡ m = cc in
    record { within = omega arith; match = refl; value = a; count = omega arith }
reads-match (suc k) lo hi v n [] c m e = let z : ◌≡◌ {A = ℕ} 0 1 = cc in absurd (omega arith)
reads-match (suc k) lo hi v n (x ∷ s) c m e =
    pick-case (λ (o : Sequence). o ≡ Scalar c m → Placed (suc k) lo hi v n (x ∷ s) c m) (between lo hi x) _ _
    (λ t q.
    let r = reads-match k 0x80 0xbf (v * 64 + x % 64) (n + 1) s c m q in
    record { within = omega arith; match = and_yes (between lo hi x) _ t r.match; value = r.value; count = omega arith })
    (λ t q. let z : ◌≡◌ {A = ℕ} 0 1 = cc in absurd (omega arith))
    e

reads-row : (a z k lo hi b : ℕ) (t : List ℕ) (c n : ℕ) → In (from a z ∷ ranges k lo hi) rows → (a ≤ b) × (b ≤ z)
    → after_lead (leads k lo hi (b - lead_mark k)) t ≡ Scalar c n → StartsWith (b ∷ t) c n
unfolding well_formed sequence_value
reads-row a z k lo hi b t c n i h e =
    let r = reads-match k lo hi (b - lead_mark k) 1 t c n e in
    let m : n ≡ suc k = omega arith in
    let l : length (take k t) ≡ k = length-take-le k t r.within in
    record {
      within = omega arith;
      formed = rw m (any-in (from a z ∷ ranges k lo hi) rows (b ∷ take k t) i (and_yes (between a z b) _ (between-yes⁺ a z b h.0 h.1) r.match));
      value = rw m (ap (λ (j : ℕ). value_from (b - lead_mark j) (take k t)) l ∙ r.value);
    }

decodes-starts : (s : List ℕ) (c n : ℕ) → decode_one s ≡ Scalar c n → StartsWith s c n
unfolding decode_one
decodes-starts [] c n e = let z : ◌≡◌ {A = ℕ} 0 1 = cc in absurd (omega arith)
decodes-starts (b ∷ t) c n e =
    lead-case (λ (l : Option Lead). after_lead l t ≡ Scalar c n → StartsWith (b ∷ t) c n) b
    (λ u. reads-row 0x00 0x7f 0 0x80 0xbf b t c n (inl refl) (omega arith))
    (λ u q. let z : ◌≡◌ {A = ℕ} 0 1 = cc in absurd (omega arith))
    (λ u. reads-row 0xc2 0xdf 1 0x80 0xbf b t c n (inr (inl refl)) (omega arith))
    (λ u. reads-row 0xe0 0xe0 2 0xa0 0xbf b t c n (inr (inr (inl refl))) (omega arith))
    (λ u. reads-row 0xed 0xed 2 0x80 0x9f b t c n (inr (inr (inr (inr (inl refl))))) (omega arith))
    (λ u q. pick-case (λ (x : ℕ). StartsWith (b ∷ t) c n) (ltb b 0xed) 0 0
    (λ w. reads-row 0xe1 0xec 2 0x80 0xbf b t c n (inr (inr (inr (inl refl)))) (omega (arith, ltb-true)) q)
    (λ w. reads-row 0xee 0xef 2 0x80 0xbf b t c n (inr (inr (inr (inr (inr (inl refl)))))) (omega (arith, ltb-false)) q))
    (λ u. reads-row 0xf0 0xf0 3 0x90 0xbf b t c n (inr (inr (inr (inr (inr (inr (inl refl))))))) (omega arith))
    (λ u. reads-row 0xf4 0xf4 3 0x80 0x8f b t c n (inr (inr (inr (inr (inr (inr (inr (inr (inl refl))))))))) (omega arith))
    (λ u. reads-row 0xf1 0xf3 3 0x80 0xbf b t c n (inr (inr (inr (inr (inr (inr (inr (inl refl)))))))) (omega arith))
    (λ u q. let z : ◌≡◌ {A = ℕ} 0 1 = cc in absurd (omega arith))
    e

starts-decodes : (s : List ℕ) (c n : ℕ) → StartsWith s c n → decode_one s ≡ Scalar c n
starts-decodes s c n h =
    ap decode_one (sym (take-append-drop n s))
    ∙ well-formed-decodes (take n s) (drop n s) h.formed
    ∙ ap (λ (v : ℕ). Scalar v (length (take n s))) h.value
    ∙ ap (Scalar c) (length-take-le n s h.within)

-- decoding gives c and n exactly when the first n bytes are well formed with the value c
pub decodes-well-formed : (s : List ℕ) (c n : ℕ) → (decode_one s ≡ Scalar c n → StartsWith s c n) × (StartsWith s c n → decode_one s ≡ Scalar c n)
decodes-well-formed s c n = (decodes-starts s c n, starts-decodes s c n)

-- an answer that cannot be settled is 'cut short'
is-cut-short : (o : Sequence) → (NotCutShort o → ⊥) → o ≡ Stopped stop.CutShort
is-cut-short (Scalar c n) f = absurd (f (λ e. let z : ◌≡◌ {A = ℕ} 0 1 = cc in omega arith))
is-cut-short (Stopped stop.CutShort) f = refl
is-cut-short (Stopped (stop.Illegal n)) f = absurd (f (λ e. let z : ◌≡◌ {A = ℕ} 0 1 = cc in omega arith))
is-cut-short (Stopped stop.Unassigned) f = absurd (f (λ e. let z : ◌≡◌ {A = ℕ} 0 1 = cc in omega arith))

begins-short : (s : List ℕ) → Begins s → decode_one s ≡ Stopped stop.CutShort
begins-short s g =
    is-cut-short (decode_one s)
    (λ o.
    let w = s ++ g.rest in
    let e : decode_one w ≡ Scalar (sequence_value w) (length w) = ap decode_one (sym (append-nil w)) ∙ well-formed-decodes w [] g.formed in
    let r = reads-within s (sequence_value w) (length w) (sym (more-input-same s g.rest o) ∙ e) in
    let l : length w ≡ length s + length g.rest = length-append s g.rest in
    omega (arith, r.within, g.some))

-- the sequence that fills up a beginning does not end within it
fills-beyond : (s t : List ℕ) (c n : ℕ) → decode_one s ≡ Stopped stop.CutShort → StartsWith (s ++ t) c n → length s < n
fills-beyond s t c n e h =
    pick-case (λ (x : ℕ). length s < n) (ltb (length s) n) 0 0 (λ w. ltb-true _ _ w)
    (λ w.
    let l : n ≤ length s = ltb-false _ _ w in
    let f : well_formed (take n s) ≡ true = ap well_formed (sym (take-append-le n s t l)) ∙ h.formed in
    let d : decode_one s ≡ Scalar (sequence_value (take n s)) (length (take n s)) = ap decode_one (sym (take-append-drop n s)) ∙ well-formed-decodes (take n s) (drop n s) f in
    let z : ◌≡◌ {A = ℕ} 0 1 = cc in
    absurd (omega arith))

short-begins : (s : List ℕ) → decode_one s ≡ Stopped stop.CutShort → Begins s
short-begins s e =
    let r = short-fills s e in
    let t = r.bytes in
    let n = r.size in
    let h = decodes-starts (s ++ t) r.code n r.reads in
    let b = fills-beyond s t r.code n e h in
    let j : length s + (n - length s) ≡ n = omega arith in
    let a : length (s ++ t) ≡ length s + length t = length-append s t in
    let l : length (take (n - length s) t) ≡ n - length s = length-take-le (n - length s) t (omega (arith, h.within)) in
    record {
      rest = take (n - length s) t;
      some = omega arith;
      formed = ap well_formed (sym (take-append-add s t (n - length s)) ∙ ap (λ (i : ℕ). take i (s ++ t)) j) ∙ h.formed;
    }

-- an input is cut short exactly when it is a proper beginning of a well-formed sequence
pub cut-short-begins : (s : List ℕ) → (decode_one s ≡ Stopped stop.CutShort → Begins s) × (Begins s → decode_one s ≡ Stopped stop.CutShort)
cut-short-begins s = (short-begins s, begins-short s)
