-- The lines of a text are those that the grammar says, and no others.
use Prim.Native.Nat.{ℕ, ◌≤◌}
use mathlib.Core.Path.{◌≡◌, refl, sym, ap, ◌∙◌, subst}
use mathlib.Core.Logic.{inl, inr, ◌↔◌}
use mathlib.Core.List.{List, [], ◌∷◌, ◌++◌}
use mathlib.Core.Bool.{true, false}
use native.Mathlib.Omega.{arith}
use lib.ListN.{length}
use lib.Dec.{eqb}
use borrow.Author.Tests.{ne_eqb, eqb-true, eqb-false}
use Rattle.lists.specs.Pick.{pick}
use Rattle.lists.specs.Order.{All}
use Rattle.lists.proofs.Cases.{pick-case}
use Rattle.lists.proofs.Choice.{pick-false-false}
use Rattle.lists.proofs.Laws.{clash, and_left, and_right}
use Rattle.table.specs.Text.{cr_before, lines_of}
use Rattle.lists.specs.Strings.{onto}
use Rattle.table.specs.Grammar.{EndsPlain, WithEnd, Lines}
use Rattle.table.proofs.LinesLaws.{lines_none}

-- no CR that belongs to an end
not-ten : (b d : ℕ) (r : List ℕ) → (d ≡ 10 → ⊥) → cr_before b (d ∷ r) ≡ false
unfolding cr_before
not-ten b d r n = rw (ne_eqb d 10 n, pick-false-false (eqb b 13))

line-lf : (l t : List ℕ) → All (λ b. b ≡ 10 → ⊥) l → EndsPlain l → lines_of (l ++ (10 ∷ t)) ≡ l ∷ lines_of t
unfolding lines_of onto cr_before
line-lf [] t a p = refl
line-lf (b ∷ []) t a p = rw (ne_eqb b 10 a.0, ne_eqb b 13 p)
line-lf (b ∷ d ∷ l) t a p = rw (ne_eqb b 10 a.0, not-ten b d (l ++ (10 ∷ t)) a.1.0, line-lf (d ∷ l) t a.1 p)

line-crlf : (l t : List ℕ) → All (λ b. b ≡ 10 → ⊥) l → lines_of (l ++ (13 ∷ 10 ∷ t)) ≡ l ∷ lines_of t
unfolding lines_of onto cr_before
line-crlf [] t a = refl
line-crlf (b ∷ []) t a = rw (ne_eqb b 10 a.0, not-ten b 13 (10 ∷ t) (λ e. omega arith))
line-crlf (b ∷ d ∷ l) t a = rw (ne_eqb b 10 a.0, not-ten b d (l ++ (13 ∷ 10 ∷ t)) a.1.0, line-crlf (d ∷ l) t a.1)

line-last : (l : List ℕ) → All (λ b. b ≡ 10 → ⊥) l → 1 ≤ length l → lines_of l ≡ l ∷ []
unfolding lines_of onto cr_before
line-last [] a some = absurd (omega arith)
line-last (b ∷ []) a some = rw (ne_eqb b 10 a.0)
line-last (b ∷ d ∷ l) a some = rw (ne_eqb b 10 a.0, not-ten b d l a.1.0, line-last (d ∷ l) a.1 (omega arith))

line_first : (l s t : List ℕ) → All (λ b. b ≡ 10 → ⊥) l → WithEnd l s t → lines_of s ≡ l ∷ lines_of t
line_first l s t a (inl (e, p)) = ap lines_of e ∙ line-lf l t a p
line_first l s t a (inr (inl e)) = ap lines_of e ∙ line-crlf l t a
line_first l s t a (inr (inr (e, k, some))) =
    ap lines_of e ∙ line-last l a some ∙ ap (λ (r : List (List ℕ)). l ∷ r) (sym (ap lines_of k ∙ lines_none))

-- a text of these lines is read as them
pub lines-reads : (ls : List (List ℕ)) (s : List ℕ) → Lines ls s → lines_of s ≡ ls
lines-reads [] s e = ap lines_of e ∙ lines_none
lines-reads (l ∷ ls) s (t, a, e, r) = line_first l s t a e ∙ ap (λ (x : List (List ℕ)). l ∷ x) (lines-reads ls t r)

-- one byte more before the first line
plain_more : (b : ℕ) (l t : List ℕ) → cr_before b (l ++ (10 ∷ t)) ≡ false → EndsPlain l → EndsPlain (b ∷ l)
unfolding cr_before
plain_more b [] t c p = λ e. clash (rw e) c
plain_more b (d ∷ l) t c p = p

ended-more : (b : ℕ) (l s t : List ℕ) → cr_before b s ≡ false → WithEnd l s t → WithEnd (b ∷ l) (b ∷ s) t
ended-more b l s t c (inl (e, p)) = inl (ap (λ (x : List ℕ). b ∷ x) e, plain_more b l t (sym (ap (cr_before b) e) ∙ c) p)
ended-more b l s t c (inr (inl e)) = inr (inl (ap (λ (x : List ℕ). b ∷ x) e))
ended-more b l s t c (inr (inr (e, k, some))) = inr (inr (ap (λ (x : List ℕ). b ∷ x) e, k, omega arith))

lines-onto : (b : ℕ) (s : List ℕ) (ls : List (List ℕ)) → (b ≡ 10 → ⊥) → cr_before b s ≡ false → Lines ls s → Lines (onto b ls) (b ∷ s)
unfolding onto
lines-onto b s [] n c e = ([], (n, tt), inr (inr (ap (λ (x : List ℕ). b ∷ x) e, refl, omega arith)), refl)
lines-onto b s (l ∷ ls) n c (t, a, e, r) = (t, (n, a), ended-more b l s t c e, r)

ten-lines : (d : ℕ) (s : List ℕ) → d ≡ 10 → lines_of (d ∷ s) ≡ [] ∷ lines_of s
unfolding lines_of
ten-lines d s e = rw e

cr-is : (b d : ℕ) (s : List ℕ) → cr_before b (d ∷ s) ≡ true → (b ≡ 13) × (d ≡ 10)
unfolding cr_before
cr-is b d s e = (eqb-true b 13 (and_left (eqb b 13) (eqb d 10) e), eqb-true d 10 (and_right (eqb b 13) (eqb d 10) e))

line-cr : (b d : ℕ) (s : List ℕ) → (b ≡ 13) × (d ≡ 10) → Lines (lines_of s) s → Lines (lines_of (d ∷ s)) (b ∷ d ∷ s)
line-cr b d s (e, k) h =
    subst (λ (ls : List (List ℕ)). Lines ls (b ∷ d ∷ s)) (sym (ten-lines d s k))
    (s, tt, inr (inl (ap (λ (x : ℕ). x ∷ d ∷ s) e ∙ ap (λ (x : ℕ). 13 ∷ x ∷ s) k)), h)

line-ten : (b : ℕ) (s : List ℕ) → b ≡ 10 → Lines (lines_of s) s → Lines ([] ∷ lines_of s) (b ∷ s)
line-ten b s e h = (s, tt, inl (ap (λ (x : ℕ). x ∷ s) e, tt), h)

line-more : (b d : ℕ) (s : List ℕ) → Lines (lines_of (d ∷ s)) (d ∷ s) → Lines (lines_of s) s
    → Lines (pick (eqb b 10) ([] ∷ lines_of (d ∷ s)) (pick (cr_before b (d ∷ s)) (lines_of (d ∷ s)) (onto b (lines_of (d ∷ s))))) (b ∷ d ∷ s)
line-more b d s h k =
    pick-case P (eqb b 10) _ _ (λ e. line-ten b (d ∷ s) (eqb-true b 10 e) h)
    (λ n. pick-case P (cr_before b (d ∷ s)) _ _ (λ c. line-cr b d s (cr-is b d s c) k)
    (λ c. lines-onto b (d ∷ s) (lines_of (d ∷ s)) (eqb-false b 10 n) c h))
  where
    P : List (List ℕ) → Type 0
    P ls = Lines ls (b ∷ d ∷ s)

-- the lines that are read are lines of the text
pub lines-written : (s : List ℕ) → Lines (lines_of s) s
unfolding lines_of cr_before
lines-written [] = refl
lines-written (b ∷ []) =
    pick-case (λ (ls : List (List ℕ)). Lines ls (b ∷ [])) (eqb b 10) ([] ∷ []) (onto b [])
    (λ e. line-ten b [] (eqb-true b 10 e) refl) (λ n. lines-onto b [] [] (eqb-false b 10 n) refl refl)
lines-written (b ∷ d ∷ s) = line-more b d s (lines-written (d ∷ s)) (lines-written s)

-- which lines a text has
pub lines-iff : (s : List ℕ) (ls : List (List ℕ)) → (lines_of s ≡ ls) ↔ Lines ls s
lines-iff s ls = (λ e. subst (λ (x : List (List ℕ)). Lines x s) e (lines-written s), lines-reads ls s)
