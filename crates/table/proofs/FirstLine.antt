-- What a refusal says: the first line at which a condition holds is named, counting from 1, with the lowest number that holds there;
-- 27 names the line count plus 1.
-- conditions-rise      the conditions at a line are in the order of their numbers
-- first-line-lowest    a refusal names the first line at which a condition holds, and the lowest that does, or no line ends the table
-- refused-exactly      and is given exactly then
-- accepted-no-condition       accepted exactly when no condition holds at any line and END CHARMAP came
-- Cited by docs/RULES.md: first-line-lowest, refused-exactly, accepted-no-condition. Assumes nothing.
use Rattle.std.specs.Prelude.{Some, None}
use Rattle.table.specs.Header.{ReadLine}
use Rattle.std.specs.Prelude.{Ok, Err}
use Prim.Native.Nat.{ℕ, suc, ◌+◌}
use mathlib.Core.Path.{◌≡◌, refl, sym, ap, subst, ◌∙◌}
use mathlib.Core.Logic.{◌⊎◌, inl, inr, ◌↔◌}
use mathlib.Core.List.{List, [], ◌∷◌, ◌++◌, append-nil}
use native.Mathlib.Omega.{arith}
use lib.ListN.{length}
use Rattle.lists.specs.Order.{Rising}
use Rattle.table.specs.Limits.{Limits}
use Rattle.table.specs.Cells.{Cell}
use Rattle.table.specs.Meaning.{Line, Table}
use Rattle.table.specs.Text.{lines_of}
use Rattle.table.specs.Header.{header_line_of}
use Rattle.table.specs.Mapping.{BodyLine, no_form, reserved, blank, ending, mapping, body_line_of, after_end_of}
use Rattle.table.specs.Numbers.{lowest, behind_conditions, Verdict}
use Rattle.table.specs.Load.{Reading, goes_on, judged, line_as, header_asks, mapping_asks, last_asks, phase_asks, line_step, table_of, accepted, refused, outcome_at, load_go, start, load_of}
use Rattle.table.specs.FirstLine.{conditions_at, reading_after, reading_after_all, NoCondition, FirstHolds, NeverEnds, Unrefused}
use Rattle.table.specs.Keys.{Keys}
use Rattle.table.specs.declared.header.HeaderLine.TheVariants as header
use Rattle.table.specs.declared.load.Refusal.{Refusal}
use Rattle.table.specs.declared.load.Refusal.TheVariants as refusal
use Rattle.table.specs.declared.load.Phase.{Phase}
use Rattle.table.specs.declared.load.Phase.TheVariants.{Header, Mappings, Ended}
use Rattle.table.proofs.LowestLaws.{by_number, key-rises, charmap-rises, mapping-rises, lowest-fine, fine-lowest, lowest-holds, holds-lowest}
use Rattle.table.proofs.Accepted.{refused-accepted, accepted-injective, stop-outcome}
use mathlib.Core.Bool.{Bool, true, false}

form-rises : (ended : Bool) (x : BodyLine) → Rising by_number (behind_conditions ended x)
form-rises ended x = ((refl, tt), (tt, tt))

last-rises : (h : Keys) (rows : List (List Cell)) (ls : List Line) (x : BodyLine)
    → Rising by_number (last_asks h rows ls x).conditions
last-rises h rows ls x = form-rises true x

not-ended : (k : ℕ) (r : Reading) (p : Phase) → (p ≡ Ended → ⊥) → outcome_at k r p ≡ refused refusal.NoEnd (k + 1)
unfolding outcome_at
not-ended k r Header n = refl
not-ended k r Mappings n = refl
not-ended k r Ended n = absurd (n refl)

has_ended : (p : Phase) → (p ≡ Ended) ⊎ (p ≡ Ended → ⊥)
has_ended Header = inr (λ e. let z : ◌≡◌ {A = ℕ} 0 1 = cc in omega arith)
has_ended Mappings = inr (λ e. let z : ◌≡◌ {A = ℕ} 0 1 = cc in omega arith)
has_ended Ended = inl refl

refused-same : (x y : Refusal) (k n : ℕ) → refused x k ≡ refused y n → (x ≡ y) × (k ≡ n)
refused-same x y k n e = (cc, cc)

-- at every line none holds, or there is a first one that is refused
record Stops (lim : Limits) (r : Reading) (ls : List (List ℕ)) : Type 0 where
  earlier : List (List ℕ)
  line : List ℕ
  later : List (List ℕ)
  refusal : Refusal
  lines_are : ls ≡ earlier ++ line ∷ later
  no-condition : NoCondition lim r earlier
  verdict : lowest (conditions_at lim (reading_after_all lim r earlier) line) ≡ Err refusal

-- one of the three holds of every text
data Cases (lim : Limits) (ls : List (List ℕ)) : Type 0 where
  first : (x : Refusal) (k : ℕ) → FirstHolds lim ls x k → Cases lim ls
  never : (x : Refusal) (k : ℕ) → NeverEnds lim ls x k → Cases lim ls
  ends : (t : Table) → Unrefused lim ls t → Cases lim ls

module _ (lim : Limits) where
  -- every table of conditions rises by number
  header-rises : (h : Keys) (rows : List (List Cell)) (s : List ℕ) (x : ReadLine)
      → Rising by_number (header_asks lim h rows s x).conditions
  header-rises h rows s None = (tt, tt)
  header-rises h rows s (Some header.Blank) = (tt, tt)
  header-rises h rows s (Some header.Charmap) = charmap-rises h rows
  header-rises h rows s (Some (header.Known k v q e)) = key-rises lim h (length rows) k v

  mapping-line-rises : (h : Keys) (rows : List (List Cell)) (ls : List Line) (x : BodyLine)
      → Rising by_number (mapping_asks lim h rows ls x).conditions
  mapping-line-rises h rows ls no_form = form-rises false no_form
  mapping-line-rises h rows ls reserved = form-rises false reserved
  mapping-line-rises h rows ls blank = form-rises false blank
  mapping-line-rises h rows ls ending = (tt, tt)
  mapping-line-rises h rows ls (mapping u c d) = mapping-rises lim h rows ls (line_as u c d)

  phase-rises : (p : Phase) (h : Keys) (rows : List (List Cell)) (ls : List Line) (s : List ℕ)
      → Rising by_number (phase_asks lim p h rows ls s).conditions
  phase-rises Header h rows ls s = header-rises h rows s (header_line_of s)
  phase-rises Mappings h rows ls s = mapping-line-rises h rows ls (body_line_of s)
  phase-rises Ended h rows ls s = last-rises h rows ls (after_end_of s)

  pub conditions-rise : (r : Reading) (s : List ℕ) → Rising by_number (conditions_at lim r s)
  conditions-rise r s = phase-rises r.phase r.head r.rows r.lines s

  -- lines at which none holds are passed
  no-condition-go : (ls rest : List (List ℕ)) (k : ℕ) (r : Reading)
      → NoCondition lim r ls
      → load_go lowest lim k (ls ++ rest) (goes_on r) ≡ load_go lowest lim (k + length ls) rest (goes_on (reading_after_all lim r ls))
  unfolding load_go reading_after_all
  no-condition-go [] rest k r q = let e : k ≡ k + 0 = omega arith in ap (λ (n : ℕ). load_go lowest lim n rest (goes_on r)) e
  no-condition-go (l ∷ ls) rest k r q =
      let s : line_step lowest lim r l ≡ goes_on (reading_after lim r l) =
      ap (λ (v : Verdict). judged v (reading_after lim r l)) (fine-lowest (conditions_at lim r l) q.0) in
      let e : k + 1 + length ls ≡ k + suc (length ls) = omega arith in
      ap (load_go lowest lim (k + 1) (ls ++ rest)) s ∙ no-condition-go ls rest (k + 1) (reading_after lim r l) q.1
      ∙ ap (λ (n : ℕ). load_go lowest lim n rest (goes_on (reading_after_all lim (reading_after lim r l) ls))) e

  -- the line that is named
  line-go : (line : List ℕ) (later : List (List ℕ)) (k : ℕ) (r : Reading) (x : Refusal)
      → lowest (conditions_at lim r line) ≡ Err x
      → load_go lowest lim k (line ∷ later) (goes_on r) ≡ refused x (k + 1)
  unfolding load_go
  line-go line later k r x e =
      ap (load_go lowest lim (k + 1) later) (ap (λ (v : Verdict). judged v (reading_after lim r line)) e)
      ∙ stop-outcome lowest lim (k + 1) later x

  decide : (ls : List (List ℕ)) (r : Reading) → NoCondition lim r ls ⊎ Stops lim r ls
  unfolding reading_after_all
  decide [] r = inl tt
  decide (l ∷ ls) r = go (lowest (conditions_at lim r l)) refl (decide ls (reading_after lim r l))
    where
      go : (v : Verdict)
          → lowest (conditions_at lim r l) ≡ v
          → NoCondition lim (reading_after lim r l) ls ⊎ Stops lim (reading_after lim r l) ls
          → NoCondition lim r (l ∷ ls) ⊎ Stops lim r (l ∷ ls)
      go (Ok tt) e (inl q) = inl (lowest-fine (conditions_at lim r l) e, q)
      go (Ok tt) e (inr s) =
          inr (record {
            earlier = l ∷ s.earlier;
            line = s.line;
            later = s.later;
            refusal = s.refusal;
            lines_are = ap (λ (m : List (List ℕ)). l ∷ m) s.lines_are;
            no-condition = (lowest-fine (conditions_at lim r l) e, s.no-condition);
            verdict = s.verdict;
          })
      go (Err x) e d =
          inr (record { earlier = []; line = l; later = ls; refusal = x; lines_are = refl; no-condition = tt; verdict = e })

  stops_first : (ls : List (List ℕ)) (s : Stops lim start ls) → FirstHolds lim ls s.refusal (length s.earlier + 1)
  stops_first ls s =
      let r = reading_after_all lim start s.earlier in
      record {
        earlier = s.earlier;
        line = s.line;
        later = s.later;
        lines_are = s.lines_are;
        counted = refl;
        no-condition = s.no-condition;
        named = lowest-holds s.refusal (conditions_at lim r s.line) (conditions-rise r s.line) s.verdict;
      }

  cases_of : (ls : List (List ℕ)) → Cases lim ls
  cases_of ls = go (decide ls start)
    where
      all : NoCondition lim start ls
          → ((reading_after_all lim start ls).phase ≡ Ended) ⊎ ((reading_after_all lim start ls).phase ≡ Ended → ⊥)
          → Cases lim ls
      all q (inl e) = ends (table_of (reading_after_all lim start ls)) (record { no-condition = q; ended = e; table = refl })
      all q (inr n) =
          never refusal.NoEnd (length ls + 1) (record { number = refl; counted = refl; no-condition = q; unended = n })

      go : NoCondition lim start ls ⊎ Stops lim start ls → Cases lim ls
      go (inl q) = all q (has_ended (reading_after_all lim start ls).phase)
      go (inr s) = first s.refusal (length s.earlier + 1) (stops_first ls s)

  module _ (text : List ℕ) where
    -- what is read when all lines are
    abbrev at_end : Reading
    at_end = reading_after_all lim start (lines_of text)

    -- each of the three gives its outcome
    first-outcome : (x : Refusal) (k : ℕ) → FirstHolds lim (lines_of text) x k → load_of lim text ≡ refused x k
    unfolding load_of
    first-outcome x k f =
        let r = reading_after_all lim start f.earlier in
        ap (λ (ls : List (List ℕ)). load_go lowest lim 0 ls (goes_on start)) f.lines_are
        ∙ no-condition-go f.earlier (f.line ∷ f.later) 0 start f.no-condition
        ∙ line-go f.line f.later (0 + length f.earlier) r x
        (holds-lowest x (conditions_at lim r f.line) (conditions-rise r f.line) f.named)
        ∙ ap (refused x) (let c = f.counted in omega arith)

    -- the outcome behind all lines
    whole-go : NoCondition lim start (lines_of text)
        → load_of lim text ≡ outcome_at (length (lines_of text)) (at_end) at_end.phase
    unfolding load_of load_go
    whole-go q =
        let ls = lines_of text in
        let e : 0 + length ls ≡ length ls = omega arith in
        ap (λ (m : List (List ℕ)). load_go lowest lim 0 m (goes_on start)) (sym (append-nil ls)) ∙ no-condition-go ls [] 0 start q
        ∙ ap (λ (n : ℕ). outcome_at n (reading_after_all lim start ls) (reading_after_all lim start ls).phase) e

    never-outcome : (x : Refusal) (k : ℕ) → NeverEnds lim (lines_of text) x k → load_of lim text ≡ refused x k
    never-outcome x k n =
        whole-go n.no-condition ∙ not-ended (length (lines_of text)) (at_end) at_end.phase n.unended
        ∙ (λ i. refused (sym n.number i) (sym n.counted i))

    ends-outcome : (t : Table) → Unrefused lim (lines_of text) t → load_of lim text ≡ accepted t
    unfolding outcome_at
    ends-outcome t n =
        whole-go n.no-condition ∙ ap (outcome_at (length (lines_of text)) (at_end)) n.ended ∙ ap accepted (sym n.table)

    -- what a refusal says
    pub first-line-lowest : (x : Refusal) (k : ℕ)
        → load_of lim text ≡ refused x k
        → FirstHolds lim (lines_of text) x k ⊎ NeverEnds lim (lines_of text) x k
    first-line-lowest x k e = go (cases_of (lines_of text))
      where
        Says : Refusal → ℕ → Type 0
        Says y n = FirstHolds lim (lines_of text) y n ⊎ NeverEnds lim (lines_of text) y n

        moved : (y : Refusal) (n : ℕ) → load_of lim text ≡ refused y n → Says y n → Says x k
        moved y n p s =
            let w = refused-same y x n k (sym p ∙ e) in subst (λ (m : ℕ). Says x m) w.1
            (subst (λ (z : Refusal). Says z n) w.0 s)

        go : Cases lim (lines_of text) → FirstHolds lim (lines_of text) x k ⊎ NeverEnds lim (lines_of text) x k
        go (first y n f) = moved y n (first-outcome y n f) (inl f)
        go (never y n f) = moved y n (never-outcome y n f) (inr f)
        go (ends t f) = absurd (refused-accepted x k t (sym e ∙ ends-outcome t f))

    pub refused-exactly : (x : Refusal) (k : ℕ)
        → (load_of lim text ≡ refused x k) ↔ (FirstHolds lim (lines_of text) x k ⊎ NeverEnds lim (lines_of text) x k)
    refused-exactly x k = (first-line-lowest x k, back)
      where
        back : FirstHolds lim (lines_of text) x k ⊎ NeverEnds lim (lines_of text) x k → load_of lim text ≡ refused x k
        back (inl f) = first-outcome x k f
        back (inr f) = never-outcome x k f

    -- no number otherwise: accepted exactly when no condition holds at any line and END CHARMAP came
    pub accepted-no-condition : (t : Table) → (load_of lim text ≡ accepted t) ↔ Unrefused lim (lines_of text) t
    accepted-no-condition t = (λ e. go e (cases_of (lines_of text)), ends-outcome t)
      where
        go : load_of lim text ≡ accepted t → Cases lim (lines_of text) → Unrefused lim (lines_of text) t
        go e (first y n f) = absurd (refused-accepted y n t (sym (first-outcome y n f) ∙ e))
        go e (never y n f) = absurd (refused-accepted y n t (sym (never-outcome y n f) ∙ e))
        go e (ends u f) = subst (Unrefused lim (lines_of text)) (accepted-injective u t (sym (ends-outcome u f) ∙ e)) f
