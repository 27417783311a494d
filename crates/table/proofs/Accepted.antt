-- A text is accepted exactly when it has the grammar's form and the table that it writes keeps T1 to T10.
-- That these texts are just those of specs/Grammar.antt, and so `accepted-exactly`, is in TextRead.antt.
use Prim.Native.Nat.{ℕ, ◌+◌, ◌≤◌}
use mathlib.Core.Path.{◌≡◌, refl, sym, ap, subst, ◌∙◌}
use mathlib.Core.List.{List, [], ◌∷◌}
use native.Mathlib.Omega.{arith}
use Rattle.table.specs.Limits.{Limits}
use Rattle.table.specs.Meaning.{Table}
use Rattle.table.specs.Rules.{Keeps}
use Rattle.table.specs.Memory.{Proper}
use Rattle.table.specs.Text.{lines_of}
use Rattle.table.specs.Numbers.{lowest, in_form}
use Rattle.lists.proofs.Laws.{clash}
use Rattle.table.specs.Codes.{AllByte}
use Rattle.table.specs.Keys.{no_keys}
use Rattle.table.specs.Load.{Reading, LineStep, goes_on, stop, Judge, line_step, table_of, accepted, refused, outcome_at, load_go, start, load_of, load_in_form}
use Rattle.table.specs.declared.load.Refusal.{Refusal}
use Rattle.table.specs.declared.load.Phase.{Phase}
use Rattle.table.specs.declared.load.Phase.TheVariants.{Header, Mappings, Ended}
use Rattle.table.proofs.Judged.{Fits, Sound, RulesSoFarAt, RulesSoFar, Holding-step_of}
use Rattle.table.proofs.InGrammar.{KeptAt, Keeping, step-in-grammar, Keeping-step_of⁻}

pub refused-accepted : (x : Refusal) (k : ℕ) (t : Table) → refused x k ≡ accepted t → ⊥
refused-accepted x k t e = let z : ◌≡◌ {A = ℕ} 0 1 = cc in omega arith

pub accepted-injective : (t u : Table) → accepted t ≡ accepted u → t ≡ u
accepted-injective t u e = cc

-- a refusal at a line is the outcome, whatever follows
pub stop-outcome : (judge : Judge) (lim : Limits) (k : ℕ) (ls : List (List ℕ)) (x : Refusal)
    → load_go judge lim k ls (stop x) ≡ refused x k
unfolding load_go
stop-outcome judge lim k [] x = refl
stop-outcome judge lim k (l ∷ ls) x = refl

module _ (lim : Limits) where
  -- rows and lines of an accepted text
  module _ (t : Table) where
    ended-sound : (k : ℕ) (r : Reading) (p : Phase)
        → RulesSoFarAt lim p r.head r.rows r.lines
        → outcome_at k r p ≡ accepted t
        → Sound lim t
    unfolding outcome_at table_of
    ended-sound k r Header h e = absurd (refused-accepted _ _ t e)
    ended-sound k r Mappings h e = absurd (refused-accepted _ _ t e)
    ended-sound k r Ended h e = subst (Sound lim) (accepted-injective _ t e) h

    accepted-go : (ls : List (List ℕ)) (k : ℕ) (r : Reading)
        → RulesSoFar lim r
        → load_go lowest lim k ls (goes_on r) ≡ accepted t
        → Sound lim t
    unfolding load_go
    accepted-go [] k r h e = ended-sound k r r.phase h e
    accepted-go (l ∷ ls) k r h e = go (line_step lowest lim r l) refl (accepted-go ls (k + 1)) e
      where
        go : (s : LineStep)
            → line_step lowest lim r l ≡ s
            → ((q : Reading) → RulesSoFar lim q → load_go lowest lim (k + 1) ls (goes_on q) ≡ accepted t → Sound lim t)
            → load_go lowest lim (k + 1) ls s ≡ accepted t → Sound lim t
        go (stop x) p ih q = absurd (refused-accepted x (k + 1) t (sym (stop-outcome lowest lim (k + 1) ls x) ∙ q))
        go (goes_on s) p ih q = ih s (Holding-step_of lim r l s h p) q

    -- the reader, asked for the grammar alone, gives the same table
    form-go : (ls : List (List ℕ)) (k : ℕ) (r : Reading)
        → load_go lowest lim k ls (goes_on r) ≡ accepted t
        → load_go in_form lim k ls (goes_on r) ≡ accepted t
    unfolding load_go
    form-go [] k r e = e
    form-go (l ∷ ls) k r e = go (line_step lowest lim r l) refl (form-go ls (k + 1)) e
      where
        go : (s : LineStep)
            → line_step lowest lim r l ≡ s
            → ((q : Reading) → load_go lowest lim (k + 1) ls (goes_on q) ≡ accepted t
            → load_go in_form lim (k + 1) ls (goes_on q) ≡ accepted t)
            → load_go lowest lim (k + 1) ls s ≡ accepted t
            → load_go in_form lim (k + 1) ls (line_step in_form lim r l) ≡ accepted t
        go (stop x) p ih q = absurd (refused-accepted x (k + 1) t (sym (stop-outcome lowest lim (k + 1) ls x) ∙ q))
        go (goes_on s) p ih q = ap (load_go in_form lim (k + 1) ls) (step-in-grammar lim r l s p) ∙ ih s q

    -- and the other way round: the rules of the whole are the conditions at each line
    ended-kept : (k : ℕ) (r : Reading) (p : Phase)
        → Keeps lim t
        → outcome_at k r p ≡ accepted t
        → KeptAt lim p r.head r.rows r.lines
    unfolding outcome_at table_of
    ended-kept k r Header h e = tt
    ended-kept k r Mappings h e = absurd (refused-accepted _ _ t e)
    ended-kept k r Ended h e = subst (Keeps lim) (sym (accepted-injective _ t e)) h

    kept-go : (ls : List (List ℕ)) (k : ℕ) (r : Reading)
        → Keeps lim t
        → load_go in_form lim k ls (goes_on r) ≡ accepted t
        → (load_go lowest lim k ls (goes_on r) ≡ accepted t) × Keeping lim r
    unfolding load_go
    kept-go [] k r h e = (e, ended-kept k r r.phase h e)
    kept-go (l ∷ ls) k r h e = go (line_step in_form lim r l) refl (λ q. kept-go ls (k + 1) q h) e
      where
        go : (s : LineStep) → line_step in_form lim r l ≡ s
            → ((q : Reading) → load_go in_form lim (k + 1) ls (goes_on q) ≡ accepted t
            → (load_go lowest lim (k + 1) ls (goes_on q) ≡ accepted t) × Keeping lim q)
            → load_go in_form lim (k + 1) ls s ≡ accepted t
            → (load_go lowest lim (k + 1) ls (line_step lowest lim r l) ≡ accepted t) × Keeping lim r
        go (stop x) p ih q = absurd (refused-accepted x (k + 1) t (sym (stop-outcome in_form lim (k + 1) ls x) ∙ q))
        go (goes_on s) p ih q =
            let w = ih s q in
            let b = Keeping-step_of⁻ lim r l s p w.1 in
            (ap (load_go lowest lim (k + 1) ls) b.0 ∙ w.0, b.1)

  start_fits : Fits lim no_keys []
  unfolding AllByte
  start_fits =
      record
      { least = λ e. absurd (clash e refl); room = omega arith; most = omega arith; full = tt; bytes = tt; byte = omega arith }

  module _ (text : List ℕ) (t : Table) where
    accepted-sound : load_of lim text ≡ accepted t → Sound lim t
    unfolding load_of
    accepted-sound e = accepted-go t (lines_of text) 0 start start_fits e

    -- an accepted text keeps the rules, where the limits allow a row at all
    pub accepted-keeps-rules : 1 ≤ lim.rows → load_of lim text ≡ accepted t → Keeps lim t
    accepted-keeps-rules one e = (accepted-sound e).1 one

    -- its rows are full, its bytes bytes and its indicators digits
    pub accepted-proper : load_of lim text ≡ accepted t → Proper t
    accepted-proper e = (accepted-sound e).0

    pub accepted-in-grammar : load_of lim text ≡ accepted t → load_in_form lim text ≡ accepted t
    unfolding load_of load_in_form
    accepted-in-grammar e = form-go t (lines_of text) 0 start e

    -- a text that is read as a table which keeps the rules is accepted
    pub kept-rules-accepted : load_in_form lim text ≡ accepted t → Keeps lim t → load_of lim text ≡ accepted t
    unfolding load_of load_in_form
    kept-rules-accepted e h = (kept-go t (lines_of text) 0 start h e).0
