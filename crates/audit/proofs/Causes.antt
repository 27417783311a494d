-- What each cause says. 0: the code round-trips; for a complete code, the two conversions give it back.
use Prim.Native.Nat.{ℕ, suc, ◌+◌, ◌≤◌}
use native.Mathlib.Omega.{arith}
use mathlib.Core.Path.{◌≡◌, refl, ap, ◌∙◌}
use mathlib.Core.Bool.{Bool, true, false}
use mathlib.Core.Logic.Iff
use mathlib.Core.Logic.{◌↔◌}
use mathlib.Core.Option.{Option, none, some}
use mathlib.Core.List.{List}
use lib.ListN.{length}
use Rattle.lists.specs.Pick.{pick}
use Rattle.lists.proofs.Laws.{¬true⇒false}
use Rattle.table.specs.Limits.{Limits, limits}
use Rattle.table.specs.States.{end_kind, is_code}
use Rattle.utf.specs.declared.scheme.Scheme.{Scheme}
use Rattle.table.specs.Codes.{AllByte}
use Rattle.table.specs.Meaning.{Line, Table, steps_of, reader}
use Rattle.table.specs.Rules.{Keeps}
use Rattle.table.specs.Slices.{Slices}
use Rattle.table.specs.Load.{read, accepted, loaded_by, given, left_in, record_handed}
use Rattle.lists.proofs.Strings.{same⇒≡, same_refl}
use Rattle.convert.specs.Step.{Written, code, subchar1, nothing, writes}
use Rattle.convert.specs.Convert.{mark_of}
use Rattle.convert.specs.Claims.{RoundTrips}
use Rattle.convert.specs.loops.Laws.{RoundTripsByRuns, RoundTripsByCalls}
use Rattle.convert.proofs.SchemeText.{round-trip-runs}
use Rattle.convert.proofs.LoadedText.{round-trip-loaded}
use Rattle.audit.specs.Audit.{back_by, back_of, cause_by, cause_of, is_unassigned}
use Rattle.lists.specs.Strings.{same}
use Rattle.table.specs.declared.states.EndKind.{EndKind}
use Rattle.table.specs.declared.states.EndKind.TheVariants.{Assigned, AnyPoint, Unassigned}
use Rattle.std.specs.Prelude.{Option as Optional, Some, None}

low-cause : (u : Bool) (n : ℕ) → ◌≡◌ {A = ℕ} (pick u 1 (suc n)) 0 → ⊥
low-cause true n e = omega arith
low-cause false n e = omega arith

other_end : (o : Optional EndKind) → (o ≡ Some Unassigned → ⊥) → is_unassigned o ≡ false
other_end None h = refl
other_end (Some Assigned) h = refl
other_end (Some AnyPoint) h = refl
other_end (Some Unassigned) h = absurd (h refl)

module _ (t : Table) (fallback : Bool) (c : List ℕ) where
  written-round-trip : (u : Bool) (w : Written) → cause_by c u (back_by w) ≡ 0 → w ≡ code c
  written-round-trip u (code d) e = go (same d c) refl e
    where
      go : (b : Bool) → same d c ≡ b → ◌≡◌ {A = ℕ} (pick b 0 (pick u 1 3)) 0 → code d ≡ code c
      go true q e = ap code (same⇒≡ d c q)
      go false q e = absurd (low-cause u 2 e)
  written-round-trip u subchar1 e = absurd (low-cause u 3 e)
  written-round-trip u nothing e = absurd (low-cause u 3 e)

  zero-round-trip : cause_of t fallback c ≡ 0 → RoundTrips t fallback c
  unfolding cause_of
  zero-round-trip e = go (reader c t.lines) refl e
    where
      u : Bool
      u = is_unassigned (end_kind (steps_of t) 0 c)

      go : (o : Option Line) → reader c t.lines ≡ o → cause_by c u (back_of t fallback o) ≡ 0 → RoundTrips t fallback c
      go none q e = absurd (low-cause u 1 e)
      go (some l) q e = record { line = l; reads = q; written = written-round-trip u (writes t fallback l.point) e }

  round-trip-zero : RoundTrips t fallback c → cause_of t fallback c ≡ 0
  unfolding cause_of
  round-trip-zero h =
      (λ i. cause_by c (is_unassigned (end_kind (steps_of t) 0 c)) (back_of t fallback (h.reads i)))
      ∙ (λ i. cause_by c (is_unassigned (end_kind (steps_of t) 0 c)) (back_by (h.written i)))
      ∙ ap (λ (b : Bool). pick b 0 (pick (is_unassigned (end_kind (steps_of t) 0 c)) 1 3)) (same_refl c)

  pub cause-round-trip : (cause_of t fallback c ≡ 0) ↔ RoundTrips t fallback c
  cause-round-trip = (zero-round-trip, round-trip-zero)

  -- 1: it does not round-trip and is ended by `u`
  pub cause-one : (RoundTrips t fallback c → ⊥) → end_kind (steps_of t) 0 c ≡ Some Unassigned → cause_of t fallback c ≡ 1
  unfolding cause_of
  cause-one h k = ap (λ (b : Bool). cause_by c b (back_of t fallback (reader c t.lines))) (ap is_unassigned k) ∙ go (reader c t.lines) refl
    where
      other : (l : Line) → reader c t.lines ≡ some l → (w : Written) → writes t fallback l.point ≡ w → cause_by c true (back_by w) ≡ 1
      other l q (code d) e = ap (λ (b : Bool). pick b 0 1) (¬true⇒false (same d c) (λ s. h (record { line = l; reads = q; written = e ∙ ap code (same⇒≡ d c s) })))
      other l q subchar1 e = refl
      other l q nothing e = refl

      go : (o : Option Line) → reader c t.lines ≡ o → cause_by c true (back_of t fallback o) ≡ 1
      go none q = refl
      go (some l) q = other l q (writes t fallback l.point) refl

  -- the others, of a code that is not ended by `u`
  module _ (k : end_kind (steps_of t) 0 c ≡ Some Unassigned → ⊥) where
    not-ended : is_unassigned (end_kind (steps_of t) 0 c) ≡ false
    not-ended = other_end (end_kind (steps_of t) 0 c) k

    -- 2: no line reads it
    pub cause-two : reader c t.lines ≡ none → cause_of t fallback c ≡ 2
    unfolding cause_of
    cause-two q = (λ i. cause_by c (not-ended i) (back_of t fallback (q i)))

    -- 3: it reads, but is written as another code
    pub cause-three : (l : Line) (d : List ℕ) → reader c t.lines ≡ some l → writes t fallback l.point ≡ code d → (d ≡ c → ⊥) → cause_of t fallback c ≡ 3
    unfolding cause_of
    cause-three l d q e h =
        (λ i. cause_by c (not-ended i) (back_of t fallback (q i)))
        ∙ (λ i. cause_by c false (back_by (e i)))
        ∙ ap (λ (b : Bool). pick b 0 3) (¬true⇒false (same d c) (λ s. h (same⇒≡ d c s)))

    -- 4: it reads, but is not written
    pub cause-four : (l : Line) → reader c t.lines ≡ some l → ((d : List ℕ) → writes t fallback l.point ≡ code d → ⊥) → cause_of t fallback c ≡ 4
    unfolding cause_of
    cause-four l q h = (λ i. cause_by c (not-ended i) (back_of t fallback (q i))) ∙ go (writes t fallback l.point) refl
      where
        go : (w : Written) → writes t fallback l.point ≡ w → cause_by c false (back_by w) ≡ 4
        go (code d) e = absurd (h d e)
        go subchar1 e = refl
        go nothing e = refl

-- a complete code has cause 0 exactly when the strict conversions by the table, in any scheme, with space for any one code, give it back
pub round-trip-exactly : (scheme : Scheme) (lim : Limits) (t : Table) → Keeps lim t → (fallback : Bool) (c : List ℕ) → AllByte c → is_code (steps_of t) 0 c ≡ true
    → (room room' : ℕ) → length (mark_of scheme) + 4 ≤ room → 4 ≤ room' → (cause_of t fallback c ≡ 0) ↔ RoundTripsByRuns scheme t fallback c room room'
round-trip-exactly scheme lim t keeps fallback c bytes whole room room' long long' =
    Iff.trans (cause-round-trip t fallback c) (round-trip-runs scheme lim t keeps fallback c bytes whole room room' long long')

-- and exactly when what the two functions promise gives it back, on what a load of an accepted text gave and left
pub round-trip-promised : (scheme : Scheme) (text : List ℕ) (old : Slices) (t : Table) → given limits text old ≡ read (accepted t)
    → (fallback : Bool) (c : List ℕ) → AllByte c → is_code (steps_of t) 0 c ≡ true → (room room' : ℕ) → length (mark_of scheme) + 4 ≤ room → 4 ≤ room'
    → (cause_of t fallback c ≡ 0) ↔ RoundTripsByCalls scheme (record_handed (loaded_by (given limits text old))) (left_in limits (given limits text old) old) fallback c room room'
round-trip-promised scheme text old t e fallback c bytes whole room room' long long' =
    Iff.trans (cause-round-trip t fallback c) (round-trip-loaded text old t e scheme fallback c bytes whole room room' long long')
