-- A complete code round-trips exactly when the two strict conversions by the table, one after the other, give it back;
-- with no mark.
use mathlib.Core.Path.{◌≡◌, refl, sym, ap, ◌∙◌}
use Prim.Native.Nat.{ℕ, ◌≤◌, ◌<◌}
use mathlib.Core.List.{List, [], append-nil}
use mathlib.Core.Bool.{Bool, true, false}
use mathlib.Core.Logic.{◌↔◌}
use mathlib.Core.Option.{Option, none, some}
use native.Mathlib.Omega.{arith}
use borrow.Author.Tests.{leb-true, leb-false}
use lib.Dec.{leb}
use lib.ListN.{length}
use Rattle.lists.proofs.Cases.{pick-case}
use Rattle.utf.specs.Scheme.{Side}
use Rattle.utf.specs.declared.utf8.Stop.TheVariants.{Unassigned}
use Rattle.table.specs.Limits.{Limits}
use Rattle.table.specs.States.{is_code}
use Rattle.table.specs.Codes.{AllByte}
use Rattle.table.specs.Meaning.{Line, Table, steps_of, reader}
use Rattle.table.specs.Rules.{Keeps}
use Rattle.convert.specs.Run.{Run, ended_with}
use Rattle.convert.specs.Step.{point_for, encoded, to_step, Written, code, subchar1, nothing, writes, sent_for, from_step, strict}
use Rattle.convert.specs.Convert.{to_side, from_side}
use Rattle.convert.specs.Claims.{RoundTrips, all_read}
use Rattle.convert.specs.loops.Inner.{LawfulSide}
use Rattle.convert.specs.loops.Laws.{ThereAndBack}
use Rattle.convert.specs.declared.RunEnd.TheVariants.{AllRead, OutputFull, Stopped}
use Rattle.convert.proofs.Runs.{run-stop, run-full}
use Rattle.convert.proofs.Whole.{run-one}
use Rattle.convert.proofs.PlainSteps.{reader-scalar}
use Rattle.convert.proofs.Steps.{from_gives}
use Rattle.convert.proofs.CompleteCodes.{some_bytes, few_bytes, code_gives}

all-stopped : Stopped Unassigned ≡ AllRead → ⊥
all-stopped e = let z : ◌≡◌ {A = ℕ} 0 1 = cc in omega arith

all-full : OutputFull ≡ AllRead → ⊥
all-full e = let z : ◌≡◌ {A = ℕ} 0 1 = cc in omega arith

module _ (u : Side) (law : LawfulSide u) (lim : Limits) (t : Table) (keeps : Keeps lim t) (fallback : Bool) (c : List ℕ) (bytes : AllByte c) (whole : is_code (steps_of t) 0 c ≡ true)
    (room room' : ℕ) (long : 4 ≤ room) (long' : 4 ≤ room') where
  -- the way there: the code point of the line that reads the code, or a stop
  step-there : (o : Option Line) → reader c t.lines ≡ o → to_step u t (strict fallback) 0 c ≡ encoded u 0 (point_for t.subchar1 false (length c) o)
  step-there o q =
      ap (to_step u t (strict fallback) 0) (sym (append-nil c))
      ∙ code_gives lim t keeps c bytes whole u (strict fallback) []
      ∙ ap (λ (x : Option Line). encoded u 0 (point_for t.subchar1 false (length c) x)) q

  there : (l : Line) → reader c t.lines ≡ some l → to_side u t (strict fallback) c room ≡ all_read c (u.encode l.point)
  there l q =
      run-one (to_step u t (strict fallback)) c (u.encode l.point) room (some_bytes lim t keeps c bytes whole) (step-there (some l) q) (omega (arith, law.few l.point, law.some l.point))

  unread : reader c t.lines ≡ none → to_side u t (strict fallback) c room ≡ ended_with (Stopped Unassigned) 0
  unread q = run-stop (to_step u t (strict fallback)) 0 c room (some_bytes lim t keeps c bytes whole) Unassigned (step-there none q)

  -- the way back, by what that code point is written as
  module _ (l : Line) (q : reader c t.lines ≡ some l) where
    abbrev text : List ℕ
    text = u.encode l.point

    some-text : 0 < length text
    some-text = omega (arith, law.few l.point, law.some l.point)

    step_back : (w : Written) → writes t fallback l.point ≡ w → from_step u t (strict fallback) 0 text ≡ sent_for t false 0 (length text) w
    step_back w e =
        from_gives u t (strict fallback) 0 text l.point (length text)
        (ap u.decode (sym (append-nil text)) ∙ law.put_reads l.point [] (reader-scalar t c l keeps.so_far.rule6 q))
        ∙ ap (sent_for t false 0 (length text)) e

    back : (d : List ℕ) → writes t fallback l.point ≡ code d → length d ≤ room' → from_side u t (strict fallback) text room' ≡ all_read text d
    back d e h = run-one (from_step u t (strict fallback)) text d room' some-text (step_back (code d) e) h

    unfit : (d : List ℕ) → writes t fallback l.point ≡ code d → room' < length d → from_side u t (strict fallback) text room' ≡ ended_with OutputFull 0
    unfit d e h = run-full (from_step u t (strict fallback)) 0 text room' some-text d (length text) 0 (step_back (code d) e) h

    unwritten : (w : Written) → writes t fallback l.point ≡ w → sent_for t false 0 (length text) w ≡ sent_for t false 0 (length text) nothing
        → from_side u t (strict fallback) text room' ≡ ended_with (Stopped Unassigned) 0
    unwritten w e s = run-stop (from_step u t (strict fallback)) 0 text room' some-text Unassigned (step_back w e ∙ s)

    -- a way back that reads all and gives the code is by the code
    written_back : (w : Written) → writes t fallback l.point ≡ w → (from_side u t (strict fallback) text room').end ≡ AllRead
        → (from_side u t (strict fallback) text room').bytes ≡ c → writes t fallback l.point ≡ code c
    written_back (code d) e h b =
        pick-case (λ (x : ℕ). writes t fallback l.point ≡ code c) (leb (length d) room') 0 0
        (λ f. e ∙ ap code (ap (λ (r : Run). r.bytes) (sym (back d e (leb-true (length d) room' f))) ∙ b))
        (λ f. absurd (all-full (ap (λ (r : Run). r.end) (sym (unfit d e (leb-false (length d) room' f))) ∙ h)))
    written_back subchar1 e h b = absurd (all-stopped (ap (λ (r : Run). r.end) (sym (unwritten subchar1 e refl)) ∙ h))
    written_back nothing e h b = absurd (all-stopped (ap (λ (r : Run). r.end) (sym (unwritten nothing e refl)) ∙ h))

  abbrev pub RoundTripsBySide : List ℕ → Type 0
  RoundTripsBySide c = ThereAndBack (to_side u t (strict fallback)) (from_side u t (strict fallback)) c room room'

  round-trip-goes : RoundTrips t fallback c → RoundTripsBySide c
  round-trip-goes h =
      let l = h.line in
      let a = there l h.reads in
      let n = few_bytes lim t keeps c bytes whole in
      let b = ap (λ (r : Run). from_side u t (strict fallback) r.bytes room') a ∙ back l h.reads c h.written (omega arith) in
      (ap (λ (r : Run). r.end) a, ap (λ (r : Run). r.end) b, ap (λ (r : Run). r.bytes) b)

  goes-round-trip : RoundTripsBySide c → RoundTrips t fallback c
  goes-round-trip h = go (reader c t.lines) refl
    where
      go : (o : Option Line) → reader c t.lines ≡ o → RoundTrips t fallback c
      go none q = absurd (all-stopped (ap (λ (r : Run). r.end) (sym (unread q)) ∙ h.0))
      go (some l) q =
          let a : from_side u t (strict fallback) (u.encode l.point) room' ≡ from_side u t (strict fallback) (to_side u t (strict fallback) c room).bytes room' =
          ap (λ (r : Run). from_side u t (strict fallback) r.bytes room') (sym (there l q)) in
          record {
            line = l;
            reads = q;
            written = written_back l q (writes t fallback l.point) refl (ap (λ (r : Run). r.end) a ∙ h.1) (ap (λ (r : Run). r.bytes) a ∙ h.2);
          }

  pub round-trip-side : RoundTrips t fallback c ↔ RoundTripsBySide c
  round-trip-side = (round-trip-goes, goes-round-trip)
