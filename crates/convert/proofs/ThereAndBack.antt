-- A frame of complete codes that round-trip converts there and back to itself, so two such frames never give the same text.
use mathlib.Core.Path.{◌≡◌, refl, sym, ap, ◌∙◌}
use Prim.Native.Nat.{ℕ, ◌+◌, ◌≤◌}
use mathlib.Core.List.{List, [], ◌∷◌, ◌++◌}
use mathlib.Core.Option.{Option}
use native.Mathlib.Omega.{arith}
use lib.ListN.{length}
use Rattle.utf.specs.Utf8.{Scalar}
use Rattle.utf.specs.Scheme.{Side}
use Rattle.table.specs.Limits.{Limits}
use Rattle.table.specs.Meaning.{Table, Line}
use Rattle.table.specs.Rules.{Keeps}
use Rattle.convert.specs.Run.{give, Run}
use Rattle.convert.specs.Step.{point_for, encoded, to_step, sent_for, from_step}
use Rattle.convert.specs.Convert.{to_side, from_side}
use Rattle.convert.specs.Claims.{RoundTripCode, frame_of, all_read}
use Rattle.convert.specs.loops.Laws.{spell, points_of}
use Rattle.convert.specs.loops.Inner.{LawfulSide}
use Rattle.convert.specs.declared.Settings.{Settings}
use Rattle.convert.proofs.PlainSteps.{reader-scalar}
use Rattle.convert.proofs.Steps.{from_gives}
use Rattle.convert.proofs.Whole.{InputOutput, inputs, outputs, GivesAll, run_of-GivesAll}
use Rattle.convert.proofs.CompleteCodes.{some_bytes, code_gives}

module _ (lim : Limits) (t : Table) (keeps : Keeps lim t) (settings : Settings) where
  scalar : (h : RoundTripCode t settings.fallback) → Scalar h.round-trips.line.point
  scalar h = reader-scalar t h.code h.round-trips.line keeps.so_far.rule6 h.round-trips.reads

  module _ (u : Side) (law : LawfulSide u) where
    gives_to : (h : RoundTripCode t settings.fallback) (rest : List ℕ)
        → to_step u t settings 0 (h.code ++ rest) ≡ give (u.encode h.round-trips.line.point) (length h.code) 0
    gives_to h rest =
        code_gives lim t keeps h.code h.bytes h.whole u settings rest
        ∙ ap (λ (o : Option Line). encoded u 0 (point_for t.subchar1 settings.substitute (length h.code) o)) h.round-trips.reads

    gives-from : (h : RoundTripCode t settings.fallback) (rest : List ℕ)
        → from_step u t settings 0 (u.encode h.round-trips.line.point ++ rest) ≡ give h.code (length (u.encode h.round-trips.line.point)) 0
    gives-from h rest =
        let c = h.round-trips.line.point in
        let n = length (u.encode c) in
        from_gives u t settings 0 (u.encode c ++ rest) c n (law.put_reads c rest (scalar h))
        ∙ ap (sent_for t settings.substitute 0 n) h.round-trips.written

    -- all of them, both ways
    to_givens : List (RoundTripCode t settings.fallback) → List InputOutput
    to_givens [] = []
    to_givens (h ∷ l) = record { input = h.code; output = u.encode h.round-trips.line.point } ∷ to_givens l

    from_givens : List (RoundTripCode t settings.fallback) → List InputOutput
    from_givens [] = []
    from_givens (h ∷ l) = record { input = u.encode h.round-trips.line.point; output = h.code } ∷ from_givens l

    all-to : (l : List (RoundTripCode t settings.fallback))
        → (inputs (to_givens l) ≡ frame_of l) × (outputs (to_givens l) ≡ spell u (points_of l)) × GivesAll (to_step u t settings) (to_givens l)
    unfolding to_givens frame_of spell points_of
    all-to [] = (refl, refl, tt)
    all-to (h ∷ l) =
        let r = all-to l in
        (ap (λ (s : List ℕ). h.code ++ s) r.0, ap (λ (s : List ℕ). u.encode h.round-trips.line.point ++ s) r.1, (some_bytes lim t keeps h.code h.bytes h.whole, gives_to h, r.2))

    all_from : (l : List (RoundTripCode t settings.fallback))
        → (inputs (from_givens l) ≡ spell u (points_of l)) × (outputs (from_givens l) ≡ frame_of l) × GivesAll (from_step u t settings) (from_givens l)
    unfolding from_givens frame_of spell points_of
    all_from [] = (refl, refl, tt)
    all_from (h ∷ l) =
        let r = all_from l in
        (ap (λ (s : List ℕ). u.encode h.round-trips.line.point ++ s) r.0, ap (λ (s : List ℕ). h.code ++ s) r.1, (law.some h.round-trips.line.point, gives-from h, r.2))

    -- the frame is read whole and gives its code points
    pub there : (l : List (RoundTripCode t settings.fallback)) (room : ℕ) → length (spell u (points_of l)) ≤ room
        → to_side u t settings (frame_of l) room ≡ all_read (frame_of l) (spell u (points_of l))
    there l room h =
        let r = all-to l in
        let k : length (outputs (to_givens l)) ≤ room = rw r.1 h in
        rw r.0 at (rw r.1 at (run_of-GivesAll (to_step u t settings) (to_givens l) room r.2 k))

    -- and they give the frame
    pub back : (l : List (RoundTripCode t settings.fallback)) (room : ℕ) → length (frame_of l) ≤ room
        → from_side u t settings (spell u (points_of l)) room ≡ all_read (spell u (points_of l)) (frame_of l)
    back l room h =
        let r = all_from l in
        let k : length (outputs (from_givens l)) ≤ room = rw r.1 h in
        rw r.0 at (rw r.1 at (run_of-GivesAll (from_step u t settings) (from_givens l) room r.2 k))

    -- there and back: the frame itself
    pub there_and_back : (l : List (RoundTripCode t settings.fallback)) (room space : ℕ) → length (spell u (points_of l)) ≤ room → length (frame_of l) ≤ space
        → (from_side u t settings (to_side u t settings (frame_of l) room).bytes space).bytes ≡ frame_of l
    there_and_back l room space h k =
        ap (λ (r : Run). (from_side u t settings r.bytes space).bytes) (there l room h) ∙ ap (λ (r : Run). r.bytes) (back l space k)

    -- two frames that give the same text are the same
    pub one_way : (l k : List (RoundTripCode t settings.fallback)) → spell u (points_of l) ≡ spell u (points_of k) → frame_of l ≡ frame_of k
    one_way l k e =
        let n = length (frame_of l) + length (frame_of k) in
        ap (λ (r : Run). r.bytes) (sym (back l n (omega arith)) ∙ ap (λ (s : List ℕ). from_side u t settings s n) e ∙ back k n (omega arith))
