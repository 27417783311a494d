-- Conversion over what loading an accepted text gave and left is conversion by the text's own rows and lines.
use Prim.Native.Nat.{ℕ, ◌+◌, ◌≤◌}
use mathlib.Core.Path.{◌≡◌, refl, sym, ap, subst, ◌∙◌}
use mathlib.Core.Bool.{Bool, true}
use mathlib.Core.Logic.{◌↔◌}
use mathlib.Core.List.{List}
use lib.ListN.{length, take}
use lib.Dec.{lit≤}
use Rattle.lists.proofs.Cases.{pick_yes}
use Rattle.utf.specs.Scheme.{Side}
use Rattle.utf.specs.declared.scheme.Scheme.{Scheme}
use Rattle.utf.specs.declared.utf8.Sequence.{Sequence}
use Rattle.utf.specs.declared.utf8.Sequence.TheVariants as sequence
use Rattle.table.specs.Limits.{limits}
use Rattle.table.specs.States.{Rows, cut_of, is_code}
use Rattle.table.specs.Codes.{AllByte}
use Rattle.table.specs.Meaning.{Table, steps_of, steps_on}
use Rattle.table.specs.Rules.{t9, Keeps}
use Rattle.table.specs.Slices.{Slices}
use Rattle.table.specs.Memory.{table_in, Form, Proper}
use Rattle.table.specs.Valid.{valid}
use Rattle.table.specs.Load.{Given, read, accepted, loaded_by, given, left_in, record_handed}
use Rattle.table.specs.declared.states.Cut.{Cut}
use Rattle.table.specs.declared.states.Cut.TheVariants as cut
use Rattle.table.specs.declared.states.CutStop.TheVariants as cut_stop
use Rattle.table.specs.declared.valid.Record.{Record}
use Rattle.table.proofs.ValidLaws.{form-valid}
use Rattle.table.specs.Forms.{SameTable}
use Rattle.table.proofs.InMemory.{SameTable-table_in, same-reader, same_writer}
use Rattle.table.proofs.LoadedForm.{LoadedForm, loaded-form}
use Rattle.convert.specs.Run.{SequenceStep, Run, run_of, ended_with}
use Rattle.convert.specs.Step.{Written, code, subchar1, nothing, skipping, point_for, on_cut, to_sequence, encoded, to_plain, to_step, writes, sub1_bytes, substituted, sent_for, on_sequence, from_plain, from_step, strict}
use Rattle.convert.specs.Convert.{mark_of, write_in, read_in, to_run, from_run, to_tested, from_tested}
use Rattle.convert.specs.Claims.{RoundTrips}
use Rattle.convert.specs.loops.Laws.{ThereAndBack, RoundTripsByCalls}
use Rattle.convert.specs.declared.RunEnd.TheVariants.{BadTable}
use Rattle.convert.specs.declared.Settings.{Settings}
use Rattle.convert.proofs.SameLines.{writer⇒writes}
use Rattle.convert.proofs.SchemeText.{round-trip-runs}

-- two tables with the same rows and, as members, the same lines
module _ (t u : Table) (s : SameTable u t) (apart : t9 t.lines ≡ true) where
  pub steps-same : steps_of u ≡ steps_of t
  steps-same = ap steps_on s.same_rows

  cut-same : (substitute : Bool) (x : List ℕ) (k : Cut) → on_cut u substitute x k ≡ on_cut t substitute x k
  cut-same substitute x (cut.Stopped cut_stop.CutShort) = refl
  cut-same substitute x (cut.Stopped (cut_stop.Illegal n)) = refl
  cut-same substitute x (cut.Complete n e) = λ i. point_for (s.same-subchar1 i) substitute n (same-reader t u s apart (take n x) i)

  sequence-same : (settings : Settings) (row : ℕ) (x : List ℕ) → to_sequence u settings row x ≡ to_sequence t settings row x
  unfolding to_sequence
  sequence-same settings row x =
      ap (λ (step : Rows). on_cut u settings.substitute x (cut_of step row x)) steps-same ∙ cut-same settings.substitute x (cut_of (steps_of t) row x)

  pub to_same : (side : Side) (settings : Settings) → to_step side u settings ≡ to_step side t settings
  unfolding to_step to_plain
  to_same side settings = λ i. skipping settings.skip (side.encode 0xfffd) (λ row x. encoded side row (sequence-same settings row x i))

  sent-same : (substitute : Bool) (row n : ℕ) (w : Written) → sent_for u substitute row n w ≡ sent_for t substitute row n w
  sent-same substitute row n (code c) = refl
  sent-same substitute row n subchar1 = λ i. substituted substitute (sub1_bytes (s.same-subchar1 i) (s.same-subchar i)) n row
  sent-same substitute row n nothing = λ i. substituted substitute (s.same-subchar i) n row

  point-same : (side : Side) (fallback substitute : Bool) (row : ℕ) (q : Sequence) → on_sequence side u fallback substitute row q ≡ on_sequence side t fallback substitute row q
  point-same side fallback substitute row (sequence.Stopped w) = refl
  point-same side fallback substitute row (sequence.Scalar c n) =
      ap (sent_for u substitute row n) (writer⇒writes t u fallback c (same_writer t u s apart c)) ∙ sent-same substitute row n (writes t fallback c)

  pub from-same : (side : Side) (settings : Settings) → from_step side u settings ≡ from_step side t settings
  unfolding from_step from_plain
  from-same side settings =
      λ i. skipping settings.skip (s.same-subchar i) (λ row x. point-same side settings.fallback settings.substitute row (side.decode x) i)

-- a memory in the form of a table that keeps the rules
module _ (t : Table) (p : Proper t) (k : Keeps limits t) (rec : Record) (m : Slices) (f : Form limits t rec m) where
  pub kept : valid limits rec m ≡ true
  kept = form-valid limits t p k rec m f

  pub held : SameTable (table_in rec m) t
  held = SameTable-table_in limits t p k rec m f

  pub to_held : (e : Scheme) (settings : Settings) (x : List ℕ) (room : ℕ) → to_tested e limits rec m settings x room ≡ to_run e t settings x room
  unfolding to_tested
  to_held e settings x room =
      pick_yes (valid limits rec m) (to_run e (table_in rec m) settings x room) (ended_with BadTable 0) kept
      ∙ ap (λ (step : Side → SequenceStep). write_in e (λ side. run_of (step side) 0 0 x) room) (λ i side. to_same t (table_in rec m) held k.so_far.rule9 side settings i)

  pub from-held : (e : Scheme) (settings : Settings) (x : List ℕ) (room : ℕ)
      → from_tested e limits rec m settings x room ≡ from_run e t settings x room
  unfolding from_tested
  from-held e settings x room =
      pick_yes (valid limits rec m) (from_run e (table_in rec m) settings x room) (ended_with BadTable 0) kept
      ∙ ap (λ (step : Side → SequenceStep). read_in e (λ side. run_of (step side) 0 0) x room) (λ i side. from-same t (table_in rec m) held k.so_far.rule9 side settings i)

-- OF EVERY ACCEPTED TEXT, whatever the lent slices held: over what its load gave and left in them, in the words of the load's own promise
module _ (text : List ℕ) (old : Slices) (t : Table) where
  abbrev pub to_loaded : Given → Scheme → Settings → List ℕ → ℕ → Run
  to_loaded g e settings x room =
      let m = left_in limits g old in to_tested e limits (record_handed (loaded_by g)) m settings x room

  abbrev pub from_loaded : Given → Scheme → Settings → List ℕ → ℕ → Run
  from_loaded g e settings x room =
      let m = left_in limits g old in from_tested e limits (record_handed (loaded_by g)) m settings x room

  module _ (loaded : given limits text old ≡ read (accepted t)) where
    made : LoadedForm limits t (given limits text old) old
    made = loaded-form limits text old t (lit≤ tt) loaded

    pub to-loaded : (e : Scheme) (settings : Settings) (x : List ℕ) (room : ℕ)
        → to_loaded (given limits text old) e settings x room ≡ to_run e t settings x room
    to-loaded e settings x room = to_held t made.proper made.keeps (record_handed (loaded_by (given limits text old))) _ made.form e settings x room

    pub from-loaded : (e : Scheme) (settings : Settings) (x : List ℕ) (room : ℕ)
        → from_loaded (given limits text old) e settings x room ≡ from_run e t settings x room
    from-loaded e settings x room =
        from-held t made.proper made.keeps (record_handed (loaded_by (given limits text old))) _ made.form e settings x room

    -- a complete code round-trips by the text's lines exactly when what the two functions promise there, strict, gives it back
    pub round-trip-loaded : (e : Scheme) (fallback : Bool) (c : List ℕ) → AllByte c → is_code (steps_of t) 0 c ≡ true → (room room' : ℕ) → length (mark_of e) + 4 ≤ room → 4 ≤ room'
        → RoundTrips t fallback c ↔ RoundTripsByCalls e (record_handed (loaded_by (given limits text old))) (left_in limits (given limits text old) old) fallback c room room'
    round-trip-loaded e fallback c bytes whole room room' long long' =
        subst (λ (to : List ℕ → ℕ → Run). RoundTrips t fallback c ↔ ThereAndBack to (from_loaded (given limits text old) e (strict fallback)) c room room')
        (λ i x n. sym (to-loaded e (strict fallback) x n) i)
        (subst (λ (from : List ℕ → ℕ → Run). RoundTrips t fallback c ↔ ThereAndBack (to_run e t (strict fallback)) from c room room')
        (λ i x n. sym (from-loaded e (strict fallback) x n) i)
        (round-trip-runs e limits t made.keeps fallback c bytes whole room room' long long'))
