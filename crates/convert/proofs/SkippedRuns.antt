-- The two conversions and illegal sequences (document 02, request 3).
-- to-legal, from-legal   skipping: 52 is never given      to-length, from-length   how long an illegal sequence is
-- to-parts, from_parts   skipping: in parts                to-takes-in              and which bytes it takes in
use mathlib.Core.Path.{◌≡◌, refl, sym, ap, subst, ◌∙◌}
use Prim.Native.Nat.{ℕ, zero, suc, ◌-◌}
use mathlib.Core.Bool.{Bool, true, false}
use mathlib.Core.List.{List, [], ◌∷◌}
use native.Mathlib.Omega.{arith}
use native.Mathlib.Nat.{zero-add}
use lib.ListN.{length, drop}
use Rattle.utf.specs.Scheme.{Side, side_of}
use Rattle.utf.specs.declared.utf8.Stop.TheVariants as stopped
use Rattle.utf.specs.declared.scheme.Scheme.{Scheme}
use Rattle.table.specs.Limits.{Limits}
use Rattle.table.specs.Illegal.{TakesIn}
use Rattle.table.specs.Codes.{AllByte}
use Rattle.table.specs.Meaning.{Table, steps_of}
use Rattle.table.specs.Rules.{Keeps}
use Rattle.table.proofs.KeptSizes.{kept-sizes}
use Rattle.table.proofs.Broken.{takes-in}
use Rattle.convert.specs.Run.{stop, SequenceStep, Run, run_of}
use Rattle.convert.specs.Step.{with_skip, skipping, to_sequence, to_plain, to_step, from_plain, from_step}
use Rattle.convert.specs.Convert.{mark_of, to_side, from_side, to_run, from_run}
use Rattle.convert.specs.Claims.{InParts}
use Rattle.convert.specs.declared.RunEnd.TheVariants.{Stopped}
use Rattle.convert.specs.declared.Settings.{Settings}
use Rattle.convert.specs.loops.Inner.{Sound, Settled, GivesAlone, Stays, LawfulSide}
use Rattle.convert.specs.loops.Laws.{NotFull}
use Rattle.convert.proofs.Whole.{stops-there, state-stays}
use Rattle.convert.proofs.PlainSteps.{to-plain-sound, to-plain-settled, to-plain-alone, to-plain-stays, to-illegal, from-plain-sound, from-plain-settled, from-plain-alone, from-plain-stays, from-illegal}
use Rattle.convert.proofs.Skipping.{skipping-off, stopped_by_lem, skipping-legal}
use Rattle.convert.proofs.PartsOfFrames.{in_parts}
use Rattle.convert.proofs.Steps.{to-sound, from-sound, to_step⇒Encoded}
use Rattle.convert.proofs.Schemes.{write_in-case, read_in-case}

pub bytes-behind : (n : ℕ) (s : List ℕ) → AllByte s → AllByte (drop n s)
unfolding AllByte
bytes-behind zero s h = h
bytes-behind (suc n) [] h = h
bytes-behind (suc n) (b ∷ s) h = bytes-behind n s h.1

-- a run that ended at an illegal sequence
abbrev pub Illegally : Run → Type 0
Illegally r = (n : ℕ) × (r.end ≡ Stopped (stopped.Illegal n))

-- ## Either way: a step with skipping around it, on and off

module _ (bs : List ℕ) (plain on off : SequenceStep) (so : Sound plain) (se : Settled plain) (alone : GivesAlone plain) (stays : Stays plain)
    (is-on : skipping true bs plain ≡ on) (is-off : plain ≡ off) where
  parts : (s : List ℕ) (room : ℕ) → NotFull (run_of on 0 0 s room) → InParts off bs s (run_of on 0 0 s room)
  parts s room =
      subst (λ (step : SequenceStep). NotFull (run_of step 0 0 s room) → InParts off bs s (run_of step 0 0 s room)) is-on
      (subst (λ (step : SequenceStep). NotFull (run_of (skipping true bs plain) 0 0 s room) → InParts step bs s (run_of (skipping true bs plain) 0 0 s room)) is-off
      (in_parts bs plain so se alone stays s room))

  legal : (s : List ℕ) (room : ℕ) → Illegally (run_of on 0 0 s room) → ⊥
  legal s room f =
      skipping-legal bs plain so se s 0 room f.0 (ap (λ (step : SequenceStep). (run_of step 0 0 s room).end) is-on ∙ f.1)

-- ## Towards Unicode

module _ (u : Side) (t : Table) (settings : Settings) where
  to-off : to_plain u t settings ≡ to_step u t (with_skip false settings)
  unfolding to_step to_plain to_sequence
  to-off = sym (skipping-off (u.encode 0xfffd) (to_plain u t settings))

  to-on : skipping true (u.encode 0xfffd) (to_plain u t settings) ≡ to_step u t (with_skip true settings)
  unfolding to_step to_plain to_sequence
  to-on = refl

  to_set : settings.skip ≡ true → skipping true (u.encode 0xfffd) (to_plain u t settings) ≡ to_step u t settings
  unfolding to_step
  to_set on = ap (λ (k : Bool). skipping k (u.encode 0xfffd) (to_plain u t settings)) (sym on)

  pub to-parts : (s : List ℕ) (room : ℕ) → NotFull (to_side u t (with_skip true settings) s room)
      → InParts (to_step u t (with_skip false settings)) (u.encode 0xfffd) s (to_side u t (with_skip true settings) s room)
  to-parts =
      parts (u.encode 0xfffd) (to_plain u t settings) (to_step u t (with_skip true settings)) (to_step u t (with_skip false settings))
      (to-plain-sound u t settings) (to-plain-settled u t settings) (to-plain-alone u t settings) (to-plain-stays u t settings) to-on to-off

  side-legal : settings.skip ≡ true → (s : List ℕ) (room : ℕ) → Illegally (to_side u t settings s room) → ⊥
  side-legal on =
      legal (u.encode 0xfffd) (to_plain u t settings) (to_step u t settings) (to_step u t (with_skip false settings))
      (to-plain-sound u t settings) (to-plain-settled u t settings) (to-plain-alone u t settings) (to-plain-stays u t settings) (to_set on) to-off

  to-state : (s : List ℕ) (room : ℕ) → (to_side u t settings s room).state ≡ 0
  to-state s room =
      state-stays (to_step u t settings) (to-sound u t settings) (λ row x bs n next e. (to_step⇒Encoded t settings row u x bs n next e).stays) s 0 room

  -- under the rules: what an illegal sequence takes in
  pub to-takes-in : (lim : Limits) → Keeps lim t → (s : List ℕ) → AllByte s → (n : ℕ) → to_step u t settings 0 s ≡ stop (stopped.Illegal n)
      → TakesIn (steps_of t) 0 t.max s n
  unfolding to_step
  to-takes-in lim keeps s bytes n e =
      takes-in (steps_of t) 0 t.max keeps.so_far.rule3 (kept-sizes lim t keeps).most s bytes n
      (to-illegal t settings 0 u s n (stopped_by_lem settings.skip (u.encode 0xfffd) 0 (to_plain u t settings 0 s) (stopped.Illegal n) e).0)

  -- at the place read
  side-length : (lim : Limits) → Keeps lim t → (s : List ℕ) → AllByte s → (room n : ℕ)
      → let r = to_side u t settings s room in r.end ≡ Stopped (stopped.Illegal n) → TakesIn (steps_of t) 0 t.max (drop r.read s) n
  side-length lim keeps s bytes room n f =
      let r = to_side u t settings s room in
      to-takes-in lim keeps (drop r.read s) (bytes-behind r.read s bytes) n
      (ap (λ (row : ℕ). to_step u t settings row (drop r.read s)) (sym (to-state s room))
      ∙ stops-there (to_step u t settings) (to-sound u t settings) s 0 room (stopped.Illegal n) f)

-- in a scheme
module _ (e : Scheme) (t : Table) (settings : Settings) (s : List ℕ) (room : ℕ) where
  pub to-legal : settings.skip ≡ true → Illegally (to_run e t settings s room) → ⊥
  to-legal on =
      write_in-case (λ u. to_side u t settings s) (λ (r : Run). Illegally r → ⊥) e room
      (λ f. let q = f.1 in let z : ◌≡◌ {A = ℕ} 0 1 = cc in omega arith)
      (λ l f. side-legal (side_of e) t settings on s (room - length (mark_of e)) f)

  pub to-length : (lim : Limits) → Keeps lim t → AllByte s → (n : ℕ)
      → let r = to_run e t settings s room in r.end ≡ Stopped (stopped.Illegal n) → TakesIn (steps_of t) 0 t.max (drop r.read s) n
  to-length lim keeps bytes n =
      write_in-case (λ u. to_side u t settings s) (λ (r : Run). r.end ≡ Stopped (stopped.Illegal n) → TakesIn (steps_of t) 0 t.max (drop r.read s) n) e room
      (λ f. absurd (let z : ◌≡◌ {A = ℕ} 0 1 = cc in omega arith))
      (λ l f.
      subst (λ (k : ℕ). TakesIn (steps_of t) 0 t.max (drop k s) n) (sym (zero-add (to_side (side_of e) t settings s (room - length (mark_of e))).read))
      (side-length (side_of e) t settings lim keeps s bytes (room - length (mark_of e)) n f))

-- ## From Unicode

module _ (u : Side) (law : LawfulSide u) (t : Table) (settings : Settings) where
  from-off : from_plain u t settings ≡ from_step u t (with_skip false settings)
  unfolding from_step from_plain
  from-off = sym (skipping-off t.subchar (from_plain u t settings))

  from_on : skipping true t.subchar (from_plain u t settings) ≡ from_step u t (with_skip true settings)
  unfolding from_step from_plain
  from_on = refl

  from-set : settings.skip ≡ true → skipping true t.subchar (from_plain u t settings) ≡ from_step u t settings
  unfolding from_step
  from-set on = ap (λ (k : Bool). skipping k t.subchar (from_plain u t settings)) (sym on)

  pub from_parts : (s : List ℕ) (room : ℕ) → NotFull (from_side u t (with_skip true settings) s room)
      → InParts (from_step u t (with_skip false settings)) t.subchar s (from_side u t (with_skip true settings) s room)
  from_parts =
      parts t.subchar (from_plain u t settings) (from_step u t (with_skip true settings)) (from_step u t (with_skip false settings))
      (from-plain-sound u law t settings) (from-plain-settled u law t settings) (from-plain-alone u law t settings) (from-plain-stays u t settings) from_on from-off

  from-side-legal : settings.skip ≡ true → (s : List ℕ) (room : ℕ) → Illegally (from_side u t settings s room) → ⊥
  from-side-legal on =
      legal t.subchar (from_plain u t settings) (from_step u t settings) (from_step u t (with_skip false settings))
      (from-plain-sound u law t settings) (from-plain-settled u law t settings) (from-plain-alone u law t settings) (from-plain-stays u t settings) (from-set on) from-off

  -- an illegal sequence is one unit
  unit-length : (s : List ℕ) (room n : ℕ) → (from_side u t settings s room).end ≡ Stopped (stopped.Illegal n) → u.unit ≡ n
  unfolding from_step
  unit-length s room n f =
      let r = from_side u t settings s room in
      let q = stopped_by_lem settings.skip t.subchar r.state (from_plain u t settings r.state (drop r.read s)) (stopped.Illegal n)
      (stops-there (from_step u t settings) (from-sound u law t settings) s 0 room (stopped.Illegal n) f) in
      (from-illegal u t settings r.state (drop r.read s) n q.0).2

module _ (e : Scheme) (t : Table) (settings : Settings) (s : List ℕ) (room : ℕ) where
  pub from-legal : settings.skip ≡ true → Illegally (from_run e t settings s room) → ⊥
  from-legal on =
      read_in-case (λ u. from_side u t settings) (λ (r : Run). Illegally r → ⊥) e s room
      (λ u law unit x l f. from-side-legal u law t settings on x room f)
      (λ r ih f. ih f)

  pub from-length : (n : ℕ) → (from_run e t settings s room).end ≡ Stopped (stopped.Illegal n) → n ≡ (side_of e).unit
  from-length n =
      read_in-case (λ u. from_side u t settings) (λ (r : Run). r.end ≡ Stopped (stopped.Illegal n) → n ≡ (side_of e).unit) e s room
      (λ u law unit x l f. sym (unit-length u law t settings x room n f) ∙ unit)
      (λ r ih f. ih f)
