-- The step of a conversion in pieces (`step_in`), either way and in every scheme, and its runs.
-- step_in-sound      some bytes, in the input, the same under more input
-- step_in-to-run     towards Unicode the run is that of the side, and the state stays
-- step_in-from-run   from Unicode it is that of the scheme behind the mark's place, and the state is the mark's place then
use Rattle.std.specs.Prelude.{Option as Optional}
use Rattle.std.specs.Prelude.{Option, Some, None}
use mathlib.Core.Path.{◌≡◌, refl, sym, ap, ◌∙◌}
use Prim.Native.Nat.{ℕ, zero, suc, ◌+◌, ◌-◌, ◌≤◌, ◌<◌}
use mathlib.Core.List.{List, [], ◌∷◌, ◌++◌}
use mathlib.Core.Bool.{Bool, true, false}
use native.Mathlib.Omega.{arith}
use borrow.Author.Tests.{ltb-true, ltb-false, ne_eqb}
use lib.Dec.{leb, ltb, eqb}
use lib.ListN.{length, drop}
use Rattle.lists.specs.Pick.{pick}
use Rattle.lists.proofs.Cases.{pick-case, pick_no}
use Rattle.utf.specs.Utf32.{is_mark, mark_at}
use Rattle.utf.specs.Scheme.{Side, utf32, side_of}
use Rattle.utf.specs.declared.utf8.Stop.{Stop}
use Rattle.utf.specs.declared.utf8.Stop.TheVariants as stopped
use Rattle.utf.specs.declared.utf32.ByteOrder.{ByteOrder}
use Rattle.utf.specs.declared.utf32.ByteOrder.TheVariants.{Big, Little}
use Rattle.utf.specs.declared.scheme.Scheme.{Scheme}
use Rattle.utf.specs.declared.scheme.Scheme.TheVariants as scheme
use Rattle.utf.proofs.FourBytes.{utf32-same, utf32-cut-short, mark_at⇒long}
use Rattle.table.specs.Meaning.{Table}
use Rattle.convert.specs.Run.{Gives, give, stop, SequenceStep, Run, run_of, after, ended_with, on_gives}
use Rattle.convert.specs.Step.{to_step, from_plain, from_step}
use Rattle.convert.specs.Convert.{to_side, behind_mark, from_run}
use Rattle.convert.specs.Pieces.{state_of, state_at, in_state, keep_state, by_mark, plain_step, from_step_in, step_in}
use Rattle.convert.specs.declared.RunEnd.TheVariants.{OutputFull}
use Rattle.convert.specs.declared.Settings.{Settings}
use Rattle.convert.specs.declared.pieces.Way.{Way}
use Rattle.convert.specs.declared.pieces.Way.TheVariants.{ToUnicode, FromUnicode}
use Rattle.convert.specs.loops.Inner.{Sound, Stays}
use Rattle.convert.specs.loops.Carried.{with_state, scheme_behind, place_behind, mark_after}
use Rattle.convert.proofs.Runs.{run_more}
use Rattle.convert.proofs.PlainSteps.{lawful, utf32-lawful, from-plain-stays}
use Rattle.convert.proofs.Skipping.{given_by}
use Rattle.convert.proofs.Steps.{to_step⇒Encoded, to-sound, from-sound, from-stopped}

-- ## A state beside a step

pub in_state-give⁻ : (st : ℕ) (g : Gives) (bs : List ℕ) (n next : ℕ) → in_state st g ≡ give bs n next → (st ≡ next) × ((m : ℕ) × (g ≡ give bs n m))
in_state-give⁻ st (give cs k m) bs n next e =
    let b : cs ≡ bs = cc in
    let q : k ≡ n = cc in
    let r : st ≡ next = cc in
    (r, (m, λ i. give (b i) (q i) m))
in_state-give⁻ st (stop w) bs n next e = absurd (let z : ◌≡◌ {A = ℕ} 0 1 = cc in omega arith)

pub in_state-stop⁻ : (st : ℕ) (g : Gives) (w : Stop) → in_state st g ≡ stop w → g ≡ stop w
in_state-stop⁻ st (give cs k m) w e = absurd (let z : ◌≡◌ {A = ℕ} 0 1 = cc in omega arith)
in_state-stop⁻ st (stop v) w e = e

-- what `Sound` asks, of one sequence
abbrev SoundAt : SequenceStep → ℕ → List ℕ → List ℕ → ℕ → ℕ → Type 0
SoundAt a st s bs n next = (0 < n) × (n ≤ length s) × ((t : List ℕ) → a st (s ++ t) ≡ give bs n next)

sound-by : (a : SequenceStep) → ((st : ℕ) (s bs : List ℕ) (n next : ℕ) → a st s ≡ give bs n next → SoundAt a st s bs n next) → Sound a
sound-by a h = record {
  some = λ st s bs n next e. (h st s bs n next e).0;
  within = λ st s bs n next e. (h st s bs n next e).1;
  grows = λ st s t bs n next e. (h st s bs n next e).2 t;
}

-- a step that in the state st is another from row 0 on, and then in the state m
module _ (a step : SequenceStep) (st m : ℕ) (is : (s : List ℕ) → a st s ≡ in_state m (step 0 s)) where
  sound-at : Sound step → (s bs : List ℕ) (n next : ℕ) → a st s ≡ give bs n next → SoundAt a st s bs n next
  sound-at so s bs n next e =
      let k = in_state-give⁻ m (step 0 s) bs n next (sym (is s) ∙ e) in
      let g = k.1.1 in (
        so.some 0 s bs n k.1.0 g,
        so.within 0 s bs n k.1.0 g,
        λ t. is (s ++ t) ∙ ap (in_state m) (so.grows 0 s t bs n k.1.0 g) ∙ ap (give bs n) k.0,
      )

-- its run, where that is the same state and the other stays in row 0
pick-with_state : (c : Bool) (st n : ℕ) (bs : List ℕ) (r : Run)
    → pick c (after n bs (with_state st r)) (ended_with OutputFull st) ≡ with_state st (pick c (after n bs r) (ended_with OutputFull 0))
pick-with_state true st n bs r = refl
pick-with_state false st n bs r = refl

module _ (a step : SequenceStep) (stays : Stays step) (st : ℕ) (is : (s : List ℕ) → a st s ≡ in_state st (step 0 s)) where
  run-gives : (b : ℕ) (t : List ℕ) (room : ℕ) → ((k x : ℕ) → run_of a st k t x ≡ with_state st (run_of step 0 k t x))
      → (g : Gives) → step 0 (b ∷ t) ≡ g
      → on_gives (in_state st g) st room (λ next n x. run_of a next n t x) ≡ with_state st (on_gives g 0 room (λ next n x. run_of step next n t x))
  run-gives b t room ih (stop w) e = refl
  run-gives b t room ih (give bs n next) e =
      let x = room - length bs in
      let z = stays 0 (b ∷ t) bs n next e in
      ap (λ (r : Run). pick (leb (length bs) room) (after n bs r) (ended_with OutputFull st))
      (ih (n - 1) x ∙ ap (λ (j : ℕ). with_state st (run_of step j (n - 1) t x)) z)
      ∙ pick-with_state (leb (length bs) room) st n bs (run_of step next (n - 1) t x)

  run-in_state : (s : List ℕ) (k room : ℕ) → run_of a st k s room ≡ with_state st (run_of step 0 k s room)
  run-in_state [] k room = refl
  run-in_state (b ∷ t) (suc k) room = run-in_state t k room
  run-in_state (b ∷ t) zero room =
      ap (λ (g : Gives). on_gives g st room (λ next n x. run_of a next n t x)) (is (b ∷ t))
      ∙ run-gives b t room (λ k x. run-in_state t k x) (step 0 (b ∷ t)) refl

-- ## Plain UTF-32: the state behind the mark

-- a mark lies in the first four bytes
pub mark_at-++ : (s t : List ℕ) → 4 ≤ length s → mark_at (s ++ t) ≡ mark_at s
unfolding mark_at
mark_at-++ s t h =
    λ i. pick (is_mark (utf32-same Big s t h i)) (Some Big) (pick (is_mark (utf32-same Little s t h i)) (Some Little) None)

abbrev plain_of : (Side → SequenceStep) → SequenceStep
plain_of step = plain_step (λ order. step (utf32 order))

-- what is read from a state on, where only what is cut short has fewer than four bytes
module _ (step : Side → SequenceStep) (so : (order : ByteOrder) → Sound (step (utf32 order)))
    (short : (order : ByteOrder) (s : List ℕ) → length s < 4 → step (utf32 order) 0 s ≡ stop stopped.CutShort) where
  long-given : (s : List ℕ) (g : Gives) → step (utf32 Big) 0 s ≡ g → (g ≡ stop stopped.CutShort → ⊥) → 4 ≤ length s
  long-given s g e h =
      pick-case (λ (x : ℕ). 4 ≤ length s) (ltb (length s) 4) 0 0
      (λ q. absurd (h (sym e ∙ short Big s (ltb-true (length s) 4 q))))
      (λ q. ltb-false (length s) 4 q)

  mark-sound : (k : Option ByteOrder) (s bs : List ℕ) (n next : ℕ) → mark_at s ≡ k → by_mark k (step (utf32 Big) 0 s) ≡ give bs n next → SoundAt (plain_of step) 0 s bs n next
  mark-sound (Some order) s bs n next q e =
      let long = mark_at⇒long order s q in
      let c : 4 ≡ n = cc in
      (omega arith, omega arith, λ t. ap (λ (k : Option ByteOrder). by_mark k (step (utf32 Big) 0 (s ++ t))) (mark_at-++ s t long ∙ q) ∙ e)
  mark-sound None s bs n next q e =
      let k = in_state-give⁻ 1 (step (utf32 Big) 0 s) bs n next e in
      let long = long-given s (give bs n k.1.0) k.1.1 (λ z. let z : ◌≡◌ {A = ℕ} 0 1 = cc in omega arith) in
      let r = sound-at (plain_of step) (step (utf32 Big)) 1 1 (λ x. refl) (so Big) s bs n next e in
      (r.0, r.1, λ t. ap (λ (k : Option ByteOrder). by_mark k (step (utf32 Big) 0 (s ++ t))) (mark_at-++ s t long ∙ q) ∙ r.2 t)

  plain-gives : (st : ℕ) (s bs : List ℕ) (n next : ℕ) → plain_of step st s ≡ give bs n next → SoundAt (plain_of step) st s bs n next
  plain-gives zero s bs n next e = mark-sound (mark_at s) s bs n next refl e
  plain-gives (suc zero) s bs n next e = sound-at (plain_of step) (step (utf32 Big)) 1 1 (λ x. refl) (so Big) s bs n next e
  plain-gives (suc (suc st)) s bs n next e = sound-at (plain_of step) (step (utf32 Little)) (suc (suc st)) 2 (λ x. refl) (so Little) s bs n next e

-- the run from the state before the mark
pick-ahead : (c : Bool) (n : ℕ) (bs : List ℕ) (r : Run) (order : ByteOrder) → 0 < n
    → let q = pick c (after n bs r) (ended_with OutputFull 0) in
    pick c (after n bs (with_state (state_of order) r)) (ended_with OutputFull 0) ≡ with_state (state_at (pick (eqb q.read 0) None (Some order))) q
pick-ahead true n bs r order h =
    let z : n + r.read ≡ 0 → ⊥ = λ e. omega arith in
    ap (λ (p : Optional ByteOrder). with_state (state_at p) (after n bs r)) (sym (pick_no (eqb (n + r.read) 0) None (Some order) (ne_eqb (n + r.read) 0 z)))
pick-ahead false n bs r order h = refl

module _ (step : Side → SequenceStep) (so : (order : ByteOrder) → Sound (step (utf32 order))) (stays : (order : ByteOrder) → Stays (step (utf32 order))) where
  run-behind : (order : ByteOrder) (s : List ℕ) (k room : ℕ)
      → run_of (plain_of step) (state_of order) k s room ≡ with_state (state_of order) (run_of (step (utf32 order)) 0 k s room)
  run-behind Big = run-in_state (plain_of step) (step (utf32 Big)) (stays Big) 1 (λ s. refl)
  run-behind Little = run-in_state (plain_of step) (step (utf32 Little)) (stays Little) 2 (λ s. refl)

  run-first : (b : ℕ) (t : List ℕ) (room : ℕ) (g : Gives) → step (utf32 Big) 0 (b ∷ t) ≡ g
      → let r = on_gives g 0 room (λ next n x. run_of (step (utf32 Big)) next n t x) in
      on_gives (in_state 1 g) 0 room (λ next n x. run_of (plain_of step) next n t x) ≡ with_state (state_at (pick (eqb r.read 0) None (Some Big))) r
  run-first b t room (stop w) e = refl
  run-first b t room (give bs n next) e =
      let x = room - length bs in
      let z = stays Big 0 (b ∷ t) bs n next e in
      ap (λ (r : Run). pick (leb (length bs) room) (after n bs r) (ended_with OutputFull 0))
      (run-behind Big t (n - 1) x ∙ ap (λ (j : ℕ). with_state 1 (run_of (step (utf32 Big)) j (n - 1) t x)) z)
      ∙ pick-ahead (leb (length bs) room) n bs (run_of (step (utf32 Big)) next (n - 1) t x) Big ((so Big).some 0 (b ∷ t) bs n next e)

  run-ahead : (k : Option ByteOrder) (s : List ℕ) (room : ℕ) → mark_at s ≡ k → let r = behind_mark k (λ u x y. run_of (step u) 0 0 x y) s room in
      run_of (plain_of step) 0 0 s room ≡ with_state (state_at (pick (eqb r.read 0) None (place_behind k))) r
  run-ahead (Some order) s room q =
      let long = mark_at⇒long order s q in
      let z : room - 0 ≡ room = omega arith in
      run_more (plain_of step) 0 s room (omega arith) [] 4 (state_of order) (ap (λ (k : Option ByteOrder). by_mark k (step (utf32 Big) 0 s)) q) (omega arith) (omega arith)
      ∙ ap (after 4 []) (run-behind order (drop 4 s) 0 (room - 0) ∙ ap (λ (x : ℕ). with_state (state_of order) (run_of (step (utf32 order)) 0 0 (drop 4 s) x)) z)
      ∙ pick-ahead true 4 [] (run_of (step (utf32 order)) 0 0 (drop 4 s) room) order (omega arith)
  run-ahead None [] room q = refl
  run-ahead None (b ∷ t) room q =
      ap (λ (k : Option ByteOrder). on_gives (by_mark k (step (utf32 Big) 0 (b ∷ t))) 0 room (λ next n x. run_of (plain_of step) next n t x)) q
      ∙ run-first b t room (step (utf32 Big) 0 (b ∷ t)) refl

-- ## Either way

to-stays : (u : Side) (t : Table) (settings : Settings) → Stays (to_step u t settings)
to-stays u t settings st s bs n next e = (to_step⇒Encoded t settings st u s bs n next e).stays

from-stays : (u : Side) (t : Table) (settings : Settings) → Stays (from_step u t settings)
unfolding from_step
from-stays u t settings st s bs n next e =
    given_by t.subchar st (st ≡ next) settings.skip (from_plain u t settings st s) bs n next e
    (λ q. from-plain-stays u t settings st s bs n next q)
    (λ on q b r. r)

pub from-short : (t : Table) (settings : Settings) (order : ByteOrder) (s : List ℕ) → length s < 4
    → from_step (utf32 order) t settings 0 s ≡ stop stopped.CutShort
from-short t settings order s h = from-stopped (utf32 order) t settings 0 s stopped.CutShort ((utf32-cut-short order s).1 h)

keep_state-sound : (step : SequenceStep) → Sound step → Sound (keep_state step)
keep_state-sound step so = sound-by (keep_state step) (λ st. sound-at (keep_state step) step st st (λ s. refl) so)

from_each : (t : Table) (settings : Settings) (order : ByteOrder) → Sound (from_step (utf32 order) t settings)
from_each t settings order = from-sound (utf32 order) (utf32-lawful order) t settings

module _ (t : Table) (settings : Settings) where
  from-in-sound : (e : Scheme) → Sound (from_step_in e t settings)
  from-in-sound scheme.Utf8 = keep_state-sound _ (from-sound (side_of scheme.Utf8) (lawful scheme.Utf8) t settings)
  from-in-sound scheme.Utf32Be = keep_state-sound _ (from-sound (side_of scheme.Utf32Be) (lawful scheme.Utf32Be) t settings)
  from-in-sound scheme.Utf32Le = keep_state-sound _ (from-sound (side_of scheme.Utf32Le) (lawful scheme.Utf32Le) t settings)
  from-in-sound scheme.Utf32 =
      sound-by (from_step_in scheme.Utf32 t settings)
      (plain-gives (λ u. from_step u t settings) (from_each t settings) (from-short t settings))

pub step_in-sound : (way : Way) (e : Scheme) (t : Table) (settings : Settings) → Sound (step_in way e t settings)
unfolding step_in
step_in-sound ToUnicode e t settings = keep_state-sound (to_step (side_of e) t settings) (to-sound (side_of e) t settings)
step_in-sound FromUnicode e t settings = from-in-sound t settings e

-- ## Runs

pub step_in-to-run : (e : Scheme) (t : Table) (settings : Settings) (st : ℕ) (s : List ℕ) (room : ℕ)
    → run_of (step_in ToUnicode e t settings) st 0 s room ≡ with_state st (to_side (side_of e) t settings s room)
unfolding step_in
step_in-to-run e t settings st s room =
    run-in_state (keep_state (to_step (side_of e) t settings)) (to_step (side_of e) t settings) (to-stays (side_of e) t settings) st (λ x. refl) s 0 room

run-kept : (u : Side) (t : Table) (settings : Settings) (st : ℕ) (s : List ℕ) (room : ℕ)
    → run_of (keep_state (from_step u t settings)) st 0 s room ≡ with_state st (run_of (from_step u t settings) 0 0 s room)
run-kept u t settings st s room = run-in_state (keep_state (from_step u t settings)) (from_step u t settings) (from-stays u t settings) st (λ x. refl) s 0 room

pub step_in-from-run : (e : Scheme) (t : Table) (settings : Settings) (p : Optional ByteOrder) (s : List ℕ) (room : ℕ)
    → let r = from_run (scheme_behind e p) t settings s room in
    run_of (step_in FromUnicode e t settings) (state_at p) 0 s room ≡ with_state (state_at (mark_after e p s r.read)) r
unfolding step_in
step_in-from-run scheme.Utf8 t settings p s room = run-kept (side_of scheme.Utf8) t settings (state_at p) s room
step_in-from-run scheme.Utf32Be t settings p s room = run-kept (utf32 Big) t settings (state_at p) s room
step_in-from-run scheme.Utf32Le t settings p s room = run-kept (utf32 Little) t settings (state_at p) s room
step_in-from-run scheme.Utf32 t settings (Some Big) s room =
    run-behind (λ u. from_step u t settings) (from_each t settings) (λ order. from-stays (utf32 order) t settings) Big s 0 room
step_in-from-run scheme.Utf32 t settings (Some Little) s room =
    run-behind (λ u. from_step u t settings) (from_each t settings) (λ order. from-stays (utf32 order) t settings) Little s 0 room
step_in-from-run scheme.Utf32 t settings None s room =
    run-ahead (λ u. from_step u t settings) (from_each t settings) (λ order. from-stays (utf32 order) t settings) (mark_at s) s room refl
