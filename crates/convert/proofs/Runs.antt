-- A run, a sequence at a time, whatever the step; how to prove a law of every run; and a loop that is on the way through one.
use mathlib.Core.Path.{◌≡◌, refl, sym, ap, subst, ◌∙◌}
use Prim.Native.Nat.{ℕ, zero, suc, ◌+◌, ◌-◌, ◌≤◌, ◌<◌}
use mathlib.Core.List.{List, [], ◌∷◌, ◌++◌, append-nil, append_assoc}
use native.Mathlib.Omega.{arith}
use native.Mathlib.Nat.{add-zero, zero-add, add_assoc}
use borrow.Author.Tests.{le-leb, lt-leb, leb-true, leb-false}
use lib.Dec.{leb}
use lib.ListN.{length, take, drop, take-append-drop, length-append, length-drop}
use lib.Seq.{length-take-le, drop-nil, drop-drop, take_at, drop_at}
use Rattle.lists.specs.Place.{placed}
use Rattle.lists.proofs.Cases.{pick-case}
use Rattle.lists.proofs.Parts.{0<length-drop, length-drop≤0}
use Rattle.utf.specs.declared.utf8.Stop.{Stop}
use Rattle.convert.specs.Run.{Gives, give, stop, SequenceStep, Run, run_of, after, ended_with, on_gives, converted_of, put_out}
use Rattle.convert.specs.declared.RunEnd.{RunEnd}
use Rattle.convert.specs.declared.RunEnd.TheVariants.{AllRead, OutputFull, Stopped}
use Rattle.convert.specs.declared.Converted.{Converted}
use Rattle.convert.specs.loops.Inner.{Sound}

-- bytes of a sequence already cut are passed over
pub skip : (step : SequenceStep) (st k : ℕ) (s : List ℕ) (room : ℕ) → run_of step st k s room ≡ run_of step st 0 (drop k s) room
skip step st zero s room = refl
skip step st (suc k) [] room = refl
skip step st (suc k) (b ∷ t) room = skip step st k t room

open-run : (step : SequenceStep) (st : ℕ) (s : List ℕ) (room : ℕ) (o : Gives) → 0 < length s → step st s ≡ o → run_of step st 0 s room ≡ on_gives o st room (λ next n r. run_of step next n (drop 1 s) r)
open-run step st [] room o h e = absurd (omega arith)
open-run step st (b ∷ t) room o h e = ap (λ (x : Gives). on_gives x st room (λ next n r. run_of step next n t r)) e

-- one sequence: the end of the input, a stop, no space for what it gives, or on behind it
pub run_end : (step : SequenceStep) (st : ℕ) (s : List ℕ) (room : ℕ) → length s ≤ 0 → run_of step st 0 s room ≡ ended_with AllRead st
run_end step st [] room h = refl
run_end step st (b ∷ t) room h = absurd (omega arith)

module _ (step : SequenceStep) (st : ℕ) (s : List ℕ) (room : ℕ) (h : 0 < length s) where
  pub run-stop : (w : Stop) → step st s ≡ stop w → run_of step st 0 s room ≡ ended_with (Stopped w) st
  run-stop w e = open-run step st s room (stop w) h e

  module _ (bs : List ℕ) (n next : ℕ) (e : step st s ≡ give bs n next) where
    pub run-full : room < length bs → run_of step st 0 s room ≡ ended_with OutputFull st
    run-full l = open-run step st s room (give bs n next) h e ∙ simp (lt-leb (length bs) room l)

    pub run_more : 0 < n → length bs ≤ room → run_of step st 0 s room ≡ after n bs (run_of step next 0 (drop n s) (room - length bs))
    run_more p l =
        let d : 1 + (n - 1) ≡ n = omega arith in
        open-run step st s room (give bs n next) h e
        ∙ simp (le-leb (length bs) room l)
        (ap (after n bs) (skip step next (n - 1) (drop 1 s) _ ∙ rw (drop-drop (n - 1) 1 s, d)))

-- A LAW OF EVERY RUN, from state, input and space: it holds where all is read, where a sequence stops the run or does
-- not fit, and of a run behind a sequence where it holds of the run from there on
module _ (step : SequenceStep) (so : Sound step) (P : ℕ → List ℕ → ℕ → Run → Type 0)
    (all : (st room : ℕ) → P st [] room (ended_with AllRead st))
    (stops : (st : ℕ) (s : List ℕ) (room : ℕ) → 0 < length s → (w : Stop) → step st s ≡ stop w → P st s room (ended_with (Stopped w) st))
    (full : (st : ℕ) (s : List ℕ) (room : ℕ) → 0 < length s → (bs : List ℕ) (n next : ℕ) → step st s ≡ give bs n next → room < length bs → P st s room (ended_with OutputFull st))
    (more : (st : ℕ) (s : List ℕ) (room : ℕ) → 0 < length s → (bs : List ℕ) (n next : ℕ) → step st s ≡ give bs n next → length bs ≤ room
    → (r : Run) → P next (drop n s) (room - length bs) r → P st s room (after n bs r)) where
  by-gives : (st b : ℕ) (s : List ℕ) (room : ℕ) → ((next k x : ℕ) → P next (drop k s) x (run_of step next k s x)) → (o : Gives) → step st (b ∷ s) ≡ o
      → P st (b ∷ s) room (on_gives o st room (λ next n x. run_of step next n s x))
  by-gives st b s room ih (stop w) e = stops st (b ∷ s) room (omega arith) w e
  by-gives st b s room ih (give bs n next) e =
      let p = so.some st (b ∷ s) bs n next e in
      let d : suc (n - 1) ≡ n = omega arith in
      pick-case (P st (b ∷ s) room) (leb (length bs) room) _ _
      (λ q. more st (b ∷ s) room (omega arith) bs n next e (leb-true _ _ q) _
      (subst (λ (m : ℕ). P next (drop m (b ∷ s)) (room - length bs) (run_of step next (n - 1) s (room - length bs))) d (ih next (n - 1) (room - length bs))))
      (λ q. full st (b ∷ s) room (omega arith) bs n next e (leb-false _ _ q))

  by-input : (s : List ℕ) (st k room : ℕ) → P st (drop k s) room (run_of step st k s room)
  by-input [] st k room = rw (drop-nil k) (all st room)
  by-input (b ∷ s) st (suc k) room = by-input s st k room
  by-input (b ∷ s) st zero room = by-gives st b s room (λ next k x. by-input s next k x) (step st (b ∷ s)) refl

  pub every-run : (s : List ℕ) (st room : ℕ) → P st s room (run_of step st 0 s room)
  every-run s st room = by-input s st 0 room

-- two stretches are one, and nothing done changes nothing
pub after-after : (n m : ℕ) (bs cs : List ℕ) (r : Run) → after n bs (after m cs r) ≡ after (n + m) (bs ++ cs) r
after-after n m bs cs r = rw (add_assoc n m r.read, append_assoc bs cs r.bytes)

pub after_none : (r : Run) → after 0 [] r ≡ r
after_none r = rw (zero-add r.read)

-- where a run ends: the answer, and the output slice
stopped-at : (whole : Run) (h : RunEnd) (st at w : ℕ) (out old : List ℕ) → whole ≡ after at (take w out) (ended_with h st) → w ≤ length out → drop w out ≡ drop w old
    → (◌≡◌ {A = Converted} (record { end = h; read = at; written = w }) (converted_of whole)) × (out ≡ put_out whole old)
stopped-at whole h st at w out old e l d =
    let n = length-take-le w out l in
    (rw e (simp (add-zero, append-nil, n)), rw e (simp (append-nil, n) (rw (← d) (sym (take-append-drop w out)))))

-- on the way: `at` bytes are read, w are written; what is left, after what is done, is the whole run
pub record Going (step : SequenceStep) (first : ℕ) (s old out : List ℕ) (st at w : ℕ) : Type 0 where
  pub whole : run_of step first 0 s (length old) ≡ after at (take w out) (run_of step st 0 (drop at s) (length out - w))
  pub inside : at ≤ length s
  pub room : w ≤ length out
  pub same : length out ≡ length old
  pub kept : drop w out ≡ drop w old

pub run-start : (step : SequenceStep) (st : ℕ) (s out : List ℕ) → Going step st s out out st 0 0
run-start step st s out =
    let e : length out - 0 ≡ length out = omega arith in
    record { whole = rw e (simp zero-add); inside = omega arith; room = omega arith; same = refl; kept = refl }

module _ {step : SequenceStep} {first : ℕ} {s old out : List ℕ} {st at w : ℕ} (g : Going step first s old out st at w) where
  -- the answer and the output slice are those of the run
  abbrev pub Ended : RunEnd → Type 0
  Ended h = (◌≡◌ {A = Converted} (record { end = h; read = at; written = w }) (converted_of (run_of step first 0 s (length old)))) × (out ≡ put_out (run_of step first 0 s (length old)) old)

  ends : (h : RunEnd) → run_of step st 0 (drop at s) (length out - w) ≡ ended_with h st → Ended h
  ends h e = stopped-at (run_of step first 0 s (length old)) h st at w out old (g.whole ∙ ap (after at (take w out)) e) g.room g.kept

  pub ends-all : length s ≤ at → Ended AllRead
  ends-all h = ends AllRead (run_end step st (drop at s) (length out - w) (length-drop≤0 s at h))

  module _ (left : at < length s) where
    pub ends-stop : (why : Stop) → step st (drop at s) ≡ stop why → Ended (Stopped why)
    ends-stop why e = ends (Stopped why) (run-stop step st (drop at s) (length out - w) (0<length-drop s at left) why e)

    module _ (new : List ℕ) (n next : ℕ) (e : step st (drop at s) ≡ give new n next) where
      pub ends-full : length out < w + length new → Ended OutputFull
      ends-full l = ends OutputFull (run-full step st (drop at s) (length out - w) (0<length-drop s at left) new n next e (omega (arith, g.room)))

      -- a turn: what the sequence gives is put behind what is written, m bytes of it
      pub run-turn : 0 < n → n ≤ length (drop at s) → (m : ℕ) (out' : List ℕ) → m ≡ length new → w + length new ≤ length out → out' ≡ placed out w new → Going step first s old out' next (at + n) (w + m)
      run-turn some within m out' c l z =
          let head : length (take w out ++ new) ≡ w + m = length-append (take w out) new ∙ rw (length-take-le w out g.room, ← c) in
          let front : take (w + m) out' ≡ take w out ++ new = rw z (take_at (take w out ++ new) (drop (w + length new) out) (w + m) head) in
          let behind : drop (w + m) out' ≡ drop (w + length new) out = rw z (drop_at (take w out ++ new) (drop (w + length new) out) (w + m) head) in
          let long : length out' ≡ length out = rw z (simp (length-append, length-drop, length-take-le w out g.room) (omega arith)) in
          let i : length (drop at s) ≡ length s - at = length-drop at s in
          record {
            whole = g.whole
                ∙ ap (after at (take w out)) (run_more step st (drop at s) (length out - w) (0<length-drop s at left) new n next e some (omega arith))
                ∙ after-after at n (take w out) new _
                ∙ rw (front, drop-drop n at s) (ap (λ (k : ℕ). after (at + n) (take w out ++ new) (run_of step next 0 (drop (at + n) s) k)) (omega arith));
            inside = omega arith;
            room = omega arith;
            same = long ∙ g.same;
            kept = behind ∙ rw (← c, ← drop-drop m w out, g.kept) (drop-drop m w old);
          }
