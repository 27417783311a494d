-- Skipping around any step (document 02, request 3).
-- skipping-sound   the step stays sound                          skipping-legal   52 is never given
-- skipping-off     off, it is the step itself                    skipping-splits  on, the run splits at an illegal sequence
-- part-alone       what a run read, converted by itself          length-alone     lengths touch nothing else of a run
use Rattle.std.specs.Prelude.{if◌then◌else◌}
use mathlib.Core.Path.{◌≡◌, refl, sym, ap, ◌∙◌}
use Prim.Native.Nat.{ℕ, ◌+◌, ◌-◌, ◌≤◌, ◌<◌}
use mathlib.Core.Bool.{Bool, true, false}
use mathlib.Core.List.{List, ◌++◌}
use native.Mathlib.Omega.{arith}
use borrow.Author.Tests.{leb-true, leb-false}
use lib.Dec.{leb}
use lib.ListN.{length, take, drop, length-append}
use lib.Seq.{drop-drop, take-add, drop_at, length-take-le}
use Rattle.lists.proofs.Cases.{pick-case}
use Rattle.utf.specs.declared.utf8.Stop.{Stop}
use Rattle.utf.specs.declared.utf8.Stop.TheVariants as stopped
use Rattle.convert.specs.Run.{Gives, give, stop, SequenceStep, Run, run_of, after, ended_with, run_number}
use Rattle.convert.specs.Step.{skipped, skipping}
use Rattle.convert.specs.loops.Laws.{split_by, split_at, whole_part}
use Rattle.convert.specs.declared.RunEnd.{RunEnd}
use Rattle.convert.specs.declared.RunEnd.TheVariants.{AllRead, OutputFull, BadTable, Stopped}
use Rattle.convert.specs.loops.Inner.{Sound, Settled, GivesAlone}
use Rattle.convert.proofs.Runs.{run-stop, run-full, run_more, every-run, after-after, after_none}

-- off: nothing changes
skipped-off : (bs : List ℕ) (row : ℕ) (g : Gives) → skipped false bs row g ≡ g
skipped-off bs row (give cs n next) = refl
skipped-off bs row (stop stopped.CutShort) = refl
skipped-off bs row (stop (stopped.Illegal n)) = refl
skipped-off bs row (stop stopped.Unassigned) = refl

pub skipping-off : (bs : List ℕ) (step : SequenceStep) → skipping false bs step ≡ step
skipping-off bs step = λ i row s. skipped-off bs row (step row s) i

module _ (bs : List ℕ) (row : ℕ) where
  -- what is given was given by the step, or stands for an illegal sequence
  pub given_by : (P : Type 0) (skip : Bool) (g : Gives) (cs : List ℕ) (n next : ℕ) → skipped skip bs row g ≡ give cs n next
      → (g ≡ give cs n next → P)
      → (skip ≡ true → g ≡ stop (stopped.Illegal n) → bs ≡ cs → row ≡ next → P)
      → P
  given_by P skip (give ds m x) cs n next e plain illegal = plain e
  given_by P skip (stop stopped.CutShort) cs n next e plain illegal = absurd (let z : ◌≡◌ {A = ℕ} 0 1 = cc in omega arith)
  given_by P true (stop (stopped.Illegal m)) cs n next e plain illegal =
      let q : m ≡ n = cc in
      let b : bs ≡ cs = cc in
      let r : row ≡ next = cc in
      illegal refl (ap (λ (k : ℕ). stop (stopped.Illegal k)) q) b r
  given_by P false (stop (stopped.Illegal m)) cs n next e plain illegal = absurd (let z : ◌≡◌ {A = ℕ} 0 1 = cc in omega arith)
  given_by P skip (stop stopped.Unassigned) cs n next e plain illegal = absurd (let z : ◌≡◌ {A = ℕ} 0 1 = cc in omega arith)

  -- what is given on any input is what the step says
  still-gives : (skip : Bool) (g : Gives) (cs : List ℕ) (n next : ℕ) (h : Gives) → skipped skip bs row g ≡ give cs n next
      → (g ≡ give cs n next → h ≡ give cs n next)
      → ((m : ℕ) → g ≡ stop (stopped.Illegal m) → h ≡ stop (stopped.Illegal m))
      → skipped skip bs row h ≡ give cs n next
  still-gives skip g cs n next h e same stays =
      given_by (skipped skip bs row h ≡ give cs n next) skip g cs n next e
      (λ q. ap (skipped skip bs row) (same q))
      (λ on q b r. ap (skipped skip bs row) (stays n q ∙ sym q) ∙ e)

  never-illegal : (n : ℕ) (g : Gives) → skipped true bs row g ≡ stop (stopped.Illegal n) → ⊥
  never-illegal n (give cs m x) e = let z : ◌≡◌ {A = ℕ} 0 1 = cc in omega arith
  never-illegal n (stop stopped.CutShort) e = let z : ◌≡◌ {A = ℕ} 0 1 = cc in omega arith
  never-illegal n (stop (stopped.Illegal m)) e = let z : ◌≡◌ {A = ℕ} 0 1 = cc in omega arith
  never-illegal n (stop stopped.Unassigned) e = let z : ◌≡◌ {A = ℕ} 0 1 = cc in omega arith

-- a stop is the step's own, and another step that has it stops alike
pub stopped_by_lem : (skip : Bool) (bs : List ℕ) (row : ℕ) (g : Gives) (w : Stop) → skipped skip bs row g ≡ stop w
    → (g ≡ stop w) × ((cs : List ℕ) → skipped skip cs row (stop w) ≡ stop w)
stopped_by_lem skip bs row (give ds m x) w e = absurd (let z : ◌≡◌ {A = ℕ} 0 1 = cc in omega arith)
stopped_by_lem skip bs row (stop stopped.CutShort) w e = (e, λ cs. ap (skipped skip cs row) (sym e) ∙ e)
stopped_by_lem true bs row (stop (stopped.Illegal m)) w e = absurd (let z : ◌≡◌ {A = ℕ} 0 1 = cc in omega arith)
stopped_by_lem false bs row (stop (stopped.Illegal m)) w e = (e, λ cs. ap (skipped false cs row) (sym e) ∙ e)
stopped_by_lem skip bs row (stop stopped.Unassigned) w e = (e, λ cs. ap (skipped skip cs row) (sym e) ∙ e)

module _ (skip : Bool) (bs : List ℕ) (step : SequenceStep) (so : Sound step) (se : Settled step) where
  -- ON OR OFF, around any sound and settled step
  pub skipping-sound : Sound (skipping skip bs step)
  skipping-sound = record {
    some = λ row s cs n next e. given_by bs row (0 < n) skip (step row s) cs n next e
        (λ q. so.some row s cs n next q)
        (λ on q b r. se.illegal-some row s n q);
    within = λ row s cs n next e. given_by bs row (n ≤ length s) skip (step row s) cs n next e
        (λ q. so.within row s cs n next q)
        (λ on q b r. se.illegal-within row s n q);
    grows = λ row s t cs n next e. still-gives bs row skip (step row s) cs n next (step row (s ++ t)) e
        (λ q. so.grows row s t cs n next q)
        (λ m q. se.illegal-stays row s t m q);
  }

module _ (bs : List ℕ) (step : SequenceStep) (so : Sound step) (se : Settled step) where
  abbrev skips : SequenceStep
  skips = skipping true bs step

  -- on: no run ends at an illegal sequence
  pub skipping-legal : (s : List ℕ) (st room n : ℕ) → (run_of skips st 0 s room).end ≡ Stopped (stopped.Illegal n) → ⊥
  skipping-legal s st room n =
      every-run skips (skipping-sound true bs step so se) (λ st s room r. r.end ≡ Stopped (stopped.Illegal n) → ⊥)
      (λ st room e. let z : ◌≡◌ {A = ℕ} 0 1 = cc in omega arith)
      (λ st s room h w q e. never-illegal bs st n (step st s) (q ∙ ap stop (let y : w ≡ stopped.Illegal n = cc in y)))
      (λ st s room h cs m next q l e. let z : ◌≡◌ {A = ℕ} 0 1 = cc in omega arith)
      (λ st s room h cs m next q l r ih e. ih e)
      s st room

  -- ## Split at an illegal sequence

  -- a part in front changes only where the split is counted from
  split_after : (n : ℕ) (cs s : List ℕ) (room : ℕ) (r : Run) (h : RunEnd)
      → after n cs (split_by skips bs (drop n s) (room - length cs) r h) ≡ split_by skips bs s room (after n cs r) h
  split_after n cs s room r AllRead = refl
  split_after n cs s room r OutputFull = refl
  split_after n cs s room r BadTable = refl
  split_after n cs s room r (Stopped stopped.CutShort) = refl
  split_after n cs s room r (Stopped stopped.Unassigned) = refl
  split_after n cs s room r (Stopped (stopped.Illegal k)) =
      let left : room - length cs - length r.bytes ≡ room - length (cs ++ r.bytes) = omega (arith, length-append cs r.bytes) in
      let far : n + (r.read + k) ≡ n + r.read + k = omega arith in
      let behind : drop (r.read + k) (drop n s) ≡ drop (n + r.read + k) s = drop-drop (r.read + k) n s ∙ ap (λ (m : ℕ). drop m s) far in
      after-after n r.read cs r.bytes _
      ∙ (λ i. after (n + r.read) (cs ++ r.bytes)
      (if leb (length bs) (left i) then after k bs (run_of skips r.state 0 (behind i) (left i - length bs)) else ended_with OutputFull r.state))

  split-stop : (st : ℕ) (s : List ℕ) (room : ℕ) → 0 < length s → (w : Stop) → step st s ≡ stop w
      → run_of skips st 0 s room ≡ split_at skips bs s room (ended_with (Stopped w) st)
  split-stop st s room h stopped.CutShort e = run-stop skips st s room h stopped.CutShort (ap (skipped true bs st) e)
  split-stop st s room h stopped.Unassigned e = run-stop skips st s room h stopped.Unassigned (ap (skipped true bs st) e)
  split-stop st s room h (stopped.Illegal n) e =
      let left : room ≡ room - 0 = omega arith in
      let far : n ≡ 0 + n = omega arith in
      let g : skips st s ≡ give bs n st = ap (skipped true bs st) e in
      pick-case (λ (r : Run). run_of skips st 0 s room ≡ r) (leb (length bs) room) _ _
      (λ q. run_more skips st s room h bs n st g (se.illegal-some st s n e) (leb-true (length bs) room q))
      (λ q. run-full skips st s room h bs n st g (leb-false (length bs) room q))
      ∙ (λ i. if leb (length bs) (left i) then after n bs (run_of skips st 0 (drop (far i) s) (left i - length bs)) else ended_with OutputFull st)
      ∙ sym (after_none _)

  pub skipping-splits : (s : List ℕ) (st room : ℕ) → run_of skips st 0 s room ≡ split_at skips bs s room (run_of step st 0 s room)
  skipping-splits =
      every-run step so (λ st s room r. run_of skips st 0 s room ≡ split_at skips bs s room r)
      (λ st room. refl)
      split-stop
      (λ st s room h cs n next e l. run-full skips st s room h cs n next (ap (skipped true bs st) e) l)
      (λ st s room h cs n next e l r ih.
      run_more skips st s room h cs n next (ap (skipped true bs st) e) (so.some st s cs n next e) l
      ∙ ap (after n cs) ih
      ∙ split_after n cs s room r r.end)

-- ## The parts by themselves

-- what a run read, converted alone, is read whole and gives the same
module _ (step : SequenceStep) (so : Sound step) (alone : GivesAlone step) where
  alone-more : (st : ℕ) (s : List ℕ) (room : ℕ) → 0 < length s → (cs : List ℕ) (n next : ℕ) → step st s ≡ give cs n next → length cs ≤ room
      → (r : Run) → run_of step next 0 (take r.read (drop n s)) (room - length cs) ≡ whole_part r
      → run_of step st 0 (take (n + r.read) s) room ≡ whole_part (after n cs r)
  alone-more st s room h cs n next e l r ih =
      let some = so.some st s cs n next e in
      let front = length-take-le n s (so.within st s cs n next e) in
      let long = length-append (take n s) (take r.read (drop n s)) in
      let g = so.grows st (take n s) (take r.read (drop n s)) cs n next (alone st s cs n next e) in
      let behind : drop n (take n s ++ take r.read (drop n s)) ≡ take r.read (drop n s) = drop_at (take n s) (take r.read (drop n s)) n front in
      ap (λ (x : List ℕ). run_of step st 0 x room) (take-add n r.read s)
      ∙ run_more step st (take n s ++ take r.read (drop n s)) room (omega arith) cs n next g some l
      ∙ ap (λ (x : List ℕ). after n cs (run_of step next 0 x (room - length cs))) behind
      ∙ ap (after n cs) ih

  pub part-alone : (s : List ℕ) (st room : ℕ) → let r = run_of step st 0 s room in run_of step st 0 (take r.read s) room ≡ whole_part r
  part-alone =
      every-run step so (λ st s room r. run_of step st 0 (take r.read s) room ≡ whole_part r)
      (λ st room. refl)
      (λ st s room h w e. refl)
      (λ st s room h cs n next e l. refl)
      alone-more

-- ## Lengths

-- two runs that differ in nothing but the length of an illegal sequence
pub record SameButLength (r q : Run) : Type 0 where
  pub number : run_number r ≡ run_number q
  pub read : r.read ≡ q.read
  pub bytes : r.bytes ≡ q.bytes
  pub state : r.state ≡ q.state

-- illegal sequences, their lengths measured otherwise
abbrev measured : (List ℕ → ℕ → ℕ) → List ℕ → Gives → Gives
measured len s (give cs n next) = give cs n next
measured len s (stop stopped.CutShort) = stop stopped.CutShort
measured len s (stop (stopped.Illegal n)) = stop (stopped.Illegal (len s n))
measured len s (stop stopped.Unassigned) = stop stopped.Unassigned

module _ (step : SequenceStep) (so : Sound step) (len : List ℕ → ℕ → ℕ) where
  abbrev otherwise : SequenceStep
  otherwise st s = measured len s (step st s)

  same : (r : Run) → SameButLength r r
  same r = record { number = refl; read = refl; bytes = refl; state = refl }

  stops_same : (st : ℕ) (s : List ℕ) (room : ℕ) → 0 < length s → (w : Stop) → step st s ≡ stop w
      → SameButLength (run_of otherwise st 0 s room) (ended_with (Stopped w) st)
  stops_same st s room h stopped.CutShort e = rw (run-stop otherwise st s room h stopped.CutShort (ap (measured len s) e)) (same _)
  stops_same st s room h stopped.Unassigned e = rw (run-stop otherwise st s room h stopped.Unassigned (ap (measured len s) e)) (same _)
  stops_same st s room h (stopped.Illegal n) e =
      rw (run-stop otherwise st s room h (stopped.Illegal (len s n)) (ap (measured len s) e))
      (record { number = refl; read = refl; bytes = refl; state = refl })

  -- WITH SKIPPING OFF a length touches nothing else: however illegal sequences are measured, number, bytes read and output are the same
  pub length-alone : (s : List ℕ) (st room : ℕ) → SameButLength (run_of otherwise st 0 s room) (run_of step st 0 s room)
  length-alone =
      every-run step so (λ st s room r. SameButLength (run_of otherwise st 0 s room) r)
      (λ st room. same (ended_with AllRead st))
      stops_same
      (λ st s room h cs n next e l. rw (run-full otherwise st s room h cs n next (ap (measured len s) e) l) (same _))
      (λ st s room h cs n next e l r ih.
      rw (run_more otherwise st s room h cs n next (ap (measured len s) e) (so.some st s cs n next e) l)
      (record { number = ih.number; read = ap (λ (k : ℕ). n + k) ih.read; bytes = ap (λ (x : List ℕ). cs ++ x) ih.bytes; state = ih.state }))
