-- Laws of any run whose step is sound: more space, more input, joined inputs, and an input made of sequences.
use mathlib.Core.Path.{◌≡◌, refl, sym, ap, ◌∙◌}
use Prim.Native.Nat.{ℕ, ◌+◌, ◌-◌, ◌*◌, ◌≤◌, ◌<◌}
use mathlib.Core.List.{List, [], ◌∷◌, ◌++◌, append-nil}
use native.Mathlib.Omega.{arith}
use native.Mathlib.Nat.{add-zero}
use lib.ListN.{length, drop, length-append, length-drop}
use lib.Seq.{drop-append-le, drop-append_seam, drop-drop, drop-length}
use Rattle.utf.specs.declared.utf8.Stop.{Stop}
use Rattle.convert.specs.Run.{give, stop, SequenceStep, Run, run_of, after, ended_with}
use Rattle.convert.specs.Claims.{all_read}
use Rattle.convert.specs.loops.Inner.{Sound, AtMost, Stays}
use Rattle.convert.specs.loops.Laws.{NotFull}
use Rattle.convert.specs.declared.RunEnd.{RunEnd}
use Rattle.convert.specs.declared.RunEnd.TheVariants.{AllRead, OutputFull, Stopped}
use Rattle.convert.proofs.Runs.{run-stop, run_more, every-run, after-after, after_none}

-- after a run on s: the run on what it left of s, with t behind that
abbrev pub resumed : SequenceStep → List ℕ → List ℕ → ℕ → Run → Run
resumed step s t room r = after r.read r.bytes (run_of step r.state 0 (drop r.read s ++ t) (room - length r.bytes))

module _ (step : SequenceStep) (so : Sound step) where
  -- any space that the output fits into gives the same, unless the answer was 50
  pub room-alike : (s : List ℕ) (st room : ℕ) → let r = run_of step st 0 s room in NotFull r → (m : ℕ) → length r.bytes ≤ m → run_of step st 0 s m ≡ r
  room-alike =
      every-run step so (λ st s room r. NotFull r → (m : ℕ) → length r.bytes ≤ m → run_of step st 0 s m ≡ r)
      (λ st room f m k. refl)
      (λ st s room h w e f m k. run-stop step st s m h w e)
      (λ st s room h bs n next e l f. absurd (f refl))
      (λ st s room h bs n next e l r ih f m k.
      let d = length-append bs r.bytes in
      run_more step st s m h bs n next e (so.some st s bs n next e) (omega arith) ∙ ap (after n bs) (ih f (m - length bs) (omega arith)))

  -- what is written fits
  pub fits : (s : List ℕ) (st room : ℕ) → length (run_of step st 0 s room).bytes ≤ room
  fits =
      every-run step so (λ st s room r. length r.bytes ≤ room)
      (λ st room. omega arith)
      (λ st s room h w e. omega arith)
      (λ st s room h bs n next e l. omega arith)
      (λ st s room h bs n next e l r ih. omega (arith, length-append bs r.bytes))

  -- so does more space
  pub more_room : (s : List ℕ) (st room m : ℕ) → NotFull (run_of step st 0 s room) → run_of step st 0 s (room + m) ≡ run_of step st 0 s room
  more_room s st room m f = room-alike s st room f (room + m) (omega (arith, fits s st room))

  -- where a sequence gives at most four bytes, four places to each byte of the input are enough
  pub four-enough : AtMost 4 step → (s : List ℕ) (st room : ℕ) → 4 * length s ≤ room → NotFull (run_of step st 0 s room)
  four-enough most =
      every-run step so (λ st s room r. 4 * length s ≤ room → NotFull r)
      (λ st room h f. let z : ◌≡◌ {A = ℕ} 0 1 = cc in omega arith)
      (λ st s room h w e l f. let z : ◌≡◌ {A = ℕ} 0 1 = cc in omega arith)
      (λ st s room h bs n next e l k f. omega (arith, most st s bs n next e))
      (λ st s room h bs n next e l r ih k f.
      let b = most st s bs n next e in
      let w = so.some st s bs n next e in
      let v = so.within st s bs n next e in
      ih (omega (arith, length-drop n s)) f)

  -- no more is read than there is
  pub reads-within : (s : List ℕ) (st room : ℕ) → (run_of step st 0 s room).read ≤ length s
  reads-within =
      every-run step so (λ st s room r. r.read ≤ length s)
      (λ st room. omega arith)
      (λ st s room h w e. omega arith)
      (λ st s room h bs n next e l. omega arith)
      (λ st s room h bs n next e l r ih. let w = so.within st s bs n next e in omega (arith, length-drop n s))

  -- an answer of 0 has read all
  pub all_read_lem : (s : List ℕ) (st room : ℕ) → (run_of step st 0 s room).end ≡ AllRead → (run_of step st 0 s room).read ≡ length s
  all_read_lem =
      every-run step so (λ st s room r. r.end ≡ AllRead → r.read ≡ length s)
      (λ st room f. refl)
      (λ st s room h w e f. absurd (let z : ◌≡◌ {A = ℕ} 0 1 = cc in omega arith))
      (λ st s room h bs n next e l f. absurd (let z : ◌≡◌ {A = ℕ} 0 1 = cc in omega arith))
      (λ st s room h bs n next e l r ih f.
      let w = so.within st s bs n next e in
      let i = ih f in
      omega (arith, length-drop n s))

  -- a stop is that of the sequence at the place read
  pub stops-there : (s : List ℕ) (st room : ℕ) (w : Stop) → let r = run_of step st 0 s room in r.end ≡ Stopped w → step r.state (drop r.read s) ≡ stop w
  stops-there s st room w =
      every-run step so (λ st s room r. r.end ≡ Stopped w → step r.state (drop r.read s) ≡ stop w)
      (λ st room f. absurd (let z : ◌≡◌ {A = ℕ} 0 1 = cc in omega arith))
      (λ st s room h v e f. let q : v ≡ w = cc in e ∙ ap stop q)
      (λ st s room h bs n next e l f. absurd (let z : ◌≡◌ {A = ℕ} 0 1 = cc in omega arith))
      (λ st s room h bs n next e l r ih f. ap (step r.state) (sym (drop-drop r.read n s)) ∙ ih f)
      s st room

  -- the state is the one it began in, where the step hands it on as it came
  pub state-stays : Stays step → (s : List ℕ) (st room : ℕ) → (run_of step st 0 s room).state ≡ st
  state-stays stays =
      every-run step so (λ st s room r. r.state ≡ st)
      (λ st room. refl)
      (λ st s room h w e. refl)
      (λ st s room h bs n next e l. refl)
      (λ st s room h bs n next e l r ih. ih ∙ sym (stays st s bs n next e))

  -- nothing done
  pub resumed-none : (h : RunEnd) (s t : List ℕ) (st room : ℕ) → run_of step st 0 (s ++ t) room ≡ resumed step s t room (ended_with h st)
  resumed-none h s t st room =
      let e : room - 0 ≡ room = omega arith in
      sym (after_none (run_of step st 0 (s ++ t) (room - 0)) ∙ ap (run_of step st 0 (s ++ t)) e)

  -- more input: the run on s ++ t is the run on s, however it ended, resumed with t
  pub resume : (s t : List ℕ) (st room : ℕ) → run_of step st 0 (s ++ t) room ≡ resumed step s t room (run_of step st 0 s room)
  resume s t st room =
      every-run step so (λ st s room r. run_of step st 0 (s ++ t) room ≡ resumed step s t room r)
      (λ st room. resumed-none AllRead [] t st room)
      (λ st s room h w e. resumed-none (Stopped w) s t st room)
      (λ st s room h bs n next e l. resumed-none OutputFull s t st room)
      (λ st s room h bs n next e l r ih.
      let p = so.some st s bs n next e in
      let m : room - length (bs ++ r.bytes) ≡ room - length bs - length r.bytes = rw (length-append bs r.bytes) (omega arith) in
      run_more step st (s ++ t) room (omega (arith, length-append s t)) bs n next (so.grows st s t bs n next e) p l
      ∙ rw (drop-append-le n s t (so.within st s bs n next e)) (ap (after n bs) ih ∙ after-after n r.read bs r.bytes _ ∙ rw (drop-drop r.read n s, m)))
      s st room

  -- an input that splits at a sequence boundary: the run on s answers 0, and that on s ++ t is it and then the run on t
  pub join : (s t : List ℕ) (st room : ℕ) → (run_of step st 0 s room).end ≡ AllRead
      → let r = run_of step st 0 s room in
      run_of step st 0 (s ++ t) room ≡ after (length s) r.bytes (run_of step r.state 0 t (room - length r.bytes))
  join s t st room f =
      let r = run_of step st 0 s room in
      resume s t st room
      ∙ ap (λ (n : ℕ). after n r.bytes (run_of step r.state 0 (drop n s ++ t) (room - length r.bytes))) (all_read_lem s st room f)
      ∙ rw (drop-length s)

-- a sequence, and what it gives
pub record InputOutput : Type 0 where
  pub input : List ℕ
  pub output : List ℕ

abbrev pub inputs : List InputOutput → List ℕ
inputs [] = []
inputs (p ∷ l) = p.input ++ inputs l

abbrev pub outputs : List InputOutput → List ℕ
outputs [] = []
outputs (p ∷ l) = p.output ++ outputs l

-- each gives its output whatever follows
abbrev pub GivesAll : SequenceStep → List InputOutput → Type 0
GivesAll step [] = Unit {0}
GivesAll step (p ∷ l) = (0 < length p.input) × ((rest : List ℕ) → step 0 (p.input ++ rest) ≡ give p.output (length p.input) 0) × GivesAll step l

-- an input made of sequences that give is read whole, and gives what they give
pub run_of-GivesAll : (step : SequenceStep) (l : List InputOutput) (room : ℕ) → GivesAll step l → length (outputs l) ≤ room → run_of step 0 0 (inputs l) room ≡ all_read (inputs l) (outputs l)
run_of-GivesAll step [] room g h = refl
run_of-GivesAll step (p ∷ l) room g h =
    let a = length-append p.output (outputs l) in
    let b = length-append p.input (inputs l) in
    run_more step 0 (p.input ++ inputs l) room (omega (arith, g.0)) p.output (length p.input) 0 (g.1 (inputs l)) g.0 (omega arith)
    ∙ rw (drop-append_seam p.input (inputs l)) (ap (after (length p.input) p.output) (run_of-GivesAll step l (room - length p.output) g.2 (omega arith)) ∙ rw b)

-- an input that is one sequence
pub run-one : (step : SequenceStep) (s bs : List ℕ) (room : ℕ) → 0 < length s → step 0 s ≡ give bs (length s) 0 → length bs ≤ room → run_of step 0 0 s room ≡ all_read s bs
run-one step s bs room h e l =
    run_more step 0 s room h bs (length s) 0 e h l ∙ rw (drop-length s, add-zero (length s), append-nil bs)
