-- How wide a frame's line is at most, and that a frame's output always fits.
use Rattle.std.proofs.Common.{◌≡◌, ℕ, ◌*◌, ◌<◌, ◌≤◌, false, eqb, List, length, refl, arith}
use mathlib.Core.Option.{Option, none, some}
use Rattle.lists.proofs.Cases.{pick-case}
use Rattle.utf.specs.declared.utf8.Stop.TheVariants as stopped
use Rattle.utf.specs.declared.scheme.Scheme.TheVariants.{Utf8}
use Rattle.table.specs.Limits.{limits}
use Rattle.table.specs.Slices.{Slices}
use Rattle.table.specs.Memory.{table_in}
use Rattle.table.specs.Valid.{valid}
use Rattle.table.specs.declared.valid.Record.{Record}
use Rattle.convert.specs.Run.{Run, ended_with, end_number}
use Rattle.utf.specs.Scheme.{utf8}
use Rattle.convert.specs.Step.{to_step, substituting}
use Rattle.convert.specs.Convert.{to_run, to_tested}
use Rattle.convert.specs.loops.Laws.{NotFull}
use Rattle.convert.specs.declared.RunEnd.{RunEnd}
use Rattle.convert.specs.declared.RunEnd.TheVariants.{AllRead, OutputFull, BadTable, Stopped}
use Rattle.convert.proofs.Whole.{fits, reads-within}
use Rattle.convert.proofs.Steps.{to-sound}
use Rattle.convert.proofs.SchemeText.{room-enough}
use Rattle.frames.specs.Lines.{bad_frame, parsed}
use Rattle.frames.specs.loops.Inner.{hex_count}
use Rattle.frames.specs.Stream.{InputLine, whole, too_long}
use Rattle.frames.specs.Report.{convert_in, frame_line, line_report}
use Rattle.frames.proofs.Digits.{count-below}
use Rattle.frames.proofs.RoundTrip.{parsed-short}
use Rattle.frames.proofs.Writes.{length-fixed, length-answer}

module _ (rec : Record) (m : Slices) where
  abbrev convert : List ℕ → Run
  convert = convert_in rec m

  -- what holds of every conversion, and of one that the test behind 60 refused
  of-frame : (P : Run → Type 0) (s : List ℕ) → P (to_run Utf8 (table_in rec m) (substituting false) s 16384) → P (ended_with BadTable 0) → P (convert s)
  unfolding convert_in to_tested
  of-frame P s h k = pick-case P (valid limits rec m) _ _ (λ t. h) (λ t. k)

  -- number 50 never shows
  pub never-full : (s : List ℕ) → length s ≤ 4096 → NotFull (convert s)
  never-full s h =
      of-frame NotFull s (room-enough Utf8 (table_in rec m) (substituting false) s 16384 (omega arith))
      (λ f. let z : ◌≡◌ {A = ℕ} 0 1 = cc in omega arith)

  read-most : (s : List ℕ) → (convert s).read ≤ length s
  read-most s =
      let so = to-sound utf8 (table_in rec m) (substituting false) in
      of-frame (λ (r : Run). r.read ≤ length s) s (reads-within (to_step utf8 (table_in rec m) (substituting false)) so s 0 16384) (omega arith)

  bytes_most : (s : List ℕ) → length (convert s).bytes ≤ 16384
  bytes_most s =
      let so = to-sound utf8 (table_in rec m) (substituting false) in
      of-frame (λ (r : Run). length r.bytes ≤ 16384) s (fits (to_step utf8 (table_in rec m) (substituting false)) so s 0 16384) (omega arith)

number-most : (h : RunEnd) → end_number h < 100
number-most AllRead = omega arith
number-most OutputFull = omega arith
number-most BadTable = omega arith
number-most (Stopped stopped.CutShort) = omega arith
number-most (Stopped (stopped.Illegal n)) = omega arith
number-most (Stopped stopped.Unassigned) = omega arith

digits-most : (n : ℕ) → n ≤ 16384 → hex_count n ≤ 32768
unfolding hex_count
digits-most n h = pick-case (λ (k : ℕ). k ≤ 32768) (eqb n 0) 1 (2 * n) (λ t. omega arith) (λ t. omega arith)

bad-fits : (convert : List ℕ → Run) → length (frame_line convert none) ≤ 32777
bad-fits convert = omega (arith, length-fixed bad_frame)

module _ (rec : Record) (lent : Slices) where
  frame-fits : (o : Option (List ℕ)) → ((s : List ℕ) → o ≡ some s → length s ≤ 4096) → length (frame_line (convert rec lent) o) ≤ 32777
  frame-fits none short = bad-fits (convert rec lent)
  frame-fits (some s) short =
      let r = convert rec lent s in
      let l = short s refl in
      let m = read-most rec lent s in
      let a = count-below 1 (end_number r.end) (omega (arith, number-most r.end)) in
      let b = count-below 3 r.read (omega arith) in
      let d = digits-most (length r.bytes) (bytes_most rec lent s) in
      omega (arith, length-answer (end_number r.end) r.read r.bytes)

  -- the widest line
  pub line-fits : (l : InputLine) → length (line_report (convert_in rec lent) l) ≤ 32777
  unfolding line_report
  line-fits (whole l) = frame-fits (parsed l) (parsed-short l)
  line-fits too_long = bad-fits (convert rec lent)
