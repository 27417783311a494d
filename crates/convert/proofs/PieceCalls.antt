-- Any list of calls on a frame, and closes behind them, give what the conversion in one piece gives (document 02, request 4).
use Rattle.std.specs.Prelude.{None}
use Rattle.std.specs.Prelude.{if◌then◌else◌}
use mathlib.Core.Path.{◌≡◌, refl, sym, ap, subst, ◌∙◌}
use Prim.Native.Nat.{ℕ, ◌+◌, ◌-◌, ◌≤◌, ◌<◌}
use mathlib.Core.List.{List, [], ◌∷◌, ◌++◌, append_assoc}
use mathlib.Core.Bool.{true}
use mathlib.Core.Logic.{◌⊎◌, inl}
use native.Mathlib.Omega.{arith}
use native.Mathlib.Nat.{zero-add}
use borrow.Author.Tests.{leb-true, leb-false}
use lib.Dec.{leb}
use lib.ListN.{length}
use Rattle.lists.specs.Order.{All}
use Rattle.lists.proofs.Append.{All-++⁺}
use Rattle.lists.proofs.Order.{All-⇒}
use Rattle.lists.proofs.Cases.{pick-case, pick_yes}
use Rattle.utf.specs.Scheme.{side_of, utf32}
use Rattle.utf.specs.declared.scheme.Scheme.{Scheme}
use Rattle.utf.specs.declared.scheme.Scheme.TheVariants as scheme
use Rattle.table.specs.Limits.{limits}
use Rattle.table.specs.States.{Rows}
use Rattle.table.specs.Codes.{AllByte}
use Rattle.table.specs.Meaning.{Table, steps_of}
use Rattle.table.specs.Rules.{t9, Keeps}
use Rattle.table.specs.Slices.{Slices}
use Rattle.table.specs.Memory.{table_in, Form, Proper}
use Rattle.table.specs.Valid.{valid}
use Rattle.table.specs.Forms.{SameTable}
use Rattle.table.specs.declared.valid.Record.{Record}
use Rattle.convert.specs.Run.{SequenceStep, Run, run_of}
use Rattle.convert.specs.Convert.{mark_of, to_side, to_run, from_run}
use Rattle.convert.specs.Pieces.{Carry, fresh, PieceRun, idle, piece_on, unless, keep_state, plain_step, step_in, due_in, due_state, past_due, led, piece_behind}
use Rattle.convert.specs.Pieces.{piece_in, close_in, kept_fits, carry_in, kept_as, answered_piece, piece_tested, close_tested, piece_guarded}
use Rattle.convert.specs.PieceClaims.{one_run, fresh_kept, PieceCall, InTurn, Closing, read_by, written_by, last_end, last_kept, SameAsWhole, Unrefused, Ample}
use Rattle.convert.specs.PieceClaims.{InPieces}
use Rattle.convert.specs.loops.Inner.{AtMost}
use Rattle.convert.specs.loops.Carried.{scheme_behind}
use Rattle.convert.specs.loops.Laws.{NotFull}
use Rattle.convert.specs.declared.RunEnd.TheVariants.{AllRead, OutputFull, Stopped}
use Rattle.convert.specs.declared.Settings.{Settings}
use Rattle.convert.specs.declared.pieces.Way.{Way}
use Rattle.convert.specs.declared.pieces.Way.TheVariants.{ToUnicode, FromUnicode}
use Rattle.convert.specs.declared.pieces.Kept.{Kept}
use Rattle.convert.specs.declared.pieces.PieceEnd.{PieceEnd}
use Rattle.convert.specs.declared.pieces.PieceEnd.TheVariants.{Ended}
use Rattle.convert.proofs.Schemes.{write_in-full, write_in-mark}
use Rattle.convert.proofs.LoadedText.{steps-same, to_same, from-same, kept, held}
use Rattle.convert.proofs.PieceRuns.{onward}
use Rattle.convert.proofs.KeptForms.{carry_in-kept_as, kept_as-fresh}
use Rattle.convert.proofs.PieceSteps.{step_in-to-run, step_in-from-run}
use Rattle.convert.proofs.PieceStops.{step_in-four-to, step_in-four-from}
use Rattle.convert.proofs.PieceStates.{Passes}
use Rattle.convert.proofs.PieceCloses.{answer_in, close-read, EachClose, LastClose, Closed, all_closed}
use Rattle.convert.proofs.PieceTurns.{Same, Alike, Each, Done, all_done, Doing⇒Passes, Told, Doing⇒Told}

-- ## Lists of calls

last_end-++ : (h : PieceEnd) (cs ds : List PieceCall) → last_end h (cs ++ ds) ≡ last_end (last_end h cs) ds
last_end-++ h [] ds = refl
last_end-++ h (c ∷ cs) ds = last_end-++ c.end cs ds

last_kept-++ : (k : Kept) (cs ds : List PieceCall) → last_kept k (cs ++ ds) ≡ last_kept (last_kept k cs) ds
last_kept-++ k [] ds = refl
last_kept-++ k (c ∷ cs) ds = last_kept-++ c.kept cs ds

read_by-++ : (cs ds : List PieceCall) → read_by (cs ++ ds) ≡ read_by cs + read_by ds
read_by-++ [] ds = sym (zero-add (read_by ds))
read_by-++ (c ∷ cs) ds = let r = read_by-++ cs ds in omega arith

written_by-++ : (cs ds : List PieceCall) → written_by (cs ++ ds) ≡ written_by cs ++ written_by ds
written_by-++ [] ds = refl
written_by-++ (c ∷ cs) ds = ap (λ (x : List ℕ). c.output ++ x) (written_by-++ cs ds) ∙ sym (append_assoc c.output (written_by cs) (written_by ds))

-- ## The whole, behind its mark

scheme_behind-Ahead : (e : Scheme) → scheme_behind e None ≡ e
scheme_behind-Ahead scheme.Utf8 = refl
scheme_behind-Ahead scheme.Utf32Be = refl
scheme_behind-Ahead scheme.Utf32Le = refl
scheme_behind-Ahead scheme.Utf32 = refl

module _ (e : Scheme) (t : Table) (settings : Settings) (frame : List ℕ) (room : ℕ) where
  mark-fits : NotFull (to_run e t settings frame room) → length (mark_of e) ≤ room
  mark-fits f =
      pick-case (λ (x : ℕ). length (mark_of e) ≤ room) (leb (length (mark_of e)) room) 0 0
      (λ q. leb-true _ _ q)
      (λ q. absurd (f (ap (λ (r : Run). r.end) (write_in-full (λ u. to_side u t settings frame) e room (leb-false _ _ q)))))

  behind-mark : (way : Way) → NotFull (one_run way e t settings frame room)
      → Alike (one_run way e t settings frame room) (due_in way e 0) (run_of (step_in way e t settings) (due_state way e 0) 0 frame (room - length (due_in way e 0)))
  behind-mark ToUnicode f =
      let w = write_in-mark (λ u. to_side u t settings frame) e room (mark-fits f) in
      let q = step_in-to-run e t settings (due_state ToUnicode e 0) frame (room - length (mark_of e)) in
      record {
        end = ap (λ (r : Run). r.end) w ∙ sym (ap (λ (r : Run). r.end) q);
        read = ap (λ (r : Run). r.read) w ∙ zero-add _ ∙ sym (ap (λ (r : Run). r.read) q);
        bytes = ap (λ (r : Run). r.bytes) w ∙ sym (ap (λ (r : Run). mark_of e ++ r.bytes) q);
      }
  behind-mark FromUnicode f =
      let z : room - 0 ≡ room = omega arith in
      let q = ap (run_of (step_in FromUnicode e t settings) 0 0 frame) z ∙ step_in-from-run e t settings None frame room in
      let w = ap (λ (x : Scheme). from_run x t settings frame room) (scheme_behind-Ahead e) in
      record {
        end = sym (ap (λ (r : Run). r.end) q ∙ ap (λ (r : Run). r.end) w);
        read = sym (ap (λ (r : Run). r.read) q ∙ ap (λ (r : Run). r.read) w);
        bytes = sym (ap (λ (r : Run). r.bytes) q ∙ ap (λ (r : Run). r.bytes) w);
      }

-- ## On a memory in the form of a table

step_in-same : (t u : Table) → SameTable u t → t9 t.lines ≡ true → (way : Way) (e : Scheme) (settings : Settings)
    → step_in way e u settings ≡ step_in way e t settings
unfolding step_in
step_in-same t u s apart ToUnicode e settings = ap keep_state (to_same t u s apart (side_of e) settings)
step_in-same t u s apart FromUnicode scheme.Utf8 settings = ap keep_state (from-same t u s apart (side_of scheme.Utf8) settings)
step_in-same t u s apart FromUnicode scheme.Utf32Be settings = ap keep_state (from-same t u s apart (side_of scheme.Utf32Be) settings)
step_in-same t u s apart FromUnicode scheme.Utf32Le settings = ap keep_state (from-same t u s apart (side_of scheme.Utf32Le) settings)
step_in-same t u s apart FromUnicode scheme.Utf32 settings = λ i. plain_step (λ order. from-same t u s apart (utf32 order) settings i)

step_in-four : (way : Way) (e : Scheme) (t : Table) (settings : Settings) → Proper t → Keeps limits t → AtMost 4 (step_in way e t settings)
step_in-four ToUnicode e t settings p k = step_in-four-to e t settings
step_in-four FromUnicode e t settings p k = step_in-four-from limits t k p.sub-bytes e settings

module _ (t : Table) (p : Proper t) (ks : Keeps limits t) (rec : Record) (m : Slices) (form : Form limits t rec m) where
  module _ (way : Way) (e : Scheme) (settings : Settings) where
    piece_in-same : (k : Carry) (piece : List ℕ) (room : ℕ) → piece_in way e (table_in rec m) settings k piece room ≡ piece_in way e t settings k piece room
    unfolding piece_behind
    piece_in-same k piece room =
        ap (λ (x : SequenceStep). unless k.stands k (let due = due_in way e k.state in
        if leb (length due) room then led due (piece_on x (past_due way e k) piece (room - length due)) else idle OutputFull k))
        (step_in-same t (table_in rec m) (held t p ks rec m form) ks.so_far.rule9 way e settings)

    module _ (k : Carry) (h : Passes way e t settings k) where
      unrefused : (r : PieceRun) → piece_guarded way e limits rec m settings (kept_as k) r ≡ answered_piece r
      unrefused r =
          pick_yes (valid limits rec m) _ _ (kept t p ks rec m form)
          ∙ pick_yes (kept_fits way e (steps_of (table_in rec m)) settings (kept_as k)) _ _
          (ap (λ (rows : Rows). kept_fits way e rows settings (kept_as k)) (steps-same t (table_in rec m) (held t p ks rec m form) ks.so_far.rule9) ∙ h.fits)

      back : carry_in (kept_as k) ≡ k
      back = carry_in-kept_as k h.bytes h.few h.state

      piece-held : (piece : List ℕ) (room : ℕ) → piece_tested way e limits rec m settings (kept_as k) piece room
          ≡ answered_piece (piece_in way e t settings k piece room)
      unfolding piece_tested
      piece-held piece room =
          unrefused (piece_in way e (table_in rec m) settings (carry_in (kept_as k)) piece room)
          ∙ ap (λ (x : Carry). answered_piece (piece_in way e (table_in rec m) settings x piece room)) back ∙ ap answered_piece (piece_in-same k piece room)

      close-held : (room : ℕ) → close_tested way e limits rec m settings (kept_as k) room ≡ answered_piece (close_in way e k room)
      unfolding close_tested
      close-held room = unrefused (close_in way e (carry_in (kept_as k)) room) ∙ ap (λ (x : Carry). answered_piece (close_in way e x room)) back

    module _ (frame : List ℕ) (bytes : AllByte frame) (room : ℕ) (enough : NotFull (one_run way e t settings frame room)) (cs closes : List PieceCall)
        (turn : InTurn frame fresh_kept cs) (closing : Closing (last_kept fresh_kept cs) closes)
        (calls : All (λ c. answer_in c ≡ piece_tested way e limits rec m settings c.came c.piece c.room) cs)
        (ends : All (λ c. answer_in c ≡ close_tested way e limits rec m settings c.came c.room) closes) where
      abbrev whole : Run
      whole = one_run way e t settings frame room

      abbrev space : ℕ
      space = room - length (due_in way e 0)

      alike : Alike whole (due_in way e 0) (run_of (step_in way e t settings) (due_state way e 0) 0 frame space)
      alike = behind-mark e t settings frame room way enough

      spacious : NotFull (run_of (step_in way e t settings) (due_state way e 0) 0 frame space)
      spacious z = enough (alike.end ∙ z)

      four : AtMost 4 (step_in way e t settings)
      four = step_in-four way e t settings p ks

      done : Done way e t settings four frame bytes space spacious (piece_tested way e limits rec m settings) (λ k h. piece-held k h) (idle AllRead fresh) cs
      done =
          all_done way e t settings four frame bytes space spacious (piece_tested way e limits rec m settings) (λ k h. piece-held k h) cs (idle AllRead fresh)
          (inl (record { is = refl; told = λ w z. let z : ◌≡◌ {A = ℕ} 0 1 = cc in omega arith }))
          (subst (λ (k : Kept). InTurn frame k cs) (sym kept_as-fresh) turn) calls

      abbrev last : PieceRun
      last = done.last

      passes : Passes way e t settings last.carry
      passes = Doing⇒Passes way e t settings four frame bytes space spacious last done.doing

      told : Told way e t settings four frame bytes space spacious whole alike last
      told = Doing⇒Told way e t settings four frame bytes space spacious whole alike last done.doing

      last-kept : last_kept fresh_kept cs ≡ kept_as last.carry
      last-kept = ap (λ (k : Kept). last_kept k cs) (sym kept_as-fresh) ∙ done.kept

      closed : Closed way e last.carry closes
      closed = all_closed way e last.carry passes.few (close_tested way e limits rec m settings) (close-held last.carry passes) closes
          (subst (λ (k : Kept). Closing k closes) last-kept closing) ends

      same-cs : Same whole last → SameAsWhole whole cs
      same-cs s =
          let len : (last_kept fresh_kept cs).bytes.len ≡ length last.carry.bytes = ap (λ (k : Kept). k.bytes.len) last-kept in
          let r = done.read in
          let q = s.place in
          record { answer = done.end ∙ ap Ended s.answer; place = omega arith; output = sym done.bytes ∙ s.output }

      same-all : (l : LastClose way e last.carry closes) → Same whole (onward last (close_in way e last.carry l.room))
          → SameAsWhole whole (cs ++ closes)
      same-all l s =
          let c = close_in way e last.carry l.room in
          let kept : last_kept fresh_kept (cs ++ closes) ≡ kept_as c.carry = last_kept-++ fresh_kept cs closes ∙ l.kept (last_kept fresh_kept cs) in
          let len : (last_kept fresh_kept (cs ++ closes)).bytes.len ≡ length c.carry.bytes = ap (λ (k : Kept). k.bytes.len) kept in
          let r = done.read in
          let q = s.place in
          let z = close-read way e last.carry l.room in
          let y = closed.read in
          let x = read_by-++ cs closes in
          record {
            answer = last_end-++ (Ended AllRead) cs closes ∙ l.end (last_end (Ended AllRead) cs) ∙ ap Ended s.answer;
            place = omega arith;
            output = written_by-++ cs closes ∙ ap (λ (x : List ℕ). x ++ written_by closes) (sym done.bytes)
                ∙ ap (λ (x : List ℕ). last.bytes ++ x) l.output ∙ s.output;
          }

      abbrev OneEach : PieceCall → Type 0
      OneEach = Each way e t settings four frame bytes space spacious

      abbrev OneClose : PieceCall → Type 0
      OneClose = EachClose way e last.carry

      -- THE THEOREM: any list of calls on a frame, and closes behind them, give what the conversion in one piece gives
      pub in-pieces : InPieces way e whole frame cs closes
      in-pieces =
          let r = done.read in
          let len : (last_kept fresh_kept cs).bytes.len ≡ length last.carry.bytes = ap (λ (k : Kept). k.bytes.len) last-kept in
          record {
            unrefused = All-++⁺ Unrefused cs closes (All-⇒ {P = OneEach} {Q = Unrefused} (λ c h. h.unrefused) cs done.each)
                (All-⇒ {P = OneClose} {Q = Unrefused} (λ c h. h.unrefused) closes closed.each);
            few = All-++⁺ (λ c. c.kept.bytes.len ≤ 3) cs closes (All-⇒ {P = OneEach} {Q = λ c. c.kept.bytes.len ≤ 3} (λ c h. h.few) cs done.each)
                (All-⇒ {P = OneClose} {Q = λ c. c.kept.bytes.len ≤ 3} (λ c h. h.few) closes closed.each);
            inside = omega (arith, told.inside);
            behind = omega (arith, told.behind);
            output = (told.output.0, told.output.1 ∙ ap (λ (x : List ℕ). x ++ told.output.0) done.bytes);
            stops = λ w z. let d = done.end in let y : last.end ≡ Stopped w = cc in same-cs (told.stops w y);
            ends = λ z f. let l = closed.last f in same-all l (told.closes (omega arith) l.room l.not_full);
            all_read = All-⇒ {P = OneEach} {Q = λ c. c.end ≡ Ended AllRead → c.read ≡ length c.piece} (λ c h. h.all) cs done.each;
            moves = All-⇒ {P = OneEach} {Q = λ c. Ample way e 1 c → c.end ≡ Ended OutputFull → (0 < c.read) ⊎ (c.kept.bytes.len < c.came.bytes.len)}
                (λ c h. h.moves) cs done.each;
            never-full = All-⇒ {P = OneEach} {Q = λ c. Ample way e (c.came.bytes.len + length c.piece) c → c.end ≡ Ended OutputFull → ⊥}
                (λ c h. h.never-full) cs done.each;
          }
