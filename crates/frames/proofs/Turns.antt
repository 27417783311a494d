-- A loop on its way through a piece: what is done, and then what is left to report, is the whole call.
use Rattle.std.proofs.Common.{◌≡◌, ℕ, ◌+◌, ◌-◌, ◌<◌, ◌≤◌, List, [], ◌++◌, length, take, drop, sym, refl, ap, ◌∙◌, append_assoc, append-nil, add_assoc, zero-add, arith, length-append, length-drop, take-append-drop, length-take-le, drop-drop, take_at, drop_at}
use Rattle.lists.specs.Place.{placed}
use Rattle.lists.proofs.Front.{≤⇒length-take}
use Rattle.frames.specs.Lines.{put_into, room_after}
use Rattle.frames.specs.Stream.{InputLine, whole, PieceStep, ended, unended, piece_step, partial_in, partial_of, kept_in, taken_answer, taken_into}
use Rattle.frames.specs.Report.{Reporting, stopped_in, reporting_after, reporting_of, progress_of}
use Rattle.std.specs.Prelude.{Option as Returned, Some, None}
use Rattle.frames.specs.declared.lines.Taken.TheVariants as taken
use Rattle.frames.specs.declared.report.Progress.{Progress}
use Rattle.frames.proofs.Pieces.{held_in-kept_in}
use Rattle.frames.proofs.Writes.{was-put, was-full}
use Rattle.frames.proofs.Fronts.{put_front}
use Rattle.frames.proofs.Reports.{Ended, step-ended, kept-length, held_in-none, reporting-end, reporting-part, reporting-full, reporting-more, reporting-moves, reporting-within, reporting-fits}

-- what the answer for a step tells: the line or the piece came to its end
record WasLine (at : ℕ) (memory : List ℕ) (st : PieceStep) (next : ℕ) (p : Returned ℕ) (memory' : List ℕ) : Type 0 where
  pub count : ℕ
  pub line : InputLine
  pub step : st ≡ ended count line
  pub place : next ≡ at + count
  pub answer : p ≡ partial_of line
  pub held : partial_in memory' p ≡ line
  pub kept : memory' ≡ kept_in memory line

record WasMore (memory : List ℕ) (st : PieceStep) (p : Returned ℕ) (memory' : List ℕ) : Type 0 where
  pub line : InputLine
  pub step : st ≡ unended line
  pub answer : p ≡ partial_of line
  pub kept : memory' ≡ kept_in memory line

module _ (at : ℕ) (memory memory' : List ℕ) (p : Returned ℕ) where
  was-line : (st : PieceStep) (next : ℕ) → taken.Line next p ≡ taken_answer at st → memory' ≡ taken_into memory st → WasLine at memory st next p memory'
  unfolding taken_answer taken_into
  was-line (ended n l) next e k =
      let a : p ≡ partial_of l = cc in
      record { count = n; line = l; step = refl; place = cc; answer = a; held = rw (k, a) (held_in-kept_in memory l); kept = k }
  was-line (unended l) next e k = let z : ◌≡◌ {A = ℕ} 0 1 = cc in absurd (omega arith)

  was-more : (st : PieceStep) → taken.More p ≡ taken_answer at st → memory' ≡ taken_into memory st → WasMore memory st p memory'
  unfolding taken_answer taken_into
  was-more (ended n l) e k = let z : ◌≡◌ {A = ℕ} 0 1 = cc in absurd (omega arith)
  was-more (unended l) e k = record { line = l; step = refl; answer = cc; kept = k }

-- one stretch behind another
reporting-after : (n m : ℕ) (a b : List ℕ) (r : Reporting) → reporting_after n a (reporting_after m b r) ≡ reporting_after (n + m) (a ++ b) r
reporting-after n m a b r = rw (add_assoc n m r.taken, append_assoc a b r.text)

-- where a call ends: the answer, memory and the output slice
abbrev pub Answered : ℕ → Reporting → List ℕ → Progress → List ℕ → List ℕ → Type 0
Answered from all old r line out = (r ≡ progress_of from all) × (line ≡ all.memory) × (out ≡ put_into old 0 all.text)

stopped-at : (from : ℕ) (all : Reporting) (n m : ℕ) (l : InputLine) (memory line : List ℕ) (at put : ℕ) (p : Returned ℕ) (out old : List ℕ) → all ≡ reporting_after n (take put out) (stopped_in m l memory)
    → put ≤ length out → length out ≡ length old → drop put out ≡ drop put old → at ≡ from + (n + m) → p ≡ partial_of l → line ≡ memory
    → Answered from all old (record { at = at; held = p; put = put }) line out
stopped-at from all n m l memory line at put p out old e i s d a b c =
    let k = length-take-le put out i in
    let t : take put out ++ [] ≡ take put out = append-nil (take put out) in
    (rw (e, t, k, a, b), rw e c, rw (e, t, put_front old (take put out) (omega arith), k, ← d) (sym (take-append-drop put out)))

-- on the way: the piece is read up to `at`, `put` bytes are put
pub record Going (write : InputLine → List ℕ) (chunk : List ℕ) (from : ℕ) (memory old : List ℕ) (h : InputLine) (line out : List ℕ) (kept : Returned ℕ) (at put : ℕ) : Type 0 where
  pub all : reporting_of write memory h (drop from chunk) (length old)
      ≡ reporting_after (at - from) (take put out) (reporting_of write line (partial_in line kept) (drop at chunk) (length out - put))
  pub begun : from ≤ at
  pub room : put ≤ length out
  pub same : length out ≡ length old
  pub as-was : drop put out ≡ drop put old
  pub size : length line ≡ length memory
  pub kept-partial : kept ≡ partial_of (partial_in line kept)

pub report-start : (write : InputLine → List ℕ) (chunk : List ℕ) (from : ℕ) (memory old : List ℕ) (h : InputLine) (kept : Returned ℕ)
    → kept ≡ partial_of h → partial_in memory kept ≡ h
    → Going write chunk from memory old h memory old kept from 0
report-start write chunk from memory old h kept e k =
    let z : from - from ≡ 0 = omega arith in
    let n : length old - 0 ≡ length old = omega arith in
    record {
      all = rw (z, n, k) (simp zero-add);
      begun = omega arith;
      room = omega arith;
      same = refl;
      as-was = refl;
      size = refl;
      kept-partial = rw k e;
    }

module _ {write : InputLine → List ℕ} {chunk : List ℕ} {from : ℕ} {memory old : List ℕ} {h : InputLine} {line out : List ℕ} {kept : Returned ℕ} {at put : ℕ}
    (g : Going write chunk from memory old h line out kept at put) where
  abbrev whole-call : Reporting
  whole-call = reporting_of write memory h (drop from chunk) (length old)

  -- the piece is read through
  pub ends : length chunk ≤ at → Answered from whole-call old (record { at = at; held = kept; put = put }) line out
  ends b =
      let d = length-drop at chunk in
      stopped-at from whole-call (at - from) 0 (partial_in line kept) line line at put kept out old
      (g.all ∙ ap (reporting_after (at - from) (take put out)) (reporting-end write line (partial_in line kept) (drop at chunk) (length out - put) (omega arith)))
      g.room g.same g.as-was (omega (arith, g.begun)) g.kept-partial refl

  -- the step from here
  abbrev step : PieceStep
  step = piece_step (length line) (partial_in line kept) (drop at chunk)

  module _ (left : at < length chunk) {line' : List ℕ} {p : Returned ℕ} where
    -- it ends within a line
    pub ends_more : taken.More p ≡ taken_answer at step → line' ≡ taken_into line step
        → Answered from whole-call old (record { at = length chunk; held = p; put = put }) line' out
    ends_more e k =
        let w = was-more at line line' p step e k in
        let d = length-drop at chunk in
        stopped-at from whole-call (at - from) (length (drop at chunk)) w.line (kept_in line w.line) line' (length chunk) put p out old
        (g.all ∙ ap (reporting_after (at - from) (take put out)) (reporting-part write line (partial_in line kept) (drop at chunk) (length out - put) (omega arith) w.line w.step))
        g.room g.same g.as-was (omega (arith, g.begun)) w.answer w.kept

    module _ (next : ℕ) (w : WasLine at line step next p line') where
      took : Ended (length line) (partial_in line kept) (drop at chunk) w.count w.line
      took = step-ended (length line) (partial_in line kept) (drop at chunk) w.count w.line w.step

      some-taken : (at < next) × (next ≤ length chunk)
      some-taken =
          let i = took in
          let d = length-drop at chunk in
          (omega (arith, w.place), omega (arith, w.place))

      -- the line's report has no room
      ends-before : (out' : List ℕ) → None ≡ room_after out put (write (partial_in line' p)) → out' ≡ put_into out put (write (partial_in line' p))
          → Answered from whole-call old (record { at = next - 1; held = p; put = put }) line' out'
      ends-before out' f b = go (was-full out put (write w.line) (f ∙ ap (λ l. room_after out put (write l)) w.held))
        where
          go : (length out < put + length (write w.line)) × (put_into out put (write w.line) ≡ out)
              → Answered from whole-call old (record { at = next - 1; held = p; put = put }) line' out'
          go q =
              let i = took in
              rw (b ∙ ap (λ l. put_into out put (write l)) w.held ∙ q.1)
              (stopped-at from whole-call (at - from) (w.count - 1) w.line (kept_in line w.line) line' (next - 1) put p out old
              (g.all ∙ ap (reporting_after (at - from) (take put out)) (reporting-full write line (partial_in line kept) (drop at chunk) (length out - put) w.count w.line w.step (omega (arith, g.room))))
              g.room g.same g.as-was (omega (arith, g.begun, w.place)) w.answer w.kept)

      -- a turn: the line's report is put behind what is put
      goes-on : (m : ℕ) (out' : List ℕ) → Some m ≡ room_after out put (write (partial_in line' p)) → out' ≡ put_into out put (write (partial_in line' p))
          → Going write chunk from memory old h line' out' (Some 0) next m
      unfolding partial_of
      goes-on m out' f b =
          let new = write w.line in
          let i = took in
          let q = was-put out put new m (f ∙ ap (λ l. room_after out put (write l)) w.held) in
          let z : out' ≡ placed out put new = b ∙ ap (λ l. put_into out put (write l)) w.held ∙ q.2 in
          let within : put + length new ≤ length out = q.0 in
          let c : m ≡ put + length new = q.1 in
          let head : length (take put out ++ new) ≡ m = length-append (take put out) new ∙ omega (arith, length-take-le put out g.room) in
          let front : take m out' ≡ take put out ++ new = rw z (take_at (take put out ++ new) (drop (put + length new) out) m head) in
          let tail : drop m out' ≡ drop (put + length new) out = rw z (drop_at (take put out ++ new) (drop (put + length new) out) m head) in
          let long : length out' ≡ length out = rw z (simp (length-append, length-drop, length-take-le put out g.room) (omega arith)) in
          let none : partial_in line' (Some 0) ≡ whole [] = held_in-none line' in
          let p1 : at - from + w.count ≡ next - from = omega (arith, w.place, g.begun) in
          let p2 : length out - put - length new ≡ length out' - m = omega arith in
          record {
            all = g.all
                ∙ ap (reporting_after (at - from) (take put out)) (reporting-more write line (partial_in line kept) (drop at chunk) (length out - put) w.count w.line w.step (omega arith))
                ∙ reporting-after (at - from) w.count (take put out) new _
                ∙ rw (front, none, ← p1, ← p2, w.place, w.kept, drop-drop w.count at chunk);
            begun = omega (arith, g.begun, w.place);
            room = omega arith;
            same = long ∙ g.same;
            as-was = tail ∙ rw (c, ← drop-drop (length new) put out, g.as-was) (drop-drop (length new) put old);
            size = rw w.kept (kept-length line w.line i.fitting) ∙ g.size;
            kept-partial = rw none;
          }

    -- the same three by what `take_line` ensures
    module _ {next : ℕ} (e : taken.Line next p ≡ taken_answer at step) (k : line' ≡ taken_into line step) where
      pub took-some : (at < next) × (next ≤ length chunk)
      took-some = some-taken next (was-line at line line' p step next e k)

      pub ends-full : {out' : List ℕ} → None ≡ room_after out put (write (partial_in line' p)) → out' ≡ put_into out put (write (partial_in line' p))
          → Answered from whole-call old (record { at = next - 1; held = p; put = put }) line' out'
      ends-full f b = ends-before next (was-line at line line' p step next e k) _ f b

      pub report-turn : {m : ℕ} {out' : List ℕ} → Some m ≡ room_after out put (write (partial_in line' p)) → out' ≡ put_into out put (write (partial_in line' p))
          → Going write chunk from memory old h line' out' (Some 0) next m
      report-turn f b = goes-on next (was-line at line line' p step next e k) _ _ f b

-- what the answer of a call tells its caller: how far it came, and where the bytes that it put end
module _ (write : InputLine → List ℕ) (memory : List ℕ) (h : InputLine) (chunk : List ℕ) (from : ℕ) (old : List ℕ) (r : Progress) (line out : List ℕ)
    (a : Answered from (reporting_of write memory h (drop from chunk) (length old)) old r line out) where
  pub answer-moves : from < length chunk → ((l : InputLine) → length (write l) ≤ length old) → from < r.at
  answer-moves b w =
      let d = length-drop from chunk in
      let m = reporting-moves write memory h (drop from chunk) (length old) (omega arith) w in
      rw a.0 (omega arith)

  pub answer-within : from ≤ length chunk → r.at ≤ length chunk
  answer-within b =
      let d = length-drop from chunk in
      let m = reporting-within write memory h (drop from chunk) (length old) in
      rw a.0 (omega arith)

  pub answer-put : (r.put ≤ length out) × (r.put ≡ length (take r.put out))
  answer-put =
      let text = (reporting_of write memory h (drop from chunk) (length old)).text in
      let m : length text ≤ length old = reporting-fits write memory h (drop from chunk) (length old) in
      let e : out ≡ text ++ drop (length text) old = a.2 ∙ put_front old text m in
      let n : length text ≤ length out = rw e (simp length-append (omega arith)) in
      let p : r.put ≡ length text = rw a.0 refl in
      ≤⇒length-take r.put out out refl (omega arith)
