-- Calls of `convert_piece` and `close`: on any memory, and any list of them on what the load of a text left.
use Rattle.std.specs.Prelude.{Some, None}
use Prim.Native.Nat.{ℕ, ◌<◌}
use native.Mathlib.Omega.{arith}
use mathlib.Core.Path.{◌≡◌, refl, sym, ap, ◌∙◌, subst}
use mathlib.Core.Logic.{◌↔◌}
use mathlib.Core.Bool.{Bool, true, false}
use mathlib.Core.Option.{Option, none, some}
use mathlib.Core.List.{List, [], ◌∷◌, ◌++◌, map}
use lib.Dec.{leb}
use lib.ListN.{length, take, drop}
use lib.Seq.{take_at}
use Rattle.lists.specs.Order.{All}
use Rattle.lists.proofs.Cases.{pick-case}
use Rattle.utf.specs.declared.utf8.Stop.{Stop}
use Rattle.utf.specs.declared.utf8.Stop.TheVariants as stopped
use Rattle.utf.specs.declared.scheme.Scheme.{Scheme}
use Rattle.table.specs.Limits.{limits}
use Rattle.table.specs.Codes.{AllByte}
use Rattle.table.specs.Meaning.{Table}
use Rattle.table.specs.Memory.{table_in}
use Rattle.table.specs.Load.{record_handed}
use Rattle.convert.specs.Run.{SequenceStep, run_of}
use Rattle.convert.specs.Pieces.{is_nothing, Carry, PieceRun, idle, is_cut_short, standing, keeping, ended_at, piece_on, unless, due_in, piece_behind}
use Rattle.convert.specs.Pieces.{piece_in, close_in, stands_as, stands_in, carry_in, kept_as, PieceAnswer, refused_piece, answered_piece, piece_guarded, piece_tested, close_tested}
use Rattle.convert.specs.PieceClaims.{one_run, fresh_kept, PieceCall, InTurn, Closing, last_kept, InPieces}
use Rattle.convert.specs.declared.RunEnd.TheVariants.{AllRead, OutputFull, BadTable, Stopped}
use Rattle.convert.specs.declared.Settings.{Settings}
use Rattle.convert.specs.declared.pieces.Way.{Way}
use Rattle.convert.specs.declared.pieces.Kept.{Kept}
use Rattle.convert.specs.declared.pieces.PieceEnd.{PieceEnd}
use Rattle.convert.specs.declared.pieces.PieceEnd.TheVariants.{Ended, BadKept}
use Rattle.convert.specs.declared.pieces.Pieced.{Pieced}
use Rattle.convert.proofs.KeptForms.{kept_as-fresh}
use Rattle.convert.proofs.PieceDue.{close_in-kept}
use Rattle.convert.proofs.PieceGuard.{guarded-60, guarded-42, guarded-on, guarded-stands}
use Rattle.convert.proofs.PieceCloses.{answer_in, close_in-case}
use Rattle.convert.proofs.PieceCalls.{in-pieces}
use Rattle.promises.specs.Calls.{LoadCall, left_after, AcceptedAs, PieceFunctionCall, CloseFunctionCall, PieceParts, piece_parts, close_parts}
use Rattle.promises.specs.Words.{AnswersPiece, DidNothing, memory_valid, kept_fitting, call_with, piece_call_of, close_call_of, PieceOn}
use Rattle.promises.proofs.LoadCalls.{leaves-form}

-- the definition's answers
abbrev piece_answer : PieceParts → PieceAnswer
piece_answer p = piece_tested p.way p.scheme limits p.table p.memory p.settings p.came p.piece (length p.lent)

abbrev close_answer : PieceParts → PieceAnswer
close_answer p = close_tested p.way p.scheme limits p.table p.memory p.settings p.came (length p.lent)

pub piece-answers : (c : PieceFunctionCall) → AnswersPiece (piece_answer (piece_parts c)) (piece_parts c)
piece-answers c = record { result = c.post.0; output = c.post.1.0; number = c.post.1.1.0; length = c.post.1.1.1 }

pub close-answers : (c : CloseFunctionCall) → AnswersPiece (close_answer (close_parts c)) (close_parts c)
close-answers c = record { result = c.post.0; output = c.post.1.0; number = c.post.1.1.0; length = c.post.1.1.1 }

-- ## Either, by what stands behind the tests

-- a call answers by a run behind the tests
abbrev Guarding : PieceParts → PieceRun → Type 0
Guarding p r = AnswersPiece (piece_guarded p.way p.scheme limits p.table p.memory p.settings p.came r) p

abbrev piece_run : PieceParts → PieceRun
piece_run p = piece_in p.way p.scheme (table_in p.table p.memory) p.settings (carry_in p.came) p.piece (length p.lent)

abbrev close_run : PieceParts → PieceRun
close_run p = close_in p.way p.scheme (carry_in p.came) (length p.lent)

piece-guarding : (c : PieceFunctionCall) → Guarding (piece_parts c) (piece_run (piece_parts c))
unfolding piece_tested
piece-guarding c = piece-answers c

close-guarding : (c : CloseFunctionCall) → Guarding (close_parts c) (close_run (close_parts c))
unfolding close_tested
close-guarding c = close-answers c

module _ (p : PieceParts) where
  -- another name for the answer
  by_answer : (a b : PieceAnswer) → a ≡ b → AnswersPiece a p → AnswersPiece b p
  by_answer a b e h = subst (λ (x : PieceAnswer). AnswersPiece x p) e h

  -- an answer with nothing done
  nothing-done : (h : PieceEnd) → AnswersPiece (refused_piece h p.came) p → DidNothing h p
  nothing-done h a = record { result = a.result; output = a.output }

  ended : (a : PieceAnswer) → AnswersPiece a p → p.result.end ≡ a.end
  ended a h = ap (λ (d : Pieced). d.end) h.result

  module _ (r : PieceRun) (g : Guarding p r) where
    refuses : (memory_valid p ≡ false → DidNothing (Ended BadTable) p) × (memory_valid p ≡ true → kept_fitting p ≡ false → DidNothing BadKept p)
    refuses = (
      λ h. nothing-done (Ended BadTable) (by_answer _ _ (guarded-60 p.way p.scheme p.table p.memory p.settings p.came r h) g),
      λ h k. nothing-done BadKept (by_answer _ _ (guarded-42 p.way p.scheme p.table p.memory p.settings p.came r h k) g),
    )

    -- behind the tests it is the run's answer
    behind-tests : memory_valid p ≡ true → kept_fitting p ≡ true → AnswersPiece (answered_piece r) p
    behind-tests h k = by_answer _ _ (guarded-on p.way p.scheme p.table p.memory p.settings p.came r h k) g

    refused-kept : memory_valid p ≡ true → (p.result.end ≡ BadKept) ↔ (kept_fitting p ≡ false)
    refused-kept h = (by-fit (kept_fitting p) refl, λ k. ap (λ (d : Pieced). d.end) (refuses.1 h k).result)
      where
        by-fit : (b : Bool) → kept_fitting p ≡ b → p.result.end ≡ BadKept → kept_fitting p ≡ false
        by-fit false k e = k
        by-fit true k e = let q : p.result.end ≡ Ended r.end = ended _ (behind-tests h k) in absurd (let z : ◌≡◌ {A = ℕ} 0 1 = cc in omega arith)

    -- what holds of every answer: of the two refusals and of the run
    by-guard : (P : PieceAnswer → Type 0) → P (refused_piece (Ended BadTable) p.came) → P (refused_piece BadKept p.came) → P (answered_piece r)
        → P (piece_guarded p.way p.scheme limits p.table p.memory p.settings p.came r)
    by-guard P bad unfit on =
        pick-case P (memory_valid p) _ _ (λ h. pick-case P (kept_fitting p) _ _ (λ k. on) (λ k. unfit)) (λ h. bad)

    -- and so of the call
    answer-by : (P : PieceEnd → Kept → Type 0) → P (Ended BadTable) p.came → P BadKept p.came → P (Ended r.end) (kept_as r.carry)
        → P p.result.end p.result.kept
    answer-by P bad unfit on =
        subst (λ (d : Pieced). P d.end d.kept) (sym g.result) (by-guard (λ a. P a.end a.kept) bad unfit on)

    -- where the run's final answers are kept, so are the call's
    final : (w : Stop) → (r.end ≡ Stopped w → r.carry.stands ≡ some w) → p.result.end ≡ Ended (Stopped w) → p.result.kept.standing ≡ Some w
    final w kept =
        answer-by (λ h k. h ≡ Ended (Stopped w) → k.standing ≡ Some w)
        (λ e. absurd (let z : ◌≡◌ {A = ℕ} 0 1 = cc in omega arith))
        (λ e. absurd (let z : ◌≡◌ {A = ℕ} 0 1 = cc in omega arith))
        (λ e. ap stands_as (kept (let q : r.end ≡ Stopped w = cc in q)))

  -- an answer that stands is given again
  stands-again : (w : Stop) (r : PieceRun) → Guarding p (unless (stands_in p.came.standing) (carry_in p.came) r)
      → p.came.standing ≡ Some w → memory_valid p ≡ true → kept_fitting p ≡ true → DidNothing (Ended (Stopped w)) p
  stands-again w r g q h k =
      nothing-done (Ended (Stopped w))
      (by_answer _ _ (guarded-stands p.way p.scheme p.table p.memory p.settings p.came w q h k r) g)

-- ## Refusals

pub piece-refuses : (c : PieceFunctionCall)
    → let p = piece_parts c in
    (memory_valid p ≡ false → DidNothing (Ended BadTable) p) × (memory_valid p ≡ true → kept_fitting p ≡ false → DidNothing BadKept p)
piece-refuses c = refuses (piece_parts c) (piece_run (piece_parts c)) (piece-guarding c)

pub close-refuses : (c : CloseFunctionCall)
    → let p = close_parts c in
    (memory_valid p ≡ false → DidNothing (Ended BadTable) p) × (memory_valid p ≡ true → kept_fitting p ≡ false → DidNothing BadKept p)
close-refuses c = refuses (close_parts c) (close_run (close_parts c)) (close-guarding c)

pub bad-kept : (c : PieceFunctionCall) → let p = piece_parts c in memory_valid p ≡ true → (p.result.end ≡ BadKept) ↔ (kept_fitting p ≡ false)
bad-kept c = refused-kept (piece_parts c) (piece_run (piece_parts c)) (piece-guarding c)

pub bad-kept-close : (c : CloseFunctionCall) → let p = close_parts c in memory_valid p ≡ true → (p.result.end ≡ BadKept) ↔ (kept_fitting p ≡ false)
bad-kept-close c = refused-kept (close_parts c) (close_run (close_parts c)) (close-guarding c)

-- ## Answers that stand

pub piece-stands : (c : PieceFunctionCall) (w : Stop)
    → let p = piece_parts c in
    p.came.standing ≡ Some w → memory_valid p ≡ true → kept_fitting p ≡ true → DidNothing (Ended (Stopped w)) p
piece-stands c w = stands-again (piece_parts c) w _ (piece-guarding c)

pub close-stands : (c : CloseFunctionCall) (w : Stop)
    → let p = close_parts c in
    p.came.standing ≡ Some w → memory_valid p ≡ true → kept_fitting p ≡ true → DidNothing (Ended (Stopped w)) p
unfolding close_in
close-stands c w = stands-again (close_parts c) w _ (close-guarding c)

-- a run keeps its final answer
abbrev Keeping : Stop → PieceRun → Type 0
Keeping w r = r.end ≡ Stopped w → r.carry.stands ≡ some w

module _ (w : Stop) where
  unless-keeping : (o : Option Stop) (k : Carry) → k.stands ≡ o → (r : PieceRun) → Keeping w r → Keeping w (unless o k r)
  unless-keeping none k q r h = h
  unless-keeping (some v) k q r h = λ e. q ∙ (let z : some v ≡ some w = cc in z)

  piece_on-keeping : (step : SequenceStep) (k : Carry) (piece : List ℕ) (room : ℕ) → Keeping w (piece_on step k piece room)
  unfolding piece_on
  piece_on-keeping step k piece room =
      let r = run_of step k.state 0 (k.bytes ++ piece) room in
      pick-case (Keeping w) (is_cut_short r.end) (keeping k.bytes piece r) (ended_at k.bytes r)
      (λ f e. absurd (let z : ◌≡◌ {A = ℕ} 0 1 = cc in omega arith))
      (λ f e. ap standing e)

  piece-keeping : (p : PieceParts) → Keeping w (piece_run p)
  unfolding piece_behind
  piece-keeping p =
      let k = carry_in p.came in
      let due = due_in p.way p.scheme k.state in
      unless-keeping k.stands k refl _
      (pick-case (Keeping w) (leb (length due) (length p.lent)) _ (idle OutputFull k)
      (λ q. piece_on-keeping _ _ _ _)
      (λ q e. absurd (let z : ◌≡◌ {A = ℕ} 0 1 = cc in omega arith)))

  close-keeping : (p : PieceParts) → Keeping w (close_run p)
  close-keeping p =
      close_in-case p.way p.scheme (carry_in p.came) (Keeping w) (length p.lent)
      (λ v q e. q ∙ (let z : some v ≡ some w = cc in z))
      (λ q e. let z : some stopped.CutShort ≡ some w = cc in z)
      (λ q e. absurd (let z : ◌≡◌ {A = ℕ} 0 1 = cc in omega arith))
      (λ e. absurd (let z : ◌≡◌ {A = ℕ} 0 1 = cc in omega arith))

pub piece-final : (c : PieceFunctionCall) (w : Stop) → c.result.end ≡ Ended (Stopped w) → c.result.kept.standing ≡ Some w
piece-final c w = final (piece_parts c) (piece_run (piece_parts c)) (piece-guarding c) w (piece-keeping w (piece_parts c))

pub close-final : (c : CloseFunctionCall) (w : Stop) → c.result.end ≡ Ended (Stopped w) → c.result.kept.standing ≡ Some w
close-final c w = final (close_parts c) (close_run (close_parts c)) (close-guarding c) w (close-keeping w (close_parts c))

-- a close answered 0 makes a fresh start
pub close-afresh : (c : CloseFunctionCall) → c.result.end ≡ Ended AllRead → c.result.kept ≡ fresh_kept
close-afresh c =
    let p = close_parts c in
    answer-by p (close_run p) (close-guarding c) (λ h k. h ≡ Ended AllRead → k ≡ fresh_kept)
    (λ e. absurd (let z : ◌≡◌ {A = ℕ} 0 1 = cc in omega arith))
    (λ e. absurd (let z : ◌≡◌ {A = ℕ} 0 1 = cc in omega arith))
    (close_in-case p.way p.scheme (carry_in p.came) (λ r. Ended r.end ≡ Ended AllRead → kept_as r.carry ≡ fresh_kept) (length p.lent)
    (λ v q e. absurd (let z : ◌≡◌ {A = ℕ} 0 1 = cc in omega arith))
    (λ q e. absurd (let z : ◌≡◌ {A = ℕ} 0 1 = cc in omega arith))
    (λ q e. kept_as-fresh)
    (λ e. absurd (let z : ◌≡◌ {A = ℕ} 0 1 = cc in omega arith)))

-- a close is 51 where bytes are kept and no answer stands
close-some : (p : PieceParts) → p.came.standing ≡ None → 0 < p.came.bytes.len
    → let k = carry_in p.came in
    close_run p ≡ idle (Stopped stopped.CutShort) (record { bytes = k.bytes; state = k.state; stands = some stopped.CutShort })
close-some p q h = sym (close_in-kept p.way p.scheme p.came (ap is_nothing q) (length p.lent) h)

pub close-short : (c : CloseFunctionCall)
    → let p = close_parts c in
    memory_valid p ≡ true → kept_fitting p ≡ true → p.came.standing ≡ None → 0 < p.came.bytes.len
    → (p.result.end ≡ Ended (Stopped stopped.CutShort)) × (p.after ≡ p.lent)
close-short c h k q n =
    let p = close_parts c in
    let a = by_answer p _ _ (ap answered_piece (close-some p q n)) (behind-tests p (close_run p) (close-guarding c) h k) in
    (ended p _ a, a.output)

-- ## Lists of calls

-- what a call handed back is the definition's answer
answered : (p : PieceParts) (a : PieceAnswer) → AnswersPiece a p → answer_in (call_with p) ≡ a
answered p a h =
    let front : take p.result.written p.after ≡ a.bytes =
    (λ i. take (h.result i).written (h.output i)) ∙ take_at a.bytes (drop (length a.bytes) p.lent) (length a.bytes) refl in
    λ i. record { end = (h.result i).end; read = (h.result i).read; bytes = front i; kept = (h.result i).kept }

module _ (l : LoadCall) (way : Way) (e : Scheme) (settings : Settings) where
  abbrev pub PieceAnswered : PieceCall → Type 0
  PieceAnswered c = answer_in c ≡ piece_tested way e limits (record_handed l.result) (left_after l) settings c.came c.piece c.room

  abbrev pub CloseAnswered : PieceCall → Type 0
  CloseAnswered c = answer_in c ≡ close_tested way e limits (record_handed l.result) (left_after l) settings c.came c.room

  pub pieces-answered : (cs : List PieceFunctionCall) → All (PieceOn l way e settings) (map piece_parts cs) → All PieceAnswered (map piece_call_of cs)
  pieces-answered [] o = tt
  pieces-answered (c ∷ cs) o =
      let p = piece_parts c in
      let q = o.0 in (
        answered p _ (piece-answers c)
            ∙ (λ i. piece_tested (q.one_way i) (q.one-scheme i) limits (q.on-table i) (q.on-memory i) (q.one-setting i) p.came p.piece (length p.lent)),
        pieces-answered cs o.1,
      )

  pub closes-answered : (ds : List CloseFunctionCall) → All (PieceOn l way e settings) (map close_parts ds) → All CloseAnswered (map close_call_of ds)
  closes-answered [] o = tt
  closes-answered (d ∷ ds) o =
      let p = close_parts d in
      let q = o.0 in (
        answered p _ (close-answers d)
            ∙ (λ i. close_tested (q.one_way i) (q.one-scheme i) limits (q.on-table i) (q.on-memory i) (q.one-setting i) p.came (length p.lent)),
        closes-answered ds o.1,
      )

pub all-pieces : (l : LoadCall) (t : Table) → AcceptedAs l t → (way : Way) (e : Scheme) (settings : Settings)
    → (frame : List ℕ) → AllByte frame → (room : ℕ)
    → let whole = one_run way e t settings frame room in
    (whole.end ≡ OutputFull → ⊥) → (cs : List PieceFunctionCall) (ds : List CloseFunctionCall)
    → All (PieceOn l way e settings) (map piece_parts cs) → All (PieceOn l way e settings) (map close_parts ds)
    → InTurn frame fresh_kept (map piece_call_of cs) → Closing (last_kept fresh_kept (map piece_call_of cs)) (map close_call_of ds)
    → InPieces way e whole frame (map piece_call_of cs) (map close_call_of ds)
all-pieces l t a way e settings frame bytes room enough cs ds on closed turn closing =
    let f = leaves-form l t a in
    in-pieces t f.0 f.1 (record_handed l.result) (left_after l) f.2 way e settings frame bytes room enough (map piece_call_of cs) (map close_call_of ds)
    turn closing (pieces-answered l way e settings cs on) (closes-answered l way e settings ds closed)
