-- Calls of a conversion in pieces, one after the other: each in the words of the claims, and what they did together against
-- the conversion in one piece.
-- Contents: one call; calls one after the other (`Doing`, `Done`); as the whole (`Told`).
use Rattle.std.specs.Prelude.{if◌then◌else◌}
use mathlib.Core.Path.{◌≡◌, refl, sym, ap, subst, ◌∙◌}
use Prim.Native.Nat.{ℕ, zero, suc, ◌+◌, ◌-◌, ◌*◌, ◌≤◌, ◌<◌}
use mathlib.Core.List.{List, [], ◌∷◌, ◌++◌, append-nil, append_assoc}
use mathlib.Core.Logic.{◌⊎◌, inl, inr}
use mathlib.Core.Option.{Option, none, some}
use native.Mathlib.Omega.{arith}
use native.Mathlib.Nat.{add-zero, zero-add}
use borrow.Author.Tests.{le-leb, leb-true, leb-false}
use lib.Dec.{leb}
use lib.ListN.{length, drop, length-drop}
use lib.Seq.{drop-drop}
use Rattle.lists.specs.Order.{All}
use Rattle.lists.proofs.Laws.{drop_past}
use Rattle.lists.proofs.Cases.{pick-case, pick_yes}
use Rattle.utf.specs.declared.utf8.Stop.{Stop}
use Rattle.utf.specs.declared.utf8.Stop.TheVariants as stopped
use Rattle.utf.specs.declared.scheme.Scheme.{Scheme}
use Rattle.table.specs.Codes.{AllByte}
use Rattle.table.specs.Meaning.{Table}
use Rattle.convert.specs.Run.{SequenceStep, Run, run_of, after, ended_with}
use Rattle.convert.specs.Pieces.{Carry, fresh, PieceRun, idle, piece_on, unless, state_at, place_at, step_in, due_in, due_state, past_due, led, piece_behind, piece_in, close_in}
use Rattle.convert.specs.Pieces.{kept_as, PieceAnswer, answered_piece}
use Rattle.convert.specs.PieceClaims.{PieceCall, InTurn, read_by, written_by, last_end, last_kept, Unrefused, Ample}
use Rattle.convert.specs.loops.Inner.{Sound, Pieceable, AtMost}
use Rattle.convert.specs.loops.Laws.{NotFull}
use Rattle.convert.specs.declared.RunEnd.{RunEnd}
use Rattle.convert.specs.declared.RunEnd.TheVariants.{AllRead, OutputFull, BadTable, Stopped}
use Rattle.convert.specs.declared.Settings.{Settings}
use Rattle.convert.specs.declared.pieces.Way.{Way}
use Rattle.convert.specs.declared.pieces.Way.TheVariants.{ToUnicode, FromUnicode}
use Rattle.convert.specs.declared.pieces.Kept.{Kept}
use Rattle.convert.specs.declared.pieces.PieceEnd.{PieceEnd}
use Rattle.convert.specs.declared.pieces.PieceEnd.TheVariants.{Ended}
use Rattle.convert.proofs.Runs.{run_end, run-stop}
use Rattle.convert.proofs.SkippedRuns.{bytes-behind}
use Rattle.convert.proofs.PieceRuns.{Fit, Moved, onward, moves, moves-unless, moves-then, piece_on-valid, piece_on-all, piece_on-enough, moves-on}
use Rattle.convert.proofs.PieceSteps.{step_in-sound}
use Rattle.convert.proofs.PieceStops.{step_in-pieceable}
use Rattle.convert.proofs.PieceKept.{begun-[]}
use Rattle.convert.proofs.PieceStates.{AllByte-++⁻, StateFits, StateFits-due_state, due_in-none, due_state-none, Held, Passes, Held⇒Passes, Passes-fresh}
use Rattle.convert.proofs.PieceStates.{Held-piece}
use Rattle.convert.proofs.PieceCloses.{answer_in, close_in-case}

-- what calls did together is what a run did
pub record Same (whole : Run) (d : PieceRun) : Type 0 where
  pub answer : d.end ≡ whole.end
  pub place : d.read ≡ whole.read + length d.carry.bytes
  pub output : d.bytes ≡ whole.bytes

-- a run is another with these bytes before it, but for the state
pub record Alike (whole : Run) (before : List ℕ) (r : Run) : Type 0 where
  pub end : whole.end ≡ r.end
  pub read : whole.read ≡ r.read
  pub bytes : whole.bytes ≡ before ++ r.bytes

-- what is due, by the kept state
due-placed : (way : Way) (e : Scheme) (st : ℕ) → due_in way e (state_at (place_at st)) ≡ due_in way e st
due-placed FromUnicode e st = refl
due-placed ToUnicode e zero = refl
due-placed ToUnicode e (suc zero) = refl
due-placed ToUnicode e (suc (suc st)) = refl

ample : (way : Way) (e : Scheme) (n : ℕ) (c : PieceCall) (k : Carry) → c.came ≡ kept_as k → Ample way e n c → length (due_in way e k.state) + 4 * n ≤ c.room
ample way e n c k z h =
    subst (λ (s : List ℕ). length s + 4 * n ≤ c.room) (ap (λ (x : Kept). due_in way e (state_at x.mark)) z ∙ due-placed way e k.state) h

-- ## One call

module _ (way : Way) (e : Scheme) (t : Table) (settings : Settings) where
  abbrev step : SequenceStep
  step = step_in way e t settings

  so : Sound step
  so = step_in-sound way e t settings

  pe : Pieceable step
  pe = step_in-pieceable way e t settings

  abbrev Holds : Carry → Type 0
  Holds = Held way e t settings

  -- the mark, and a start behind it
  abbrev mark : List ℕ
  mark = due_in way e 0

  abbrev first : Carry
  first = past_due way e fresh

  Held-first : Holds first
  unfolding AllByte
  Held-first = record { bytes = tt; few = omega arith; state = StateFits-due_state way e; begun = begun-[] way e t settings; stands = refl }

  -- behind the mark, a call is one whatever the step
  piece_behind-none : (k : Carry) → StateFits way e k.state → (piece : List ℕ) (room : ℕ)
      → piece_behind way e t settings k piece room ≡ piece_on step k piece room
  unfolding piece_behind
  piece_behind-none k f piece room =
      let z : room - 0 ≡ room = omega arith in
      ap (λ (due : List ℕ). if leb (length due) room then led due (piece_on step (past_due way e k) piece (room - length due)) else idle OutputFull k)
      (due_in-none way e k.state f)
      ∙ pick_yes (leb 0 room) _ _ (le-leb 0 room (omega arith))
      ∙ ap (λ (n : ℕ). led [] (piece_on step (past_due way e k) piece n)) z
      ∙ ap (λ (st : ℕ). piece_on step (record { bytes = k.bytes; state = st; stands = k.stands }) piece room) (due_state-none way e k.state f)

  piece_in-none : (k : Carry) → StateFits way e k.state → (piece : List ℕ) (room : ℕ)
      → piece_in way e t settings k piece room ≡ unless k.stands k (piece_on step k piece room)
  piece_in-none k f piece room = ap (unless k.stands k) (piece_behind-none k f piece room)

  -- ahead of it, the mark and a call, or nothing
  piece_in-fresh : (P : PieceRun → Type 0) (piece : List ℕ) (room : ℕ) → (length mark ≤ room → P (led mark (piece_on step first piece (room - length mark))))
      → (room < length mark → P (idle OutputFull fresh)) → P (piece_in way e t settings fresh piece room)
  unfolding piece_behind
  piece_in-fresh P piece room f g =
      pick-case P (leb (length mark) room) (led mark (piece_on step first piece (room - length mark))) (idle OutputFull fresh)
      (λ q. f (leb-true _ _ q)) (λ q. g (leb-false _ _ q))

  -- what holds of each call: where it began, its piece and space, what it did
  pub record OfCall (due : ℕ) (k : Carry) (piece : List ℕ) (room : ℕ) (a : PieceRun) : Type 0 where
    pub valid : a.end ≡ BadTable → ⊥
    pub few : length a.carry.bytes ≤ 3
    pub all : a.end ≡ AllRead → a.read ≡ length piece
    pub moves : due + 4 * 1 ≤ room → a.end ≡ OutputFull → (0 < a.read) ⊎ (length a.carry.bytes < length k.bytes)
    pub never-full : due + 4 * (length k.bytes + length piece) ≤ room → a.end ≡ OutputFull → ⊥

  module _ (most : AtMost 4 step) where
    of_call-on : (due : ℕ) (k : Carry) (piece : List ℕ) (room left : ℕ) → room ≤ due + left → length (piece_on step k piece left).carry.bytes ≤ 3
        → (o : Option Stop) → length k.bytes ≤ 3 → OfCall due k piece room (unless o k (piece_on step k piece left))
    of_call-on due k piece room left l few none f = record {
      valid = piece_on-valid step so k piece left;
      few = few;
      all = piece_on-all step so k piece left;
      moves = λ y. moves-on step so k piece left 4 most (omega arith);
      never-full = λ y. piece_on-enough step so k piece left most (omega arith);
    }
    of_call-on due k piece room left l few (some w) f = record {
      valid = λ z. let z : ◌≡◌ {A = ℕ} 0 1 = cc in omega arith;
      few = f;
      all = λ z. absurd (let z : ◌≡◌ {A = ℕ} 0 1 = cc in omega arith);
      moves = λ y z. absurd (let z : ◌≡◌ {A = ℕ} 0 1 = cc in omega arith);
      never-full = λ y z. let z : ◌≡◌ {A = ℕ} 0 1 = cc in omega arith;
    }

    -- ## Calls one after the other
    module _ (frame : List ℕ) (all-bytes : AllByte frame) (n : ℕ) (enough : NotFull (run_of step (due_state way e 0) 0 frame n)) where
      -- what calls did together: the mark is still ahead, and nothing is done; or it is written
      pub record Waits (d : PieceRun) : Type 0 where
        pub is : d ≡ idle d.end fresh
        pub told : (w : Stop) → d.end ≡ Stopped w → ⊥

      pub record Goes (d : PieceRun) : Type 0 where
        pub sub : PieceRun
        pub is : d ≡ led mark sub
        pub moved : Moved step first frame n sub
        pub held : Holds sub.carry

      abbrev pub Doing : PieceRun → Type 0
      Doing d = Waits d ⊎ Goes d

      -- one more
      pub record OneMore (d : PieceRun) (piece : List ℕ) (room : ℕ) (a : PieceRun) : Type 0 where
        pub doing : Doing (onward d a)
        pub of : OfCall (length (due_in way e d.carry.state)) d.carry piece room a

      fit-first : Fit step first frame
      fit-first = record { few = omega arith; stands = λ w z. absurd (let z : ◌≡◌ {A = ℕ} 0 1 = cc in omega arith); waits = λ z y. absurd (omega arith) }

      module _ (piece rest : List ℕ) (room : ℕ) where
        byte-piece : (r : ℕ) → drop r frame ≡ piece ++ rest → AllByte piece
        byte-piece r h = AllByte-++⁻ piece rest (subst AllByte h (bytes-behind r frame all-bytes))

        more-waits : (h : RunEnd) → frame ≡ piece ++ rest → OneMore (idle h fresh) piece room (piece_in way e t settings fresh piece room)
        more-waits h u =
            piece_in-fresh (OneMore (idle h fresh) piece room) piece room
            (λ l.
            let v : Moved step first frame n (piece_on step first piece (room - length mark)) =
            subst (λ (x : List ℕ). Fit step first x → NotFull (run_of step (due_state way e 0) 0 x n)
            → Moved step first x n (piece_on step first piece (room - length mark))) (sym u)
            (λ f y. moves step so pe first piece rest (room - length mark) n f y) fit-first enough in
            record {
              doing = inr (record {
                sub = piece_on step first piece (room - length mark);
                is = λ i. record {
                  end = (piece_on step first piece (room - length mark)).end;
                  read = zero-add (piece_on step first piece (room - length mark)).read i;
                  bytes = mark ++ (piece_on step first piece (room - length mark)).bytes;
                  carry = (piece_on step first piece (room - length mark)).carry;
                };
                moved = v;
                held = Held-piece way e t settings first piece (room - length mark) Held-first (byte-piece 0 u) _ v.fit;
              });
              of =
                  let c = of_call-on (length mark) first piece room (room - length mark) (omega arith) v.fit.few none (omega arith) in
                  record { valid = c.valid; few = c.few; all = c.all; moves = c.moves; never-full = c.never-full };
            })
            (λ l. record {
              doing = inl (record {
                is = λ i. record { end = OutputFull; read = zero-add 0 i; bytes = []; carry = fresh };
                told = λ w z. let z : ◌≡◌ {A = ℕ} 0 1 = cc in omega arith;
              });
              of = record {
                valid = λ z. let z : ◌≡◌ {A = ℕ} 0 1 = cc in omega arith;
                few = omega arith;
                all = λ z. absurd (let z : ◌≡◌ {A = ℕ} 0 1 = cc in omega arith);
                moves = λ y z. absurd (omega arith);
                never-full = λ y z. omega arith;
              };
            })

        module _ (sub : PieceRun) (m : Moved step first frame n sub) (h : Holds sub.carry) (u : drop sub.read frame ≡ piece ++ rest) where
          abbrev k : Carry
          k = sub.carry

          goes-fit : Fit step k (piece ++ rest)
          goes-fit = subst (Fit step k) u m.fit

          goes-enough : NotFull (run_of step k.state 0 (k.bytes ++ (piece ++ rest)) (n - length sub.bytes))
          goes-enough z =
              enough (ap (λ (r : Run). r.end) m.ahead ∙ ap (λ (x : List ℕ). (run_of step k.state 0 (k.bytes ++ x) (n - length sub.bytes)).end) u ∙ z)

          goes_moved : Moved step k (piece ++ rest) (n - length sub.bytes) (piece_on step k piece room)
          goes_moved = moves step so pe k piece rest room (n - length sub.bytes) goes-fit goes-enough

          goes-held : (o : Option Stop) → Holds (unless o k (piece_on step k piece room)).carry
          goes-held none = Held-piece way e t settings k piece room h (byte-piece sub.read u) _ goes_moved.fit
          goes-held (some w) = h

          by-stands : (o : Option Stop) → k.stands ≡ o → OneMore (led mark sub) piece room (unless o k (piece_on step k piece room))
          by-stands o z =
              let a = unless o k (piece_on step k piece room) in
              record {
                doing = inr (record {
                  sub = onward sub a;
                  is = λ i. record { end = a.end; read = sub.read + a.read; bytes = append_assoc mark sub.bytes a.bytes i; carry = a.carry };
                  moved = moves-then step so pe first frame n sub a m
                      (subst (λ (x : List ℕ). Moved step k x (n - length sub.bytes) a) (sym u)
                      (moves-unless step so pe k piece rest room _ goes-fit goes-enough o z));
                  held = goes-held o;
                });
                of = of_call-on (length (due_in way e k.state)) k piece room room (omega arith) goes_moved.fit.few o h.few;
              }

          more-goes : OneMore (led mark sub) piece room (piece_in way e t settings k piece room)
          more-goes = subst (OneMore (led mark sub) piece room) (sym (piece_in-none k h.state piece room)) (by-stands k.stands refl)

        one_more : (d : PieceRun) → Doing d → drop d.read frame ≡ piece ++ rest → OneMore d piece room (piece_in way e t settings d.carry piece room)
        one_more d (inl w) u =
            subst (λ (x : PieceRun). drop x.read frame ≡ piece ++ rest → OneMore x piece room (piece_in way e t settings x.carry piece room))
            (sym w.is) (more-waits d.end) u
        one_more d (inr g) u =
            subst (λ (x : PieceRun). drop x.read frame ≡ piece ++ rest → OneMore x piece room (piece_in way e t settings x.carry piece room)) (sym g.is)
            (more-goes g.sub g.moved g.held) u

      -- what is carried passes the test behind 42
      pub Doing⇒Passes : (d : PieceRun) → Doing d → Passes way e t settings d.carry
      Doing⇒Passes d (inl w) = subst (λ (x : PieceRun). Passes way e t settings x.carry) (sym w.is) (Passes-fresh way e t settings)
      Doing⇒Passes d (inr g) =
          subst (λ (x : PieceRun). Passes way e t settings x.carry) (sym g.is) (Held⇒Passes way e t settings g.sub.carry g.held)

      -- what holds of each call, in the words of the claims
      pub record Each (c : PieceCall) : Type 0 where
        pub unrefused : Unrefused c
        pub few : c.kept.bytes.len ≤ 3
        pub all : c.end ≡ Ended AllRead → c.read ≡ length c.piece
        pub moves : Ample way e 1 c → c.end ≡ Ended OutputFull → (0 < c.read) ⊎ (c.kept.bytes.len < c.came.bytes.len)
        pub never-full : Ample way e (c.came.bytes.len + length c.piece) c → c.end ≡ Ended OutputFull → ⊥

      module _ (tested : Kept → List ℕ → ℕ → PieceAnswer)
          (tell : (k : Carry) → Passes way e t settings k → (piece : List ℕ) (room : ℕ)
          → tested (kept_as k) piece room ≡ answered_piece (piece_in way e t settings k piece room)) where
        -- calls after d
        pub record Done (d : PieceRun) (cs : List PieceCall) : Type 0 where
          pub last : PieceRun
          pub doing : Doing last
          pub read : last.read ≡ d.read + read_by cs
          pub bytes : last.bytes ≡ d.bytes ++ written_by cs
          pub end : last_end (Ended d.end) cs ≡ Ended last.end
          pub kept : last_kept (kept_as d.carry) cs ≡ kept_as last.carry
          pub each : All Each cs

        module _ (c : PieceCall) (d : PieceRun) (a : PieceRun) (is : answer_in c ≡ answered_piece a) (came : c.came ≡ kept_as d.carry)
            (of : OfCall (length (due_in way e d.carry.state)) d.carry c.piece c.room a) where
          each-one : Each c
          each-one =
              let end : c.end ≡ Ended a.end = ap (λ (x : PieceAnswer). x.end) is in
              let read : c.read ≡ a.read = ap (λ (x : PieceAnswer). x.read) is in
              let len : c.kept.bytes.len ≡ length a.carry.bytes = ap (λ (x : PieceAnswer). x.kept.bytes.len) is in
              let old : c.came.bytes.len ≡ length d.carry.bytes = ap (λ (x : Kept). x.bytes.len) came in
              record {
                unrefused = (a.end, end, of.valid);
                few = rw len of.few;
                all = λ z. let y : a.end ≡ AllRead = cc in read ∙ of.all y;
                moves = λ l z. let y : a.end ≡ OutputFull = cc in rw (read, len, old) (of.moves (ample way e 1 c d.carry came l) y);
                never-full = λ l z. let y : a.end ≡ OutputFull = cc in of.never-full (rw old at (ample way e _ c d.carry came l)) y;
              }

        pub all_done : (cs : List PieceCall) (d : PieceRun) → Doing d → InTurn (drop d.read frame) (kept_as d.carry) cs
            → All (λ c. answer_in c ≡ tested c.came c.piece c.room) cs → Done d cs
        all_done [] d x i a =
            record { last = d; doing = x; read = sym (add-zero d.read); bytes = sym (append-nil d.bytes); end = refl; kept = refl; each = tt }
        all_done (c ∷ cs) d x i told =
            let a = piece_in way e t settings d.carry c.piece c.room in
            let one = one_more c.piece i.1.0 c.room d x i.1.1 in
            let is : answer_in c ≡ answered_piece a = told.0 ∙ ap (λ (k : Kept). tested k c.piece c.room) i.0
            ∙ tell d.carry (Doing⇒Passes d x) c.piece c.room in
            let end : c.end ≡ Ended a.end = ap (λ (x : PieceAnswer). x.end) is in
            let read : c.read ≡ a.read = ap (λ (x : PieceAnswer). x.read) is in
            let bytes : c.output ≡ a.bytes = ap (λ (x : PieceAnswer). x.bytes) is in
            let kept : c.kept ≡ kept_as a.carry = ap (λ (x : PieceAnswer). x.kept) is in
            let unread : drop c.read (drop d.read frame) ≡ drop (d.read + a.read) frame = rw read (drop-drop a.read d.read frame) in
            let turn : InTurn (drop (d.read + a.read) frame) (kept_as a.carry) cs =
            subst (λ (u : List ℕ). InTurn u (kept_as a.carry) cs) unread
            (subst (λ (k : Kept). InTurn (drop c.read (drop d.read frame)) k cs) kept i.2) in
            let ih = all_done cs (onward d a) one.doing turn told.1 in
            record {
              last = ih.last;
              doing = ih.doing;
              read = let r = ih.read in omega arith;
              bytes = ih.bytes ∙ append_assoc d.bytes a.bytes (written_by cs) ∙ ap (λ (x : List ℕ). d.bytes ++ (x ++ written_by cs)) (sym bytes);
              end = ap (λ (h : PieceEnd). last_end h cs) end ∙ ih.end;
              kept = ap (λ (k : Kept). last_kept k cs) kept ∙ ih.kept;
              each = (each-one c d a is i.0 one.of, ih.each);
            }

      -- ## As the whole

      -- whole is the mark, and then the run behind it
      module _ (whole : Run) (alike : Alike whole mark (run_of step (due_state way e 0) 0 frame n)) where
        abbrev there : Run
        there = run_of step (due_state way e 0) 0 frame n

        module _ (sub : PieceRun) (m : Moved step first frame n sub) (h : Holds sub.carry) where
          abbrev beyond : Run
          beyond = run_of step sub.carry.state 0 (sub.carry.bytes ++ drop sub.read frame) (n - length sub.bytes)

          same_ended : (how : RunEnd) (c : PieceRun) → beyond ≡ ended_with how sub.carry.state → c.end ≡ how → c.read ≡ 0
              → length c.carry.bytes ≡ length sub.carry.bytes → c.bytes ≡ [] → Same whole (onward (led mark sub) c)
          same_ended how c b ce cr cl cb =
              let x = length first.bytes + sub.read - length sub.carry.bytes in
              let w : there ≡ after x sub.bytes (ended_with how sub.carry.state) = m.ahead ∙ ap (after x sub.bytes) b in
              let r : there.read ≡ x + 0 = ap (λ (x : Run). x.read) w in
              let a = alike.read in
              let i = m.behind in
              record {
                answer = ce ∙ sym (alike.end ∙ ap (λ (x : Run). x.end) w);
                place = omega arith;
                output = ap (λ (x : List ℕ). (mark ++ sub.bytes) ++ x) cb ∙ append_assoc mark sub.bytes []
                    ∙ sym (alike.bytes ∙ ap (λ (x : Run). mark ++ x.bytes) w);
              }

          stood : (w : Stop) → sub.carry.stands ≡ some w → beyond ≡ ended_with (Stopped w) sub.carry.state
          stood w z =
              let f = m.fit.stands w z in
              run-stop step sub.carry.state (sub.carry.bytes ++ drop sub.read frame) (n - length sub.bytes) f.0 w f.1

          goes-stops : (w : Stop) → sub.end ≡ Stopped w → Same whole (led mark sub)
          goes-stops w z =
              let q = same_ended (Stopped w) (idle sub.end sub.carry) (stood w (m.told w z)) z refl refl refl in
              let p = q.place in
              record { answer = q.answer; place = omega arith; output = sym (append-nil (mark ++ sub.bytes)) ∙ q.output }

          goes-output : (rest : List ℕ) × (whole.bytes ≡ (mark ++ sub.bytes) ++ rest)
          goes-output = (beyond.bytes, alike.bytes ∙ ap (λ (x : Run). mark ++ x.bytes) m.ahead ∙ sym (append_assoc mark sub.bytes beyond.bytes))

          module _ (done : sub.read ≡ length frame) where
            beyond-is : beyond ≡ run_of step sub.carry.state 0 sub.carry.bytes (n - length sub.bytes)
            beyond-is =
                let z : drop sub.read frame ≡ [] = drop_past frame sub.read (omega arith) in
                rw (z, append-nil sub.carry.bytes)

            goes_close : (room : ℕ) → let c = close_in way e sub.carry room in (c.end ≡ OutputFull → ⊥) → Same whole (onward (led mark sub) c)
            goes_close room =
                close_in-case way e sub.carry (λ c. (c.end ≡ OutputFull → ⊥) → Same whole (onward (led mark sub) c)) room
                (λ w z f. same_ended (Stopped w) (idle (Stopped w) sub.carry) (stood w z) refl refl refl refl)
                (λ y f. same_ended (Stopped stopped.CutShort)
                (idle (Stopped stopped.CutShort) (record { bytes = sub.carry.bytes; state = sub.carry.state; stands = some stopped.CutShort }))
                (beyond-is ∙ run-stop step sub.carry.state sub.carry.bytes (n - length sub.bytes) y stopped.CutShort
                (m.fit.waits (omega (arith, length-drop sub.read frame)) y))
                refl refl refl refl)
                (λ y f. same_ended AllRead (record { end = AllRead; read = 0; bytes = due_in way e sub.carry.state; carry = fresh })
                (beyond-is ∙ run_end step sub.carry.state sub.carry.bytes (n - length sub.bytes) y)
                refl refl (omega arith) (due_in-none way e sub.carry.state h.state))
                (λ f. absurd (f refl))

        -- nothing was done, and the frame is empty
        waits-close : (how : RunEnd) → 0 ≡ length frame → (room : ℕ) → let c = close_in way e fresh room in (c.end ≡ OutputFull → ⊥)
            → Same whole (onward (idle how fresh) c)
        waits-close how done room =
            let r : there ≡ ended_with AllRead (due_state way e 0) = run_end step (due_state way e 0) frame n (omega arith) in
            let read : whole.read ≡ 0 = alike.read ∙ ap (λ (x : Run). x.read) r in
            close_in-case way e fresh (λ c. (c.end ≡ OutputFull → ⊥) → Same whole (onward (idle how fresh) c)) room
            (λ w z f. absurd (let z : ◌≡◌ {A = ℕ} 0 1 = cc in omega arith))
            (λ y f. absurd (omega arith))
            (λ y f. record {
              answer = sym (alike.end ∙ ap (λ (x : Run). x.end) r);
              place = omega arith;
              output = sym (alike.bytes ∙ ap (λ (x : Run). mark ++ x.bytes) r ∙ append-nil mark);
            })
            (λ f. absurd (f refl))

        pub record Told (d : PieceRun) : Type 0 where
          pub inside : d.read ≤ length frame
          pub behind : length d.carry.bytes ≤ d.read
          pub output : (rest : List ℕ) × (whole.bytes ≡ d.bytes ++ rest)
          pub stops : (w : Stop) → d.end ≡ Stopped w → Same whole d
          pub closes : d.read ≡ length frame → (room : ℕ) → let c = close_in way e d.carry room in (c.end ≡ OutputFull → ⊥) → Same whole (onward d c)

        pub Doing⇒Told : (d : PieceRun) → Doing d → Told d
        Doing⇒Told d (inl w) =
            subst (λ (x : PieceRun). ((w : Stop) → x.end ≡ Stopped w → ⊥) → Told x) (sym w.is)
            (λ f. record {
              inside = omega arith;
              behind = omega arith;
              output = (whole.bytes, refl);
              stops = λ v z. absurd (f v z);
              closes = waits-close d.end;
            })
            w.told
        Doing⇒Told d (inr g) =
            subst Told (sym g.is)
            (record {
              inside = g.moved.inside;
              behind = omega (arith, g.moved.behind);
              output = goes-output g.sub g.moved g.held;
              stops = goes-stops g.sub g.moved g.held;
              closes = goes_close g.sub g.moved g.held;
            })
