-- A conversion in pieces, whatever the step: where a run ends, and what one call on a piece does to the rest of the conversion.
-- run_ends, run-ahead   a run's end, and on from there     Fit, Moved   what holds of what is carried, and what calls did
-- moves-idle, moves, moves-then   no call, one, one after another     moves-on   50 with space enough moves     piece_on-enough   and with space for all there is none
use mathlib.Core.Path.{◌≡◌, refl, sym, ap, subst, ◌∙◌}
use Prim.Native.Nat.{ℕ, zero, suc, ◌+◌, ◌-◌, ◌*◌, ◌≤◌, ◌<◌}
use mathlib.Core.List.{List, [], ◌∷◌, ◌++◌, append-nil, append_assoc}
use mathlib.Core.Bool.{true, false}
use mathlib.Core.Logic.{◌⊎◌, inl, inr}
use mathlib.Core.Option.{Option, none, some}
use native.Mathlib.Omega.{arith}
use borrow.Author.Tests.{leb-true, leb-false}
use lib.Dec.{leb}
use lib.ListN.{length, drop, length-append, length-drop}
use lib.Seq.{drop-append-le, drop-append_seam, drop-drop}
use Rattle.lists.proofs.Laws.{clash, drop_past}
use Rattle.lists.proofs.Cases.{pick-case}
use Rattle.utf.specs.declared.utf8.Stop.{Stop}
use Rattle.utf.specs.declared.utf8.Stop.TheVariants as stopped
use Rattle.convert.specs.Run.{give, stop, SequenceStep, Run, run_of, after}
use Rattle.convert.specs.Pieces.{Carry, PieceRun, idle, is_cut_short, standing, keeping, ended_at, piece_on, unless}
use Rattle.convert.specs.loops.Inner.{Sound, Pieceable, AtMost}
use Rattle.convert.specs.loops.Laws.{NotFull}
use Rattle.convert.specs.declared.RunEnd.{RunEnd}
use Rattle.convert.specs.declared.RunEnd.TheVariants.{AllRead, OutputFull, BadTable, Stopped}
use Rattle.convert.proofs.Runs.{run-stop, run-full, run_more, every-run, after-after, after_none}
use Rattle.convert.proofs.Whole.{resumed, resumed-none, four-enough, reads-within, all_read_lem}

-- ## Where a run ends

-- a sequence whose output does not fit
pub record NoRoom (step : SequenceStep) (st : ℕ) (s : List ℕ) (room : ℕ) : Type 0 where
  pub some : 0 < length s
  pub output : List ℕ
  pub count : ℕ
  pub next : ℕ
  pub gives : step st s ≡ give output count next
  pub much : room < length output

-- what stands at the place of a run, by its end
abbrev pub EndsAt : SequenceStep → RunEnd → ℕ → List ℕ → ℕ → Type 0
EndsAt step AllRead st s room = length s ≤ 0
EndsAt step BadTable st s room = ⊥
EndsAt step (Stopped w) st s room = (0 < length s) × (step st s ≡ stop w)
EndsAt step OutputFull st s room = NoRoom step st s room

module _ (step : SequenceStep) (so : Sound step) where
  pub run_ends : (s : List ℕ) (st room : ℕ) → let r = run_of step st 0 s room in EndsAt step r.end r.state (drop r.read s) (room - length r.bytes)
  run_ends =
      every-run step so (λ st s room r. EndsAt step r.end r.state (drop r.read s) (room - length r.bytes))
      (λ st room. omega arith)
      (λ st s room h w e. (h, e))
      (λ st s room h bs n next e l. record { some = h; output = bs; count = n; next = next; gives = e; much = omega arith })
      (λ st s room h bs n next e l r ih.
      let m : room - length (bs ++ r.bytes) ≡ room - length bs - length r.bytes = rw (length-append bs r.bytes) (omega arith) in
      rw (m, ← drop-drop r.read n s) ih)

  pub run-ends-as : (s : List ℕ) (st room : ℕ) (h : RunEnd) → let r = run_of step st 0 s room in r.end ≡ h
      → EndsAt step h r.state (drop r.read s) (room - length r.bytes)
  run-ends-as s st room h e =
      let r = run_of step st 0 s room in
      subst (λ (x : RunEnd). EndsAt step x r.state (drop r.read s) (room - length r.bytes)) e (run_ends s st room)

  -- with space enough, a run goes on from where one with any space ended, had it more input or not
  pub run-ahead : (s t : List ℕ) (st room n : ℕ) → NotFull (run_of step st 0 (s ++ t) n)
      → run_of step st 0 (s ++ t) n ≡ resumed step s t n (run_of step st 0 s room)
  run-ahead s t st room n =
      every-run step so (λ st s room r. (n : ℕ) → NotFull (run_of step st 0 (s ++ t) n) → run_of step st 0 (s ++ t) n ≡ resumed step s t n r)
      (λ st room n f. resumed-none step so AllRead [] t st n)
      (λ st s room h w e n f. resumed-none step so (Stopped w) s t st n)
      (λ st s room h bs k next e l n f. resumed-none step so OutputFull s t st n)
      (λ st s room h bs k next e l r ih n f.
      let p = so.some st s bs k next e in
      let g = so.grows st s t bs k next e in
      let h2 : 0 < length (s ++ t) = omega (arith, length-append s t) in
      let m : n - length (bs ++ r.bytes) ≡ n - length bs - length r.bytes = rw (length-append bs r.bytes) (omega arith) in
      pick-case (λ (x : ℕ). run_of step st 0 (s ++ t) n ≡ resumed step s t n (after k bs r)) (leb (length bs) n) 0 0
      (λ q.
      let more = run_more step st (s ++ t) n h2 bs k next g p (leb-true _ _ q) ∙ rw (drop-append-le k s t (so.within st s bs k next e)) in
      more ∙ ap (after k bs) (ih (n - length bs) (λ z. f (ap (λ (x : Run). x.end) more ∙ z)))
      ∙ after-after k r.read bs r.bytes _ ∙ rw (drop-drop r.read k s, m))
      (λ q. absurd (f (ap (λ (x : Run). x.end) (run-full step st (s ++ t) n h2 bs k next g (leb-false _ _ q))))))
      s st room n

  -- a run that read nothing wrote nothing
  none_written : (s : List ℕ) (st room : ℕ) → (run_of step st 0 s room).read ≤ 0 → length (run_of step st 0 s room).bytes ≤ 0
  none_written =
      every-run step so (λ st s room r. r.read ≤ 0 → length r.bytes ≤ 0)
      (λ st room f. omega arith)
      (λ st s room h w e f. omega arith)
      (λ st s room h bs n next e l f. omega arith)
      (λ st s room h bs n next e l r ih f. absurd (omega (arith, so.some st s bs n next e)))

-- one list behind another, from a place on
pub drop-++ : (m : ℕ) (k u : List ℕ) → drop m (k ++ u) ≡ drop m k ++ drop (m - length k) u
drop-++ zero k u = let e : 0 - length k ≡ 0 = omega arith in rw e
drop-++ (suc m) [] u = let e : suc m - 0 ≡ suc m = omega arith in rw e
drop-++ (suc m) (b ∷ k) u = let e : suc m - suc (length k) ≡ m - length k = omega arith in drop-++ m k u ∙ rw e

pub is_cut_short-yes : (h : RunEnd) → is_cut_short h ≡ true → h ≡ Stopped stopped.CutShort
is_cut_short-yes AllRead e = absurd (clash e refl)
is_cut_short-yes OutputFull e = absurd (clash e refl)
is_cut_short-yes BadTable e = absurd (clash e refl)
is_cut_short-yes (Stopped stopped.CutShort) e = refl
is_cut_short-yes (Stopped (stopped.Illegal n)) e = absurd (clash e refl)
is_cut_short-yes (Stopped stopped.Unassigned) e = absurd (clash e refl)

pub is_cut_short-no : (w : Stop) → is_cut_short (Stopped w) ≡ false → w ≡ stopped.CutShort → ⊥
is_cut_short-no w q z = clash (ap (λ (x : Stop). is_cut_short (Stopped x)) z) q

standing-some : (h : RunEnd) (w : Stop) → standing h ≡ some w → h ≡ Stopped w
standing-some AllRead w e = absurd (let z : ◌≡◌ {A = ℕ} 0 1 = cc in omega arith)
standing-some OutputFull w e = absurd (let z : ◌≡◌ {A = ℕ} 0 1 = cc in omega arith)
standing-some BadTable w e = absurd (let z : ◌≡◌ {A = ℕ} 0 1 = cc in omega arith)
standing-some (Stopped v) w e = let z : v ≡ w = cc in ap Stopped z

-- ## One call

-- what holds of what is carried, where u is the unread rest of the frame
pub record Fit (step : SequenceStep) (k : Carry) (u : List ℕ) : Type 0 where
  pub few : length k.bytes ≤ 3
  pub stands : (w : Stop) → k.stands ≡ some w → (0 < length (k.bytes ++ u)) × (step k.state (k.bytes ++ u) ≡ stop w)
  pub waits : length u ≤ 0 → 0 < length k.bytes → step k.state k.bytes ≡ stop stopped.CutShort

-- what calls did together, d, from what is carried with u unread; n is space enough for all of it
pub record Moved (step : SequenceStep) (k : Carry) (u : List ℕ) (n : ℕ) (d : PieceRun) : Type 0 where
  pub inside : d.read ≤ length u
  pub behind : length d.carry.bytes ≤ length k.bytes + d.read
  pub same : d.carry.bytes ++ drop d.read u ≡ drop (length k.bytes + d.read - length d.carry.bytes) (k.bytes ++ u)
  pub ahead : run_of step k.state 0 (k.bytes ++ u) n
      ≡ after (length k.bytes + d.read - length d.carry.bytes) d.bytes
      (run_of step d.carry.state 0 (d.carry.bytes ++ drop d.read u) (n - length d.bytes))
  pub fit : Fit step d.carry (drop d.read u)
  pub told : (w : Stop) → d.end ≡ Stopped w → d.carry.stands ≡ some w

-- a call after others
abbrev pub onward : PieceRun → PieceRun → PieceRun
onward d a = record { end = a.end; read = d.read + a.read; bytes = d.bytes ++ a.bytes; carry = a.carry }

module _ (step : SequenceStep) (so : Sound step) (pe : Pieceable step) where
  -- nothing done
  pub moves-idle : (k : Carry) (u : List ℕ) (n : ℕ) (h : RunEnd) → Fit step k u → ((w : Stop) → h ≡ Stopped w → k.stands ≡ some w)
      → Moved step k u n (idle h k)
  moves-idle k u n h f t =
      let z : length k.bytes + 0 - length k.bytes ≡ 0 = omega arith in
      let e : n - 0 ≡ n = omega arith in
      record { inside = omega arith; behind = omega arith; same = rw z; ahead = rw (z, e) (sym (after_none _)); fit = f; told = t }

  module _ (k : Carry) (piece rest : List ℕ) (room n : ℕ) (f : Fit step k (piece ++ rest))
      (enough : NotFull (run_of step k.state 0 (k.bytes ++ (piece ++ rest)) n)) where
    abbrev now : Run
    now = run_of step k.state 0 (k.bytes ++ piece) room

    joined : (k.bytes ++ piece) ++ rest ≡ k.bytes ++ (piece ++ rest)
    joined = append_assoc k.bytes piece rest

    within : now.read ≤ length k.bytes + length piece
    within = omega (arith, reads-within step so (k.bytes ++ piece) k.state room, length-append k.bytes piece)

    -- the whole goes on from where this run ended
    ahead-now : run_of step k.state 0 (k.bytes ++ (piece ++ rest)) n
        ≡ after now.read now.bytes (run_of step now.state 0 (drop now.read (k.bytes ++ piece) ++ rest) (n - length now.bytes))
    ahead-now = subst (λ (s : List ℕ). NotFull (run_of step k.state 0 s n) → run_of step k.state 0 s n ≡ resumed step (k.bytes ++ piece) rest n now) joined
        (run-ahead step so (k.bytes ++ piece) rest k.state room n) enough

    -- what it left of its input and what follows are the whole input from its place on
    left_over : drop now.read (k.bytes ++ piece) ++ rest ≡ drop now.read (k.bytes ++ (piece ++ rest))
    left_over = sym (drop-append-le now.read (k.bytes ++ piece) rest (reads-within step so (k.bytes ++ piece) k.state room))
        ∙ ap (drop now.read) joined

    ends : (h : RunEnd) → now.end ≡ h → EndsAt step h now.state (drop now.read (k.bytes ++ piece)) (room - length now.bytes)
    ends h e = run-ends-as step so (k.bytes ++ piece) k.state room h e

    -- with nothing unread, kept bytes are a sequence cut short
    at-end : length (piece ++ rest) ≤ 0 → 0 < length k.bytes → is_cut_short now.end ≡ true
    at-end z y =
        let p : piece ≡ [] = drop_past piece 0 (omega (arith, length-append piece rest)) in
        let w : step k.state (k.bytes ++ piece) ≡ stop stopped.CutShort = rw (p, append-nil k.bytes) (f.waits z y) in
        ap (λ (r : Run). is_cut_short r.end)
        (run-stop step k.state (k.bytes ++ piece) room (omega (arith, length-append k.bytes piece)) stopped.CutShort w)

    by-short : is_cut_short now.end ≡ true → Moved step k (piece ++ rest) n (keeping k.bytes piece now)
    by-short q =
        let e = ends (Stopped stopped.CutShort) (is_cut_short-yes now.end q) in
        let a = length-append k.bytes piece in
        let b = length-append piece rest in
        let c = length-drop now.read (k.bytes ++ piece) in
        let at : length k.bytes + length piece - length (drop now.read (k.bytes ++ piece)) ≡ now.read = omega (arith, within) in
        let seam = drop-append_seam piece rest in
        record {
          inside = omega arith;
          behind = omega arith;
          same = rw (at, seam) left_over;
          ahead = rw (at, seam) ahead-now;
          fit = record {
            few = pe.short now.state (drop now.read (k.bytes ++ piece)) e.1;
            stands = λ w z. absurd (let z : ◌≡◌ {A = ℕ} 0 1 = cc in omega arith);
            waits = λ z y. e.1;
          };
          told = λ w z. absurd (let z : ◌≡◌ {A = ℕ} 0 1 = cc in omega arith);
        }

    by_place : is_cut_short now.end ≡ false → Moved step k (piece ++ rest) n (ended_at k.bytes now)
    by_place q =
        let a = length-append k.bytes piece in
        let b = length-append piece rest in
        let c = length-drop now.read k.bytes in
        let d = length-drop (now.read - length k.bytes) (piece ++ rest) in
        let at : length k.bytes + (now.read - length k.bytes) - length (drop now.read k.bytes) ≡ now.read = omega arith in
        let both : drop now.read (k.bytes ++ piece) ++ rest ≡ drop now.read k.bytes ++ drop (now.read - length k.bytes) (piece ++ rest)
        = left_over ∙ drop-++ now.read k.bytes (piece ++ rest) in
        record {
          inside = omega (arith, within);
          behind = omega arith;
          same = rw at (sym (drop-++ now.read k.bytes (piece ++ rest)));
          ahead = rw (at, ← both) ahead-now;
          fit = record {
            few = omega (arith, f.few);
            stands = λ w z.
                let h = standing-some now.end w z in
                let e = ends (Stopped w) h in
                let long = length-append (drop now.read (k.bytes ++ piece)) rest in
                rw (← both) (
                  omega (arith, e.0),
                  pe.stays now.state (drop now.read (k.bytes ++ piece)) rest w
                      (is_cut_short-no w (sym (ap is_cut_short h) ∙ q)) e.1,
                );
            waits = λ z y. absurd (clash (at-end (omega arith) (omega arith)) q);
          };
          told = λ w z. ap standing z;
        }

    -- a call on any beginning of what is unread
    pub moves : Moved step k (piece ++ rest) n (piece_on step k piece room)
    unfolding piece_on
    moves = pick-case (Moved step k (piece ++ rest) n) (is_cut_short now.end) (keeping k.bytes piece now) (ended_at k.bytes now) by-short by_place

    -- where an answer stands too
    pub moves-unless : (o : Option Stop) → k.stands ≡ o → Moved step k (piece ++ rest) n (unless o k (piece_on step k piece room))
    moves-unless none e = moves
    moves-unless (some w) e = moves-idle k (piece ++ rest) n (Stopped w) f (λ v z. let y : w ≡ v = cc in e ∙ ap some y)

  -- one after the other
  pub moves-then : (k : Carry) (u : List ℕ) (n : ℕ) (d a : PieceRun) → Moved step k u n d
      → Moved step d.carry (drop d.read u) (n - length d.bytes) a → Moved step k u n (onward d a)
  moves-then k u n d a m v =
      let i = m.inside in
      let b = m.behind in
      let j = v.inside in
      let c = v.behind in
      let l = length-drop d.read u in
      let x = length k.bytes + d.read - length d.carry.bytes in
      let y = length d.carry.bytes + a.read - length a.carry.bytes in
      let at : length k.bytes + (d.read + a.read) - length a.carry.bytes ≡ x + y = omega arith in
      let dd = drop-drop a.read d.read u in
      let room : n - length (d.bytes ++ a.bytes) ≡ n - length d.bytes - length a.bytes = rw (length-append d.bytes a.bytes) (omega arith) in
      record {
        inside = omega arith;
        behind = omega arith;
        same = rw (at, ← dd) (v.same ∙ ap (drop y) m.same ∙ drop-drop y x (k.bytes ++ u));
        ahead = m.ahead ∙ ap (after x d.bytes) v.ahead ∙ after-after x y d.bytes a.bytes _ ∙ rw (at, ← dd, room);
        fit = subst (Fit step a.carry) dd v.fit;
        told = v.told;
      }

  -- 51 does not stand
  pub piece_on-stands : (k : Carry) (piece : List ℕ) (room : ℕ) → (piece_on step k piece room).carry.stands ≡ some stopped.CutShort → ⊥
  unfolding piece_on
  piece_on-stands k piece room =
      let r = run_of step k.state 0 (k.bytes ++ piece) room in
      pick-case (λ (a : PieceRun). a.carry.stands ≡ some stopped.CutShort → ⊥) (is_cut_short r.end) (keeping k.bytes piece r) (ended_at k.bytes r)
      (λ q e. let z : ◌≡◌ {A = ℕ} 0 1 = cc in omega arith)
      (λ q e. is_cut_short-no stopped.CutShort (sym (ap is_cut_short (standing-some r.end stopped.CutShort e)) ∙ q) refl)

module _ (step : SequenceStep) (so : Sound step) (k : Carry) (piece : List ℕ) (room : ℕ) where
  abbrev now' : Run
  now' = run_of step k.state 0 (k.bytes ++ piece) room

  -- no run ends as on a table that is not valid
  pub piece_on-valid : (piece_on step k piece room).end ≡ BadTable → ⊥
  unfolding piece_on
  piece_on-valid =
      pick-case (λ (a : PieceRun). a.end ≡ BadTable → ⊥) (is_cut_short now'.end) (keeping k.bytes piece now') (ended_at k.bytes now')
      (λ q e. let z : ◌≡◌ {A = ℕ} 0 1 = cc in omega arith)
      (λ q e. run-ends-as step so (k.bytes ++ piece) k.state room BadTable e)

  -- 0 has read all of the piece
  pub piece_on-all : (piece_on step k piece room).end ≡ AllRead → (piece_on step k piece room).read ≡ length piece
  unfolding piece_on
  piece_on-all =
      pick-case (λ (a : PieceRun). a.end ≡ AllRead → a.read ≡ length piece) (is_cut_short now'.end) (keeping k.bytes piece now') (ended_at k.bytes now')
      (λ q e. refl)
      (λ q e. let r = all_read_lem step so (k.bytes ++ piece) k.state room e in omega (arith, length-append k.bytes piece))

  -- with space for every byte it is never 50
  pub piece_on-enough : AtMost 4 step → 4 * (length k.bytes + length piece) ≤ room → (piece_on step k piece room).end ≡ OutputFull → ⊥
  unfolding piece_on
  piece_on-enough most l =
      pick-case (λ (a : PieceRun). a.end ≡ OutputFull → ⊥) (is_cut_short now'.end) (keeping k.bytes piece now') (ended_at k.bytes now')
      (λ q e. let z : ◌≡◌ {A = ℕ} 0 1 = cc in omega arith)
      (λ q. four-enough step so most (k.bytes ++ piece) k.state room (omega (arith, length-append k.bytes piece)))

  -- 50 with space for what a sequence gives has read a byte or keeps fewer
  pub moves-on : (cap : ℕ) → AtMost cap step → cap ≤ room → let a = piece_on step k piece room in a.end ≡ OutputFull
      → (0 < a.read) ⊎ (length a.carry.bytes < length k.bytes)
  unfolding piece_on
  moves-on cap most l =
      pick-case (λ (a : PieceRun). a.end ≡ OutputFull → (0 < a.read) ⊎ (length a.carry.bytes < length k.bytes))
      (is_cut_short now'.end) (keeping k.bytes piece now') (ended_at k.bytes now')
      (λ q e. absurd (let z : ◌≡◌ {A = ℕ} 0 1 = cc in omega arith))
      (λ q e.
      let z = run-ends-as step so (k.bytes ++ piece) k.state room OutputFull e in
      pick-case (λ (x : ℕ). (0 < now'.read - length k.bytes) ⊎ (length (drop now'.read k.bytes) < length k.bytes)) (leb now'.read 0) 0 0
      (λ p. absurd (omega (
        arith,
        none_written step so (k.bytes ++ piece) k.state room (leb-true _ _ p),
        z.much,
        most now'.state _ z.output z.count z.next z.gives,
      )))
      (λ p. let i : 0 < now'.read = leb-false _ _ p in
      pick-case (λ (x : ℕ). (0 < now'.read - length k.bytes) ⊎ (length (drop now'.read k.bytes) < length k.bytes))
      (leb now'.read (length k.bytes)) 0 0
      (λ y. let j : now'.read ≤ length k.bytes = leb-true _ _ y in inr (omega (arith, length-drop now'.read k.bytes)))
      (λ y. let j : length k.bytes < now'.read = leb-false _ _ y in inl (omega arith))))
