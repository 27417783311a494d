-- A call's answer, as the functions put it together: by the run through its text, and where kept bytes and piece stand
-- in two places.
-- settle-short, settle-ended     by the run                 pieced_by-bytes     what was written
-- through-inside, through-onward   kept bytes and the front of the piece, joined      run-state   the place of the mark
use Rattle.std.specs.Prelude.{Option as Optional, None}
use Rattle.utf.specs.declared.utf32.ByteOrder.{ByteOrder}
use Rattle.utf.specs.declared.utf8.Stop.{Stop}
use mathlib.Core.Path.{◌≡◌, refl, sym, ap, subst, ◌∙◌}
use Prim.Native.Nat.{ℕ, suc, ◌+◌, ◌-◌, ◌≤◌, ◌<◌, min}
use mathlib.Core.Bool.{true, false}
use mathlib.Core.List.{List, [], ◌∷◌, ◌++◌, append_assoc}
use mathlib.Core.Option.{none}
use native.Mathlib.Omega.{arith}
use borrow.Author.Tests.{leb-true, leb-false}
use lib.Dec.{leb}
use lib.ListN.{length, get_or, set, take, drop, length-append, length-drop, take-append-drop, drop_of_length-le}
use lib.Seq.{sets, sets-eq, take_at, take-suc, take-suc-set, length-take-le, take-append-le, take_all, drop-append-le}
use Rattle.lists.proofs.Cases.{pick_yes, pick_no, pick-case}
use Rattle.utf.specs.declared.scheme.Scheme.{Scheme}
use Rattle.utf.specs.Scheme.{side_of}
use Rattle.table.specs.Codes.{unpacked, code_of}
use Rattle.table.proofs.Packing.{length-unpacked}
use Rattle.table.specs.Meaning.{Table}
use Rattle.table.specs.declared.states.Code.{Code}
use Rattle.convert.specs.Run.{SequenceStep, Run, run_of, converted_of, put_out}
use Rattle.convert.specs.Pieces.{Carry, PieceRun, is_cut_short, standing, stands_as, keeping, ended_at, pieced_by, piece_on, pieced_of, state_at, place_at, step_in}
use Rattle.convert.specs.loops.Inner.{Sound, Pieceable}
use Rattle.convert.specs.Convert.{to_side, from_run}
use Rattle.convert.specs.loops.Carried.{ran_of, carry_of, scheme_behind, mark_after}
use Rattle.convert.specs.declared.Converted.{Converted}
use Rattle.convert.specs.declared.RunEnd.{RunEnd}
use Rattle.convert.specs.declared.RunEnd.TheVariants.{AllRead}
use Rattle.convert.specs.declared.Settings.{Settings}
use Rattle.convert.specs.declared.pieces.Way.{Way}
use Rattle.convert.specs.declared.pieces.Way.TheVariants.{ToUnicode, FromUnicode}
use Rattle.convert.specs.declared.pieces.PieceEnd.TheVariants.{Ended}
use Rattle.convert.specs.declared.pieces.Pieced.{Pieced}
use Rattle.convert.specs.declared.pieces.Ran.{Ran}
use Rattle.convert.proofs.Whole.{reads-within, fits}
use Rattle.convert.proofs.JoinedPieces.{joined-inside, joined-used, joined-onward}
use Rattle.convert.proofs.KeptForms.{state_at-place_at, place_at-state_at, state_at-few}
use Rattle.convert.proofs.PieceSteps.{step_in-to-run, step_in-from-run}

-- a part of a list
pub take-drop-part : (s : List ℕ) (from to : ℕ) → from ≤ to → to ≤ length s → take (to - from) (drop from s) ≡ drop from (take to s)
take-drop-part s from to h l =
    let n = length-take-le to s l in
    let d = length-drop from (take to s) in
    ap (take (to - from)) (ap (drop from) (sym (take-append-drop to s)) ∙ drop-append-le from (take to s) (drop to s) (omega arith))
    ∙ take-append-le (to - from) (drop from (take to s)) (drop to s) (omega arith)
    ∙ take_all (to - from) (drop from (take to s)) (omega arith)

-- past its end a list is empty
drop_min : (n m : ℕ) (l : List ℕ) → length l ≤ m → drop (min n m) l ≡ drop n l
drop_min n m l h =
    pick-case (λ (x : ℕ). drop (min n m) l ≡ drop n l) (leb n m) 0 0
    (λ q. let k : n ≤ m = leb-true n m q in let e : min n m ≡ n = omega arith in ap (λ (x : ℕ). drop x l) e)
    (λ q.
    let k : m < n = leb-false n m q in
    let e : min n m ≡ m = omega arith in
    let far : length l ≤ n = omega arith in
    let none : drop n l ≡ [] = drop_of_length-le l far in
    ap (λ (x : ℕ). drop x l) e ∙ drop_of_length-le l h ∙ sym none)

-- ## By the run

pub pieced_by-bytes : (old piece : List ℕ) (r : Run) → (pieced_by old piece r).bytes ≡ r.bytes
pieced_by-bytes old piece r = pick-case (λ (x : PieceRun). x.bytes ≡ r.bytes) (is_cut_short r.end) (keeping old piece r) (ended_at old r) (λ q. refl) (λ q. refl)

module _ (s : List ℕ) (old : ℕ) (ran : Ran) (l : old ≤ length s) (run : Run) (is : ran ≡ ran_of run) where
  ends : ran.done.end ≡ run.end
  ends = ap (λ (x : Ran). x.done.end) is

  reads : ran.done.read ≡ run.read
  reads = ap (λ (x : Ran). x.done.read) is

  writes : ran.done.written ≡ length run.bytes
  writes = ap (λ (x : Ran). x.done.written) is

  marks : ran.mark ≡ place_at run.state
  marks = ap (λ (x : Ran). x.mark) is

  -- it ended inside a sequence
  pub settle-short : is_cut_short ran.done.end ≡ true → (code : Code) → code ≡ code_of (drop ran.done.read (take (length s) s))
      → ◌≡◌ {A = Pieced}
      (record { end = Ended AllRead; read = length s - old; written = ran.done.written; kept = record { bytes = code; mark = ran.mark; standing = None } })
      (pieced_of (pieced_by (take old s) (drop old s) run))
  settle-short q code c =
      let whole : take (length s) s ≡ take old s ++ drop old s = take_all (length s) s (omega arith) ∙ sym (take-append-drop old s) in
      let bytes = c ∙ (λ i. code_of (drop (reads i) (whole i))) in
      (λ i. record {
        end = Ended AllRead;
        read = sym (length-drop old s) i;
        written = writes i;
        kept = record { bytes = bytes i; mark = marks i; standing = None };
      })
      ∙ ap pieced_of (sym (pick_yes (is_cut_short run.end) (keeping (take old s) (drop old s) run) (ended_at (take old s) run) (ap is_cut_short (sym ends) ∙ q)))

  -- it did not
  pub settle-ended : is_cut_short ran.done.end ≡ false → (from : ℕ) → from ≡ min ran.done.read old
      → (code : Code) → code ≡ code_of (drop from (take old s)) → (st : Optional Stop) → st ≡ stands_as (standing ran.done.end)
      → ◌≡◌ {A = Pieced}
      (record { end = Ended ran.done.end; read = ran.done.read - from; written = ran.done.written; kept = record { bytes = code; mark = ran.mark; standing = st } })
      (pieced_of (pieced_by (take old s) (drop old s) run))
  settle-ended q from f code c st z =
      let n = length-take-le old s l in
      let few : length (take old s) ≤ old = omega arith in
      let read : ran.done.read - from ≡ run.read - length (take old s) = omega (arith, reads) in
      let bytes = c ∙ ap (λ (k : ℕ). code_of (drop k (take old s))) f ∙ ap code_of (drop_min ran.done.read old (take old s) few) ∙ ap (λ (k : ℕ). code_of (drop k (take old s))) reads in
      let stays = z ∙ ap (λ (h : RunEnd). stands_as (standing h)) ends in
      (λ i. record {
        end = Ended (ends i);
        read = read i;
        written = writes i;
        kept = record { bytes = bytes i; mark = marks i; standing = stays i };
      })
      ∙ ap pieced_of (sym (pick_no (is_cut_short run.end) (keeping (take old s) (drop old s) run) (ended_at (take old s) run) (ap is_cut_short (sym ends) ∙ q)))

-- ## Kept bytes and the front of the piece, joined

module _ (step : SequenceStep) (so : Sound step) (pe : Pieceable step) (joined input : List ℕ) (old st room : ℕ)
    (l : old ≤ length joined) (split : drop old joined ≡ take 3 input) where
  abbrev over : Run
  over = run_of step st 0 joined room

  buffer : take old joined ++ take 3 input ≡ joined
  buffer = ap (λ (x : List ℕ). take old joined ++ x) (sym split) ∙ take-append-drop old joined

  pub through-inside : over.read < old
      → pieced_by (take old joined) (drop old joined) over ≡ piece_on step (record { bytes = take old joined; state = st; stands = none }) input room
  through-inside i =
      let n = length-take-le old joined l in
      sym (joined-inside step so pe (take old joined) input st room (subst (λ (x : List ℕ). (run_of step st 0 x room).read < length (take old joined)) (sym buffer) (omega arith))
      ∙ (λ j. pieced_by (take old joined) (sym split j) (run_of step st 0 (buffer j) room)))

  pub through-used : over.read - old ≤ length input
  through-used =
      let n = length-take-le old joined l in
      let u = joined-used step so pe (take old joined) input st room in
      let r = ap (λ (x : List ℕ). (run_of step st 0 x room).read) buffer in
      omega (arith, u)

  pub through-onward : old ≤ over.read
      → let used = over.read - old in
      let rest = piece_on step (record { bytes = []; state = over.state; stands = none }) (drop used input) (room - length over.bytes) in
      piece_on step (record { bytes = take old joined; state = st; stands = none }) input room
      ≡ record { end = rest.end; read = used + rest.read; bytes = over.bytes ++ rest.bytes; carry = rest.carry }
  through-onward h =
      let n = length-take-le old joined l in
      joined-onward step so pe (take old joined) input st room (subst (λ (x : List ℕ). length (take old joined) ≤ (run_of step st 0 x room).read) (sym buffer) (omega arith))
      ∙ (λ j. onward (n j) (run_of step st 0 (buffer j) room))
    where
      onward : ℕ → Run → PieceRun
      onward m r =
          let rest = piece_on step (record { bytes = []; state = r.state; stands = none }) (drop (r.read - m) input) (room - length r.bytes) in
          record { end = rest.end; read = r.read - m + rest.read; bytes = r.bytes ++ rest.bytes; carry = rest.carry }

  -- the answer, by that of the call on the rest of the piece
  module _ (h : old ≤ over.read) (ran : Ran) (is : ran ≡ ran_of over) (place : state_at (place_at over.state) ≡ over.state) where
    abbrev rest_by : Ran → PieceRun
    rest_by x = piece_on step (carry_of [] x.mark) (drop (x.done.read - old) input) (room - x.done.written)

    abbrev rest : PieceRun
    rest = piece_on step (record { bytes = []; state = over.state; stands = none }) (drop (over.read - old) input) (room - length over.bytes)

    rest-is : rest_by ran ≡ rest
    rest-is =
        ap rest_by is
        ∙ ap (λ (x : ℕ). piece_on step (record { bytes = []; state = x; stands = none }) (drop (over.read - old) input) (room - length over.bytes)) place

    pub onward-pieced : (done : Pieced) → done ≡ pieced_of (rest_by ran)
        → ◌≡◌ {A = Pieced}
        (record { end = done.end; read = ran.done.read - old + done.read; written = ran.done.written + done.written; kept = done.kept })
        (pieced_of (piece_on step (record { bytes = take old joined; state = st; stands = none }) input room))
    onward-pieced done d =
        let q = d ∙ ap pieced_of rest-is in
        (λ i. record { end = (q i).end; read = (is i).done.read - old + (q i).read; written = (is i).done.written + (q i).written; kept = (q i).kept })
        ∙ ap (λ (n : ℕ). record { end = (pieced_of rest).end; read = over.read - old + rest.read; written = n; kept = (pieced_of rest).kept })
        (sym (length-append over.bytes rest.bytes))
        ∙ ap pieced_of (sym (through-onward h))

    pub onward-bytes : over.bytes ++ (rest_by ran).bytes ≡ (piece_on step (record { bytes = take old joined; state = st; stands = none }) input room).bytes
    onward-bytes = ap (λ (x : PieceRun). over.bytes ++ x.bytes) rest-is ∙ ap (λ (x : PieceRun). x.bytes) (sym (through-onward h))

-- a call reads no more than its piece, and writes no more than there is space
module _ (step : SequenceStep) (so : Sound step) (k : Carry) (piece : List ℕ) (room : ℕ) where
  pub piece_on-within : (piece_on step k piece room).read ≤ length piece
  unfolding piece_on
  piece_on-within =
      let r = run_of step k.state 0 (k.bytes ++ piece) room in
      pick-case (λ (x : PieceRun). x.read ≤ length piece) (is_cut_short r.end) (keeping k.bytes piece r) (ended_at k.bytes r)
      (λ q. omega arith)
      (λ q. omega (arith, reads-within step so (k.bytes ++ piece) k.state room, length-append k.bytes piece))

  pub piece_on-fits : length (piece_on step k piece room).bytes ≤ room
  unfolding piece_on
  piece_on-fits =
      let r = run_of step k.state 0 (k.bytes ++ piece) room in
      omega (arith, ap length (pieced_by-bytes k.bytes piece r), fits step so (k.bytes ++ piece) k.state room)

-- the state behind a run is the place of the mark
pub run-state : (way : Way) (e : Scheme) (t : Table) (settings : Settings) (p : Optional ByteOrder) (s : List ℕ) (room : ℕ)
    → let r = run_of (step_in way e t settings) (state_at p) 0 s room in state_at (place_at r.state) ≡ r.state
run-state ToUnicode e t settings p s room =
    let q = ap (λ (r : Run). r.state) (step_in-to-run e t settings (state_at p) s room) in
    state_at-place_at _ (omega (arith, state_at-few p, q))
run-state FromUnicode e t settings p s room =
    let q = ap (λ (r : Run). r.state) (step_in-from-run e t settings p s room) in
    state_at-place_at _ (omega (arith, state_at-few (mark_after e p s (from_run (scheme_behind e p) t settings s room).read), q))

-- ## A run of either way

module _ (e : Scheme) (t : Table) (settings : Settings) (p : Optional ByteOrder) (s : List ℕ) (room : ℕ) where
  abbrev ran : Way → Run
  ran w = run_of (step_in w e t settings) (state_at p) 0 s room

  pub ran_to : (w : Way) → w ≡ ToUnicode → (done : Converted) → done ≡ converted_of (to_side (side_of e) t settings s room)
      → ◌≡◌ {A = Ran} (record { done = done; mark = p }) (ran_of (ran w))
  ran_to w q done d =
      (λ i. record { done = d i; mark = sym (place_at-state_at p) i })
      ∙ sym (ap ran_of (step_in-to-run e t settings (state_at p) s room))
      ∙ ap (λ (x : Way). ran_of (ran x)) (sym q)

  pub put-to : (w : Way) → w ≡ ToUnicode → (old : List ℕ) → put_out (to_side (side_of e) t settings s room) old ≡ put_out (ran w) old
  put-to w q old = ap (λ (r : Run). put_out r old) (sym (step_in-to-run e t settings (state_at p) s room)) ∙ ap (λ (x : Way). put_out (ran x) old) (sym q)

  module _ (w : Way) (q : w ≡ FromUnicode) (b : Scheme) (c : b ≡ scheme_behind e p) where
    from-run : from_run b t settings s room ≡ from_run (scheme_behind e p) t settings s room
    from-run = ap (λ (x : Scheme). from_run x t settings s room) c

    pub ran-from : (done : Converted) → done ≡ converted_of (from_run b t settings s room) → (m : Optional ByteOrder) → m ≡ mark_after e p s done.read
        → ◌≡◌ {A = Ran} (record { done = done; mark = m }) (ran_of (ran w))
    ran-from done d m z =
        let f = d ∙ ap converted_of from-run in
        let place = z ∙ ap (λ (x : Converted). mark_after e p s x.read) f in
        (λ i. record { done = f i; mark = (place ∙ sym (place_at-state_at _)) i })
        ∙ sym (ap ran_of (step_in-from-run e t settings p s room))
        ∙ ap (λ (x : Way). ran_of (ran x)) (sym q)

    pub put-from : (old : List ℕ) → put_out (from_run b t settings s room) old ≡ put_out (ran w) old
    put-from old =
        ap (λ (r : Run). put_out r old) (from-run ∙ refl)
        ∙ ap (λ (r : Run). put_out r old) (sym (step_in-from-run e t settings p s room)) ∙ ap (λ (x : Way). put_out (ran x) old) (sym q)

-- ## Bytes put to the front

pub front-put : (old : List ℕ) (n v : ℕ) → n ≤ length old → take n (sets old 0 (unpacked n v)) ≡ unpacked n v
front-put old n v h =
    let e = length-unpacked n v in
    ap (take n) (sets-eq (unpacked n v) old 0 (omega arith)) ∙ take_at (unpacked n v) (drop (0 + length (unpacked n v)) old) n e

-- the first n of a list, or all
pub take_min : (n : ℕ) (l : List ℕ) → take (min (length l) n) l ≡ take n l
take_min n l =
    pick-case (λ (x : ℕ). take (min (length l) n) l ≡ take n l) (leb n (length l)) 0 0
    (λ q. let k : n ≤ length l = leb-true n (length l) q in let e : min (length l) n ≡ n = omega arith in ap (λ (x : ℕ). take x l) e)
    (λ q.
    let k : length l < n = leb-false n (length l) q in
    take_all (min (length l) n) l (omega arith) ∙ sym (take_all n l (omega arith)))

-- a turn: one more byte of the piece behind the kept ones
pub join-turn : (front piece buffer : List ℕ) (n i : ℕ) → n + i < length buffer → i < length piece → take (n + i) buffer ≡ front ++ take i piece
    → take (n + (i + 1)) (set buffer (n + i) (get_or piece i 0)) ≡ front ++ take (i + 1) piece
join-turn front piece buffer n i h k e =
    let a : n + (i + 1) ≡ suc (n + i) = omega arith in
    let b : i + 1 ≡ suc i = omega arith in
    ap (λ (m : ℕ). take m (set buffer (n + i) (get_or piece i 0))) a
    ∙ take-suc-set buffer (n + i) (get_or piece i 0) h
    ∙ ap (λ (x : List ℕ). x ++ (get_or piece i 0 ∷ [])) e
    ∙ append_assoc front (take i piece) (get_or piece i 0 ∷ [])
    ∙ ap (λ (x : List ℕ). front ++ x) (sym (take-suc piece i 0 k) ∙ ap (λ (m : ℕ). take m piece) (sym b))

-- kept bytes, and the first three of a piece behind them
pub joined-put : (old new : List ℕ) (n v : ℕ) (piece : List ℕ) → new ≡ sets old 0 (unpacked n v) → n ≤ 3 → 6 ≤ length old
    → (more : ℕ) → more ≡ min (length piece) 3 → (part : List ℕ) → part ≡ take more piece → (behind : List ℕ)
    → (n + more ≤ length (take n new ++ (part ++ behind))) × (take (n + more) (take n new ++ (part ++ behind)) ≡ unpacked n v ++ take 3 piece)
joined-put old new n v piece put few long more is part copied behind =
    let front : take n new ≡ unpacked n v = ap (take n) put ∙ front-put old n v (omega arith) in
    let third : part ≡ take 3 piece = copied ∙ ap (λ (k : ℕ). take k piece) is ∙ take_min 3 piece in
    let m : length part ≡ more = ap length copied ∙ length-take-le more piece (omega (arith, is)) in
    let head : length (take n new ++ part) ≡ n + more = length-append (take n new) part ∙ (λ i. (ap length front ∙ length-unpacked n v) i + m i) in
    let all : take n new ++ (part ++ behind) ≡ (take n new ++ part) ++ behind = sym (append_assoc (take n new) part behind) in (
      omega (arith, ap length all, length-append (take n new ++ part) behind, head),
      ap (take (n + more)) all ∙ take_at (take n new ++ part) behind (n + more) head ∙ (λ i. front i ++ third i),
    )
