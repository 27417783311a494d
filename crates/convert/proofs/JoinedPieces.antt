-- A call where kept bytes and piece stand in two places: the run over the kept bytes and the first three of the piece. If
-- that ends in the kept bytes it is the call's run; else the call goes on in the piece alone, with nothing kept.
use mathlib.Core.Path.{◌≡◌, refl, sym, ap, ◌∙◌}
use Prim.Native.Nat.{ℕ, ◌+◌, ◌-◌, ◌≤◌, ◌<◌}
use mathlib.Core.List.{List, [], ◌++◌, append-nil, append_assoc}
use mathlib.Core.Bool.{Bool, true, false}
use mathlib.Core.Option.{none}
use native.Mathlib.Omega.{arith}
use native.Mathlib.Nat.{add-zero}
use lib.ListN.{length, take, drop, length-append, length-drop, length-take, take-append-drop, drop_of_length-le}
use lib.Seq.{drop-append-le, drop-drop, drop-nil}
use Rattle.lists.proofs.Laws.{drop_past}
use Rattle.lists.proofs.Cases.{pick_yes, pick_no}
use Rattle.convert.specs.Run.{SequenceStep, Run, run_of, after, ended_with}
use Rattle.convert.specs.Pieces.{Carry, PieceRun, is_cut_short, standing, pieced_by, piece_on}
use Rattle.convert.specs.loops.Inner.{Sound, Pieceable}
use Rattle.convert.specs.declared.RunEnd.{RunEnd}
use Rattle.convert.specs.declared.RunEnd.TheVariants.{AllRead, OutputFull, BadTable, Stopped}
use Rattle.utf.specs.declared.utf8.Stop.TheVariants as stopped
use Rattle.convert.proofs.Runs.{run-stop, run-full}
use Rattle.convert.proofs.Whole.{resume, reads-within}
use Rattle.convert.proofs.PieceRuns.{EndsAt, run_ends, run-ends-as, drop-++, is_cut_short-yes, is_cut_short-no}

module _ (step : SequenceStep) (so : Sound step) (pe : Pieceable step) where
  -- a run that ended before the end of its input, but not cut short, ends so under more input
  ends-again : (h : RunEnd) (st : ℕ) (s t : List ℕ) (room : ℕ) → is_cut_short h ≡ false → 0 < length s → EndsAt step h st s room
      → run_of step st 0 (s ++ t) room ≡ ended_with h st
  ends-again AllRead st s t room q y e = absurd (omega arith)
  ends-again BadTable st s t room q y e = absurd e
  ends-again (Stopped w) st s t room q y e = run-stop step st (s ++ t) room (omega (arith, length-append s t)) w (pe.stays st s t w (is_cut_short-no w q) e.1)
  ends-again OutputFull st s t room q y e =
      run-full step st (s ++ t) room (omega (arith, length-append s t)) e.output e.count e.next
      (so.grows st s t e.output e.count e.next e.gives) e.much

  pub run-++ : (s t : List ℕ) (st room : ℕ) → let r = run_of step st 0 s room in is_cut_short r.end ≡ false → r.read < length s
      → run_of step st 0 (s ++ t) room ≡ r
  run-++ s t st room q i =
      let r = run_of step st 0 s room in
      resume step so s t st room
      ∙ ap (after r.read r.bytes) (ends-again r.end r.state (drop r.read s) t (room - length r.bytes) q
      (omega (arith, length-drop r.read s)) (run_ends step so s st room))
      ∙ (λ i. record { end = r.end; read = add-zero r.read i; bytes = append-nil r.bytes i; state = r.state })

  -- what is cut short has at most three bytes
  pub cut-short-few : (s : List ℕ) (st room : ℕ) → is_cut_short (run_of step st 0 s room).end ≡ true → length s ≤ (run_of step st 0 s room).read + 3
  cut-short-few s st room q =
      let r = run_of step st 0 s room in
      let e = run-ends-as step so s st room (Stopped stopped.CutShort) (is_cut_short-yes r.end q) in
      let few = pe.short r.state (drop r.read s) e.1 in
      omega (arith, length-drop r.read s)

  module _ (old piece : List ℕ) (st room : ℕ) where
    abbrev pub buffer : List ℕ
    buffer = old ++ take 3 piece

    abbrev pub over : Run
    over = run_of step st 0 buffer room

    abbrev pub carried : Carry
    carried = record { bytes = old; state = st; stands = none }

    joined : buffer ++ drop 3 piece ≡ old ++ piece
    joined = append_assoc old (take 3 piece) (drop 3 piece) ∙ ap (λ (s : List ℕ). old ++ s) (take-append-drop 3 piece)

    length-buffer : length buffer ≡ length old + length (take 3 piece)
    length-buffer = length-append old (take 3 piece)

    pub joined-short : is_cut_short over.end ≡ true → length buffer ≤ over.read + 3
    joined-short q = cut-short-few buffer st room q

    module _ (i : over.read < length old) where
      -- not cut short: so does the call
      inside-ended : is_cut_short over.end ≡ false → piece_on step carried piece room ≡ pieced_by old (take 3 piece) over
      unfolding piece_on
      inside-ended q =
          ap (λ (s : List ℕ). pieced_by old piece (run_of step st 0 s room)) (sym joined)
          ∙ ap (pieced_by old piece) (run-++ buffer (drop 3 piece) st room q (omega (arith, length-buffer)))
          ∙ pick_no (is_cut_short over.end) _ _ q
          ∙ sym (pick_no (is_cut_short over.end) _ _ q)

      -- cut short: the buffer has all of the piece
      inside-short : is_cut_short over.end ≡ true → piece_on step carried piece room ≡ pieced_by old (take 3 piece) over
      unfolding piece_on
      inside-short q =
          let few = joined-short q in
          let rest : drop 3 piece ≡ [] = drop_past (drop 3 piece) 0 (omega (arith, length-drop 3 piece, length-take 3 piece, length-buffer)) in
          let all : piece ≡ take 3 piece = sym (take-append-drop 3 piece) ∙ ap (λ (s : List ℕ). take 3 piece ++ s) rest ∙ append-nil (take 3 piece) in
          ap (λ (s : List ℕ). pieced_by old s (run_of step st 0 (old ++ s) room)) all

      by-short : (b : Bool) → is_cut_short over.end ≡ b → piece_on step carried piece room ≡ pieced_by old (take 3 piece) over
      by-short true q = inside-short q
      by-short false q = inside-ended q

      -- it ends in the kept bytes: it is the call's run
      pub joined-inside : piece_on step carried piece room ≡ pieced_by old (take 3 piece) over
      joined-inside = by-short (is_cut_short over.end) refl

    abbrev pub used : ℕ
    used = over.read - length old

    pub joined-used : used ≤ length piece
    joined-used = omega (arith, reads-within step so buffer st room, length-buffer, length-take 3 piece)

    -- it is through the kept bytes: the call goes on in the piece, from where this run ended
    module _ (through : length old ≤ over.read) where
      abbrev beyond : Run
      beyond = run_of step over.state 0 (drop used piece) (room - length over.bytes)

      from-there : drop over.read (old ++ piece) ≡ drop used piece
      from-there = drop-++ over.read old piece ∙ ap (λ (s : List ℕ). s ++ drop used piece) (drop_of_length-le old through)

      run-onward : run_of step st 0 (old ++ piece) room ≡ after over.read over.bytes beyond
      run-onward =
          ap (λ (s : List ℕ). run_of step st 0 s room) (sym joined)
          ∙ resume step so buffer (drop 3 piece) st room
          ∙ ap (λ (s : List ℕ). after over.read over.bytes (run_of step over.state 0 s (room - length over.bytes)))
          (sym (drop-append-le over.read buffer (drop 3 piece) (reads-within step so buffer st room)) ∙ ap (drop over.read) joined ∙ from-there)

      abbrev onward : PieceRun → PieceRun
      onward r = record { end = r.end; read = used + r.read; bytes = over.bytes ++ r.bytes; carry = r.carry }

      onward-short : (b : Bool) → is_cut_short beyond.end ≡ b → pieced_by old piece (after over.read over.bytes beyond)
          ≡ onward (pieced_by [] (drop used piece) beyond)
      onward-short true q =
          let n : length piece ≡ used + length (drop used piece) = omega (arith, joined-used, length-drop used piece) in
          let kept : drop (over.read + beyond.read) (old ++ piece) ≡ drop beyond.read (drop used piece)
          = sym (drop-drop beyond.read over.read (old ++ piece)) ∙ ap (drop beyond.read) from-there in
          pick_yes (is_cut_short beyond.end) _ _ q
          ∙ (λ i. record {
            end = AllRead;
            read = n i;
            bytes = over.bytes ++ beyond.bytes;
            carry = record { bytes = kept i; state = beyond.state; stands = none };
          })
          ∙ ap onward (sym (pick_yes (is_cut_short beyond.end) _ _ q))
      onward-short false q =
          let n : over.read + beyond.read - length old ≡ used + (beyond.read - 0) = omega arith in
          let past : length old ≤ over.read + beyond.read = omega arith in
          let kept : drop (over.read + beyond.read) old ≡ drop beyond.read [] = drop_of_length-le old past ∙ sym (drop-nil beyond.read) in
          pick_no (is_cut_short beyond.end) _ _ q
          ∙ (λ i. record {
            end = beyond.end;
            read = n i;
            bytes = over.bytes ++ beyond.bytes;
            carry = record { bytes = kept i; state = beyond.state; stands = standing beyond.end };
          })
          ∙ ap onward (sym (pick_no (is_cut_short beyond.end) _ _ q))

      pub joined-onward : let rest = piece_on step (record { bytes = []; state = over.state; stands = none }) (drop used piece) (room - length over.bytes) in
          piece_on step carried piece room ≡ record { end = rest.end; read = used + rest.read; bytes = over.bytes ++ rest.bytes; carry = rest.carry }
      unfolding piece_on
      joined-onward = ap (pieced_by old piece) run-onward ∙ onward-short (is_cut_short beyond.end) refl
