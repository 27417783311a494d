-- Through the kept bytes, and on in the piece.
use mathlib.Core.Path.{◌≡◌, sym, ap, ◌∙◌}
use Prim.Native.Nat.{ℕ, ◌-◌, ◌≤◌, ◌<◌}
use mathlib.Core.List.{List, [], ◌++◌}
use native.Mathlib.Omega.{arith}
use lib.ListN.{length, take, drop, length-drop}
use Rattle.convert.specs.Run.{SequenceStep, Run, run_of, put_bytes}
use Rattle.convert.specs.Pieces.{is_cut_short, pieced_by, piece_on, state_at, step_in}
use Rattle.convert.specs.declared.pieces.Pieced.{Pieced}
use Rattle.convert.specs.declared.pieces.Ran.{Ran}
use Rattle.lists.proofs.Parts.{take_drop_all}
use native.Mathlib.Nat.{zero-add}
use Rattle.lists.specs.Place.{placed}
use Rattle.convert.specs.Pieces.{PieceRun, pieced_of}
use Rattle.convert.specs.loops.Carried.{carry_of}
use Rattle.convert.specs.loops.Inner.{Sound, Pieceable}
use Rattle.convert.specs.declared.RunEnd.TheVariants.{AllRead}
use Rattle.convert.proofs.Marked.{drop-marked, put-behind}
use Rattle.convert.proofs.Whole.{reads-within, fits}
use Rattle.convert.proofs.JoinedPieces.{cut-short-few}
use Rattle.convert.proofs.PieceSteps.{step_in-sound}
use Rattle.convert.proofs.PieceStops.{step_in-pieceable}
use Rattle.convert.proofs.Settling.{pieced_by-bytes, through-inside, through-used, piece_on-within, onward-pieced, onward-bytes, run-state}
use Rattle.convert.proofs.pieces.through_joined.Goals as goal

pub settle-requires : goal.settle-requires
settle-requires c =
    let step : SequenceStep = let a = c.args in
    step_in a.way a.scheme a.table.now a.settings in
    let so : Sound step = let a = c.args in step_in-sound a.way a.scheme _ a.settings in
    let pe : Pieceable step = let a = c.args in step_in-pieceable a.way a.scheme _ a.settings in
    let over : Run = let a = c.args in run_of step (state_at a.mark) 0 a.joined.now (length a.out.now) in
    let reads : c.run_in-over.result.done.read ≡ over.read = ap (λ (x : Ran). x.done.read) c.run_in-over.ensures.0 in
    let a = c.args in
    let s = a.joined.now in
    let so = step_in-sound a.way a.scheme _ a.settings in
    let pe = step_in-pieceable a.way a.scheme _ a.settings in
    let ends = ap (λ (x : Ran). is_cut_short x.done.end) c.run_in-over.ensures.0 in (
      c.requires.1,
      c.requires.0,
      omega (arith, reads, reads-within step so s (state_at a.mark) (length a.out.now)),
      λ q. omega (arith, reads, cut-short-few step so pe s (state_at a.mark) (length a.out.now) (sym ends ∙ q)),
    )

pub returns-then-front-old : goal.returns-then-front-old
returns-then-front-old c =
    let step : SequenceStep = let a = c.args in
    step_in a.way a.scheme a.table.now a.settings in
    let over : Run = let a = c.args in run_of step (state_at a.mark) 0 a.joined.now (length a.out.now) in
    let so : Sound step = let a = c.args in step_in-sound a.way a.scheme _ a.settings in
    let pe : Pieceable step = let a = c.args in step_in-pieceable a.way a.scheme _ a.settings in
    let inside : over.read < c.args.old → let a = c.args in pieced_by (take a.old a.joined.now) (drop a.old a.joined.now) over ≡ piece_on step (carry_of (take a.old a.joined.now) a.mark) a.input.now (length a.out.now) = λ i. let a = c.args in
    through-inside step so pe a.joined.now a.input.now a.old (state_at a.mark) (length a.out.now) c.requires.1 c.requires.2 i in
    let reads : c.run_in-over.result.done.read ≡ over.read = ap (λ (x : Ran). x.done.read) c.run_in-over.ensures.0 in
    let a = c.args in
    let i = inside (omega (arith, c.if-front-old.true, reads)) in (
      c.settle.ensures over c.run_in-over.ensures.0 ∙ ap pieced_of i,
      c.run_in-over.ensures.1
          ∙ ap (λ (bs : List ℕ). put_bytes bs a.out.now)
          (sym (pieced_by-bytes (take a.old a.joined.now) (drop a.old a.joined.now) over) ∙ ap (λ (r : PieceRun). r.bytes) i),
    )

pub slice_bounds-alone-count : goal.slice_bounds-alone-count
slice_bounds-alone-count c =
    let used : ℕ = c.run_in-over.result.done.read - c.args.old in
    let step : SequenceStep = let a = c.args in
    step_in a.way a.scheme a.table.now a.settings in
    let over : Run = let a = c.args in run_of step (state_at a.mark) 0 a.joined.now (length a.out.now) in
    let reads : c.run_in-over.result.done.read ≡ over.read = ap (λ (x : Ran). x.done.read) c.run_in-over.ensures.0 in
    let so : Sound step = let a = c.args in step_in-sound a.way a.scheme _ a.settings in
    let pe : Pieceable step = let a = c.args in step_in-pieceable a.way a.scheme _ a.settings in
    let used-within : used ≤ length c.args.input.now = let a = c.args in
    omega (
      arith,
      reads,
      through-used step so pe a.joined.now a.input.now a.old (state_at a.mark) (length a.out.now) c.requires.1 c.requires.2,
    ) in
    used-within

pub slice_bounds-alone-start : goal.slice_bounds-alone-start
slice_bounds-alone-start c =
    let used : ℕ = c.run_in-over.result.done.read - c.args.old in
    let step : SequenceStep = let a = c.args in
    step_in a.way a.scheme a.table.now a.settings in
    let over : Run = let a = c.args in run_of step (state_at a.mark) 0 a.joined.now (length a.out.now) in
    let reads : c.run_in-over.result.done.read ≡ over.read = ap (λ (x : Ran). x.done.read) c.run_in-over.ensures.0 in
    let so : Sound step = let a = c.args in step_in-sound a.way a.scheme _ a.settings in
    let pe : Pieceable step = let a = c.args in step_in-pieceable a.way a.scheme _ a.settings in
    let used-within : used ≤ length c.args.input.now = let a = c.args in
    omega (
      arith,
      reads,
      through-used step so pe a.joined.now a.input.now a.old (state_at a.mark) (length a.out.now) c.requires.1 c.requires.2,
    ) in
    used-within

pub overflow_add-result : goal.overflow_add-result
overflow_add-result c =
    let step : SequenceStep = let a = c.args in
    step_in a.way a.scheme a.table.now a.settings in
    let used : ℕ = c.run_in-over.result.done.read - c.args.old in
    let old-out : List ℕ = c.args.out.now in
    let rest : PieceRun = let a = c.args in
    let r = c.run_in-over.result in
    piece_on step (carry_of [] r.mark) (drop used a.input.now) (length old-out - r.done.written) in
    let new-out : List ℕ = c.run_in-over.new.out in
    let over : Run = let a = c.args in run_of step (state_at a.mark) 0 a.joined.now (length a.out.now) in
    let writes : c.run_in-over.result.done.written ≡ length over.bytes = ap (λ (x : Ran). x.done.written) c.run_in-over.ensures.0 in
    let count : length over.bytes ≡ c.run_in-over.result.done.written = sym writes in
    let put : new-out ≡ placed old-out 0 over.bytes = let placed_by : ℕ → List ℕ = λ n. over.bytes ++ drop n old-out in
    c.run_in-over.ensures.1 ∙ ap (λ (n : ℕ). placed_by n) (sym (zero-add (length over.bytes))) in
    let part : let n = c.run_in-over.result.done.written in take (length new-out - n) (drop n new-out) ≡ drop n old-out = let n = c.run_in-over.result.done.written in
    take_drop_all new-out n ∙ drop-marked over.bytes n count old-out new-out put in
    let gave : (c.alone-done.result ≡ pieced_of rest) × (c.alone-done.new.out ≡ put_bytes rest.bytes (drop c.run_in-over.result.done.written old-out)) = let a = c.args in
    let n = c.run_in-over.result.done.written in
    let p = part in
    let q : piece_on step (carry_of [] c.run_in-over.result.mark) (take (length a.input.now - used) (drop used a.input.now))
    (length (take (length new-out - n) (drop n new-out))) ≡ rest =
    (λ i. piece_on step (carry_of [] c.run_in-over.result.mark) (take_drop_all a.input.now used i) (length (p i)))
    ∙ ap (piece_on step (carry_of [] c.run_in-over.result.mark) (drop used a.input.now)) (length-drop n old-out) in
    (c.alone-done.ensures.0 ∙ ap pieced_of q, c.alone-done.ensures.1 ∙ (λ i. put_bytes (q i).bytes (p i))) in
    let reads : c.run_in-over.result.done.read ≡ over.read = ap (λ (x : Ran). x.done.read) c.run_in-over.ensures.0 in
    let so : Sound step = let a = c.args in step_in-sound a.way a.scheme _ a.settings in
    let pe : Pieceable step = let a = c.args in step_in-pieceable a.way a.scheme _ a.settings in
    let used-within : used ≤ length c.args.input.now = let a = c.args in
    omega (
      arith,
      reads,
      through-used step so pe a.joined.now a.input.now a.old (state_at a.mark) (length a.out.now) c.requires.1 c.requires.2,
    ) in
    let a = c.args in
    let r = ap (λ (x : Pieced). x.read) gave.0 in
    omega (
      arith,
      r,
      used-within,
      length-drop used a.input.now,
      c.well_formed.1.1.1.1.1.0.0,
      piece_on-within step so (carry_of [] c.run_in-over.result.mark) (drop used a.input.now) (length old-out - c.run_in-over.result.done.written),
    )

pub returns : goal.returns
returns c =
    let step : SequenceStep = let a = c.args in
    step_in a.way a.scheme a.table.now a.settings in
    let over : Run = let a = c.args in run_of step (state_at a.mark) 0 a.joined.now (length a.out.now) in
    let reads : c.run_in-over.result.done.read ≡ over.read = ap (λ (x : Ran). x.done.read) c.run_in-over.ensures.0 in
    let used : ℕ = c.run_in-over.result.done.read - c.args.old in
    let old-out : List ℕ = c.args.out.now in
    let rest : PieceRun = let a = c.args in
    let r = c.run_in-over.result in
    piece_on step (carry_of [] r.mark) (drop used a.input.now) (length old-out - r.done.written) in
    let so : Sound step = let a = c.args in step_in-sound a.way a.scheme _ a.settings in
    let pe : Pieceable step = let a = c.args in step_in-pieceable a.way a.scheme _ a.settings in
    let new-out : List ℕ = c.run_in-over.new.out in
    let writes : c.run_in-over.result.done.written ≡ length over.bytes = ap (λ (x : Ran). x.done.written) c.run_in-over.ensures.0 in
    let count : length over.bytes ≡ c.run_in-over.result.done.written = sym writes in
    let put : new-out ≡ placed old-out 0 over.bytes = let placed_by : ℕ → List ℕ = λ n. over.bytes ++ drop n old-out in
    c.run_in-over.ensures.1 ∙ ap (λ (n : ℕ). placed_by n) (sym (zero-add (length over.bytes))) in
    let part : let n = c.run_in-over.result.done.written in take (length new-out - n) (drop n new-out) ≡ drop n old-out = let n = c.run_in-over.result.done.written in
    take_drop_all new-out n ∙ drop-marked over.bytes n count old-out new-out put in
    let gave : (c.alone-done.result ≡ pieced_of rest) × (c.alone-done.new.out ≡ put_bytes rest.bytes (drop c.run_in-over.result.done.written old-out)) = let a = c.args in
    let n = c.run_in-over.result.done.written in
    let p = part in
    let q : piece_on step (carry_of [] c.run_in-over.result.mark) (take (length a.input.now - used) (drop used a.input.now))
    (length (take (length new-out - n) (drop n new-out))) ≡ rest =
    (λ i. piece_on step (carry_of [] c.run_in-over.result.mark) (take_drop_all a.input.now used i) (length (p i)))
    ∙ ap (piece_on step (carry_of [] c.run_in-over.result.mark) (drop used a.input.now)) (length-drop n old-out) in
    (c.alone-done.ensures.0 ∙ ap pieced_of q, c.alone-done.ensures.1 ∙ (λ i. put_bytes (q i).bytes (p i))) in
    let same : length new-out ≡ length old-out = c.run_in-over.auto.out in
    let within : length over.bytes ≤ length old-out = let a = c.args in fits step so a.joined.now (state_at a.mark) (length a.out.now) in
    let written-within : c.run_in-over.result.done.written ≤ length new-out = omega (arith, writes, same, within) in
    let a = c.args in
    let n = c.run_in-over.result.done.written in
    let past : a.old ≤ over.read = omega (arith, reads, c.if-front-old.false) in
    let place = run-state a.way a.scheme _ a.settings a.mark a.joined.now (length a.out.now) in
    let r : Run = record { end = AllRead; read = 0; bytes = rest.bytes; state = 0 } in (
      onward-pieced step so pe a.joined.now a.input.now a.old (state_at a.mark) (length a.out.now) c.requires.1 c.requires.2
          past c.run_in-over.result c.run_in-over.ensures.0 place c.alone-done.result gave.0,
      put-behind over.bytes n count old-out new-out put r (length new-out - n) _
          (omega (arith, written-within)) gave.1
          ∙ ap (λ (bs : List ℕ). put_bytes bs old-out)
          (onward-bytes step so pe a.joined.now a.input.now a.old (state_at a.mark) (length a.out.now) c.requires.1 c.requires.2
          past c.run_in-over.result c.run_in-over.ensures.0 place),
    )
