-- The run through the piece, and what it leaves.
use mathlib.Core.Path.{sym, ap, ◌∙◌}
use mathlib.Core.List.{List, []}
use native.Mathlib.Omega.{arith}
use lib.ListN.{length}
use Rattle.convert.specs.Run.{SequenceStep, Run, run_of, put_bytes}
use Rattle.convert.specs.Pieces.{is_cut_short, piece_on, state_at, step_in}
use Rattle.convert.specs.declared.pieces.Ran.{Ran}
use Rattle.convert.proofs.Whole.{reads-within}
use Rattle.convert.proofs.JoinedPieces.{cut-short-few}
use Rattle.convert.proofs.PieceSteps.{step_in-sound}
use Rattle.convert.proofs.PieceStops.{step_in-pieceable}
use Rattle.convert.proofs.Settling.{pieced_by-bytes}
use Rattle.convert.proofs.pieces.alone.Goals as goal

pub settle-requires : goal.settle-requires
settle-requires c =
    let step : SequenceStep = let a = c.args in
    step_in a.way a.scheme a.table.now a.settings in
    let a = c.args in
    let s = a.input.now in
    let so = step_in-sound a.way a.scheme _ a.settings in
    let pe = step_in-pieceable a.way a.scheme _ a.settings in
    let reads = ap (λ (x : Ran). x.done.read) c.run_in-ran.ensures.0 in
    let ends = ap (λ (x : Ran). is_cut_short x.done.end) c.run_in-ran.ensures.0 in (
      omega arith,
      omega arith,
      omega (arith, reads, reads-within step so s (state_at a.mark) (length a.out.now)),
      λ q. omega (arith, reads, cut-short-few step so pe s (state_at a.mark) (length a.out.now) (sym ends ∙ q)),
    )

pub returns : goal.returns
unfolding piece_on
returns c =
    let step : SequenceStep = let a = c.args in
    step_in a.way a.scheme a.table.now a.settings in
    let run : Run = let a = c.args in run_of step (state_at a.mark) 0 a.input.now (length a.out.now) in
    let a = c.args in
    (c.settle.ensures run c.run_in-ran.ensures.0, c.run_in-ran.ensures.1 ∙ ap (λ (bs : List _). put_bytes bs a.out.now) (sym (pieced_by-bytes [] a.input.now run)))
