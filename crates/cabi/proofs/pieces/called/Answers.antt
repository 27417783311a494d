-- A call on a piece, or a close; the length beside a 52 that it keeps is small.
use Rattle.std.proofs.Common.{sym, ap, subst, ◌∙◌, length}
use Rattle.table.specs.Limits.{limits}
use Rattle.convert.specs.loops.Carried.{is_refused, FewBytes}
use Rattle.convert.specs.declared.pieces.Pieced.{Pieced}
use Rattle.convert.proofs.PieceLengths.{piece-few, close-few}
use Rattle.cabi.specs.loops.Asked.{memory_in}
use Rattle.cabi.proofs.pieces.called.Goals as goal

pub returns-in-Some : goal.returns-in-Some
returns-in-Some c =
    let a = c.args in
    let e = c.convert_piece.ensures in
    rw c.in-Some.is (
      e.answer,
      e.written,
      λ q. subst (λ (x : Pieced). FewBytes x.kept.standing) (sym e.answer)
          (piece-few a.way a.scheme limits a.held (memory_in a.table) a.settings a.came c.in-Some.input.now (length a.output.now)
          (ap (λ (x : Pieced). is_refused x.end) (sym e.answer) ∙ q)),
    )

pub returns-in-None : goal.returns-in-None
returns-in-None c =
    let a = c.args in
    let e = c.close.ensures in
    rw c.in-None.is (
      e.answer,
      e.written,
      λ q. subst (λ (x : Pieced). FewBytes x.kept.standing) (sym e.answer)
          (close-few a.way a.scheme limits a.held (memory_in a.table) a.settings a.came (length a.output.now)
          (ap (λ (x : Pieced). is_refused x.end) (sym e.answer) ∙ q)),
    )
