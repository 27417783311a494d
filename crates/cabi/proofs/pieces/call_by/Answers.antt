use Rattle.std.proofs.Common.{rules, length, sym, ◌∙◌}
use Rattle.std.specs.Prelude.{option_copied}
use Rattle.utf.specs.declared.scheme.Scheme.{Scheme}
use Rattle.table.specs.declared.valid.Record.{Record}
use Rattle.convert.specs.Pieces.{PieceAnswer}
use Rattle.convert.specs.declared.pieces.Kept.{Kept}
use Rattle.cabi.specs.loops.Asked.{call_exported, memory_in}
use Rattle.cabi.proofs.PieceAnswers.{short-kept, answers-err, answers-ok}
use Rattle.cabi.proofs.pieces.call_by.Goals as goal

pub returns-in_err-came : goal.returns-in_err-came
returns-in_err-came c =
    let a = c.args in
    let run : Kept → Record → Scheme → PieceAnswer = λ k r e. call_exported a.way r (memory_in a.table) k a.settings (option_copied a.piece) (length a.output.now) e in
    short-kept run _ _ _ _ _ (sym c.in_err-came.ensures.ok_part ∙ c.kept_in.ensures.value) _ (search rules)

pub returns-in_err-held : goal.returns-in_err-held
returns-in_err-held c =
    let a = c.args in
    let run : Kept → Record → Scheme → PieceAnswer = λ k r e. call_exported a.way r (memory_in a.table) k a.settings (option_copied a.piece) (length a.output.now) e in
    answers-err run _ _ _ _ _ _ (sym c.in_ok-came.ensures.ok_part ∙ c.kept_in.ensures.value) _ c.in_err-held.ensures.value _ (search rules)

pub keep-requires : goal.keep-requires
keep-requires c = record {
  five = rw c.in_ok-came.ensures.ok_part at c.kept_in.ensures.enough;
  few = c.called-done.ensures.2;
}

pub returns : goal.returns
returns c =
    let a = c.args in
    let e = c.called-done.ensures in
    let run : Kept → Record → Scheme → PieceAnswer = λ k r e. call_exported a.way r (memory_in a.table) k a.settings (option_copied a.piece) (length a.output.now) e in
    answers-ok run _ _ _ _ _ _ (sym c.in_ok-came.ensures.ok_part ∙ c.kept_in.ensures.value) _ _ c.in_ok-held.ensures.value _ e.0 _ _ _ _
    c.put_pieced.ensures.number c.keep.ensures e.1 c.put_pieced.ensures.written
