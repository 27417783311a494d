use Rattle.std.proofs.Common.{rules, length}
use Rattle.utf.specs.declared.scheme.Scheme.{Scheme}
use Rattle.table.specs.declared.valid.Record.{Record}
use Rattle.convert.specs.Run.{Run}
use Rattle.cabi.specs.loops.Asked.{run_exported, memory_in}
use Rattle.cabi.proofs.Conversions.{answers-err, answers-ok}
use Rattle.cabi.proofs.convert_by.Goals as goal

pub returns-in_err-held : goal.returns-in_err-held
returns-in_err-held c =
    let a = c.args in
    let run : Record → Scheme → Run = λ r e. run_exported a.way r (memory_in a.table) a.settings a.input.now (length a.output.now) e in
    answers-err run _ _ _ _ _ c.in_err-held.ensures.value _ (search rules)

pub returns : goal.returns
returns c =
    let a = c.args in
    let run : Record → Scheme → Run = λ r e. run_exported a.way r (memory_in a.table) a.settings a.input.now (length a.output.now) e in
    answers-ok run _ _ _ _ _ _ c.in_ok-held.ensures.value _ c.converted-done.ensures.0 _ _ _
    c.put_done.ensures.number c.converted-done.ensures.1 c.put_done.ensures.written
