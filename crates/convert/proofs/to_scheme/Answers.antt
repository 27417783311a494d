-- The mark, and the side in what is left of the output.
use mathlib.Core.Path.{sym, ap, ◌∙◌}
use Prim.Native.Nat.{ℕ}
use lib.ListN.{length}
use Rattle.utf.specs.Scheme.{Side}
use Rattle.table.specs.Meaning.{Table}
use Rattle.convert.specs.Run.{Run, converted_of, put_out}
use Rattle.convert.specs.Convert.{to_side, to_run}
use Rattle.convert.proofs.MarkedOutput.{mark-full, answer-behind, output-behind}
use Rattle.convert.proofs.to_scheme.Goals as goal

pub returns-then-not-put_mark-clause-answer : goal.returns-then-not-put_mark-clause-answer
returns-then-not-put_mark-clause-answer c =
    let a = c.args in
    let run : Side → ℕ → Run = λ u room. to_side u a.table.now a.settings a.input.now room in
    c.ended.ensures
    ∙ ap converted_of (mark-full a.scheme run a.out.now c.put_mark.new.out c.put_mark.ensures.1 (sym c.put_mark.ensures.0 ∙ c.if-not-put_mark.true)).0

pub returns-then-not-put_mark-clause-written : goal.returns-then-not-put_mark-clause-written
returns-then-not-put_mark-clause-written c =
    let a = c.args in
    let run : Side → ℕ → Run = λ u room. to_side u a.table.now a.settings a.input.now room in
    (mark-full a.scheme run a.out.now c.put_mark.new.out c.put_mark.ensures.1 (sym c.put_mark.ensures.0 ∙ c.if-not-put_mark.true)).1

pub returns-clause-answer : goal.returns-clause-answer
returns-clause-answer c =
    let a = c.args in
    let run : Side → ℕ → Run = λ u room. to_side u c.copied.result a.settings a.input.now room in
    c.ended-2.ensures
    ∙ answer-behind a.scheme run a.out.now c.put_mark.new.out c.put_mark.ensures.1 (sym c.put_mark.ensures.0 ∙ c.if-not-put_mark.false)
    c.mark_len-mark.result c.mark_len-mark.ensures c.run-done.result c.run-done.ensures.answer
    ∙ ap (λ (t : Table). converted_of (to_run a.scheme t a.settings a.input.now (length a.out.now))) c.copied.ensures

pub returns-clause-written : goal.returns-clause-written
returns-clause-written c =
    let a = c.args in
    let run : Side → ℕ → Run = λ u room. to_side u c.copied.result a.settings a.input.now room in
    output-behind a.scheme run a.out.now c.put_mark.new.out c.put_mark.ensures.1 (sym c.put_mark.ensures.0 ∙ c.if-not-put_mark.false)
    c.mark_len-mark.result c.mark_len-mark.ensures c.run-done.new.out c.run-done.ensures.written
    ∙ ap (λ (t : Table). put_out (to_run a.scheme t a.settings a.input.now (length a.out.now)) a.out.now) c.copied.ensures
