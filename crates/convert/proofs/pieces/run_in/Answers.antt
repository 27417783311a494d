-- By the way: the steps' runs are those of the whole conversions, behind the mark.
use mathlib.Core.Path.{ap, ◌∙◌}
use lib.ListN.{length}
use Rattle.table.specs.Meaning.{Table}
use Rattle.utf.specs.Scheme.{side_of}
use Rattle.convert.specs.Run.{converted_of, put_out}
use Rattle.convert.specs.Convert.{to_side}
use Rattle.convert.proofs.Settling.{ran_to, put-to, ran-from, put-from}
use Rattle.convert.proofs.pieces.run_in.Goals as goal

pub returns-in-ToUnicode : goal.returns-in-ToUnicode
returns-in-ToUnicode c =
    let table : Table = c.args.table.now in
    let a = c.args in
    let w = c.in-ToUnicode.is in
    let old = a.out.now in (
      ran_to a.scheme table a.settings a.mark a.input.now (length old) a.way w c.run-done.result
          (c.run-done.ensures.answer
          ∙ ap (λ (t : Table). converted_of (to_side (side_of a.scheme) t a.settings a.input.now (length old))) c.copied.ensures),
      c.run-done.ensures.written
          ∙ ap (λ (t : Table). put_out (to_side (side_of a.scheme) t a.settings a.input.now (length old)) old) c.copied.ensures
          ∙ put-to a.scheme table a.settings a.mark a.input.now (length old) a.way w old,
    )

pub returns-in-FromUnicode : goal.returns-in-FromUnicode
returns-in-FromUnicode c =
    let table : Table = c.args.table.now in
    let a = c.args in
    let b = c.scheme_behind-behind in
    let w = c.in-FromUnicode.is in
    let old = a.out.now in (
      ran-from a.scheme table a.settings a.mark a.input.now (length old) a.way w b.result b.ensures c.from_scheme-done.result
          c.from_scheme-done.ensures.answer c.mark_after-mark.result c.mark_after-mark.ensures,
      c.from_scheme-done.ensures.written ∙ put-from a.scheme table a.settings a.mark a.input.now (length old) a.way w b.result b.ensures old,
    )
