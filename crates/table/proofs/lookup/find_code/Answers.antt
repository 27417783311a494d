-- The line that the search ended at is the one, if its gap says so; else there is none.
use Rattle.std.specs.Prelude.{Some}
use mathlib.Core.Path.{sym, ap, ◌∙◌, subst}
use native.Mathlib.Omega.{arith}
use borrow.Author.Tests.{lt-ltb, le-ltb}
use Rattle.table.specs.Lookup.{CodeFound, mapping_in}
use Rattle.table.specs.loops.Search.{far}
use Rattle.table.specs.declared.lookup.Mapping.{Mapping}
use Rattle.table.proofs.FoundLines.{code-line, code-nothing}
use Rattle.table.proofs.lookup.find_code.Goals as goal

pub returns-then-spot-lt-FAR : goal.returns-then-spot-lt-FAR
returns-then-spot-lt-FAR c =
    let a = c.args in
    let q = c.code_place-spot in
    let g = q.ensures.1 in
    let near = c.if-spot-lt-FAR.true in
    subst (λ (m : Mapping). CodeFound a.rec a.lines.codes.now a.lines.infos.now a.code (Some m))
    (ap mapping_in (g.held near) ∙ sym c.of_stored.ensures)
    (code-line a.rec a.lines.codes.now a.lines.infos.now a.code q.result.at (g.told ∙ lt-ltb q.result.gap far near))

pub returns : goal.returns
returns c =
    let a = c.args in
    let q = c.code_place-spot in
    code-nothing a.rec a.lines.codes.now a.lines.infos.now a.code q.result.at q.ensures.0
    (q.ensures.1.told ∙ le-ltb q.result.gap far (omega (arith, c.if-spot-lt-FAR.false)))
