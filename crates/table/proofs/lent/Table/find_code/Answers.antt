use mathlib.Core.Path.{sym, ap, ◌∙◌}
use mathlib.Core.List.{List}
use Rattle.table.specs.Limits.{limits}
use Rattle.table.specs.Meaning.{Line, Table}
use Rattle.table.specs.Lookup.{reader_of}
use Rattle.table.specs.Held.{memory_of}
use Rattle.table.proofs.TableParts.{table-lines}
use Rattle.table.proofs.lent.Table.find_code.Goals as goal

pub returns-clause-reads : goal.returns-clause-reads
returns-clause-reads c =
    let l = c.self.inside.lent in
    let code = c.args.code in
    c.find_code.ensures.on-valid limits l.states.now l.lines.order.now c.self.invariant.tested
    ∙ ap (λ (ls : List Line). reader_of code ls) (sym (table-lines l.rec (memory_of l)))
    ∙ ap (λ (t : Table). reader_of code t.lines) c.self.view_is
