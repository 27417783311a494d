use mathlib.Core.Path.{sym, ap, ◌∙◌}
use Rattle.table.specs.Meaning.{Table}
use Rattle.table.specs.Held.{memory_of}
use Rattle.table.proofs.TableParts.{table-subchar}
use Rattle.table.proofs.lent.Table.subchar.Goals as goal

pub returns : goal.returns
returns c =
    let l = c.self.inside.lent in
    sym (table-subchar l.rec (memory_of l)) ∙ ap (λ (t : Table). t.subchar) c.self.view_is
