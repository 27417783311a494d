use native.Mathlib.Omega.{arith}
use mathlib.Core.Path.{ap, ◌∙◌}
use lib.Dec.{lit<}
use Rattle.table.specs.Limits.{limits}
use Rattle.table.specs.States.{end_kind}
use Rattle.table.specs.Codes.{bytes_of}
use Rattle.table.specs.Meaning.{Table, steps_of}
use Rattle.table.specs.Held.{memory_of}
use Rattle.table.proofs.HeldMemory.{code-held}
use Rattle.table.proofs.lent.Table.end_kind.Goals as goal

pub returns : goal.returns
returns c =
    let l = c.self.inside.lent in
    let code = c.args.code in
    c.end_kind.ensures
    ∙ code-held limits l.rec (memory_of l) c.self.invariant.tested 0 (lit< tt) code (omega arith)
    ∙ ap (λ (t : Table). end_kind (steps_of t) 0 (bytes_of code)) c.self.view_is
