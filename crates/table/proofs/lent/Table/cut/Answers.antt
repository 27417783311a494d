use Prim.Native.Nat.{◌<◌}
use mathlib.Core.Path.{ap, subst, ◌∙◌}
use lib.Dec.{lit<}
use Rattle.lists.specs.Order.{All}
use Rattle.lists.proofs.AllPlaces.{All-get_d⁺}
use Rattle.table.specs.Limits.{limits}
use Rattle.table.specs.States.{cut_of}
use Rattle.table.specs.Meaning.{Table, steps_of}
use Rattle.table.specs.Rules.{Keeps}
use Rattle.table.specs.Held.{memory_of}
use Rattle.table.proofs.Packing.{all-bytes}
use Rattle.table.proofs.HeldMemory.{cut-held}
use Rattle.table.proofs.lent.Table.cut.Goals as goal

pub returns-clause-cut : goal.returns-clause-cut
returns-clause-cut c =
    let l = c.self.inside.lent in
    let bytes : All (λ b. b < 256) c.args.s.now = All-get_d⁺ (λ b. b < 256) c.args.s.now 0 (λ i. (c.type_inv.s i).fits) in
    c.cut_one.ensures
    ∙ cut-held limits l.rec (memory_of l) c.self.invariant.tested 0 (lit< tt) c.args.s.now (all-bytes c.args.s.now bytes)
    ∙ ap (λ (t : Table). cut_of (steps_of t) 0 c.args.s.now) c.self.view_is

pub returns-clause-keeps : goal.returns-clause-keeps
returns-clause-keeps c =
    subst (λ (x : Table). Keeps limits x) c.self.view_is c.self.invariant.keeps
