use Prim.Native.Nat.{ℕ, ◌-◌}
use mathlib.Core.Path.{ap, ◌∙◌}
use lib.Dec.{eqb}
use lib.ListN.{take, drop}
use Rattle.table.specs.Limits.{limits, needed}
use Rattle.lists.proofs.Tests.{zeros-fold}
use Rattle.table.proofs.states.zeros_from.Goals as goal

pub returns : goal.returns
returns c =
    let a = c.args in
    ap (λ (n : ℕ). eqb n 0) c.any_bits.ensures ∙ zeros-fold (take (needed limits - a.from) (drop a.from a.states.now))
