use Rattle.table.specs.Limits.{limits, needed}
use Rattle.table.proofs.HeaderSteps.{default-yes, default-no, row-beyond}
use lib.ListN.{drop, length-replicate}
use native.Mathlib.Omega.{arith}
use Prim.Native.Nat.{ℕ}
use mathlib.Core.List.{List}
use mathlib.Core.Path.{ap, ◌∙◌}
use lib.ListN.{replicate}
use Rattle.table.proofs.load.default_row.Goals.{else-h-eq1-via-then-h-eq1+else-h-eq0, else-h-eq1-via-else-h-eq1}
use Rattle.table.proofs.load.default_row.Goals as goal

pub returns-then-h-eq0-clause-row : goal.returns-then-h-eq0-clause-row
returns-then-h-eq0-clause-row c =
    λ rows codes infos order held. default-yes limits c.args.h rows c.args.states.now codes infos order held _
    (omega arith) c.if-h-eq1.true c.if-h-eq0.true c.full_row.ensures

pub returns-then-h-eq0-clause-beyond : goal.returns-then-h-eq0-clause-beyond
returns-then-h-eq0-clause-beyond c =
    ap (λ (x : List ℕ). drop (needed limits) x) c.full_row.ensures
    ∙ row-beyond limits 0 (replicate 256 1) c.args.states.now (omega arith)
    (length-replicate {A = ℕ} 256 1) c.requires.2

pub returns-clause-row : goal.returns-clause-row
returns-clause-row c =
    λ rows codes infos order held. default-no limits c.args.h rows c.args.states.now codes infos order held
    (λ p q. elim c.else-h-eq1.branch [
      | else-h-eq1-via-then-h-eq1+else-h-eq0 w ↦ w.if-h-eq0.false q
      | else-h-eq1-via-else-h-eq1 w ↦ w.if-h-eq1.false p
    ])
