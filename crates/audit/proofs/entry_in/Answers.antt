use mathlib.Core.Path.{refl}
use Rattle.audit.specs.Audit.{entry_in}
use Rattle.audit.proofs.entry_in.Goals as goal

pub returns : goal.returns
unfolding entry_in
returns c =
    refl
