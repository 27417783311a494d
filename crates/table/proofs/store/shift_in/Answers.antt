-- The elements are moved up by one, and the new one is put into the free place (shift_in-moved).
use Rattle.lists.proofs.Place.{shift_in-moved}
use mathlib.Core.Path.{ap, ◌∙◌}
use mathlib.Core.List.{List}
use lib.ListN.{set}
use Rattle.table.proofs.store.shift_in.Goals as goal

pub returns : goal.returns
returns c =
    let a = c.args in
    ap (λ (l : List _). set l a.at a.x) c.copy_within.ensures.after ∙ shift_in-moved a.n a.at a.x a.xs.now c.requires.0 c.requires.1
