use mathlib.Core.Path.{◌≡◌, sym}
use native.Mathlib.Omega.{arith}
use Prim.Native.Nat.{◌+◌, ◌-◌}
use lib.ListN.{length, take, drop, length-drop}
use lib.Seq.{drop-drop}
use Rattle.std.proofs.lemmas.List.{length-take-le}
use Rattle.lists.specs.Place.{fill_range}
use Rattle.lists.proofs.Place.{spread_end}
use Rattle.table.proofs.row.fill_range.Goals as goal

pub returns-then-from-to : goal.returns-then-from-to
unfolding fill_range
returns-then-from-to c =
    let a = c.args in
    let n : length (take (a.to + 1 - a.from) (drop a.from a.row.now)) ≡ a.to + 1 - a.from =
    length-take-le _ _ (omega (arith, length-drop a.from a.row.now)) in
    rw (c.fill.ensures.after (λ y h. h), n, drop-drop)

pub returns-else-from-to : goal.returns-else-from-to
returns-else-from-to c = sym (spread_end _ _ _ _ c.if-from-to.false)
