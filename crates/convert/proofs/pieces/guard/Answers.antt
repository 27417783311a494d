-- What stands is given again.
use mathlib.Core.Path.{sym, ap, ◌∙◌}
use Rattle.table.specs.Meaning.{Table, steps_of}
use Rattle.table.specs.Held.{memory_of}
use Rattle.convert.specs.Pieces.{kept_fits}
use Rattle.convert.proofs.PieceGuard.{guarded-stands}
use Rattle.convert.proofs.pieces.guard.Goals as goal

pub returns-in-Some : goal.returns-in-Some
returns-in-Some c =
    let a = c.args in
    let held = c.in-Ok.ensures in
    guarded-stands a.way a.scheme a.lent.rec (memory_of a.lent) a.settings a.kept c.in-Some.stop c.in-Some.is (sym held.valid)
    (ap (λ (t : Table). kept_fits a.way a.scheme (steps_of t) a.settings a.kept) (sym held.table) ∙ sym c.kept_fits.ensures ∙ c.if-not-kept_fits.false)
