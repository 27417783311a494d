-- Where the last line is less, the place is behind it.
use Rattle.table.proofs.Places.{place-le, less⇒<place_in}
use Rattle.table.specs.Stored.{mk}
use mathlib.Core.Path.{sym, ◌∙◌}
use Prim.Native.Nat.{◌-◌}
use native.Mathlib.Omega.{arith}
use lib.ListN.{length}
use Rattle.table.proofs.store.place_new.Goals as goal

pub returns-then-stored_less : goal.returns-then-stored_less
returns-then-stored_less c =
    let a = c.args in
    let e = mk a.c a.i in
    let less = sym c.stored_less.ensures ∙ c.if-stored_less.true in (
      omega arith,
      λ r. omega (
        arith,
        place-le a.codes.now a.infos.now e c.requires,
        less⇒<place_in a.codes.now a.infos.now e c.requires r (length a.codes.now - 1) (omega arith) less,
      ),
    )
