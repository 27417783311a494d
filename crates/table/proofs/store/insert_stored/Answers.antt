use Rattle.table.proofs.Inserted.{place-needs, point-needs, renumber-needs, codes-done, infos-done, order-done}
use Rattle.table.specs.Stored.{mk}
use lib.Seq.{length-take-le}
use mathlib.Core.Path.{◌∙◌}
use native.Mathlib.Omega.{arith}
use Rattle.table.proofs.store.insert_stored.Goals as goal

pub renumber-requires : goal.renumber-requires
renumber-requires c =
    let a = c.args in
    renumber-needs a.n a.codes.now a.infos.now a.order.now (mk a.c a.i)
    c.requires (omega arith)

pub returns : goal.returns
returns c =
    let a = c.args in
    let u = length-take-le a.n a.codes.now
    (omega (arith, c.requires.codes-room)) in
    let v = length-take-le a.n a.order.now
    (omega (arith, c.requires.order-room)) in
    let p = c.place_new-at in
    let z = c.place_point-pos in
    let pn = place-needs a.n a.codes.now a.infos.now a.order.now (mk a.c a.i)
    c.requires in
    let zn = point-needs a.n a.codes.now a.infos.now a.order.now (mk a.c a.i)
    c.requires in
    let pe = p.ensures.1 pn.1 in
    let ze = z.ensures.1 zn.1 zn.2 in (
      c.shift_in-2.ensures
          ∙ codes-done a.n a.codes.now a.infos.now a.order.now (mk a.c a.i)
          c.requires p.result (omega (arith, p.ensures.0)) pe,
      c.shift_in-3.ensures
          ∙ infos-done a.n a.codes.now a.infos.now a.order.now (mk a.c a.i)
          c.requires p.result (omega (arith, p.ensures.0)) pe,
      c.shift_in.ensures
          ∙ order-done a.n a.codes.now a.infos.now a.order.now (mk a.c a.i)
          c.requires p.result z.result _ (omega (arith, z.ensures.0)) pe ze
          c.renumber.ensures,
    )
