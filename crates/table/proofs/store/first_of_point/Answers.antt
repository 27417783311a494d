-- The first place of the code point parts the keys, if the indices are in range and the lines rise (point-sides).
use Rattle.std.proofs.Common.{rules}
use Rattle.table.proofs.Halving.{PointSought, point-within, point-sides}
use Rattle.table.specs.Stored.{mk}
use Rattle.table.specs.loops.Search.{point_seen, point_place_in, picked}
use mathlib.Core.Path.{refl}
use Rattle.table.proofs.store.first_of_point.Goals as goal

pub returns : goal.returns
returns c =
    let a = c.args in
    let infos = a.infos.now in
    let order = a.order.now in
    let w = c.halve.ensures (point_seen infos order) (λ k r h p. search rules) in (
      w.inside,
      w.ends,
      λ codes q r.
          let place = point_place_in (mk 0 a.point) (picked codes infos order) in
          let sought : PointSought infos order a.point place = record { codes = codes; inside = q; rises = r; is = refl } in
          w.parted place (
            point-within infos order a.point c.requires place sought,
            λ at h. point-sides infos order a.point c.requires at h place sought,
          ),
    )
