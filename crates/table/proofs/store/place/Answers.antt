-- The place of (c, i) parts the keys, if the lines rise (code-sides).
use Rattle.std.proofs.Common.{rules}
use Rattle.table.proofs.Halving.{CodeSought, code-within, code-sides}
use Rattle.table.specs.Stored.{mk}
use Rattle.table.specs.Memory.{stored_list, stored_at}
use Rattle.table.specs.loops.Search.{stored_key, place_in, Halved}
use mathlib.Core.Path.{refl, subst}
use Prim.Native.Nat.{ℕ}
use native.Mathlib.Omega.{arith}
use lib.ListN.{length}
use Rattle.table.proofs.store.place.Goals as goal

pub returns : goal.returns
returns c =
    let a = c.args in
    let codes = a.codes.now in
    let infos = a.infos.now in
    let e = mk a.c a.i in
    let place = place_in e (stored_list codes infos) in
    let keys : ℕ → ℕ = λ at. stored_key (stored_at codes infos at) in
    let w = subst (λ (q : ℕ). Halved keys q (length codes) c.halve.result) c.stored_key.ensures (c.halve.ensures keys (λ k r h p. search rules)) in (
      w.inside,
      w.ends,
      λ r.
          let sought : CodeSought codes infos e place = record { rises = r; is = refl } in
          w.parted place (
            code-within codes infos e c.requires place sought,
            λ at h. code-sides codes infos e c.requires at h (omega (arith, c.type_inv.infos at)) (omega arith) place sought,
          ),
      omega (arith, c.type_inv.infos c.halve.result.at),
    )
