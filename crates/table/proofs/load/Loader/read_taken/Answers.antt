use Prim.Native.Nat.{ℕ, ◌≤◌, ◌<◌}
use mathlib.Core.List.{List}
use mathlib.Core.Path.{sym, subst}
use lib.ListN.{length, take}
use Rattle.lists.specs.Order.{Rising}
use Rattle.table.specs.Limits.{limits}
use Rattle.table.specs.Memory.{stored_list}
use Rattle.table.proofs.Inserted.{kept-read-needs}
use Rattle.table.specs.Stored.{mk, extra_in, less}
use Rattle.table.proofs.load.Loader.read_taken.Goals as goal

-- what the search asks of the stored lines
abbrev Needs : ℕ → ℕ → List ℕ → List ℕ → Type 0
Needs n i codes infos =
    (n ≤ length codes) × (n ≤ length infos) × Rising less (stored_list (take n codes) (take n infos)) × (extra_in i < 4)

pub read_taken-requires : goal.read_taken-requires
read_taken-requires c =
    let a = c.args in
    let s = a.self.now in
    let l = c.lines.ensures in
    subst (λ (x : List ℕ). Needs s.mappings a.i x c.lines.result.infos.now) (sym l.0)
    (subst (λ (y : List ℕ). Needs s.mappings a.i s.codes.now y) (sym l.1)
    (kept-read-needs limits.mappings s.mappings s.codes.now s.infos.now s.order.now c.requires.0 (mk a.c a.i) c.requires.1))
