-- Invariant: the test of all indices is that of those from k on behind the last one, whose key is at hand.
use Rattle.table.specs.Valid.{ordered, index_next}
use Rattle.table.specs.Stored.{order_key_in}
use Rattle.lists.specs.Order.{rises_from}
use lib.ListN.{length, drop, get_or}
use Prim.Native.Nat.{◌<◌, ◌≤◌}
use mathlib.Core.Path.{◌≡◌}
use Rattle.table.proofs.valid.order_ok.Given as goal

abbrev pub invariant-loop-k : goal.invariant-loop-k
invariant-loop-k l =
    (ordered l.codes l.infos l.order ≡ rises_from (index_next l.codes l.infos) l.p (drop l.k l.order)) × (l.p < length l.codes) ×
    (l.k ≤ length l.order) × (l.key ≡ order_key_in (get_or l.infos l.p 0))
