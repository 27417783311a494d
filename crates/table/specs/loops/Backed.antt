-- T10 by neighbours of the first order: the lines of one code stand together, those that read it first, so a line that
-- only writes stands behind a line of its own code. That this is T10 is `backed-t10` of proofs/Neighbours.antt.
use Rattle.std.specs.Prelude.{if◌then◌else◌, Bool, true, false, List, [], ◌∷◌, eqb}
use Rattle.lists.specs.Pick.{◌and◌, ◌implies◌}
use Rattle.lists.specs.Order.{rises}
use Rattle.table.specs.Stored.{Stored, rank_in, extra_in, read_next}

-- rank 2 (`|1`) is written and not read
abbrev pub stored_only_writes : Stored → Bool
stored_only_writes e = eqb (rank_in e.info) 2

-- a stored mapping behind another: if it only writes, the two have one code
unfoldable pub backed_by : Stored → Stored → Bool
backed_by a b =
    stored_only_writes b implies (eqb a.bits b.bits and eqb (extra_in a.info) (extra_in b.info))

-- the first of all does not only write
abbrev pub first_backed : List Stored → Bool
first_backed [] = true
first_backed (e ∷ l) = if stored_only_writes e then false else true

abbrev pub backed : List Stored → Bool
backed l = first_backed l and rises backed_by l

-- all that neighbours in the first order are tested for
abbrev pub line_next : Stored → Stored → Bool
line_next a b = backed_by a b and read_next a b
