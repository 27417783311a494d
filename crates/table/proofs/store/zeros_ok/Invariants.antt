-- Invariant: all are 0 exactly if those from k on are.
use mathlib.Core.Path.{◌≡◌}
use lib.ListN.{drop}
use Rattle.lists.specs.Tests.{zeros}
use Rattle.table.proofs.store.zeros_ok.Given as goal

abbrev pub invariant-loop-k : goal.invariant-loop-k
invariant-loop-k l =
    zeros l.xs ≡ zeros (drop l.k l.xs)
