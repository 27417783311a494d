-- Invariant (Standing): the page is the entries stored for the codes up to `at`, then the page from `at` on.
-- Measure: codes left of the allowance.
use Prim.Native.Nat.{◌-◌}
use mathlib.Core.Path.{◌≡◌}
use Rattle.lists.proofs.PageLoop.{Standing}
use Rattle.table.specs.Codes.{code_of, bytes_of}
use Rattle.audit.specs.Audit.{pageable_codes, entry_number}
use Rattle.audit.proofs.walk.Given as goal

abbrev pub invariant-loop-count : goal.invariant-loop-count
invariant-loop-count l =
    (l.at ≡ code_of (bytes_of l.at)) × Standing
    (pageable_codes l.table l.fallback) entry_number l.allowance (bytes_of l.initial.at)
    (bytes_of l.at) l.written l.count l.initial.entries l.entries

abbrev pub decreases-loop-count : goal.decreases-loop-count
decreases-loop-count l =
    l.allowance - l.count
