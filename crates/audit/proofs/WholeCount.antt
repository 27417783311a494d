-- Where the last call is finished the summed counts are the number of all complete codes; the plain list has no more findings.
use Prim.Native.Nat.{◌≤◌}
use mathlib.Core.Path.{◌≡◌, ap, ◌∙◌}
use mathlib.Core.Bool.{Bool, true, false, false≢true}
use mathlib.Core.List.{List, []}
use lib.ListN.{length}
use Rattle.lists.specs.Calls.{summed, last_finished}
use Rattle.lists.proofs.Filter.{filtered-rest}
use Rattle.lists.proofs.PageEntries.{length-notes}
use Rattle.lists.proofs.Calls.{last_position-finished}
use Rattle.table.specs.Codes.{bytes_of}
use Rattle.lists.specs.Strings.{before, after}
use Rattle.table.specs.Meaning.{Table}
use Rattle.table.specs.declared.states.Code.{Code}
use Rattle.audit.specs.Audit.{Finding, complete_codes, plain_list, pageable_codes}
use Rattle.audit.specs.Demand.{beginning, AuditCall, calls_of, last_of, Claims}

pub list-short : (t : Table) (fallback : Bool) → length (plain_list t fallback) ≤ length (complete_codes t)
unfolding plain_list
list-short t fallback = length-notes (pageable_codes t fallback) (complete_codes t)

pub counts_whole : {F : Type 0} (t : Table) (fallback : Bool) (number : Finding → F) (cs : List (AuditCall F)) → Claims t fallback number cs
    → last_finished false (calls_of cs) ≡ true → summed (calls_of cs) ≡ length (complete_codes t)
counts_whole t fallback number cs d f =
    let p = last_of cs in
    let none_left : after p (complete_codes t) ≡ [] =
    last_position-finished (λ (c : Code). after (bytes_of c) (complete_codes t) ≡ []) (calls_of cs) beginning false (λ e. absurd (false≢true e)) d.finished f in
    d.counts ∙ ap length (filtered-rest (before p) (complete_codes t) none_left)
