-- 60 before all else; on a table, the call on it.
use mathlib.Core.Path.{refl, sym, ap, ◌∙◌}
use lib.ListN.{length}
use Rattle.table.specs.Limits.{limits}
use Rattle.table.specs.Meaning.{Table}
use Rattle.table.specs.Held.{memory_of}
use Rattle.audit.specs.Audit.{audit_on, audit_tested, refused, BadTable}
use Rattle.audit.proofs.Tests.{audit-invalid, audit-valid, answer-≡}
use Rattle.audit.proofs.audit.Goals as goal

pub returns-in_default : goal.returns-in_default
returns-in_default c =
    let a = c.args in
    let m = memory_of a.lent in
    let room = length a.entries.now in
    answer-≡ (audit_tested limits a.lent.rec m a.fallback a.position a.allowance room) (refused BadTable a.position)
    (audit-invalid a.lent.rec m a.fallback a.position a.allowance room (sym c.in_default.ensures.valid))
    _ a.entries.now a.entries.now (refl, refl)

pub returns : goal.returns
returns c =
    let a = c.args in
    let m = memory_of a.lent in
    let room = length a.entries.now in
    answer-≡ (audit_tested limits a.lent.rec m a.fallback a.position a.allowance room)
    (audit_on c.in-Ok.table a.fallback a.position a.allowance room)
    (audit-valid a.lent.rec m a.fallback a.position a.allowance room (sym c.in-Ok.ensures.valid)
    ∙ ap (λ (t : Table). audit_on t a.fallback a.position a.allowance room) (sym c.in-Ok.ensures.table))
    c.audit_table.result a.entries.now _ (c.audit_table.ensures.0, c.audit_table.ensures.1)
