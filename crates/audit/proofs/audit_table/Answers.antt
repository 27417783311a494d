use mathlib.Core.Path.{refl, sym, ap, ◌∙◌}
use lib.ListN.{length}
use Rattle.lists.specs.Paging.{page_from}
use Rattle.table.specs.Codes.{bytes_of}
use Rattle.table.specs.Meaning.{steps_of}
use Rattle.audit.specs.Audit.{audit_on, refused, looked, pageable_codes, BadPosition}
use Rattle.std.specs.Prelude.{Ok}
use Rattle.audit.proofs.Tests.{position-packed, audit-misplaced, audit-placed, answer-≡}
use Rattle.audit.proofs.audit_table.Goals as goal

pub returns-then-not-is_position : goal.returns-then-not-is_position
returns-then-not-is_position c =
    let a = c.args in
    let room = length a.entries.now in
    answer-≡ (audit_on a.table.now a.fallback a.position a.allowance room) (refused BadPosition a.position)
    (audit-misplaced a.table.now a.fallback a.position a.allowance room (sym c.is_position.ensures ∙ c.if-not-is_position.true))
    _ a.entries.now a.entries.now (refl, refl)

pub walk-requires : goal.walk-requires
walk-requires c =
    position-packed (steps_of c.args.table.now) c.args.position (sym c.is_position.ensures ∙ c.if-not-is_position.false)

pub returns : goal.returns
returns c =
    let a = c.args in
    let room = length a.entries.now in
    answer-≡ (audit_on a.table.now a.fallback a.position a.allowance room)
    (looked (page_from (pageable_codes a.table.now a.fallback) a.allowance room (bytes_of a.position)))
    (audit-placed a.table.now a.fallback a.position a.allowance room (sym c.is_position.ensures ∙ c.if-not-is_position.false))
    _ a.entries.now _ (ap Ok c.walk.ensures.0, c.walk.ensures.1)
