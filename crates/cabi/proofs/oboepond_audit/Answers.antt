use mathlib.Core.Path.{ap, ◌∙◌}
use Rattle.std.specs.Prelude.{ℕ, List, length}
use Rattle.table.specs.Limits.{limits}
use Rattle.table.specs.Slices.{Slices, slices}
use Rattle.table.specs.declared.valid.Record.{Record}
use Rattle.audit.specs.Audit.{Answer, page_handed, space_after, ending_number, handed_on, audit_tested}
use Rattle.audit.specs.declared.Audited.{Audited}
use Rattle.audit.proofs.Tests.{handed-page}
use Rattle.cabi.specs.Exported.{is_on, position_at, with_numbers, audited_numbers}
use Rattle.cabi.proofs.Audits.{beside-ok}
use Rattle.cabi.proofs.oboepond_audit.Goals as goal

pub returns : goal.returns
returns c =
    let a = c.args in
    let m : Slices = slices a.states.now a.codes.now a.infos.now a.order.now in
    let pos = position_at a.bits a.len in
    let old : List ℕ = a.entries.now in
    let before : List ℕ = a.res.now in
    let held = c.in-Ok.held in
    let is = c.in-Ok.ensures.value in
    let q = c.audit-audited in
    let answer : Record → Answer = λ r. audit_tested limits r m (is_on a.fallback) pos a.allowance (length old) in (
      c.put_audited.ensures.number ∙ q.ensures.2
          ∙ beside-ok 70 (λ r. ending_number (answer r).ending) 5 a.rec.now before held is,
      q.ensures.1 ∙ beside-ok old (λ r. space_after (answer r) old) 5 a.rec.now before held is,
      c.put_audited.ensures.written
          ∙ ap (λ (x : Audited). with_numbers (audited_numbers x) before)
          (ap (handed_on pos) q.ensures.0 ∙ handed-page held m (is_on a.fallback) pos a.allowance (length old))
          ∙ beside-ok before (λ r. with_numbers (audited_numbers (page_handed (answer r).page)) before) 5 a.rec.now before held is,
    )
