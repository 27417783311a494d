use mathlib.Core.Path.{◌≡◌, sym, ap, ◌∙◌}
use native.Mathlib.Omega.{arith}
use Rattle.audit.specs.loops.Inner.{looked_to}
use Rattle.lists.proofs.PageLoop.{standing-room}
use Rattle.table.specs.Codes.{bytes_of}
use Rattle.audit.specs.Audit.{pageable_codes, entry_number, number_of, cause_number}
use Rattle.audit.proofs.FoundCauses.{caused}
use Rattle.audit.proofs.Steps.{none-next, ends-over, ends-spent, step-passed, step-listed, ends-full}
use Rattle.audit.proofs.walk.Goals as goal

pub returns-in_default : goal.returns-in_default
returns-in_default c =
    let a = c.args in
    let l = c.loop-count in
    ends-over a.table.now a.fallback c.codes-codes.result c.codes-codes.ensures a.allowance a.position
    a.entries.now l.at l.written l.count l.entries l.invariant.1 c.after.result c.after.ensures.next
    c.loop-count-test.true c.in_default.is l.invariant.0 c.handed_back.result c.handed_back.ensures

pub loop-count-preserved-in_default-find_cause : goal.loop-count-preserved-in_default-find_cause
loop-count-preserved-in_default-find_cause c =
    let a = c.args in
    let l = c.loop-count in (
      c.in-Some.ensures.code.1,
      step-passed a.table.now a.fallback c.codes-codes.result c.codes-codes.ensures a.allowance a.position
          a.entries.now l.at l.written l.count l.entries l.invariant.1 c.after.result c.after.ensures.next
          c.loop-count-test.true c.in-Some.code c.in-Some.is (cause_number c.find_cause.result) c.find_cause.ensures (ap cause_number c.in_default-find_cause.is),
    )

pub returns-then-written-entries : goal.returns-then-written-entries
returns-then-written-entries c =
    let a = c.args in
    let l = c.loop-count in
    ends-full a.table.now a.fallback c.codes-codes.result c.codes-codes.ensures a.allowance a.position
    a.entries.now l.at l.written l.count l.entries l.invariant.1 c.after.result c.after.ensures.next
    c.loop-count-test.true c.in-Some.code c.in-Some.is (cause_number c.find_cause.result) c.find_cause.ensures
    (caused c.find_cause.result c.in-Some-find_cause.cause c.in-Some-find_cause.is) c.if-written-entries.true l.invariant.0 c.handed_back-then-written-entries.result
    c.handed_back-then-written-entries.ensures

pub loop-count-preserved : goal.loop-count-preserved
loop-count-preserved c =
    let a = c.args in
    let l = c.loop-count in (
      c.in-Some.ensures.code.1,
      step-listed a.table.now a.fallback c.codes-codes.result c.codes-codes.ensures a.allowance a.position
          a.entries.now l.at l.written l.count l.entries l.invariant.1 c.after.result c.after.ensures.next
          c.loop-count-test.true c.in-Some.code c.in-Some.is (number_of c.in-Some-find_cause.cause) (sym (ap cause_number c.in-Some-find_cause.is) ∙ c.find_cause.ensures)
          (λ z. caused c.find_cause.result c.in-Some-find_cause.cause c.in-Some-find_cause.is (ap cause_number c.in-Some-find_cause.is ∙ z))
          (standing-room (pageable_codes a.table.now a.fallback) entry_number a.allowance (bytes_of a.position) a.entries.now
          (bytes_of l.at) l.written l.count l.entries l.invariant.1 c.if-written-entries.false)
          c.entry_number.result c.entry_number.ensures,
    )

pub returns : goal.returns
returns c =
    let a = c.args in
    let l = c.loop-count in
    let all : a.allowance ≡ l.count = omega (arith, c.loop-count-test.false) in
    ends-spent a.table.now a.fallback c.codes-codes.result c.codes-codes.ensures a.allowance a.position
    a.entries.now l.at l.written l.count l.entries l.invariant.1 c.after-2.result c.after-2.ensures.next
    c.loop-count-test.false c.is_none-last.result (none-next c.after-2.result c.is_none-last.result c.is_none-last.ensures) l.invariant.0 c.handed_back-2.result
    (c.handed_back-2.ensures ∙ ap (looked_to l.written l.at c.is_none-last.result) all)
