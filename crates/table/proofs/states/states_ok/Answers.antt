use Rattle.table.specs.Limits.{limits, needed}
use Rattle.table.proofs.Depth.{StatesKept, states-few, states-test}
use Prim.Native.Nat.{◌-◌, ◌*◌}
use mathlib.Core.Path.{◌≡◌, sym, ap, ◌∙◌}
use mathlib.Core.Bool.{Bool, true}
use mathlib.Core.List.{List}
use native.Mathlib.Omega.{arith}
use lib.ListN.{take, drop}
use Rattle.table.specs.States.{step_at}
use Rattle.table.specs.loops.LeadMarks.{lead_marks, marked_within}
use Rattle.lists.specs.Tests.{all_of, zeros}
use Rattle.table.specs.Valid.{state_ok}
use Rattle.table.proofs.Marking.{marks-none, marks-some, marks-within}
use Rattle.table.proofs.states.states_ok.Goals as goal

pub returns-then-states-lt-NEEDED : goal.returns-then-states-lt-NEEDED
returns-then-states-lt-NEEDED c =
    let a = c.args in
    rw (states-few limits a.rows a.states.now c.if-states-lt-NEEDED.true)

pub returns-in_default : goal.returns-in_default
returns-in_default c =
    let a = c.args in
    let ts = a.states.now in
    rw (
      states-test limits a.rows ts c.if-states-lt-NEEDED.false,
      marks-none _ (lead_marks a.rows (step_at ts)) (sym c.in_default.is ∙ c.mark_rows.ensures),
    )

pub returns-then-zeros_from : goal.returns-then-zeros_from
returns-then-zeros_from c =
    let a = c.args in
    let ts = a.states.now in
    let n = a.rows in
    let (ok, e) = marks-some (all_of (state_ok n) (take (n * 256) ts)) c.in-Some.marks (lead_marks n (step_at ts))
    (sym c.in-Some.is ∙ c.mark_rows.ensures) in
    let z : zeros (take (needed limits - n * 256) (drop (n * 256) ts)) ≡ true = sym
    c.zeros_from.ensures ∙ c.if-zeros_from.true in
    let k : StatesKept limits n ts = record { long = c.if-states-lt-NEEDED.false; entries = ok; behind = z } in
    rw (states-test limits n ts c.if-states-lt-NEEDED.false, ok, z)
    (c.marked_within.ensures ∙ ap (λ (marks : List Bool). marked_within n marks a.max 0) e ∙ marks-within n (omega arith) ts k a.max 0 (omega arith))

pub returns-else-zeros_from : goal.returns-else-zeros_from
returns-else-zeros_from c =
    let a = c.args in
    let ts = a.states.now in
    let n = a.rows in
    let (ok, e) = marks-some (all_of (state_ok n) (take (n * 256) ts)) c.in-Some.marks (lead_marks n (step_at ts))
    (sym c.in-Some.is ∙ c.mark_rows.ensures) in
    rw (
      states-test limits n ts c.if-states-lt-NEEDED.false,
      ok,
      sym c.zeros_from.ensures ∙ c.if-zeros_from.false,
    ) c.if-zeros_from.false
