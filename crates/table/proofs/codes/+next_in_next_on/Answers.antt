-- The two call each other; the measure is twice the bytes to come, and one more in next_on. Invariant of the loop in
-- next_in: the first code after the position is the first one whose first byte is b or more.
use Prim.Native.Nat.{◌+◌, ◌-◌}
use mathlib.Core.Path.{sym, ◌∙◌, ap}
use native.Mathlib.Omega.{arith}
use Rattle.std.specs.Prelude.{Some}
use Rattle.table.specs.loops.Marks.{codes_led}
use Rattle.table.specs.Codes.{bytes_of, unpacked}
use mathlib.Core.List.{[]}
use Rattle.table.specs.States.{step_at}
use Rattle.table.proofs.Marks.{unpacked-more, unpacked-none, row-begin, row-found, row_next, rows_over, on-illegal, on-ends, on-ended, next-none, next_more, next-short, leads-dead, leads-on}
use Rattle.table.proofs.codes.+next_in_next_on.Goals as goal

pub next_in-returns-then-left-eq0 : goal.next_in-returns-then-left-eq0
next_in-returns-then-left-eq0 t c =
    let a = c.args in
    sym (next-none a.marks.now (step_at a.states.now) a.left a.row (bytes_of a.pos) c.if-left-eq0.true)

pub next_in-loop-b-init : goal.next_in-loop-b-init
next_in-loop-b-init t c =
    let a = c.args in
    let w = row-begin (codes_led a.marks.now (step_at a.states.now) (a.left - 1)) (step_at a.states.now)
    a.row c.first_byte-b.result (bytes_of a.pos) c.first_byte-b.ensures (omega arith) in
    (w.0, w.1)

pub next_in-returns-in-Some : goal.next_in-returns-in-Some
next_in-returns-in-Some t c =
    let a = c.args in
    let s = codes_led a.marks.now (step_at a.states.now) (a.left - 1) in
    sym (next_more a.marks.now (step_at a.states.now) a.left a.row (bytes_of a.pos)
    c.if-left-eq0.false ∙ c.loop-b.invariant.1
    ∙ row-found s (step_at a.states.now) a.row c.loop-b.b (bytes_of c.loop-b.at) _
    c.loop-b.invariant.0 (omega arith) (sym c.next_on.ensures ∙ c.in-Some.is))

pub next_in-loop-b-preserved : goal.next_in-loop-b-preserved
unfolding unpacked
next_in-loop-b-preserved t c =
    let a = c.args in
    let s = codes_led a.marks.now (step_at a.states.now) (a.left - 1) in (
      tt,
      c.loop-b.invariant.1 ∙ row_next s (step_at a.states.now) a.row c.loop-b.b
          (bytes_of c.loop-b.at) c.loop-b.invariant.0 (omega arith)
          (sym c.next_on.ensures ∙ c.in_default.is),
    )

pub next_in-returns-in_default : goal.next_in-returns-in_default
unfolding unpacked
next_in-returns-in_default t c =
    let a = c.args in
    let s = codes_led a.marks.now (step_at a.states.now) (a.left - 1) in
    sym (next_more a.marks.now (step_at a.states.now) a.left a.row (bytes_of a.pos)
    c.if-left-eq0.false ∙ c.loop-b.invariant.1
    ∙ row_next s (step_at a.states.now) a.row c.loop-b.b (bytes_of c.loop-b.at) c.loop-b.invariant.0 (omega arith)
    (sym c.next_on.ensures ∙ c.in_default.is)
    ∙ rows_over s (step_at a.states.now) a.row (c.loop-b.b + 1) [] (omega arith))

pub next_on-returns-then-pos-eq0 : goal.next_on-returns-then-pos-eq0
next_on-returns-then-pos-eq0 t c =
    let a = c.args in
    ap Some c.put_first.ensures
    ∙ sym (on-ends _ (step_at a.states.now) a.row a.b _ (bytes_of a.pos)
    (sym c.step_at.ensures
    ∙ c.in-Ends.is)
    (unpacked-none a.pos.len a.pos.bits c.if-pos-eq0.true))

pub next_on-returns-then-not-is_marked : goal.next_on-returns-then-not-is_marked
next_on-returns-then-not-is_marked t c =
    let a = c.args in
    sym (leads-dead a.marks.now (step_at a.states.now) a.left a.row a.b _ (bytes_of a.pos)
    (sym c.step_at.ensures ∙ c.in-Leads.is)
    c.requires.1 (sym c.is_marked.ensures ∙ c.if-not-is_marked.true))

pub next_on-put_first-requires-in-Leads : goal.next_on-put_first-requires-in-Leads
next_on-put_first-requires-in-Leads t c =
    let a = c.args in
    let h = next-short a.marks.now (step_at a.states.now) a.left _ _ _
    (sym c.next_in.ensures ∙ c.in_ok-code-in-Leads.was) in
    omega arith

pub next_on-returns-in-Illegal : goal.next_on-returns-in-Illegal
next_on-returns-in-Illegal t c =
    let a = c.args in
    sym (on-illegal _ (step_at a.states.now) a.row a.b (bytes_of a.pos)
    (sym c.step_at.ensures ∙ c.in-Illegal.is))

pub next_on-returns-else-pos-eq0 : goal.next_on-returns-else-pos-eq0
next_on-returns-else-pos-eq0 t c =
    let a = c.args in
    sym (on-ended _ (step_at a.states.now) a.row a.b _ _ _ (bytes_of a.pos)
    (sym c.step_at.ensures ∙ c.in-Ends.is)
    (unpacked-more a.pos.len a.pos.bits c.if-pos-eq0.false) c.requires.1)

pub next_on-returns-in_ok-code-in-Leads : goal.next_on-returns-in_ok-code-in-Leads
next_on-returns-in_ok-code-in-Leads t c =
    let a = c.args in
    ap Some c.put_first-in-Leads.ensures
    ∙ sym (leads-on a.marks.now (step_at a.states.now) a.left a.row a.b _ (bytes_of a.pos)
    (sym c.step_at.ensures
    ∙ c.in-Leads.is) c.requires.1
    (sym c.is_marked.ensures
    ∙ c.if-not-is_marked.false) _
    c.rest.ensures _
    (sym c.next_in.ensures ∙ c.in_ok-code-in-Leads.was))

pub next_on-returns-in_err-code-in-Leads : goal.next_on-returns-in_err-code-in-Leads
next_on-returns-in_err-code-in-Leads t c =
    let a = c.args in
    c.from_residual.ensures ∙ sym (leads-on a.marks.now (step_at a.states.now) a.left a.row a.b _ (bytes_of a.pos)
    (sym c.step_at.ensures
    ∙ c.in-Leads.is) c.requires.1
    (sym c.is_marked.ensures
    ∙ c.if-not-is_marked.false) _ c.rest.ensures _
    (sym c.next_in.ensures ∙ c.in_err-code-in-Leads.was))
