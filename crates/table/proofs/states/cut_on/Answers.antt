-- Invariant: the cut from here on is the cut that is asked for. Measure: bytes left of the longest code.
use Prim.Native.Nat.{ℕ, ◌+◌, ◌-◌}
use mathlib.Core.Path.{◌≡◌, sym, ap, ◌∙◌}
use native.Mathlib.Omega.{arith}
use lib.ListN.{drop}
use Rattle.table.specs.States.{step_at, cut_from}
use Rattle.table.specs.declared.states.Step.TheVariants.{Illegal, Ends, Leads}
use Rattle.table.specs.declared.states.Cut.TheVariants.{Stopped}
use Rattle.table.specs.declared.states.CutStop.TheVariants as cut_stop
use Rattle.table.proofs.Cuts.{cut-here, cut-end, cut-none}
use Rattle.table.proofs.states.cut_on.Goals as goal

pub returns-then-s-at : goal.returns-then-s-at
returns-then-s-at c =
    let q = c.loop-at in
    let a = c.args in
    sym (cut-end (step_at a.states.now) a.first (4 - q.at) q.at_row q.at a.s.now (λ e. omega arith) c.if-s-at.true) ∙ q.invariant.0

pub returns-in-Illegal : goal.returns-in-Illegal
returns-in-Illegal c =
    let q = c.loop-at in
    let a = c.args in
    ap (λ (m : ℕ). Stopped (cut_stop.Illegal m)) c.broken_length.ensures
    ∙ sym (cut-here (step_at a.states.now) a.first (4 - q.at) q.at_row q.at a.s.now Illegal
    (λ e. omega arith) (omega arith) (sym c.step_at.ensures ∙ c.in-Illegal.is))
    ∙ q.invariant.0

pub returns-in-Ends : goal.returns-in-Ends
returns-in-Ends c =
    let q = c.loop-at in
    let a = c.args in
    sym (cut-here (step_at a.states.now) a.first (4 - q.at) q.at_row q.at a.s.now
    (Ends c.in-Ends.kind) (λ e. omega arith) (omega arith)
    (sym c.step_at.ensures ∙ c.in-Ends.is)) ∙ q.invariant.0

pub loop-at-preserved : goal.loop-at-preserved
loop-at-preserved c =
    let q = c.loop-at in
    let l = c.args.states.now in
    let a = c.args in
    let m : 4 - (q.at + 1) ≡ 4 - q.at - 1 = omega arith in (
      ap (λ (f : ℕ). cut_from (step_at l) a.first f c.in-Leads.n (q.at + 1) (drop (q.at + 1) a.s.now)) m
          ∙ sym (cut-here (step_at l) a.first (4 - q.at) q.at_row q.at a.s.now
          (Leads c.in-Leads.n) (λ e. omega arith) (omega arith)
          (sym c.step_at.ensures ∙ c.in-Leads.is))
          ∙ q.invariant.0,
      omega arith,
    )

pub returns : goal.returns
returns c =
    let q = c.loop-at in
    let a = c.args in
    sym (cut-none (step_at a.states.now) a.first (4 - q.at) q.at_row q.at (drop q.at a.s.now) (omega arith)) ∙ q.invariant.0
