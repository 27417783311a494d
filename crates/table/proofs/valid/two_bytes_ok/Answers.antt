-- As for one byte; the first of the two leads on (end_kind-unpacked).
use Rattle.table.proofs.Cuts.{end_kind-unpacked}
use Rattle.table.specs.declared.states.Step.TheVariants.{Leads}
use Rattle.table.specs.Stored.{padded}
use Rattle.table.specs.States.{step_at}
use Rattle.table.specs.Rules.{t5_kind}
use borrow.Author.Tests.{eq-eqb}
use native.Mathlib.Omega.{arith}
use mathlib.Core.Path.{sym, ap, ◌∙◌}
use Prim.Native.Nat.{◌%◌}
use Rattle.table.proofs.valid.two_bytes_ok.Goals as goal

pub returns-in-Leads : goal.returns-in-Leads
unfolding padded
returns-in-Leads c =
    λ e. let a = c.args in
    let m = end_kind-unpacked (step_at a.steps.now) 0 2 a.bits (Leads c.in-Leads.row)
    (omega arith) (sym c.step_at.ensures
    ∙ c.in-Leads.is) in
    record {
      its-form = eq-eqb (a.bits % 65536) 0
          (omega arith);
      at_least = omega arith;
      at_most = omega arith;
      its-first = λ z. absurd
          (c.if-bits-eq0.false z);
      its-end = λ point p. ap (t5_kind point) (m ∙ sym c.last_kind.ensures)
          ∙ sym (c.is_assigned.ensures point p) ∙ e;
    }
