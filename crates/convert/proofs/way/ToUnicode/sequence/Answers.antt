-- Of the hint nothing is asked.
use mathlib.Core.Path.{sym, ap, ◌∙◌}
use Prim.Native.Nat.{◌<◌}
use native.Mathlib.Omega.{arith}
use Rattle.lists.specs.Order.{All}
use Rattle.lists.proofs.AllPlaces.{All-get_d⁺}
use mathlib.Core.Option.{none}
use Rattle.utf.specs.declared.utf8.Sequence.TheVariants as sequence
use Rattle.utf.specs.declared.utf8.Stop.TheVariants as stopped
use Rattle.table.specs.Meaning.{steps_of}
use Rattle.table.specs.declared.states.Cut.TheVariants as cut
use Rattle.table.specs.declared.states.CutStop.TheVariants as cut_stop
use Rattle.table.proofs.Cuts.{cut-within}
use Rattle.convert.specs.Step.{encoded, point_for}
use mathlib.Core.Option.{Option}
use Prim.Native.Nat.{ℕ}
use Rattle.convert.proofs.Steps.{to-gives, point-kept}
use Rattle.convert.proofs.TableSteps.{on-cut, on-point, on-nothing}
use Rattle.convert.proofs.way.ToUnicode.sequence.Goals as goal

pub pack-bits-requires : goal.pack-bits-requires
pack-bits-requires c =
    let t = c.args.self.now.table in
    (cut-within (steps_of t) c.args.s.now 0 c.in-Complete.n c.in-Complete.field-1 (sym c.cut.ensures.cut ∙ c.in-Complete.is)).2

pub overflow_cast-code : goal.overflow_cast-code
overflow_cast-code c =
    let t = c.args.self.now.table in
    omega (
      arith,
      (cut-within (steps_of t) c.args.s.now 0 c.in-Complete.n c.in-Complete.field-1 (sym c.cut.ensures.cut ∙ c.in-Complete.is)).1,
    )

pub returns-in-Stopped-CutShort-clause-step : goal.returns-in-Stopped-CutShort-clause-step
returns-in-Stopped-CutShort-clause-step c =
    let bytes : All (λ b. b < 256) c.args.s.now = All-get_d⁺ (λ b. b < 256) c.args.s.now 0 (λ i. (c.type_inv.s i).fits) in
    let a = c.args in
    λ u.
    sym (to-gives a.self.now.table a.self.now.settings 0 u a.s.now (sequence.Stopped stopped.CutShort)
    (on-cut a.self.now.table a.self.now.settings a.s.now bytes (cut.Stopped cut_stop.CutShort)
    (sym c.cut.ensures.cut ∙ c.in-Stopped-CutShort.is ∙ ap cut.Stopped c.in-Stopped-CutShort.field-0-is)))

pub returns-in-Stopped-Illegal-clause-step : goal.returns-in-Stopped-Illegal-clause-step
returns-in-Stopped-Illegal-clause-step c =
    let bytes : All (λ b. b < 256) c.args.s.now = All-get_d⁺ (λ b. b < 256) c.args.s.now 0 (λ i. (c.type_inv.s i).fits) in
    let a = c.args in
    λ u.
    c.illegal_point.ensures u
    ∙ sym (to-gives a.self.now.table a.self.now.settings 0 u a.s.now (sequence.Stopped (stopped.Illegal c.in-Stopped-Illegal.n))
    (on-cut a.self.now.table a.self.now.settings a.s.now bytes (cut.Stopped (cut_stop.Illegal c.in-Stopped-Illegal.n))
    (sym c.cut.ensures.cut ∙ c.in-Stopped-Illegal.is ∙ ap cut.Stopped c.in-Stopped-Illegal.field-0-is)))

pub returns-in-Some-clause-step : goal.returns-in-Some-clause-step
returns-in-Some-clause-step c =
    let bytes : All (λ b. b < 256) c.args.s.now = All-get_d⁺ (λ b. b < 256) c.args.s.now 0 (λ i. (c.type_inv.s i).fits) in
    let a = c.args in
    λ u.
    sym (to-gives a.self.now.table a.self.now.settings 0 u a.s.now (sequence.Scalar c.in-Some.c c.in-Complete.n)
    (on-point a.self.now.table a.self.now.settings a.s.now bytes c.in-Complete.n c.in-Complete.field-1 (sym c.cut.ensures.cut ∙ c.in-Complete.is)
    c.pack-bits.result c.pack-bits.ensures c.find_code_near.result c.find_code_near.ensures.reads c.read_as.result c.read_as.ensures c.in-Some.c c.in-Some.is))

pub returns-in-None-clause-step : goal.returns-in-None-clause-step
returns-in-None-clause-step c =
    let bytes : All (λ b. b < 256) c.args.s.now = All-get_d⁺ (λ b. b < 256) c.args.s.now 0 (λ i. (c.type_inv.s i).fits) in
    let a = c.args in
    let t = a.self.now.table in
    λ u.
    ap (encoded u 0) (c.unassigned.ensures ∙ ap (λ (o : Option ℕ). point_for o a.self.now.settings.substitute c.in-Complete.n none) c.subchar1.ensures)
    ∙ sym (to-gives t a.self.now.settings 0 u a.s.now _
    (on-nothing t a.self.now.settings a.s.now bytes c.in-Complete.n c.in-Complete.field-1 (sym c.cut.ensures.cut ∙ c.in-Complete.is)
    c.pack-bits.result c.pack-bits.ensures c.find_code_near.result c.find_code_near.ensures.reads c.read_as.result c.read_as.ensures c.in-None.is)
    ∙ point-kept a.self.now.settings.skip (u.encode 0xfffd) u 0 t.subchar1 a.self.now.settings.substitute c.in-Complete.n none)
