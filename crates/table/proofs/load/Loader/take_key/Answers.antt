use Rattle.table.proofs.HeaderSteps.{key-taken, key-beyond}
use Rattle.table.proofs.HeaderLaws.{row_room}
use Rattle.table.specs.Limits.{limits}
use Rattle.table.specs.loops.Progress.{keys_in}
use native.Mathlib.Omega.{arith}
use Prim.Native.Nat.{◌≤◌}
use mathlib.Core.Path.{refl, sym, ◌∙◌}
use Rattle.table.proofs.load.Loader.take_key.Goals as goal

pub take_value-self-requires : goal.take_value-self-requires
take_value-self-requires c =
    let a = c.args in
    let held = c.requires.header.held.holding in
    let few : a.self.now.head.rows ≤ limits.rows = omega (arith, held.rows-count, held.rows_few) in (
      c.requires.value.0,
      c.requires.value.1,
      c.requires.header.lent.states-long,
      λ r. row_room limits (keys_in a.self.now.head) a.self.now.head.rows a.k a.v
          (sym c.judge_key.ensures ∙ c.in_ok-judge_key.was) r,
      few,
      c.requires.value.2,
      held.head-proper,
    )

pub returns-clause-taken : goal.returns-clause-taken
returns-clause-taken c =
    let a = c.args in
    let s = a.self.now in
    let n = c.take_value-self.ensures in
    let h = c.requires.header in
    λ rows held. (key-taken limits a.self.now.head rows s.states.now s.codes.now s.infos.now s.order.now held a.k a.v _ _ _ _ _
    (sym c.judge_key.ensures ∙ c.in_ok-judge_key.was) c.requires.value.2 h.phase h.none-yet n.head n.states)

pub returns-clause-beyond : goal.returns-clause-beyond
returns-clause-beyond c =
    let a = c.args in
    let n = c.take_value-self.ensures in
    record {
      states-rest = key-beyond limits a.self.now.head a.k a.v _ a.self.now.states.now _ (sym c.judge_key.ensures ∙ c.in_ok-judge_key.was) c.requires.header.lent.states-long
          n.states;
      codes-rest = refl;
      infos-rest = refl;
      order-rest = refl;
    }
