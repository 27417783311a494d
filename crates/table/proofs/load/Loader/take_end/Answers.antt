use Rattle.table.specs.Limits.{limits}
use Rattle.table.proofs.MappingSteps.{held-few, end-taken, end_refused}
use Rattle.table.proofs.load.Loader.take_end.Goals as goal

pub all_backed-requires : goal.all_backed-requires
all_backed-requires c =
    let l = c.args.self.now in
    let s = l in
    let p = c.requires.body in (
      p.lent,
      held-few limits l.head l.mappings p.held.rows p.held.lines s.states.now s.codes.now s.infos.now s.order.now
          p.held.holding,
    )

pub returns-then-not-all_backed-clause-taken : goal.returns-then-not-all_backed-clause-taken
returns-then-not-all_backed-clause-taken c =
    let l = c.args.self.now in
    let s = l in
    λ rows ls held. end_refused limits l.head l.mappings rows ls s.states.now s.codes.now s.infos.now s.order.now held
    c.all_backed.result c.all_backed.ensures _ c.if-not-all_backed.true

pub returns-clause-taken : goal.returns-clause-taken
returns-clause-taken c =
    let l = c.args.self.now in
    let s = l in
    λ rows ls held. end-taken limits l.head l.mappings rows ls s.states.now s.codes.now s.infos.now s.order.now held
    c.all_backed.result c.all_backed.ensures c.if-not-all_backed.false
