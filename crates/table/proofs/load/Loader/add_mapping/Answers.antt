use Rattle.table.proofs.MappingSteps.{Holding⇒Kept, own_verdict⇒lowest, lowest-mapping, more-taken, stored_same}
use Rattle.table.proofs.LineSteps.{handed_on, refused-taken}
use Rattle.table.specs.Numbers.{lowest, mapping_conditions}
use Rattle.table.specs.Load.{line_as}
use Rattle.table.specs.Limits.{limits}
use Rattle.table.specs.loops.Progress.{keys_in}
use native.Mathlib.Omega.{arith}
use mathlib.Core.Path.{◌∙◌}
use Rattle.table.proofs.load.Loader.add_mapping.Goals as goal

pub add-requires : goal.add-requires
add-requires c =
    let l = c.args.self.now in
    let s = l in
    let p = c.requires.body.held in (
      Holding⇒Kept limits l.head l.mappings p.rows p.lines s.states.now s.codes.now s.infos.now s.order.now p.holding,
      c.info_of.ensures.1,
    )

pub returns-in_err-judge_mapping-clause-taken : goal.returns-in_err-judge_mapping-clause-taken
returns-in_err-judge_mapping-clause-taken c =
    let a = c.args in
    let l = a.self.now in
    let s = l in rw (handed_on c.from_residual.result _ c.from_residual.ensures.1)
    (λ rows ls b held e f g. refused-taken limits (lowest (mapping_conditions limits (keys_in l.head) rows ls (line_as a.u b a.d)))
    _ _ _ _ _ _
    (own_verdict⇒lowest limits l.head l.mappings rows ls s.states.now s.codes.now s.infos.now s.order.now held
    (line_as a.u b a.d) _ (c.judge_mapping.ensures.answer b e f g) _
    c.in_err-judge_mapping.was))

pub returns-in_err-add-clause-taken : goal.returns-in_err-add-clause-taken
returns-in_err-add-clause-taken c =
    let a = c.args in
    let l = a.self.now in
    let s = l in rw (handed_on c.from_residual-in_err-add.result _ c.from_residual-in_err-add.ensures.1)
    (λ rows ls b held e f g. refused-taken limits (lowest (mapping_conditions limits (keys_in l.head) rows ls (line_as a.u b a.d)))
    _ _ _ _ _ _
    (lowest-mapping limits l.head l.mappings rows ls s.states.now s.codes.now s.infos.now s.order.now held
    (line_as a.u b a.d) _ (c.judge_mapping.ensures.answer b e f g)
    c.in_ok-judge_mapping.was
    c.requires.line.1 e (omega (arith, g, c.requires.line.0)) (omega (arith, g, (c.judge_mapping.ensures.fits c.in_ok-judge_mapping.was).1)) _ _
    (stored_same a.u a.d a.bits a.len _ b f g c.info_of.ensures.0) c.add.ensures.answer
    ∙ c.in_err-add.was))

pub returns-clause-taken : goal.returns-clause-taken
returns-clause-taken c =
    let a = c.args in
    let l = a.self.now in
    let s = l in
    let fine = c.in_ok-add.was in
    λ rows ls b held e f g. rw (c.add.ensures.states, c.add.ensures.reading.0, c.add.ensures.reading.1, c.add.ensures.count fine)
    (more-taken limits l.head l.mappings rows ls s.states.now s.codes.now s.infos.now s.order.now held
    (line_as a.u b a.d) _ (c.judge_mapping.ensures.answer b e f g)
    c.in_ok-judge_mapping.was
    c.requires.line.1 e (omega (arith, g, c.requires.line.0)) (omega (arith, g, (c.judge_mapping.ensures.fits c.in_ok-judge_mapping.was).1)) _ _ _ _ _ c.requires.body.phase
    (stored_same a.u a.d a.bits a.len _ b f g c.info_of.ensures.0)
    (lowest-mapping limits l.head l.mappings rows ls s.states.now s.codes.now s.infos.now s.order.now held
    (line_as a.u b a.d) _ (c.judge_mapping.ensures.answer b e f g)
    c.in_ok-judge_mapping.was
    c.requires.line.1 e (omega (arith, g, c.requires.line.0)) (omega (arith, g, (c.judge_mapping.ensures.fits c.in_ok-judge_mapping.was).1)) _ _
    (stored_same a.u a.d a.bits a.len _ b f g c.info_of.ensures.0) c.add.ensures.answer
    ∙ fine) (c.add.ensures.kept fine) (c.add.ensures.inserted fine))
