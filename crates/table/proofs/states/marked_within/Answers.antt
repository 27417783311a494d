use mathlib.Core.Path.{◌∙◌}
use mathlib.Core.Bool.{false}
use lib.ListN.{get_or-replicate}
use Rattle.table.specs.Limits.{limits}
use Rattle.table.specs.loops.LeadMarks.{marked_within}
use Rattle.table.proofs.Marking.{marked_step}
use Rattle.table.proofs.states.marked_within.Goals as goal

pub loop-init : goal.loop-init
unfolding marked_within
loop-init c =
    λ k h. get_or-replicate limits.rows k false false h

pub loop-preserved : goal.loop-preserved
loop-preserved c =
    let q = c.loop in
    let a = c.args in
    λ k h. c.level-reach.ensures k h ∙ marked_step a.rows a.marks.now q.reach q.counter q.invariant k
