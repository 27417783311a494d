-- Invariant: the first k wanted are answered.
use Rattle.lookups.specs.Lookups.{AnswersPoint, Answered}
use Rattle.lookups.proofs.each_point.Given as goal

abbrev pub invariant-loop-k : goal.invariant-loop-k
invariant-loop-k l = Answered (AnswersPoint l.rec l.codes l.infos l.order) l.k l.wanted l.initial.found l.found
