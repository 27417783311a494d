-- Invariant: the first k wanted are answered.
use Rattle.lookups.specs.Lookups.{AnswersCode, Answered}
use Rattle.lookups.proofs.each_code.Given as goal

abbrev pub invariant-loop-k : goal.invariant-loop-k
invariant-loop-k l = Answered (AnswersCode l.rec l.codes l.infos) l.k l.wanted l.initial.found l.found
