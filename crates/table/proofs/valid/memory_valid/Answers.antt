use Rattle.table.specs.Limits.{limits, needed}
use Rattle.table.specs.Held.{memory_of}
use Rattle.table.proofs.TestParts.{valid-is, states-long}
use Rattle.std.proofs.Common.{rules}
use lib.Seq.{length-take-le}
use mathlib.Core.Path.{sym, ◌∙◌}
use Rattle.table.proofs.valid.memory_valid.Goals as goal

pub returns-then-not-record_ok : goal.returns-then-not-record_ok
returns-then-not-record_ok c =
    let l = c.args.lent in
    rw (valid-is limits l.rec (memory_of l)) (search rules)

pub slice_bounds-steps-end : goal.slice_bounds-steps-end
slice_bounds-steps-end c =
    let l = c.args.lent in
    sym (length-take-le (needed limits) l.states.now
    (states-long limits l.rec.rows l.states.now _ (sym c.states_ok.ensures ∙ c.if-not-states_ok.false)))

pub returns-then-keeps_t4 : goal.returns-then-keeps_t4
returns-then-keeps_t4 c =
    let l = c.args.lent in
    rw (valid-is limits l.rec (memory_of l)) (search rules)

pub returns-else-keeps_t4 : goal.returns-else-keeps_t4
returns-else-keeps_t4 c =
    let l = c.args.lent in
    rw (valid-is limits l.rec (memory_of l)) (search rules)
