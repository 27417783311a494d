-- Invariant: the run from here, after what is read and written, is the whole run.
use mathlib.Core.Path.{◌∙◌}
use Rattle.std.specs.Prelude.{Ok, Err}
use Rattle.convert.proofs.Ways.{goes-on, ends-there, advances-at}
use Rattle.convert.proofs.way.run_by.Goals as goal

pub loop-at-preserved : goal.loop-at-preserved
loop-at-preserved g c =
    let l = c.loop-at in
    let step = g.W.Conversion.step c.args.way in
    goes-on step c.args.input.now c.args.out.now l.out l.at l.w l.invariant c.loop-at-test.true c.advance.new.out c.in-Ok.field-0
    (advances-at step c.args.input.now l.out l.at l.w c.advance.result c.advance.new.out c.advance.ensures (Ok c.in-Ok.field-0) c.in-Ok.is)

pub returns-in-Err-clause-answer : goal.returns-in-Err-clause-answer
returns-in-Err-clause-answer g c =
    let l = c.loop-at in
    let step = g.W.Conversion.step c.args.way in
    c.ended.ensures
    ∙ (ends-there step c.args.input.now c.args.out.now l.out l.at l.w l.invariant c.loop-at-test.true c.advance.new.out c.in-Err.end
    (advances-at step c.args.input.now l.out l.at l.w c.advance.result c.advance.new.out c.advance.ensures (Err c.in-Err.end) c.in-Err.is)).0

pub returns-in-Err-clause-written : goal.returns-in-Err-clause-written
returns-in-Err-clause-written g c =
    let l = c.loop-at in
    let step = g.W.Conversion.step c.args.way in
    (ends-there step c.args.input.now c.args.out.now l.out l.at l.w l.invariant c.loop-at-test.true c.advance.new.out c.in-Err.end
    (advances-at step c.args.input.now l.out l.at l.w c.advance.result c.advance.new.out c.advance.ensures (Err c.in-Err.end) c.in-Err.is)).1
