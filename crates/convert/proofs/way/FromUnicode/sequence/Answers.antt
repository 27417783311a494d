-- The decoder's answer, and what the line that was found says of the code point. Of the hint nothing is asked.
use mathlib.Core.Path.{sym, ap, ◌∙◌}
use Rattle.utf.specs.Scheme.{side_of}
use Rattle.convert.specs.Run.{stop}
use Rattle.convert.specs.Step.{skipped, sent_for}
use Rattle.convert.proofs.Steps.{from_gives, from-stopped}
use Rattle.convert.proofs.TableSteps.{found-writes}
use Rattle.convert.proofs.way.FromUnicode.sequence.Goals as goal

pub returns-in-Stopped : goal.returns-in-Stopped
returns-in-Stopped c =
    let w = c.args.self.now in
    c.sent_stop.ensures
    ∙ (λ i. skipped w.settings.skip (c.subchar.ensures i) 0 (stop (c.one_unit-why.ensures i)))
    ∙ sym (from-stopped (side_of w.scheme) w.table w.settings 0 c.args.s.now c.in-Stopped.stop (sym c.decode.ensures ∙ c.in-Stopped.is))

pub returns-in-Scalar : goal.returns-in-Scalar
returns-in-Scalar c =
    let w = c.args.self.now in
    let t = w.table in
    c.code_for.ensures
    ∙ ap (sent_for t w.settings.substitute 0 c.in-Scalar.n)
    (c.write_as.ensures.0 ∙ found-writes t w.settings.fallback c.in-Scalar.c c.find_point_near-found.result c.find_point_near-found.ensures.writes)
    ∙ sym (from_gives (side_of w.scheme) t w.settings 0 c.args.s.now c.in-Scalar.c c.in-Scalar.n (sym c.decode.ensures ∙ c.in-Scalar.is))
