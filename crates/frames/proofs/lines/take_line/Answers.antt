use Rattle.std.proofs.Common.{◌≡◌, ℕ, ◌+◌, length, drop, sym, ap, ◌∙◌, arith}
use Rattle.lists.proofs.Parts.{take_drop_all}
use Rattle.frames.specs.Stream.{partial_in, taken_answer, taken_into}
use Rattle.frames.specs.declared.lines.Taken.TheVariants.{Line}
use Rattle.frames.proofs.Steps.{step-found, step-missed, step-none}
use Rattle.frames.proofs.lines.take_line.Goals as goal

pub returns-then-chunk-at : goal.returns-then-chunk-at
unfolding taken_answer taken_into
returns-then-chunk-at c =
    let a = c.args in
    let e = step-none (length a.line.now) (partial_in a.line.now a.held) a.chunk.now a.at c.if-chunk-at.true in
    record { answer = rw (e, c.hold.ensures.count); memory = rw (e, c.hold.ensures.memory) }

pub returns-in-Some : goal.returns-in-Some
unfolding taken_answer taken_into
returns-in-Some c =
    let a = c.args in
    let h = c.hold-in-Some.ensures in
    let rest = take_drop_all a.chunk.now a.at in
    let e = step-found (length a.line.now) (partial_in a.line.now a.held) (drop a.at a.chunk.now) c.in-Some.stop (sym c.in-Some.is ∙ c.first_lf.ensures ∙ rw rest) in
    let place : a.at + c.in-Some.stop + 1 ≡ a.at + (c.in-Some.stop + 1) = omega arith in
    record { answer = ap (λ (n : ℕ). Line n c.hold-in-Some.result) place ∙ rw (e, h.count, rest); memory = rw (e, h.memory, rest) }

pub returns-in-None : goal.returns-in-None
unfolding taken_answer taken_into
returns-in-None c =
    let a = c.args in
    let h = c.hold-in-None.ensures in
    let rest = take_drop_all a.chunk.now a.at in
    let e = step-missed (length a.line.now) (partial_in a.line.now a.held) (drop a.at a.chunk.now) (sym c.in-None.is ∙ c.first_lf.ensures ∙ rw rest) in
    record { answer = rw (e, h.count, rest); memory = rw (e, h.memory, rest) }
