use Rattle.std.proofs.Common.{sym, ◌∙◌}
use Rattle.lists.proofs.Stores.{sets-++}
use Rattle.frames.specs.Lines.{digits_of}
use Rattle.frames.proofs.lines.write_number.Goals as goal

pub returns-clause-written : goal.returns-clause-written
returns-clause-written c =
    let a = c.args in
    c.write_digits.ensures
    ∙ rw (c.write_bytes-p.ensures.written, c.write_bytes-p.ensures.place)
    (sym (sets-++ a.out.now a.at a.before.now (digits_of a.count a.n)))
