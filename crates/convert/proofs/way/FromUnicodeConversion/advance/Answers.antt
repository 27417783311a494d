-- By whether the code fits.
use mathlib.Core.Path.{sym, ◌∙◌}
use Rattle.convert.proofs.Ways.{from-done, from-full}
use Rattle.convert.proofs.way.FromUnicodeConversion.advance.Goals as goal

pub returns-then-put_code : goal.returns-then-put_code
returns-then-put_code c =
    let w = c.args.self.now in
    from-done w.scheme w.table w.settings c.args.s.now c.args.out.now c.args.at c.sequence.result c.sequence.ensures c.in-Code.bits c.in-Code.len c.in-Code.read c.in-Code.is
    c.put_code.new.out c.put_code.ensures.1 (sym c.if-put_code.true ∙ c.put_code.ensures.0)

pub returns-else-put_code : goal.returns-else-put_code
returns-else-put_code c =
    let w = c.args.self.now in
    from-full w.scheme w.table w.settings c.args.s.now c.args.out.now c.args.at c.sequence.result c.sequence.ensures c.in-Code.bits c.in-Code.len c.in-Code.read c.in-Code.is
    c.put_code.new.out c.put_code.ensures.1 (sym c.if-put_code.false ∙ c.put_code.ensures.0)
