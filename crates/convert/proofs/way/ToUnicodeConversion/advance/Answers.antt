-- By what the encoder answers.
use Rattle.std.specs.Prelude.{Err}
use mathlib.Core.Path.{sym, ap, ◌∙◌}
use Rattle.utf.specs.declared.utf8.PutError.{PutError}
use Rattle.convert.proofs.Ways.{to-done, to-full, to-scalar}
use Rattle.convert.proofs.way.ToUnicodeConversion.advance.Goals as goal

pub returns-in-Ok : goal.returns-in-Ok
returns-in-Ok c =
    let w = c.args.self.now in
    to-done w.scheme w.table w.settings c.args.s.now c.args.out.now c.args.at c.sequence.result c.sequence.ensures.step c.in-Scalar.c c.in-Scalar.read c.in-Scalar.is
    c.encode.new.out c.encode.ensures.written c.in-Ok.written (sym c.in-Ok.is ∙ c.encode.ensures.answer)

pub returns-in-Err-NoRoom : goal.returns-in-Err-NoRoom
returns-in-Err-NoRoom c =
    let w = c.args.self.now in
    to-full w.scheme w.table w.settings c.args.s.now c.args.out.now c.args.at c.sequence.result c.sequence.ensures.step c.in-Scalar.c c.in-Scalar.read c.in-Scalar.is
    c.encode.new.out c.encode.ensures.written (sym (c.in-Err-NoRoom.is ∙ ap (λ (e : PutError). Err e) c.in-Err-NoRoom.field-0-is) ∙ c.encode.ensures.answer)

pub returns-in-Err-NotScalar : goal.returns-in-Err-NotScalar
returns-in-Err-NotScalar c =
    let w = c.args.self.now in
    to-scalar w.scheme w.table w.settings c.args.s.now c.args.out.now c.args.at c.sequence.result c.sequence.ensures.step c.in-Scalar.c c.in-Scalar.read c.in-Scalar.is
    c.sequence.ensures.keeps (sym (c.in-Err-NotScalar.is ∙ ap (λ (e : PutError). Err e) c.in-Err-NotScalar.field-0-is) ∙ c.encode.ensures.answer)
