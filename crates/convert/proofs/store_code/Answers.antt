-- No byte, one and two are stored straight, and what is left of more is `put_bytes`'.
use mathlib.Core.Path.{sym, ◌∙◌}
use native.Mathlib.Omega.{arith}
use Rattle.convert.proofs.CodeBytes.{put_one, put_two, put-none}
use Rattle.convert.proofs.store_code.Goals as goal

pub returns-then-n-eq0 : goal.returns-then-n-eq0
returns-then-n-eq0 c =
    let a = c.args in sym (put-none a.out.now a.at a.n a.bits (omega arith))

pub returns-then-n-eq1 : goal.returns-then-n-eq1
returns-then-n-eq1 c =
    let a = c.args in sym (put_one a.out.now a.at a.n a.bits (omega arith) ∙ put-none _ _ _ _ (omega arith))

pub returns-then-n-eq2 : goal.returns-then-n-eq2
returns-then-n-eq2 c =
    let a = c.args in sym (put_two a.out.now a.at a.n a.bits (omega arith) ∙ put-none _ _ _ _ (omega arith))

pub returns : goal.returns
returns c =
    let a = c.args in c.put_bytes.ensures ∙ sym (put_two a.out.now a.at a.n a.bits (omega arith))
