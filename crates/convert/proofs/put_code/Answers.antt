-- Whether the code fits, and what is stored.
use mathlib.Core.Path.{◌∙◌}
use native.Mathlib.Omega.{arith}
use Rattle.convert.proofs.CodeBytes.{store-full, store-done}
use Rattle.convert.proofs.put_code.Goals as goal

pub returns-then-out-n : goal.returns-then-out-n
returns-then-out-n c =
    let a = c.args in store-full a.out.now a.at a.len a.bits (omega arith)

pub returns : goal.returns
returns c =
    let a = c.args in
    let d = store-done a.out.now a.at a.len a.bits (omega arith) in
    (d.0, c.store_code.ensures ∙ d.1)
