-- The code by itself, then length and rank in one test (reads-in-one).
use mathlib.Core.Path.{sym}
use Rattle.table.specs.Stored.{mk}
use Rattle.table.specs.loops.Search.{reads_code}
use Rattle.table.proofs.Finding.{reads_code⇒Reads, reads-in-one}
use Rattle.lists.proofs.Laws.{¬true⇒false}
use native.Mathlib.Omega.{arith}
use Rattle.table.proofs.store.reads_code.Goals as goal

pub returns-then-c-code : goal.returns-then-c-code
returns-then-c-code c =
    let a = c.args in
    sym (¬true⇒false (reads_code a.code.bits a.code.len (mk a.c a.i))
    (λ r. let q = reads_code⇒Reads a.code.bits a.code.len (mk a.c a.i) r in omega (arith, q.its-code, q.its-len, c.then-c-code.either)))

pub returns : goal.returns
returns c =
    let a = c.args in
    sym (reads-in-one a.code.bits a.code.len (mk a.c a.i) (omega (arith, c.if-c-code.false)) (omega arith))
