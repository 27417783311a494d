-- Invariant: storing the bytes left gives what storing all of them gives. Measure: the bytes left.
use mathlib.Core.Path.{sym, ◌∙◌}
use native.Mathlib.Omega.{arith}
use lib.ListN.{length-set}
use Rattle.convert.proofs.CodeBytes.{put_one, put-none}
use Rattle.convert.proofs.put_bytes.Goals as goal

pub loop-k-preserved : goal.loop-k-preserved
loop-k-preserved c =
    let l = c.loop-k in (
      sym (put_one l.out l.i l.k l.v (omega arith)) ∙ l.invariant.0,
      omega arith,
      length-set l.out l.i _
          ∙ l.invariant.2,
      omega arith,
      omega arith,
    )

pub returns : goal.returns
returns c =
    let l = c.loop-k in sym (put-none l.out l.i l.k l.v (omega arith)) ∙ l.invariant.0
