use native.Mathlib.Omega.{arith}
use Rattle.table.proofs.TestParts.{tested, record_ok⇒RecordKept}
use mathlib.Core.Path.{sym}
use lib.Seq.{length-take-le}
use Rattle.table.specs.Limits.{limits}
use Rattle.table.specs.Held.{memory_of}
use Rattle.table.proofs.HeldMemory.{lines-within}
use Rattle.table.proofs.lent.Table.line_infos.Goals as goal

pub slice_bounds-result-end : goal.slice_bounds-result-end
slice_bounds-result-end c =
    let l = c.self.inside.lent in
    sym (length-take-le l.rec.mappings l.lines.infos.now (lines-within limits l.rec (memory_of l) c.self.invariant.tested).1)

pub returns : goal.returns
returns c =
    let l = c.self.inside.lent in
    let m = memory_of l in
    let n = length-take-le l.rec.mappings l.lines.infos.now (lines-within limits l.rec m c.self.invariant.tested).1 in
    let few = (record_ok⇒RecordKept limits l.rec (tested limits l.rec m c.self.invariant.tested).rec-ok).few-lines in
    omega (arith, n, few)
