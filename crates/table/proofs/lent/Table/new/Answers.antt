use mathlib.Core.Path.{sym, ◌∙◌}
use native.Mathlib.Omega.{arith}
use Rattle.table.specs.Limits.{limits}
use Rattle.table.specs.Held.{memory_of}
use Rattle.table.proofs.ValidLaws.{valid-table}
use Rattle.table.proofs.lent.Table.new.Goals as goal

pub invariant_of-result : goal.invariant_of-result
invariant_of-result c =
    let l = c.args.lent in
    let ok = sym c.memory_valid.ensures ∙ c.if-not-memory_valid.false in
    record {
      tested = ok;
      keeps = (valid-table limits l.rec (memory_of l) ok c.fits.ensures (omega arith)).1;
    }
