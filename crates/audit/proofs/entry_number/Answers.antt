-- The parts do not overlap, and the code's bits are its packed bytes.
use Prim.Native.Nat.{◌+◌, ◌*◌}
use native.Mathlib.Omega.{arith}
use mathlib.Core.Path.{sym, ◌∙◌}
use Rattle.table.proofs.Packing.{pack-unpack, length-unpacked}
use Rattle.table.proofs.StoredLine.{padded-length}
use Rattle.audit.specs.Audit.{entry_number}
use Rattle.audit.proofs.entry_number.Goals as goal

pub overflow_add-result-2 : goal.overflow_add-result-2
overflow_add-result-2 c =
    let h = padded-length c.args.code.len c.args.code.bits c.requires in
    omega (arith, h.1)

pub returns : goal.returns
unfolding entry_number
returns c =
    let a = c.args in
    λ i. (c.from.ensures ∙ sym (pack-unpack a.code.len a.code.bits c.requires)) i
    + 4294967296 * (c.from-2.ensures ∙ sym (length-unpacked a.code.len a.code.bits)) i
    + 1099511627776 * (c.from-3.ensures ∙ c.number.ensures) i
