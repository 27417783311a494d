use Rattle.std.proofs.Common.{◌≡◌, ◌+◌, [], ◌∷◌, length, set, refl, ap, ◌∙◌, arith}
use Rattle.table.specs.Codes.{unpacked}
use Rattle.table.proofs.Packing.{length-unpacked}
use Rattle.frames.specs.Lines.{hex_of, finding_line}
use Rattle.frames.specs.loops.Inner.{hex_count}
use Rattle.frames.proofs.Writes.{wrote-start, wrote-number, wrote-more, wrote-all, wrote_none, length-finding}
use Rattle.frames.proofs.Hex.{count_most, length-hex_of}
use Rattle.frames.proofs.lines.put_finding.Goals as goal

pub overflow_add-digits : goal.overflow_add-digits
overflow_add-digits c =
    omega (arith, count_most c.args.len)

pub overflow_add-digits-2 : goal.overflow_add-digits-2
overflow_add-digits-2 c =
    omega (arith, count_most c.args.len)

pub returns-then-room_left-digits : goal.returns-then-room_left-digits
returns-then-room_left-digits c =
    let a = c.args in
    let code = unpacked a.len a.bits in
    let k : hex_count (length code) ≡ hex_count a.len = ap hex_count (length-unpacked a.len a.bits) in
    wrote_none a.out.now a.at (finding_line code a.cause) (omega (arith, length-finding code a.cause))

pub returns : goal.returns
unfolding finding_line
returns c =
    let a = c.args in
    let d = c.decimal_count-a in
    let code = unpacked a.len a.bits in
    let k : hex_count (length code) ≡ hex_count a.len = ap hex_count (length-unpacked a.len a.bits) in
    let w = wrote-more (wrote-start a.out.now a.at) (hex_of code) c.write_code-p.result c.write_code-p.new.out
    c.write_code-p.ensures.written (c.write_code-p.ensures.place ∙ omega (arith, k, length-hex_of code)) in
    let v = wrote-number w (32 ∷ []) a.cause d.result c.write_number-q.result c.write_number-q.new.out d.ensures.count c.write_number-q.ensures.written c.write_number-q.ensures.place in
    let u = wrote-more v (10 ∷ []) (c.write_number-q.result + 1) (set c.write_number-q.new.out c.write_number-q.result 10) refl refl in
    wrote-all u (omega (arith, length-finding code a.cause))
