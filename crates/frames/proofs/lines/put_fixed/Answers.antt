use Rattle.std.proofs.Common.{◌+◌, [], ◌∷◌, set, refl, arith}
use Rattle.frames.specs.Lines.{fixed_line}
use Rattle.frames.proofs.Writes.{wrote-start, wrote-more, wrote-all, wrote_none, length-fixed}
use Rattle.frames.proofs.lines.put_fixed.Goals as goal

pub returns-then-room_left-text : goal.returns-then-room_left-text
returns-then-room_left-text c =
    let a = c.args in
    wrote_none a.out.now a.at (fixed_line a.text.now) (omega (arith, length-fixed a.text.now))

pub returns : goal.returns
unfolding fixed_line
returns c =
    let a = c.args in
    let w = wrote-more (wrote-start a.out.now a.at) a.text.now c.write_bytes-next.result c.write_bytes-next.new.out c.write_bytes-next.ensures.written c.write_bytes-next.ensures.place in
    let v = wrote-more w (10 ∷ []) (c.write_bytes-next.result + 1) (set c.write_bytes-next.new.out c.write_bytes-next.result 10) refl refl in
    wrote-all v (omega (arith, length-fixed a.text.now))
