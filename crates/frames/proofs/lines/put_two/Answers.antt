use Rattle.std.proofs.Common.{◌+◌, [], ◌∷◌, set, refl, arith}
use Rattle.frames.specs.Lines.{two_numbers}
use Rattle.frames.proofs.Writes.{wrote-start, wrote-number, wrote-more, wrote-all, wrote_none, length_two}
use Rattle.frames.proofs.lines.put_two.Goals as goal

pub returns-then-room_left-first : goal.returns-then-room_left-first
returns-then-room_left-first c =
    let a = c.args in
    wrote_none a.out.now a.at (two_numbers a.first.now a.n a.second.now a.m)
    (omega (arith, length_two a.first.now a.n a.second.now a.m))

pub returns : goal.returns
unfolding two_numbers
returns c =
    let a = c.args in
    let d = c.decimal_count-a in
    let e = c.decimal_count-b in
    let w = wrote-number (wrote-start a.out.now a.at) a.first.now a.n d.result c.write_number-p.result
    c.write_number-p.new.out d.ensures.count c.write_number-p.ensures.written c.write_number-p.ensures.place in
    let v = wrote-number w a.second.now a.m e.result c.write_number-q.result c.write_number-q.new.out e.ensures.count c.write_number-q.ensures.written c.write_number-q.ensures.place in
    let u = wrote-more v (10 ∷ []) (c.write_number-q.result + 1) (set c.write_number-q.new.out c.write_number-q.result 10) refl refl in
    wrote-all u (omega (arith, length_two a.first.now a.n a.second.now a.m))
