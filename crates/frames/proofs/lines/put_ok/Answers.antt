use Rattle.std.proofs.Common.{◌+◌, [], ◌∷◌, set, refl, arith}
use Rattle.frames.specs.Lines.{ok_line}
use Rattle.frames.proofs.Writes.{wrote-start, wrote-number, wrote-more, wrote-all, wrote_none, length-ok}
use Rattle.frames.proofs.lines.put_ok.Goals as goal

pub returns-then-room_left-a : goal.returns-then-room_left-a
returns-then-room_left-a c =
    let a = c.args in
    wrote_none a.out.now a.at (ok_line a.count) (omega (arith, length-ok a.count))

pub returns : goal.returns
unfolding ok_line
returns c =
    let a = c.args in
    let d = c.decimal_count-a in
    let w = wrote-number (wrote-start a.out.now a.at) (84 ∷ 65 ∷ 66 ∷ 76 ∷ 69 ∷ 32 ∷ 79 ∷ 75 ∷ 32 ∷ [])
    a.count d.result c.write_number-p.result c.write_number-p.new.out d.ensures.count c.write_number-p.ensures.written c.write_number-p.ensures.place in
    let v = wrote-more w (10 ∷ []) (c.write_number-p.result + 1) (set c.write_number-p.new.out c.write_number-p.result 10) refl refl in
    wrote-all v (omega (arith, length-ok a.count))
