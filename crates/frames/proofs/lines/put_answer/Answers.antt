use Rattle.std.proofs.Common.{◌<◌, length, ◌+◌, [], ◌∷◌, set, refl, ◌∙◌, add-one, arith}
use Rattle.frames.specs.Lines.{hex_of, answer_line}
use Rattle.frames.proofs.Writes.{wrote-start, wrote-number, wrote-more, wrote-all, wrote_none, length-answer}
use Rattle.frames.proofs.Hex.{length-hex_of}
use Rattle.frames.proofs.lines.put_answer.Goals as goal
use Rattle.frames.proofs.lines.put_answer.Goals.{then-left-digits-via-then-left-digits, then-left-digits-via-else-left-digits+then-left-digits-2}

pub returns-then-left-digits : goal.returns-then-left-digits
returns-then-left-digits c =
    let a = c.args in
    let all = length-answer a.number a.read a.text.now in
    let past : length a.out.now < a.at + length (answer_line a.number a.read a.text.now) =
    elim c.then-left-digits.branch [
      | then-left-digits-via-then-left-digits w ↦ omega (arith, all, w.if-left-digits.true)
      | then-left-digits-via-else-left-digits+then-left-digits-2 w ↦ omega (arith, all, w.if-left-digits-2.true)
    ] in
    wrote_none a.out.now a.at (answer_line a.number a.read a.text.now) past

pub returns : goal.returns
unfolding answer_line
returns c =
    let a = c.args in
    let s = a.text.now in
    let d = c.decimal_count-a in
    let e = c.decimal_count-b in
    let w = wrote-number (wrote-start a.out.now a.at) [] a.number d.result (a.at + d.result)
    c.write_digits.new.out d.ensures.count c.write_digits.ensures (omega arith) in
    let v = wrote-number w (32 ∷ []) a.read e.result c.write_number-q.result c.write_number-q.new.out e.ensures.count c.write_number-q.ensures.written c.write_number-q.ensures.place in
    let u = wrote-more v (32 ∷ hex_of s) c.write_hex-e.result c.write_hex-e.new.out (c.write_hex-e.ensures.written ∙ rw (add-one c.write_number-q.result))
    (c.write_hex-e.ensures.place ∙ omega (arith, length-hex_of s)) in
    let t = wrote-more u (10 ∷ []) (c.write_hex-e.result + 1) (set c.write_hex-e.new.out c.write_hex-e.result 10) refl refl in
    wrote-all t (omega (arith, length-answer a.number a.read s))
