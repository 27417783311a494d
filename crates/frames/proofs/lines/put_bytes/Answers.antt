use Rattle.std.proofs.Common.{◌<◌, ◌+◌, length, arith}
use Rattle.frames.proofs.Writes.{wrote-all, wrote_none}
use Rattle.frames.proofs.lines.put_bytes.Goals as goal
use Rattle.frames.proofs.lines.put_bytes.Goals.{then-out-at-via-then-out-at, then-out-at-via-else-out-at+then-out-at-2}

pub returns-then-out-at : goal.returns-then-out-at
returns-then-out-at c =
    let a = c.args in
    let past : length a.out.now < a.at + length a.text.now =
    elim c.then-out-at.branch [
      | then-out-at-via-then-out-at w ↦ omega (arith, w.if-out-at.true)
      | then-out-at-via-else-out-at+then-out-at-2 w ↦ omega (arith, w.if-out-at.false, w.if-out-at-2.true)
    ] in
    wrote_none a.out.now a.at a.text.now past

pub returns : goal.returns
returns c =
    let w = c.write_bytes.ensures in
    wrote-all (record { bytes = w.written; place = w.place }) (omega arith)
