-- The kept bytes, and so many of the piece's behind them.
use Rattle.convert.proofs.Settling.{joined-put}
use Rattle.convert.proofs.pieces.join.Goals as goal

pub returns : goal.returns
returns c =
    let a = c.args in
    let m = c.smaller-more in
    joined-put a.buffer.now c.put_bytes.new.out a.bytes.len a.bytes.bits a.piece.now c.put_bytes.ensures c.requires.0 c.requires.1 m.result m.ensures
    c.copy_from_slice.new.self c.copy_from_slice.ensures.after _
