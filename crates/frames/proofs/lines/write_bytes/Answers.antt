use Rattle.std.proofs.Common.{◌≡◌, ◌+◌, ◌-◌, length, drop, append_assoc, take, drop-drop, sym, ◌∙◌, arith}
use lib.Seq.{sets-eq}
use Rattle.frames.proofs.lines.write_bytes.Goals as goal

pub returns-clause-written : goal.returns-clause-written
returns-clause-written c =
    let a = c.args in
    let n : a.at + length a.text.now - a.at ≡ length a.text.now = omega arith in
    rw (c.copy_from_slice.ensures.after, n, drop-drop (length a.text.now) a.at a.out.now)
    (sym (append_assoc (take a.at a.out.now) a.text.now (drop (a.at + length a.text.now) a.out.now))
    ∙ sym (sets-eq a.text.now a.out.now a.at (omega arith)))
