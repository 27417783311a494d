-- The kept bytes, put into a buffer.
use mathlib.Core.Path.{ap, ◌∙◌}
use Prim.Native.Nat.{ℕ}
use mathlib.Core.List.{List}
use native.Mathlib.Omega.{arith}
use lib.ListN.{take}
use Rattle.table.specs.Meaning.{steps_of}
use Rattle.convert.specs.Pieces.{begun}
use Rattle.convert.proofs.Settling.{front-put}
use Rattle.convert.proofs.pieces.is_begun_by.Goals as goal

pub returns : goal.returns
returns c =
    let a = c.args in
    c.is_begun.ensures
    ∙ ap (λ (x : List ℕ). begun a.way a.scheme (steps_of a.table.now) a.skip x)
    (ap (take a.bytes.len) c.put_bytes.ensures ∙ front-put _ a.bytes.len a.bytes.bits (omega (arith, c.requires)))
