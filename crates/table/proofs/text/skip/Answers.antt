use mathlib.Core.Path.{◌≡◌, sym, ◌∙◌}
use native.Mathlib.Omega.{arith}
use lib.ListN.{drop}
use Rattle.lists.proofs.Laws.{drop-∷, drop_past}
use Rattle.table.specs.Text.{skip_of}
use Rattle.table.proofs.TextLaws.{skip-by}
use Rattle.table.proofs.text.skip.Goals as goal

pub loop-i-preserved : goal.loop-i-preserved
loop-i-preserved c = (
  c.loop-i.invariant.0
      ∙ rw (drop-∷ _ c.loop-i.i c.loop-i-test.true, skip-by, ← c.is_blank.ensures, c.if-is_blank.true),
  omega arith,
)

pub returns-else-is_blank : goal.returns-else-is_blank
returns-else-is_blank c =
    let i = c.loop-i.i in
    let e : skip_of i (drop i c.args.s.now) ≡ i =
    rw (drop-∷ _ i c.loop-i-test.true, skip-by, ← c.is_blank.ensures, c.if-is_blank.false) in
    (sym (c.loop-i.invariant.0 ∙ e), omega arith)

pub returns-after-loop-i : goal.returns-after-loop-i
unfolding skip_of
returns-after-loop-i c =
    let i = c.loop-i.i in
    let e : skip_of i (drop i c.args.s.now) ≡ i = rw (drop_past c.args.s.now i c.loop-i-test.false) in
    (sym (c.loop-i.invariant.0 ∙ e), omega arith)
