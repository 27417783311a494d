use mathlib.Core.Path.{sym, ◌∙◌}
use Rattle.table.specs.Numbers.{n12, n14, n15}
use Rattle.table.proofs.HeaderLaws.{key-verdict, other-verdict}
use Rattle.table.proofs.header.judge_key.Goals as goal

pub returns-then-seen : goal.returns-then-seen
returns-then-seen c =
    rw (key-verdict, ← c.seen.ensures, c.if-seen.true)

pub returns-in_default : goal.returns-in_default
unfolding n12 n14 n15
returns-in_default c =
    rw (key-verdict, ← c.seen.ensures, c.if-seen.false, c.in_default.is)

pub returns-in-Unbuilt : goal.returns-in-Unbuilt
unfolding n12 n14 n15
returns-in-Unbuilt c =
    rw (key-verdict, ← c.seen.ensures, c.if-seen.false, c.in-Some.is, c.in-Unbuilt.is)

pub returns-in-Row : goal.returns-in-Row
unfolding n12 n14 n15
returns-in-Row c =
    rw (key-verdict, ← c.seen.ensures, c.if-seen.false, c.in-Some.is, c.in-Row.is, ← c.judge_row.ensures)

pub returns-in_default-value : goal.returns-in_default-value
returns-in_default-value c =
    let d = c.in_default-value in
    rw c.in-Some.is (other-verdict _ _ _ _ _ (sym c.seen.ensures ∙ c.if-seen.false) d.not-Unbuilt d.not-Row)
