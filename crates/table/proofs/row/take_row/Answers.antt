use mathlib.Core.List.{[]}
use Rattle.lists.proofs.Laws.{tests}
use Rattle.table.specs.Row.{entries_from, entries_of, entries_at, overwritten}
use Rattle.table.proofs.RowText.{row-written}
use Rattle.table.proofs.row.take_row.Goals as goal

pub returns-then-s-p : goal.returns-then-s-p
unfolding entries_of entries_from overwritten
returns-then-s-p c =
    let s = c.args.s.now in
    rw (c.fill.ensures.after (λ y h. h), c.requires) (row-written s [] (search (tests, ← c.skip-p.ensures.0)))

pub returns-in-Some : goal.returns-in-Some
unfolding entries_of entries_from
returns-in-Some c =
    let s = c.args.s.now in
    rw (c.overwrite.ensures, c.fill.ensures.after (λ y h. h), c.requires)
    (row-written s (entries_at s c.in-Some.q) (search (tests, ← c.skip-p.ensures.0, ← c.opener.ensures, c.in-Some.is)))

pub returns-in_default : goal.returns-in_default
unfolding entries_of entries_from overwritten
returns-in_default c =
    let s = c.args.s.now in
    rw (c.fill.ensures.after (λ y h. h), c.requires)
    (row-written s [] (search (tests, ← c.skip-p.ensures.0, ← c.opener.ensures, c.in_default.is)))
