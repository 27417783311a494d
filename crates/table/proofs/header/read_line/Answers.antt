use mathlib.Core.Path.{sym, ◌∙◌}
use native.Mathlib.Omega.{arith}
use Rattle.table.specs.Header.{header_line_at, header_line_of}
use Rattle.table.specs.loops.Ranges.{InLine}
use Rattle.table.proofs.TextLaws.{ends-inside}
use Rattle.table.proofs.HeaderLaws.{line-key, line_other}
use Rattle.table.proofs.header.read_line.Goals as goal

pub returns-then-ends : goal.returns-then-ends
unfolding header_line_of header_line_at InLine
returns-then-ends c =
    (rw (← c.skip-p.ensures.0, ← c.ends.ensures, c.if-ends.true), tt)

pub bounds-s-p : goal.bounds-s-p
bounds-s-p c =
    let lt = ends-inside _ _ (sym c.ends.ensures ∙ c.if-ends.false) in omega arith

pub returns-then-s-p-eq60 : goal.returns-then-s-p-eq60
unfolding header_line_of
returns-then-s-p-eq60 c = (
  rw (
    ← c.skip-p.ensures.0,
    line-key _ _ (sym c.ends.ensures ∙ c.if-ends.false)
        c.if-s-p-eq60.true,
    ← c.keyed_line.ensures.0,
  ),
  c.keyed_line.ensures.1,
)

pub is_charmap-requires : goal.is_charmap-requires
is_charmap-requires c =
    let lt = ends-inside _ _ (sym c.ends.ensures ∙ c.if-ends.false) in omega arith

pub returns-then-is_charmap : goal.returns-then-is_charmap
unfolding header_line_of InLine
returns-then-is_charmap c = (
  rw (
    ← c.skip-p.ensures.0,
    line_other _ _ (sym c.ends.ensures ∙ c.if-ends.false) c.if-s-p-eq60.false,
    ← c.is_charmap.ensures,
    c.if-is_charmap.true,
  ),
  tt,
)

pub returns : goal.returns
unfolding header_line_of InLine
returns c = (
  rw (
    ← c.skip-p.ensures.0,
    line_other _ _ (sym c.ends.ensures
        ∙ c.if-ends.false) c.if-s-p-eq60.false,
    ← c.is_charmap.ensures,
    c.if-is_charmap.false,
  ),
  tt,
)
