use Rattle.std.proofs.Common.{rules}
use Rattle.table.proofs.LineLaws.{t7-and-t8}
use Rattle.table.specs.Stored.{mk}
use Rattle.table.proofs.valid.keeps_t7_t8.Goals as goal

pub returns-in-1 : goal.returns-in-1
returns-in-1 c =
    let a = c.args in rw (t7-and-t8 (mk a.bits a.info) a.sub1 c.requires) (search rules)

pub returns-in-4 : goal.returns-in-4
returns-in-4 c =
    let a = c.args in rw (t7-and-t8 (mk a.bits a.info) a.sub1 c.requires) (search rules)

pub returns-then-extra-eq0 : goal.returns-then-extra-eq0
returns-then-extra-eq0 c =
    let a = c.args in rw (t7-and-t8 (mk a.bits a.info) a.sub1 c.requires) (search rules)

pub returns-else-extra-eq0 : goal.returns-else-extra-eq0
returns-else-extra-eq0 c =
    let a = c.args in rw (t7-and-t8 (mk a.bits a.info) a.sub1 c.requires) (search rules)

pub returns-then-extra-eq0-2 : goal.returns-then-extra-eq0-2
returns-then-extra-eq0-2 c =
    let a = c.args in rw (t7-and-t8 (mk a.bits a.info) a.sub1 c.requires) (search rules)

pub returns-else-extra-eq0-2 : goal.returns-else-extra-eq0-2
returns-else-extra-eq0-2 c =
    let a = c.args in rw (t7-and-t8 (mk a.bits a.info) a.sub1 c.requires) (search rules)
