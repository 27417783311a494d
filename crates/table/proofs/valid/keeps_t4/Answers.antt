use Rattle.table.proofs.TestParts.{t4_sub1-some}
use Rattle.table.specs.States.{step_at}
use Rattle.table.proofs.valid.keeps_t4.Goals as goal

pub returns : goal.returns
returns c =
    let a = c.args in
    rw (
      t4_sub1-some (step_at a.steps.now) a.rec.subchar1 c.if-rec-eq0.false,
      ← c.end_kind.ensures,
      ← c.end_kind-2.ensures,
      c.is_none.ensures,
      c.if-is_none.false,
    )
    c.is_some.ensures
