use Rattle.table.specs.Limits.{limits}
use Rattle.table.proofs.MappingSteps.{Kept-added, entries-added, added-codes, added-infos, added-order}
use Rattle.table.proofs.Inserted.{free-ready}
use Rattle.table.specs.Stored.{mk}
use Rattle.table.specs.loops.Progress.{slices_in}
use Rattle.table.proofs.LineSteps.{unchanged}
use mathlib.Core.Path.{refl, sym, ◌∙◌}
use Rattle.table.proofs.load.Loader.add.Goals as goal

pub insert_stored-requires : goal.insert_stored-requires
insert_stored-requires c =
    let a = c.args in
    let s = a.self.now in
    free-ready limits.mappings s.mappings s.codes.now s.infos.now s.order.now c.requires.0
    (mk a.c a.i) (sym c.read_taken.ensures
    ∙ c.if-read_taken.false) (sym c.write_taken.ensures ∙ c.if-write_taken.false)
    c.if-n-ge-MAPPINGS.false

pub returns-then-read_taken-clause-beyond : goal.returns-then-read_taken-clause-beyond
returns-then-read_taken-clause-beyond c = unchanged limits (slices_in c.args.self.now)

pub returns-then-write_taken-clause-beyond : goal.returns-then-write_taken-clause-beyond
returns-then-write_taken-clause-beyond c = unchanged limits (slices_in c.args.self.now)

pub returns-then-n-ge-MAPPINGS-clause-beyond : goal.returns-then-n-ge-MAPPINGS-clause-beyond
returns-then-n-ge-MAPPINGS-clause-beyond c = unchanged limits (slices_in c.args.self.now)

pub returns-clause-kept : goal.returns-clause-kept
returns-clause-kept c =
    let a = c.args in
    let s = a.self.now in
    λ _. Kept-added limits.mappings s.mappings s.codes.now s.infos.now s.order.now c.requires.0 (mk a.c a.i)
    (sym c.read_taken.ensures ∙ c.if-read_taken.false) (sym c.write_taken.ensures ∙ c.if-write_taken.false)
    c.if-n-ge-MAPPINGS.false _ _ _ c.insert_stored.ensures.0 c.insert_stored.ensures.1 c.insert_stored.ensures.2

pub returns-clause-inserted : goal.returns-clause-inserted
returns-clause-inserted c =
    let a = c.args in
    let s = a.self.now in
    λ _. entries-added limits.mappings s.mappings s.codes.now s.infos.now s.order.now c.requires.0 (mk a.c a.i)
    (sym c.read_taken.ensures ∙ c.if-read_taken.false) (sym c.write_taken.ensures ∙ c.if-write_taken.false)
    c.if-n-ge-MAPPINGS.false _ _ _ c.insert_stored.ensures.0 c.insert_stored.ensures.1 c.insert_stored.ensures.2

pub returns-clause-beyond : goal.returns-clause-beyond
returns-clause-beyond c =
    let a = c.args in
    let s = a.self.now in
    record {
      states-rest = refl;
      codes-rest = added-codes limits.mappings s.mappings s.codes.now s.infos.now s.order.now c.requires.0 (mk a.c a.i)
          (sym c.read_taken.ensures ∙ c.if-read_taken.false) (sym c.write_taken.ensures ∙ c.if-write_taken.false)
          c.if-n-ge-MAPPINGS.false _ _ _ c.insert_stored.ensures.0 c.insert_stored.ensures.1 c.insert_stored.ensures.2;
      infos-rest = added-infos limits.mappings s.mappings s.codes.now s.infos.now s.order.now c.requires.0 (mk a.c a.i)
          (sym c.read_taken.ensures ∙ c.if-read_taken.false) (sym c.write_taken.ensures ∙ c.if-write_taken.false)
          c.if-n-ge-MAPPINGS.false _ _ _ c.insert_stored.ensures.0 c.insert_stored.ensures.1 c.insert_stored.ensures.2;
      order-rest = added-order limits.mappings s.mappings s.codes.now s.infos.now s.order.now c.requires.0 (mk a.c a.i)
          (sym c.read_taken.ensures ∙ c.if-read_taken.false) (sym c.write_taken.ensures ∙ c.if-write_taken.false)
          c.if-n-ge-MAPPINGS.false _ _ _ c.insert_stored.ensures.0 c.insert_stored.ensures.1 c.insert_stored.ensures.2;
    }
