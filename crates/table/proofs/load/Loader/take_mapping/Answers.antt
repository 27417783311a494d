use Rattle.std.specs.Prelude.{Some, None}
use Rattle.table.proofs.LineSteps.{same_taken, FormAs-coded_form, asks_at}
use Rattle.table.proofs.MappingLaws.{form-bytes}
use Rattle.table.specs.declared.load.Phase.TheVariants.{Mappings}
use Rattle.table.specs.declared.mapping.Mapped.{Mapped}
use Rattle.table.specs.declared.mapping.Mapped.TheVariants as coded
use Rattle.table.specs.Numbers.{lowest}
use Rattle.table.specs.Load.{mapping_asks}
use Rattle.table.specs.Mapping.{mapping, body_line_of}
use Rattle.table.specs.loops.Ranges.{MappedFits}
use Rattle.table.specs.Limits.{limits}
use Rattle.table.specs.loops.Progress.{keys_in}
use Rattle.table.specs.loops.Progress.{slices_in}
use mathlib.Core.Path.{refl, sym, ap, ◌∙◌}
use Rattle.table.proofs.load.Loader.take_mapping.Goals as goal

pub add_mapping-requires-clause-line : goal.add_mapping-requires-clause-line
unfolding MappedFits
add_mapping-requires-clause-line c =
    let w = rw (c.in-Some-Line.is ∙ ap (λ (m : Mapped). Some m) c.in-Some-Line.field-0-is) at
    c.read_mapping.ensures.1 in
    (w.2, c.indicator_of.ensures.1)

pub returns-in-None-clause-taken : goal.returns-in-None-clause-taken
unfolding lowest
returns-in-None-clause-taken c =
    let a = c.args in
    λ rows ls held. asks_at limits _ _ _ _ _ _ _ (ap (mapping_asks limits (keys_in a.self.now.head) rows ls)
    (FormAs-coded_form (body_line_of a.line.now) _ None c.read_mapping.ensures.0
    c.in-None.is)) refl

pub returns-in-Some-Reserved-clause-taken : goal.returns-in-Some-Reserved-clause-taken
unfolding lowest
returns-in-Some-Reserved-clause-taken c =
    let a = c.args in
    λ rows ls held. asks_at limits _ _ _ _ _ _ _ (ap (mapping_asks limits (keys_in a.self.now.head) rows ls)
    (FormAs-coded_form (body_line_of a.line.now) _ (Some coded.Reserved) c.read_mapping.ensures.0
    (c.in-Some-Reserved.is ∙ ap (λ (m : Mapped). Some m) c.in-Some-Reserved.field-0-is))) refl

pub returns-in-Some-Blank-clause-taken : goal.returns-in-Some-Blank-clause-taken
unfolding lowest
returns-in-Some-Blank-clause-taken c =
    let a = c.args in
    let l = a.self.now in
    λ rows ls held. asks_at limits _ _ _ _ _ _ _ (ap (mapping_asks limits (keys_in l.head) rows ls)
    (FormAs-coded_form (body_line_of a.line.now) _ (Some coded.Blank) c.read_mapping.ensures.0
    (c.in-Some-Blank.is ∙ ap (λ (m : Mapped). Some m) c.in-Some-Blank.field-0-is)))
    (same_taken limits Mappings _ l.head l.mappings rows ls (slices_in l) c.requires.body.phase held)

pub returns-in-Some-Line-clause-taken : goal.returns-in-Some-Line-clause-taken
unfolding lowest
returns-in-Some-Line-clause-taken c =
    let a = c.args in
    let w = FormAs-coded_form (body_line_of a.line.now) _ _ c.read_mapping.ensures.0
    (c.in-Some-Line.is ∙ ap (λ (m : Mapped). Some m) c.in-Some-Line.field-0-is) in
    let k = w.1.0 ∙ ap (mapping c.in-Some-Line.l.point w.0) (sym c.indicator_of.ensures.0) in
    λ rows ls held. asks_at limits _ _ _ _ _ _ _ (ap (mapping_asks limits (keys_in a.self.now.head) rows ls) k)
    (c.add_mapping.ensures.taken rows ls w.0 held
    (form-bytes a.line.now _ w.0 _ k).0 w.1.1 w.1.2)

pub returns-in-Some-End-clause-taken : goal.returns-in-Some-End-clause-taken
returns-in-Some-End-clause-taken c =
    let a = c.args in
    λ rows ls held. asks_at limits _ _ _ _ _ _ _ (ap (mapping_asks limits (keys_in a.self.now.head) rows ls)
    (FormAs-coded_form (body_line_of a.line.now) _ (Some coded.End) c.read_mapping.ensures.0
    (c.in-Some-End.is ∙ ap (λ (m : Mapped). Some m) c.in-Some-End.field-0-is)))
    (c.take_end.ensures.taken rows ls held)
