use Rattle.std.specs.Prelude.{Some, None}
use Rattle.table.proofs.LineSteps.{same_taken, FormAs-coded_form, asks_at}
use Rattle.table.specs.declared.load.Phase.TheVariants.{Ended}
use Rattle.table.specs.declared.mapping.Mapped.{Mapped}
use Rattle.table.specs.declared.mapping.Mapped.TheVariants as coded
use Rattle.table.specs.Numbers.{lowest}
use Rattle.table.specs.Load.{last_asks}
use Rattle.table.specs.Mapping.{after_end_of}
use Rattle.table.specs.Limits.{limits}
use Rattle.table.specs.loops.Progress.{keys_in}
use mathlib.Core.Path.{refl, ap, ◌∙◌}
use Rattle.table.proofs.load.take_last.Goals as goal

pub returns-in-Some-Blank : goal.returns-in-Some-Blank
unfolding lowest
returns-in-Some-Blank c =
    λ h n rows ls m held. asks_at limits _ _ _ Ended h n m
    (ap (last_asks (keys_in h) rows ls) (FormAs-coded_form (after_end_of c.args.line.now) _ (Some coded.Blank)
    c.read_last.ensures (c.in-Some-Blank.is ∙ ap (λ (m : Mapped). Some m) c.in-Some-Blank.field-0-is)))
    (same_taken limits Ended Ended h n rows ls m refl held)

pub returns-in-Some-Reserved : goal.returns-in-Some-Reserved
unfolding lowest
returns-in-Some-Reserved c =
    λ h n rows ls m held. asks_at limits _ _ _ Ended h n m
    (ap (last_asks (keys_in h) rows ls) (FormAs-coded_form (after_end_of c.args.line.now) _ (Some coded.Reserved)
    c.read_last.ensures (c.in-Some-Reserved.is ∙ ap (λ (m : Mapped). Some m) c.in-Some-Reserved.field-0-is))) refl

pub returns-in-None : goal.returns-in-None
unfolding lowest
returns-in-None c =
    λ h n rows ls m held. asks_at limits _ _ _ Ended h n m
    (ap (last_asks (keys_in h) rows ls) (FormAs-coded_form (after_end_of c.args.line.now) _ None
    c.read_last.ensures c.in-None.is)) refl

pub returns-in-Some-End : goal.returns-in-Some-End
unfolding lowest
returns-in-Some-End c =
    λ h n rows ls m held. asks_at limits _ _ _ Ended h n m
    (ap (last_asks (keys_in h) rows ls) (FormAs-coded_form (after_end_of c.args.line.now) _ (Some coded.End)
    c.read_last.ensures (c.in-Some-End.is ∙ ap (λ (m : Mapped). Some m) c.in-Some-End.field-0-is))) refl

pub returns-in-Some-Line : goal.returns-in-Some-Line
unfolding lowest
returns-in-Some-Line c =
    let w = FormAs-coded_form (after_end_of c.args.line.now) _ _ c.read_last.ensures
    (c.in-Some-Line.is ∙ ap (λ (m : Mapped). Some m) c.in-Some-Line.field-0-is) in
    λ h n rows ls m held. asks_at limits _ _ _ Ended h n m (ap (last_asks (keys_in h) rows ls) w.1.0) refl
