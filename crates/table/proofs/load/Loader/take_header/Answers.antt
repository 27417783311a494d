use Rattle.std.specs.Prelude.{Some}
use Rattle.table.specs.declared.header.HeaderLine.{HeaderLine}
use Rattle.table.proofs.LineSteps.{asks_at, same_taken}
use Rattle.table.proofs.HeaderLaws.{known-range}
use Rattle.table.specs.Numbers.{lowest}
use Rattle.table.specs.Limits.{limits}
use Rattle.table.specs.loops.Progress.{keys_in, Holding}
use Rattle.table.specs.loops.Progress.{slices_in}
use Rattle.table.specs.declared.load.Phase.TheVariants.{Header}
use Rattle.table.specs.Load.{header_asks}
use Rattle.table.specs.loops.Ranges.{InLine}
use Prim.Native.Nat.{ℕ}
use mathlib.Core.List.{[]}
use mathlib.Core.Path.{refl, sym, ap, subst, ◌∙◌}
use Rattle.table.proofs.load.Loader.take_header.Goals as goal

pub take_key-requires-clause-value : goal.take_key-requires-clause-value
unfolding InLine
take_key-requires-clause-value c =
    let w = rw (c.in-Some-Known.is ∙ ap (λ (x : HeaderLine). Some x) c.in-Some-Known.field-0-is) at c.read_line.ensures.1 in (
      w.0,
      w.1,
      known-range c.args.line.now _ _ _ _
          (sym c.read_line.ensures.0 ∙ c.in-Some-Known.is ∙ ap (λ (x : HeaderLine). Some x) c.in-Some-Known.field-0-is),
    )

pub returns-in-None-clause-taken : goal.returns-in-None-clause-taken
unfolding lowest
returns-in-None-clause-taken c =
    let a = c.args in
    λ rows held. asks_at limits _ _ _ _ _ _ _
    (ap (header_asks limits (keys_in a.self.now.head) rows a.line.now)
    (sym c.read_line.ensures.0 ∙ c.in-None.is)) refl

pub returns-in-Some-Blank-clause-taken : goal.returns-in-Some-Blank-clause-taken
unfolding lowest
returns-in-Some-Blank-clause-taken c =
    let a = c.args in
    let l = a.self.now in
    let m = slices_in l in
    λ rows held. asks_at limits _ _ _ _ _ _ _
    (ap (header_asks limits (keys_in l.head) rows a.line.now)
    (sym c.read_line.ensures.0 ∙ c.in-Some-Blank.is ∙ ap (λ (x : HeaderLine). Some x) c.in-Some-Blank.field-0-is))
    (same_taken limits Header _ l.head _ rows [] m c.requires.header.phase
    (subst (λ (k : ℕ). Holding limits l.head k rows [] m) (sym c.requires.header.none-yet) held))
