use mathlib.Core.Path.{ap, ◌∙◌}
use mathlib.Core.List.{List}
use Prim.Native.Nat.{ℕ}
use lib.Dec.{lit<}
use Rattle.table.specs.States.{step_at}
use Rattle.table.specs.Codes.{bytes_of, next_of}
use Rattle.table.specs.loops.Marks.{next_marked}
use Rattle.table.specs.Meaning.{Table, steps_of}
use Rattle.table.specs.Held.{memory_of}
use Rattle.table.proofs.Between.{next-code}
use Rattle.table.proofs.HeldMemory.{next-is-next}
use Rattle.table.proofs.lent.Codes.after.Goals as goal

pub returns-clause-next : goal.returns-clause-next
returns-clause-next c =
    let l = c.self.inside.lent in
    let p = bytes_of c.args.position in
    c.next_code.ensures
    ∙ ap (λ (k : List ℕ). next_marked k (step_at l.states.now) 0 p) c.self.invariant.1
    ∙ next-is-next l.rec (memory_of l) c.self.invariant.0 0 (lit< tt) p
    ∙ ap (λ (t : Table). next_of (steps_of t) 0 p) c.self.view_is

pub returns-clause-code : goal.returns-clause-code
returns-clause-code c =
    let t = c.args.self.now in
    next-code (steps_of t) 0 (bytes_of c.args.position) c.next_code.result (returns-clause-next c)
