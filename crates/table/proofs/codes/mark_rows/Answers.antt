use mathlib.Core.Path.{◌≡◌, refl, ◌∙◌, ap}
use mathlib.Core.Bool.{Bool, true, false}
use native.Mathlib.Omega.{arith}
use lib.ListN.{length-set}
use mir.Val.{bool_byte}
use Rattle.lists.specs.Pick.{pick}
use Rattle.table.specs.States.{step_at}
use Rattle.table.proofs.Marks.{marked-so-far-none, marked-so-far-step, marked-so-far-all}
use Rattle.table.proofs.codes.mark_rows.Goals as goal

byte-of : (t : Bool) → bool_byte t ≡ pick t 1 0
byte-of true = refl
byte-of false = refl

pub loop-i-init : goal.loop-i-init
loop-i-init c =
    (refl, marked-so-far-none (step_at c.args.states.now))

pub loop-i-preserved : goal.loop-i-preserved
loop-i-preserved c =
    let l = c.loop-i in (
      simp length-set l.invariant.0,
      marked-so-far-step (step_at c.args.states.now) l.marks l.i c.from.result l.invariant.0 (omega arith) (omega arith)
          l.invariant.1 (c.from.ensures ∙ byte-of c.is_productive-productive.result ∙ ap (λ (t : Bool). pick t 1 0) c.is_productive-productive.ensures),
    )

pub returns : goal.returns
returns c =
    marked-so-far-all (step_at c.args.states.now) c.loop-i.marks c.loop-i.i
    c.loop-i.invariant.0 (omega arith) c.loop-i.invariant.1
