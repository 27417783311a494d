-- Invariant: the indices before k are renumbered, the others as they were.
use Rattle.lists.proofs.Place.{get_d-bumped, set-bumped, map-bump-none, get_d-take-<}
use Rattle.lists.specs.Place.{bump}
use lib.ListN.{length, take, get_or, length-set, take-append-drop}
use native.Mathlib.Omega.{arith}
use Prim.Native.Nat.{ℕ, ◌<◌}
use mathlib.Core.List.{List}
use mathlib.Core.Path.{sym, ap, ◌∙◌}
use Rattle.table.proofs.store.renumber.Goals as goal

pub returns-then-n-at : goal.returns-then-n-at
returns-then-n-at c =
    let a = c.args in
    sym (rw (map-bump-none a.n a.at (take a.n a.order.now) c.if-n-at.true c.requires.2) (take-append-drop a.n a.order.now))

pub bump_index-requires : goal.bump_index-requires
bump_index-requires c =
    let a = c.args in
    let l = c.loop-k in
    let h : l.k < length a.order.now = omega arith in
    let g = ap (λ (m : List ℕ). get_or m l.k 0) l.invariant.0 ∙ get_d-bumped a.at l.k a.order.now h in
    omega (arith, g, c.requires.1, get_d-take-< a.n l.k a.order.now c.requires.0 c.requires.2 c.loop-k-test.true)

pub loop-k-preserved : goal.loop-k-preserved
loop-k-preserved c =
    let a = c.args in
    let l = c.loop-k in
    let h : l.k < length a.order.now = omega arith in
    let g = ap (λ (m : List ℕ). get_or m l.k 0) l.invariant.0 ∙ get_d-bumped a.at l.k a.order.now h in (
      set-bumped a.at l.k a.order.now h l.order _ l.invariant.0
          (c.bump_index.ensures ∙ ap (bump a.at) g),
      omega arith,
      length-set l.order l.k _ ∙ l.invariant.2,
    )
