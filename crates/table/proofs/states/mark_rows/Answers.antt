-- Invariant: all cells pass exactly if those from i on do; the marks are those of the cells before i.
use Prim.Native.Nat.{ℕ, ◌-◌, ◌*◌}
use mathlib.Core.Path.{◌≡◌, refl, sym, ap, ◌∙◌}
use native.Mathlib.Omega.{arith}
use mathlib.Core.Bool.{Bool, true, false}
use mathlib.Core.List.{List}
use Rattle.std.specs.Prelude.{Some}
use lib.ListN.{get_or, take, length-set}
use Rattle.table.specs.Limits.{limits}
use Rattle.table.specs.Cells.{cell_step}
use Rattle.lists.specs.Tests.{all_of}
use Rattle.table.specs.Valid.{state_ok}
use Rattle.table.proofs.CellLaws.{cell-far}
use Rattle.table.proofs.RowLaws.{small-ok, free-bad, far-bad, near-ok, small-never}
use Rattle.lists.proofs.Tests.{all_of-turn, all_of-end}
use Rattle.table.proofs.Marking.{seen_none, seen_skip, seen-mark, seen_all}
use Rattle.table.proofs.states.mark_rows.Goals as goal

pub loop-i-init : goal.loop-i-init
loop-i-init c =
    let l = c.args.states.now in
    let a = c.args in
    let e : a.rows * 256 - 0 ≡ a.rows * 256 = omega arith in
    (ap (λ (n : ℕ). all_of (state_ok a.rows) (take n l)) e, seen_none (limits.rows * limits.rows) l, refl)

pub loop-i-preserved-then-e-le3 : goal.loop-i-preserved-then-e-le3
loop-i-preserved-then-e-le3 c =
    let q = c.loop-i in
    let l = c.args.states.now in
    let a = c.args in
    let e : ℕ = get_or l q.i 0 in (
      sym (all_of-turn (state_ok a.rows) l q.i (a.rows * 256) (omega arith) (omega arith)
          ∙ rw (small-ok a.rows e c.if-e-le3.true))
          ∙ q.invariant.0,
      seen_skip q.marks l q.i (λ k. small-never k e c.if-e-le3.true) q.invariant.1,
      q.invariant.2,
    )

pub returns-then-e-le-LEADS : goal.returns-then-e-le-LEADS
returns-then-e-le-LEADS c =
    let q = c.loop-i in
    let l = c.args.states.now in
    let a = c.args in
    let e : ℕ = get_or l q.i 0 in
    let bad : false ≡ all_of (state_ok a.rows) (take (a.rows * 256) l) =
    sym (all_of-turn (state_ok a.rows) l q.i (a.rows * 256) (omega arith) (omega arith)
    ∙ rw (free-bad a.rows e (omega arith) (omega arith))) ∙ q.invariant.0 in
    rw (sym bad)

pub returns-then-count-k : goal.returns-then-count-k
returns-then-count-k c =
    let q = c.loop-i in
    let l = c.args.states.now in
    let a = c.args in
    let e : ℕ = get_or l q.i 0 in
    let bad : false ≡ all_of (state_ok a.rows) (take (a.rows * 256) l) =
    sym (all_of-turn (state_ok a.rows) l q.i (a.rows * 256) (omega arith) (omega arith)
    ∙ rw (far-bad a.rows e (omega arith) (omega arith))) ∙ q.invariant.0 in
    rw (sym bad)

pub loop-i-preserved : goal.loop-i-preserved
loop-i-preserved c =
    let q = c.loop-i in
    let l = c.args.states.now in
    let a = c.args in
    let e : ℕ = get_or l q.i 0 in (
      sym (all_of-turn (state_ok a.rows) l q.i (a.rows * 256) (omega arith) (omega arith)
          ∙ rw (near-ok a.rows e (omega arith) (omega arith)))
          ∙ q.invariant.0,
      seen-mark q.marks l q.i (e - 16) q.invariant.2 (omega arith) (omega arith)
          (ap cell_step (cell-far e (omega arith))) q.invariant.1,
      simp length-set q.invariant.2,
    )

pub returns : goal.returns
returns c =
    let q = c.loop-i in
    let l = c.args.states.now in
    let a = c.args in
    let e : q.i ≡ a.rows * 256 = omega arith in
    let good : true ≡ all_of (state_ok a.rows) (take (a.rows * 256) l) =
    sym (all_of-end (state_ok a.rows) l q.i (a.rows * 256) (omega arith)) ∙ q.invariant.0 in
    rw (sym good) (ap (λ (m : List Bool). Some m) (seen_all q.marks l a.rows q.invariant.2 (rw e at q.invariant.1)))
