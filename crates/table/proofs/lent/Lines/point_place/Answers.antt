-- The index at the place that the search gives is that of the line that says what becomes of the code point, if one does
-- (point-first); the gap says whether the code point is another (point-past).
use Rattle.table.proofs.StoreLaws.{ok-codes, ok-infos, ok-order, ok-inside, ok-rising, point-large, point-past, point-first}
use Rattle.table.proofs.Places.{first-lengths}
use Rattle.table.proofs.Finding.{point_key, none-at, point_at}
use Rattle.table.proofs.Halving.{gap-inside}
use Rattle.table.specs.loops.Search.{GapAt, PointGap, point_place_in, picked}
use Rattle.table.specs.Valid.{store_ok}
use Rattle.lists.specs.Order.{All}
use lib.ListN.{take}
use mathlib.Core.List.{List}
use lib.Seq.{length-take-le}
use mathlib.Core.Path.{◌≡◌, subst}
use mathlib.Core.Bool.{true}
use Prim.Native.Nat.{ℕ, ◌<◌}
use native.Mathlib.Omega.{arith}
use Rattle.table.proofs.lent.Lines.point_place.Goals as goal
use Rattle.table.proofs.lent.Lines.point_place.Goals.{then-self-m-via-then-self-m, then-self-m-via-else-self-m+then-self-m-2, then-self-m-via-else-self-m+else-self-m-2+then-self-m-3, then-self-m-via-else-self-m+else-self-m-2+else-self-m-3+then-point-ge-RANK}

pub returns-then-self-m : goal.returns-then-self-m
returns-then-self-m c =
    let a = c.args in
    let codes = a.self.codes.now in
    let infos = a.self.infos.now in
    let order = a.self.order.now in (
      λ limit ok. elim c.then-self-m.branch [
        | then-self-m-via-then-self-m w ↦ absurd (omega (arith, w.if-self-m.true, ok-codes limit a.n codes infos order ok))
        | then-self-m-via-else-self-m+then-self-m-2 w ↦ absurd (omega (arith, w.if-self-m-2.true, ok-infos limit a.n codes infos order ok))
        | then-self-m-via-else-self-m+else-self-m-2+then-self-m-3 w ↦ absurd (omega (arith, w.if-self-m-3.true, ok-order limit a.n codes infos order ok))
        | then-self-m-via-else-self-m+else-self-m-2+else-self-m-3+then-point-ge-RANK w ↦ point-large limit a.n codes infos order ok a.point w.if-point-ge-RANK.true
      ],
      none-at a.point a.n codes infos,
    )

pub returns-then-spot-ne0 : goal.returns-then-spot-ne0
returns-then-spot-ne0 c =
    let n : ℕ = c.args.n in
    let codes : List ℕ = c.args.self.codes.now in
    let infos : List ℕ = c.args.self.infos.now in
    let order : List ℕ = c.args.self.order.now in
    let at : ℕ = c.first_of_point-spot.result.at in
    let point : ℕ = c.args.point in
    let first-is : (limit : ℕ) → store_ok limit n codes infos order ≡ true → at ≡ point_place_in (point_key point) (picked (take n codes) (take n infos) (take n order)) = λ limit ok. c.first_of_point-spot.ensures.2 (take n codes)
    (subst (λ (m : ℕ). All (λ k. k < m) (take n order)) (first-lengths n codes infos (omega arith) (omega arith))
    (ok-inside limit n codes infos order ok))
    (ok-rising limit n codes infos order ok) in
    let ended : GapAt (PointGap (take n infos) (take n order) point) n at c.first_of_point-spot.result.gap = subst (λ (m : ℕ). GapAt (PointGap (take n infos) (take n order) point) m at c.first_of_point-spot.result.gap)
    (length-take-le n order (omega arith)) c.first_of_point-spot.ensures.1 in
    let a = c.args in
    let q = c.first_of_point-spot.result in (
      λ limit ok. point-past limit a.n a.self.codes.now a.self.infos.now a.self.order.now ok a.point q.at q.gap (first-is limit ok) ended c.if-spot-ne0.true,
      none-at a.point a.n a.self.codes.now a.self.infos.now,
    )

pub returns : goal.returns
returns c =
    let at : ℕ = c.first_of_point-spot.result.at in
    let n : ℕ = c.args.n in
    let infos : List ℕ = c.args.self.infos.now in
    let order : List ℕ = c.args.self.order.now in
    let point : ℕ = c.args.point in
    let ended : GapAt (PointGap (take n infos) (take n order) point) n at c.first_of_point-spot.result.gap = subst (λ (m : ℕ). GapAt (PointGap (take n infos) (take n order) point) m at c.first_of_point-spot.result.gap)
    (length-take-le n order (omega arith)) c.first_of_point-spot.ensures.1 in
    let at-inside : c.first_of_point-spot.result.gap ≡ 0 → at < n = λ h. gap-inside _ _ _ ended.1 (omega arith) in
    let codes : List ℕ = c.args.self.codes.now in
    let first-is : (limit : ℕ) → store_ok limit n codes infos order ≡ true → at ≡ point_place_in (point_key point) (picked (take n codes) (take n infos) (take n order)) = λ limit ok. c.first_of_point-spot.ensures.2 (take n codes)
    (subst (λ (m : ℕ). All (λ k. k < m) (take n order)) (first-lengths n codes infos (omega arith) (omega arith))
    (ok-inside limit n codes infos order ok))
    (ok-rising limit n codes infos order ok) in
    let a = c.args in
    let at = c.first_of_point-spot.result.at in
    let h = at-inside c.if-spot-ne0.false in (
      λ limit ok. point-first limit a.n a.self.codes.now a.self.infos.now a.self.order.now ok a.point at (first-is limit ok) h,
      point_at a.point a.n a.self.codes.now a.self.infos.now a.self.order.now at (omega arith) (omega arith) h (omega arith)
          (subst (λ (g : ℕ). PointGap (take a.n a.self.infos.now) (take a.n a.self.order.now) a.point at g) c.if-spot-ne0.false (ended.0 h)),
    )
