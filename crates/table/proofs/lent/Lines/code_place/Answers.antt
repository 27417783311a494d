-- The place that the search gives is that of the line that reads the code, if one does (code-first), and the gap says whether it does
-- (gap-found).
use Rattle.table.proofs.Finding.{code_key, code-none, code-first, gap-behind, gap-found}
use Rattle.table.specs.loops.Search.{reads_code, FirstAt, GapAt, CodeGap}
use lib.ListN.{take}
use lib.Seq.{length-take-le}
use mathlib.Core.Path.{sym, subst}
use Prim.Native.Nat.{ℕ}
use native.Mathlib.Omega.{arith}
use Rattle.table.proofs.lent.Lines.code_place.Goals as goal
use Rattle.table.proofs.lent.Lines.code_place.Goals.{then-self-m-via-then-self-m, then-self-m-via-else-self-m+then-self-m-2, then-self-m-via-else-self-m+else-self-m-2+then-code-lt1, then-self-m-via-else-self-m+else-self-m-2+else-code-lt1+then-code-gt4}

pub returns-then-self-m : goal.returns-then-self-m
returns-then-self-m c =
    let a = c.args in
    let codes = a.self.codes.now in
    let infos = a.self.infos.now in (
      λ r cl il few. elim c.then-self-m.branch [
        | then-self-m-via-then-self-m w ↦ absurd (omega (arith, w.if-self-m.true))
        | then-self-m-via-else-self-m+then-self-m-2 w ↦ absurd (omega (arith, w.if-self-m-2.true))
        | then-self-m-via-else-self-m+else-self-m-2+then-code-lt1 w ↦ subst (λ (k : ℕ). FirstAt (reads_code a.code.bits a.code.len) a.n codes infos k) (sym c.behind.ensures.0)
            (code-none a.code.bits a.code.len a.n codes infos w.if-code-lt1.true)
        | then-self-m-via-else-self-m+else-self-m-2+else-code-lt1+then-code-gt4 w ↦ absurd (omega (arith, w.if-code-gt4.true))
      ],
      gap-behind a.code.bits a.code.len a.n codes infos _ _ c.behind.ensures.0 c.behind.ensures.1,
    )

pub returns : goal.returns
returns c =
    let a = c.args in
    let p = c.place in
    let bits = a.code.bits in
    let len = a.code.len in
    let at = p.result.at in (
      λ r cl il few. code-first a.n a.self.codes.now a.self.infos.now cl il bits len at r (p.ensures.2 r),
      gap-found bits len a.n a.self.codes.now a.self.infos.now at p.result.gap (omega arith) (omega arith) (omega arith) (omega arith)
          p.ensures.3
          (subst (λ (m : ℕ). GapAt (CodeGap (take a.n a.self.codes.now) (take a.n a.self.infos.now) (code_key bits len)) m at p.result.gap)
          (length-take-le a.n a.self.codes.now (omega arith)) p.ensures.1),
    )
