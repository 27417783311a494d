use mathlib.Core.Path.{◌≡◌, sym, ◌∙◌}
use mathlib.Core.Bool.{true, false}
use mathlib.Core.List.{[], ◌∷◌, append-nil}
use Prim.Native.Nat.{◌+◌, ◌-◌}
use native.Mathlib.Omega.{arith}
use lib.Dec.{eqb}
use borrow.Author.Tests.{ne_eqb}
use lib.ListN.{length, take, drop, get_or, length-drop}
use Rattle.table.specs.Text.{cr_before}
use Rattle.table.proofs.LinesLaws.{not-cr, cr-first, cr-rest, cr-more}
use Rattle.lists.proofs.Parts.{take-drop-snoc}
use lib.Seq.{drop-drop}
use Rattle.lists.proofs.Laws.{tests, drop-∷, drop_past}
use Rattle.table.specs.loops.Coded.{first_line, rest_lines}
use Rattle.table.proofs.text.cut_line.Goals as goal

pub returns-then-text-stop-eq10 : goal.returns-then-text-stop-eq10
unfolding first_line rest_lines
returns-then-text-stop-eq10 c =
    let l = c.loop-stop in
    let t = c.args.text.now in
    let e : first_line (drop l.stop t) ≡ [] = search (tests, drop-∷) in
    let f : rest_lines (drop l.stop t) ≡ drop (l.stop + 1) t = search (tests, drop-∷) in
    (sym (l.invariant.0 ∙ rw (e, append-nil)), sym (l.invariant.1 ∙ f), omega arith, omega arith, omega arith, omega arith)

pub returns-then-cr_before : goal.returns-then-cr_before
unfolding first_line rest_lines
returns-then-cr_before c =
    let l = c.loop-stop in
    let t = c.args.text.now in
    let h : cr_before (get_or t l.stop 0) (drop (l.stop + 1) t) ≡ true = sym c.cr_before.ensures ∙ c.if-cr_before.true in
    let s = drop-∷ t l.stop c.loop-stop-test.true in
    let k : l.stop + 1 + 1 ≡ l.stop + 2 = omega arith in
    let e : first_line (drop l.stop t) ≡ [] = rw s (search (tests, h, cr-first _ _ h)) in
    let f : rest_lines (drop l.stop t) ≡ drop (l.stop + 2) t = rw s (search (tests, cr-rest _ _ h, drop-drop, k)) in (
      sym (l.invariant.0 ∙ rw (e, append-nil)),
      sym (l.invariant.1 ∙ f),
      omega arith,
      omega arith,
      omega arith,
      omega (
        arith,
        cr-more _ _ h,
        length-drop (l.stop + 1) t,
      ),
    )

pub loop-stop-preserved-then-text-stop-gt13 : goal.loop-stop-preserved-then-text-stop-gt13
unfolding first_line rest_lines
loop-stop-preserved-then-text-stop-gt13 c =
    let l = c.loop-stop in
    let t = c.args.text.now in
    let b = get_or t l.stop 0 in
    let lt = c.loop-stop-test.true in
    let n : eqb b 10 ≡ false = ne_eqb b 10 (λ e. omega (arith, e, c.if-text-stop-gt13.true)) in
    let h : cr_before b (drop (l.stop + 1) t) ≡ false =
    not-cr b _ (ne_eqb b 13 (λ e. omega (arith, e, c.if-text-stop-gt13.true))) in
    let s = drop-∷ t l.stop lt in
    let e : first_line (drop l.stop t) ≡ b ∷ first_line (drop (l.stop + 1) t) = rw s (search (tests, n, h)) in
    let f : rest_lines (drop l.stop t) ≡ rest_lines (drop (l.stop + 1) t) = rw s (search (tests, n)) in
    (l.invariant.0 ∙ rw e (sym (take-drop-snoc t _ _ l.stop l.auto.stop lt)), l.invariant.1 ∙ f)

pub loop-stop-preserved : goal.loop-stop-preserved
unfolding first_line rest_lines
loop-stop-preserved c =
    let l = c.loop-stop in
    let t = c.args.text.now in
    let lt = c.loop-stop-test.true in
    let h : cr_before (get_or t l.stop 0) (drop (l.stop + 1) t) ≡ false = sym c.cr_before.ensures ∙ c.if-cr_before.false in
    let s = drop-∷ t l.stop lt in
    let e : first_line (drop l.stop t) ≡ get_or t l.stop 0 ∷ first_line (drop (l.stop + 1) t) = rw s (search (tests, h)) in
    let f : rest_lines (drop l.stop t) ≡ rest_lines (drop (l.stop + 1) t) = rw s (search tests) in
    (l.invariant.0 ∙ rw e (sym (take-drop-snoc t _ _ l.stop l.auto.stop lt)), l.invariant.1 ∙ f)

pub returns : goal.returns
unfolding first_line rest_lines
returns c =
    let l = c.loop-stop in
    let t = c.args.text.now in
    let k : l.stop ≡ length t = omega arith in
    let e : first_line (drop l.stop t) ≡ [] = search drop_past in
    let f : rest_lines (drop l.stop t) ≡ drop l.stop t = search drop_past in
    let a : take (l.stop - c.args.at) (drop c.args.at t) ≡ first_line (drop c.args.at t) = sym (l.invariant.0 ∙ rw (e, append-nil)) in
    let b : drop l.stop t ≡ rest_lines (drop c.args.at t) = sym (l.invariant.1 ∙ f) in (
      rw k at a,
      rw k at b,
      omega arith,
      omega arith,
      omega arith,
      omega arith,
    )
