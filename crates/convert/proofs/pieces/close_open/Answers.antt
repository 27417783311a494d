-- By what is kept, whether the mark is due, and whether it fits.
use Rattle.std.specs.Prelude.{Some}
use mathlib.Core.Path.{◌≡◌, sym, ap, ◌∙◌}
use Prim.Native.Nat.{ℕ, ◌+◌, ◌≤◌}
use mathlib.Core.Bool.{true}
use mathlib.Core.List.{List, ◌++◌}
use native.Mathlib.Omega.{arith}
use borrow.Author.Tests.{leb-true, leb-false}
use lib.ListN.{length, drop}
use Rattle.lists.proofs.Cases.{pick_yes, pick_no}
use Rattle.utf.specs.Utf32.{mark_in}
use Rattle.utf.specs.declared.utf32.ByteOrder.TheVariants.{Big}
use Rattle.utf.specs.declared.utf8.Stop.TheVariants as stopped
use native.Mathlib.Nat.{zero-add}
use Rattle.convert.specs.Run.{put_bytes}
use Rattle.convert.specs.Pieces.{PieceRun, close_in, pieced_of, carry_in}
use Rattle.convert.specs.loops.Carried.{is_due}
use Rattle.convert.specs.declared.RunEnd.TheVariants.{AllRead, OutputFull, Stopped}
use Rattle.convert.specs.declared.pieces.PieceEnd.TheVariants.{Ended}
use Rattle.convert.proofs.KeptForms.{code_of-bytes_of, place_at-state_at, kept_as-carry_in, kept_as-fresh}
use Rattle.convert.proofs.PieceDue.{length-mark, close_in-kept, close_in-none, close_in-full, close_in-put}
use Rattle.convert.proofs.pieces.close_open.Goals as goal

pub returns-then-bytes-gt0 : goal.returns-then-bytes-gt0
returns-then-bytes-gt0 c =
    let a = c.args in
    let k = a.kept in
    let e = close_in-kept a.way a.scheme k c.requires.1 (length a.out.now) c.if-bytes-gt0.true in (
      c.idle.ensures
          ∙ (λ i. record {
            end = Ended (Stopped stopped.CutShort);
            read = 0;
            written = 0;
            kept = record { bytes = sym (code_of-bytes_of k.bytes c.requires.0) i; mark = sym (place_at-state_at k.mark) i; standing = Some stopped.CutShort };
          })
          ∙ ap pieced_of e,
      ap (λ (r : PieceRun). put_bytes r.bytes a.out.now) e,
    )

pub returns-then-not-is_due : goal.returns-then-not-is_due
returns-then-not-is_due c =
    let old : List ℕ = c.args.out.now in
    let empty : c.args.kept.bytes.len ≤ 0 = omega (arith, c.if-bytes-gt0.false) in
    let put-close : (x : PieceRun) → let a = c.args in x ≡ close_in a.way a.scheme (carry_in a.kept) (length old) → put_bytes x.bytes old ≡ put_bytes (close_in a.way a.scheme (carry_in a.kept) (length old)).bytes old = λ x e. ap (λ (r : PieceRun). put_bytes r.bytes old) e in
    let a = c.args in
    let e = close_in-none a.way a.scheme a.kept c.requires.1 (length old) empty (sym c.is_due.ensures ∙ c.if-not-is_due.true) in (
      c.idle-then-not-is_due.ensures ∙ (λ i. record { end = Ended AllRead; read = 0; written = 0; kept = sym kept_as-fresh i }) ∙ ap pieced_of e,
      put-close _ e,
    )

pub returns-then-not-put_mark : goal.returns-then-not-put_mark
returns-then-not-put_mark c =
    let old : List ℕ = c.args.out.now in
    let empty : c.args.kept.bytes.len ≤ 0 = omega (arith, c.if-bytes-gt0.false) in
    let due : let a = c.args in is_due a.way a.scheme a.kept.mark ≡ true = sym c.is_due.ensures ∙ c.if-not-is_due.false in
    let put-close : (x : PieceRun) → let a = c.args in x ≡ close_in a.way a.scheme (carry_in a.kept) (length old) → put_bytes x.bytes old ≡ put_bytes (close_in a.way a.scheme (carry_in a.kept) (length old)).bytes old = λ x e. ap (λ (r : PieceRun). put_bytes r.bytes old) e in
    let a = c.args in
    let f = sym c.put_mark.ensures.answer ∙ c.if-not-put_mark.true in
    let l = leb-false (0 + length (mark_in Big)) (length old) f in
    let e = close_in-full a.way a.scheme a.kept c.requires.1 (length old) empty due (omega (arith, l, length-mark)) in (
      c.idle-then-not-put_mark.ensures
          ∙ (λ i. record { end = Ended OutputFull; read = 0; written = 0; kept = sym (kept_as-carry_in a.kept c.requires.0) i })
          ∙ ap pieced_of e,
      c.put_mark.ensures.written ∙ pick_no _ _ _ f ∙ put-close _ e,
    )

pub returns : goal.returns
returns c =
    let old : List ℕ = c.args.out.now in
    let empty : c.args.kept.bytes.len ≤ 0 = omega (arith, c.if-bytes-gt0.false) in
    let due : let a = c.args in is_due a.way a.scheme a.kept.mark ≡ true = sym c.is_due.ensures ∙ c.if-not-is_due.false in
    let put-close : (x : PieceRun) → let a = c.args in x ≡ close_in a.way a.scheme (carry_in a.kept) (length old) → put_bytes x.bytes old ≡ put_bytes (close_in a.way a.scheme (carry_in a.kept) (length old)).bytes old = λ x e. ap (λ (r : PieceRun). put_bytes r.bytes old) e in
    let placed_by : List ℕ → ℕ → List ℕ = λ o n. mark_in Big ++ drop n o in
    let a = c.args in
    let f = sym c.put_mark.ensures.answer ∙ c.if-not-put_mark.false in
    let l = leb-true (0 + length (mark_in Big)) (length old) f in
    let e = close_in-put a.way a.scheme a.kept c.requires.1 (length old) empty due (omega (arith, l, length-mark)) in (
      (λ i. record { end = Ended AllRead; read = 0; written = sym length-mark i; kept = sym kept_as-fresh i }) ∙ ap pieced_of e,
      c.put_mark.ensures.written ∙ pick_yes _ _ _ f ∙ ap (λ (n : ℕ). placed_by old n) (zero-add (length (mark_in Big))) ∙ put-close _ e,
    )
