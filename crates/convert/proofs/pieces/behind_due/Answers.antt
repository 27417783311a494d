-- The mark where it is due, and the piece.
use Rattle.std.specs.Prelude.{Some}
use mathlib.Core.Path.{◌≡◌, sym, ap, ◌∙◌}
use Prim.Native.Nat.{ℕ, ◌+◌, ◌-◌, ◌≤◌}
use mathlib.Core.Bool.{true}
use mathlib.Core.List.{List}
use native.Mathlib.Omega.{arith}
use borrow.Author.Tests.{leb-true, leb-false}
use lib.ListN.{length, take, drop, length-append, length-drop}
use Rattle.lists.specs.Place.{fits, placed}
use Rattle.lists.proofs.Cases.{pick_yes, pick_no}
use Rattle.lists.proofs.Parts.{take_drop_all}
use Rattle.utf.specs.Utf32.{mark_in}
use Rattle.utf.specs.declared.utf32.ByteOrder.TheVariants.{Big}
use Rattle.table.specs.Codes.{bytes_of}
use Rattle.table.specs.Meaning.{Table}
use Rattle.convert.specs.Run.{Run, put_bytes}
use Rattle.convert.specs.Pieces.{PieceRun, led, piece_on, pieced_of, step_in}
use Rattle.convert.specs.loops.Carried.{is_due, carry_of}
use Rattle.convert.specs.declared.RunEnd.TheVariants.{AllRead, OutputFull}
use Rattle.convert.specs.declared.pieces.PieceEnd.TheVariants.{Ended}
use Rattle.convert.proofs.Marked.{drop-marked, put-behind}
use Rattle.convert.proofs.KeptForms.{kept_as-carry_in}
use Rattle.convert.proofs.PieceDue.{length-mark, piece_behind-none, piece_behind-full, piece_behind-put}
use Rattle.convert.proofs.pieces.behind_due.Goals as goal

pub returns-then-not-is_due : goal.returns-then-not-is_due
returns-then-not-is_due c =
    let table : Table = c.args.table.now in
    let old : List ℕ = c.args.out.now in
    let a = c.args in
    let e = piece_behind-none a.way a.scheme a.kept table a.settings c.requires.1 a.input.now (length old)
    (sym c.is_due.ensures ∙ c.if-not-is_due.true) c.requires.2 in
    (c.through.ensures.0 ∙ ap pieced_of e, c.through.ensures.1 ∙ ap (λ (r : PieceRun). put_bytes r.bytes old) e)

pub returns-then-not-put_mark : goal.returns-then-not-put_mark
returns-then-not-put_mark c =
    let old : List ℕ = c.args.out.now in
    let table : Table = c.args.table.now in
    let due : let a = c.args in is_due a.way a.scheme a.kept.mark ≡ true = sym c.is_due.ensures ∙ c.if-not-is_due.false in
    let a = c.args in
    let f = sym c.put_mark.ensures.answer ∙ c.if-not-put_mark.true in
    let l = leb-false (0 + length (mark_in Big)) (length old) f in
    let e = piece_behind-full a.way a.scheme a.kept table a.settings c.requires.1 a.input.now (length old) due (omega (arith, l, length-mark)) in (
      c.idle.ensures
          ∙ (λ i. record { end = Ended OutputFull; read = 0; written = 0; kept = sym (kept_as-carry_in a.kept c.requires.0) i })
          ∙ ap pieced_of e,
      c.put_mark.ensures.written ∙ pick_no _ _ _ f ∙ ap (λ (r : PieceRun). put_bytes r.bytes old) e,
    )

pub slice_bounds-through-count : goal.slice_bounds-through-count
slice_bounds-through-count c =
    let old : List ℕ = c.args.out.now in
    let fits_in : fits old 0 (mark_in Big) ≡ true = sym c.put_mark.ensures.answer ∙ c.if-not-put_mark.false in
    let room : 4 ≤ length old = omega (arith, leb-true (0 + length (mark_in Big)) (length old) fits_in, length-mark) in
    let new : List ℕ = c.put_mark.new.out in
    let same : length new ≡ length old = c.put_mark.auto.out in
    omega (arith, room, same)

pub slice_bounds-through-start : goal.slice_bounds-through-start
slice_bounds-through-start c =
    let old : List ℕ = c.args.out.now in
    let fits_in : fits old 0 (mark_in Big) ≡ true = sym c.put_mark.ensures.answer ∙ c.if-not-put_mark.false in
    let room : 4 ≤ length old = omega (arith, leb-true (0 + length (mark_in Big)) (length old) fits_in, length-mark) in
    let new : List ℕ = c.put_mark.new.out in
    let same : length new ≡ length old = c.put_mark.auto.out in
    omega (arith, room, same)

pub returns : goal.returns
returns c =
    let table : Table = c.args.table.now in
    let old : List ℕ = c.args.out.now in
    let rest : PieceRun = let a = c.args in
    piece_on (step_in a.way a.scheme table a.settings) (carry_of (bytes_of a.kept.bytes) (Some Big)) a.input.now (length old - 4) in
    let new : List ℕ = c.put_mark.new.out in
    let fits_in : fits old 0 (mark_in Big) ≡ true = sym c.put_mark.ensures.answer ∙ c.if-not-put_mark.false in
    let put : new ≡ placed old 0 (mark_in Big) = c.put_mark.ensures.written ∙ pick_yes _ _ _ fits_in in
    let part : take (length new - 4) (drop 4 new) ≡ drop 4 old = take_drop_all new 4 ∙ drop-marked (mark_in Big) 4 length-mark old new put in
    let gave : (c.through-done.result ≡ pieced_of rest) × (c.through-done.new.out ≡ put_bytes rest.bytes (drop 4 old)) = let a = c.args in
    let p = part in
    let q : piece_on (step_in a.way a.scheme table a.settings) (carry_of (bytes_of a.kept.bytes) (Some Big)) a.input.now
    (length (take (length new - 4) (drop 4 new))) ≡ rest =
    ap (λ (x : List ℕ). piece_on (step_in a.way a.scheme table a.settings) (carry_of (bytes_of a.kept.bytes) (Some Big)) a.input.now (length x)) p
    ∙ ap (piece_on (step_in a.way a.scheme table a.settings) (carry_of (bytes_of a.kept.bytes) (Some Big)) a.input.now) (length-drop 4 old) in
    (c.through-done.ensures.0 ∙ ap pieced_of q, c.through-done.ensures.1 ∙ (λ i. put_bytes (q i).bytes (p i))) in
    let due : let a = c.args in is_due a.way a.scheme a.kept.mark ≡ true = sym c.is_due.ensures ∙ c.if-not-is_due.false in
    let room : 4 ≤ length old = omega (arith, leb-true (0 + length (mark_in Big)) (length old) fits_in, length-mark) in
    let same : length new ≡ length old = c.put_mark.auto.out in
    let a = c.args in
    let g = gave in
    let r : Run = record { end = AllRead; read = 0; bytes = rest.bytes; state = 0 } in
    let z = piece_behind-put a.way a.scheme a.kept table a.settings c.requires.1 a.input.now (length old) due room in
    let long : length rest.bytes + 4 ≡ length (led (mark_in Big) rest).bytes = omega (arith, length-append (mark_in Big) rest.bytes, length-mark) in (
      (λ i. record { end = (g.0 i).end; read = (g.0 i).read; written = (g.0 i).written + 4; kept = (g.0 i).kept })
          ∙ ap (λ (n : ℕ). record { end = (pieced_of rest).end; read = rest.read; written = n; kept = (pieced_of rest).kept }) long
          ∙ ap pieced_of z,
      put-behind (mark_in Big) 4 length-mark old new put r (length new - 4) _ (omega (arith, room, same)) g.1
          ∙ ap (λ (x : PieceRun). put_bytes x.bytes old) z,
    )
