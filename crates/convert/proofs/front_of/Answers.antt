-- A scheme with no mark is its side; plain UTF-32 is read behind its mark, or in big-endian order.
use Rattle.std.specs.Prelude.{Option, Some}
use mathlib.Core.Path.{◌≡◌, sym, ap, ◌∙◌}
use Prim.Native.Nat.{ℕ}
use mathlib.Core.List.{List, []}
use lib.ListN.{drop}
use Rattle.utf.specs.Scheme.{Side, side_of}
use Rattle.utf.specs.declared.utf32.ByteOrder.{ByteOrder}
use Rattle.utf.specs.declared.scheme.Scheme.{Scheme}
use Rattle.utf.proofs.FourBytes.{mark_at⇒long}
use Rattle.convert.specs.Run.{Run, after}
use Rattle.convert.specs.Convert.{behind_mark, read_in}
use Rattle.convert.proofs.Marked.{side_of-ordered_by}
use Rattle.convert.proofs.front_of.Goals as goal

pub returns : goal.returns
returns c =
    let order : ByteOrder = c.in-Some.byte_order in
    let plain : (m : Option ByteOrder) → c.mark_at.result ≡ m → (run : Side → List ℕ → ℕ → Run) → (room : ℕ) → let a = c.args in read_in a.scheme run a.input.now room ≡ behind_mark m run a.input.now room = λ m e run room. let s = c.args.input.now in
    ap (λ (x : Scheme). read_in x run s room) c.in-Utf32.is
    ∙ ap (λ (x : Option ByteOrder). behind_mark x run s room) (sym c.mark_at.ensures ∙ e) in
    let s = c.args.input.now in
    let u = ap side_of c.from.ensures ∙ side_of-ordered_by order in (
      mark_at⇒long order s (sym c.mark_at.ensures ∙ c.in-Some.is),
      λ run room. plain (Some order) c.in-Some.is run room
          ∙ ap (λ (v : Side). after 4 [] (run v (drop 4 s) room)) (sym u),
    )
