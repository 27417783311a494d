-- The mark that is due, and the close, as the functions go about them.
-- piece_behind-none, piece_behind-full, piece_behind-put   a call, by whether the mark is due and fits
-- close_in-kept, close_in-none, close_in-full, close_in-put   the close
use Rattle.std.specs.Prelude.{Option as Optional, Some, None}
use Rattle.utf.specs.declared.utf32.ByteOrder.{ByteOrder}
use mathlib.Core.Path.{◌≡◌, refl, sym, ap, ◌∙◌}
use Prim.Native.Nat.{ℕ, ◌-◌, ◌≤◌, ◌<◌}
use mathlib.Core.Bool.{Bool, true, false}
use mathlib.Core.List.{List, [], ◌∷◌}
use mathlib.Core.Option.{Option, none, some}
use native.Mathlib.Omega.{arith}
use borrow.Author.Tests.{le-leb, lt-leb}
use lib.Dec.{leb}
use lib.ListN.{length}
use Rattle.lists.specs.Pick.{pick}
use Rattle.lists.proofs.Laws.{clash}
use Rattle.lists.proofs.Cases.{pick_yes, pick_no}
use Rattle.utf.specs.Utf32.{mark_in}
use Rattle.utf.specs.declared.utf8.Stop.{Stop}
use Rattle.utf.specs.declared.utf8.Stop.TheVariants as stopped
use Rattle.utf.specs.declared.utf32.ByteOrder.TheVariants.{Big, Little}
use Rattle.utf.specs.declared.scheme.Scheme.{Scheme}
use Rattle.utf.specs.declared.scheme.Scheme.TheVariants as scheme
use Rattle.utf.proofs.Words.{length-encode_in}
use Rattle.table.specs.Codes.{bytes_of}
use Rattle.table.specs.Meaning.{Table}
use Rattle.table.proofs.Packing.{length-unpacked}
use Rattle.convert.specs.Pieces.{PieceRun, fresh, idle, piece_on, unless, state_at, step_in, due_in, due_state, past_due, led, piece_behind, close_bytes, close_in, mark_fits, is_nothing, stands_in, carry_in}
use Rattle.convert.specs.loops.Carried.{carry_of, is_due}
use Rattle.convert.specs.declared.RunEnd.TheVariants.{AllRead, OutputFull, Stopped}
use Rattle.convert.specs.declared.Settings.{Settings}
use Rattle.convert.specs.declared.pieces.Way.{Way}
use Rattle.convert.specs.declared.pieces.Way.TheVariants.{ToUnicode, FromUnicode}
use Rattle.convert.specs.declared.pieces.Kept.{Kept}

-- no answer stands
pub is_nothing⇒none : (s : Optional Stop) → is_nothing s ≡ true → stands_in s ≡ none
is_nothing⇒none None h = refl
is_nothing⇒none (Some w) h = absurd (clash h refl)

-- a mark that fits among others fits where nothing is kept
pub mark_fits-untouched : (way : Way) (e : Scheme) (b : Bool) (p : Optional ByteOrder) → mark_fits way e b p ≡ true → mark_fits way e true p ≡ true
mark_fits-untouched way scheme.Utf8 b p h = h
mark_fits-untouched way scheme.Utf32Be b p h = h
mark_fits-untouched way scheme.Utf32Le b p h = h
mark_fits-untouched FromUnicode scheme.Utf32 b p h = refl
mark_fits-untouched ToUnicode scheme.Utf32 b None h = refl
mark_fits-untouched ToUnicode scheme.Utf32 b (Some Big) h = refl
mark_fits-untouched ToUnicode scheme.Utf32 b (Some Little) h = absurd (clash h refl)

-- nothing is due, and the state stays
none-due : (way : Way) (e : Scheme) (p : Optional ByteOrder) → is_due way e p ≡ false → due_in way e (state_at p) ≡ []
none-due FromUnicode e p h = refl
none-due ToUnicode scheme.Utf8 None h = refl
none-due ToUnicode scheme.Utf32Be None h = refl
none-due ToUnicode scheme.Utf32Le None h = refl
none-due ToUnicode scheme.Utf32 None h = absurd (clash refl h)
none-due ToUnicode e (Some Big) h = refl
none-due ToUnicode e (Some Little) h = refl

none-moved : (way : Way) (e : Scheme) (p : Optional ByteOrder) → is_due way e p ≡ false → mark_fits way e true p ≡ true → due_state way e (state_at p) ≡ state_at p
none-moved FromUnicode e p h m = refl
none-moved ToUnicode scheme.Utf8 p h m = refl
none-moved ToUnicode scheme.Utf32Be p h m = refl
none-moved ToUnicode scheme.Utf32Le p h m = refl
none-moved ToUnicode scheme.Utf32 None h m = absurd (clash refl h)
none-moved ToUnicode scheme.Utf32 (Some Big) h m = refl
none-moved ToUnicode scheme.Utf32 (Some Little) h m = absurd (clash m refl)

-- the mark of plain UTF-32 is due
mark-due : (way : Way) (e : Scheme) (p : Optional ByteOrder) → is_due way e p ≡ true → due_in way e (state_at p) ≡ mark_in Big
mark-due FromUnicode e None h = absurd (clash h refl)
mark-due FromUnicode e (Some o) h = absurd (clash h refl)
mark-due ToUnicode scheme.Utf8 None h = absurd (clash h refl)
mark-due ToUnicode scheme.Utf32Be None h = absurd (clash h refl)
mark-due ToUnicode scheme.Utf32Le None h = absurd (clash h refl)
mark-due ToUnicode scheme.Utf32 None h = refl
mark-due ToUnicode e (Some o) h = absurd (clash h refl)

mark-moves : (way : Way) (e : Scheme) (p : Optional ByteOrder) → is_due way e p ≡ true → due_state way e (state_at p) ≡ state_at (Some Big)
mark-moves FromUnicode e None h = absurd (clash h refl)
mark-moves FromUnicode e (Some o) h = absurd (clash h refl)
mark-moves ToUnicode scheme.Utf8 None h = absurd (clash h refl)
mark-moves ToUnicode scheme.Utf32Be None h = absurd (clash h refl)
mark-moves ToUnicode scheme.Utf32Le None h = absurd (clash h refl)
mark-moves ToUnicode scheme.Utf32 None h = refl
mark-moves ToUnicode e (Some o) h = absurd (clash h refl)

pub length-mark : length (mark_in Big) ≡ 4
length-mark = length-encode_in Big 0xfeff

module _ (way : Way) (e : Scheme) (k : Kept) where
  abbrev due : List ℕ
  due = due_in way e (state_at k.mark)

  -- ## A call

  module _ (t : Table) (settings : Settings) (nothing : is_nothing k.standing ≡ true) (piece : List ℕ) (room : ℕ) where
    past : (st : ℕ) → due_state way e (state_at k.mark) ≡ st → past_due way e (carry_in k) ≡ record { bytes = bytes_of k.bytes; state = st; stands = none }
    past st q = λ i. record { bytes = bytes_of k.bytes; state = q i; stands = is_nothing⇒none k.standing nothing i }

    pub piece_behind-none : is_due way e k.mark ≡ false → mark_fits way e true k.mark ≡ true
        → piece_on (step_in way e t settings) (carry_of (bytes_of k.bytes) k.mark) piece room ≡ piece_behind way e t settings (carry_in k) piece room
    unfolding piece_behind
    piece_behind-none h m =
        let d = none-due way e k.mark h in
        let z : room - 0 ≡ room = omega arith in
        let l : leb (length due) room ≡ true = ap (λ (x : List ℕ). leb (length x) room) d ∙ le-leb 0 room (omega arith) in
        sym (pick_yes (leb (length due) room) _ _ l
        ∙ (λ i. led (d i) (piece_on (step_in way e t settings) (past _ (none-moved way e k.mark h m) i) piece (room - length (d i))))
        ∙ ap (piece_on (step_in way e t settings) (carry_of (bytes_of k.bytes) k.mark) piece) z)

    module _ (h : is_due way e k.mark ≡ true) where
      long : length due ≡ 4
      long = ap length (mark-due way e k.mark h) ∙ length-mark

      pub piece_behind-full : room < 4 → idle OutputFull (carry_in k) ≡ piece_behind way e t settings (carry_in k) piece room
      unfolding piece_behind
      piece_behind-full l = sym (pick_no (leb (length due) room) _ _ (lt-leb (length due) room (omega (arith, long))))

      pub piece_behind-put : 4 ≤ room
          → led (mark_in Big) (piece_on (step_in way e t settings) (carry_of (bytes_of k.bytes) (Some Big)) piece (room - 4)) ≡ piece_behind way e t settings (carry_in k) piece room
      unfolding piece_behind
      piece_behind-put l =
          sym (pick_yes (leb (length due) room) _ _ (le-leb (length due) room (omega (arith, long)))
          ∙ (λ i. led (mark-due way e k.mark h i) (piece_on (step_in way e t settings) (past _ (mark-moves way e k.mark h) i) piece (room - long i))))

  -- ## The close

  module _ (nothing : is_nothing k.standing ≡ true) (room : ℕ) where
    unstopped : close_in way e (carry_in k) room ≡ close_bytes due (carry_in k) (bytes_of k.bytes) room
    unfolding close_in
    unstopped = ap (λ (o : Option Stop). unless o (carry_in k) (close_bytes due (carry_in k) (bytes_of k.bytes) room)) (is_nothing⇒none k.standing nothing)

    some-kept : (s : List ℕ) → 0 < length s
        → close_bytes due (carry_in k) s room ≡ idle (Stopped stopped.CutShort) (record { bytes = bytes_of k.bytes; state = state_at k.mark; stands = some stopped.CutShort })
    some-kept [] h = absurd (omega arith)
    some-kept (b ∷ s) h = refl

    pub close_in-kept : 0 < k.bytes.len
        → idle (Stopped stopped.CutShort) (record { bytes = bytes_of k.bytes; state = state_at k.mark; stands = some stopped.CutShort }) ≡ close_in way e (carry_in k) room
    close_in-kept h = sym (unstopped ∙ some-kept (bytes_of k.bytes) (omega (arith, length-unpacked k.bytes.len k.bytes.bits)))

    module _ (empty : k.bytes.len ≤ 0) where
      none_kept : (s : List ℕ) → length s ≤ 0 → (d : List ℕ) → due ≡ d → (b : Bool) → leb (length d) room ≡ b → (r : PieceRun)
          → r ≡ pick b (record { end = AllRead; read = 0; bytes = d; carry = fresh }) (idle OutputFull (carry_in k))
          → r ≡ close_bytes due (carry_in k) s room
      none_kept (x ∷ s) l d q b f r z = absurd (omega arith)
      none_kept [] l d q b f r z =
          z ∙ ap (λ (y : Bool). pick y (record { end = AllRead; read = 0; bytes = d; carry = fresh }) (idle OutputFull (carry_in k))) (sym f)
          ∙ ap (λ (y : List ℕ). pick (leb (length y) room) (record { end = AllRead; read = 0; bytes = y; carry = fresh }) (idle OutputFull (carry_in k))) (sym q)

      by-due : (d : List ℕ) → due ≡ d → (b : Bool) → leb (length d) room ≡ b → (r : PieceRun)
          → r ≡ pick b (record { end = AllRead; read = 0; bytes = d; carry = fresh }) (idle OutputFull (carry_in k))
          → r ≡ close_in way e (carry_in k) room
      by-due d q b f r z = none_kept (bytes_of k.bytes) (omega (arith, length-unpacked k.bytes.len k.bytes.bits)) d q b f r z ∙ sym unstopped

      pub close_in-none : is_due way e k.mark ≡ false → idle AllRead fresh ≡ close_in way e (carry_in k) room
      close_in-none h = by-due [] (none-due way e k.mark h) true (le-leb 0 room (omega arith)) (idle AllRead fresh) refl

      pub close_in-full : is_due way e k.mark ≡ true → room < 4 → idle OutputFull (carry_in k) ≡ close_in way e (carry_in k) room
      close_in-full h l = by-due (mark_in Big) (mark-due way e k.mark h) false (lt-leb (length (mark_in Big)) room (omega (arith, length-mark))) (idle OutputFull (carry_in k)) refl

      pub close_in-put : is_due way e k.mark ≡ true → 4 ≤ room → ◌≡◌ {A = PieceRun} (record { end = AllRead; read = 0; bytes = mark_in Big; carry = fresh }) (close_in way e (carry_in k) room)
      close_in-put h l = by-due (mark_in Big) (mark-due way e k.mark h) true (le-leb (length (mark_in Big)) room (omega (arith, length-mark))) _ refl
