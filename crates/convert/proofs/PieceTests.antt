-- The tests behind 42, one by one, as the functions make them.
use Rattle.std.specs.Prelude.{None}
use Rattle.std.specs.Prelude.{Option}
use Rattle.utf.specs.declared.utf32.ByteOrder.{ByteOrder}
use mathlib.Core.Path.{◌≡◌, refl, sym, ap, ◌∙◌}
use Prim.Native.Nat.{ℕ}
use mathlib.Core.Bool.{Bool, true, false}
use mathlib.Core.List.{List, [], ◌∷◌}
use native.Mathlib.Omega.{arith}
use borrow.Author.Tests.{ne_eqb}
use lib.Dec.{eqb}
use lib.ListN.{length, get_or}
use Rattle.lists.specs.Between.{between}
use Rattle.lists.specs.Pick.{◌and◌}
use Rattle.lists.proofs.Laws.{clash}
use Rattle.lists.proofs.Cases.{pick_yes, pick_no, pick-case}
use Rattle.utf.specs.Utf32.{mark_at}
use Rattle.utf.specs.declared.scheme.Scheme.{Scheme}
use Rattle.table.specs.States.{Rows}
use Rattle.table.specs.Codes.{bytes_of}
use Rattle.convert.specs.Pieces.{trailing, begun, is_held, is_nothing, mark_fits, stands_fit, kept_fits}
use Rattle.convert.specs.loops.Carried.{place_behind, plain_after}
use Rattle.convert.specs.declared.Settings.{Settings}
use Rattle.convert.specs.declared.pieces.Way.{Way}
use Rattle.convert.specs.declared.pieces.Kept.{Kept}

-- trail bytes, by how many there are
pub trailing-one : (s : List ℕ) → length s ≡ 1 → trailing s ≡ between 0x80 0xbf (get_or s 0 0)
trailing-one [] h = absurd (omega arith)
trailing-one (a ∷ []) h = refl
trailing-one (a ∷ b ∷ s) h = absurd (omega arith)

pub trailing-two : (s : List ℕ) → length s ≡ 2 → trailing s ≡ (between 0x80 0xbf (get_or s 0 0) and between 0x80 0xbf (get_or s 1 0))
trailing-two [] h = absurd (omega arith)
trailing-two (a ∷ []) h = absurd (omega arith)
trailing-two (a ∷ b ∷ []) h = refl
trailing-two (a ∷ b ∷ c ∷ s) h = absurd (omega arith)

pub trailing-none : (s : List ℕ) → (length s ≡ 1 → ⊥) → (length s ≡ 2 → ⊥) → trailing s ≡ false
trailing-none [] h k = refl
trailing-none (a ∷ []) h k = absurd (h refl)
trailing-none (a ∷ b ∷ []) h k = absurd (k refl)
trailing-none (a ∷ b ∷ c ∷ s) h k = refl

-- the mark, where something is read
pub plain_after-read : (s : List ℕ) (n : ℕ) (m : Option ByteOrder) → (n ≡ 0 → ⊥) → mark_at s ≡ m → place_behind m ≡ plain_after None s n
plain_after-read s n m h e = sym (pick_no (eqb n 0) _ _ (ne_eqb n 0 h) ∙ ap place_behind e)

-- the test behind 42, by its parts
module _ (way : Way) (e : Scheme) (rows : Rows) (settings : Settings) (k : Kept) where
  abbrev untouched : Bool
  untouched = eqb k.bytes.len 0 and is_nothing k.standing

  abbrev marks : Bool
  marks = mark_fits way e untouched k.mark

  abbrev answers : Bool
  answers = stands_fit way e k.bytes.len k.standing

  abbrev begins : Bool
  begins = begun way e rows settings.skip (bytes_of k.bytes)

  pub kept_fits-held : is_held k.bytes ≡ false → false ≡ kept_fits way e rows settings k
  unfolding kept_fits
  kept_fits-held h = sym (pick_no (is_held k.bytes) _ _ h)

  module _ (held : is_held k.bytes ≡ true) where
    fits-held : kept_fits way e rows settings k ≡ (marks and answers and begins)
    unfolding kept_fits
    fits-held = pick_yes (is_held k.bytes) _ _ held

    pub kept_fits-mark : marks ≡ false → false ≡ kept_fits way e rows settings k
    kept_fits-mark h = sym (fits-held ∙ pick_no marks _ _ h)

    module _ (marked : marks ≡ true) where
      pub kept_fits-stands : answers ≡ false → false ≡ kept_fits way e rows settings k
      kept_fits-stands h = sym (fits-held ∙ pick_yes marks _ _ marked ∙ pick_no answers _ _ h)

      pub kept_fits-begun : answers ≡ true → begins ≡ kept_fits way e rows settings k
      kept_fits-begun h = sym (fits-held ∙ pick_yes marks _ _ marked ∙ pick_yes answers _ _ h)

  -- a state that fits is held
  pub kept_fits⇒is_held : kept_fits way e rows settings k ≡ true → is_held k.bytes ≡ true
  unfolding kept_fits
  kept_fits⇒is_held =
      pick-case (λ (b : Bool). b ≡ true → is_held k.bytes ≡ true) (is_held k.bytes) (marks and answers and begins) false
      (λ h q. h)
      (λ h q. absurd (clash q refl))

  -- and its mark fits
  pub kept_fits⇒mark_fits : kept_fits way e rows settings k ≡ true → marks ≡ true
  unfolding kept_fits
  kept_fits⇒mark_fits =
      pick-case (λ (b : Bool). b ≡ true → marks ≡ true) (is_held k.bytes) (marks and answers and begins) false
      (λ h. pick-case (λ (b : Bool). b ≡ true → marks ≡ true) marks (answers and begins) false (λ m q. m) (λ m q. absurd (clash q refl)))
      (λ h q. absurd (clash q refl))

  -- and what stands fits
  pub kept_fits⇒stands_fit : kept_fits way e rows settings k ≡ true → answers ≡ true
  unfolding kept_fits
  kept_fits⇒stands_fit =
      pick-case (λ (b : Bool). b ≡ true → answers ≡ true) (is_held k.bytes) (marks and answers and begins) false
      (λ h. pick-case (λ (b : Bool). b ≡ true → answers ≡ true) marks (answers and begins) false
      (λ m. pick-case (λ (b : Bool). b ≡ true → answers ≡ true) answers begins false (λ a q. a) (λ a q. absurd (clash q refl)))
      (λ m q. absurd (clash q refl)))
      (λ h q. absurd (clash q refl))
