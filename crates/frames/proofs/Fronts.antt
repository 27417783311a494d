-- What was put at the front of a slice can be taken from there.
use Rattle.std.proofs.Common.{◌≡◌, ℕ, ◌+◌, ◌≤◌, List, ◌++◌, length, take, drop, ap, ◌∙◌, zero-add, arith, le-leb, leb-true}
use lib.Seq.{take-append_seam}
use Rattle.lists.specs.Place.{fits, placed}
use Rattle.lists.proofs.Cases.{pick-case}
use Rattle.frames.specs.Lines.{room_after, put_into, put_count}

module _ (old text : List ℕ) where
  -- a text at the front of a slice that has room for it
  pub put_front : length text ≤ length old → put_into old 0 text ≡ text ++ drop (length text) old
  unfolding put_into
  put_front b = simp (zero-add, le-leb (length text) (length old) b)

  pub front-taken : length text ≤ length old → (n : ℕ) (new : List ℕ) → n ≡ length text → new ≡ put_into old 0 text → take n new ≡ text
  front-taken b n new e w = (λ i. take (e i) (w i)) ∙ ap (take (length text)) (put_front b) ∙ take-append_seam text (drop (length text) old)

  -- the answer of a function that counts what it put
  pub front-counted : length text ≤ length old → put_count old text ≡ length text
  unfolding put_count room_after
  front-counted b = simp (zero-add, le-leb (length text) (length old) b)

  pub counted-taken : length text ≤ length old → (n : ℕ) (new : List ℕ) → (n ≡ put_count old text) × (new ≡ put_into old 0 text)
      → take n new ≡ text
  counted-taken b n new w = front-taken b n new (w.0 ∙ front-counted b) w.1

  -- a text that is no longer than the slice is afterwards had room
  pub had-room : length text ≤ length (put_into old 0 text) → length text ≤ length old
  unfolding put_into
  had-room =
      pick-case (λ (s : List ℕ). length text ≤ length s → length text ≤ length old) (fits old 0 text) (placed old 0 text) old
      (λ t b. omega (arith, leb-true (0 + length text) (length old) t)) (λ t b. b)
