-- The partial line that memory holds, by its count; and the line at the input's end.
use Rattle.std.proofs.Common.{◌≡◌, ℕ, ◌<◌, ◌≤◌, true, false, List, [], ◌∷◌, length, take, sym, refl, ap, ◌∙◌, append-nil, arith, length-take-le, le-leb, eqb, eqb-true}
use borrow.Author.Tests.{lt-leb}
use Rattle.lists.proofs.Laws.{clash}
use Rattle.frames.specs.Stream.{InputLine, whole, too_long, last_line, partial_in, partial_of}
use Rattle.std.specs.Option.{option_eq}
use Rattle.frames.specs.Report.{lines_report}
use Rattle.std.specs.Prelude.{Option as Returned, Some, None}

module _ (line : List ℕ) (n : ℕ) where
  pub partial-past : length line < n → partial_in line (Some n) ≡ too_long
  unfolding partial_in
  partial-past l = simp (lt-leb n (length line) l)

  pub partial-whole : n ≤ length line → partial_in line (Some n) ≡ whole (take n line)
  unfolding partial_in
  partial-whole l = simp (le-leb n (length line) l)

  -- the count stands for itself
  pub count-stands : n ≤ length line → Some n ≡ partial_of (partial_in line (Some n))
  unfolding partial_of
  count-stands l = ap Some (sym (length-take-le n line l)) ∙ sym (ap partial_of (partial-whole l))

-- the count of an empty line, as the code tests it
pub count-empty : (p : Returned ℕ) → true ≡ option_eq eqb p (Some 0) → p ≡ Some 0
count-empty None e = let z : ◌≡◌ {A = ℕ} 0 1 = cc in absurd (omega arith)
count-empty (Some n) e = ap Some (eqb-true n 0 (sym e))

pub count-filled : (p : Returned ℕ) → false ≡ option_eq eqb p (Some 0) → p ≡ Some 0 → ⊥
count-filled p e q = clash (ap (λ (x : Returned ℕ). option_eq eqb x (Some 0)) q) (sym e)

-- a line that does not have the count of an empty one is not empty
pub count-is-some : (l : InputLine) (p : Returned ℕ) → p ≡ partial_of l → (p ≡ Some 0 → ⊥) → (l ≡ whole [] → ⊥)
unfolding partial_of
count-is-some l p e h q = h (e ∙ ap partial_of q)

-- a line that has bytes is the last one
pub last_some : (write : InputLine → List ℕ) (l : InputLine) → (l ≡ whole [] → ⊥) → lines_report write (last_line l) ≡ write l
unfolding lines_report
last_some write (whole []) h = absurd (h refl)
last_some write (whole (b ∷ s)) h = append-nil (write (whole (b ∷ s)))
last_some write too_long h = append-nil (write too_long)

pub last_none : (write : InputLine → List ℕ) (l : InputLine) → l ≡ whole [] → lines_report write (last_line l) ≡ []
unfolding lines_report
last_none write l e = rw e
