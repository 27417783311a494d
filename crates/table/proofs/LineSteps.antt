-- A line's outcome: what is answered, and what the memory holds then, whatever part of the text is read.
use Rattle.std.specs.Prelude.{Option, Result, Ok, Err, IsErrAnd, ⊤}
use Prim.Native.Nat.{ℕ}
use mathlib.Core.Path.{◌≡◌, refl, sym, ap, subst, ◌∙◌}
use mathlib.Core.List.{List}
use lib.ListN.{drop}
use Rattle.table.specs.Limits.{Limits, needed}
use Rattle.table.specs.Cells.{Cell}
use Rattle.table.specs.Meaning.{Line}
use Rattle.table.specs.Slices.{Slices, slices, Lent}
use Rattle.table.specs.declared.load.Loader.{Loader}
use native.Mathlib.Omega.{arith}
use Rattle.table.specs.Mapping.{BodyLine}
use Rattle.table.specs.loops.Coded.{FormAs}
use Rattle.table.specs.Numbers.{lowest, Verdict}
use Rattle.table.specs.Load.{Reading, goes_on, judged, reading, Asks, judged_by}
use Rattle.table.specs.loops.Progress.{keys_in, Holding, Beyond, StepTaken, slices_in, SameSlices}
use Rattle.table.specs.declared.header.Head.{Head}
use Rattle.table.specs.declared.mapping.Mapped.{Mapped}
use Rattle.table.specs.declared.load.Refusal.{Refusal}
use Rattle.table.specs.declared.load.Phase.{Phase}

-- what `?` hands on
pub handed_on : (r : Result ⊤ Refusal) (x : Refusal) → IsErrAnd r (λ y. y ≡ x) → r ≡ Err x
handed_on (Ok u) x e = absurd e
handed_on (Err y) x e = ap (λ (z : Refusal). Err z) e

module _ (lim : Limits) where
  -- a line that is refused, and one that is let through
  pub refused-taken : (v : Verdict) (g : Reading) (x : Refusal) (p : Phase) (h : Head) (n : ℕ) (m : Slices) → v ≡ Err x
      → StepTaken lim (judged v g) (Err x) p h n m
  refused-taken v g x p h n m e = subst (λ (w : Verdict). StepTaken lim (judged w g) (Err x) p h n m) (sym e) refl

  pub fine-taken : (v : Verdict) (g : Reading) (p : Phase) (h : Head) (n : ℕ) (m : Slices) → v ≡ Ok tt → p ≡ g.phase → keys_in h ≡ g.head
      → Holding lim h n g.rows g.lines m → StepTaken lim (judged v g) (Ok tt) p h n m
  fine-taken v g p h n m e f k held = subst (λ (w : Verdict). StepTaken lim (judged w g) (Ok tt) p h n m) (sym e) (refl, f, k, held)

  -- a line that gives nothing
  pub same_taken : (p q : Phase) (h : Head) (n : ℕ) (rows : List (List Cell)) (ls : List Line) (m : Slices) → q ≡ p → Holding lim h n rows ls m
      → StepTaken lim (goes_on (reading p (keys_in h) rows ls)) (Ok tt) q h n m
  same_taken p q h n rows ls m e held = (refl, e, refl, held)

  -- a line by what it asks
  pub asks_at : (a x : Asks) (r : Result ⊤ Refusal) (p : Phase) (h : Head) (n : ℕ) (m : Slices) → a ≡ x
      → StepTaken lim (judged_by lowest x) r p h n m → StepTaken lim (judged_by lowest a) r p h n m
  asks_at a x r p h n m e k = subst (λ (y : Asks). StepTaken lim (judged_by lowest y) r p h n m) (sym e) k

-- slices that are not written
pub unchanged : (lim : Limits) (m : Slices) → Beyond lim m m
unchanged lim m = record { states-rest = refl; codes-rest = refl; infos-rest = refl; order-rest = refl }

pub beyond-states : (lim : Limits) (s s' c i o : List ℕ) → drop (needed lim) s' ≡ drop (needed lim) s → Beyond lim (slices s c i o) (slices s' c i o)
beyond-states lim s s' c i o e = record { states-rest = e; codes-rest = refl; infos-rest = refl; order-rest = refl }

pub beyond-trans : (lim : Limits) (a b c : Slices) → Beyond lim a b → Beyond lim b c → Beyond lim a c
beyond-trans lim a b c x y =
    record {
      states-rest = y.states-rest ∙ x.states-rest;
      codes-rest = y.codes-rest ∙ x.codes-rest;
      infos-rest = y.infos-rest ∙ x.infos-rest;
      order-rest = y.order-rest ∙ x.order-rest;
    }

-- slices that are a caller's own, and what it knows of their lengths
pub same-trans : (a b c : Loader) → SameSlices a b → SameSlices b c → SameSlices a c
same-trans a b c x y = (y.0 ∙ x.0, y.1 ∙ x.1, y.2 ∙ x.2, y.3 ∙ x.3, y.4 ∙ x.4, y.5 ∙ x.5, y.6 ∙ x.6, y.7 ∙ x.7)

pub same-lent : (lim : Limits) (a b : Loader) → SameSlices a b → Lent lim (slices_in a) → Lent lim (slices_in b)
same-lent lim a b x l =
    record {
      states-long = omega (arith, x.4, l.states-long);
      codes-long = omega (arith, x.5, l.codes-long);
      infos-long = omega (arith, x.6, l.infos-long);
      order-long = omega (arith, x.7, l.order-long);
    }

-- a form by what the code holds of it
pub FormAs-coded_form : (f : BodyLine) (m x : Option Mapped) → FormAs m f → m ≡ x → FormAs x f
FormAs-coded_form f m x e q = subst (λ (y : Option Mapped). FormAs y f) q e
