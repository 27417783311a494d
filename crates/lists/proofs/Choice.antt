-- Tests put together: conjunctions, disjunctions and implications, as picks.
use mathlib.Core.Path.{◌≡◌, refl, sym, ap, ◌∙◌}
use mathlib.Core.Bool.{Bool, true, false, not}
use Rattle.lists.specs.Pick.{pick}
use Rattle.lists.proofs.Laws.{clash}
use Prim.Native.Nat.{ℕ, zero, suc}
use native.Mathlib.Omega.{arith}
use lib.Dec.{ltb, eqb}
use borrow.Author.Tests.{lt-ltb, ne_eqb}

-- each holds where the other does
pub ⇔⇒≡ : (a b : Bool) → (a ≡ true → b ≡ true) → (b ≡ true → a ≡ true) → a ≡ b
⇔⇒≡ true b f g = sym (f refl)
⇔⇒≡ false true f g = g refl
⇔⇒≡ false false f g = refl

-- both choices are the same
pub pick-false-false : (a : Bool) → pick a false false ≡ false
pick-false-false true = refl
pick-false-false false = refl

pub pick-true-true : (a : Bool) → pick a true true ≡ true
pick-true-true true = refl
pick-true-true false = refl

pub pick-true-false : (a : Bool) → pick a true false ≡ a
pick-true-false true = refl
pick-true-false false = refl

pub and_comm : (a b : Bool) → pick a b false ≡ pick b a false
and_comm true true = refl
and_comm true false = refl
and_comm false true = refl
and_comm false false = refl

pub and-absorb : (a x y : Bool) → (y ≡ true → x ≡ true) → pick a y false ≡ pick (pick a x false) y false
and-absorb true true y h = refl
and-absorb true false true h = absurd (clash (h refl) refl)
and-absorb true false false h = refl
and-absorb false x y h = refl

pub and-swap-right : (a x y : Bool) → pick (pick a y false) x false ≡ pick (pick a x false) y false
and-swap-right true true true = refl
and-swap-right true true false = refl
and-swap-right true false true = refl
and-swap-right true false false = refl
and-swap-right false x y = refl

-- two pairs of tests, paired the other way
pub and-interchange : (a b c d : Bool)
    → pick (pick a b false) (pick c d false) false ≡ pick (pick a c false) (pick b d false) false
and-interchange true true c d = refl
and-interchange true false true d = refl
and-interchange true false false d = refl
and-interchange false b c d = refl

-- asked where one of two tests holds: asked where each holds
pub or-implies : (a b x : Bool) → pick (pick a true b) x true ≡ pick (pick a x true) (pick b x true) false
or-implies true true true = refl
or-implies true true false = refl
or-implies true false true = refl
or-implies true false false = refl
or-implies false true x = refl
or-implies false false x = refl

-- five tests in a row, by pairs
pub not-not-and-regroup : (a b c d e : Bool)
    → not (not (pick a (pick b (pick c (pick d e false) false) false) false)) ≡ pick a (pick (pick b c false) (pick d e false) false) false
not-not-and-regroup true true true true true = refl
not-not-and-regroup true true true true false = refl
not-not-and-regroup true true true false e = refl
not-not-and-regroup true true false d e = refl
not-not-and-regroup true false c d e = refl
not-not-and-regroup false b c d e = refl

-- a positive number, and one that is not 0
pub ltb-0-implies : (n : ℕ) (x : Bool) → pick (ltb 0 n) x true ≡ pick (eqb n 0) true x
ltb-0-implies zero x = refl
ltb-0-implies (suc n) x =
    ap (λ (b : Bool). pick b x true) (lt-ltb 0 (suc n) (omega arith))
    ∙ sym (ap (λ (b : Bool). pick b true x) (ne_eqb (suc n) 0 (λ e. omega arith)))
