-- A pick by its test.
use mathlib.Core.Path.{◌≡◌, refl}
use mathlib.Core.Bool.{Bool, true, false}
use Rattle.lists.specs.Pick.{pick}

-- what holds of both choices, each under its test, holds of the pick
pub pick-case : {A : Type 0} (P : A → Type 0) (t : Bool) (x y : A) → (t ≡ true → P x) → (t ≡ false → P y)
    → P (pick t x y)
pick-case P true x y f g = f refl
pick-case P false x y f g = g refl

-- the pick under a test that is known
pub pick_yes : {A : Type 0} (t : Bool) (x y : A) → t ≡ true → pick t x y ≡ x
pick_yes t x y e = rw e

pub pick_no : {A : Type 0} (t : Bool) (x y : A) → t ≡ false → pick t x y ≡ y
pick_no t x y e = rw e
