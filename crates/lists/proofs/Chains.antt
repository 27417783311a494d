-- Chains of tests: `a implies b` that fails or holds, `if a then false else b` that holds, `a or b` that fails.
use mathlib.Core.Path.{◌≡◌, refl}
use mathlib.Core.Bool.{Bool, true, false}
use Rattle.lists.specs.Pick.{pick}
use Rattle.lists.proofs.Laws.{clash}

-- none fails
pub implies-no-left : (a b : Bool) → pick a b true ≡ false → a ≡ true
implies-no-left true b e = refl
implies-no-left false b e = absurd (clash refl e)

pub implies-no-right : (a b : Bool) → pick a b true ≡ false → b ≡ false
implies-no-right true b e = e
implies-no-right false b e = absurd (clash refl e)

pub implies-no : (a b : Bool) → a ≡ true → b ≡ false → pick a b true ≡ false
implies-no a b p q = rw (p, q)

-- and holds
pub implies-right : (a b : Bool) → pick a b true ≡ true → a ≡ true → b ≡ true
implies-right true b e p = e
implies-right false b e p = absurd (clash p refl)

pub implies-yes : (a b : Bool) → (a ≡ true → b ≡ true) → pick a b true ≡ true
implies-yes true b f = f refl
implies-yes false b f = refl

-- and one that gives false where a test holds: none holds
pub unless-left : (a b : Bool) → pick a false b ≡ true → a ≡ false
unless-left true b e = absurd (clash e refl)
unless-left false b e = refl

pub unless-right : (a b : Bool) → pick a false b ≡ true → b ≡ true
unless-right true b e = absurd (clash e refl)
unless-right false b e = e

pub unless-yes : (a b : Bool) → a ≡ false → b ≡ true → pick a false b ≡ true
unless-yes a b p q = rw (p, q)

-- and one that gives true where a test holds: none holds
pub or-no-left : (a b : Bool) → pick a true b ≡ false → a ≡ false
or-no-left true b e = e
or-no-left false b e = refl

pub or-no-right : (a b : Bool) → pick a true b ≡ false → b ≡ false
or-no-right true b e = absurd (clash refl e)
or-no-right false b e = e

pub or_no : (a b : Bool) → a ≡ false → b ≡ false → pick a true b ≡ false
or_no a b p q = rw (p, q)
