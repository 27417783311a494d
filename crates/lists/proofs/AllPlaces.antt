-- What holds at every place of a list holds of every element.
use mathlib.Core.List.{List, [], ◌∷◌}
use Prim.Native.Nat.{ℕ, zero, suc}
use lib.ListN.{get_or}
use Rattle.lists.specs.Order.{All}

pub All-get_d⁺ : {A : Type 0} (P : A → Type 0) (l : List A) (d : A) → ((i : ℕ) → P (get_or l i d)) → All P l
All-get_d⁺ P [] d h = tt
All-get_d⁺ P (x ∷ l) d h = (h zero, All-get_d⁺ P l d (λ i. h (suc i)))
