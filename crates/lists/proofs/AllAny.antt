-- Tests of a list: of every element (all_true, true-all), of none (any_none), of some element, by the first that is found, in the sorted
-- list, of images (any-first, any-sorted, any-map).
use mathlib.Core.Path.{◌≡◌, refl, ap, ◌∙◌}
use mathlib.Core.Bool.{Bool, true, false}
use mathlib.Core.Option.{Option, some}
use mathlib.Core.List.{List, [], ◌∷◌, map}
use Rattle.lists.specs.Pick.{pick}
use Rattle.lists.specs.Order.{All, sort, first_of}
use Rattle.lists.proofs.Order.{In-sort⁺, In-sort⁻}
use Rattle.lists.proofs.Choice.{⇔⇒≡}
use Rattle.lists.proofs.Laws.{and_yes, and_left, and_right}
use Rattle.lists.specs.Tests.{all_of, any_of}
use Rattle.lists.proofs.Tests.{any_of⇒In, In⇒any_of}
use Rattle.lists.specs.Options.{is_some}

-- of every element
module _ {A : Type 0} (f : A → Bool) where
  pub all_true : (l : List A) → all_of f l ≡ true → All (λ x. f x ≡ true) l
  unfolding all_of
  all_true [] h = tt
  all_true (x ∷ l) h = (and_left (f x) (all_of f l) h, all_true l (and_right (f x) (all_of f l) h))

  pub true-all : (l : List A) → All (λ x. f x ≡ true) l → all_of f l ≡ true
  unfolding all_of
  true-all [] h = refl
  true-all (x ∷ l) h = and_yes (f x) (all_of f l) h.0 (true-all l h.1)

  -- of none
  pub any_none : (l : List A) → All (λ x. f x ≡ false) l → any_of f l ≡ false
  unfolding any_of
  any_none [] h = refl
  any_none (x ∷ l) h = rw h.0 (any_none l h.1)

-- of some element, by the first that is found
pub any-by : {A : Type 0} (t : Bool) (x : A) (r : Bool) (o : Option A)
    → r ≡ is_some o
    → pick t true r ≡ is_some (pick t (some x) o)
any-by true x r o e = refl
any-by false x r o e = e

pub any-first : {A : Type 0} (f g : A → Bool) → ((x : A) → f x ≡ g x) → (l : List A) → any_of f l ≡ is_some (first_of g l)
unfolding any_of first_of
any-first f g h [] = refl
any-first f g h (x ∷ l) =
    ap (λ (t : Bool). pick t true (any_of f l)) (h x) ∙ any-by (g x) x (any_of f l) (first_of g l) (any-first f g h l)

-- of some element of the sorted list
pub any-sorted : {A : Type 0} (less : A → A → Bool) (f : A → Bool) (l : List A) → any_of f (sort less l) ≡ any_of f l
any-sorted less f l =
    ⇔⇒≡ (any_of f (sort less l)) (any_of f l)
    (λ h. let r = any_of⇒In f (sort less l) h in In⇒any_of f r.0 l (In-sort⁻ less r.0 l r.1.0) r.1.1)
    (λ h. let r = any_of⇒In f l h in In⇒any_of f r.0 (sort less l) (In-sort⁺ less r.0 l r.1.0) r.1.1)

-- of some image
pub any-map : {A B : Type 0} (e : A → B) (f : B → Bool) (g : A → Bool) (l : List A)
    → All (λ x. f (e x) ≡ g x) l
    → any_of f (map e l) ≡ any_of g l
unfolding any_of
any-map e f g [] h = refl
any-map e f g (x ∷ l) h = (λ t. pick (h.0 t) true (any-map e f g l h.1 t))
