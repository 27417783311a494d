-- Paging through a rising list: one call, with an allowance and a space, from a position. Lists of calls: Calls.antt.
-- A is what is looked at, E an entry, P a position.
use Rattle.std.specs.Prelude.{ℕ, zero, suc, ◌≡◌, Bool, true, false, not, ◌⊎◌}
use Rattle.std.proofs.Math.Option.{Option, none, some}
use mathlib.Core.List.{List, [], ◌∷◌, map, head?}
use Rattle.lists.specs.Order.{All, In, Rising, filtered}
use Rattle.lists.specs.Options.{is_none}

-- the position before every element, whether an element comes after a position, an element's own position,
-- its entry if it needs one, and the first element after a position
pub record Pageable (A E P : Type 0) : Type 0 where
  pub start : P
  pub after : P → A → Bool
  pub at : A → P
  pub note : A → Option E
  pub next : P → Option A

-- what a call hands back: its entries, how many elements it looked at, the last one's position, whether none is left
pub record Page (E P : Type 0) : Type 0 where
  pub entries : List E
  pub count : ℕ
  pub position : P
  pub finished : Bool

-- the same page with its position represented in another way
abbrev pub map_position : {E P Q : Type 0} → (P → Q) → Page E P → Page E Q
map_position g a = record { entries = a.entries; count = a.count; position = g a.position; finished = a.finished }

-- the same page with its entries represented in another way
abbrev pub map_entries : {E F P : Type 0} → (E → F) → Page E P → Page F P
map_entries f a =
    record { entries = map f a.entries; count = a.count; position = a.position; finished = a.finished }

-- an entry, if there is one, before others
abbrev pub put : {E : Type 0} → Option E → List E → List E
put none l = l
put (some e) l = e ∷ l

abbrev pub stopped_at : {E P : Type 0} → P → Bool → Page E P
stopped_at p f = record { entries = []; count = 0; position = p; finished = f }

-- one more element was looked at
abbrev pub counted : {E P : Type 0} → Option E → Page E P → Page E P
counted e a =
    record { entries = put e a.entries; count = suc a.count; position = a.position; finished = a.finished }

module _ {A E P : Type 0} (S : Pageable A E P) where
  -- those that come after a position, and those up to and including it
  abbrev pub following : P → List A → List A
  following p l = filtered (S.after p) l

  abbrev pub up_to : P → List A → List A
  up_to p l = filtered (λ a. not (S.after p a)) l

  -- the entries of a list's elements
  unfoldable pub entries_for : List A → List E
  entries_for [] = []
  entries_for (a ∷ l) = put (S.note a) (entries_for l)

  -- an element with its entry: it needs none; or there is no space for it; or there is. `go` is the rest of the call
  abbrev pub look_at : P → A → Option E → ℕ → (ℕ → P → Page E P) → Page E P
  look_at p a none space go = counted none (go space (S.at a))
  look_at p a (some e) zero go = stopped_at p false
  look_at p a (some e) (suc space) go = counted (some e) (go space (S.at a))

  abbrev pub look : P → Option A → ℕ → (ℕ → P → Page E P) → Page E P
  look p none space go = stopped_at p true
  look p (some a) space go = look_at p a (S.note a) space go

  -- one call, by its allowance, its space and its position
  unfoldable pub page_from : ℕ → ℕ → P → Page E P
  page_from zero space p = stopped_at p (is_none (S.next p))
  page_from (suc n) space p = look p (S.next p) space (page_from n)

  -- a position of a list: the start, or the position of one of its elements
  abbrev pub Reached : List A → P → Type 0
  Reached L p = (x : A) × In x L × (p ≡ S.at x)

  abbrev pub Place : List A → P → Type 0
  Place L p = (p ≡ S.start) ⊎ Reached L p

-- the elements of a listing: they rise, and `next` finds the first of them after a position
pub record Enumerates {A E P : Type 0} (S : Pageable A E P) (L : List A) : Type 0 where
  pub rising : Rising (λ a b. S.after (S.at a) b) L
  pub irrefl : (a : A) → S.after (S.at a) a ≡ false
  pub trans : (p : P) (a b : A) → S.after p a ≡ true → S.after (S.at a) b ≡ true → S.after p b ≡ true
  pub next-is : (p : P) → S.next p ≡ head? (following S p L)
  pub begins : All (λ a. S.after S.start a ≡ true) L
