-- Laws of lists with something written into them: `fill_range`, `shift_in`, `bump`, `filled`, insertion at a place.
-- Elements moved up by one:  shift_in-moved; one at a time:  shift_in-turn       a loop that renumbers indices:  get_d-bumped, set-bumped
-- A loop that fills places:  spread-turn, spread_end
use Prim.Native.Nat.{ℕ, zero, suc, ◌+◌, ◌<◌, ◌≤◌, ◌-◌}
use mathlib.Core.Path.{◌≡◌, refl, sym, ap, ◌∙◌, subst}
use mathlib.Core.List.{List, [], ◌∷◌, ◌++◌, append_assoc, map, append-nil, map-append}
use lib.ListN.{get_or, replicate, length, take, drop, set, length-append, length-drop, length-replicate, take-append-drop, drop_of_length-le, length-map}
use Rattle.lists.proofs.Parts.{get_d-replicate-self, sub-suc, map-take, map-drop, map-replicate}
use mathlib.Core.Bool.{Bool, true, false}
use native.Mathlib.Numerals.{add-one}
use native.Mathlib.Omega.{arith}
use lib.Seq.{paste, get_or-take, take-suc-set, drop-set-lt, append_snoc, take-take, length-take-le, take_at, set_at, take-suc, get_or_at}
use lib.Dec.{leb}
use borrow.Author.Tests.{le-leb, lt-leb, leb-true, leb-false}
use Rattle.lists.specs.Order.{All}
use Rattle.lists.proofs.Front.{drop-take}
use Rattle.lists.proofs.Laws.{drop-∷}
use Rattle.lists.proofs.Order.{All-get_d⁻}
use Rattle.lists.specs.Place.{shift_in, bump, fill_range, filled}

-- zeros behind the numbers say nothing new
pub get_d-++-replicate : (n : ℕ) (xs : List ℕ) (i : ℕ) → get_or (xs ++ replicate n 0) i 0 ≡ get_or xs i 0
get_d-++-replicate n [] i = get_d-replicate-self n i 0
get_d-++-replicate n (x ∷ xs) zero = refl
get_d-++-replicate n (x ∷ xs) (suc i) = get_d-++-replicate n xs i

-- one turn: the carried element is stored at i, and the one that stood there is carried on
pub shift_in-turn : (n i c : ℕ) (l : List ℕ) → i < n → n < length l
    → shift_in n i c l ≡ shift_in n (i + 1) (get_or l i 0) (set l i c)
unfolding shift_in
shift_in-turn n i c l lt fits =
    let li : i < length l = omega arith in
    let ni : i < n + 1 = omega arith in
    let si : i < i + 1 = omega arith in
    let tk : take (i + 1) (set l i c) ≡ take i l ++ (c ∷ []) = rw add-one (take-suc-set l i c li) in
    rw (drop-set-lt (n + 1) l i c ni, drop-set-lt (i + 1) l i c si, tk, append_snoc, drop-∷ l i li, sub-suc n i lt)

-- the elements from `at` to n - 1 moved up by one, then x in the free place
pub shift_in-moved : (n at x : ℕ) (l : List ℕ) → at ≤ n → n < length l
    → set (paste l (at + 1) (drop at l) (n - at)) at x ≡ shift_in n at x l
unfolding shift_in
shift_in-moved n at x l h fits =
    let tk : take (at + 1) l ≡ take at l ++ (get_or l at 0 ∷ []) = rw add-one (take-suc l at 0 (omega arith)) in
    let e : at + 1 + (n - at) ≡ n + 1 = omega arith in
    rw (e, tk, append_snoc, append_assoc) (set_at (take at l) (get_or l at 0) _ x at (length-take-le at l (omega arith)))

-- renumbering
bump-yes : (at v : ℕ) → at ≤ v → bump at v ≡ v + 1
unfolding bump
bump-yes at v h = rw (le-leb at v h)

bump-no : (at v : ℕ) → v < at → bump at v ≡ v
unfolding bump
bump-no at v h = rw (lt-leb at v h)

pub map-bump-none : (n at : ℕ) (l : List ℕ) → n ≤ at → All (λ k. k < n) l → map (bump at) l ≡ l
map-bump-none n at [] h k = refl
map-bump-none n at (x ∷ l) h k =
    let p : x < n = k.0 in
    λ i. bump-no at x (omega arith) i ∷ map-bump-none n at l h k.1 i

pub get_d-take-< : (n k : ℕ) (l : List ℕ) → n ≤ length l → All (λ x. x < n) (take n l) → k < n → get_or l k 0 < n
get_d-take-< n k l h a q =
    subst (λ (v : ℕ). v < n) (get_or-take n l k 0 q)
    (All-get_d⁻ (λ x. x < n) (take n l) k 0 a (let e = length-take-le n l h in omega arith))

abbrev pub bumped : ℕ → ℕ → List ℕ → List ℕ
bumped at k l = map (bump at) (take k l) ++ drop k l

module _ (at k : ℕ) (l : List ℕ) (h : k < length l) where
  length-map-take : length (map (bump at) (take k l)) ≡ k
  length-map-take = length-map (take k l) (bump at) ∙ length-take-le k l (omega arith)

  pub get_d-bumped : get_or (bumped at k l) k 0 ≡ get_or l k 0
  get_d-bumped = rw (drop-∷ l k h) (get_or_at (map (bump at) (take k l)) (get_or l k 0) (drop (k + 1) l) 0 k length-map-take)

  bumped-more : map (bump at) (take k l) ++ bump at (get_or l k 0) ∷ drop (k + 1) l ≡ bumped at (k + 1) l
  bumped-more = rw (add-one, take-suc l k 0 h, map-append (bump at), append_snoc)

  pub set-bumped : (m : List ℕ) (v : ℕ) → m ≡ bumped at k l → v ≡ bump at (get_or l k 0)
      → set m k v ≡ bumped at (k + 1) l
  set-bumped m v e q =
      ap (λ (x : List ℕ). set x k v) (e ∙ ap (λ (x : List ℕ). map (bump at) (take k l) ++ x) (drop-∷ l k h))
      ∙ set_at (map (bump at) (take k l)) (get_or l k 0) (drop (k + 1) l) v k length-map-take
      ∙ ap (λ (x : ℕ). map (bump at) (take k l) ++ x ∷ drop (k + 1) l) q ∙ bumped-more

-- a list with x put in at a place
abbrev pub put : {A : Type 0} → ℕ → A → List A → List A
put r x l = take r l ++ x ∷ drop r l

pub bump-0 : (k : ℕ) → bump 0 k ≡ suc k
bump-0 k = bump-yes 0 k (omega arith) ∙ add-one k

pub bump-suc-0 : (r : ℕ) → bump (suc r) 0 ≡ 0
bump-suc-0 r = bump-no (suc r) 0 (omega arith)

pub bump-suc-suc : (r k : ℕ) → bump (suc r) (suc k) ≡ suc (bump r k)
bump-suc-suc r k = go (leb r k) refl
  where
    go : (b : Bool) → leb r k ≡ b → bump (suc r) (suc k) ≡ suc (bump r k)
    go true e =
        let h = leb-true r k e in
        bump-yes (suc r) (suc k) (omega arith) ∙ next k ∙ ap suc (sym (bump-yes r k h))
      where
        next : (k : ℕ) → suc k + 1 ≡ suc (k + 1)
        next k = omega arith
    go false e = let h = leb-false r k e in bump-no (suc r) (suc k) (omega arith) ∙ ap suc (sym (bump-no r k h))

pub bump<suc : (r k n : ℕ) → k < n → bump r k < suc n
bump<suc r k n h = go (leb r k) refl
  where
    go : (b : Bool) → leb r k ≡ b → bump r k < suc n
    go true e = let q = bump-yes r k (leb-true r k e) in omega arith
    go false e = let q = bump-no r k (leb-false r k e) in omega arith

-- in memory
pub shift_in-put : (n x r : ℕ) (l : List ℕ) → r ≤ n → shift_in n r x l ≡ put r x (take n l) ++ drop (n + 1) l
unfolding shift_in
shift_in-put n x r l h = rw (drop-take, take-take, append_assoc)

pub map-put : {A B : Type 0} (f : A → B) (r : ℕ) (e : A) (l : List A) → map f (put r e l) ≡ put r (f e) (map f l)
map-put f zero e l = refl
map-put f (suc r) e [] = refl
map-put {B = B} f (suc r) e (d ∷ ds) = ap (λ (l : List B). f d ∷ l) (map-put f r e ds)

-- one place more
pub spread-turn : {A : Type 0} (i to : ℕ) (v : A) (l : List A) → i ≤ to → to < length l
    → fill_range i to v l ≡ fill_range (i + 1) to v (set l i v)
unfolding fill_range
spread-turn i to v l le lt =
    let li : i < length l = omega arith in
    let ni : i < to + 1 = omega arith in
    let tk : take (i + 1) (set l i v) ≡ take i l ++ (v ∷ []) = rw add-one (take-suc-set l i v li) in
    let a : i + (to + 1 - i) ≡ to + 1 = omega arith in
    let b : i + 1 + (to + 1 - (i + 1)) ≡ to + 1 = omega arith in
    rw (a, b, drop-set-lt (to + 1) l i v ni, tk, append_snoc, sub-suc (to + 1) i ni)

pub spread_end : {A : Type 0} (i to : ℕ) (v : A) (l : List A) → to < i → fill_range i to v l ≡ l
unfolding fill_range
spread_end i to v l h =
    let a : to + 1 - i ≡ 0 = omega arith in
    let b : i + 0 ≡ i = omega arith in
    rw (a, b, take-append-drop)

pub spread-replicate : {A : Type 0} (m : ℕ) (v : A) (l : List A) → length l ≡ m + 1
    → fill_range 0 m v l ≡ replicate (m + 1) v
unfolding fill_range
spread-replicate m v l e =
    let d : drop (0 + (m + 1 - 0)) l ≡ [] = drop_of_length-le l {i = 0 + (m + 1 - 0)} (omega arith) in
    let z : m + 1 - 0 ≡ m + 1 = omega arith in
    rw (d, append-nil, z)

-- a row filled with cells, and with their numbers
pub map-spread : {A B : Type 0} (f : A → B) (from to : ℕ) (v : A) (l : List A)
    → map f (fill_range from to v l) ≡ fill_range from to (f v) (map f l)
unfolding fill_range
map-spread f from to v l =
    let n : ℕ = to + 1 - from in
    map-append f (take from l) (replicate n v ++ drop (from + n) l)
    ∙ (λ i. map-take f from l i ++ (map-append f (replicate n v) (drop (from + n) l) ∙ (λ j. map-replicate f n v j ++ map-drop f (from + n) l j)) i)

-- one row of the states, filled with one number
pub spread-0 : (m v : ℕ) (l : List ℕ) → fill_range 0 m v l ≡ replicate (m + 1) v ++ drop (m + 1) l
unfolding fill_range
spread-0 m v l =
    let z : m + 1 - 0 ≡ m + 1 = omega arith in
    let y : 0 + (m + 1) ≡ m + 1 = omega arith in
    rw (z, y)

pub take-0-++-drop : (n : ℕ) (row l : List ℕ) → take 0 l ++ (row ++ drop (0 + n) l) ≡ row ++ drop n l
take-0-++-drop n row l = let y : 0 + n ≡ n = omega arith in rw y

-- filling keeps the length
pub length-spread : {A : Type 0} (from to : ℕ) (v : A) (l : List A) → to < length l
    → length (fill_range from to v l) ≡ length l
unfolding fill_range
length-spread from to v l h = go (leb from to) refl
  where
    go : (b : Bool) → leb from to ≡ b → length (fill_range from to v l) ≡ length l
    go true e =
        let le = leb-true from to e in
        length-append (take from l) _
        ∙ ap (λ (k : ℕ). k + length (replicate (to + 1 - from) v ++ drop (from + (to + 1 - from)) l))
        (length-take-le from l (omega arith))
        ∙ ap (λ (k : ℕ). from + k)
        (length-append (replicate (to + 1 - from) v) _ ∙ ap (λ (k : ℕ). k + length (drop (from + (to + 1 - from)) l)) (length-replicate (to + 1 - from) v) ∙ ap (λ (k : ℕ). to + 1 - from + k) (length-drop (from + (to + 1 - from)) l))
        ∙ omega arith
    go false e = ap length (spread_end from to v l (leb-false from to e))

-- zeroed memory holds nothing
pub take-filled-[] : (n : ℕ) (l : List ℕ) → take n (replicate n 0 ++ l) ≡ filled n []
unfolding filled
take-filled-[] n l = let e : n - 0 ≡ n = omega arith in rw e (take_at (replicate n 0) l n (length-replicate n 0))
