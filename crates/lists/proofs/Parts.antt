-- Parts of a list: by their first element, from a place on, between two places; a function put over a part.
use mathlib.Core.Path.{◌≡◌, refl, ap, ◌∙◌, sym}
use mathlib.Core.List.{List, [], ◌∷◌, map, ◌++◌}
use Prim.Native.Nat.{ℕ, zero, suc, ◌+◌, ◌-◌, ◌<◌, ◌≤◌}
use native.Mathlib.Omega.{arith}
use lib.ListN.{length, get_or, take, drop, replicate, length-drop}
use Rattle.lists.proofs.Laws.{drop-∷}
use native.Mathlib.Nat.{sub_self}
use lib.Seq.{take-suc, append_snoc, get_or-drop, take_at, drop-append-add, take_all, drop-drop}

-- how many are left, and one less
pub sub-suc : (n k : ℕ) → k < n → n - k ≡ suc (n - (k + 1))
sub-suc n k h = omega arith

-- the part from i up to m
pub take-drop-∷ : (l : List ℕ) (i m : ℕ) → i < m → i < length l
    → take (m - i) (drop i l) ≡ get_or l i 0 ∷ take (m - (i + 1)) (drop (i + 1) l)
take-drop-∷ l i m h k = rw (sub-suc m i h, drop-∷ l i k)

-- the same value at every place, past the end too
pub get_d-replicate-self : {A : Type 0} (n i : ℕ) (d : A) → get_or (replicate n d) i d ≡ d
get_d-replicate-self zero i d = refl
get_d-replicate-self (suc n) zero d = refl
get_d-replicate-self (suc n) (suc i) d = get_d-replicate-self n i d

-- a function over a part, and over one value
module _ {A B : Type 0} (f : A → B) where
  pub map-take : (n : ℕ) (l : List A) → map f (take n l) ≡ take n (map f l)
  map-take zero l = refl
  map-take (suc n) [] = refl
  map-take (suc n) (x ∷ l) = ap (λ (m : List B). f x ∷ m) (map-take n l)

  pub map-drop : (n : ℕ) (l : List A) → map f (drop n l) ≡ drop n (map f l)
  map-drop zero l = refl
  map-drop (suc n) [] = refl
  map-drop (suc n) (x ∷ l) = map-drop n l

  pub map-replicate : (n : ℕ) (x : A) → map f (replicate n x) ≡ replicate n (f x)
  map-replicate zero x = refl
  map-replicate (suc n) x = ap (λ (m : List B). f x ∷ m) (map-replicate n x)

-- one byte more of a part that starts at a position
pub take-drop-snoc : (s r : List ℕ) (at i : ℕ) → at ≤ i → i < length s
    → take (i + 1 - at) (drop at s) ++ r ≡ take (i - at) (drop at s) ++ get_or s i 0 ∷ r
take-drop-snoc s r at i le lt =
    let e : i + 1 - at ≡ suc (i - at) = omega arith in
    let k : at + (i - at) ≡ i = omega arith in
    let h : i - at < length (drop at s) = omega (arith, length-drop at s) in
    rw (e, take-suc (drop at s) (i - at) 0 h, append_snoc, get_or-drop at s (i - at) 0, k)

pub take-drop-none : (s r : List ℕ) (at : ℕ) → take (at - at) (drop at s) ++ r ≡ r
take-drop-none s r at = rw sub_self

-- the list from a place on, known as r: from a later place on, and how long it is
module _ (s : List ℕ) where
  pub drop-+ : (at n : ℕ) (r : List ℕ) → drop at s ≡ r → drop (at + n) s ≡ drop n r
  drop-+ at n r h = sym (drop-drop n at s) ∙ ap (λ (l : List ℕ). drop n l) h

  pub drop⇒length : (at : ℕ) (r : List ℕ) → drop at s ≡ r → length s - at ≡ length r
  drop⇒length at r h = sym (length-drop at s) ∙ ap length h

pub +-suc-right : (at n : ℕ) → at + suc n ≡ at + 1 + n
+-suc-right at n = omega arith

-- a part of the line from one place to another
pub take-drop-++ : (s : List ℕ) (at e : ℕ) (a b : List ℕ) → drop at s ≡ a ++ b → e ≡ at + length a
    → take (e - at) (drop at s) ≡ a
take-drop-++ s at e a b h k =
    let n : length a ≡ e - at = omega arith in
    ap (λ (l : List ℕ). take (e - at) l) h ∙ take_at a b (e - at) n

-- and what lies behind the byte after it
pub drop-suc-++ : (s : List ℕ) (at e : ℕ) (a b : List ℕ) → drop at s ≡ a ++ b → e ≡ at + length a
    → drop (e + 1) s ≡ drop 1 b
drop-suc-++ s at e a b h k =
    let n : e + 1 ≡ at + (length a + 1) = omega arith in
    ap (λ (x : ℕ). drop x s) n ∙ drop-+ s at (length a + 1) (a ++ b) h ∙ drop-append-add a b 1

-- A LOOP. The part of the input from a place on, as a loan has it
pub take_drop_all : (s : List ℕ) (at : ℕ) → take (length s - at) (drop at s) ≡ drop at s
take_drop_all s at = take_all (length s - at) (drop at s) (simp length-drop (omega arith))

pub 0<length-drop : (s : List ℕ) (at : ℕ) → at < length s → 0 < length (drop at s)
0<length-drop s at h = simp length-drop (omega arith)

pub length-drop≤0 : (s : List ℕ) (at : ℕ) → length s ≤ at → length (drop at s) ≤ 0
length-drop≤0 s at h = simp length-drop (omega arith)
