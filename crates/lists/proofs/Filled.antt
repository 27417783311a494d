-- Numbers with zeros in the unused needed places: `filled` and the test `zeros`.
-- part_filled   numbers with zeros behind them are filled     filled-zeros, filled-take, filled-long   and back
-- fill-put      the first of them written anew
use mathlib.Core.Path.{◌≡◌, refl, sym, ap, ◌∙◌}
use mathlib.Core.Bool.{true}
use mathlib.Core.List.{List, [], ◌∷◌, ◌++◌}
use Prim.Native.Nat.{ℕ, zero, suc, ◌+◌, ◌-◌, ◌≤◌}
use native.Mathlib.Omega.{arith}
use lib.Dec.{eqb}
use lib.ListN.{length, take, drop, replicate, length-drop, length-append, length-replicate}
use lib.Seq.{length-take-le, take-take, take_at, drop_at, drop-drop, take-append-add}
use borrow.Author.Tests.{eqb-true}
use Rattle.lists.proofs.Laws.{and_left, and_right}
use Rattle.lists.proofs.Front.{drop-replicate, drop-take}
use Rattle.lists.proofs.Nth.{take-++-take, length-take⇒≤}
use Rattle.lists.specs.Place.{filled}
use Rattle.lists.specs.Tests.{zeros}

-- zeros
zeros⇒replicate : (l : List ℕ) → zeros l ≡ true → l ≡ replicate (length l) 0
unfolding zeros
zeros⇒replicate [] e = refl
zeros⇒replicate (x ∷ l) e =
    let p : x ≡ 0 = eqb-true x 0 (and_left (eqb x 0) (zeros l) e) in
    (λ i. p i ∷ zeros⇒replicate l (and_right (eqb x 0) (zeros l) e) i)

zeros-replicate : (k : ℕ) → zeros (replicate k 0) ≡ true
unfolding zeros
zeros-replicate zero = refl
zeros-replicate (suc k) = zeros-replicate k

-- the first part and the zeros behind it
pub part_filled : (limit n : ℕ) (l : List ℕ)
    → n ≤ limit
    → limit ≤ length l
    → zeros (take (limit - n) (drop n l)) ≡ true
    → take limit l ≡ filled limit (take n l)
unfolding filled
part_filled limit n l h k z =
    let a : length (take n l) ≡ n = length-take-le n l (omega arith) in
    let b : length (take (limit - n) (drop n l)) ≡ limit - n =
    length-take-le (limit - n) (drop n l) (omega (arith, length-drop n l)) in
    take-++-take limit n l h ∙ ap (λ (m : List ℕ). take n l ++ m)
    (zeros⇒replicate (take (limit - n) (drop n l)) z ∙ ap (λ (m : ℕ). replicate m 0) (b ∙ ap (λ (m : ℕ). limit - m) (sym a)))

-- and back
pub filled-length : (limit : ℕ) (xs : List ℕ) → length xs ≤ limit → length (filled limit xs) ≡ limit
unfolding filled
filled-length limit xs h =
    length-append xs (replicate (limit - length xs) 0)
    ∙ ap (λ (m : ℕ). length xs + m) (length-replicate (limit - length xs) 0)
    ∙ (let e : length xs + (limit - length xs) ≡ limit = omega arith in e)

pub filled-long : (limit : ℕ) (l xs : List ℕ) → length xs ≤ limit → take limit l ≡ filled limit xs → limit ≤ length l
filled-long limit l xs h e =
    let a : length (take limit l) ≡ limit = ap (λ (m : List ℕ). length m) e ∙ filled-length limit xs h in
    length-take⇒≤ limit l a

pub filled-take : (limit n : ℕ) (l xs : List ℕ)
    → length xs ≡ n
    → n ≤ limit
    → take limit l ≡ filled limit xs
    → take n l ≡ xs
unfolding filled
filled-take limit n l xs a h e =
    sym (take-take n limit l h) ∙ ap (λ (m : List ℕ). take n m) e ∙ take_at xs (replicate (limit - length xs) 0) n a

-- numbers with zeros behind them, of which the first are written anew
pub fill-put : (n a m : ℕ) (xs ys l : List ℕ)
    → length xs ≡ a
    → length ys ≡ a + m
    → a + m ≤ n
    → take n l ≡ filled n xs
    → take n (ys ++ drop (a + m) l) ≡ filled n ys
unfolding filled
fill-put n a m xs ys l e f h q =
    let split : n ≡ length ys + (n - (a + m)) = omega arith in
    let tail : take (n - (a + m)) (drop (a + m) l) ≡ replicate (n - (a + m)) 0 =
    sym (drop-take (a + m) n l) ∙ ap (λ (z : List ℕ). drop (a + m) z) q
    ∙ sym (drop-drop m a (xs ++ replicate (n - length xs) 0))
    ∙ ap (λ (z : List ℕ). drop m z) (drop_at xs (replicate (n - length xs) 0) a e)
    ∙ drop-replicate m (n - length xs) 0 (omega arith)
    ∙ ap (λ (k : ℕ). replicate k 0) (let z : n - length xs - m ≡ n - (a + m) = omega arith in z) in
    ap (λ (k : ℕ). take k (ys ++ drop (a + m) l)) split ∙ take-append-add ys (drop (a + m) l) (n - (a + m))
    ∙ ap (λ (z : List ℕ). ys ++ z)
    (tail ∙ ap (λ (k : ℕ). replicate k 0) (let z : n - (a + m) ≡ n - length ys = omega arith in z))

pub filled-zeros : (limit n : ℕ) (l xs : List ℕ)
    → length xs ≡ n
    → take limit l ≡ filled limit xs
    → zeros (take (limit - n) (drop n l)) ≡ true
unfolding filled
filled-zeros limit n l xs a e =
    let q : take (limit - n) (drop n l) ≡ replicate (limit - length xs) 0 =
    sym (drop-take n limit l) ∙ ap (λ (m : List ℕ). drop n m) e ∙ drop_at xs (replicate (limit - length xs) 0) n a in
    ap (λ (m : List ℕ). zeros m) q ∙ zeros-replicate (limit - length xs)
