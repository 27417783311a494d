-- Decimal digits: how many a number has, and the last of them stored first.
use Rattle.std.proofs.Common.{◌≡◌, ℕ, zero, suc, ◌+◌, ◌-◌, ◌*◌, ◌/◌, ◌%◌, ◌^◌, ◌<◌, ◌≤◌, List, [], ◌∷◌, length, set, refl, ◌∙◌, pow-suc, arith, length-append}
use lib.Seq.{sets}
use Rattle.lists.proofs.Stores.{sets-++, set-sets}
use Rattle.frames.specs.Lines.{digits_of, more_digits, decimal_count, decimal_of}

-- a number below 10 ^ k has at most k digits, and one from there on has more
more-le : (k f n : ℕ) → n < 10 ^ k → more_digits f n ≤ k
unfolding more_digits
more-le k zero zero h = omega arith
more-le k zero (suc n) h = omega arith
more-le k (suc f) zero h = omega arith
more-le zero (suc f) (suc n) h = absurd (omega arith)
more-le (suc k) (suc f) (suc n) h =
    let e : 10 ^ suc k ≡ 10 ^ k * 10 = pow-suc 10 k in
    let ih : more_digits f (suc n / 10) ≤ k = more-le k f (suc n / 10) (omega arith) in
    omega arith

pow_ten : (k : ℕ) → 0 < 10 ^ k
pow_ten zero = omega arith
pow_ten (suc k) = omega (arith, pow-suc 10 k, pow_ten k)

more-ge : (k f n : ℕ) → 10 ^ k ≤ n → n ≤ f → suc k ≤ more_digits f n
unfolding more_digits
more-ge k f zero h g = absurd (omega (arith, pow_ten k))
more-ge k zero (suc n) h g = absurd (omega arith)
more-ge zero (suc f) (suc n) h g = omega arith
more-ge (suc k) (suc f) (suc n) h g =
    let e : 10 ^ suc k ≡ 10 ^ k * 10 = pow-suc 10 k in
    let ih : suc k ≤ more_digits f (suc n / 10) = more-ge k f (suc n / 10) (omega arith) (omega arith) in
    omega arith

pub count-one : (n : ℕ) → n < 10 → decimal_count n ≡ 1
unfolding decimal_count
count-one n h = omega (arith, more-le 0 n (n / 10) (omega arith))

-- by the highest power of ten that is not above it
pub count-power : (k n : ℕ) → 10 ^ k ≤ n → n < 10 * 10 ^ k → decimal_count n ≡ k + 1
unfolding decimal_count
count-power zero n h g = omega (arith, more-le 0 n (n / 10) (omega arith))
count-power (suc k) n h g =
    let e : 10 ^ suc k ≡ 10 ^ k * 10 = pow-suc 10 k in
    omega (arith, more-le (suc k) n (n / 10) (omega arith), more-ge k n (n / 10) (omega arith) (omega arith))

pub count-below : (k n : ℕ) → n / 10 < 10 ^ k → decimal_count n ≤ suc k
unfolding decimal_count
count-below k n h = omega (arith, more-le k n (n / 10) h)

-- a number of 64 bits has at most 20 digits
pub count-le : (n : ℕ) → n < 2 ^ 64 → decimal_count n ≤ 20
count-le n h = count-below 19 n (omega arith)

pub length_digits : (k n : ℕ) → length (digits_of k n) ≡ k
unfolding digits_of
length_digits zero n = refl
length_digits (suc k) n =
    length-append (digits_of k (n / 10)) ((48 + n % 10) ∷ []) ∙ omega (arith, length_digits k (n / 10))

pub length-decimal : (n : ℕ) → length (decimal_of n) ≡ decimal_count n
unfolding decimal_of
length-decimal n = length_digits (decimal_count n) n

-- the last digit is stored
last_stored : (out : List ℕ) (at k n : ℕ) → sets out at (digits_of (suc k) n) ≡ sets (set out (at + k) (48 + n % 10)) at (digits_of k (n / 10))
unfolding digits_of
last_stored out at k n =
    let l = length_digits k (n / 10) in
    sets-++ out at (digits_of k (n / 10)) ((48 + n % 10) ∷ [])
    ∙ rw l (set-sets out at (digits_of k (n / 10)) (at + k) (48 + n % 10) (omega arith))

pub digit-stored : (out : List ℕ) (at i n : ℕ) → at < i
    → sets out at (digits_of (i - at) n) ≡ sets (set out (i - 1) (48 + n % 10)) at (digits_of (i - 1 - at) (n / 10))
digit-stored out at i n h =
    let e : i - at ≡ suc (i - 1 - at) = omega arith in
    let p : at + (i - 1 - at) ≡ i - 1 = omega arith in
    rw e (last_stored out at (i - 1 - at) n ∙ rw p)

pub digits-done : (out : List ℕ) (at i n : ℕ) → i ≤ at → sets out at (digits_of (i - at) n) ≡ out
unfolding digits_of
digits-done out at i n h =
    let e : i - at ≡ 0 = omega arith in
    rw e
