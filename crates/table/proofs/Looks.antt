-- How often a count can be halved.
-- looks-half, looks-less      one look leaves half of the lines; what each loop's measure rests on
-- looks-window                a first look and those in a window of at most n places are no more than looks_for n
-- looks-bounded               THE BOUND
use Prim.Native.Nat.{ℕ, zero, suc, ◌+◌, ◌*◌, ◌/◌, ◌<◌, ◌≤◌}
use native.Mathlib.Omega.{arith}
use mathlib.Core.Path.{◌≡◌, refl, sym, ap, ◌∙◌}
use mathlib.Core.Logic.{◌⊎◌, inl, inr}
use lib.Dec.{eqb}
use borrow.Author.Tests.{ne_eqb}
use Rattle.lists.proofs.Cases.{pick_no}
use Rattle.table.specs.Looks.{looks_within, looks_for, LooksBounded}

-- no line, no look; else one look and what half of the lines ask
within_none : (f : ℕ) → looks_within f 0 ≡ 0
unfolding looks_within
within_none zero = refl
within_none (suc f) = refl

within-turn : (f n : ℕ) → 0 < n → looks_within (suc f) n ≡ suc (looks_within f (n / 2))
unfolding looks_within
within-turn f n h = pick_no (eqb n 0) 0 (suc (looks_within f (n / 2))) (ne_eqb n 0 (λ e. omega arith))

zero-or-more : (n : ℕ) → (n ≡ 0) ⊎ (0 < n)
zero-or-more zero = inl refl
zero-or-more (suc n) = inr (omega arith)

-- any bound on the turns that is large enough gives the same
within_same : (f g n : ℕ) → n ≤ f → n ≤ g → looks_within f n ≡ looks_within g n
within_same zero g n p q =
    let e : n ≡ 0 = omega arith in
    rw e (within_none 0 ∙ sym (within_none g))
within_same (suc f) g n p q = go (λ g m. within_same f g m) g q (zero-or-more n)
  where
    go : ((g m : ℕ) → m ≤ f → m ≤ g → looks_within f m ≡ looks_within g m)
        → (g : ℕ) → n ≤ g → (n ≡ 0) ⊎ (0 < n) → looks_within (suc f) n ≡ looks_within g n
    go on g q (inl e) = rw e (within_none (suc f) ∙ sym (within_none g))
    go on zero q (inr h) = absurd (omega arith)
    go on (suc g) q (inr h) =
        within-turn f n h ∙ ap suc (on g (n / 2) (omega arith) (omega arith)) ∙ sym (within-turn g n h)

within-zero : (n : ℕ) → looks_within 0 n ≡ 0
unfolding looks_within
within-zero n = refl

within-fewer : (f m n : ℕ) → m ≤ n → looks_within f m ≤ looks_within f n
within-fewer zero m n p = omega (arith, within-zero m)
within-fewer (suc f) m n p = go (within-fewer f (m / 2) (n / 2) (omega arith)) (zero-or-more m)
  where
    go : looks_within f (m / 2) ≤ looks_within f (n / 2)
        → (m ≡ 0) ⊎ (0 < m) → looks_within (suc f) m ≤ looks_within (suc f) n
    go r (inl e) = rw (e, within_none (suc f)) (omega arith)
    go r (inr h) = omega (arith, within-turn f m h, within-turn f n (omega arith), r)

looks-half : (n : ℕ) → 0 < n → looks_for n ≡ suc (looks_for (n / 2))
looks-half zero h = absurd (omega arith)
looks-half (suc n) h =
    within-turn n (suc n) h ∙ ap suc (within_same n (suc n / 2) (suc n / 2) (omega arith) (omega arith))

-- a search looks at fewer lines of the half that is left
pub looks-less : (n : ℕ) → 0 < n → looks_for (n / 2) < looks_for n
looks-less n h = omega (arith, looks-half n h)

doubled : (n : ℕ) → 1 ≤ n → looks_for (n * 2) ≡ looks_for n + 1
doubled n h =
    looks-half (n * 2) (omega arith)
    ∙ ap (λ (k : ℕ). suc (looks_for k)) (let e : n * 2 / 2 ≡ n = omega arith in e)
    ∙ (let e : suc (looks_for n) ≡ looks_for n + 1 = omega arith in e)

fewer : (m n : ℕ) → m ≤ n → looks_for m ≤ looks_for n
fewer m n p =
    let e = within_same m n m (omega arith) p in
    omega (arith, e, within-fewer n m n p)

pub looks-window : (n size : ℕ) → 0 < size → size ≤ n → looks_for (size / 2) + 1 ≤ looks_for n
looks-window n size h p = omega (arith, looks-half size h, fewer size n p)

pub looks-bounded : LooksBounded
unfolding looks_within
looks-bounded = record { at-2048 = omega arith; doubled = doubled; fewer = fewer }
