-- Indicators and ranks: by cases, there and back, and what they say of a line.
-- digit-case, rank-case           what holds of each digit 0 to 3, or of each rank, holds of all
-- rank-back, rank_of-indicator_in       from a digit to its rank and back, from a rank to its digit and back
-- rank_of-is_read, rank_of-is_written         the rank says which lines are read and which are written
-- has_code-is_substituted, writes-code   a line has a code unless it is a `|2` line, and writes it unless it is a `|3` line
use Prim.Native.Nat.{ℕ, zero, suc, ◌<◌, ◌≤◌}
use mathlib.Core.Path.{◌≡◌, refl}
use mathlib.Core.Bool.{true, false}
use native.Mathlib.Omega.{arith}
use lib.Dec.{leb, eqb}
use borrow.Author.Tests.{lt-leb, ne_eqb}
use Rattle.lists.specs.Pick.{pick}
use Rattle.lists.proofs.Laws.{clash}
use Rattle.table.specs.Meaning.{Line, is_read, decides_point, has_code, writes_code, is_substituted}
use Rattle.table.specs.Stored.{rank_of, indicator_in, is_rank}

digit-case : (P : ℕ → Type 0) → P 0 → P 1 → P 2 → P 3 → (d : ℕ) → d < 4 → P d
digit-case P a b c e zero h = a
digit-case P a b c e (suc zero) h = b
digit-case P a b c e (suc (suc zero)) h = c
digit-case P a b c e (suc (suc (suc zero))) h = e
digit-case P a b c e (suc (suc (suc (suc d)))) h = absurd (omega arith)

pub rank-case : (P : ℕ → Type 0) → P 0 → P 1 → P 2 → P 4 → (r : ℕ) → is_rank r ≡ true → P r
rank-case P a b c e zero h = a
rank-case P a b c e (suc zero) h = b
rank-case P a b c e (suc (suc zero)) h = c
rank-case P a b c e (suc (suc (suc zero))) h = absurd (clash h refl)
rank-case P a b c e (suc (suc (suc (suc zero)))) h = e
rank-case P a b c e (suc (suc (suc (suc (suc r))))) h = absurd (clash h (none (suc (suc (suc (suc (suc r))))) (omega arith)))
  where
    none : (n : ℕ) → 4 < n → is_rank n ≡ false
    none n h = rw (lt-leb n 2 (omega arith), ne_eqb n 4 (λ e. omega arith))

pub rank-back : (d : ℕ) → d < 4 → indicator_in (rank_of d) ≡ d
rank-back = digit-case (λ d. indicator_in (rank_of d) ≡ d) refl refl refl refl

pub is_rank-rank_of : (d : ℕ) → d < 4 → is_rank (rank_of d) ≡ true
is_rank-rank_of = digit-case (λ d. is_rank (rank_of d) ≡ true) refl refl refl refl

pub is_rank⇒≤4 : (r : ℕ) → is_rank r ≡ true → r ≤ 4
is_rank⇒≤4 = rank-case (λ r. r ≤ 4) (omega arith) (omega arith) (omega arith) (omega arith)

pub rank_of-indicator_in : (r : ℕ) → is_rank r ≡ true → rank_of (indicator_in r) ≡ r
rank_of-indicator_in = rank-case (λ r. rank_of (indicator_in r) ≡ r) refl refl refl refl

pub is_rank⇒indicator_in<4 : (r : ℕ) → is_rank r ≡ true → indicator_in r < 4
is_rank⇒indicator_in<4 = rank-case (λ r. indicator_in r < 4) (omega arith) (omega arith) (omega arith) (omega arith)

-- a line of a digit 0 to 3
module _ (l : Line) where
  abbrev marked : ℕ → Line
  marked d = record { point = l.point; code = l.code; indicator = d }

  pub rank_of-is_read : l.indicator < 4 → leb (rank_of l.indicator) 1 ≡ is_read l
  rank_of-is_read = digit-case (λ d. leb (rank_of d) 1 ≡ is_read (marked d)) refl refl refl refl l.indicator

  pub rank_of-is_written : l.indicator < 4 → pick (eqb (rank_of l.indicator) 1) false true ≡ decides_point l
  rank_of-is_written = digit-case (λ d. pick (eqb (rank_of d) 1) false true ≡ decides_point (marked d)) refl refl refl refl l.indicator

  pub has_code-is_substituted : l.indicator < 4 → has_code l ≡ pick (is_substituted l) false true
  has_code-is_substituted = digit-case (λ d. has_code (marked d) ≡ pick (is_substituted (marked d)) false true) refl refl refl refl l.indicator

  pub writes-code : l.indicator < 4 → (l.indicator ≡ 2 → ⊥) → (l.indicator ≡ 3 → ⊥) → writes_code l ≡ true
  writes-code =
      digit-case (λ d. (d ≡ 2 → ⊥) → (d ≡ 3 → ⊥) → writes_code (marked d) ≡ true)
      (λ two three. refl) (λ two three. refl) (λ two three. absurd (two refl)) (λ two three. absurd (three refl))
      l.indicator
