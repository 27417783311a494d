-- How many stored lines a search looks at (document 02, ticket 2). A line is looked at if its code or its second number
-- is read; looked at twice, it counts once.
use Rattle.std.specs.Prelude.{if◌then◌else◌, ℕ, zero, suc, ◌+◌, ◌*◌, ◌/◌, ◌≤◌, ◌≡◌, eqb}

-- of n lines one is looked at and n / 2 are left; f is a bound on the turns
unfoldable pub looks_within : ℕ → ℕ → ℕ
looks_within zero n = 0
looks_within (suc f) n = let r = looks_within f (n / 2) in if eqb n 0 then 0 else suc r

-- at most so many of n stored lines a search by halving looks at: the measure of each such loop
abbrev pub looks_for : ℕ → ℕ
looks_for n = looks_within n n

-- THE BOUND: with the hinted line at most 13 of 2,048, one more for each doubling, and never more for fewer lines
pub record LooksBounded : Type 0 where
  pub at-2048 : looks_for 2048 + 1 ≤ 13
  pub doubled : (n : ℕ) → 1 ≤ n → looks_for (n * 2) ≡ looks_for n + 1
  pub fewer : (m n : ℕ) → m ≤ n → looks_for m ≤ looks_for n
