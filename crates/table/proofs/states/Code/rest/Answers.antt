use Prim.Native.Nat.{ℕ, zero, suc, ◌-◌, ◌*◌, ◌%◌}
use mathlib.Core.Path.{◌≡◌, ap}
use native.Mathlib.Omega.{arith}
use lib.ListN.{drop}
use Rattle.table.specs.Codes.{unpacked}
use Rattle.table.proofs.states.Code.rest.Goals as goal

-- the bytes behind the first, where there is one
one-less : (n v m : ℕ) → m ≡ n - 1 → unpacked m (v % 16777216 * 256) ≡ drop 1 (unpacked n v)
unfolding unpacked
one-less zero v m h = ap (λ (k : ℕ). unpacked k (v % 16777216 * 256)) h
one-less (suc n) v m h =
    let same : m ≡ n = omega (arith, h) in
    ap (λ (k : ℕ). unpacked k (v % 16777216 * 256)) same

pub returns : goal.returns
returns c =
    let s = c.args.self in
    one-less s.len s.bits c.saturating_sub.result c.saturating_sub.ensures
