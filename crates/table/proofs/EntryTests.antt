-- The orders of stored mappings, and what neighbours are tested for, as the code tests them.
use mathlib.Core.Path.{◌≡◌, refl, ap, ◌∙◌}
use mathlib.Core.Bool.{Bool, true, false}
use mathlib.Core.Logic.{inl, inr}
use Prim.Native.Nat.{ℕ, ◌<◌, ◌≤◌}
use native.Mathlib.Omega.{arith}
use lib.Dec.{ltb, leb, eqb}
use borrow.Author.Tests.{eq-eqb, ne_eqb}
use Rattle.lists.specs.Pick.{pick}
use Rattle.lists.specs.Order.{by_key}
use Rattle.lists.proofs.Choice.{pick-false-false, pick-true-false}
use Rattle.lists.proofs.Laws.{¬true⇒false}
use Rattle.lists.proofs.Order.{by_key-<}
use Rattle.table.specs.Stored.{Stored, mk, point_in, rank_in, extra_in, order_key_in, order_key, less, point_less, read_clash, write_clash, read_next, write_next}
use Rattle.lists.proofs.Conjunctions.{not-and-four, not-and-three}
use Rattle.table.proofs.StoredLaws.{Before, less-cases, less-bits, writing, clashing, key-writes, next-yes}

-- the orders as the code tests them
pub less-mk : (c i d j : ℕ) → less (mk c i) (mk d j) ≡ pick (ltb c d) true (pick (ltb d c) false (ltb i j))
unfolding less by_key
less-mk c i d j =
    ap (λ (b : Bool). pick (ltb c d) true (pick (ltb d c) false b)) (rw (pick-false-false (ltb j i)) (pick-true-false (ltb i j)))

pub point_less-mk : (c i d j : ℕ)
    → point_less (mk c i) (mk d j)
    ≡ pick (ltb (order_key_in i) (order_key_in j)) true (pick (ltb (order_key_in j) (order_key_in i)) false (less (mk c i) (mk d j)))
unfolding point_less by_key
point_less-mk c i d j = refl

-- what neighbours are tested for, as the code tests it
read-next-if : (a b : Stored) → less a b ≡ true
    → read_next a b ≡ pick (eqb a.bits b.bits)
    (pick (eqb (extra_in a.info) (extra_in b.info))
    (pick (leb (rank_in a.info) 1) (pick (leb (rank_in b.info) 1) false true) true) true) true
unfolding read_next read_clash
read-next-if a b h =
    rw h (not-and-four (eqb a.bits b.bits) (eqb (extra_in a.info) (extra_in b.info))
    (leb (rank_in a.info) 1) (leb (rank_in b.info) 1))

pub write-next-if : (a b : Stored) → point_less a b ≡ true
    → write_next a b ≡ pick (eqb (point_in a.info) (point_in b.info))
    (pick (eqb (rank_in a.info) 1) true (pick (eqb (rank_in b.info) 1) true false)) true
unfolding write_next write_clash
write-next-if a b h =
    rw h (not-and-three (eqb (point_in a.info) (point_in b.info)) (eqb (rank_in a.info) 1)
    (eqb (rank_in b.info) 1))

-- neighbours of different codes, and those with the same
pub read-next-less : (a b : Stored) → a.bits < b.bits → read_next a b ≡ true
read-next-less a b h = read-next-if a b (less-bits a b h) ∙ rw (ne_eqb a.bits b.bits (λ e. omega arith))

pub read-next-same : (a b : Stored) → b.bits ≤ a.bits → less a b ≡ true
    → read_next a b ≡ pick (eqb (extra_in a.info) (extra_in b.info))
    (pick (leb (rank_in a.info) 1) (pick (leb (rank_in b.info) 1) false true) true) true
read-next-same a b h p = read-next-if a b p ∙ rw (eq-eqb a.bits b.bits (go (less-cases a b p)))
  where
    go : Before a b → a.bits ≡ b.bits
    go (inl q) = absurd (omega arith)
    go (inr q) = q.0

point-is-less : (a b : Stored) → order_key a < order_key b → point_less a b ≡ true
unfolding point_less
point-is-less a b h = by_key-< order_key less a b h

-- a lower key decides alone: two lines that are written for one code point have one key
pub key-next : (a b : Stored) → order_key a < order_key b → write_next a b ≡ true
key-next a b h = next-yes writing a b (point-is-less a b h) (¬true⇒false (write_clash a b) (λ r.
    let w = clashing writing a b r in
    omega (arith, h, key-writes a w.1.0, key-writes b w.1.1, w.0)))
