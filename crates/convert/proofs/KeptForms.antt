-- What is carried over, as the functions hold it, and back.
use Rattle.std.specs.Prelude.{Option as Optional, Some, None}
use Rattle.utf.specs.declared.utf32.ByteOrder.{ByteOrder}
use mathlib.Core.Path.{◌≡◌, refl, sym, ap, ◌∙◌}
use Prim.Native.Nat.{ℕ, zero, suc, ◌≤◌}
use mathlib.Core.List.{List, [], ◌∷◌}
use mathlib.Core.Bool.{Bool, true}
use mathlib.Core.Option.{Option, none, some}
use native.Mathlib.Omega.{arith}
use borrow.Author.Tests.{le-leb, leb-true, eqb-true, ne_eqb}
use lib.Dec.{eqb, leb}
use lib.ListN.{length}
use Rattle.lists.proofs.Laws.{and_left, and_right, and_yes}
use Rattle.lists.proofs.Cases.{pick-case, pick_no}
use Rattle.utf.specs.declared.utf8.Stop.{Stop}
use Rattle.utf.specs.declared.utf32.ByteOrder.TheVariants.{Big, Little}
use Rattle.table.specs.Codes.{packed, unpacked, code_of, bytes_of, AllByte}
use Rattle.table.specs.Stored.{padded}
use Rattle.table.specs.declared.states.Code.{Code}
use Rattle.table.proofs.Packing.{packed_none, length-unpacked, unpacked-none, packed-padded, unpacked-packed, pack-unpack}
use Rattle.convert.specs.Pieces.{Carry, fresh, state_at, place_at, stands_in, stands_as, carry_in, kept_as, is_held}
use Rattle.convert.specs.PieceClaims.{fresh_kept}
use Rattle.convert.specs.declared.pieces.Kept.{Kept}

-- ## Part by part

pub bytes_of-code_of : (s : List ℕ) → AllByte s → length s ≤ 4 → bytes_of (code_of s) ≡ s
bytes_of-code_of s a h = unpacked-packed s a h

pub is_held-few : (c : Code) → is_held c ≡ true → c.len ≤ 3
is_held-few c = pick-case (λ (b : Bool). b ≡ true → c.len ≤ 3) (eqb c.len 0) _ _
    (λ z h. let e : c.len ≡ 0 = eqb-true c.len 0 z in omega arith)
    (λ z h. leb-true c.len 3 (and_left (leb c.len 3) (padded c.len c.bits) h))

pub code_of-bytes_of : (c : Code) → is_held c ≡ true → code_of (bytes_of c) ≡ c
code_of-bytes_of c h =
    λ i. record { bits = same i; len = length-unpacked c.len c.bits i }
  where
    same : packed (unpacked c.len c.bits) ≡ c.bits
    same = pick-case (λ (b : Bool). b ≡ true → packed (unpacked c.len c.bits) ≡ c.bits) (eqb c.len 0) _ _
        (λ z h. let e : c.len ≡ 0 = eqb-true c.len 0 z in
        ap packed (unpacked-none c.len c.bits (omega arith)) ∙ packed_none ∙ sym (eqb-true c.bits 0 h))
        (λ z h. pack-unpack c.len c.bits (and_right (leb c.len 3) (padded c.len c.bits) h))
        h

pub is_held-code_of : (s : List ℕ) → AllByte s → length s ≤ 3 → is_held (code_of s) ≡ true
is_held-code_of [] a h = ap (λ (n : ℕ). eqb n 0) packed_none
is_held-code_of (b ∷ s) a h =
    pick_no (eqb (suc (length s)) 0) _ _ (ne_eqb (suc (length s)) 0 (λ e. omega arith))
    ∙ and_yes (leb (suc (length s)) 3) _ (le-leb (suc (length s)) 3 h) (packed-padded (b ∷ s) a (omega arith) (omega arith))

pub state_at-place_at : (st : ℕ) → st ≤ 2 → state_at (place_at st) ≡ st
state_at-place_at zero h = refl
state_at-place_at (suc zero) h = refl
state_at-place_at (suc (suc zero)) h = refl
state_at-place_at (suc (suc (suc st))) h = absurd (omega arith)

pub place_at-state_at : (p : Optional ByteOrder) → place_at (state_at p) ≡ p
place_at-state_at None = refl
place_at-state_at (Some Big) = refl
place_at-state_at (Some Little) = refl

pub state_at-few : (p : Optional ByteOrder) → state_at p ≤ 2
state_at-few None = omega arith
state_at-few (Some Big) = omega arith
state_at-few (Some Little) = omega arith

pub stands_in-stands_as : (o : Option Stop) → stands_in (stands_as o) ≡ o
stands_in-stands_as none = refl
stands_in-stands_as (some w) = refl

pub stands_as-stands_in : (s : Optional Stop) → stands_as (stands_in s) ≡ s
stands_as-stands_in None = refl
stands_as-stands_in (Some w) = refl

-- ## As a whole

pub carry_in-kept_as : (k : Carry) → AllByte k.bytes → length k.bytes ≤ 3 → k.state ≤ 2 → carry_in (kept_as k) ≡ k
carry_in-kept_as k a h l = λ i. record {
  bytes = bytes_of-code_of k.bytes a (omega arith) i;
  state = state_at-place_at k.state l i;
  stands = stands_in-stands_as k.stands i;
}

pub kept_as-carry_in : (h : Kept) → is_held h.bytes ≡ true → kept_as (carry_in h) ≡ h
kept_as-carry_in h e = λ i. record {
  bytes = code_of-bytes_of h.bytes e i;
  mark = place_at-state_at h.mark i;
  standing = stands_as-stands_in h.standing i;
}

pub kept_as-fresh : kept_as fresh ≡ fresh_kept
kept_as-fresh = λ i. record { bytes = record { bits = packed_none i; len = 0 }; mark = None; standing = None }

pub carry_in-fresh_kept : carry_in fresh_kept ≡ fresh
carry_in-fresh_kept = λ i. record { bytes = unpacked-none 0 0 (omega arith) i; state = 0; stands = none }
