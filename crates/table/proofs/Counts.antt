-- Numbers that a load hands back are small: mappings, the number of a refusal, and the line that it names.
use Prim.Native.Nat.{ℕ, suc, ◌+◌, ◌≤◌}
use mathlib.Core.Path.{◌≡◌, refl, ap}
use mathlib.Core.Logic.{◌⊎◌, inl, inr}
use mathlib.Core.List.{List, [], ◌∷◌}
use native.Mathlib.Omega.{arith}
use borrow.Author.Tests.{leb-true}
use lib.Dec.{eqb}
use lib.ListN.{length, length-append}
use Rattle.lists.proofs.Cases.{pick-case}
use Rattle.table.specs.Limits.{Limits}
use Rattle.table.specs.Meaning.{Table}
use Rattle.table.specs.Memory.{record_of}
use Rattle.table.specs.Text.{cr_before, lines_of}
use Rattle.lists.specs.Strings.{onto}
use Rattle.lists.proofs.Strings.{length-onto}
use Rattle.table.specs.Numbers.{refusal_number}
use Rattle.table.specs.Load.{accepted, refused, load_of}
use Rattle.table.specs.FirstLine.{FirstHolds, NeverEnds}
use Rattle.table.specs.declared.load.Refusal.{Refusal}
use Rattle.table.specs.declared.load.Refusal.TheVariants as refusal
use Rattle.table.proofs.Accepted.{accepted-keeps-rules}
use Rattle.table.proofs.FirstLine.{first-line-lowest}

-- the record of a table counts its mappings
pub record-counts : (t : Table) → (record_of t).mappings ≡ length t.lines
unfolding record_of
record-counts t = refl

-- of an accepted text there are no more than the limit
pub mappings-few : (lim : Limits) (text : List ℕ) (t : Table) → 1 ≤ lim.rows → load_of lim text ≡ accepted t → length t.lines ≤ lim.mappings
mappings-few lim text t some e = leb-true (length t.lines) lim.mappings (accepted-keeps-rules lim text t some e).so_far.rule1-lines

lines-few : (s : List ℕ) → length (lines_of s) ≤ length s
unfolding lines_of
lines-few [] = omega arith
lines-few (b ∷ s) =
    let ih = lines-few s in
    pick-case (λ (ls : List (List ℕ)). length ls ≤ suc (length s)) (eqb b 10) ([] ∷ lines_of s) _ (λ t. omega arith)
    (λ t. pick-case (λ (ls : List (List ℕ)). length ls ≤ suc (length s)) (cr_before b s) (lines_of s) (onto b (lines_of s))
    (λ u. omega arith) (λ u. length-onto b (length s) (lines_of s) ih))

-- so a refusal names one of them, or the next
pub refused-within : (lim : Limits) (text : List ℕ) (why : Refusal) (k : ℕ) → load_of lim text ≡ refused why k → k ≤ length text + 1
refused-within lim text why k e = go (first-line-lowest lim text why k e)
  where
    go : FirstHolds lim (lines_of text) why k ⊎ NeverEnds lim (lines_of text) why k → k ≤ length text + 1
    go (inl f) = omega (arith, f.counted, ap length f.lines_are, length-append f.earlier (f.line ∷ f.later), lines-few text)
    go (inr n) = omega (arith, n.counted, lines-few text)

-- every number has at most two digits
pub numbers-few : (why : Refusal) → refusal_number why ≤ 28
numbers-few refusal.MemoryTooSmall = omega arith
numbers-few refusal.TextTooLong = omega arith
numbers-few refusal.NoForm = omega arith
numbers-few refusal.KeyAgain = omega arith
numbers-few refusal.UnfitValue = omega arith
numbers-few refusal.KeyAbsent = omega arith
numbers-few refusal.NotBuilt = omega arith
numbers-few refusal.OutOfRange = omega arith
numbers-few refusal.StatesBroken = omega arith
numbers-few refusal.NoScalar = omega arith
numbers-few refusal.NoSuchCode = omega arith
numbers-few refusal.LeadingZero = omega arith
numbers-few refusal.NoSubchar1 = omega arith
numbers-few refusal.BytesTaken = omega arith
numbers-few refusal.PointTaken = omega arith
numbers-few refusal.TooMany = omega arith
numbers-few refusal.NoEnd = omega arith
numbers-few refusal.NotReadBack = omega arith
