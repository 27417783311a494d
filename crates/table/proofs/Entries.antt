-- Two slices as a list of stored mappings: its length and parts, back to the slices, the stored mapping at a place, the list from a place on.
use mathlib.Core.Path.{◌≡◌, refl, sym, ap}
use mathlib.Core.List.{List, [], ◌∷◌, map}
use Prim.Native.Nat.{ℕ, zero, suc, ◌+◌, ◌<◌, ◌≤◌}
use native.Mathlib.Omega.{arith}
use lib.ListN.{length, drop, get_or}
use Rattle.lists.proofs.Laws.{drop-∷, drop_past}
use Rattle.table.specs.Stored.{Stored, bits_of, info_of, mk}
use Rattle.table.specs.Memory.{stored_list}

-- stored mappings and the two lists that hold them
pub length-entries : (a b : List ℕ) → length a ≡ length b → length (stored_list a b) ≡ length a
unfolding stored_list
length-entries [] b e = refl
length-entries (u ∷ us) [] e = sym e
length-entries (u ∷ us) (v ∷ vs) e = ap suc (length-entries us vs (omega arith))

pub map-bits_of-entries : (a b : List ℕ) → length a ≡ length b → map bits_of (stored_list a b) ≡ a
unfolding stored_list
map-bits_of-entries [] b e = refl
map-bits_of-entries (u ∷ us) [] e = absurd (omega arith)
map-bits_of-entries (u ∷ us) (v ∷ vs) e = ap (λ (l : List ℕ). u ∷ l) (map-bits_of-entries us vs (omega arith))

pub map-info_of-entries : (a b : List ℕ) → length a ≡ length b → map info_of (stored_list a b) ≡ b
unfolding stored_list
map-info_of-entries [] [] e = refl
map-info_of-entries [] (v ∷ vs) e = absurd (omega arith)
map-info_of-entries (u ∷ us) [] e = absurd (omega arith)
map-info_of-entries (u ∷ us) (v ∷ vs) e = ap (λ (l : List ℕ). v ∷ l) (map-info_of-entries us vs (omega arith))

pub entries-map : (l : List Stored) → stored_list (map bits_of l) (map info_of l) ≡ l
unfolding stored_list
entries-map [] = refl
entries-map (d ∷ ds) = ap (λ (r : List Stored). d ∷ r) (entries-map ds)

pub entries-step : (a b : List ℕ) (k : ℕ)
    → length a ≡ length b
    → k < length a
    → stored_list (drop k a) (drop k b) ≡ mk (get_or a k 0) (get_or b k 0) ∷ stored_list (drop (k + 1) a) (drop (k + 1) b)
unfolding stored_list
entries-step a b k e h = rw (drop-∷ a k h, drop-∷ b k (omega arith))

pub entries-end : (a b : List ℕ) (k : ℕ) → length a ≤ k → stored_list (drop k a) (drop k b) ≡ []
unfolding stored_list
entries-end a b k h = rw (drop_past a k h)

pub entries_at : (a b : List ℕ) (i : ℕ)
    → length a ≡ length b
    → i < length a
    → get_or (stored_list a b) i (mk 0 0) ≡ mk (get_or a i 0) (get_or b i 0)
unfolding stored_list
entries_at [] b i e h = absurd (omega arith)
entries_at (u ∷ us) [] i e h = absurd (omega arith)
entries_at (u ∷ us) (v ∷ vs) zero e h = refl
entries_at (u ∷ us) (v ∷ vs) (suc i) e h = entries_at us vs i (omega arith) (omega arith)

pub drop-entries : (a b : List ℕ) (k : ℕ) → drop k (stored_list a b) ≡ stored_list (drop k a) (drop k b)
unfolding stored_list
drop-entries a b zero = refl
drop-entries [] b (suc k) = refl
drop-entries (u ∷ us) [] (suc k) = sym (nothing (drop k us))
  where
    nothing : (l : List ℕ) → stored_list l [] ≡ []
    nothing [] = refl
    nothing (x ∷ l) = refl
drop-entries (u ∷ us) (v ∷ vs) (suc k) = drop-entries us vs k
