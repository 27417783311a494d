-- The complete codes of a table are a list to page through, and a position cuts the plain list where it cuts them.
use Prim.Native.Nat.{ℕ, zero, suc}
use mathlib.Core.Path.{◌≡◌, refl, ap}
use mathlib.Core.Bool.{Bool, true, false, not}
use mathlib.Core.Option.{some}
use mathlib.Core.List.{List, [], ◌∷◌, head?}
use Rattle.lists.specs.Pick.{pick}
use Rattle.lists.specs.Order.{All, filtered}
use Rattle.lists.specs.Paging.{Enumerates, put, entries_for}
use Rattle.table.specs.Codes.{first_code}
use Rattle.lists.specs.Strings.{before, after}
use Rattle.table.specs.Meaning.{Table, steps_of}
use Rattle.table.proofs.Packing.{unpacked-packed}
use Rattle.lists.proofs.Filter.{all-filtered}
use Rattle.lists.proofs.Strings.{before-irrefl, before-trans}
use Rattle.table.proofs.CodeList.{rising-codes, Bytes, codes-bytes}
use Rattle.table.proofs.CodePositions.{all_after}
use Rattle.audit.specs.Audit.{Finding, complete_codes, cause_of, finding_of, next_bytes, pageable_codes}
use Rattle.audit.specs.Demand.{list_up_to}

-- the next code is the first of those after the position
first-bytes : (l : List (List ℕ)) → All (Bytes 4) l → next_bytes (first_code l) ≡ head? l
first-bytes [] h = refl
first-bytes (s ∷ l) h = ap some (unpacked-packed s h.0.bytes h.0.short)

module _ (t : Table) (fallback : Bool) where
  pub codes-lawful : Enumerates (pageable_codes t fallback) (complete_codes t)
  unfolding pageable_codes
  codes-lawful =
      let bytes = codes-bytes (steps_of t) 4 0 in
      record {
        rising = rising-codes (steps_of t) 4 0;
        irrefl = before-irrefl;
        trans = before-trans;
        next-is = λ p. first-bytes (after p (complete_codes t)) (all-filtered (before p) (Bytes 4) (complete_codes t) bytes);
        begins = all_after (steps_of t) 0;
      }

  -- a position cuts the plain list where it cuts the codes
  pub list-up-to : (p : List ℕ) (l : List (List ℕ)) → list_up_to p (entries_for (pageable_codes t fallback) l) ≡ entries_for (pageable_codes t fallback) (filtered (λ c. not (before p c)) l)
  unfolding filtered entries_for pageable_codes
  list-up-to p [] = refl
  list-up-to p (c ∷ l) = go (cause_of t fallback c) refl (before p c) refl (list-up-to p l)
    where
      go : (w : ℕ) → cause_of t fallback c ≡ w → (b : Bool) → before p c ≡ b → list_up_to p (entries_for (pageable_codes t fallback) l) ≡ entries_for (pageable_codes t fallback) (filtered (λ c. not (before p c)) l)
          → list_up_to p (put (finding_of c w) (entries_for (pageable_codes t fallback) l)) ≡ entries_for (pageable_codes t fallback) (pick (not b) (c ∷ filtered (λ c. not (before p c)) l) (filtered (λ c. not (before p c)) l))
      go zero cw true e ih = ih
      go zero cw false e ih = rw cw ih
      go (suc w) cw true e ih = rw e ih
      go (suc w) cw false e ih = rw (e, cw) (ap (λ (m : List Finding). record { code = c; cause = suc w } ∷ m) ih)
