-- Laws of state rows as text: how far an entry reaches, entry by entry, the row that results.
use Rattle.std.specs.Prelude.{Option, Some, None}
use mathlib.Core.Path.{◌≡◌, refl, sym, ap, ◌∙◌}
use mathlib.Core.Bool.{Bool, true, false}
use mathlib.Core.List.{List, [], ◌∷◌, map}
use Prim.Native.Nat.{ℕ, zero, suc, ◌+◌, ◌<◌, ◌≤◌}
use native.Mathlib.Omega.{arith}
use lib.Dec.{ltb, leb, eqb}
use lib.ListN.{length, get_or, drop, replicate}
use borrow.Author.Tests.{ltb-true, leb-true, leb-false, eqb-true}
use Rattle.lists.specs.Order.{All}
use Rattle.lists.proofs.Cases.{pick-case}
use Rattle.lists.proofs.Parts.{map-replicate}
use Rattle.table.specs.Cells.{illegal, cell_number}
use Rattle.table.specs.Text.{digit_of, byte_of, skip_at, number_at}
use Rattle.table.specs.Row.{Entry, ReadEntry, to_at, next_at, letter_at, end_at, entry_sep, entry_end, entry_next, entry_to, entry_from, entry_at, entries_go, well_go, entries_at, well_at, meaning, overwritten, open_at, entries_from, entries_of, row_of}
use Rattle.table.proofs.TextLaws.{scan, get_d-out, skip-forth, Forth, forth-past}
use Rattle.table.specs.loops.Coded.{rest_at, well_rest, places_left}
use Rattle.lists.specs.Place.{fill_range}
use Rattle.lists.proofs.Place.{map-spread, length-spread}

module _ (s : List ℕ) (e : Entry) (q : ℕ) where
  pub sep-last : length s ≤ q → entry_sep s e q ≡ Some (e, None)
  unfolding entry_sep
  sep-last h = search scan

  pub sep-more : q < length s → get_or s q 0 ≡ 44 → entry_sep s e q ≡ Some (e, Some (q + 1))
  unfolding entry_sep
  sep-more h g = search scan

overwritten-map : {A B : Type 0} (f : A → B) (value : Entry → A) (es : List Entry) (row : List A)
    → map f (overwritten value es row) ≡ overwritten (λ e. f (value e)) es (map f row)
unfolding overwritten
overwritten-map f value [] row = refl
overwritten-map {A} {B} f value (e ∷ es) row =
    overwritten-map f value es (fill_range e.lo e.hi (value e) row)
    ∙ ap (λ (l : List B). overwritten (λ x. f (value x)) es l) (map-spread f e.lo e.hi (value e) row)

numbers-overwritten : (es : List Entry)
    → overwritten (λ e. cell_number (meaning e)) es (replicate 256 0) ≡ map cell_number (row_of es)
unfolding row_of
numbers-overwritten es =
    sym (overwritten-map cell_number meaning es (replicate 256 illegal)
    ∙ ap (λ (l : List ℕ). overwritten (λ e. cell_number (meaning e)) es l) (map-replicate cell_number 256 illegal))

-- a row of the entries of a text
pub row-written : (s : List ℕ) (es : List Entry) → entries_of s ≡ es
    → overwritten (λ e. cell_number (meaning e)) es (replicate 256 0) ≡ map cell_number (row_of (entries_of s))
row-written s es e = rw e (numbers-overwritten es)

-- overwriting a row from an entry that was read on
pub overwrite-more : {A : Type 0} (value : Entry → A) (f : ℕ) (s : List ℕ) (e : Entry) (q : ℕ) (row : List A)
    → overwritten value (entries_go (suc f) s (Some (e, Some q))) row
    ≡ overwritten value (entries_go f s (entry_at s q)) (fill_range e.lo e.hi (value e) row)
unfolding overwritten entries_go
overwrite-more value f s e q row = refl

-- bounds of an entry: its last byte is a byte, its next row has at most two digits or is none
abbrev pub Bounded : Entry → Type 0
Bounded c = (c.hi < 256) × (c.next ≤ 256)

-- and of where the next one begins, past `at` and within s
abbrev pub ReadFrom : List ℕ → ℕ → ReadEntry → Type 0
ReadFrom s at None = Unit {0}
ReadFrom s at (Some (e, None)) = Bounded e
ReadFrom s at (Some (e, Some q)) = Bounded e × (at < q) × (q ≤ length s)

number-forth : (k : ℕ) (s : List ℕ) (at : ℕ) → 256 ≤ k → Forth k (at + 1) (number_at s at)
unfolding number_at
number-forth k s at le =
    pick-case (Forth k (at + 1)) (ltb (digit_of (byte_of s at)) 16) _ _
    (λ h. let x = ltb-true (digit_of (byte_of s at)) 16 h in
    pick-case (Forth k (at + 1)) (ltb (digit_of (byte_of s (at + 1))) 16) _ _
    (λ l. let y = ltb-true (digit_of (byte_of s (at + 1))) 16 l in (omega arith, omega arith))
    (λ _. (omega arith, omega arith)))
    (λ _. tt)

-- the number after a sign
signed-forth : (k : ℕ) (s : List ℕ) (q : ℕ) → 256 ≤ k → Forth k q (number_at s (skip_at s (skip_at s q + 1)))
signed-forth k s q le =
    let p : ℕ = skip_at s q + 1 in
    forth-past k q (skip_at s p + 1) _ (omega (arith, skip-forth q (drop q s), skip-forth p (drop p s))) (number-forth k s (skip_at s p) le)

module _ (s : List ℕ) where
  to-forth : (from q : ℕ) → from < 256 → Forth 256 q (to_at s from q)
  unfolding to_at
  to-forth from q h =
      pick-case (Forth 256 q) (eqb (byte_of s (skip_at s q)) 45) _ _
      (λ _. signed-forth 256 s q (omega arith)) (λ _. (h, omega arith))

  next-forth : (q : ℕ) → Forth 257 q (next_at s q)
  unfolding next_at
  next-forth q =
      pick-case (Forth 257 q) (eqb (byte_of s (skip_at s q)) 58) _ _
      (λ _. signed-forth 257 s q (omega arith)) (λ _. (omega arith, omega arith))

  letter-forth : (back at : ℕ) → back ≤ at → Forth 6 back (letter_at s back at)
  unfolding letter_at
  letter-forth back at h =
      pick-case P (eqb (byte_of s at) 112) _ _ (λ _. (omega arith, omega arith))
      (λ _. pick-case P (eqb (byte_of s at) 117) _ _ (λ _. (omega arith, omega arith))
      (λ _. pick-case P (eqb (byte_of s at) 105) _ _ (λ _. (omega arith, omega arith))
      (λ _. pick-case P (eqb (byte_of s at) 115) _ _ (λ _. (omega arith, omega arith)) (λ _. (omega arith, omega arith)))))
    where
      P : Option (ℕ × ℕ) → Type 0
      P n = Forth 6 back n

  end-forth : (q : ℕ) → Forth 6 q (end_at s q)
  unfolding end_at
  end-forth q =
      let p : ℕ = skip_at s q + 1 in
      pick-case (Forth 6 q) (eqb (byte_of s (skip_at s q)) 46) _ _
      (λ _. forth-past 6 q p _ (omega (arith, skip-forth q (drop q s))) (letter-forth p (skip_at s p) (skip-forth p (drop p s))))
      (λ _. (omega arith, omega arith))

  -- a comma stands in the text
  comma-inside : (at : ℕ) → eqb (byte_of s at) 44 ≡ true → at < length s
  comma-inside at h = by_end (leb (length s) at) refl
    where
      by_end : (x : Bool) → leb (length s) at ≡ x → at < length s
      by_end true e = absurd (omega (arith, eqb-true (byte_of s at) 44 h, get_d-out s at (leb-true (length s) at e)))
      by_end false e = leb-false (length s) at e

  sep-from : (start : ℕ) (e : Entry) (q : ℕ) → Bounded e → start < q + 1 → ReadFrom s start (entry_sep s e (skip_at s q))
  unfolding entry_sep
  sep-from start e q b h =
      pick-case (ReadFrom s start) (leb (length s) (skip_at s q)) _ _ (λ _. b)
      (λ _. pick-case (ReadFrom s start) (eqb (byte_of s (skip_at s q)) 44) _ _
      (λ k. (b, omega (arith, skip-forth q (drop q s)), omega (arith, comma-inside (skip_at s q) k))) (λ _. tt))

  end-from : (start from to next q : ℕ) (n : Option (ℕ × ℕ)) → to < 256 → next ≤ 256 → start < q → Forth 6 q n
      → ReadFrom s start (entry_end s from to next n)
  end-from start from to next q None h k l f = tt
  end-from start from to next q (Some (end, r)) h k l f =
      sep-from start (record { lo = from; hi = to; next = next; kind = end }) r (h, k) (omega (arith, f.1))

  next-from : (start from to q : ℕ) (n : Option (ℕ × ℕ)) → to < 256 → start < q → Forth 257 q n → ReadFrom s start (entry_next s from to n)
  next-from start from to q None h l f = tt
  next-from start from to q (Some (next, r)) h l f =
      end-from start from to next r (end_at s r) h (omega (arith, f.0)) (omega (arith, f.1)) (end-forth r)

  to-from : (start from q : ℕ) (n : Option (ℕ × ℕ)) → start < q → Forth 256 q n → ReadFrom s start (entry_to s from n)
  to-from start from q None l f = tt
  to-from start from q (Some (to, r)) l f = next-from start from to r (next_at s r) f.0 (omega (arith, f.1)) (next-forth r)

  from-from : (start : ℕ) (n : Option (ℕ × ℕ)) → Forth 256 (start + 1) n → ReadFrom s start (entry_from s n)
  from-from start None f = tt
  from-from start (Some (from, q)) f = to-from start from q (to_at s from q) (omega (arith, f.1)) (to-forth from q f.0)

  pub reads-past : (at : ℕ) → ReadFrom s at (entry_at s at)
  unfolding entry_at
  reads-past at =
      from-from at (number_at s (skip_at s at))
      (forth-past 256 (at + 1) (skip_at s at + 1) _ (omega (arith, skip-forth at (drop at s))) (number-forth 256 s (skip_at s at) (omega arith)))

  go-bounded : (f at : ℕ) (i : ReadEntry) → ReadFrom s at i → All Bounded (entries_go f s i)
  unfolding entries_go
  go-bounded zero at None h = tt
  go-bounded zero at (Some (e, None)) h = (h, tt)
  go-bounded zero at (Some (e, Some q)) h = tt
  go-bounded (suc f) at None h = tt
  go-bounded (suc f) at (Some (e, None)) h = (h, tt)
  go-bounded (suc f) at (Some (e, Some q)) h = (h.0, go-bounded f q (entry_at s q) (reads-past q))

  from_entries : (n : Option (ℕ × ℕ)) → All Bounded (entries_from s n)
  unfolding entries_from entries_at
  from_entries None = tt
  from_entries (Some (k, q)) = go-bounded (length s) q (entry_at s q) (reads-past q)

  pub entries-bounded : All Bounded (entries_of s)
  unfolding entries_of
  entries-bounded =
      pick-case (All Bounded) (leb (length s) (skip_at s 0)) _ _ (λ _. tt) (λ _. from_entries (open_at s (skip_at s 0)))

-- ## Entry by entry

-- fewer places are left behind an entry than at it
pub fewer_left : (s : List ℕ) (at : ℕ) (e : Entry) (next : Option ℕ) → Some (e, next) ≡ entry_at s at
    → places_left (length s) next < places_left (length s) (Some at)
fewer_left s at e None k = omega arith
fewer_left s at e (Some q) k = let i = sym k in let h = rw i at (reads-past s at) in omega (arith, h.1, h.2)

module _ (s : List ℕ) where
  -- more steps than bytes change nothing
  fuel : (f g at : ℕ) (i : ReadEntry) → ReadFrom s at i → length s ≤ f + at → length s ≤ g + at
      → (entries_go f s i ≡ entries_go g s i) × (well_go f s i ≡ well_go g s i)
  unfolding entries_go well_go
  fuel zero zero at i h a b = (refl, refl)
  fuel zero (suc g) at None h a b = (refl, refl)
  fuel zero (suc g) at (Some (e, None)) h a b = (refl, refl)
  fuel zero (suc g) at (Some (e, Some q)) h a b = absurd (omega (arith, h.1, h.2))
  fuel (suc f) zero at None h a b = (refl, refl)
  fuel (suc f) zero at (Some (e, None)) h a b = (refl, refl)
  fuel (suc f) zero at (Some (e, Some q)) h a b = absurd (omega (arith, h.1, h.2))
  fuel (suc f) (suc g) at None h a b = (refl, refl)
  fuel (suc f) (suc g) at (Some (e, None)) h a b = (refl, refl)
  fuel (suc f) (suc g) at (Some (e, Some q)) h a b =
      let r = fuel f g q (entry_at s q) (reads-past s q) (omega (arith, h.1)) (omega (arith, h.1)) in
      (ap (λ (l : List Entry). e ∷ l) r.0, r.1)

  -- the entries from a place on are the one that is read there and those from the next place on
  go-step : (f at : ℕ) (e : Entry) (next : Option ℕ) → f ≡ length s → ReadFrom s at (Some (e, next))
      → (entries_go f s (Some (e, next)) ≡ e ∷ rest_at s next) × (well_go f s (Some (e, next)) ≡ well_rest s next)
  unfolding entries_go well_go entries_at well_at
  go-step zero at e None k h = (refl, refl)
  go-step zero at e (Some q) k h = absurd (omega (arith, h.1, h.2))
  go-step (suc f) at e None k h = (refl, refl)
  go-step (suc f) at e (Some q) k h =
      let r = fuel f (length s) q (entry_at s q) (reads-past s q) (omega (arith, h.1)) (omega arith) in
      (ap (λ (l : List Entry). e ∷ l) r.0, r.1)

  pub entries-step : (at : ℕ) (e : Entry) (next : Option ℕ) → Some (e, next) ≡ entry_at s at
      → (entries_at s at ≡ e ∷ rest_at s next) × (well_at s at ≡ well_rest s next)
  unfolding entries_at well_at
  entries-step at e next k = let h = sym k in rw h (go-step (length s) at e next refl (rw h at (reads-past s at)))

  go-stop : (f : ℕ) → (entries_go f s None ≡ []) × (well_go f s None ≡ false)
  unfolding entries_go well_go
  go-stop zero = (refl, refl)
  go-stop (suc f) = (refl, refl)

  pub entries-stop : (at : ℕ) → None ≡ entry_at s at → (entries_at s at ≡ []) × (well_at s at ≡ false)
  unfolding entries_at well_at
  entries-stop at k = rw (sym k) (go-stop (length s))

pub overwritten-length : {A : Type 0} (value : Entry → A) (cs : List Entry) (n : ℕ) (row : List A) → All (λ c. c.hi < n) cs → length row ≡ n → length (overwritten value cs row) ≡ n
unfolding overwritten
overwritten-length value [] n row h e = e
overwritten-length value (c ∷ cs) n row h e =
    overwritten-length value cs n (fill_range c.lo c.hi (value c) row) h.1
    (length-spread c.lo c.hi (value c) row (omega (arith, h.0)) ∙ e)
