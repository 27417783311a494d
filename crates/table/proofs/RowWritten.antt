-- What is read as a state row is a row of the grammar.
use Rattle.table.specs.Header.{ReadValue}
use Rattle.std.specs.Prelude.{Option, Some, None}
use Prim.Native.Nat.{ℕ, zero, suc, ◌+◌, ◌*◌}
use mathlib.Core.Path.{◌≡◌, refl, ap, ◌∙◌}
use mathlib.Core.Logic.{◌⊎◌, inl, inr}
use mathlib.Core.List.{List, [], ◌∷◌}
use mathlib.Core.Bool.{Bool, true, false}
use native.Mathlib.Omega.{arith}
use lib.ListN.{length, drop}
use lib.Dec.{ltb, leb, eqb}
use borrow.Author.Tests.{ltb-true, leb-true}
use Rattle.lists.specs.Pick.{pick}
use Rattle.lists.specs.Ascii.{ascii}
use Rattle.lists.proofs.Laws.{clash}
use Rattle.lists.proofs.Cases.{pick-case}
use Rattle.table.specs.Grammar.{Blanks, Token, Number, To, Next, Letter, Kind, EntryText, MoreEntries, Entries, Opened, RowValue}
use Rattle.table.specs.Text.{digit_of, byte_of, skip_at, number_at}
use Rattle.lists.specs.Strings.{begins}
use Rattle.table.specs.Row.{to_at, next_at, letter_at, end_at, entry_sep, entry_end, entry_next, entry_to, entry_from, entry_at, entries_go, well_go, entries_at, well_at, comma_at, open_at, entries_from, entries_of, unbuilt_entry, over_entry}
use Rattle.lists.specs.Tests.{any_of}
use Rattle.table.specs.Header.{row_from, row_in, value_of}
use Rattle.table.proofs.Tokens.{at_byte, skip_at⇒Blanks, drop⇒Token, byte_of⇒Token, begins⇒Token, digit-inside, hex_from, hex_from⇒Hex}
use Rattle.table.proofs.RowRead.{ValueForm, Optional, optional_at, entry-bare}
use Rattle.table.specs.declared.value.Key.TheVariants.{State}
use Rattle.table.specs.declared.value.Value.TheVariants.{Row}
use Rattle.table.specs.Row.{Entry, ReadEntry}

-- what a reader of a part answers is such a part
abbrev Part : ValueForm → List ℕ → ℕ → Option (ℕ × ℕ) → Type 0
Part X s q None = Unit {0}
Part X s q (Some (v, e)) = X v (drop q s) (drop e s)

number-written : (s : List ℕ) (q : ℕ) → Part Number s q (number_at s (skip_at s q))
unfolding number_at hex_from
number-written s q =
    pick-case (Part Number s q) (ltb (digit_of x) 16) _ _
    (λ i. let a = ltb-true (digit_of x) 16 i in
    let h = at_byte s p (p + 1) x refl refl (digit-inside x a) in
    pick-case (Part Number s q) (ltb (digit_of y) 16) _ _
    (λ j. let b = ltb-true (digit_of y) 16 j in
    let k = at_byte s (p + 1) (p + 2) y (omega arith) refl (digit-inside y b) in (
      x ∷ y ∷ [],
      (omega arith, omega arith, hex_from⇒Hex 0 (x ∷ y ∷ []) (digit_of x * 16 + digit_of y) (a, (b, tt)) (omega arith)),
      drop⇒Token s q (p + 2) (x ∷ y ∷ []) (h ∙ ap (λ (l : List ℕ). x ∷ l) k),
    ))
    (λ _. (x ∷ [], (omega arith, omega arith, hex_from⇒Hex 0 (x ∷ []) (digit_of x) (a, tt) (omega arith)), drop⇒Token s q (p + 1) (x ∷ []) h)))
    (λ _. tt)
  where
    p : ℕ
    p = skip_at s q

    x : ℕ
    x = byte_of s p

    y : ℕ
    y = byte_of s (p + 1)

-- a sign and such a part, or none
module _ (x : ℕ) (X : ValueForm) (none : ℕ) (s : List ℕ) where
  optional-part : (q z : ℕ) (n : Option (ℕ × ℕ)) → Token (x ∷ []) (drop q s) (drop z s) → Part X s z n → Part (Optional x X none) s q n
  optional-part q z None k a = tt
  optional-part q z (Some (v, e)) k a = inl (drop z s, k, a)

  optional-written : (f : ℕ → Option (ℕ × ℕ)) → (x ≡ 256 → ⊥) → ((z : ℕ) → Part X s z (f z)) → (q : ℕ)
      → Part (Optional x X none) s q (optional_at x f none s q)
  optional-written f n g q =
      pick-case (Part (Optional x X none) s q) (eqb (byte_of s (skip_at s q)) x) _ _
      (λ e. optional-part q (skip_at s q + 1) (f (skip_at s q + 1)) (byte_of⇒Token s q x e n) (g (skip_at s q + 1)))
      (λ _. inr (refl, refl))

to-written : (s : List ℕ) (lo q : ℕ) → Part (To lo) s q (to_at s lo q)
unfolding to_at
to-written s lo q = optional-written 45 Number lo s (λ p. number_at s (skip_at s p)) (λ e. omega arith) (number-written s) q

next-written : (s : List ℕ) (q : ℕ) → Part Next s q (next_at s q)
unfolding next_at
next-written s q = optional-written 58 Number 256 s (λ p. number_at s (skip_at s p)) (λ e. omega arith) (number-written s) q

letter-written : (s : List ℕ) (q : ℕ) → Part Letter s q (letter_at s q (skip_at s q))
unfolding letter_at
letter-written s q =
    pick-case P (eqb (byte_of s (skip_at s q)) 112) _ _ (λ e. inl (refl, byte_of⇒Token s q 112 e (λ x. omega arith)))
    (λ _. pick-case P (eqb (byte_of s (skip_at s q)) 117) _ _ (λ e. inr (inl (refl, byte_of⇒Token s q 117 e (λ x. omega arith))))
    (λ _. pick-case P (eqb (byte_of s (skip_at s q)) 105) _ _ (λ e. inr (inr (inl (refl, byte_of⇒Token s q 105 e (λ x. omega arith)))))
    (λ _. pick-case P (eqb (byte_of s (skip_at s q)) 115) _ _ (λ e. inr (inr (inr (inl (refl, byte_of⇒Token s q 115 e (λ x. omega arith))))))
    (λ _. inr (inr (inr (inr (refl, refl))))))))
  where
    P : Option (ℕ × ℕ) → Type 0
    P n = Part Letter s q n

kind-written : (s : List ℕ) (q : ℕ) → Part Kind s q (end_at s q)
unfolding end_at
kind-written s q = optional-written 46 Letter 0 s (λ p. letter_at s p (skip_at s p)) (λ e. omega arith) (letter-written s) q

-- ## Entries

-- an entry and what is behind it
abbrev ReadEntryOf : List ℕ → ℕ → ReadEntry → Type 0
ReadEntryOf s q None = Unit {0}
ReadEntryOf s q (Some (c, None)) = (r : List ℕ) × EntryText c (drop q s) r × Blanks r
ReadEntryOf s q (Some (c, Some z)) = (r : List ℕ) × EntryText c (drop q s) r × Token (ascii ",") r (drop z s)

sep-written : (s : List ℕ) (q z : ℕ) (c : Entry) → EntryText c (drop q s) (drop z s) → ReadEntryOf s q (entry_sep s c (skip_at s z))
unfolding entry_sep
sep-written s q z c i =
    pick-case (ReadEntryOf s q) (leb (length s) (skip_at s z)) _ _ (λ e. (drop z s, i, skip_at⇒Blanks s z (leb-true (length s) (skip_at s z) e)))
    (λ _. pick-case (ReadEntryOf s q) (eqb (byte_of s (skip_at s z)) 44) _ _
    (λ e. (drop z s, i, byte_of⇒Token s z 44 e (λ x. omega arith))) (λ _. tt))

module _ (s : List ℕ) (q : ℕ) where
  end-entry : (lo q1 hi q2 n q3 : ℕ) (x : Option (ℕ × ℕ)) → Number lo (drop q s) (drop q1 s) → To lo hi (drop q1 s) (drop q2 s)
      → Next n (drop q2 s) (drop q3 s) → Part Kind s q3 x → ReadEntryOf s q (entry_end s lo hi n x)
  end-entry lo q1 hi q2 n q3 None a b c d = tt
  end-entry lo q1 hi q2 n q3 (Some (k, z)) a b c d =
      sep-written s q z (record { lo = lo; hi = hi; next = n; kind = k })
      (record { behind-lo = drop q1 s; behind-hi = drop q2 s; behind-next = drop q3 s; lo = a; hi = b; next = c; kind = d })

  next-entry : (lo q1 hi q2 : ℕ) (x : Option (ℕ × ℕ)) → Number lo (drop q s) (drop q1 s) → To lo hi (drop q1 s) (drop q2 s)
      → Part Next s q2 x → ReadEntryOf s q (entry_next s lo hi x)
  next-entry lo q1 hi q2 None a b c = tt
  next-entry lo q1 hi q2 (Some (n, q3)) a b c = end-entry lo q1 hi q2 n q3 (end_at s q3) a b c (kind-written s q3)

  to-entry : (lo q1 : ℕ) (x : Option (ℕ × ℕ)) → Number lo (drop q s) (drop q1 s) → Part (To lo) s q1 x → ReadEntryOf s q (entry_to s lo x)
  to-entry lo q1 None a b = tt
  to-entry lo q1 (Some (hi, q2)) a b = next-entry lo q1 hi q2 (next_at s q2) a b (next-written s q2)

  from-entry : (x : Option (ℕ × ℕ)) → Part Number s q x → ReadEntryOf s q (entry_from s x)
  from-entry None a = tt
  from-entry (Some (lo, q1)) a = to-entry lo q1 (to_at s lo q1) a (to-written s lo q1)

  entry-written : ReadEntryOf s q (entry_at s q)
  unfolding entry_at
  entry-written = from-entry (number_at s (skip_at s q)) (number-written s q)

entries-behind : (es : List Entry) (r t : List ℕ) → Token (ascii ",") r t → Entries es t → MoreEntries es r
entries-behind [] r t k a = absurd a
entries-behind (e ∷ es) r t k (n, i, a) = (t, n, k, i, a)

go-written : (f : ℕ) (s : List ℕ) (q : ℕ) (x : ReadEntry) → ReadEntryOf s q x → well_go f s x ≡ true → Entries (entries_go f s x) (drop q s)
unfolding well_go entries_go
go-written zero s q None i w = absurd (clash w refl)
go-written zero s q (Some (c, None)) i w = i
go-written zero s q (Some (c, Some z)) i w = absurd (clash w refl)
go-written (suc f) s q None i w = absurd (clash w refl)
go-written (suc f) s q (Some (c, None)) i w = i
go-written (suc f) s q (Some (c, Some z)) (r, i, k) w =
    (r, i, entries-behind (entries_go f s (entry_at s z)) r (drop z s) k (go-written f s z (entry_at s z) (entry-written s z) w))

-- where every entry from a place on has its form, they are the grammar's
entries-written : (s : List ℕ) (q : ℕ) → well_at s q ≡ true → Entries (entries_at s q) (drop q s)
unfolding well_at entries_at
entries-written s q w = go-written (length s) s q (entry_at s q) (entry-written s q) w

-- ## Rows

-- behind what opens a row, entries make it a row
abbrev Opens : List ℕ → Option (ℕ × ℕ) → Type 0
Opens v None = Unit {0}
Opens v (Some (k, q)) = well_at v q ≡ true → RowValue k (entries_at v q) v

plain-opens : (v : List ℕ) → Opens v (Some (0, skip_at v 0))
unfolding well_at entries_at
plain-opens v = rw (entry-bare v 0) (λ w. inl (refl, inr (entries-written v 0 w)))

word-opens : (v w : List ℕ) (k at : ℕ) → ((es : List Entry) → Opened w es v → RowValue k es v) → Token w v (drop at v)
    → Opens v (comma_at v k (skip_at v at))
unfolding comma_at
word-opens v w k at f t =
    let q : ℕ = skip_at v at + 1 in
    pick-case (Opens v) (eqb (byte_of v (skip_at v at)) 44) _ _
    (λ e a. f (entries_at v q) (drop at v, drop q v, t, byte_of⇒Token v at 44 e (λ x. omega arith), entries-written v q a))
    (λ _. tt)

open-written : (v : List ℕ) → Opens v (open_at v (skip_at v 0))
unfolding open_at
open-written v =
    pick-case (Opens v) (begins (ascii "initial") (drop (skip_at v 0) v)) _ _
    (λ e. word-opens v (ascii "initial") 1 (skip_at v 0 + 7) (λ es o. inr (inl (refl, o))) (begins⇒Token v 0 (ascii "initial") e))
    (λ _. pick-case (Opens v) (begins (ascii "surrogates") (drop (skip_at v 0) v)) _ _
    (λ e. word-opens v (ascii "surrogates") 2 (skip_at v 0 + 10) (λ es o. inr (inr (refl, o))) (begins⇒Token v 0 (ascii "surrogates") e))
    (λ _. plain-opens v))

-- x is no row, or v is the grammar's row of these entries and x says of it what they do
abbrev RowOf : List ℕ → List Entry → ReadValue → Type 0
RowOf v es x =
    (x ≡ None)
    ⊎ ((k : ℕ) × (l : Bool) × (o : Bool) × (x ≡ Some (Row k l o)) × RowValue k es v × (l ≡ any_of unbuilt_entry es) × (o ≡ any_of over_entry es))

from-cases : (v : List ℕ) (n : Option (ℕ × ℕ)) → Opens v n → RowOf v (entries_from v n) (row_from v n)
unfolding row_from entries_from
from-cases v None h = inl refl
from-cases v (Some (k, q)) h =
    pick-case (RowOf v (entries_at v q)) (well_at v q) _ _
    (λ w. inr (k, any_of unbuilt_entry (entries_at v q), any_of over_entry (entries_at v q), refl, h w, refl, refl)) (λ _. inl refl)

-- a value is no row, or the grammar's row of the entries that are read
abbrev pub RowCase : List ℕ → Type 0
RowCase v =
    (value_of State v ≡ None)
    ⊎ ((k : ℕ) × (l : Bool) × (o : Bool) × (value_of State v ≡ Some (Row k l o)) × RowValue k (entries_of v) v
    × (l ≡ any_of unbuilt_entry (entries_of v)) × (o ≡ any_of over_entry (entries_of v)))

pub row-cases : (v : List ℕ) → RowCase v
unfolding value_of row_in entries_of any_of
row-cases v = by_end (leb (length v) (skip_at v 0)) refl
  where
    by_end : (x : Bool) → leb (length v) (skip_at v 0) ≡ x
        → RowOf v (pick x [] (entries_from v (open_at v (skip_at v 0)))) (pick x (Some (Row 0 false false)) (row_from v (open_at v (skip_at v 0))))
    by_end true e = inr (0, false, false, refl, inl (refl, inl (refl, skip_at⇒Blanks v 0 (leb-true (length v) (skip_at v 0) e))), refl, refl)
    by_end false e = from-cases v (open_at v (skip_at v 0)) (open-written v)
