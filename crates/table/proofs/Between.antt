-- Positions in a rising list of codes: the next code, the codes after a position, those up to one, and how many lie between two.
use Prim.Native.Nat.{ℕ, ◌+◌}
use mathlib.Core.Path.{◌≡◌, refl, sym, subst, ◌∙◌, ap}
use mathlib.Core.Bool.{true, false}
use mathlib.Core.List.{List, [], ◌∷◌}
use native.Mathlib.Omega.{arith}
use lib.ListN.{length, length-append}
use Rattle.std.specs.Prelude.{Option, Some, None}
use Rattle.lists.specs.Order.{All}
use Rattle.lists.proofs.Filter.{all-filtered}
use Rattle.table.specs.States.{Rows}
use Rattle.table.specs.Codes.{all_codes, count_between, code_of, bytes_of, first_code, next_of}
use Rattle.lists.specs.Strings.{before, after, up_to}
use Rattle.table.specs.Stored.{padded}
use Rattle.table.specs.declared.states.Code.{Code}
use Rattle.table.specs.Held.{IsNextCode}
use Rattle.table.proofs.Packing.{unpacked-packed, packed-padded}
use Rattle.lists.proofs.Strings.{after_next, up_to-next, after⇒before, after-after, Rising-after, up_to-after-split}
use Rattle.table.proofs.CodeList.{rising-codes, Bytes, codes-bytes, CompleteCode, codes-are-codes}

-- the codes of rows
module _ (step : Rows) (row : ℕ) where
  -- the next code, in bytes, is the first of those after the position
  next-first : (p : List ℕ) (c : Code) → next_of step row p ≡ Some c → (c ≡ code_of (bytes_of c)) × ((k : List (List ℕ)) × (after p (all_codes step row) ≡ bytes_of c ∷ k))
  next-first p c q = go (after p (all_codes step row)) refl (all-filtered (before p) (Bytes 4) (all_codes step row) (codes-bytes step 4 row)) q
    where
      go : (l : List (List ℕ)) → after p (all_codes step row) ≡ l → All (Bytes 4) l → first_code l ≡ Some c → (c ≡ code_of (bytes_of c)) × ((k : List (List ℕ)) × (after p (all_codes step row) ≡ bytes_of c ∷ k))
      go [] e g q = absurd (let z : ◌≡◌ {A = ℕ} 0 1 = cc in omega arith)
      go (s ∷ k) e g q =
          let w : code_of s ≡ c = cc in
          let u : bytes_of c ≡ s = ap bytes_of (sym w) ∙ unpacked-packed s g.0.bytes g.0.short in
          (sym w ∙ ap code_of (sym u), (k, rw u e))

  -- and those after it are the rest
  next-law : (p : List ℕ) (c : Code) → next_of step row p ≡ Some c → after p (all_codes step row) ≡ bytes_of c ∷ after (bytes_of c) (all_codes step row)
  next-law p c q =
      let n = next-first p c q in
      rw (after_next p (bytes_of c) (all_codes step row) n.1.0 (rising-codes step 4 row) n.1.1) n.1.1

  -- it is a complete code, with zeros in its unused bits
  next-complete : (p : List ℕ) (c : Code) → next_of step row p ≡ Some c → CompleteCode step 4 row (bytes_of c)
  next-complete p c q = (subst (All (CompleteCode step 4 row)) (next-law p c q) (all-filtered (before p) (CompleteCode step 4 row) (all_codes step row) (codes-are-codes step 4 row))).0

  pub next-packed : (p : List ℕ) (c : Code) → next_of step row p ≡ Some c → c ≡ code_of (bytes_of c)
  next-packed p c q = (next-first p c q).0

  pub next-padded : (p : List ℕ) (c : Code) → next_of step row p ≡ Some c → padded c.len c.bits ≡ true
  next-padded p c q =
      let k = next-complete p c q in
      subst (λ (x : Code). padded x.len x.bits ≡ true) (sym (next-packed p c q)) (packed-padded (bytes_of c) k.bytes k.some k.short)

  -- the same of what comes next
  pub next-code : (p : List ℕ) (n : Option Code) → n ≡ next_of step row p → IsNextCode n
  next-code p (Some c) e = (next-padded p c (sym e), next-packed p c (sym e))
  next-code p None e = tt

  pub none-next : (p : List ℕ) → after p (all_codes step row) ≡ [] → next_of step row p ≡ None
  none-next p e = ap first_code e

  pub next-later : (p : List ℕ) (c : Code) → next_of step row p ≡ Some c → before p (bytes_of c) ≡ true
  next-later p c q = after⇒before p (bytes_of c) (all_codes step row) (after (bytes_of c) (all_codes step row)) (next-law p c q)

  -- the count between positions: one more at each next code, and from one to the next it adds up
  pub count_code : (p q : List ℕ) (c : Code) → before q p ≡ false → next_of step row q ≡ Some c → count_between step row p (bytes_of c) ≡ count_between step row p q + 1
  count_code p q c h e =
      ap length (up_to-next q (bytes_of c) (after p (all_codes step row)) (after (bytes_of c) (all_codes step row)) (Rising-after p (all_codes step row) (rising-codes step 4 row)) (after-after p q h (all_codes step row) ∙ next-law q c e))
      ∙ length-append (up_to q (after p (all_codes step row))) (bytes_of c ∷ [])

  pub count-splits : (p q r : List ℕ) → before q p ≡ false → before r q ≡ false → count_between step row p q + count_between step row q r ≡ count_between step row p r
  count-splits p q r h k =
      sym (ap length (up_to-after-split p q r h k (all_codes step row) (rising-codes step 4 row)) ∙ length-append (up_to q (after p (all_codes step row))) (up_to r (after q (all_codes step row))))
