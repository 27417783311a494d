-- What a call through a rising list leaves and lists: fewer elements are left, and its entries are those of elements.
use Prim.Native.Nat.{ℕ, suc, ◌+◌, ◌≤◌}
use native.Mathlib.Omega.{arith}
use mathlib.Core.Path.{◌≡◌, refl, sym, ap, ◌∙◌, subst}
use mathlib.Core.Bool.{not}
use mathlib.Core.Option.{Option, none, some}
use mathlib.Core.List.{List, [], ◌∷◌}
use lib.ListN.{length, length-append}
use Rattle.lists.specs.Order.{All}
use Rattle.lists.specs.Paging.{Pageable, Enumerates, put, following, up_to, entries_for, page_from}
use Rattle.lists.proofs.Order.{All-⇒}
use Rattle.lists.proofs.Paging.{page_from-done}
use Rattle.lists.proofs.Filter.{filtered-keep, filtered-both}

module _ {A E P : Type 0} (S : Pageable A E P) where
  -- no more entries than elements
  pub length-notes : (l : List A) → length (entries_for S l) ≤ length l
  unfolding entries_for
  length-notes [] = omega arith
  length-notes (a ∷ l) = go (S.note a) (length-notes l)
    where
      go : (o : Option E) → length (entries_for S l) ≤ length l → length (put o (entries_for S l)) ≤ suc (length l)
      go none h = omega arith
      go (some e) h = omega arith

  -- the entries of elements are of a kind
  module _ (Q : A → Type 0) (R : E → Type 0) (f : (a : A) (e : E) → Q a → S.note a ≡ some e → R e) where
    All-notes : (l : List A) → All Q l → All R (entries_for S l)
    unfolding entries_for
    All-notes [] h = tt
    All-notes (a ∷ l) h = go (S.note a) refl (All-notes l h.1)
      where
        go : (o : Option E) → S.note a ≡ o → All R (entries_for S l) → All R (put o (entries_for S l))
        go none e r = r
        go (some x) e r = (f a x h.0 e, r)

module _ {A E P : Type 0} (S : Pageable A E P) (L : List A) (W : Enumerates S L) where
  -- what is left falls by the count
  pub following-falls : (n space : ℕ) (p : P)
      → length (following S (page_from S n space p).position L) + (page_from S n space p).count ≡ length (following S p L)
  following-falls n space p =
      let d = page_from-done S L W n space p in
      let q = (page_from S n space p).position in
      let e : length (up_to S q L) ≡ length (up_to S p L) + length d.looked =
      ap length d.cut ∙ length-append (up_to S p L) d.looked in
      omega (arith, filtered-both (S.after q) L, filtered-both (S.after p) L, d.count)

  -- what it looked at is of the list, and its entries are of those
  pub All-entries : (Q : A → Type 0) (R : E → Type 0) → ((a : A) (e : E) → Q a → S.note a ≡ some e → R e)
      → All Q L → (n space : ℕ) (p : P) → All R (page_from S n space p).entries
  All-entries Q R f h n space p =
      let d = page_from-done S L W n space p in
      let q = (page_from S n space p).position in
      let l : All (λ x. Q x) (following S p L) = All-⇒ (λ x k. k.0) (following S p L) (filtered-keep (S.after p) Q L h) in
      let u : All (λ x. Q x) (up_to S q (following S p L)) =
      All-⇒ (λ x k. k.0) (up_to S q (following S p L)) (filtered-keep (λ x. not (S.after q x)) Q (following S p L) l) in
      subst (All R) (sym d.entries) (All-notes S Q R f d.looked (subst (All Q) d.between u))
