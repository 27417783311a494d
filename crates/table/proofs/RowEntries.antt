-- The entries that 14 and 15 name: the tests of the reader hold of just these.
use mathlib.Core.Path.{◌≡◌, refl}
use mathlib.Core.Logic.{inl, inr, ◌↔◌}
use mathlib.Core.Bool.{Bool, true, false}
use mathlib.Core.List.{List}
use lib.Dec.{ltb, eqb}
use borrow.Author.Tests.{lt-ltb, eqb-true, eqb-false, ne_eqb, ltb-true}
use Rattle.lists.specs.Pick.{pick}
use Rattle.lists.specs.Order.{All, In}
use Rattle.lists.proofs.Laws.{clash}
use Rattle.lists.proofs.Cases.{pick-case}
use Rattle.lists.proofs.Choice.{pick-true-true}
use Rattle.lists.specs.Tests.{any_of}
use Rattle.table.specs.Row.{unbuilt_entry, over_entry}
use Rattle.table.specs.Grammar.{UnbuiltEntry, OverEntry}
use Rattle.lists.proofs.Tests.{any_of-no⇔, any_of-yes⇔}
use Rattle.table.specs.Row.{Entry}

unbuilt-is : (e : Entry) → (unbuilt_entry e ≡ true) ↔ UnbuiltEntry e
unfolding unbuilt_entry
unbuilt-is e = (there, back)
  where
    there : pick (eqb e.kind 5) true (pick (eqb e.kind 0) false (pick (eqb e.next 256) false (pick (eqb e.next 0) false true))) ≡ true → UnbuiltEntry e
    there =
        pick-case (λ (b : Bool). b ≡ true → UnbuiltEntry e) (eqb e.kind 5) _ _ (λ k _. inl (eqb-true e.kind 5 k))
        (λ _. pick-case (λ (b : Bool). b ≡ true → UnbuiltEntry e) (eqb e.kind 0) _ _ (λ _ h. absurd (clash h refl))
        (λ k. pick-case (λ (b : Bool). b ≡ true → UnbuiltEntry e) (eqb e.next 256) _ _ (λ _ h. absurd (clash h refl))
        (λ n. pick-case (λ (b : Bool). b ≡ true → UnbuiltEntry e) (eqb e.next 0) _ _ (λ _ h. absurd (clash h refl))
        (λ z _. inr (eqb-false e.kind 0 k, eqb-false e.next 256 n, eqb-false e.next 0 z)))))

    back : UnbuiltEntry e → pick (eqb e.kind 5) true (pick (eqb e.kind 0) false (pick (eqb e.next 256) false (pick (eqb e.next 0) false true))) ≡ true
    back (inl k) = rw k
    back (inr (k, n, z)) =
        rw (ne_eqb e.kind 0 k, ne_eqb e.next 256 n, ne_eqb e.next 0 z) (pick-true-true (eqb e.kind 5))

over-is : (e : Entry) → (over_entry e ≡ true) ↔ OverEntry e
unfolding over_entry
over-is e = (there, back)
  where
    there : pick (ltb e.hi e.lo) true (pick (eqb e.next 256) false (ltb 127 e.next)) ≡ true → OverEntry e
    there =
        pick-case (λ (b : Bool). b ≡ true → OverEntry e) (ltb e.hi e.lo) _ _ (λ k _. inl (ltb-true e.hi e.lo k))
        (λ _. pick-case (λ (b : Bool). b ≡ true → OverEntry e) (eqb e.next 256) _ _ (λ _ h. absurd (clash h refl))
        (λ n h. inr (eqb-false e.next 256 n, ltb-true 127 e.next h)))

    back : OverEntry e → pick (ltb e.hi e.lo) true (pick (eqb e.next 256) false (ltb 127 e.next)) ≡ true
    back (inl k) = rw (lt-ltb e.hi e.lo k)
    back (inr (n, k)) = rw (ne_eqb e.next 256 n, lt-ltb 127 e.next k) (pick-true-true (ltb e.hi e.lo))

-- of the entries of a row
pub none-unbuilt : (es : List Entry) → (any_of unbuilt_entry es ≡ false) ↔ All (λ e. UnbuiltEntry e → ⊥) es
none-unbuilt es = any_of-no⇔ unbuilt_entry UnbuiltEntry unbuilt-is es

pub some-unbuilt : (es : List Entry) → (any_of unbuilt_entry es ≡ true) ↔ ((e : Entry) × In e es × UnbuiltEntry e)
some-unbuilt es = any_of-yes⇔ unbuilt_entry UnbuiltEntry unbuilt-is es

pub none_over : (es : List Entry) → (any_of over_entry es ≡ false) ↔ All (λ e. OverEntry e → ⊥) es
none_over es = any_of-no⇔ over_entry OverEntry over-is es

pub some-over : (es : List Entry) → (any_of over_entry es ≡ true) ↔ ((e : Entry) × In e es × OverEntry e)
some-over es = any_of-yes⇔ over_entry OverEntry over-is es
