-- The verdict on a table of conditions that rises by number: the lowest number that holds, or that none does.
use Rattle.table.specs.Header.{ReadValue}
use Rattle.std.specs.Prelude.{Ok, Err}
use Prim.Native.Nat.{ℕ, ◌≤◌}
use mathlib.Core.Path.{◌≡◌, refl, sym, ap}
use mathlib.Core.Bool.{Bool, true, false}
use mathlib.Core.Logic.{inl, inr}
use mathlib.Core.List.{List, [], ◌∷◌}
use native.Mathlib.Omega.{arith}
use lib.Dec.{ltb}
use borrow.Author.Tests.{ltb-true, lt-ltb}
use Rattle.lists.specs.Pick.{pick}
use Rattle.lists.specs.Order.{In, Rising, rises, rises_from}
use Rattle.lists.proofs.Laws.{clash}
use Rattle.lists.proofs.Cases.{pick-case}
use Rattle.lists.proofs.Order.{All-⇒, All-In⁻, rises⇒Rising}
use Rattle.table.specs.Limits.{Limits}
use Rattle.table.specs.Cells.{Cell}
use Rattle.table.specs.Meaning.{Line}
use Rattle.table.specs.Numbers.{Verdict, Cond, cond, refusal_number, is_rule, lowest, in_form, key_conditions, charmap_conditions, mapping_conditions}
use Rattle.table.specs.FirstLine.{NoneHolds, HoldsLowest}
use Rattle.table.specs.declared.value.Key.{Key}
use Rattle.table.specs.Keys.{Keys}
use Rattle.table.specs.declared.load.Refusal.{Refusal}

abbrev pub by_number : Cond → Cond → Bool
by_number c d = ltb (refusal_number c.refusal) (refusal_number d.refusal)

by-number-trans : (b c d : Cond) → by_number b c ≡ true → by_number c d ≡ true → by_number b d ≡ true
by-number-trans b c d p q =
    let x = ltb-true (refusal_number b.refusal) (refusal_number c.refusal) p in
    let y = ltb-true (refusal_number c.refusal) (refusal_number d.refusal) q in
    lt-ltb (refusal_number b.refusal) (refusal_number d.refusal) (omega arith)

-- the tables of document 01's numbers rise
pub key-rises : (lim : Limits) (h : Keys) (n : ℕ) (k : Key) (v : ReadValue) → Rising by_number (key_conditions lim h n k v)
unfolding key_conditions rises rises_from
key-rises lim h n k v = rises⇒Rising by_number by-number-trans (key_conditions lim h n k v) refl

pub charmap-rises : (h : Keys) (rows : List (List Cell)) → Rising by_number (charmap_conditions h rows)
unfolding charmap_conditions rises rises_from
charmap-rises h rows = rises⇒Rising by_number by-number-trans (charmap_conditions h rows) refl

pub mapping-rises : (lim : Limits) (h : Keys) (rows : List (List Cell)) (ls : List Line) (l : Line) → Rising by_number (mapping_conditions lim h rows ls l)
unfolding mapping_conditions rises rises_from
mapping-rises lim h rows ls l = rises⇒Rising by_number by-number-trans (mapping_conditions lim h rows ls l) refl

pub fine-refuse : (x : Refusal) → ◌≡◌ {A = Verdict} (Ok tt) (Err x) → ⊥
fine-refuse x e = let z : ◌≡◌ {A = ℕ} 0 1 = cc in omega arith

-- fine exactly when none holds
pub lowest-fine : (cs : List Cond) → lowest cs ≡ Ok tt → NoneHolds cs
unfolding lowest
lowest-fine [] e = tt
lowest-fine (c ∷ cs) e = go c.holds refl (lowest-fine cs) e
  where
    go : (b : Bool) → c.holds ≡ b → (lowest cs ≡ Ok tt → NoneHolds cs) → pick b (Err c.refusal) (lowest cs) ≡ Ok tt → NoneHolds (c ∷ cs)
    go true p ih q = absurd (fine-refuse c.refusal (sym q))
    go false p ih q = (p, ih q)

pub fine-lowest : (cs : List Cond) → NoneHolds cs → lowest cs ≡ Ok tt
unfolding lowest
fine-lowest [] h = refl
fine-lowest (c ∷ cs) h = rw h.0 (fine-lowest cs h.1)

-- a refusal exactly when it holds with the lowest number
pub lowest-holds : (x : Refusal) (cs : List Cond) → Rising by_number cs → lowest cs ≡ Err x → HoldsLowest x cs
unfolding lowest
lowest-holds x [] r e = absurd (fine-refuse x e)
lowest-holds x (c ∷ cs) r e = go c.holds refl (lowest-holds x cs r.1) e
  where
    go : (b : Bool) → c.holds ≡ b → (lowest cs ≡ Err x → HoldsLowest x cs) → pick b (Err c.refusal) (lowest cs) ≡ Err x → HoldsLowest x (c ∷ cs)
    go true p ih q =
        let e : c.refusal ≡ x = cc in
        let n : refusal_number c.refusal ≡ refusal_number x = ap refusal_number e in
        record {
          holds = inl (λ i. cond (sym e i) (sym p i));
          least = (λ _. omega arith, All-⇒ {Q = λ d. d.holds ≡ true → refusal_number x ≤ refusal_number d.refusal} (λ d m _. let k = ltb-true (refusal_number c.refusal) (refusal_number d.refusal) m in omega arith) cs r.0);
        }
    go false p ih q = let w = ih q in record { holds = inr w.holds; least = (λ m. absurd (clash m p), w.least) }

pub holds-lowest : (x : Refusal) (cs : List Cond) → Rising by_number cs → HoldsLowest x cs → lowest cs ≡ Err x
unfolding lowest
holds-lowest x [] r w = absurd w.holds
holds-lowest x (c ∷ cs) r w = go c.holds refl w.holds (λ i. holds-lowest x cs r.1 (record { holds = i; least = w.least.1 }))
  where
    go : (b : Bool) → c.holds ≡ b → In (cond x true) (c ∷ cs) → (In (cond x true) cs → lowest cs ≡ Err x) → pick b (Err c.refusal) (lowest cs) ≡ Err x
    go true p (inl e) ih = ap Err (sym (ap (λ (d : Cond). d.refusal) e))
    go true p (inr i) ih =
        let a = ltb-true (refusal_number c.refusal) (refusal_number x) (All-In⁻ (λ d. by_number c d ≡ true) (cond x true) cs r.0 i) in
        let b = w.least.0 p in
        absurd (omega arith)
    go false p (inl e) ih = absurd (clash (ap (λ (d : Cond). d.holds) (sym e)) p)
    go false p (inr i) ih = ih i

-- where none holds, none about the grammar does
pub none-in-form : (cs : List Cond) → NoneHolds cs → in_form cs ≡ Ok tt
unfolding in_form
none-in-form [] h = refl
none-in-form (c ∷ cs) h =
    let ih = none-in-form cs h.1 in
    pick-case (λ v. v ≡ Ok tt) (is_rule c.refusal) _ _ (λ _. ih) (λ _. rw h.0 ih)
