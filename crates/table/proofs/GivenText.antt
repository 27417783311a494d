-- What is read from a text into lent slices is the text's own outcome; the promise of `load` by it.
use Prim.Native.Nat.{ℕ, ◌≤◌}
use mathlib.Core.Path.{◌≡◌, refl, sym, ap, ◌∙◌}
use mathlib.Core.Bool.{Bool, true, false}
use mathlib.Core.List.{List}
use native.Mathlib.Omega.{arith}
use borrow.Author.Tests.{le-ltb}
use lib.Dec.{ltb}
use lib.ListN.{length}
use Rattle.lists.specs.Pick.{pick}
use Rattle.table.specs.Limits.{Limits, needed}
use Rattle.table.specs.Slices.{Slices, Lent}
use Rattle.table.specs.Numbers.{Loaded, answer_number, n1}
use Rattle.table.specs.Load.{Outcome, accepted, refused, Given, untouched, read, load_of, given, given_number, loaded_by, left_in}
use Rattle.lists.proofs.Cases.{pick_no}
use Rattle.table.specs.declared.load.Refusal.TheVariants as refusal
use Rattle.table.proofs.RunSteps.{given-read}

pub given-loaded : (lim : Limits) (text : List ℕ) (m : Slices) (x : Outcome) → given lim text m ≡ read x → load_of lim text ≡ x
unfolding given
given-loaded lim text m x e = go (n1 lim (length m.states) (length m.codes) (length m.infos) (length m.order)) (ltb lim.text (length text)) e
  where
    go : (a b : Bool) → pick a (untouched refusal.MemoryTooSmall) (pick b (untouched refusal.TextTooLong) (read (load_of lim text))) ≡ read x → load_of lim text ≡ x
    go true b e = absurd (let z : ◌≡◌ {A = ℕ} 0 1 = cc in omega arith)
    go false true e = absurd (let z : ◌≡◌ {A = ℕ} 0 1 = cc in omega arith)
    go false false e = cc

-- the number of the answer
given-number : (g : Given) (r : Loaded) → r ≡ loaded_by g → answer_number r ≡ given_number g
given-number g r e = ap answer_number e ∙ go g
  where
    go : (g : Given) → answer_number (loaded_by g) ≡ given_number g
    go (untouched x) = refl
    go (read (accepted t)) = refl
    go (read (refused x k)) = refl

-- the promise of `load`, by what is given
pub promised : (lim : Limits) (g x : Given) (old new : Slices) (r : Loaded) → g ≡ x → r ≡ loaded_by x → new ≡ left_in lim x old
    → (r ≡ loaded_by g) × (answer_number r ≡ given_number g) × (new ≡ left_in lim g old)
promised lim g x old new r e p q =
    let a : r ≡ loaded_by g = p ∙ ap loaded_by (sym e) in
    (a, given-number g r a, q ∙ ap (λ (u : Given). left_in lim u old) (sym e))

-- with slices that are long enough, and no more text than is allowed, the text is read
pub given-lent : (lim : Limits) (text : List ℕ) (old : Slices) → Lent lim old → length text ≤ lim.text
    → given lim text old ≡ read (load_of lim text)
given-lent lim text old h few = given-read lim text old long few
  where
    long : n1 lim (length old.states) (length old.codes) (length old.infos) (length old.order) ≡ false
    long =
        pick_no (ltb (length old.states) (needed lim)) _ _ (le-ltb (length old.states) (needed lim) h.states-long)
        ∙ pick_no (ltb (length old.codes) lim.mappings) _ _ (le-ltb (length old.codes) lim.mappings h.codes-long)
        ∙ pick_no (ltb (length old.infos) lim.mappings) _ _ (le-ltb (length old.infos) lim.mappings h.infos-long)
        ∙ le-ltb (length old.order) lim.mappings h.order-long
