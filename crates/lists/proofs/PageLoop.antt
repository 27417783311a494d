-- A loop that pages through a listing and writes each entry as a number into a lent space: where it stands, and what
-- the call gives where it ends.
use Prim.Native.Nat.{ℕ, suc, ◌+◌, ◌-◌, ◌≤◌, ◌<◌, zero-le}
use native.Mathlib.Omega.{arith}
use native.Mathlib.Nat.{zero-add, sub-zero, add-zero}
use native.Mathlib.Numerals.{add-one}
use mathlib.Core.Path.{◌≡◌, refl, sym, ap, ◌∙◌}
use mathlib.Core.Bool.{Bool, true, false}
use mathlib.Core.Option.{none, some}
use mathlib.Core.List.{List, [], ◌∷◌, ◌++◌, map, map-append, append-nil, append_assoc}
use lib.ListN.{length, drop, set, length-append, length-map, length-drop}
use lib.Seq.{append_snoc, set_at, drop-cons}
use Rattle.lists.specs.Paging.{Pageable, Page, stopped_at, counted, look, page_from}
use Rattle.lists.specs.Options.{is_none}

-- a page, after n elements with the entries d
abbrev carried : {E P : Type 0} → ℕ → List E → Page E P → Page E P
carried n d a = record { entries = d ++ a.entries; count = n + a.count; position = a.position; finished = a.finished }

module _ {E P : Type 0} where
  carried-nil : (a : Page E P) → carried 0 [] a ≡ a
  carried-nil a = λ i. record { entries = a.entries; count = zero-add a.count i; position = a.position; finished = a.finished }

  carried_none : (n : ℕ) (d : List E) (a : Page E P) → carried n d (counted none a) ≡ carried (n + 1) d a
  carried_none n d a =
      let e : n + suc a.count ≡ n + 1 + a.count = omega arith in
      λ i. record { entries = d ++ a.entries; count = e i; position = a.position; finished = a.finished }

  carried_some : (n : ℕ) (d : List E) (x : E) (a : Page E P)
      → carried n d (counted (some x) a) ≡ carried (n + 1) (d ++ (x ∷ [])) a
  carried_some n d x a =
      let e : n + suc a.count ≡ n + 1 + a.count = omega arith in
      let g : d ++ (x ∷ a.entries) ≡ (d ++ (x ∷ [])) ++ a.entries =
      sym (append_assoc d (x ∷ []) a.entries) in
      λ i. record { entries = g i; count = e i; position = a.position; finished = a.finished }

-- a page handed back: its position, whether it is finished, how many entries and elements, the space before and after
pub record Handed {E P : Type 0} (number : E → ℕ) (a : Page E P) (q : P) (f : Bool) (used count : ℕ)
    (old new : List ℕ) : Type 0 where
  pub position-is : a.position ≡ q
  pub finished-is : a.finished ≡ f
  pub used-is : length a.entries ≡ used
  pub count-is : a.count ≡ count
  pub space-is : new ≡ map number a.entries ++ drop (length a.entries) old

-- the loop of a call from p stands at q, after `count` elements of an allowance of n, with `used` entries written
pub record Standing {A E P : Type 0} (S : Pageable A E P) (number : E → ℕ) (n : ℕ) (p q : P) (used count : ℕ)
    (old new : List ℕ) : Type 0 where
  pub done : List E
  pub so_far : page_from S n (length old) p ≡ carried count done (page_from S (n - count) (length old - used) q)
  pub used-is : used ≡ length done
  pub space-is : new ≡ map number done ++ drop used old
  pub within : count ≤ n
  pub room : used ≤ length old

module _ {A E P : Type 0} (S : Pageable A E P) (number : E → ℕ) (n : ℕ) (p : P) (old : List ℕ) where
  pub standing-start : Standing S number n p p 0 0 old old
  standing-start = record {
    done = [];
    so_far = rw (sub-zero n, sub-zero (length old)) (sym (carried-nil (page_from S n (length old) p)));
    used-is = refl;
    space-is = refl;
    within = zero-le;
    room = zero-le;
  }

  module _ (q : P) (used count : ℕ) (new : List ℕ) (w : Standing S number n p q used count old new) where
    pub length-standing : length new ≡ length old
    length-standing =
        ap length w.space-is ∙ length-append (map number w.done) (drop used old)
        ∙ rw (length-map, length-drop, ← w.used-is) (omega (arith, w.room))

    pub standing-room : (used ≡ length new → ⊥) → used < length old
    standing-room h = omega (arith, length-standing, w.room)

    opened : count < n
        → page_from S (n - count) (length old - used) q
        ≡ look S q (S.next q) (length old - used) (page_from S (n - (count + 1)))
    unfolding page_from
    opened h = let e : n - count ≡ suc (n - (count + 1)) = omega arith in rw e

    -- the next element needs no entry
    pub standing-passed : (a : A) → count < n → S.next q ≡ some a → S.note a ≡ none
        → Standing S number n p (S.at a) used (count + 1) old new
    standing-passed a h s e = record {
      done = w.done;
      so_far =
          w.so_far ∙ ap (carried count w.done) (opened h ∙ rw (s, e))
          ∙ carried_none count w.done (page_from S (n - (count + 1)) (length old - used) (S.at a));
      used-is = w.used-is;
      space-is = w.space-is;
      within = omega arith;
      room = w.room;
    }

    -- it needs one, which is written
    pub standing-listed : (a : A) (x : E) (v : ℕ) → count < n → S.next q ≡ some a → S.note a ≡ some x
        → used < length old → v ≡ number x
        → Standing S number n p (S.at a) (used + 1) (count + 1) old (set new used v)
    standing-listed a x v h s e l k = record {
      done = w.done ++ (x ∷ []);
      so_far =
          let z : length old - used ≡ suc (length old - (used + 1)) = omega arith in
          w.so_far ∙ ap (carried count w.done) (opened h ∙ rw (s, e, z))
          ∙ carried_some count w.done x (page_from S (n - (count + 1)) (length old - (used + 1)) (S.at a));
      used-is = rw (length-append, ← w.used-is);
      space-is =
          let M : List ℕ = map number w.done in
          let long : length M ≡ used = length-map w.done number ∙ sym w.used-is in
          ap (λ (o : List ℕ). set o used v) (w.space-is ∙ ap (λ (o : List ℕ). M ++ o) (drop-cons old used 0 l))
          ∙ set_at M _ _ v used long
          ∙ rw (map-append, add-one, append_snoc, k);
      within = omega arith;
      room = omega arith;
    }

    ends : (f : Bool) → page_from S (n - count) (length old - used) q ≡ stopped_at q f
        → Handed number (page_from S n (length old) p) q f used count old new
    ends f e =
        let z : page_from S n (length old) p ≡ carried count w.done (stopped_at q f) =
        w.so_far ∙ ap (carried count w.done) e in
        rw z record { position-is = refl; finished-is = refl; used-is = rw append-nil (sym w.used-is); count-is = add-zero count; space-is = rw (append-nil, ← w.used-is) w.space-is }

    -- no element is left; the next needs an entry and there is no space; the allowance is used
    pub standing-over : count < n → S.next q ≡ none
        → Handed number (page_from S n (length old) p) q true used count old new
    standing-over h s = ends true (opened h ∙ rw s)

    pub standing-full : (a : A) (x : E) → count < n → S.next q ≡ some a → S.note a ≡ some x → used ≡ length new
        → Handed number (page_from S n (length old) p) q false used count old new
    standing-full a x h s e u =
        let z : length old - used ≡ 0 = omega (arith, length-standing) in
        ends false (opened h ∙ rw (s, e, z))

    pub standing-spent : n ≤ count → (f : Bool) → f ≡ is_none (S.next q)
        → Handed number (page_from S n (length old) p) q f used count old new
    unfolding page_from
    standing-spent h f e = let z : n - count ≡ 0 = omega arith in ends f (rw (z, e))
