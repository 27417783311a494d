-- The loop of an audit call: a code that round-trips is passed, one that does not is listed, and what is handed back where the loop ends.
use Prim.Native.Nat.{ℕ, zero, suc, ◌+◌, ◌≤◌, ◌<◌}
use mathlib.Core.Path.{◌≡◌, refl, sym, ap, ◌∙◌}
use mathlib.Core.Bool.{Bool, true, false, not}
use mathlib.Core.Option.{some}
use mathlib.Core.List.{List}
use lib.ListN.{length, set}
use Rattle.std.specs.Prelude.{Option, Some, None}
use Rattle.std.specs.Option.{is_some}
use Rattle.lists.specs.Paging.{Pageable, Page, page_from}
use Rattle.lists.specs.Options.{is_none}
use Rattle.lists.proofs.PageLoop.{Handed, Standing, standing-passed, standing-listed, standing-over, standing-full, standing-spent}
use Rattle.table.specs.Codes.{code_of, bytes_of, next_of}
use Rattle.table.specs.Meaning.{Table, steps_of}
use Rattle.table.specs.declared.states.Code.{Code}
use Rattle.audit.specs.Audit.{Finding, finding_of, cause_of, next_bytes, pageable_codes, looked, entry_number, page_handed, space_after}
use Rattle.audit.specs.declared.Audited.{Audited}
use Rattle.audit.specs.loops.Inner.{looked_to}

-- no code comes next
pub none-next : (x : Option Code) (b : Bool) → is_some x ≡ not b → b ≡ is_none (next_bytes x)
none-next None true e = refl
none-next None false e = e
none-next (Some c) true e = e
none-next (Some c) false e = refl

finding-some : (c : List ℕ) (w : ℕ) → (w ≡ 0 → ⊥) → finding_of c w ≡ some (record { code = c; cause = w })
finding-some c zero h = absurd (h refl)
finding-some c (suc w) h = refl

-- a page handed back by the function
answered : (a : Page Finding (List ℕ)) (q : Code) (f : Bool) (used count : ℕ) (old new : List ℕ) → q ≡ code_of (bytes_of q) → Handed entry_number a (bytes_of q) f used count old new
    → (r : Audited) → r ≡ looked_to used q f count → (r ≡ page_handed (looked a).page) × (new ≡ space_after (looked a) old)
answered a q f used count old new e h r k =
    let at : q ≡ code_of a.position = e ∙ ap code_of (sym h.position-is) in
    (k ∙ (λ i. looked_to (sym h.used-is i) (at i) (sym h.finished-is i) (sym h.count-is i)), h.space-is)

module _ (t : Table) (fallback : Bool) where
  abbrev codes_in : Pageable (List ℕ) Finding (List ℕ)
  codes_in = pageable_codes t fallback

  -- the loop of a call from p stands at q
  abbrev Walking : ℕ → Code → Code → ℕ → ℕ → List ℕ → List ℕ → Type 0
  Walking n p q used count old new = Standing codes_in entry_number n (bytes_of p) (bytes_of q) used count old new

  abbrev page_in : ℕ → Code → List ℕ → Page Finding (List ℕ)
  page_in n p old = page_from codes_in n (length old) (bytes_of p)

  module _ (codes : Table) (same : codes ≡ t) (n : ℕ) (p : Code) (old : List ℕ) (q : Code) (used count : ℕ) (new : List ℕ)
      (w : Walking n p q used count old new) where
    next-is : (x : Option Code) → x ≡ next_of (steps_of codes) 0 (bytes_of q) → codes_in.next (bytes_of q) ≡ next_bytes x
    unfolding pageable_codes
    next-is x e = ap next_bytes (sym (e ∙ ap (λ (u : Table). next_of (steps_of u) 0 (bytes_of q)) same))

    -- what is handed back where the loop ends here
    abbrev Ends : Bool → Type 0
    Ends f =
        q ≡ code_of (bytes_of q) → (r : Audited) → r ≡ looked_to used q f count
        → (r ≡ page_handed (looked (page_in n p old)).page) × (new ≡ space_after (looked (page_in n p old)) old)

    ends : (f : Bool) → Handed entry_number (page_in n p old) (bytes_of q) f used count old new → Ends f
    ends f h k r e = answered (page_in n p old) q f used count old new k h r e

    module _ (x : Option Code) (e : x ≡ next_of (steps_of codes) 0 (bytes_of q)) where
      pub ends-over : count < n → x ≡ None → Ends true
      ends-over h z = ends true (standing-over codes_in entry_number n (bytes_of p) old (bytes_of q) used count new w h (next-is x e ∙ ap next_bytes z))

      pub ends-spent : n ≤ count → (f : Bool) → f ≡ is_none (next_bytes x) → Ends f
      ends-spent h f k = ends f (standing-spent codes_in entry_number n (bytes_of p) old (bytes_of q) used count new w h f (k ∙ ap is_none (sym (next-is x e))))

      module _ (h : count < n) (c : Code) (found : x ≡ Some c) (why : ℕ) (because : why ≡ cause_of t fallback (bytes_of c)) where
        some_next : codes_in.next (bytes_of q) ≡ some (bytes_of c)
        some_next = next-is x e ∙ ap next_bytes found

        note-is : codes_in.note (bytes_of c) ≡ finding_of (bytes_of c) why
        unfolding pageable_codes
        note-is = ap (finding_of (bytes_of c)) (sym because)

        listed-as : (why ≡ 0 → ⊥) → codes_in.note (bytes_of c) ≡ some (record { code = bytes_of c; cause = why })
        listed-as z = note-is ∙ finding-some (bytes_of c) why z

        pub step-passed : why ≡ 0 → Walking n p c used (count + 1) old new
        unfolding pageable_codes
        step-passed z = standing-passed codes_in entry_number n (bytes_of p) old (bytes_of q) used count new w (bytes_of c) h some_next (note-is ∙ ap (finding_of (bytes_of c)) z)

        pub step-listed : (why ≡ 0 → ⊥) → used < length old → (v : ℕ) → v ≡ entry_number (record { code = bytes_of c; cause = why }) → Walking n p c (used + 1) (count + 1) old (set new used v)
        unfolding pageable_codes
        step-listed z l v k = standing-listed codes_in entry_number n (bytes_of p) old (bytes_of q) used count new w (bytes_of c) (record { code = bytes_of c; cause = why }) v h some_next (listed-as z) l k

        pub ends-full : (why ≡ 0 → ⊥) → used ≡ length new → Ends false
        ends-full z u = ends false (standing-full codes_in entry_number n (bytes_of p) old (bytes_of q) used count new w (bytes_of c) (record { code = bytes_of c; cause = why }) h some_next (listed-as z) u)
