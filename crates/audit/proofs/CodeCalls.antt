-- Calls on a table, one after the other: all that demand 3 claims of them, from the paging theorem.
use Prim.Native.Nat.{ℕ}
use native.Mathlib.Omega.{arith}
use mathlib.Core.Path.{◌≡◌, sym, ap, ◌∙◌, subst, refl}
use mathlib.Core.Bool.{Bool, true}
use mathlib.Core.Logic.{◌⊎◌, inl, inr, ◌↔◌}
use mathlib.Core.List.{List, [], ◌∷◌, map}
use lib.Dec.{eqb}
use lib.ListN.{length}
use borrow.Author.Tests.{ne_eqb}
use Rattle.lists.specs.Order.{All, In}
use Rattle.lists.specs.Paging.{Pageable, map_entries, page_from, Place, up_to as up_to_in}
use Rattle.lists.specs.Calls.{Call, Chain, last_position}
use Rattle.lists.specs.loops.PagedCalls.{AsListed, IsPosition, PagedCalls}
use Rattle.lists.proofs.Laws.{and_yes}
use Rattle.lists.proofs.Cases.{pick_yes, pick_no}
use Rattle.lists.proofs.Order.{All-⇒, All-In⁻, All-map⁺}
use Rattle.lists.proofs.Calls.{paged-calls}
use Rattle.table.specs.Limits.{limits}
use Rattle.table.specs.States.{end_kind, is_code}
use Rattle.table.specs.Codes.{packed, code_of, bytes_of, AllByte}
use Rattle.table.specs.Meaning.{Table, steps_of}
use Rattle.table.specs.Rules.{Keeps}
use Rattle.table.specs.Stored.{padded}
use Rattle.table.specs.declared.states.Code.{Code}
use Rattle.table.proofs.Packing.{unpacked-packed, packed-padded}
use Rattle.table.proofs.KeptSizes.{kept-sizes}
use Rattle.table.proofs.FormTested.{code-length}
use Rattle.table.proofs.CodeList.{CompleteCode, codes-are-codes, codes-whole, rising-codes}
use Rattle.table.proofs.CodePositions.{none-code, code-none}
use Rattle.audit.specs.Audit.{Finding, Answer, ending_number, complete_codes, plain_list, pageable_codes, looked, is_position, audit_on}
use Rattle.audit.specs.Demand.{beginning, AuditCall, calls_of, list_up_to, Claims}
use Rattle.audit.proofs.CodePages.{codes-lawful, list-up-to}
use Rattle.lists.specs.Strings.{up_to}
use Rattle.table.specs.declared.states.EndKind.{EndKind}
use Rattle.std.specs.Prelude.{Option, Some, None, is_some}

module _ (t : Table) (fallback : Bool) where
  abbrev codes : List (List ℕ)
  codes = complete_codes t

  abbrev codes_in : Pageable (List ℕ) Finding (List ℕ)
  codes_in = pageable_codes t fallback

  complete : (s : List ℕ) → In s codes → CompleteCode (steps_of t) 4 0 s
  complete s i = All-In⁻ (CompleteCode (steps_of t) 4 0) s codes (codes-are-codes (steps_of t) 4 0) i

  is-code : (s : List ℕ) → (end_kind (steps_of t) 0 s ≡ None → ⊥) → is_code (steps_of t) 0 s ≡ true
  is-code s h = go (end_kind (steps_of t) 0 s) h
    where
      go : (o : Option EndKind) → (o ≡ None → ⊥) → is_some o ≡ true
      go None h = absurd (h refl)
      go (Some kind) h = refl

  -- the beginning, or a complete code
  abbrev Position : List ℕ → Type 0
  Position p = (p ≡ []) ⊎ In p codes

  place-position : (p : List ℕ) → Place codes_in codes p → Position p
  unfolding pageable_codes
  place-position p (inl e) = inl e
  place-position p (inr h) = inr (subst (λ (x : List ℕ). In x codes) (sym h.2) h.1)

  position-bytes : (p : List ℕ) → Position p → bytes_of (code_of p) ≡ p
  position-bytes p (inl e) = subst (λ (x : List ℕ). bytes_of (code_of x) ≡ x) (sym e) (ap bytes_of none-code ∙ code-none)
  position-bytes p (inr i) = let c = complete p i in unpacked-packed p c.bytes c.short

  position-tested : (p : List ℕ) → Position p → is_position (steps_of t) (code_of p) ≡ true
  unfolding is_position
  position-tested p (inl e) = subst (λ (x : List ℕ). is_position (steps_of t) (code_of x) ≡ true) (sym e) (ap (is_position (steps_of t)) none-code)
  position-tested p (inr i) =
      let c = complete p i in
      pick_no (eqb (length p) 0) _ _ (ne_eqb (length p) 0 (λ e. omega (arith, c.some)))
      ∙ and_yes (padded (length p) (packed p)) _ (packed-padded p c.bytes c.some c.short)
      (subst (λ (x : List ℕ). is_code (steps_of t) 0 x ≡ true) (sym (position-bytes p (inr i))) (is-code p c.ends))

  -- a call on the table at a position is a page
  call-is : (p : List ℕ) → Position p → (allowance space : ℕ)
      → audit_on t fallback (code_of p) allowance space ≡ looked (page_from codes_in allowance space p)
  unfolding audit_on
  call-is p h allowance space =
      pick_yes (is_position (steps_of t) (code_of p)) _ _ (position-tested p h)
      ∙ ap (λ (x : List ℕ). looked (page_from codes_in allowance space x)) (position-bytes p h)

  codes-are : Keeps limits t → (s : List ℕ) → In s codes ↔ (AllByte s × (is_code (steps_of t) 0 s ≡ true))
  codes-are k s =
      let m = (kept-sizes limits t k).most in
      ((λ i. ((complete s i).bytes, is-code s (complete s i).ends)), (λ h. codes-whole (steps_of t) t.max 0 s k.so_far.rule3 m h.0 (code-length (steps_of t) s h.1).0))

  -- calls that represent an entry by `number`
  module _ {F : Type 0} (number : Finding → F) where
    -- a call answered as the definition has it on the table
    abbrev answer : Call F Code → Answer
    answer c = audit_on t fallback c.came c.allowance c.space

    abbrev pub OnTable : AuditCall F → Type 0
    OnTable c = (c.ending ≡ (answer c.paged).ending) × (c.paged.page ≡ map_entries number (answer c.paged).page)

    answer-is : (c : Call F Code) (p : List ℕ) → Place codes_in codes p → c.came ≡ code_of p
        → answer c ≡ looked (page_from codes_in c.allowance c.space p)
    answer-is c p w e =
        ap (λ (q : Code). audit_on t fallback q c.allowance c.space) e ∙ call-is p (place-position p w) c.allowance c.space

    as-listed : (c : AuditCall F) → OnTable c → AsListed codes_in codes number code_of c.paged
    as-listed c h p w e = h.1 ∙ ap (λ (a : Answer). map_entries number a.page) (answer-is c.paged p w e)

    not-refused : (c : AuditCall F) → OnTable c → IsPosition codes_in codes code_of c.paged.came → ending_number c.ending ≡ 0
    not-refused c h (p, w, e) = ap ending_number (h.0 ∙ ap (λ (a : Answer). a.ending) (answer-is c.paged p w e))

    none-refused : (cs : List (AuditCall F)) → All OnTable cs → All (λ c. IsPosition codes_in codes code_of c.came) (calls_of cs)
        → All (λ c. ending_number c.ending ≡ 0) cs
    none-refused [] h w = tt
    none-refused (c ∷ cs) h w = (not-refused c h.0 w.0, none-refused cs h.1 w.1)

    -- calls one after the other from the beginning
    module _ (k : Keeps limits t) (cs : List (AuditCall F)) (ch : Chain beginning (calls_of cs)) (on : All OnTable cs) where
      abbrev calls : List (Call F Code)
      calls = calls_of cs

      paged : PagedCalls codes_in codes number code_of bytes_of calls
      unfolding pageable_codes
      paged =
          paged-calls codes_in codes (codes-lawful t fallback) number code_of bytes_of (λ p w. position-bytes p (place-position p w)) calls
          (subst (λ (c : Code). Chain c calls) (sym none-code) ch)
          (All-map⁺ (λ c. c.paged) (AsListed codes_in codes number code_of) cs (All-⇒ as-listed cs on))

      known : (q : Code) → IsPosition codes_in codes code_of q → (q ≡ beginning) ⊎ In (bytes_of q) codes
      known q (p, w, e) = go (place-position p w)
        where
          go : Position p → (q ≡ beginning) ⊎ In (bytes_of q) codes
          go (inl z) = inl (e ∙ ap code_of z ∙ none-code)
          go (inr i) = inr (subst (λ (x : List ℕ). In x codes) (sym (ap bytes_of e ∙ position-bytes p (inr i))) i)

      pub table-claims : Claims t fallback number cs
      unfolding pageable_codes plain_list
      table-claims = record {
        unrefused = none-refused cs on paged.came-with;
        entries =
            paged.entries ∙ ap (map number) (sym (list-up-to t fallback (bytes_of (last_position (code_of []) calls)) codes))
            ∙ ap (λ (c : Code). map number (list_up_to (bytes_of (last_position c calls)) (plain_list t fallback))) none-code;
        counts =
            paged.counts ∙ ap (λ (c : Code). length (up_to (bytes_of (last_position c calls)) codes)) none-code;
        each = paged.each;
        finished = paged.finished;
        whole = paged.whole;
        moves = paged.moves;
        positions = All-⇒ (λ c w. known c.page.position w) calls paged.positions;
        unmoved = λ z. subst (λ (c : Code). last_position c calls ≡ c) none-code (paged.unmoved z);
        none_before =
            ap (λ (c : Code). up_to_in codes_in (bytes_of c) codes) (sym none-code)
            ∙ paged.none_before;
        codes-are = codes-are k;
        codes-rise = rising-codes (steps_of t) 4 0;
      }
