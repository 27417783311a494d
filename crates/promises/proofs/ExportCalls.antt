-- Calls of `oboepond_load` and `oboepond_audit`: what they write with a refusal.
use Prim.Native.Nat.{ℕ}
use mathlib.Core.Path.{◌≡◌, refl, ap, ◌∙◌}
use mathlib.Core.Logic.{◌⊎◌, inl, inr}
use mathlib.Core.Bool.{Bool, true, false}
use mathlib.Core.List.{List, ◌∷◌}
use lib.ListN.{length, drop}
use lib.Dec.{ltb}
use Rattle.lists.specs.Pick.{pick}
use Rattle.table.specs.Limits.{limits}
use Rattle.table.specs.Slices.{slices}
use Rattle.table.specs.declared.valid.Record.{Record}
use Rattle.table.specs.declared.states.Code.{Code}
use Rattle.table.specs.Load.{Given, untouched, read, accepted, refused as text-refused, zero_record, given, given_number, loaded_by, record_handed}
use Rattle.audit.specs.Audit.{Answer, Ending, Looked, BadPosition, BadTable, refused, ending_number, audit_number, space_after, page_handed}
use Rattle.cabi.specs.Exported.{if_fewer, if_short, with_numbers, record_numbers, audited_numbers, audit_exported, record_in, is_on, position_at}
use Rattle.promises.specs.Calls.{LoadExportCall, record_lent, record_after, AuditExportCall, bits_given, length_given}
use Rattle.promises.specs.Calls.{entries_lent, entries_after, results_lent, results_after}
use Rattle.promises.specs.Words.{Zeroed}
use Rattle.promises.proofs.AuditCalls.{tested-either}

-- ## Slices that are long enough

either-done : (a b : Bool) (n : ℕ) → (pick a 70 (pick b 70 n) ≡ 70 → ⊥) → {A : Type 0} (short done : A)
    → pick a short (pick b short done) ≡ done
either-done true b n h short done = absurd (h refl)
either-done false true n h short done = absurd (h refl)
either-done false false n h short done = refl

-- a number that is not 70: neither slice is too short
if_short-done : (k : ℕ) (rec res : List ℕ) (n : ℕ) → (if_short k rec res 70 n ≡ 70 → ⊥) → {A : Type 0} (short done : A)
    → if_short k rec res short done ≡ done
unfolding if_short if_fewer
if_short-done k rec res n h short done = either-done (ltb (length rec) 7) (ltb (length res) k) n h short done

-- ## `oboepond_load`

zero-handed : (g : Given) → (given_number g ≡ 0 → ⊥) → record_handed (loaded_by g) ≡ zero_record
zero-handed (untouched x) h = refl
zero-handed (read (text-refused x k)) h = refl
zero-handed (read (accepted t)) h = absurd (h refl)

pub refused-writes-zeros : (c : LoadExportCall) → (c.result ≡ 0 → ⊥) → (c.result ≡ 70 → ⊥)
    → Zeroed 7 (record_lent c) (record_after c)
refused-writes-zeros c h k =
    let a = c.args in
    let old : List ℕ = record_lent c in
    let res : List ℕ = a.1.1.1.1.1.1.0.now in
    let g : Given = given limits a.0.now (slices a.1.1.0.now a.1.1.1.0.now a.1.1.1.1.0.now a.1.1.1.1.1.0.now) in
    let short : if_short 1 old res 70 (given_number g) ≡ 70 → ⊥ = λ e. k (c.post.0 ∙ e) in
    c.post.1
    ∙ if_short-done 1 old res (given_number g) short old (with_numbers (record_numbers (record_handed (loaded_by g))) old)
    ∙ ap (λ (r : Record). with_numbers (record_numbers r) old)
    (zero-handed g (λ e. h (c.post.0 ∙ if_short-done 1 old res (given_number g) short 70 (given_number g) ∙ e)))

-- ## `oboepond_audit`

-- the definition's answer to a call
abbrev answer_to : AuditExportCall → Answer
answer_to c =
    let a = c.args in
    audit_exported a.0.now (slices a.1.0.now a.1.1.0.now a.1.1.1.0.now a.1.1.1.1.0.now) a.1.1.1.1.1.0 (bits_given c) (length_given c) a.1.1.1.1.1.1.1.1.0 (length (entries_lent c))

-- no entries, the position as it came, not finished, count 0
abbrev RefusedWritten : AuditExportCall → Type 0
RefusedWritten c =
    (results_after c ≡ 0 ∷ bits_given c ∷ length_given c ∷ 0 ∷ 0 ∷ drop 5 (results_lent c))
    × (entries_after c ≡ entries_lent c)

module _ (c : AuditExportCall) (k : c.result ≡ 70 → ⊥) where
  long-enough : {A : Type 0} (short done : A) → if_short 5 c.args.0.now (results_lent c) short done ≡ done
  long-enough = if_short-done 5 c.args.0.now (results_lent c) (audit_number (answer_to c)) (λ e. k (c.post.0 ∙ e))

  refused-by : (e : Ending) → answer_to c ≡ refused e (position_at (bits_given c) (length_given c)) → RefusedWritten c
  refused-by e q =
      let res : List ℕ = results_lent c in
      let old : List ℕ = entries_lent c in (
        c.post.2
            ∙ long-enough res (with_numbers (audited_numbers (page_handed (answer_to c).page)) res)
            ∙ ap (λ (x : Answer). with_numbers (audited_numbers (page_handed x.page)) res) q,
        c.post.1 ∙ long-enough old (space_after (answer_to c) old) ∙ ap (λ (x : Answer). space_after x old) q,
      )

  looked-number : (answer_to c).ending ≡ Looked → c.result ≡ 0
  looked-number e = c.post.0 ∙ long-enough 70 (audit_number (answer_to c)) ∙ ap ending_number e

pub audit-refused-writes : (c : AuditExportCall) → (c.result ≡ 0 → ⊥) → (c.result ≡ 70 → ⊥) → RefusedWritten c
audit-refused-writes c h k =
    let a = c.args in
    go (tested-either (record_in a.0.now) (slices a.1.0.now a.1.1.0.now a.1.1.1.0.now a.1.1.1.1.0.now) (is_on a.1.1.1.1.1.0) pos a.1.1.1.1.1.1.1.1.0 (length (entries_lent c)))
  where
    pos : Code
    pos = position_at (bits_given c) (length_given c)

    go : (answer_to c ≡ refused BadTable pos) ⊎ ((answer_to c ≡ refused BadPosition pos) ⊎ ((answer_to c).ending ≡ Looked))
        → RefusedWritten c
    go (inl e) = refused-by c k BadTable e
    go (inr (inl e)) = refused-by c k BadPosition e
    go (inr (inr e)) = absurd (h (looked-number c k e))
