-- The starred cases hold: calls on what the load left are calls on table K, and those are computed.
use Prim.Native.Nat.{ℕ, ◌≤◌}
use mathlib.Core.Path.{◌≡◌, refl, ap, ◌∙◌}
use mathlib.Core.List.{List, map}
use lib.Dec.{lit≤}
use lib.ListN.{length}
use Rattle.lists.specs.Order.{first_of, filtered}
use Rattle.lists.specs.Paging.{page_from}
use Rattle.lists.proofs.Order.{All-⇒, map-≡⁻}
use Rattle.utf.specs.Utf8.{is_scalar, decode_one, encode_of}
use Rattle.utf.specs.Utf32.{encode_in, decode_in, mark_at}
use Rattle.table.specs.States.{cut_from, end_kind}
use Rattle.table.specs.Codes.{scan, codes_from, packed, unpacked, code_of}
use Rattle.lists.specs.Strings.{before, same}
use Rattle.table.specs.Meaning.{flat, steps_on, Table}
use Rattle.table.specs.Limits.{limits}
use Rattle.table.specs.Stored.{padded}
use Rattle.table.specs.Slices.{Slices, Lent}
use Rattle.table.specs.Memory.{record_of}
use Rattle.table.specs.Load.{read, accepted, loaded_by, given}
use Rattle.table.specs.TableK.{k_text, table_k}
use Rattle.table.proofs.GivenText.{given-lent}
use Rattle.table.proofs.TextCases.{k-loaded}
use Rattle.convert.specs.Run.{Run}
use Rattle.convert.specs.Step.{to_sequence, to_plain, to_step, writes, from_plain, from_step}
use Rattle.convert.specs.Convert.{to_run, from_run}
use Rattle.convert.proofs.LoadedText.{to-loaded, from-loaded}
use Rattle.audit.specs.Audit.{Answer, cause_of, pageable_codes, is_position, audit_on}
use Rattle.audit.specs.Cases.{Question, to_unicode, from_unicode, audit, Seen, converts, calls, ask, seen_as, Case, cases, k_loaded, Holds, Starred}
use Rattle.audit.proofs.LoadedTable.{audit-loaded}

-- a call on the table itself, with space for n
abbrev ask_table : Table → ℕ → List ℕ → Question → Seen
ask_table t n out (to_unicode e settings input) = converts (to_run e t settings input n) out
ask_table t n out (from_unicode e settings input) = converts (from_run e t settings input n) out
ask_table t n out (audit fallback position allowance) = calls (code_of position) (audit_on t fallback (code_of position) allowance n) out

-- THE LOAD: K's text in slices that are long enough
k-fits : length k_text ≤ limits.text
unfolding k_text
k-fits = lit≤ tt

k-given : (old : Slices) → Lent limits old → given limits k_text old ≡ read (accepted table_k)
k-given old h = given-lent limits k_text old h k-fits ∙ ap read k-loaded

k-record : loaded_by (read (accepted table_k)) ≡ k_loaded
unfolding table_k record_of packed
k-record = refl

-- THE CALLS on the table, computed
abbrev computed : Case → List ℕ → Seen
computed c out = ask_table table_k c.space out c.question

abbrev expected : Case → List ℕ → Seen
expected c out = seen_as c.reply out

k-cases : map computed cases ≡ map expected cases
unfolding cases table_k first_of page_from is_scalar decode_one encode_of encode_in decode_in mark_at steps_on cut_from end_kind
    scan codes_from before filtered packed unpacked flat same padded to_sequence to_plain to_step writes from_plain from_step cause_of pageable_codes is_position audit_on
k-cases = refl

-- and on what the load left
module _ (old : Slices) (e : given limits k_text old ≡ read (accepted table_k)) where
  asked : (out : List ℕ) (q : Question) → ask old out q ≡ ask_table table_k (length out) out q
  unfolding ask
  asked out (to_unicode scheme settings input) = ap (λ (r : Run). converts r out) (to-loaded k_text old table_k e scheme settings input (length out))
  asked out (from_unicode scheme settings input) = ap (λ (r : Run). converts r out) (from-loaded k_text old table_k e scheme settings input (length out))
  asked out (audit fallback position allowance) =
      ap (λ (a : Answer). calls (code_of position) a out) (audit-loaded k_text old table_k e fallback (code_of position) allowance (length out))

  holds : (c : Case) → computed c ≡ expected c → Holds old c
  holds c k out n = asked out c.question ∙ ap (λ (m : ℕ). ask_table table_k m out c.question) n ∙ (λ i. k i out)

pub starred : Starred
starred old h =
    let e = k-given old h in
    (ap loaded_by e ∙ k-record, All-⇒ (holds old e) cases (map-≡⁻ expected computed cases k-cases))
