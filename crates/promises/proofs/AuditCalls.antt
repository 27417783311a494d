-- Calls of `audit`: on any memory; demand 3, of any list of them on what the load of a text left.
use Prim.Native.Nat.{ℕ}
use mathlib.Core.Path.{◌≡◌, refl, sym, ap, ◌∙◌, subst}
use mathlib.Core.Logic.{◌⊎◌, inl, inr}
use mathlib.Core.Bool.{Bool, true, false}
use mathlib.Core.List.{List, [], ◌∷◌, map}
use lib.ListN.{length, take, drop, length-map}
use lib.Seq.{take_at}
use Rattle.lists.specs.Pick.{pick}
use Rattle.lists.specs.Order.{All}
use Rattle.lists.specs.Paging.{Page, map_entries}
use Rattle.table.specs.Limits.{limits}
use Rattle.table.specs.Meaning.{Table, steps_of}
use Rattle.table.specs.Memory.{table_in}
use Rattle.table.specs.Valid.{valid}
use Rattle.table.specs.Slices.{Slices}
use Rattle.table.specs.declared.valid.Record.{Record}
use Rattle.table.specs.declared.states.Code.{Code}
use Rattle.table.specs.Load.{record_handed}
use Rattle.audit.specs.Audit.{Finding, Answer, Ending, Looked, BadPosition, BadTable, entry_number, page_handed, ending_of, handed_on, space_after}
use Rattle.audit.specs.Audit.{audit_on, audit_tested, is_position, refused, looked}
use Rattle.audit.proofs.Tests.{ending-handed, handed-page}
use Rattle.audit.specs.Demand.{InTurn, Claims}
use Rattle.audit.specs.declared.Audited.{Audited}
use Rattle.audit.proofs.LoadedTable.{Answered, held-claims}
use Rattle.promises.specs.Calls.{LoadCall, left_after, AcceptedAs, AuditFunctionCall, record_audited, slices_audited, fallback_of, position_of}
use Rattle.promises.specs.Calls.{allowance_of, space_lent, space_afterwards}
use Rattle.promises.specs.Words.{AuditsBy, page_in, call_of}
use Rattle.promises.proofs.LoadCalls.{leaves-form}

-- the definition's answer to a call
abbrev answer_to : AuditFunctionCall → Answer
answer_to c = audit_tested limits (record_audited c) (slices_audited c) (fallback_of c) (position_of c) (allowance_of c) (length (space_lent c))

pub audit-answers : (c : AuditFunctionCall) → AuditsBy (answer_to c) c
audit-answers c =
    record {
      result = c.post.0;
      handed = ap (handed_on (position_of c)) c.post.0
          ∙ handed-page (record_audited c) (slices_audited c) (fallback_of c) (position_of c) (allowance_of c) (length (space_lent c));
      space = c.post.1;
      number = c.post.2;
    }

-- ## A refusal

-- an answer: 60, 40, or codes were looked at
either : (pos : Code) (v b : Bool) (page : Page Finding (List ℕ))
    → let a = pick v (pick b (looked page) (refused BadPosition pos)) (refused BadTable pos) in
    (a ≡ refused BadTable pos) ⊎ ((a ≡ refused BadPosition pos) ⊎ (a.ending ≡ Looked))
either pos false b page = inl refl
either pos true false page = inr (inl refl)
either pos true true page = inr (inr refl)

pub tested-either : (rec : Record) (m : Slices) (fallback : Bool) (pos : Code) (allowance space : ℕ)
    → let a = audit_tested limits rec m fallback pos allowance space in
    (a ≡ refused BadTable pos) ⊎ ((a ≡ refused BadPosition pos) ⊎ (a.ending ≡ Looked))
unfolding audit_tested audit_on
tested-either rec m fallback pos allowance space = either pos (valid limits rec m) (is_position (steps_of (table_in rec m)) pos) _

answer-either : (c : AuditFunctionCall)
    → (answer_to c ≡ refused BadTable (position_of c))
    ⊎ ((answer_to c ≡ refused BadPosition (position_of c)) ⊎ ((answer_to c).ending ≡ Looked))
answer-either c = tested-either (record_audited c) (slices_audited c) (fallback_of c) (position_of c) (allowance_of c) (length (space_lent c))

-- how the call ended is the answer's ending
ended : (c : AuditFunctionCall) → ending_of c.result ≡ (answer_to c).ending
ended c = ap ending_of (audit-answers c).result ∙ ending-handed (answer_to c)

-- a refusal leaves the space as it was
refused-by : (c : AuditFunctionCall) (e : Ending) → answer_to c ≡ refused e (position_of c)
    → AuditsBy (refused (ending_of c.result) (position_of c)) c × (space_afterwards c ≡ space_lent c)
refused-by c e h =
    let a = subst (λ (x : Answer). AuditsBy x c) h (audit-answers c) in
    let k : ending_of c.result ≡ e = ended c ∙ ap (λ (x : Answer). x.ending) h in
    (subst (λ (x : Ending). AuditsBy (refused x (position_of c)) c) (sym k) a, a.space)

pub audit-refuses : (c : AuditFunctionCall) → (ending_of c.result ≡ Looked → ⊥)
    → AuditsBy (refused (ending_of c.result) (position_of c)) c × (space_afterwards c ≡ space_lent c)
audit-refuses c h = go (answer-either c)
  where
    go : (answer_to c ≡ refused BadTable (position_of c))
        ⊎ ((answer_to c ≡ refused BadPosition (position_of c)) ⊎ ((answer_to c).ending ≡ Looked))
        → AuditsBy (refused (ending_of c.result) (position_of c)) c × (space_afterwards c ≡ space_lent c)
    go (inl e) = refused-by c BadTable e
    go (inr (inl e)) = refused-by c BadPosition e
    go (inr (inr e)) = absurd (h (ended c ∙ e))

-- ## Demand 3

-- the page that a call handed back is the definition's, with the numbers of its entries
page-is : (a : Answer) (r : Audited) (old new : List ℕ) → r ≡ page_handed a.page → new ≡ space_after a old → page_in r new ≡ map_entries entry_number a.page
page-is a r old new e k =
    let es = a.page.entries in
    let front : take r.written new ≡ map entry_number es =
    (λ i. take (e i).written (k i)) ∙ take_at (map entry_number es) (drop (length es) old) (length es) (length-map es entry_number) in
    (λ i. record { entries = front i; count = (e i).count; position = (e i).position; finished = (e i).finished })

answered : (c : AuditFunctionCall) → Answered entry_number (call_of c)
answered c =
    let a = audit-answers c in
    (ended c, page-is (answer_to c) (handed_on (position_of c) c.result) (space_lent c) (space_afterwards c) a.handed a.space)

all-answered : (cs : List AuditFunctionCall) → All (Answered entry_number) (map call_of cs)
all-answered [] = tt
all-answered (c ∷ cs) = (answered c, all-answered cs)

pub all-clauses : (l : LoadCall) (t : Table) → AcceptedAs l t → (fallback : Bool) (cs : List AuditFunctionCall)
    → InTurn (record_handed l.result) (left_after l) fallback (map call_of cs) → Claims t fallback entry_number (map call_of cs)
all-clauses l t a fallback cs h =
    let f = leaves-form l t a in
    held-claims t f.0 f.1 (record_handed l.result) (left_after l) f.2 fallback entry_number (map call_of cs) h (all-answered cs)
