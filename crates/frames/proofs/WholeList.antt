-- The pages of the audit's list together: once there is no more, the lines are those of the plain list, and the sums never wrapped.
use Rattle.std.proofs.Common.{◌≡◌, ℕ, ◌+◌, ◌%◌, ◌<◌, Bool, true, false, List, [], ◌∷◌, ◌++◌, length, sym, refl, ap, ◌∙◌, subst, append_assoc, map-id, arith, length-append}
use Rattle.lists.specs.Order.{All}
use Rattle.lists.specs.Calls.{Chain, joined, summed, last_finished}
use Rattle.lists.proofs.Laws.{clash}
use Rattle.table.specs.Limits.{limits}
use Rattle.table.specs.Meaning.{steps_of}
use Rattle.table.specs.Slices.{Slices}
use Rattle.table.specs.Load.{loaded_by, given, left_in, record_handed}
use Rattle.table.specs.declared.states.Code.{Code}
use Rattle.table.specs.declared.valid.Record.{Record}
use Rattle.table.proofs.CodeCount.{codes-few}
use Rattle.audit.specs.Audit.{Finding, Answer, Ending, Looked, BadPosition, BadTable, plain_list, ending_number}
use Rattle.audit.specs.Demand.{beginning, AuditCall, calls_of, Gets, Claims}
use Rattle.audit.proofs.LoadedTable.{Answered, loaded-claims}
use Rattle.audit.proofs.WholeCount.{list-short, counts_whole}
use Rattle.frames.specs.Lines.{finding_line}
use Rattle.frames.specs.Pages.{finding_lines, page_space, page_in, listed_so_far_after, more_after, listed_of, nothing_yet}
use Rattle.frames.specs.loops.Inputs.{Shown, pages_from, text_of, last_listed}
use Rattle.frames.specs.loops.Inner.{WholeList, ListedWhole}
use Rattle.frames.specs.declared.pages.ListedSoFar.{ListedSoFar}
use Rattle.frames.specs.declared.pages.Listed.{Listed}

-- the audit's calls for pages of these rooms, the first at a position
abbrev calls_for : Record → Slices → Code → List ℕ → List (AuditCall Finding)
calls_for rec m pos [] = []
calls_for rec m pos (room ∷ rooms) =
    let a = page_in rec m pos room in
    record {
      table = rec;
      memory = m;
      fallback = false;
      ending = a.ending;
      paged = record { allowance = 18446744073709551615; space = page_space room; came = pos; page = a.page };
    }
    ∷ calls_for rec m a.page.position rooms

same-all : (rec : Record) (m : Slices) (rooms : List ℕ) (pos : Code) → All (Gets rec m false) (calls_for rec m pos rooms)
same-all rec m [] pos = tt
same-all rec m (room ∷ rooms) pos = ((refl, refl, refl), same-all rec m rooms _)

chained : (rec : Record) (m : Slices) (rooms : List ℕ) (pos : Code) → Chain pos (calls_of (calls_for rec m pos rooms))
chained rec m [] pos = tt
chained rec m (room ∷ rooms) pos = (refl, chained rec m rooms _)

answered : (rec : Record) (m : Slices) (rooms : List ℕ) (pos : Code) → All (Answered (λ f. f)) (calls_for rec m pos rooms)
answered rec m [] pos = tt
answered rec m (room ∷ rooms) pos =
    let a = (page_in rec m pos room).page in
    ((refl, λ i. record { entries = sym (map-id a.entries) i; count = a.count; position = a.position; finished = a.finished }), answered rec m rooms _)

-- the calls, as pages
abbrev answer_of : AuditCall Finding → Answer
answer_of c = record { ending = c.ending; page = c.paged.page }

abbrev shown : ListedSoFar → List (AuditCall Finding) → List Shown
shown done [] = []
shown done (c ∷ l) =
    record { answer = listed_of done (answer_of c); text = finding_lines c.paged.page.entries } ∷ shown (listed_so_far_after done (answer_of c)) l

pages-are : (rec : Record) (m : Slices) (rooms : List ℕ) (done : ListedSoFar) → pages_from rec m done rooms ≡ shown done (calls_for rec m done.position rooms)
unfolding pages_from
pages-are rec m [] done = refl
pages-are rec m (room ∷ rooms) done =
    let a = page_in rec m done.position room in
    ap (λ (l : List Shown). record { answer = listed_of done a; text = finding_lines a.page.entries } ∷ l) (pages-are rec m rooms (listed_so_far_after done a))

lines-append : (l k : List Finding) → finding_lines (l ++ k) ≡ finding_lines l ++ finding_lines k
unfolding finding_lines
lines-append [] k = refl
lines-append (f ∷ l) k =
    ap (λ (s : List ℕ). finding_line f.code f.cause ++ s) (lines-append l k) ∙ sym (append_assoc (finding_line f.code f.cause) (finding_lines l) (finding_lines k))

text-is : (l : List (AuditCall Finding)) (done : ListedSoFar) → text_of (shown done l) ≡ finding_lines (joined (calls_of l))
unfolding text_of joined finding_lines
text-is [] done = refl
text-is (c ∷ l) done =
    ap (λ (s : List ℕ). finding_lines c.paged.page.entries ++ s) (text-is l (listed_so_far_after done (answer_of c)))
    ∙ sym (lines-append c.paged.page.entries (joined (calls_of l)))

-- sums that fit into 64 bits
looked-is : (l : List (AuditCall Finding)) (x : Listed) → x.reached.looked + summed (calls_of l) < 18446744073709551616
    → (last_listed x (shown x.reached l)).reached.looked ≡ x.reached.looked + summed (calls_of l)
unfolding last_listed summed
looked-is [] x h = omega arith
looked-is (c ∷ l) x h =
    let e : (x.reached.looked + c.paged.page.count) % 18446744073709551616 ≡ x.reached.looked + c.paged.page.count = omega arith in
    looked-is l (listed_of x.reached (answer_of c)) (omega arith) ∙ omega arith

listed-is : (l : List (AuditCall Finding)) (x : Listed) → x.reached.listed + length (joined (calls_of l)) < 18446744073709551616
    → (last_listed x (shown x.reached l)).reached.listed ≡ x.reached.listed + length (joined (calls_of l))
unfolding last_listed joined
listed-is [] x h = omega arith
listed-is (c ∷ l) x h =
    let n = length-append c.paged.page.entries (joined (calls_of l)) in
    let e : (x.reached.listed + length c.paged.page.entries) % 18446744073709551616 ≡ x.reached.listed + length c.paged.page.entries = omega arith in
    listed-is l (listed_of x.reached (answer_of c)) (omega arith) ∙ omega arith

-- no more is finished, where no call is refused
finished-by : (e : Ending) (finished : Bool) → ending_number e ≡ 0 → more_after e finished ≡ false → finished ≡ true
finished-by Looked true n h = refl
finished-by Looked false n h = absurd (clash refl h)
finished-by BadPosition finished n h = absurd (omega arith)
finished-by BadTable finished n h = absurd (omega arith)

finished-is : (l : List (AuditCall Finding)) (x : Listed) (f : Bool) → All (λ c. ending_number c.ending ≡ 0) l → (x.more ≡ false → f ≡ true)
    → (last_listed x (shown x.reached l)).more ≡ false → last_finished f (calls_of l) ≡ true
unfolding last_listed last_finished
finished-is [] x f u h e = h e
finished-is (c ∷ l) x f u h e =
    finished-is l (listed_of x.reached (answer_of c)) c.paged.page.finished u.1 (finished-by c.ending c.paged.page.finished u.0) e

-- THE WHOLE LIST
pub whole-list : ListedWhole
whole-list text old t e rooms =
    let rec = record_handed (loaded_by (given limits text old)) in
    let m = left_in limits (given limits text old) old in
    let calls = calls_for rec m beginning rooms in
    subst (λ (pages : List Shown). (last_listed nothing_yet pages).more ≡ false → WholeList t pages) (sym (pages-are rec m rooms nothing_yet.reached))
    (together calls
    (loaded-claims text old t e false (λ f. f) calls (same-all rec m rooms beginning, chained rec m rooms beginning) (answered rec m rooms beginning)))
  where
    together : (calls : List (AuditCall Finding)) → Claims t false (λ f. f) calls
        → (last_listed nothing_yet (shown nothing_yet.reached calls)).more ≡ false → WholeList t (shown nothing_yet.reached calls)
    together calls d h =
        let f = finished-is calls nothing_yet false d.unrefused (λ z. absurd (clash refl z)) h in
        let all = d.whole f ∙ map-id (plain_list t false) in
        let count = counts_whole t false (λ f. f) calls d f in
        let few = codes-few (steps_of t) 0 in
        let short = list-short t false in
        record {
          text = text-is calls nothing_yet.reached ∙ ap finding_lines all;
          looked = looked-is calls nothing_yet (omega (arith, count, few)) ∙ omega (arith, count);
          listed = listed-is calls nothing_yet (omega (arith, ap length all, few, short)) ∙ omega (arith, ap length all);
        }
