-- One page of the audit's list: what the audit's call hands back, as lines, sums and whether there is more.
use Rattle.std.proofs.Common.{◌≡◌, ℕ, ◌+◌, ◌*◌, ◌/◌, ◌%◌, ◌<◌, ◌≤◌, Bool, true, false, ltb, List, ◌++◌, map, length, take, drop, sym, refl, ap, ◌∙◌, subst, append_assoc, arith, lit≤, length-append, length-drop, take_at, ltb-false, ltb-true, min}
use lib.ListN.{length-map}
use Rattle.lists.proofs.Cases.{pick-case}
use Rattle.lists.proofs.Front.{≤⇒length-take}
use Rattle.table.specs.Limits.{limits}
use Rattle.table.specs.Slices.{Slices}
use Rattle.table.specs.declared.states.Code.{Code}
use Rattle.table.specs.declared.valid.Record.{Record}
use Rattle.std.specs.Prelude.{Result, Option as Optional}
use Rattle.std.specs.Result.{result_err}
use Rattle.audit.specs.Audit.{Finding, Answer, Ending, Looked, BadPosition, BadTable, entry_number, audit_tested, page_handed, audited_of}
use Rattle.audit.specs.Audit.{ending_by, refusal_by, handed_on, space_after}
use Rattle.audit.specs.declared.Audited.{Audited}
use Rattle.audit.specs.declared.AuditRefusal.{AuditRefusal}
use Rattle.audit.proofs.Tests.{refusal-handed, ending-refusal, handed-page}
use Rattle.audit.proofs.Forward.{entries-found, fewer-left}
use Rattle.frames.specs.Pages.{finding_lines, page_space, page_in, more_after, listed_of, codes_left}
use Rattle.frames.specs.loops.Inner.{entry_lines}
use Rattle.frames.specs.declared.pages.ListedSoFar.{ListedSoFar}
use Rattle.frames.specs.declared.pages.Listed.{Listed}
use Rattle.frames.proofs.Findings.{lines-short, lines-back}

-- the space that a page asks for
pub space-fits : (room : ℕ) → 11 * page_space room ≤ room
unfolding page_space
space-fits room =
    pick-case (λ (n : ℕ). 11 * n ≤ room) (ltb (room / 11) 1024) (room / 11) 1024 (λ t. omega arith) (λ t. omega (arith, ltb-false (room / 11) 1024 t))

pub space-some : (room : ℕ) → 11 ≤ room → 1 ≤ page_space room
unfolding page_space
space-some room h = pick-case (λ (n : ℕ). 1 ≤ n) (ltb (room / 11) 1024) (room / 11) 1024 (λ t. omega arith) (λ t. omega arith)

-- the space by the smaller of two numbers
pub space-min : (room : ℕ) → min (room / 11) 1024 ≡ page_space room
unfolding page_space
space-min room =
    pick-case (λ (n : ℕ). min (room / 11) 1024 ≡ n) (ltb (room / 11) 1024) (room / 11) 1024
    (λ t. omega (arith, ltb-true (room / 11) 1024 t)) (λ t. omega (arith, ltb-false (room / 11) 1024 t))

-- more only behind a call that looked at codes and is not finished
pub more-looked : (e : Ending) (finished : Bool) → more_after e finished ≡ true → (e ≡ Looked) × (finished ≡ false)
more-looked Looked true h = let z : ◌≡◌ {A = ℕ} 0 1 = cc in absurd (omega arith)
more-looked Looked false h = (refl, refl)
more-looked BadPosition finished h = let z : ◌≡◌ {A = ℕ} 0 1 = cc in absurd (omega arith)
more-looked BadTable finished h = let z : ◌≡◌ {A = ℕ} 0 1 = cc in absurd (omega arith)

-- a page with room for a finding behind which there is more leaves fewer codes
pub page-falls : (rec : Record) (lent : Slices) (pos : Code) (room : ℕ) → 11 ≤ room
    → let a = page_in rec lent pos room in
    more_after a.ending a.page.finished ≡ true → codes_left rec lent a.page.position < codes_left rec lent pos
unfolding codes_left
page-falls rec lent pos room h m =
    let a = page_in rec lent pos room in
    let t = more-looked a.ending a.page.finished m in
    fewer-left rec lent false pos 18446744073709551615 (page_space room) t.0 t.1 (lit≤ tt) (space-some room h)

module _ (rec : Record) (lent : Slices) (done : ListedSoFar) (out : List ℕ) where
  abbrev asked : ℕ → Answer
  asked space = audit_tested limits rec lent false done.position 18446744073709551615 space

  abbrev page : Answer
  page = page_in rec lent done.position (length out)

  abbrev found : List Finding
  found = page.page.entries

  -- the call had the page's space, old, which is now new, and handed back q: handed on as r, and refused as o says
  module _ (old new : List ℕ) (q : Result Audited AuditRefusal) (r : Audited) (o : Optional AuditRefusal) (space : length old ≡ page_space (length out))
      (is : q ≡ audited_of (asked (length old))) (leaves : new ≡ space_after (asked (length old)) old)
      (on : r ≡ handed_on done.position q) (refuses : o ≡ result_err q) (same : length new ≡ length old) where
    handed : (q ≡ audited_of page) × (new ≡ space_after page old)
    handed = subst (λ (n : ℕ). (q ≡ audited_of (asked n)) × (new ≡ space_after (asked n) old)) space (is, leaves)

    pub page-answer : (r ≡ page_handed page.page) × (new ≡ space_after page old)
    page-answer =
        (on ∙ ap (handed_on done.position) handed.0 ∙ handed-page rec lent false done.position 18446744073709551615 (page_space (length out)), handed.1)

    refused-as : o ≡ refusal_by page.ending
    refused-as = refuses ∙ ap result_err handed.0 ∙ refusal-handed page

    ended-as : ending_by o ≡ page.ending
    ended-as = ap ending_by refused-as ∙ ending-refusal page.ending

    found-fit : length found ≤ length old
    found-fit =
        let e : length new ≡ length (map entry_number found) + length (drop (length found) old) = ap length page-answer.1 ∙ length-append (map entry_number found) (drop (length found) old) in
        omega (arith, e, length-map found entry_number, length-drop (length found) old, same)

    written_is : r.written ≡ length found
    written_is = ap (λ (x : Audited). x.written) page-answer.0

    -- what is left falls
    pub codes-fall : more_after (ending_by o) r.finished ≡ true → 11 ≤ length out → codes_left rec lent r.position < codes_left rec lent done.position
    codes-fall m h =
        let e = page-answer.0 in
        subst (λ (x : Audited). codes_left rec lent x.position < codes_left rec lent done.position) (sym e)
        (page-falls rec lent done.position (length out) h (sym (λ i. more_after (ended-as i) (e i).finished) ∙ m))

    -- the entries stand in front of what the array has behind the lent part
    module _ (rest : List ℕ) where
      pub written-fit : r.written ≤ length (new ++ rest)
      written-fit = omega (arith, length-append new rest, written_is, found-fit, same)

      -- the entries are those of the page
      pub front : take r.written (new ++ rest) ≡ map entry_number found
      front =
          let tail = drop (length found) old in
          (λ i. take (written_is i) (page-answer.1 i ++ rest))
          ∙ ap (take (length found)) (append_assoc (map entry_number found) tail rest)
          ∙ take_at (map entry_number found) (tail ++ rest) (length found) (length-map found entry_number)

      pub entry_lines-finding_lines : entry_lines (take r.written (new ++ rest)) ≡ finding_lines found
      entry_lines-finding_lines = ap entry_lines front ∙ lines-back found (entries-found rec lent false done.position 18446744073709551615 (page_space (length out)))

      pub lines_fit : length (entry_lines (take r.written (new ++ rest))) ≤ length out
      lines_fit =
          omega (
            arith,
            ap length entry_lines-finding_lines,
            found-fit,
            space,
            space-fits (length out),
            lines-short found (entries-found rec lent false done.position 18446744073709551615 (page_space (length out))),
          )

      pub put_fit : (put : ℕ) (left : List ℕ) → put ≡ length (entry_lines (take r.written (new ++ rest))) → length left ≡ length out → (put ≤ length left) × (put ≡ length (take put left))
      put_fit put left e h = ≤⇒length-take put left out h (omega (arith, lines_fit))

      -- what is handed back
      pub listed_of-≡ : (looked listed put : ℕ) (more : Bool) → looked ≡ (done.looked + r.count) % 18446744073709551616 → listed ≡ (done.listed + r.written) % 18446744073709551616
          → put ≡ length (entry_lines (take r.written (new ++ rest))) → more ≡ more_after (ending_by o) r.finished
          → ◌≡◌ {A = Listed} (record { refused = o; reached = record { position = r.position; looked = looked; listed = listed }; put = put; more = more }) (listed_of done page)
      listed_of-≡ looked listed put more a b p m =
          let e = page-answer.0 in
          let a' = a ∙ ap (λ (x : Audited). (done.looked + x.count) % 18446744073709551616) e in
          let b' = b ∙ ap (λ (x : Audited). (done.listed + x.written) % 18446744073709551616) e in
          let p' = p ∙ ap length entry_lines-finding_lines in
          let m' = m ∙ (λ i. more_after (ended-as i) (e i).finished) in
          (λ i. record { refused = refused-as i; reached = record { position = (e i).position; looked = a' i; listed = b' i }; put = p' i; more = m' i })
