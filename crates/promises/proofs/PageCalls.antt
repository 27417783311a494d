-- Calls of `list_codes`, page by page, each as the function's own contract has it: what they put is what the definitions put.
use Prim.Native.Nat.{ℕ, ◌≤◌}
use mathlib.Core.Path.{◌≡◌, refl, ap, ◌∙◌, subst}
use mathlib.Core.Bool.{false}
use mathlib.Core.List.{List, [], ◌∷◌, ◌++◌, map}
use lib.ListN.{length}
use Rattle.table.specs.Slices.{Slices}
use Rattle.table.specs.declared.valid.Record.{Record}
use Rattle.audit.specs.Audit.{Answer}
use Rattle.frames.specs.Lines.{put_into}
use Rattle.frames.specs.Pages.{finding_lines, page_in, listed_of}
use Rattle.frames.specs.loops.Inputs.{pages_from, text_of, last_listed}
use Rattle.frames.specs.declared.pages.ListedSoFar.{ListedSoFar}
use Rattle.frames.specs.declared.pages.Listed.{Listed}
use Rattle.frames.proofs.Fronts.{front-taken, had-room}
use Rattle.promises.specs.Program.{PageCall, page_record, page_slices, listing_of, page_out, page_out_after, page_put, OnPages, list_put}

abbrev answer : Record → Slices → ListedSoFar → ℕ → Answer
answer rec m done room = page_in rec m done.position room

abbrev answer_of : PageCall → Answer
answer_of c = answer (page_record c) (page_slices c) (listing_of c) (length (page_out c))

-- the contract, read
answered : (c : PageCall) → (c.result ≡ listed_of (listing_of c) (answer_of c)) × (page_out_after c ≡ put_into (page_out c) 0 (finding_lines (answer_of c).page.entries))
answered c = c.post.0

put-within : (c : PageCall) → c.result.put ≤ length (page_out_after c)
put-within c = c.post.1.1.0

put_is : (c : PageCall) → page_put c ≡ finding_lines (answer_of c).page.entries
put_is c =
    let text = finding_lines (answer_of c).page.entries in
    let n : c.result.put ≡ length text = ap (λ (x : Listed). x.put) (answered c).0 in
    let b : length text ≤ length (put_into (page_out c) 0 text) =
    subst (λ (s : List ℕ). length text ≤ length s) (answered c).1 (subst (λ (k : ℕ). k ≤ length (page_out_after c)) n (put-within c)) in
    front-taken (page_out c) text (had-room (page_out c) text b) c.result.put (page_out_after c) n (answered c).1

abbrev pub page_rooms : List PageCall → List ℕ
page_rooms cs = map (λ (c : PageCall). length (page_out c)) cs

module _ (rec : Record) (m : Slices) (next : ListedSoFar → Type 0) where
  -- they do what the definition says, and the last says that there is no more
  pub record Pagewise (first : Listed) (cs : List PageCall) : Type 0 where
    pub text : list_put cs ≡ text_of (pages_from rec m first.reached (page_rooms cs))
    pub ended : (last_listed first (pages_from rec m first.reached (page_rooms cs))).more ≡ false
    pub then : next (last_listed first (pages_from rec m first.reached (page_rooms cs))).reached

  pub list_put_lem : (cs : List PageCall) (first : Listed) → OnPages rec m next first.reached first.more cs → Pagewise first cs
  unfolding list_put text_of pages_from last_listed
  list_put_lem [] first o = record { text = refl; ended = o.0; then = o.1 }
  list_put_lem (c ∷ cs) first o =
      let (a, b, d, rest) = o in
      let x : Answer = answer rec m first.reached (length (page_out c)) in
      let e : answer_of c ≡ x = (λ i. answer (a i) (b i) (d i) (length (page_out c))) in
      let r : c.result ≡ listed_of first.reached x = (answered c).0 ∙ (λ i. listed_of (d i) (e i)) in
      let ih = list_put_lem cs (listed_of first.reached x) (subst (λ (l : Listed). OnPages rec m next l.reached l.more cs) r rest) in
      record {
        text = (λ i. (put_is c ∙ ap (λ (y : Answer). finding_lines y.page.entries) e) i ++ ih.text i);
        ended = ih.ended;
        then = ih.then;
      }
