-- The paging theorem: what calls through a rising list, one after the other, give together.
use Prim.Native.Nat.{◌+◌, ◌≤◌}
use native.Mathlib.Omega.{arith}
use mathlib.Core.Path.{◌≡◌, refl, sym, ap, ◌∙◌, subst}
use mathlib.Core.Bool.{Bool, true, false, false≢true}
use mathlib.Core.Logic.{◌⊎◌, inl, ◌↔◌}
use mathlib.Core.List.{List, [], ◌∷◌, ◌++◌, append-nil, append_assoc, map, map-append}
use lib.ListN.{length, length-append}
use Rattle.lists.specs.Order.{All}
use Rattle.lists.specs.Paging.{Pageable, Page, map_position, map_entries, following, up_to, entries_for, page_from, Place, Enumerates}
use Rattle.lists.specs.Calls.{Call, Chain, joined, summed, last_position, last_finished, Moves}
use Rattle.lists.specs.loops.PagedCalls.{IsPosition, AsListed, PagedCalls}
use Rattle.lists.proofs.Order.{All-⇒}
use Rattle.lists.proofs.Paging.{notes-++, page_from-moves, up_to-start, Done, page_from-done, Place-page_from}
use Rattle.lists.proofs.Filter.{filtered-rest}

-- what a finished call tells of its position holds of the last position, where the last call is finished
pub last_position-finished : {F Q : Type 0} (R : Q → Type 0) (cs : List (Call F Q)) (q : Q) (f : Bool) → (f ≡ true → R q)
    → All (λ c. (c.page.finished ≡ true) ↔ R c.page.position) cs → last_finished f cs ≡ true
    → R (last_position q cs)
unfolding last_finished last_position
last_position-finished R [] q f h k e = h e
last_position-finished R (c ∷ cs) q f h k e = last_position-finished R cs c.page.position c.page.finished k.0.0 k.1 e

module _ {A E P F Q : Type 0} (S : Pageable A E P) (L : List A) (W : Enumerates S L) (number : E → F) (form : P → Q) (back : Q → P)
    (finds : (p : P) → Place S L p → back (form p) ≡ p) where
  found : (p : P) → Place S L p → (q : Q) → q ≡ form p → back q ≡ p
  found p w q e = ap back e ∙ finds p w

  -- what holds of each call by itself
  record OneCall (c : Call F Q) : Type 0 where
    count : c.page.count ≡ length (up_to S (back c.page.position) (following S (back c.came) L))
    ends : (c.page.finished ≡ true) ↔ (following S (back c.page.position) L ≡ [])
    moves : Moves c
    came : IsPosition S L form c.came
    position : IsPosition S L form c.page.position

  -- what a call from p did: the elements it looked at, and where it came to
  record CallFrom (p : P) (c : Call F Q) : Type 0 where
    looked : List A
    to : P
    place : Place S L to
    at : c.page.position ≡ form to
    cut : up_to S to L ≡ up_to S p L ++ looked
    entries : c.page.entries ≡ map number (entries_for S looked)
    count : c.page.count ≡ length looked
    stays : c.page.count ≡ 0 → to ≡ p
    gave : OneCall c

  module _ (c : Call F Q) (p : P) (w : Place S L p) (e : c.came ≡ form p) (h : AsListed S L number form c) where
    abbrev page : Page E P
    page = page_from S c.allowance c.space p

    abbrev did : Done S L W p page
    did = page_from-done S L W c.allowance c.space p

    page-is : c.page ≡ map_entries number (map_position form page)
    page-is = h p w e

    place : Place S L page.position
    place = Place-page_from S L W c.allowance c.space p w

    at : c.page.position ≡ form page.position
    at = ap (λ (x : Page F Q). x.position) page-is

    new : back c.page.position ≡ page.position
    new = found page.position place c.page.position at

    count-is : c.page.count ≡ page.count
    count-is = ap (λ (x : Page F Q). x.count) page-is

    finished-is : c.page.finished ≡ page.finished
    finished-is = ap (λ (x : Page F Q). x.finished) page-is

    gave : OneCall c
    gave = record {
      count =
          count-is ∙ did.count ∙ ap length (sym did.between)
          ∙ (λ i. length (up_to S (sym new i) (following S (sym (found p w c.came e) i) L)));
      ends = (
        λ y. ap (λ (x : P). following S x L) new ∙ did.ends.0 (sym finished-is ∙ y),
        λ y. finished-is ∙ did.ends.1 (ap (λ (x : P). following S x L) (sym new) ∙ y),
      );
      moves = λ m k. subst (λ (x : Page F Q). (1 ≤ x.count) ⊎ (x.finished ≡ true)) (sym page-is)
          (page_from-moves S c.allowance c.space p m k);
      came = (p, w, e);
      position = (page.position, place, at);
    }

    call_from : CallFrom p c
    call_from = record {
      looked = did.looked;
      to = page.position;
      place = place;
      at = at;
      cut = did.cut;
      entries = ap (λ (x : Page F Q). x.entries) page-is ∙ ap (map number) did.entries;
      count = count-is ∙ did.count;
      stays = λ z. did.stays (sym count-is ∙ z);
      gave = gave;
    }

  -- what calls from p, represented as q, did
  record CallsFrom (p : P) (q : Q) (cs : List (Call F Q)) : Type 0 where
    looked : List A
    cut : up_to S (back (last_position q cs)) L ≡ up_to S p L ++ looked
    entries : joined cs ≡ map number (entries_for S looked)
    counts : summed cs ≡ length looked
    stays : summed cs ≡ 0 → last_position q cs ≡ q
    all : All OneCall cs

  calls-from : (cs : List (Call F Q)) (p : P) → Place S L p → (q : Q) → q ≡ form p → Chain q cs
      → All (AsListed S L number form) cs → CallsFrom p q cs
  unfolding joined summed last_position entries_for
  calls-from [] p w q e ch h =
      record {
        looked = [];
        cut = ap (λ (x : P). up_to S x L) (found p w q e) ∙ sym (append-nil (up_to S p L));
        entries = refl;
        counts = refl;
        stays = λ z. refl;
        all = tt;
      }
  calls-from (c ∷ cs) p w q e ch h =
      let d = call_from c p w (ch.0 ∙ e) h.0 in
      join d (calls-from cs d.to d.place c.page.position d.at ch.1 h.1)
    where
      join : (d : CallFrom p c) → CallsFrom d.to c.page.position cs → CallsFrom p q (c ∷ cs)
      join d r = record {
        looked = d.looked ++ r.looked;
        cut =
            r.cut ∙ ap (λ (l : List A). l ++ r.looked) d.cut
            ∙ append_assoc (up_to S p L) d.looked r.looked;
        entries =
            (λ i. d.entries i ++ r.entries i)
            ∙ sym (map-append number (entries_for S d.looked) (entries_for S r.looked))
            ∙ ap (map number) (sym (notes-++ S d.looked r.looked));
        counts = (λ i. d.count i + r.counts i) ∙ sym (length-append d.looked r.looked);
        stays = λ z. r.stays (omega arith) ∙ d.at ∙ ap form (d.stays (omega arith)) ∙ sym e;
        all = (d.gave, r.all);
      }

  -- THE PAGING THEOREM
  pub paged-calls : (cs : List (Call F Q)) → Chain (form S.start) cs → All (AsListed S L number form) cs
      → PagedCalls S L number form back cs
  paged-calls cs ch h =
      let r = calls-from cs S.start (inl refl) (form S.start) refl ch h in
      let last : P = back (last_position (form S.start) cs) in
      let cut : up_to S last L ≡ r.looked = r.cut ∙ ap (λ (l : List A). l ++ r.looked) (up_to-start S L W) in
      let entries : joined cs ≡ map number (entries_for S (up_to S last L)) =
      r.entries ∙ ap (λ (l : List A). map number (entries_for S l)) (sym cut) in
      let finished : All (λ c. (c.page.finished ≡ true) ↔ (following S (back c.page.position) L ≡ [])) cs =
      All-⇒ (λ c g. g.ends) cs r.all in
      let none_left : last_finished false cs ≡ true → following S last L ≡ [] =
      last_position-finished (λ q. following S (back q) L ≡ []) cs (form S.start) false
      (λ f. absurd (false≢true f)) finished in
      record {
        entries = entries;
        counts = r.counts ∙ ap length (sym cut);
        each = All-⇒ (λ c g. g.count) cs r.all;
        finished = finished;
        whole = λ e. entries ∙ ap (λ (l : List A). map number (entries_for S l))
            (filtered-rest (S.after last) L (none_left e));
        moves = All-⇒ (λ c g. g.moves) cs r.all;
        came-with = All-⇒ (λ c g. g.came) cs r.all;
        positions = All-⇒ (λ c g. g.position) cs r.all;
        none_before = ap (λ (p : P). up_to S p L) (finds S.start (inl refl)) ∙ up_to-start S L W;
        unmoved = r.stays;
      }
