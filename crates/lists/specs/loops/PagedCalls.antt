-- The lemma behind demand 3, for any list that is looked at page by page: what calls one after the other give together.
-- It is proved as `paged-calls` in proofs/Calls.antt.
use Rattle.std.specs.Prelude.{◌≡◌, true, false, ◌↔◌, List, [], map, length}
use Rattle.lists.specs.Order.{All}
use Rattle.lists.specs.Paging.{Pageable, map_position, map_entries, following, up_to, entries_for, page_from}
use Rattle.lists.specs.Paging.{Place}
use Rattle.lists.specs.Calls.{Call, joined, summed, last_position, last_finished, Moves}

module _ {A E P Q : Type 0} (S : Pageable A E P) (L : List A) (form : P → Q) where
  -- q represents a position of the list
  abbrev pub IsPosition : Q → Type 0
  IsPosition q = (p : P) × Place S L p × (q ≡ form p)

module _ {A E P F Q : Type 0} (S : Pageable A E P) (L : List A) (number : E → F) (form : P → Q) where
  -- a call that came with a position of the list handed back the page from there
  abbrev pub AsListed : Call F Q → Type 0
  AsListed c =
      (p : P) → Place S L p → c.came ≡ form p → c.page ≡ map_entries number
      (map_position form (page_from S c.allowance c.space p))

  -- what calls give together, the first of which came with the start; `back` finds a position again
  pub record PagedCalls (back : Q → P) (cs : List (Call F Q)) : Type 0 where
    -- joined entries are those of the elements up to and including the last position, summed counts are their number
    pub entries : joined cs ≡ map number (entries_for S (up_to S (back (last_position (form S.start) cs)) L))
    pub counts : summed cs ≡ length (up_to S (back (last_position (form S.start) cs)) L)
    -- each count is the number of elements after the call's old position up to and including the new
    pub each : All
        (λ c. c.page.count ≡ length (up_to S (back c.page.position) (following S (back c.came) L)))
        cs
    -- finished exactly when no element follows the position
    pub finished : All (λ c. (c.page.finished ≡ true) ↔ (following S (back c.page.position) L ≡ [])) cs
    -- where the last call is finished the joined entries are those of all elements
    pub whole : last_finished false cs ≡ true → joined cs ≡ map number (entries_for S L)
    pub moves : All Moves cs
    -- every position is the start or an element's; nothing is up to the start; where nothing was looked at, the start
    -- is the last position
    pub came-with : All (λ c. IsPosition S L form c.came) cs
    pub positions : All (λ c. IsPosition S L form c.page.position) cs
    pub none_before : up_to S (back (form S.start)) L ≡ []
    pub unmoved : summed cs ≡ 0 → last_position (form S.start) cs ≡ form S.start
