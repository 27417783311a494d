-- Pages with room for a finding come to the list's end: each leaves fewer complete codes, or says that there is no more.
use Rattle.std.proofs.Common.{◌≡◌, ℕ, suc, ◌<◌, ◌≤◌, Bool, true, false, List, [], ◌∷◌, length, take, refl, arith}
use Rattle.lists.specs.Order.{All}
use Rattle.table.specs.Slices.{Slices}
use Rattle.table.specs.declared.valid.Record.{Record}
use Rattle.frames.specs.Pages.{page_in, listed_so_far_after, more_after, listed_of, codes_left}
use Rattle.frames.specs.loops.Inputs.{pages_from, last_listed}
use Rattle.frames.specs.declared.pages.ListedSoFar.{ListedSoFar}
use Rattle.frames.specs.declared.pages.Listed.{Listed}
use Rattle.frames.proofs.OnePage.{page-falls}

module _ (rec : Record) (m : Slices) where
  abbrev left : ListedSoFar → ℕ
  left done = codes_left rec m done.position

  -- some first pages of those, the last of which says that there is no more
  pub record Ending (first : Listed) (done : ListedSoFar) (rooms : List ℕ) : Type 0 where
    pub pages : ℕ
    pub within : pages ≤ length rooms
    pub last : (last_listed first (pages_from rec m done (take pages rooms))).more ≡ false

  -- MORE PAGES THAN CODES ARE ENOUGH
  pub enough-pages : (rooms : List ℕ) (first : Listed) (done : ListedSoFar) → All (λ (room : ℕ). 11 ≤ room) rooms → left done < length rooms
      → Ending first done rooms
  unfolding pages_from last_listed
  enough-pages [] first done w h = absurd (omega arith)
  enough-pages (room ∷ rooms) first done w h =
      let a = page_in rec m done.position room in
      go (more_after a.ending a.page.finished) refl (λ b. enough-pages rooms (listed_of done a) (listed_so_far_after done a) w.1 b)
    where
      go : let a = page_in rec m done.position room in
          (b : Bool) → more_after a.ending a.page.finished ≡ b
          → (left (listed_so_far_after done a) < length rooms → Ending (listed_of done a) (listed_so_far_after done a) rooms) → Ending first done (room ∷ rooms)
      go false e rest = record { pages = 1; within = omega arith; last = e }
      go true e rest =
          let f = page-falls rec m done.position room w.0 e in
          let r = rest (omega arith) in
          record { pages = suc r.pages; within = omega (arith, r.within); last = r.last }
