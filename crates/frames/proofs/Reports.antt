-- Calls that report the lines of a piece: how many bytes each takes, what it puts, and that it reports the next lines of the input.
use Rattle.std.proofs.Common.{◌≡◌, ℕ, zero, suc, ◌+◌, ◌-◌, ◌<◌, ◌≤◌, Bool, true, false, eqb, ltb, leb, List, [], ◌∷◌, ◌++◌, length, take, drop, sym, refl, ap, ◌∙◌, append_assoc, append-nil, arith, length-append, length-drop, drop-drop, ltb-true, lt-ltb, eq-eqb, ne_eqb, eqb-true, le-leb, leb-false, leb-true}
use borrow.Author.Tests.{lt-leb, eqb-false}
use lib.Seq.{drop-length}
use Rattle.lists.specs.Pick.{pick}
use Rattle.lists.specs.Order.{prefix_length}
use Rattle.lists.proofs.Cases.{pick-case}
use Rattle.lists.proofs.Cursors.{prefix-again}
use Rattle.frames.specs.Stream.{InputLine, whole, too_long, extend, PieceStep, ended, unended, in_line, piece_step, partial_in, partial_of, kept_in}
use Rattle.frames.specs.loops.Inner.{Fed, feed}
use Rattle.frames.specs.Report.{lines_report, Reporting, stopped_in, reporting_after, on_line, reporting_from, reporting_of}
use Rattle.frames.proofs.PartialLines.{partial-whole}
use Rattle.frames.proofs.Pieces.{Within, extend-within, extend-none, feed-step, after_step, held_in-kept_in}

-- A STEP. A line that came to its end took its LF, and no more than there is
pub record Ended (cap : ℕ) (h : InputLine) (s : List ℕ) (n : ℕ) (l : InputLine) : Type 0 where
  pub some : 0 < n
  pub inside : n ≤ length s
  pub place : n ≡ prefix_length in_line s + 1
  pub fitting : Within cap l

module _ (cap : ℕ) (h : InputLine) (s : List ℕ) where
  abbrev step_by : Bool → PieceStep
  step_by t = pick t (ended (prefix_length in_line s + 1) (extend cap h (take (prefix_length in_line s) s))) (unended (extend cap h (take (prefix_length in_line s) s)))

  ended_by : (n : ℕ) (l : InputLine) (t : Bool) → ltb (prefix_length in_line s) (length s) ≡ t → step_by t ≡ ended n l → Ended cap h s n l
  ended_by n l true p e =
      let i : prefix_length in_line s + 1 ≡ n = cc in
      let j : extend cap h (take (prefix_length in_line s) s) ≡ l = cc in
      let b = ltb-true (prefix_length in_line s) (length s) p in
      record { some = omega arith; inside = omega arith; place = sym i; fitting = rw (← j) (extend-within cap h (take (prefix_length in_line s) s)) }
  ended_by n l false p e = let z : ◌≡◌ {A = ℕ} 0 1 = cc in absurd (omega arith)

  pub step-ended : (n : ℕ) (l : InputLine) → piece_step cap h s ≡ ended n l → Ended cap h s n l
  unfolding piece_step
  step-ended n l e = ended_by n l (ltb (prefix_length in_line s) (length s)) refl e

  unended-by : (l : InputLine) (t : Bool) → step_by t ≡ unended l → Within cap l
  unended-by l true e = let z : ◌≡◌ {A = ℕ} 0 1 = cc in absurd (omega arith)
  unended-by l false e =
      let j : extend cap h (take (prefix_length in_line s) s) ≡ l = cc in
      rw (← j) (extend-within cap h (take (prefix_length in_line s) s))

  pub step-unended : (l : InputLine) → piece_step cap h s ≡ unended l → Within cap l
  unfolding piece_step
  step-unended l e = unended-by l (ltb (prefix_length in_line s) (length s)) e

-- memory keeps its length
pub kept-length : (memory : List ℕ) (l : InputLine) → Within (length memory) l → length (kept_in memory l) ≡ length memory
unfolding kept_in
kept-length memory (whole s) w = length-append s (drop (length s) memory) ∙ simp length-drop (omega arith)
kept-length memory too_long w = refl

-- nothing held
pub held_in-none : (memory : List ℕ) → partial_in memory (partial_of (whole [])) ≡ whole []
unfolding partial_of
held_in-none memory = partial-whole memory 0 (omega arith)

-- A LAW OF EVERY CALL: it holds where nothing is left, where the piece or the space comes to its end, and of a call behind a line
-- where it holds of the call from there on
module _ (write : InputLine → List ℕ) (cap : ℕ) (P : InputLine → List ℕ → List ℕ → ℕ → Reporting → Type 0)
    (none : (h : InputLine) (memory s : List ℕ) (room : ℕ) → length s ≤ 0 → P h memory s room (stopped_in 0 h memory))
    (part : (h : InputLine) (memory s : List ℕ) (room : ℕ) → 0 < length s → (l : InputLine) → piece_step cap h s ≡ unended l → P h memory s room (stopped_in (length s) l (kept_in memory l)))
    (full : (h : InputLine) (memory s : List ℕ) (room : ℕ) (n : ℕ) (l : InputLine) → piece_step cap h s ≡ ended n l → room < length (write l) → P h memory s room (stopped_in (n - 1) l (kept_in memory l)))
    (more : (h : InputLine) (memory s : List ℕ) (room : ℕ) (n : ℕ) (l : InputLine) → piece_step cap h s ≡ ended n l → length (write l) ≤ room
    → (r : Reporting) → P (whole []) (kept_in memory l) (drop n s) (room - length (write l)) r → P h memory s room (reporting_after n (write l) r)) where
  by-step : (steps : ℕ) (h : InputLine) (memory s : List ℕ) (room : ℕ) → 0 < length s → length s ≤ suc steps
      → ((memory' s' : List ℕ) (room' : ℕ) → length s' ≤ steps → P (whole []) memory' s' room' (reporting_from write cap steps (whole []) memory' s' room'))
      → (st : PieceStep) → piece_step cap h s ≡ st → P h memory s room (on_line write memory s room st (λ memory' n room'. reporting_from write cap steps (whole []) memory' (drop n s) room'))
  by-step steps h memory s room some b ih (unended l) e = part h memory s room some l e
  by-step steps h memory s room some b ih (ended n l) e =
      let i = step-ended cap h s n l e in
      pick-case (P h memory s room) (leb (length (write l)) room) _ _
      (λ q. more h memory s room n l e (leb-true _ _ q) _ (ih (kept_in memory l) (drop n s) (room - length (write l)) (simp length-drop (omega arith))))
      (λ q. full h memory s room n l e (leb-false _ _ q))

  pub every-reporting : (steps : ℕ) (h : InputLine) (memory s : List ℕ) (room : ℕ) → length s ≤ steps → P h memory s room (reporting_from write cap steps h memory s room)
  unfolding reporting_from
  every-reporting zero h memory s room b = none h memory s room b
  every-reporting (suc steps) h memory s room b =
      pick-case (P h memory s room) (eqb (length s) 0) _ _ (λ q. none h memory s room (let z = eqb-true (length s) 0 q in omega arith))
      (λ q. by-step steps h memory s room (let z = eqb-false (length s) 0 q in omega arith) b (λ memory' s' room' c. every-reporting steps (whole []) memory' s' room' c) (piece_step cap h s) refl)

-- one step of a call: nothing is left, the piece comes to its end, a line's report has no room, or on behind the line
module _ (write : InputLine → List ℕ) (cap : ℕ) (h : InputLine) (memory s : List ℕ) (room : ℕ) where
  from_end : (steps : ℕ) → length s ≤ 0 → reporting_from write cap steps h memory s room ≡ stopped_in 0 h memory
  unfolding reporting_from
  from_end zero b = refl
  from_end (suc steps) b = simp (eq-eqb (length s) 0 (omega arith))

  from_step_lem : (steps : ℕ) → 0 < length s → (st : PieceStep) → piece_step cap h s ≡ st
      → reporting_from write cap (suc steps) h memory s room ≡ on_line write memory s room st (λ memory' n room'. reporting_from write cap steps (whole []) memory' (drop n s) room')
  unfolding reporting_from
  from_step_lem steps some st e = simp (ne_eqb (length s) 0 (λ z. omega arith), e)

  from-part : (steps : ℕ) → 0 < length s → length s ≤ steps → (l : InputLine) → piece_step cap h s ≡ unended l
      → reporting_from write cap steps h memory s room ≡ stopped_in (length s) l (kept_in memory l)
  from-part zero some b l e = absurd (omega arith)
  from-part (suc steps) some b l e = from_step_lem steps some (unended l) e

  module _ (n : ℕ) (l : InputLine) (e : piece_step cap h s ≡ ended n l) where
    from-full : (steps : ℕ) → length s ≤ steps → room < length (write l) → reporting_from write cap steps h memory s room ≡ stopped_in (n - 1) l (kept_in memory l)
    from-full zero b q = let i = step-ended cap h s n l e in absurd (omega arith)
    from-full (suc steps) b q =
        let i = step-ended cap h s n l e in
        from_step_lem steps (omega arith) (ended n l) e ∙ simp (lt-leb (length (write l)) room q)

    from_more : (steps : ℕ) → length (write l) ≤ room
        → reporting_from write cap (suc steps) h memory s room ≡ reporting_after n (write l) (reporting_from write cap steps (whole []) (kept_in memory l) (drop n s) (room - length (write l)))
    from_more steps q =
        let i = step-ended cap h s n l e in
        from_step_lem steps (omega arith) (ended n l) e ∙ simp (le-leb (length (write l)) room q)

-- as many steps as the piece has bytes are enough
module _ (write : InputLine → List ℕ) (cap : ℕ) where
  abbrev Same : InputLine → List ℕ → List ℕ → ℕ → Reporting → Type 0
  Same h memory s room r = (steps : ℕ) → length s ≤ steps → r ≡ reporting_from write cap steps h memory s room

  same_more : (h : InputLine) (memory s : List ℕ) (room : ℕ) (n : ℕ) (l : InputLine) → piece_step cap h s ≡ ended n l → length (write l) ≤ room
      → (r : Reporting) → Same (whole []) (kept_in memory l) (drop n s) (room - length (write l)) r → Same h memory s room (reporting_after n (write l) r)
  same_more h memory s room n l e q r ih zero b = let i = step-ended cap h s n l e in absurd (omega arith)
  same_more h memory s room n l e q r ih (suc steps) b =
      let i = step-ended cap h s n l e in
      ap (reporting_after n (write l)) (ih steps (simp length-drop (omega arith))) ∙ sym (from_more write cap h memory s room n l e steps q)

  pub enough-steps : (h : InputLine) (memory s : List ℕ) (room a b : ℕ) → length s ≤ a → length s ≤ b → reporting_from write cap a h memory s room ≡ reporting_from write cap b h memory s room
  enough-steps h memory s room a b i j =
      every-reporting write cap Same (λ h memory s room l steps c. sym (from_end write cap h memory s room steps l))
      (λ h memory s room some l e steps c. sym (from-part write cap h memory s room steps some c l e))
      (λ h memory s room n l e q steps c. sym (from-full write cap h memory s room n l e steps c q)) same_more a h memory s room i b j

-- the same of a whole call
module _ (write : InputLine → List ℕ) (memory : List ℕ) (h : InputLine) (s : List ℕ) (room : ℕ) where
  pub reporting-end : length s ≤ 0 → reporting_of write memory h s room ≡ stopped_in 0 h memory
  reporting-end b = from_end write (length memory) h memory s room (length s) b

  pub reporting-part : 0 < length s → (l : InputLine) → piece_step (length memory) h s ≡ unended l → reporting_of write memory h s room ≡ stopped_in (length s) l (kept_in memory l)
  reporting-part some l e = from-part write (length memory) h memory s room (length s) some (omega arith) l e

  module _ (n : ℕ) (l : InputLine) (e : piece_step (length memory) h s ≡ ended n l) where
    pub reporting-full : room < length (write l) → reporting_of write memory h s room ≡ stopped_in (n - 1) l (kept_in memory l)
    reporting-full q = from-full write (length memory) h memory s room n l e (length s) (omega arith) q

    pub reporting-more : length (write l) ≤ room
        → reporting_of write memory h s room ≡ reporting_after n (write l) (reporting_of write (kept_in memory l) (whole []) (drop n s) (room - length (write l)))
    reporting-more q =
        let i = step-ended (length memory) h s n l e in
        let d = length-drop n s in
        enough-steps write (length memory) h memory s room (length s) (suc (length s)) (omega arith) (omega arith)
        ∙ from_more write (length memory) h memory s room n l e (length s) q
        ∙ ap (reporting_after n (write l))
        (enough-steps write (length memory) (whole []) (kept_in memory l) (drop n s) (room - length (write l)) (length s) (length (drop n s)) (omega arith) (omega arith)
        ∙ rw (kept-length memory l i.fitting))

-- A CALL. It takes at least a byte, where the widest line has room
module _ (write : InputLine → List ℕ) (memory : List ℕ) (h : InputLine) (s : List ℕ) (room : ℕ) where
  pub reporting-moves : 0 < length s → ((l : InputLine) → length (write l) ≤ room) → 0 < (reporting_of write memory h s room).taken
  reporting-moves =
      every-reporting write (length memory) (λ h m s room r. 0 < length s → ((l : InputLine) → length (write l) ≤ room) → 0 < r.taken)
      (λ h m s room b some w. absurd (omega arith)) (λ h m s room more l e some w. some)
      (λ h m s room n l e q some w. absurd (omega (arith, w l)))
      (λ h m s room n l e q r ih some w. let i = step-ended (length memory) h s n l e in omega arith) (length s) h memory s room (omega arith)

  -- and no more than there are
  pub reporting-within : (reporting_of write memory h s room).taken ≤ length s
  reporting-within =
      every-reporting write (length memory) (λ h m s room r. r.taken ≤ length s)
      (λ h m s room b. omega arith) (λ h m s room some l e. omega arith)
      (λ h m s room n l e q. let i = step-ended (length memory) h s n l e in omega arith)
      (λ h m s room n l e q r ih. let i = step-ended (length memory) h s n l e in let d = length-drop n s in omega arith) (length s) h memory s room (omega arith)

  -- what it puts has room
  pub reporting-fits : length (reporting_of write memory h s room).text ≤ room
  reporting-fits =
      every-reporting write (length memory) (λ h m s room r. length r.text ≤ room)
      (λ h m s room b. omega arith) (λ h m s room some l e. omega arith) (λ h m s room n l e q. omega arith)
      (λ h m s room n l e q r ih. simp length-append (omega arith)) (length s) h memory s room (omega arith)

  -- memory keeps its length
  pub reporting-memory : length (reporting_of write memory h s room).memory ≡ length memory
  reporting-memory =
      every-reporting write (length memory) (λ h m s room r. length m ≡ length memory → length r.memory ≡ length memory)
      (λ h m s room b c. c)
      (λ h m s room some l e c. kept-length m l (rw c (step-unended (length memory) h s l e)) ∙ c)
      (λ h m s room n l e q c. kept-length m l (rw c (step-ended (length memory) h s n l e).fitting) ∙ c)
      (λ h m s room n l e q r ih c. ih (kept-length m l (rw c (step-ended (length memory) h s n l e).fitting) ∙ c)) (length s) h memory s room (omega arith) refl

  -- and holds what is held
  pub reporting-held : partial_in memory (partial_of h) ≡ h → partial_in (reporting_of write memory h s room).memory (partial_of (reporting_of write memory h s room).held) ≡ (reporting_of write memory h s room).held
  reporting-held =
      every-reporting write (length memory) (λ h m s room r. partial_in m (partial_of h) ≡ h → partial_in r.memory (partial_of r.held) ≡ r.held)
      (λ h m s room b c. c) (λ h m s room some l e c. held_in-kept_in m l) (λ h m s room n l e q c. held_in-kept_in m l)
      (λ h m s room n l e q r ih c. ih (held_in-none (kept_in m l))) (length s) h memory s room (omega arith)

  pub reporting-line : Within (length memory) h → Within (length memory) (reporting_of write memory h s room).held
  reporting-line =
      every-reporting write (length memory) (λ h m s room r. Within (length memory) h → Within (length memory) r.held)
      (λ h m s room b c. c) (λ h m s room some l e c. step-unended (length memory) h s l e) (λ h m s room n l e q c. (step-ended (length memory) h s n l e).fitting)
      (λ h m s room n l e q r ih c. ih (omega arith)) (length s) h memory s room (omega arith)

-- A PART OF THE INPUT. A line that is held before its LF ends at that LF
step-again : (cap : ℕ) (h : InputLine) (s : List ℕ) (n : ℕ) (l : InputLine) → Ended cap h s n l → piece_step cap l (drop (n - 1) s) ≡ ended 1 l
unfolding piece_step
step-again cap h s n l i =
    let k : n - 1 ≡ prefix_length in_line s = omega arith in
    let z : prefix_length in_line (drop (n - 1) s) ≡ 0 = rw k (prefix-again in_line s) in
    let d = length-drop (n - 1) s in
    rw z (simp (lt-ltb 0 (length (drop (n - 1) s)) (omega arith), extend-none cap l i.fitting))

pub lines-append : (write : InputLine → List ℕ) (a b : List InputLine) → lines_report write (a ++ b) ≡ lines_report write a ++ lines_report write b
unfolding lines_report
lines-append write [] b = refl
lines-append write (l ∷ a) b = rw (lines-append write a b) (sym (append_assoc (write l) (lines_report write a) (lines_report write b)))

-- lines in front of what a piece gives
abbrev pub lines_then : List InputLine → Fed → Fed
lines_then ls r = record { lines = ls ++ r.lines; held = r.held }

-- the lines of h and s are the lines reported, then the lines of `held` and `left`
pub record Reported (write : InputLine → List ℕ) (cap : ℕ) (h : InputLine) (s put : List ℕ) (held : InputLine) (left : List ℕ) : Type 0 where
  pub lines : List InputLine
  pub text : put ≡ lines_report write lines
  pub rest : feed cap h s ≡ lines_then lines (feed cap held left)

module _ (write : InputLine → List ℕ) (cap : ℕ) where
  pub reported-none : (h : InputLine) (s : List ℕ) → Reported write cap h s [] h s
  unfolding lines_report
  reported-none h s = record { lines = []; text = refl; rest = refl }

  pub reported-then : {h k l : InputLine} {s t u a b : List ℕ} → Reported write cap h s a k t → Reported write cap k t b l u → Reported write cap h s (a ++ b) l u
  reported-then {l = l} {u = u} p q =
      record {
        lines = p.lines ++ q.lines;
        text = rw (p.text, q.text) (sym (lines-append write p.lines q.lines));
        rest = p.rest ∙ ap (lines_then p.lines) q.rest ∙ rw (append_assoc p.lines q.lines (feed cap l u).lines);
      }

  module _ (h : InputLine) (s : List ℕ) (w : Within cap h) where
    reported-part : (l : InputLine) → piece_step cap h s ≡ unended l → Reported write cap h s [] l (drop (length s) s)
    unfolding lines_report feed
    reported-part l e =
        record { lines = []; text = refl; rest = feed-step cap h s w ∙ ap (after_step cap s) e ∙ rw (drop-length s) }

    module _ (n : ℕ) (l : InputLine) (e : piece_step cap h s ≡ ended n l) where
      reported-line : Reported write cap h s (write l) (whole []) (drop n s)
      unfolding lines_report
      reported-line =
          record { lines = l ∷ []; text = sym (append-nil (write l)); rest = feed-step cap h s w ∙ ap (after_step cap s) e }

      reported-full : Reported write cap h s [] l (drop (n - 1) s)
      unfolding lines_report
      reported-full =
          let i = step-ended cap h s n l e in
          let d : n - 1 + 1 ≡ n = omega arith in
          record {
            lines = [];
            text = refl;
            rest = feed-step cap h s w
                ∙ ap (after_step cap s) e
                ∙ sym (feed-step cap l (drop (n - 1) s) i.fitting ∙ ap (after_step cap (drop (n - 1) s)) (step-again cap h s n l i) ∙ rw (drop-drop 1 (n - 1) s, d));
          }

-- one call is a part of the whole
pub reporting-feeds : (write : InputLine → List ℕ) (memory : List ℕ) (h : InputLine) (s : List ℕ) (room : ℕ) → Within (length memory) h
    → let r = reporting_of write memory h s room in Reported write (length memory) h s r.text r.held (drop r.taken s)
reporting-feeds write memory h s room =
    let cap = length memory in
    every-reporting write cap (λ h m s room r. Within cap h → Reported write cap h s r.text r.held (drop r.taken s))
    (λ h m s room b w. reported-none write cap h s)
    (λ h m s room some l e w. reported-part write cap h s w l e)
    (λ h m s room n l e q w. reported-full write cap h s w n l e)
    (λ h m s room n l e q r ih w. rw (← drop-drop r.taken n s) (reported-then write cap (reported-line write cap h s w n l e) (ih (omega arith)))) (length s) h memory s room (omega arith)
