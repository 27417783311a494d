-- An input in pieces gives the lines that it gives whole, and a step through a piece gives a line of it.
use Rattle.std.proofs.Common.{◌≡◌, ℕ, suc, ◌+◌, ◌≤◌, Bool, true, false, eqb, ltb, leb, List, [], ◌∷◌, ◌++◌, map, length, take, drop, sym, refl, ap, ◌∙◌, append_assoc, append-nil, arith, length-append, ltb-false, ltb-true, le-ltb, lt-ltb, eqb-true, le-leb, leb-false, leb-true}
use mathlib.Core.List.{flatten}
use borrow.Author.Tests.{lt-leb, eqb-false}
use lib.Seq.{take-append_seam}
use Rattle.lists.specs.Pick.{pick}
use Rattle.lists.specs.Order.{prefix_length}
use Rattle.lists.proofs.Cases.{pick-case}
use Rattle.lists.proofs.Cursors.{prefix-on, prefix-stop, prefix-end}
use Rattle.frames.specs.Stream.{input_lines, InputLine, whole, too_long, cut, cut_lines, extend, last_line, PieceStep, ended, unended, in_line, piece_step, partial_in, partial_of, kept_in}
use Rattle.lists.specs.Strings.{onto}
use Rattle.frames.proofs.Steps.{in_line-no, in_line-yes}
use Rattle.frames.specs.loops.Inner.{Fed, feed, feed_all}

-- a line that is not too long has at most cap bytes
abbrev pub Within : ℕ → InputLine → Type 0
Within cap (whole s) = length s ≤ cap
Within cap too_long = Unit {0}

cut-none : (cap : ℕ) → cut cap [] ≡ whole []
cut-none cap = simp (le-leb 0 cap (omega arith))

cut-within : (cap : ℕ) (s : List ℕ) → Within cap (cut cap s)
cut-within cap s =
    pick-case (Within cap) (leb (length s) cap) (whole s) too_long (λ t. leb-true (length s) cap t) (λ t. tt)

pub extend-within : (cap : ℕ) (h : InputLine) (s : List ℕ) → Within cap (extend cap h s)
extend-within cap (whole l) s = cut-within cap (l ++ s)
extend-within cap too_long s = tt

pub extend-none : (cap : ℕ) (h : InputLine) → Within cap h → extend cap h [] ≡ h
extend-none cap (whole l) w = rw (append-nil l) (simp (le-leb (length l) cap w))
extend-none cap too_long w = refl

extend_cut : (cap : ℕ) (a b : List ℕ) → extend cap (cut cap a) b ≡ cut cap (a ++ b)
extend_cut cap a b =
    pick-case (λ (l : InputLine). extend cap l b ≡ cut cap (a ++ b)) (leb (length a) cap) (whole a) too_long (λ t. refl)
    (λ t.
    let l = leb-false (length a) cap t in
    let n = length-append a b in
    simp (lt-leb (length (a ++ b)) cap (omega arith)))

extend-more : (cap : ℕ) (h : InputLine) (a b : List ℕ) → extend cap (extend cap h a) b ≡ extend cap h (a ++ b)
extend-more cap (whole l) a b = extend_cut cap (l ++ a) b ∙ rw (append_assoc l a b)
extend-more cap too_long a b = refl

-- one piece behind another
abbrev behind : Fed → Fed → Fed
behind r q = record { lines = r.lines ++ q.lines; held = q.held }

abbrev ends : Bool → InputLine → Fed → Fed
ends t h r = pick t (record { lines = h ∷ r.lines; held = r.held }) r

ends-behind : (t : Bool) (h : InputLine) (f r : Fed) (g : InputLine → Fed) → f ≡ behind r (g r.held) → ends t h f ≡ behind (ends t h r) (g (ends t h r).held)
ends-behind true h f r g e = ap (ends true h) e
ends-behind false h f r g e = e

feed-append : (cap : ℕ) (h : InputLine) (a b : List ℕ) → feed cap h (a ++ b) ≡ behind (feed cap h a) (feed cap (feed cap h a).held b)
unfolding feed
feed-append cap h [] b = refl
feed-append cap h (x ∷ a) b =
    let k = pick (eqb x 10) (whole []) (extend cap h (x ∷ [])) in
    ends-behind (eqb x 10) h (feed cap k (a ++ b)) (feed cap k a) (λ l. feed cap l b) (feed-append cap k a b)

-- all lines of an input behind what is held
abbrev all : ℕ → InputLine → List ℕ → List InputLine
all cap h s = (feed cap h s).lines ++ last_line (feed cap h s).held

pieces-all : (cap : ℕ) (h : InputLine) (pieces : List (List ℕ)) → feed_all cap h pieces ≡ all cap h (flatten pieces)
unfolding feed_all feed flatten
pieces-all cap h [] = refl
pieces-all cap h (s ∷ pieces) =
    let r = feed cap h s in
    rw (feed-append cap h s (flatten pieces), pieces-all cap r.held pieces)
    (sym (append_assoc r.lines (feed cap r.held (flatten pieces)).lines (last_line (feed cap r.held (flatten pieces)).held)))

-- bytes in front of the first line
front : List ℕ → List (List ℕ) → List (List ℕ)
front [] [] = []
front (b ∷ a) [] = (b ∷ a) ∷ []
front [] (l ∷ ls) = l ∷ ls
front (b ∷ a) (l ∷ ls) = (b ∷ a ++ l) ∷ ls

front-none : (ls : List (List ℕ)) → front [] ls ≡ ls
unfolding front
front-none [] = refl
front-none (l ∷ ls) = refl

front-end : (a : List ℕ) (ls : List (List ℕ)) → front a ([] ∷ ls) ≡ a ∷ ls
unfolding front
front-end [] ls = refl
front-end (b ∷ a) ls = rw (append-nil a)

front-onto : (a : List ℕ) (x : ℕ) (ls : List (List ℕ)) → front (a ++ x ∷ []) ls ≡ front a (onto x ls)
unfolding front onto
front-onto [] x [] = refl
front-onto [] x (l ∷ ls) = refl
front-onto (b ∷ a) x [] = refl
front-onto (b ∷ a) x (l ∷ ls) = rw (append_assoc a (x ∷ []) l)

last-cut : (cap : ℕ) (a : List ℕ) → last_line (cut cap a) ≡ map (cut cap) (front a [])
unfolding front
last-cut cap [] = ap last_line (cut-none cap)
last-cut cap (b ∷ a) =
    pick-case (λ (l : InputLine). last_line l ≡ l ∷ []) (leb (suc (length a)) cap) (whole (b ∷ a)) too_long (λ t. refl) (λ t. refl)

-- one byte more, by whether it is LF
all-step : (cap : ℕ) (a s : List ℕ) (x : ℕ) (t : Bool) → ((c : List ℕ) → all cap (cut cap c) s ≡ map (cut cap) (front c (input_lines s)))
    → (ends t (cut cap a) (feed cap (pick t (whole []) (extend cap (cut cap a) (x ∷ []))) s)).lines
    ++ last_line (ends t (cut cap a) (feed cap (pick t (whole []) (extend cap (cut cap a) (x ∷ []))) s)).held
    ≡ map (cut cap) (front a (pick t ([] ∷ input_lines s) (onto x (input_lines s))))
all-step cap a s x true ih =
    ap (λ (l : InputLine). cut cap a ∷ all cap l s) (sym (cut-none cap))
    ∙ ap (λ (ls : List InputLine). cut cap a ∷ ls) (ih [] ∙ ap (map (cut cap)) (front-none (input_lines s)))
    ∙ sym (ap (map (cut cap)) (front-end a (input_lines s)))
all-step cap a s x false ih =
    ap (λ (l : InputLine). all cap l s) (extend_cut cap a (x ∷ []))
    ∙ ih (a ++ x ∷ [])
    ∙ ap (map (cut cap)) (front-onto a x (input_lines s))

all-cut : (cap : ℕ) (a s : List ℕ) → all cap (cut cap a) s ≡ map (cut cap) (front a (input_lines s))
unfolding feed input_lines
all-cut cap a [] = last-cut cap a
all-cut cap a (x ∷ s) = all-step cap a s x (eqb x 10) (λ c. all-cut cap c s)

-- in whatever pieces an input comes, its lines are those of the whole
pub chunks-join : (cap : ℕ) (pieces : List (List ℕ)) → feed_all cap (whole []) pieces ≡ cut_lines cap (flatten pieces)
chunks-join cap pieces =
    let s = flatten pieces in
    pieces-all cap (whole []) pieces
    ∙ ap (λ (l : InputLine). all cap l s) (sym (cut-none cap))
    ∙ all-cut cap [] s
    ∙ ap (map (cut cap)) (front-none (input_lines s))

-- what a step through a piece leaves to do
abbrev pub after_step : ℕ → List ℕ → PieceStep → Fed
after_step cap s (ended n l) =
    record { lines = l ∷ (feed cap (whole []) (drop n s)).lines; held = (feed cap (whole []) (drop n s)).held }
after_step cap s (unended l) = record { lines = []; held = l }

-- a step by how far the line goes
abbrev step_by : ℕ → InputLine → List ℕ → ℕ → PieceStep
step_by cap h s k = pick (ltb k (length s)) (ended (k + 1) (extend cap h (take k s))) (unended (extend cap h (take k s)))

after_next : (cap : ℕ) (h : InputLine) (x : ℕ) (s : List ℕ) (k : ℕ)
    → after_step cap s (step_by cap (extend cap h (x ∷ [])) s k) ≡ after_step cap (x ∷ s) (step_by cap h (x ∷ s) (suc k))
after_next cap h x s k = go (ltb k (length s)) refl
  where
    go : (t : Bool) → ltb k (length s) ≡ t → after_step cap s (step_by cap (extend cap h (x ∷ [])) s k) ≡ after_step cap (x ∷ s) (step_by cap h (x ∷ s) (suc k))
    go true p =
        let l = lt-ltb (suc k) (suc (length s)) (let q = ltb-true k (length s) p in omega arith) in
        let e : suc k + 1 ≡ suc (k + 1) = omega arith in
        simp (p, l, e, extend-more cap h (x ∷ []) (take k s))
    go false p =
        let l = le-ltb (suc k) (suc (length s)) (let q = ltb-false k (length s) p in omega arith) in
        simp (p, l, extend-more cap h (x ∷ []) (take k s))

feed-by : (cap : ℕ) (h : InputLine) (x : ℕ) (s : List ℕ) (t : Bool) → Within cap h → eqb x 10 ≡ t
    → ((l : InputLine) → Within cap l → feed cap l s ≡ after_step cap s (step_by cap l s (prefix_length in_line s)))
    → ends t h (feed cap (pick t (whole []) (extend cap h (x ∷ []))) s) ≡ after_step cap (x ∷ s) (step_by cap h (x ∷ s) (prefix_length in_line (x ∷ s)))
feed-by cap h x s true w p ih =
    let k = prefix-stop in_line (x ∷ s) 0 (omega arith) (in_line-no x (eqb-true x 10 p)) in
    rw k (simp (lt-ltb 0 (suc (length s)) (omega arith), extend-none cap h w))
feed-by cap h x s false w p ih =
    let k = prefix-on in_line (x ∷ s) 0 (omega arith) (in_line-yes x (eqb-false x 10 p)) in
    ih (extend cap h (x ∷ [])) (extend-within cap h (x ∷ []))
    ∙ after_next cap h x s (prefix_length in_line s)
    ∙ sym (ap (λ (n : ℕ). after_step cap (x ∷ s) (step_by cap h (x ∷ s) n)) k)

-- feeding a piece is a step through it, and then the rest
pub feed-step : (cap : ℕ) (h : InputLine) (s : List ℕ) → Within cap h → feed cap h s ≡ after_step cap s (piece_step cap h s)
unfolding feed piece_step
feed-step cap h [] w = rw (prefix-end in_line [] 0 (omega arith)) (simp (extend-none cap h w))
feed-step cap h (x ∷ s) w = feed-by cap h x s (eqb x 10) w refl (λ l v. feed-step cap l s v)

-- memory holds what was put into it
pub held_in-kept_in : (memory : List ℕ) (l : InputLine) → partial_in (kept_in memory l) (partial_of l) ≡ l
unfolding partial_in kept_in partial_of
held_in-kept_in memory (whole s) =
    let n = length-append s (drop (length s) memory) in
    simp (le-leb (length s) (length (s ++ drop (length s) memory)) (omega arith), take-append_seam s (drop (length s) memory))
held_in-kept_in memory too_long = refl
