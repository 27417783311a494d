-- Calls of `load` that refuse: exactly for which reason, with which line, and what they leave.
use Rattle.std.specs.Prelude.{Some, None}
use Prim.Native.Nat.{ℕ, ◌+◌, ◌-◌, ◌<◌, ◌≤◌}
use native.Mathlib.Omega.{arith}
use mathlib.Core.Path.{◌≡◌, refl, sym, ap, ◌∙◌, subst}
use mathlib.Core.Logic.{◌↔◌, ◌⊎◌, inl, inr}
use mathlib.Core.Bool.{Bool, true, false}
use mathlib.Core.List.{List, [], ◌++◌}
use lib.ListN.{length, take, drop, replicate, length-replicate, length-append, length-take}
use lib.Seq.{drop_at}
use lib.Dec.{ltb, lit≤}
use borrow.Author.Tests.{ltb-true, ltb-false}
use Rattle.lists.specs.Pick.{pick}
use Rattle.lists.specs.Order.{All}
use Rattle.lists.proofs.Order.{All-In⁻}
use Rattle.std.specs.Prelude.{Some, None}
use Rattle.std.proofs.Math.Option.{Option, none, some}
use Rattle.table.specs.Limits.{Limits, limits, needed}
use Rattle.table.specs.Keys.{Keys}
use Rattle.table.specs.Cells.{Cell}
use Rattle.table.specs.Meaning.{Line, Table}
use Rattle.table.specs.Text.{lines_of}
use Rattle.table.specs.Slices.{Slices, Lent}
use Rattle.table.specs.Memory.{Form as TableForm, record_of}
use Rattle.table.specs.Header.{ReadLine, header_line_of}
use Rattle.table.specs.Mapping.{body_line_of, after_end_of, BodyLine, no_form, reserved, blank, ending, mapping}
use Rattle.table.specs.Numbers.{Cond, cond, refusal_number, n1, behind_conditions, key_conditions, charmap_conditions, mapping_conditions}
use Rattle.table.specs.FirstLine.{FirstHolds, NeverEnds, conditions_at, reading_after_all}
use Rattle.table.specs.Load.{start, header_asks, mapping_asks, phase_asks, Outcome, accepted, refused, load_of, Given, untouched, read, zero_record, loaded_as, loaded_by, given, left_in, states_of, codes_of, infos_of, ordered_of, line_refused, record_handed, refusal_in}
use Rattle.table.specs.declared.header.HeaderLine.TheVariants as header
use Rattle.table.specs.declared.load.Phase.{Phase}
use Rattle.table.specs.declared.load.Phase.TheVariants.{Header, Mappings, Ended}
use Rattle.table.specs.declared.load.Refusal.{Refusal}
use Rattle.table.specs.declared.load.Refusal.TheVariants as refusal
use Rattle.table.proofs.RunSteps.{long-enough}
use Rattle.table.proofs.GivenText.{given-lent}
use Rattle.table.proofs.Leaves.{left-form}
use Rattle.table.proofs.FirstLine.{refused-exactly}
use Rattle.promises.specs.Calls.{LoadCall, text_of, lent_to, left_after}
use Rattle.promises.specs.Words.{RefusedFor, AllZeroed, SameBeyond}
use Rattle.promises.proofs.LoadCalls.{answered, slices-left}
use Rattle.lists.specs.Place.{filled}

-- ## The numbers of a text's lines are 10 and above

abbrev Ten : Cond → Type 0
Ten c = 10 ≤ refusal_number c.refusal

header-ten : (lim : Limits) (h : Keys) (rows : List (List Cell)) (s : List ℕ) (l : ReadLine)
    → All Ten (header_asks lim h rows s l).conditions
unfolding key_conditions charmap_conditions
header-ten lim h rows s None = (omega arith, tt)
header-ten lim h rows s (Some header.Blank) = (omega arith, tt)
header-ten lim h rows s (Some header.Charmap) = (omega arith, (omega arith, tt))
header-ten lim h rows s (Some (header.Known k v q e)) = (omega arith, (omega arith, (omega arith, (omega arith, tt))))

behind-ten : (ended : Bool) (l : BodyLine) → All Ten (behind_conditions ended l)
behind-ten ended l = (omega arith, (omega arith, tt))

mapping-ten : (lim : Limits) (h : Keys) (rows : List (List Cell)) (ls : List Line) (l : BodyLine)
    → All Ten (mapping_asks lim h rows ls l).conditions
unfolding mapping_conditions
mapping-ten lim h rows ls no_form = behind-ten false no_form
mapping-ten lim h rows ls reserved = behind-ten false reserved
mapping-ten lim h rows ls blank = behind-ten false blank
mapping-ten lim h rows ls ending = (omega arith, tt)
mapping-ten lim h rows ls (mapping u c d) =
    (omega arith, (omega arith, (omega arith, (omega arith, (omega arith, (omega arith, (omega arith, tt)))))))

phase-ten : (lim : Limits) (p : Phase) (h : Keys) (rows : List (List Cell)) (ls : List Line) (s : List ℕ) → All Ten (phase_asks lim p h rows ls s).conditions
phase-ten lim Header h rows ls s = header-ten lim h rows s (header_line_of s)
phase-ten lim Mappings h rows ls s = mapping-ten lim h rows ls (body_line_of s)
phase-ten lim Ended h rows ls s = behind-ten true (after_end_of s)

-- a refusal that the lines give: 10 or above, at line 1 or behind it
line-ten : (lim : Limits) (ls : List (List ℕ)) (x : Refusal) (k : ℕ) → FirstHolds lim ls x k ⊎ NeverEnds lim ls x k → (10 ≤ refusal_number x) × (1 ≤ k)
line-ten lim ls x k (inl f) =
    let r = reading_after_all lim start f.earlier in
    (All-In⁻ Ten (cond x true) (conditions_at lim r f.line) (phase-ten lim r.phase r.head r.rows r.lines f.line) f.named.holds, omega (arith, f.counted))
line-ten lim ls x k (inr n) = (subst (λ (y : Refusal). 10 ≤ refusal_number y) (sym n.number) (omega arith), omega (arith, n.counted))

-- ## What is given, by its reason

pub record TooSmall (lim : Limits) (text : List ℕ) (m : Slices) : Type 0 where
  pub given_is : given lim text m ≡ untouched refusal.MemoryTooSmall
  pub not-lent : Lent lim m → ⊥

pub record TooLong (lim : Limits) (text : List ℕ) (m : Slices) : Type 0 where
  pub given_is : given lim text m ≡ untouched refusal.TextTooLong
  pub lent : Lent lim m
  pub longer : lim.text < length text

pub record IsRead (lim : Limits) (text : List ℕ) (m : Slices) : Type 0 where
  pub given_is : given lim text m ≡ read (load_of lim text)
  pub lent : Lent lim m
  pub no_longer : length text ≤ lim.text

untouched-read : (x : Refusal) (o : Outcome) → untouched x ≡ read o → ⊥
untouched-read x o e = let z : ◌≡◌ {A = ℕ} 0 1 = cc in omega arith

given_by : (lim : Limits) (text : List ℕ) (m : Slices) → TooSmall lim text m ⊎ (TooLong lim text m ⊎ IsRead lim text m)
unfolding given
given_by lim text m = go (n1 lim (length m.states) (length m.codes) (length m.infos) (length m.order)) refl (ltb lim.text (length text)) refl
  where
    go : (a : Bool) → n1 lim (length m.states) (length m.codes) (length m.infos) (length m.order) ≡ a
        → (b : Bool) → ltb lim.text (length text) ≡ b → TooSmall lim text m ⊎ (TooLong lim text m ⊎ IsRead lim text m)
    go true p b q =
        inl (record {
          given_is = ap (λ (a : Bool). pick a (untouched refusal.MemoryTooSmall) (pick (ltb lim.text (length text)) (untouched refusal.TextTooLong) (read (load_of lim text)))) p;
          not-lent = λ l. untouched-read refusal.MemoryTooSmall (load_of lim [])
              (ap (λ (a : Bool). pick a (untouched refusal.MemoryTooSmall) (pick (ltb lim.text 0) (untouched refusal.TextTooLong) (read (load_of lim [])))) (sym p)
              ∙ given-lent lim [] m l (omega arith));
        })
    go false p true q =
        inr (inl (record {
          given_is =
              ap (λ (a : Bool). pick a (untouched refusal.MemoryTooSmall) (pick (ltb lim.text (length text)) (untouched refusal.TextTooLong) (read (load_of lim text)))) p
              ∙ ap (λ (b : Bool). pick b (untouched refusal.TextTooLong) (read (load_of lim text))) q;
          lent = long-enough lim m p;
          longer = ltb-true lim.text (length text) q;
        }))
    go false p false q =
        inr (inr (record {
          given_is =
              ap (λ (a : Bool). pick a (untouched refusal.MemoryTooSmall) (pick (ltb lim.text (length text)) (untouched refusal.TextTooLong) (read (load_of lim text)))) p
              ∙ ap (λ (b : Bool). pick b (untouched refusal.TextTooLong) (read (load_of lim text))) q;
          lent = long-enough lim m p;
          no_longer = ltb-false lim.text (length text) q;
        }))

-- ## Which refusal, and with which line

accepted-refused : (x : Refusal) → ◌≡◌ {A = Option Refusal} none (some x) → ⊥
accepted-refused x e = let z : ◌≡◌ {A = ℕ} 0 1 = cc in omega arith

outcome-refused : (x : Refusal) (k : ℕ) (o : Outcome) → refusal_in (loaded_as o) ≡ some x → line_refused (loaded_as o) ≡ k → o ≡ refused x k
outcome-refused x k (accepted t) a l = absurd (accepted-refused x a)
outcome-refused x k (refused y j) a l = cc

-- the answer and the line of a call
abbrev RefusedWith : LoadCall → Refusal → ℕ → Type 0
RefusedWith c x k = (refusal_in c.result ≡ some x) × (line_refused c.result ≡ k)

-- a call whose definition gives this
given-result : (c : LoadCall) (g : Given) → given limits (text_of c) (lent_to c) ≡ g → c.result ≡ loaded_by g
given-result c g e = answered c ∙ ap loaded_by e

refused-for : (c : LoadCall) (x : Refusal) (k : ℕ) → RefusedWith c x k → RefusedFor c x k
refused-for c x k h = go (given_by limits (text_of c) (lent_to c))
  where
    refusal-given : (g : Given) → given limits (text_of c) (lent_to c) ≡ g → (refusal_in (loaded_by g) ≡ some x) × (line_refused (loaded_by g) ≡ k)
    refusal-given g e =
        (ap refusal_in (sym (given-result c g e)) ∙ h.0, ap line_refused (sym (given-result c g e)) ∙ h.1)

    go : TooSmall limits (text_of c) (lent_to c) ⊎ (TooLong limits (text_of c) (lent_to c) ⊎ IsRead limits (text_of c) (lent_to c)) → RefusedFor c x k
    go (inl s) = let w = refusal-given _ s.given_is in let e : x ≡ refusal.MemoryTooSmall = cc in inl (s.not-lent, e, sym w.1)
    go (inr (inl s)) = let w = refusal-given _ s.given_is in let e : x ≡ refusal.TextTooLong = cc in inr (inl (s.lent, s.longer, e, sym w.1))
    go (inr (inr s)) =
        let w = refusal-given _ s.given_is in
        let o = outcome-refused x k (load_of limits (text_of c)) w.0 w.1 in
        inr (inr (record { long-enough = s.lent; short-enough = s.no_longer }, (refused-exactly limits (text_of c) x k).0 o))

for-refused : (c : LoadCall) (x : Refusal) (k : ℕ) → RefusedFor c x k → RefusedWith c x k
for-refused c x k h = go (given_by limits (text_of c) (lent_to c)) h
  where
    refusal-given : (y : Refusal) (j : ℕ) (g : Given) → given limits (text_of c) (lent_to c) ≡ g → loaded_by g ≡ loaded_as (refused y j)
        → x ≡ y → k ≡ j → RefusedWith c x k
    refusal-given y j g e q ex ek =
        let r : c.result ≡ loaded_as (refused y j) = given-result c g e ∙ q in
        (ap refusal_in r ∙ ap some (sym ex), ap line_refused r ∙ sym ek)

    go : TooSmall limits (text_of c) (lent_to c) ⊎ (TooLong limits (text_of c) (lent_to c) ⊎ IsRead limits (text_of c) (lent_to c))
        → RefusedFor c x k → RefusedWith c x k
    go (inl s) (inl (n, ex, ek)) = refusal-given refusal.MemoryTooSmall 0 _ s.given_is refl ex ek
    go (inl s) (inr (inl (l, long, ex, ek))) = absurd (s.not-lent l)
    go (inl s) (inr (inr (m, f))) = absurd (s.not-lent m.long-enough)
    go (inr (inl s)) (inl (n, ex, ek)) = absurd (n s.lent)
    go (inr (inl s)) (inr (inl (l, long, ex, ek))) = refusal-given refusal.TextTooLong 0 _ s.given_is refl ex ek
    go (inr (inl s)) (inr (inr (m, f))) = let a = s.longer in let b = m.short-enough in absurd (omega arith)
    go (inr (inr s)) (inl (n, ex, ek)) = absurd (n s.lent)
    go (inr (inr s)) (inr (inl (l, long, ex, ek))) = let a = s.no_longer in absurd (omega arith)
    go (inr (inr s)) (inr (inr (m, f))) =
        refusal-given x k _ s.given_is (ap loaded_as ((refused-exactly limits (text_of c) x k).1 f)) refl refl

pub load-refuses : (c : LoadCall) (x : Refusal) (k : ℕ) → RefusedWith c x k ↔ RefusedFor c x k
load-refuses c x k = (refused-for c x k, for-refused c x k)

-- ## What a refusal hands back and leaves

-- the slices of a call, by what is given
given-left : (c : LoadCall) (g : Given) → given limits (text_of c) (lent_to c) ≡ g → left_after c ≡ left_in limits g (lent_to c)
given-left c g e = slices-left c ∙ ap (λ (x : Given). left_in limits x (lent_to c)) e

-- a call that refuses: before the text is read, or at one of its lines
pub data Refuses (c : LoadCall) (x : Refusal) : Type 0 where
  early : refusal_number x ≤ 2 → left_after c ≡ lent_to c → Refuses c x
  at-line : (k : ℕ) → 2 < refusal_number x → left_after c ≡ left_in limits (read (refused x k)) (lent_to c) → Refuses c x

pub refuses : (c : LoadCall) (x : Refusal) → refusal_in c.result ≡ some x → Refuses c x
refuses c x a = go (given_by limits (text_of c) (lent_to c))
  where
    refusal-given : (g : Given) → given limits (text_of c) (lent_to c) ≡ g → refusal_in (loaded_by g) ≡ some x
    refusal-given g e = ap refusal_in (sym (given-result c g e)) ∙ a

    go : TooSmall limits (text_of c) (lent_to c) ⊎ (TooLong limits (text_of c) (lent_to c) ⊎ IsRead limits (text_of c) (lent_to c)) → Refuses c x
    go (inl s) =
        let w = refusal-given _ s.given_is in
        let e : refusal.MemoryTooSmall ≡ x = cc in
        early (subst (λ (y : Refusal). refusal_number y ≤ 2) e (omega arith)) (given-left c _ s.given_is)
    go (inr (inl s)) =
        let w = refusal-given _ s.given_is in
        let e : refusal.TextTooLong ≡ x = cc in
        early (subst (λ (y : Refusal). refusal_number y ≤ 2) e (omega arith)) (given-left c _ s.given_is)
    go (inr (inr s)) =
        let k = line_refused (loaded_as (load_of limits (text_of c))) in
        let o = outcome-refused x k (load_of limits (text_of c)) (refusal-given _ s.given_is) refl in
        let w = line-ten limits (lines_of (text_of c)) x k ((refused-exactly limits (text_of c) x k).0 o) in
        at-line k (let z = w.0 in omega arith) (given-left c _ (s.given_is ∙ ap read o))

pub refused-record : (c : LoadCall) (x : Refusal) → refusal_in c.result ≡ some x → record_handed c.result ≡ zero_record
refused-record c x a =
    let g = given limits (text_of c) (lent_to c) in
    ap record_handed (answered c) ∙ go g (ap refusal_in (sym (answered c)) ∙ a)
  where
    go : (g : Given) → refusal_in (loaded_by g) ≡ some x → record_handed (loaded_by g) ≡ zero_record
    go (untouched y) e = refl
    go (read (refused y k)) e = refl
    go (read (accepted t)) e = absurd (accepted-refused x e)

pub refused-early : (c : LoadCall) (x : Refusal) → refusal_in c.result ≡ some x → refusal_number x ≤ 2 → left_after c ≡ lent_to c
refused-early c x a h = go (refuses c x a)
  where
    go : Refuses c x → left_after c ≡ lent_to c
    go (early l e) = e
    go (at-line k l e) = absurd (omega arith)

pub refused-later : (c : LoadCall) (x : Refusal) → refusal_in c.result ≡ some x → 2 < refusal_number x → AllZeroed (lent_to c) (left_after c)
refused-later c x a h = go (refuses c x a)
  where
    go : Refuses c x → AllZeroed (lent_to c) (left_after c)
    go (early l e) = absurd (omega arith)
    go (at-line k l e) =
        (ap (λ (m : Slices). m.states) e, ap (λ (m : Slices). m.codes) e, ap (λ (m : Slices). m.infos) e, ap (λ (m : Slices). m.order) e)

-- ## Past the needed numbers

zeroed-beyond : (n : ℕ) (old : List ℕ) → drop n (replicate n 0 ++ drop n old) ≡ drop n old
zeroed-beyond n old = drop_at (replicate n 0) (drop n old) n (length-replicate n 0)

-- what fills just the needed places leaves the others
filled-beyond : (n : ℕ) (xs rest : List ℕ) → take n (filled n xs ++ rest) ≡ filled n xs → drop n (filled n xs ++ rest) ≡ rest
unfolding filled
filled-beyond n xs rest e =
    let f = filled n xs in
    let a : length f ≡ length xs + (n - length xs) = length-append xs (replicate (n - length xs) 0) ∙ ap (λ (k : ℕ). length xs + k) (length-replicate (n - length xs) 0) in
    let b : length (take n (f ++ rest)) ≤ n = omega (arith, length-take n (f ++ rest)) in
    let d = ap length e in
    drop_at f rest n (omega arith)

beyond-read : (old : Slices) (o : Outcome) → ((t : Table) → o ≡ accepted t → TableForm limits t (record_of t) (left_in limits (read (accepted t)) old))
    → SameBeyond old (left_in limits (read o) old)
beyond-read old (refused x k) f =
    (zeroed-beyond (needed limits) old.states, zeroed-beyond limits.mappings old.codes, zeroed-beyond limits.mappings old.infos, zeroed-beyond limits.mappings old.order)
beyond-read old (accepted t) f =
    let w = f t refl in (
      filled-beyond (needed limits) (states_of t) _ w.states-are,
      filled-beyond limits.mappings (codes_of t) _ w.mappings-are.codes-are,
      filled-beyond limits.mappings (infos_of t) _ w.mappings-are.infos-are,
      filled-beyond limits.mappings (ordered_of t) _ w.mappings-are.order_is,
    )

pub beyond-untouched : (c : LoadCall) → SameBeyond (lent_to c) (left_after c)
beyond-untouched c = go (given_by limits (text_of c) (lent_to c))
  where
    go : TooSmall limits (text_of c) (lent_to c) ⊎ (TooLong limits (text_of c) (lent_to c) ⊎ IsRead limits (text_of c) (lent_to c)) → SameBeyond (lent_to c) (left_after c)
    go (inl s) = subst (λ (m : Slices). SameBeyond (lent_to c) m) (sym (given-left c _ s.given_is)) (refl, refl, refl, refl)
    go (inr (inl s)) = subst (λ (m : Slices). SameBeyond (lent_to c) m) (sym (given-left c _ s.given_is)) (refl, refl, refl, refl)
    go (inr (inr s)) =
        subst (λ (m : Slices). SameBeyond (lent_to c) m) (sym (given-left c _ s.given_is))
        (beyond-read (lent_to c) (load_of limits (text_of c)) (λ t e. left-form limits (text_of c) t (lent_to c) (lit≤ tt) e))
