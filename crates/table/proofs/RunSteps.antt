-- Reading line by line: a turn of the loop in terms of what is left to read, and what the memory holds before, between and after.
use Rattle.std.specs.Prelude.{Some, None}
use Rattle.table.specs.Header.{ReadLine}
use Rattle.std.specs.Prelude.{Result, Ok, Err, ⊤, is_err, OnOk}
use Prim.Native.Nat.{ℕ, zero, suc, ◌+◌, ◌-◌, ◌<◌, ◌≤◌}
use mathlib.Core.Path.{◌≡◌, refl, sym, ap, subst, ◌∙◌}
use mathlib.Core.Bool.{Bool, true, false}
use mathlib.Core.List.{List, [], ◌++◌}
use native.Mathlib.Omega.{arith}
use lib.ListN.{length, take, drop, replicate, length-replicate, take-append-drop}
use lib.Seq.{drop_at}
use lib.Dec.{ltb}
use borrow.Author.Tests.{ltb-false, lt-ltb, le-ltb}
use Rattle.lists.specs.Order.{sort, up_from}
use Rattle.lists.proofs.Laws.{clash}
use Rattle.lists.proofs.Cases.{pick_yes, pick_no}
use Rattle.lists.proofs.Chains.{or-no-left, or-no-right}
use Rattle.table.specs.Limits.{Limits, needed}
use Rattle.table.specs.Cells.{Cell}
use Rattle.table.specs.States.{Rows, end_kind, is_code}
use Rattle.table.specs.Codes.{packed, unpacked}
use Rattle.table.specs.Meaning.{Line, Table, flat}
use Rattle.table.specs.Rules.{t9}
use Rattle.table.specs.Slices.{Slices, slices, Lent}
use Rattle.table.specs.Memory.{order_of, record_of}
use Rattle.table.specs.Keys.{Keys}
use Rattle.table.specs.Text.{lines_of}
use Rattle.table.specs.Header.{header_line_of}
use Rattle.table.specs.Mapping.{BodyLine, no_form, reserved, blank, ending, mapping, body_line_of, after_end_of}
use Rattle.table.specs.Numbers.{Loaded, Verdict, lowest, n1}
use Rattle.table.specs.Load.{Reading, LineStep, goes_on, stop, reading, header_asks, mapping_asks, last_asks, phase_asks, line_asks, line_step, table_of, Outcome, accepted, refused, outcome_at, load_go, load_of, untouched, read, given, left_by, loaded_as, states_of, codes_of, infos_of, ordered_of, left_in}
use Rattle.table.specs.loops.Progress.{keys_in, empty_head, Holding, StepTaken}
use Rattle.table.specs.declared.header.Head.{Head}
use Rattle.table.specs.declared.header.HeaderLine.TheVariants as header
use Rattle.table.specs.declared.load.Refusal.{Refusal}
use Rattle.table.specs.declared.load.Refusal.TheVariants as refusal
use Rattle.table.specs.declared.load.Phase.{Phase}
use Rattle.table.specs.declared.load.Phase.TheVariants.{Header, Mappings, Ended}
use Rattle.table.specs.declared.valid.Record.{Record}
use Rattle.table.proofs.LinesLaws.{lines_cut, lines_end}
use Rattle.table.proofs.Packing.{length-unpacked, pack-unpack}
use Rattle.table.proofs.NumbersBack.{sub1_of-sub1_in}
use Rattle.table.proofs.KeyLaws.{min_of-keys_in, max_of-keys_in, subchar_of-keys_in}
use Rattle.table.proofs.Judged.{judged-goes-on}
use Rattle.table.proofs.LowestLaws.{fine-refuse}
use Rattle.table.proofs.Accepted.{accepted-keeps-rules}
use Rattle.lists.specs.Place.{filled}
use Rattle.lists.proofs.Place.{take-filled-[]}
use Rattle.table.specs.loops.Coded.{first_line, rest_lines}

-- a line after which it goes on: what was read up to there is what the memory holds
pub record Goes (lim : Limits) (t : LineStep) (p : Phase) (h : Head) (n : ℕ) (m : Slices) : Type 0 where
  pub rows : List (List Cell)
  pub lines : List Line
  pub step_is : t ≡ goes_on (reading p (keys_in h) rows lines)
  pub holding : Holding lim h n rows lines m

last-phase : (h : Keys) (rows : List (List Cell)) (ls : List Line) (f : BodyLine)
    → (last_asks h rows ls f).behind.phase ≡ Header
    → ⊥
last-phase h rows ls no_form e = let z : ◌≡◌ {A = ℕ} 0 1 = cc in omega arith
last-phase h rows ls reserved e = let z : ◌≡◌ {A = ℕ} 0 1 = cc in omega arith
last-phase h rows ls blank e = let z : ◌≡◌ {A = ℕ} 0 1 = cc in omega arith
last-phase h rows ls ending e = let z : ◌≡◌ {A = ℕ} 0 1 = cc in omega arith
last-phase h rows ls (mapping u c i) e = let z : ◌≡◌ {A = ℕ} 0 1 = cc in omega arith

module _ (lim : Limits) where
  -- one line read
  pub run_step : (s : List ℕ) (at end next k : ℕ) (r : Reading)
      → at < length s
      → take (end - at) (drop at s) ≡ first_line (drop at s)
      → drop next s ≡ rest_lines (drop at s)
      → load_go lowest lim k (lines_of (drop at s)) (goes_on r)
      ≡ load_go lowest lim (k + 1) (lines_of (drop next s)) (line_step lowest lim r (take (end - at) (drop at s)))
  unfolding load_go
  run_step s at end next k r h e f =
      ap (λ (ls : List (List ℕ)). load_go lowest lim k ls (goes_on r)) (lines_cut s at end next h e f)

  -- no line left
  pub run_end : (s : List ℕ) (at k : ℕ) (r : Reading)
      → length s ≤ at
      → load_go lowest lim k (lines_of (drop at s)) (goes_on r) ≡ outcome_at k r r.phase
  unfolding load_go
  run_end s at k r h = ap (λ (ls : List (List ℕ)). load_go lowest lim k ls (goes_on r)) (lines_end s at h)

  -- a line at which the function stops, and one after which it goes on
  module _ (p : Phase) (h : Head) (n : ℕ) (m : Slices) where
    pub taken-stop : (t : LineStep) (r : Result ⊤ Refusal) (x : Refusal) → StepTaken lim t r p h n m → r ≡ Err x → t ≡ stop x
    taken-stop (stop y) r x k e = let d : ◌≡◌ {A = Verdict} (Err y) (Err x) = sym k ∙ e in cc
    taken-stop (goes_on g) r x k e = absurd (fine-refuse x (sym k.0 ∙ e))

    pub taken-on : (t : LineStep) (r : Result ⊤ Refusal) → StepTaken lim t r p h n m → r ≡ Ok tt → Goes lim t p h n m
    taken-on (stop y) r k e = absurd (fine-refuse y (sym e ∙ k))
    taken-on (goes_on g) r k e =
        record { rows = g.rows; lines = g.lines; step_is = (λ j. goes_on (reading (sym k.1 j) (sym k.2 j) g.rows g.lines)); holding = k.3 }

  -- before CHARMAP no mapping is read
  header-lines : (h : Keys) (rows : List (List Cell)) (s : List ℕ) (l : ReadLine)
      → [] ≡ (header_asks lim h rows s l).behind.lines
  header-lines h rows s None = refl
  header-lines h rows s (Some header.Blank) = refl
  header-lines h rows s (Some header.Charmap) = refl
  header-lines h rows s (Some (header.Known k v q e)) = refl

  mapping-phase : (h : Keys) (rows : List (List Cell)) (ls : List Line) (f : BodyLine)
      → (mapping_asks lim h rows ls f).behind.phase ≡ Header
      → ⊥
  mapping-phase h rows ls no_form e = let z : ◌≡◌ {A = ℕ} 0 1 = cc in omega arith
  mapping-phase h rows ls reserved e = let z : ◌≡◌ {A = ℕ} 0 1 = cc in omega arith
  mapping-phase h rows ls blank e = let z : ◌≡◌ {A = ℕ} 0 1 = cc in omega arith
  mapping-phase h rows ls ending e = let z : ◌≡◌ {A = ℕ} 0 1 = cc in omega arith
  mapping-phase h rows ls (mapping u c i) e = let z : ◌≡◌ {A = ℕ} 0 1 = cc in omega arith

  none-behind : (p : Phase) (h : Keys) (rows : List (List Cell)) (ls : List Line) (s : List ℕ)
      → (phase_asks lim p h rows ls s).behind.phase ≡ Header → [] ≡ (phase_asks lim p h rows ls s).behind.lines
  none-behind Header h rows ls s e = header-lines h rows s (header_line_of s)
  none-behind Mappings h rows ls s e = absurd (mapping-phase h rows ls (body_line_of s) e)
  none-behind Ended h rows ls s e = absurd (last-phase h rows ls (after_end_of s) e)

  pub none_yet : (r : Reading) (s : List ℕ) (g : Reading)
      → line_step lowest lim r s ≡ goes_on g
      → g.phase ≡ Header
      → [] ≡ g.lines
  none_yet r s g e =
      let a = line_asks lim r s in
      subst (λ (q : Reading). q.phase ≡ Header → [] ≡ q.lines)
      (judged-goes-on (lowest a.conditions) a.behind g e).1
      (none-behind r.phase r.head r.rows r.lines s)

-- zeroed memory holds nothing
pub start-holds : (lim : Limits) (s c i o s' c' i' o' : List ℕ)
    → s' ≡ replicate (needed lim) 0 ++ s
    → c' ≡ replicate lim.mappings 0 ++ c
    → i' ≡ replicate lim.mappings 0 ++ i
    → o' ≡ replicate lim.mappings 0 ++ o
    → Holding lim empty_head 0 [] [] (slices s' c' i' o')
unfolding flat t9 sort up_from order_of
start-holds lim s c i o s' c' i' o' es ec ei eo =
    record {
      head-proper =
          record {
            min-small = omega arith;
            max-small = omega arith;
            class-small = omega arith;
            sub-short = omega arith;
            sub-none = λ e. refl;
            sub-padded = λ h. absurd (omega arith);
            sub1-small = omega arith;
          };
      rows-count = refl;
      rows_few = omega arith;
      rows-full = tt;
      states-are = ap (take (needed lim)) es ∙ take-filled-[] (needed lim) s;
      lines-count = refl;
      lines-good = tt;
      lines-apart = refl;
      stored = record {
        fits = omega arith;
        codes-are = ap (take lim.mappings) ec ∙ take-filled-[] lim.mappings c;
        infos-are = ap (take lim.mappings) ei ∙ take-filled-[] lim.mappings i;
        order_is = ap (take lim.mappings) eo ∙ take-filled-[] lim.mappings o;
      };
    }

module _ (n : ℕ) (f : Table → List ℕ) (out : Outcome) where
  -- a slice after a refusal: its needed places are set to zero
  pub refused-left : (x : Refusal) (k : ℕ) (old mid new : List ℕ)
      → out ≡ refused x k
      → new ≡ replicate n 0 ++ drop n mid
      → drop n mid ≡ drop n old
      → new ≡ left_by n f (read out) old
  refused-left x k old mid new e z r =
      z ∙ ap (λ (d : List ℕ). replicate n 0 ++ d) r ∙ sym (ap (λ (u : Outcome). left_by n f (read u) old) e)

  -- a slice after the last line of an accepted text
  pub accepted-left : (t : Table) (old new : List ℕ)
      → out ≡ accepted t
      → take n new ≡ filled n (f t)
      → drop n new ≡ drop n old
      → new ≡ left_by n f (read out) old
  accepted-left t old new e a r =
      sym (take-append-drop n new) ∙ (λ i. a i ++ r i) ∙ sym (ap (λ (u : Outcome). left_by n f (read u) old) e)

  -- a slice that was zeroed before the first line
  zeroed-left : (old mid new : List ℕ) → mid ≡ replicate n 0 ++ drop n old → new ≡ left_by n f (read out) mid
      → new ≡ left_by n f (read out) old
  zeroed-left old mid new z h = h ∙ same out
    where
      rest : drop n mid ≡ drop n old
      rest = ap (drop n) z ∙ drop_at (replicate n 0) (drop n old) n (length-replicate n 0)

      same : (out : Outcome) → left_by n f (read out) mid ≡ left_by n f (read out) old
      same (accepted t) = ap (λ (d : List ℕ). filled n (f t) ++ d) rest
      same (refused x k) = ap (λ (d : List ℕ). replicate n 0 ++ d) rest

-- an empty string is no code
sub-some : (step : Rows) (c : List ℕ) (n v : ℕ) → c ≡ unpacked n v → is_code step 0 c ≡ true → 1 ≤ n
unfolding unpacked end_kind
sub-some step c zero v e h = absurd (clash (sym (ap (is_code step 0) e) ∙ h) refl)
sub-some step c (suc n) v e h = omega arith

-- the record of an accepted text
pub record-left : (lim : Limits) (text : List ℕ) (p : Phase) (h : Head) (n : ℕ) (rows : List (List Cell))
    (ls : List Line) (m : Slices)
    → 1 ≤ lim.rows → Holding lim h n rows ls m → load_of lim text ≡ accepted (table_of (reading p (keys_in h) rows ls))
    → ◌≡◌ {A = Record} (record {
      rows = h.rows;
      mappings = n;
      min = h.min;
      max = h.max;
      subchar = h.sub;
      subchar1 = h.sub1;
    }) (record_of (table_of (reading p (keys_in h) rows ls)))
unfolding record_of table_of
record-left lim text p h n rows ls m one held e =
    let sub = subchar_of-keys_in h in
    let some = sub-some _ _ h.sub.len h.sub.bits sub (accepted-keeps-rules lim text _ one e).so_far.rule4-sub in
    let bits = ap packed sub ∙ pack-unpack h.sub.len h.sub.bits (held.head-proper.sub-padded some) in
    let len = ap length sub ∙ length-unpacked h.sub.len h.sub.bits in
    (λ j. record {
      rows = held.rows-count j;
      mappings = sym held.lines-count j;
      min = sym (min_of-keys_in h) j;
      max = sym (max_of-keys_in h) j;
      subchar = record { bits = sym bits j; len = sym len j };
      subchar1 = sym (sub1_of-sub1_in h.sub1) j;
    })

pub accepted-as : (out : Outcome) (t : Table) (r : Record)
    → out ≡ accepted t
    → r ≡ record_of t
    → ◌≡◌ {A = Loaded} (Ok r) (loaded_as out)
accepted-as out t r e n = ap (λ (x : Record). Ok x) n ∙ sym (ap loaded_as e)

-- whether the memory and the text fit
pub long-enough : (lim : Limits) (m : Slices)
    → n1 lim (length m.states) (length m.codes) (length m.infos) (length m.order) ≡ false
    → Lent lim m
long-enough lim m e =
    let c = or-no-right (ltb (length m.states) (needed lim)) _ e in
    let i = or-no-right (ltb (length m.codes) lim.mappings) _ c in
    let o = or-no-right (ltb (length m.infos) lim.mappings) _ i in
    record {
      states-long = ltb-false (length m.states) (needed lim) (or-no-left _ _ e);
      codes-long = ltb-false (length m.codes) lim.mappings (or-no-left _ _ c);
      infos-long = ltb-false (length m.infos) lim.mappings (or-no-left _ _ i);
      order-long = ltb-false (length m.order) lim.mappings o;
    }

module _ (lim : Limits) (text : List ℕ) (m : Slices) where
  abbrev too_small : Bool
  too_small = n1 lim (length m.states) (length m.codes) (length m.infos) (length m.order)

  pub given-small : too_small ≡ true → given lim text m ≡ untouched refusal.MemoryTooSmall
  unfolding given
  given-small e = pick_yes _ _ _ e

  pub given-long : too_small ≡ false → lim.text < length text → given lim text m ≡ untouched refusal.TextTooLong
  unfolding given
  given-long e h = pick_no _ _ _ e ∙ pick_yes _ _ _ (lt-ltb lim.text (length text) h)

  pub given-read : too_small ≡ false → length text ≤ lim.text → given lim text m ≡ read (load_of lim text)
  unfolding given
  given-read e h = pick_no _ _ _ e ∙ pick_no _ _ _ (le-ltb lim.text (length text) h)

pub slices-left : (lim : Limits) (out : Outcome) (s c i o s1 c1 i1 o1 s2 c2 i2 o2 : List ℕ)
    → s1 ≡ replicate (needed lim) 0 ++ drop (needed lim) s
    → c1 ≡ replicate lim.mappings 0 ++ drop lim.mappings c
    → i1 ≡ replicate lim.mappings 0 ++ drop lim.mappings i
    → o1 ≡ replicate lim.mappings 0 ++ drop lim.mappings o
    → s2 ≡ left_by (needed lim) states_of (read out) s1
    → c2 ≡ left_by lim.mappings codes_of (read out) c1
    → i2 ≡ left_by lim.mappings infos_of (read out) i1
    → o2 ≡ left_by lim.mappings ordered_of (read out) o1 → slices s2 c2 i2 o2 ≡ left_in lim (read out) (slices s c i o)
slices-left lim out s c i o s1 c1 i1 o1 s2 c2 i2 o2 zs zc zi zo hs hc hi ho = λ j. slices
    (zeroed-left (needed lim) states_of out s s1 s2 zs hs j) (zeroed-left lim.mappings codes_of out c c1 c2 zc hc j)
    (zeroed-left lim.mappings infos_of out i i1 i2 zi hi j)
    (zeroed-left lim.mappings ordered_of out o o1 o2 zo ho j)

-- a text that is refused, and what is left of one that is not
pub out-refused : (out : Outcome) (r : Loaded) → r ≡ loaded_as out → is_err r ≡ true → (x : Refusal) × (k : ℕ) × (out ≡ refused x k)
out-refused (accepted t) r e h = absurd (clash (sym (ap is_err e) ∙ h) refl)
out-refused (refused x k) r e h = (x, k, refl)

pub left-after : (r : Loaded) (P : Type 0) → is_err r ≡ false → OnOk r P → P
left-after (Ok rec) P e p = p
left-after (Err x) P e p = absurd (clash refl e)
