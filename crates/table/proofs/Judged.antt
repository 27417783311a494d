-- One line of a text, judged fine: what the lines so far have given keeps its ranges before CHARMAP, T1 to T9 from there on, and T10 behind
-- END CHARMAP.
use Rattle.table.specs.Header.{ReadValue}
use Rattle.table.specs.Header.{ReadLine}
use Rattle.std.specs.Prelude.{Option as Found, Some, None, Ok, Err}
use Prim.Native.Nat.{ℕ, suc, ◌+◌, ◌-◌, ◌<◌, ◌≤◌}
use mathlib.Core.Path.{◌≡◌, refl, ap, subst, sym, ◌∙◌}
use mathlib.Core.Option.{Option}
use mathlib.Core.Bool.{Bool, true, false, not}
use mathlib.Core.List.{List, [], ◌∷◌, ◌++◌}
use native.Mathlib.Omega.{arith}
use lib.Dec.{leb, eqb}
use lib.ListN.{length, take, drop, replicate, length-append, length-replicate}
use borrow.Author.Tests.{leb-true, leb-false, eqb-false, le-leb, lt-leb, not-false, eqb-true}
use Rattle.lists.specs.Pick.{pick}
use Rattle.lists.specs.Order.{All}
use Rattle.lists.proofs.Laws.{and_yes, and_left, and_right, clash}
use Rattle.lists.proofs.Cases.{pick-case}
use Rattle.lists.proofs.Append.{All-++⁺}
use Rattle.lists.proofs.Chains.{unless-yes, unless-left, unless-right}
use Rattle.table.specs.Limits.{Limits}
use Rattle.table.specs.Cells.{Cell, ends}
use Rattle.table.specs.Codes.{AllByte}
use Rattle.table.specs.Meaning.{Line, Table, flat, steps_on}
use Rattle.table.specs.Rules.{t1_rows, t2, t3, t4_sub, t5, t6, t7, t8, t9, t10, shares_bytes, shares_point, KeepsSoFar, Keeps}
use Rattle.lists.specs.Tests.{all_of, any_of}
use Rattle.table.specs.Memory.{sub1_of, Proper, ProperLine}
use Rattle.table.specs.Keys.{Keys, is_sbcs, min_of, max_of, subchar_of}
use Rattle.lists.specs.Options.{is_some, or_else}
use Rattle.table.specs.Text.{skip_at, ends_at, byte_of, is_charmap, content_end}
use Rattle.table.specs.Row.{entries_of, row_of}
use Rattle.table.specs.Header.{is_row, key_line, keyed_line, key_end, key_of, header_line_at, header_line_of}
use Rattle.table.specs.Mapping.{BodyLine, no_form, reserved, blank, ending, mapping, body_line_of, after_end_of}
use Rattle.table.specs.Numbers.{lowest, n13, n15, row_over, n16, n20, n21, n22, n23, n24, n25, n26, n28, rows_at, key_conditions, charmap_conditions, mapping_conditions, nothing_absent, keeps_states, Verdict}
use Rattle.table.specs.Load.{Reading, goes_on, stop, judged, keep_value, keep_row, line_as, header_asks, mapping_asks, last_asks, phase_asks, line_asks, line_step}
use Rattle.table.specs.FirstLine.{NoneHolds}
use Rattle.table.specs.declared.header.HeaderLine.TheVariants as header
use Rattle.table.specs.declared.load.Refusal.{Refusal}
use Rattle.table.specs.declared.load.Phase.{Phase}
use Rattle.table.specs.declared.load.Phase.TheVariants.{Header, Mappings, Ended}
use Rattle.table.proofs.Packing.{unpacked-bytes}
use Rattle.table.proofs.HeaderLaws.{value-ranges, row-length}
use Rattle.table.proofs.MappingLaws.{form-bytes}
use Rattle.table.proofs.LowestLaws.{lowest-fine}
use Rattle.table.specs.loops.Ranges.{InRange}
use Rattle.table.proofs.OneMore.{rows_over, lines-over}
use Rattle.table.specs.declared.value.Key.{Key}
use Rattle.table.specs.declared.value.Value.TheVariants.{Any, Name, Min, Max, Class, Sub, Sub1, Row, Unbuilt}

-- a line's outcome
stop-goes-on : (x : Refusal) (r : Reading) → stop x ≡ goes_on r → ⊥
stop-goes-on x r e = let z : ◌≡◌ {A = ℕ} 0 1 = cc in omega arith

goes-on-same : (r s : Reading) → goes_on r ≡ goes_on s → r ≡ s
goes-on-same r s e = cc

pub judged-goes-on : (v : Verdict) (r s : Reading) → judged v r ≡ goes_on s → (v ≡ Ok tt) × (r ≡ s)
judged-goes-on (Ok tt) r s e = (refl, goes-on-same r s e)
judged-goes-on (Err x) r s e = absurd (stop-goes-on x s e)

-- the value of a header line
unfoldable LineRange : ReadLine → Type 0
LineRange None = Unit {0}
LineRange (Some header.Blank) = Unit {0}
LineRange (Some header.Charmap) = Unit {0}
LineRange (Some (header.Known k v q e)) = InRange v

key-range : (s : List ℕ) (k : Key) (q : ℕ) (p : Found ℕ) → LineRange (key_line s k q p)
unfolding LineRange key_line
key-range s k q None = tt
key-range s k q (Some e) = value-ranges k (take (e - q) (drop q s))

keyed-range : (s : List ℕ) (at : ℕ) (p : Found ℕ) → LineRange (keyed_line s at p)
unfolding LineRange keyed_line
keyed-range s at None = tt
keyed-range s at (Some e) =
    pick-case LineRange (eqb at e) _ _ (λ _. tt)
    (λ _. key-range s (key_of (take (e - at) (drop at s))) (e + 1) (content_end false (e + 1) (drop (e + 1) s)))

line-range : (s : List ℕ) → LineRange (header_line_of s)
unfolding LineRange header_line_of header_line_at
line-range s =
    pick-case LineRange (ends_at s p) _ _ (λ _. tt)
    (λ _. pick-case LineRange (eqb (byte_of s p) 60) _ _ (λ _. keyed-range s (p + 1) (key_end (p + 1) (drop (p + 1) s)))
    (λ _. pick-case LineRange (is_charmap s p) _ _ (λ _. tt) (λ _. tt)))
  where
    p : ℕ
    p = skip_at s 0

-- what the header's lines have given: rows full and within the limit, sizes of at most 4, bytes that are bytes
pub record HeadFits (limit : ℕ) (min : Option ℕ) (max : ℕ) (sub : List ℕ) (sub1 : Option ℕ) (rows : List (List Cell)) : Type 0 where
  pub least : is_some min ≡ true → 1 ≤ or_else 0 min
  pub room : length rows ≤ limit
  pub most : max ≤ 4
  pub full : All (λ r. length r ≡ 256) rows
  pub bytes : AllByte sub
  pub byte : sub1_of sub1 < 257

abbrev pub Fits : Limits → Keys → List (List Cell) → Type 0
Fits lim h rows = HeadFits lim.rows h.min (max_of h) (subchar_of h) h.subchar1 rows

row_fits : (lim : Limits) (h : Keys) (rows : List (List Cell)) (v : List ℕ) (o : Bool) → row_over lim (length rows) o ≡ false → Fits lim h rows
    → Fits lim h (rows ++ (row_of (entries_of v) ∷ []))
row_fits lim h rows v true e f = absurd (clash (rows_over lim (length rows) true) e)
row_fits lim h rows v false e f =
    let n = leb-false lim.rows (length rows) (sym (rows_over lim (length rows) false) ∙ e) in
    let l : length (rows ++ (row_of (entries_of v) ∷ [])) ≡ length rows + 1 = length-append rows (row_of (entries_of v) ∷ []) in
    record {
      least = f.least;
      room = omega arith;
      most = f.most;
      full = All-++⁺ (λ r. length r ≡ 256) rows (row_of (entries_of v) ∷ []) f.full (row-length v, tt);
      bytes = f.bytes;
      byte = f.byte;
    }

keep-fits : (lim : Limits) (h : Keys) (rows : List (List Cell)) (v : List ℕ) (x : ReadValue) → InRange x → n15 lim (length rows) x ≡ false → Fits lim h rows → Fits lim (keep_value h x) (keep_row x v rows)
unfolding InRange n15 keep_value keep_row is_row
keep-fits lim h rows v None i e f = f
keep-fits lim h rows v (Some Any) i e f = f
keep-fits lim h rows v (Some Unbuilt) i e f = f
keep-fits lim h rows v (Some Name) i e f = f
keep-fits lim h rows v (Some (Min d)) i e f =
    record { least = λ _. i.0; room = f.room; most = f.most; full = f.full; bytes = f.bytes; byte = f.byte }
keep-fits lim h rows v (Some (Max d)) i e f =
    record { least = f.least; room = f.room; most = i.1; full = f.full; bytes = f.bytes; byte = f.byte }
keep-fits lim h rows v (Some (Class c)) i e f = f
keep-fits lim h rows v (Some (Sub c)) i e f =
    record { least = f.least; room = f.room; most = f.most; full = f.full; bytes = unpacked-bytes c.len c.bits i.2; byte = f.byte }
keep-fits lim h rows v (Some (Sub1 b)) i e f =
    record { least = f.least; room = f.room; most = f.most; full = f.full; bytes = f.bytes; byte = omega arith }
keep-fits lim h rows v (Some (Row w l o)) i e f = row_fits lim h rows v o e f

-- the table of what was read
abbrev pub table_with : Keys → List (List Cell) → List Line → Table
table_with h rows ls = record { rows = rows; lines = ls; min = min_of h; max = max_of h; subchar = subchar_of h; subchar1 = h.subchar1 }

-- a table as a text can give it, that keeps the rules where the limit allows a row: those asked so far, or all
abbrev pub SoundBy : (Limits → Table → Type 0) → Limits → Table → Type 0
SoundBy Rules lim t = Proper t × (1 ≤ lim.rows → Rules lim t)

abbrev pub Sound : Limits → Table → Type 0
Sound = SoundBy Keeps

-- the rows at CHARMAP
rows-full : (h : Keys) (rows : List (List Cell)) → All (λ r. length r ≡ 256) rows → All (λ r. length r ≡ 256) (rows_at h rows)
unfolding rows_at
rows-full h rows f =
    pick-case (All (λ r. length r ≡ 256)) (is_sbcs h.class) _ _
    (λ _. pick-case (All (λ r. length r ≡ 256)) (eqb (length rows) 0) _ _ (λ _. (length-replicate {A = Cell} 256 ends, tt)) (λ _. f))
    (λ _. f)

rows-kept : (lim : Limits) (x : List Cell) (rows : List (List Cell)) (a b : Bool) → eqb (length rows) 0 ≡ b → pick a true (leb 1 (length rows)) ≡ true → 1 ≤ lim.rows → length rows ≤ lim.rows
    → t1_rows lim (length (pick a (pick b (x ∷ []) rows) rows)) ≡ true
rows-kept lim x rows true true e h one r = le-leb 1 lim.rows one
rows-kept lim x rows true false e h one r =
    let n = eqb-false (length rows) 0 e in
    and_yes (leb 1 (length rows)) (leb (length rows) lim.rows) (le-leb 1 (length rows) (omega arith)) (le-leb (length rows) lim.rows r)
rows-kept lim x rows false true e h one r =
    let m = leb-true 1 (length rows) h in
    let z = eqb-true (length rows) 0 e in
    absurd (omega arith)
rows-kept lim x rows false false e h one r =
    let n = eqb-false (length rows) 0 e in
    and_yes (leb 1 (length rows)) (leb (length rows) lim.rows) (le-leb 1 (length rows) (omega arith)) (le-leb (length rows) lim.rows r)

-- the header passes CHARMAP
charmap-proper : (lim : Limits) (h : Keys) (rows : List (List Cell)) → Fits lim h rows → Proper (table_with h (rows_at h rows) [])
charmap-proper lim h rows f =
    record { rows-full = rows-full h rows f.full; lines-proper = tt; sub-bytes = f.bytes; sub1-byte = f.byte }

charmap-keeps : (lim : Limits) (h : Keys) (rows : List (List Cell)) → Fits lim h rows → n13 h (length rows) ≡ false → n16 h (rows_at h rows) ≡ false → 1 ≤ lim.rows
    → KeepsSoFar lim (table_with h (rows_at h rows) [])
unfolding n13 n16 rows_at all_of t9
charmap-keeps lim h rows f e g one =
    let a1 = and_right h.name _ (not-false (nothing_absent h (length rows)) e) in
    let a2 = and_right (is_some h.min) _ a1 in
    let a3 = and_right (is_some h.max) _ a2 in
    let a4 = and_right (is_some h.class) _ a3 in
    let a5 = and_right (is_some h.subchar) _ a4 in
    let b0 = not-false (keeps_states h (rows_at h rows)) g in
    let b1 = and_right (leb (min_of h) (max_of h)) _ b0 in
    let b2 = and_right (t2 (length (rows_at h rows)) (flat (rows_at h rows))) _ b1 in
    let b3 = and_right (t3 (steps_on (rows_at h rows)) (max_of h)) _ b2 in
    let b4 = and_right (t4_sub (steps_on (rows_at h rows)) (subchar_of h)) _ b3 in
    record {
      rule1-rows = rows-kept lim (replicate 256 ends) rows (is_sbcs h.class) (eqb (length rows) 0) refl a5 one f.room;
      rule1-lines = le-leb 0 lim.mappings (omega arith);
      rule1-sizes = and_yes (leb 1 (min_of h)) _ (le-leb 1 (min_of h) (f.least (and_left (is_some h.min) _ a1)))
          (and_yes (leb (min_of h) (max_of h)) (leb (max_of h) 4) (and_left (leb (min_of h) (max_of h)) _ b0) (le-leb (max_of h) 4 f.most));
      rule2 = and_left (t2 (length (rows_at h rows)) (flat (rows_at h rows))) _ b1;
      rule3 = and_left (t3 (steps_on (rows_at h rows)) (max_of h)) _ b2;
      rule4-sub = and_left (t4_sub (steps_on (rows_at h rows)) (subchar_of h)) _ b3;
      rule4-sub1 = b4;
      rule5 = refl;
      rule6 = refl;
      rule7 = refl;
      rule8 = refl;
      rule9 = refl;
    }

-- one mapping more
mapping-proper : (h : Keys) (rows : List (List Cell)) (ls : List Line) (l : Line) → Proper (table_with h rows ls) → ProperLine l → Proper (table_with h rows (l ∷ ls))
mapping-proper h rows ls l p q =
    record { rows-full = p.rows-full; lines-proper = (q, p.lines-proper); sub-bytes = p.sub-bytes; sub1-byte = p.sub1-byte }

pub mapping-keeps : (lim : Limits) (h : Keys) (rows : List (List Cell)) (ls : List Line) (l : Line) → KeepsSoFar lim (table_with h rows ls) → NoneHolds (mapping_conditions lim h rows ls l)
    → KeepsSoFar lim (table_with h rows (l ∷ ls))
unfolding mapping_conditions n20 n21 n22 n23 n24 n25 n26 all_of t9
mapping-keeps lim h rows ls l k n =
    record {
      rule1-rows = k.rule1-rows;
      rule1-lines = le-leb (suc (length ls)) lim.mappings (leb-false lim.mappings (length ls) (sym (lines-over lim ls) ∙ n.1.1.1.1.1.1.0));
      rule1-sizes = k.rule1-sizes;
      rule2 = k.rule2;
      rule3 = k.rule3;
      rule4-sub = k.rule4-sub;
      rule4-sub1 = k.rule4-sub1;
      rule5 = and_yes (t5 (steps_on rows) (min_of h) (max_of h) l) _ (not-false (t5 (steps_on rows) (min_of h) (max_of h) l) n.1.0) k.rule5;
      rule6 = and_yes (t6 l) _ (not-false (t6 l) n.0) k.rule6;
      rule7 = and_yes (t7 l) _ (not-false (t7 l) n.1.1.0) k.rule7;
      rule8 = and_yes (t8 h.subchar1 l) _ (not-false (t8 h.subchar1 l) n.1.1.1.0) k.rule8;
      rule9 = unless-yes (any_of (λ x. shares_bytes x l) ls) _ n.1.1.1.1.0 (unless-yes (any_of (λ x. shares_point x l) ls) _ n.1.1.1.1.1.0 k.rule9);
    }

-- and one mapping less: the rules of the longer list are the conditions at its last line
pub KeepsSoFar-∷⁻ : (lim : Limits) (h : Keys) (rows : List (List Cell)) (ls : List Line) (l : Line) → KeepsSoFar lim (table_with h rows (l ∷ ls))
    → KeepsSoFar lim (table_with h rows ls) × NoneHolds (mapping_conditions lim h rows ls l)
unfolding mapping_conditions n20 n21 n22 n23 n24 n25 n26 all_of t9
KeepsSoFar-∷⁻ lim h rows ls l k =
    let m = leb-true (suc (length ls)) lim.mappings k.rule1-lines in
    let b = unless-right (any_of (λ x. shares_bytes x l) ls) _ k.rule9 in (
      record {
        rule1-rows = k.rule1-rows;
        rule1-lines = le-leb (length ls) lim.mappings (omega arith);
        rule1-sizes = k.rule1-sizes;
        rule2 = k.rule2;
        rule3 = k.rule3;
        rule4-sub = k.rule4-sub;
        rule4-sub1 = k.rule4-sub1;
        rule5 = and_right (t5 (steps_on rows) (min_of h) (max_of h) l) _ k.rule5;
        rule6 = and_right (t6 l) _ k.rule6;
        rule7 = and_right (t7 l) _ k.rule7;
        rule8 = and_right (t8 h.subchar1 l) _ k.rule8;
        rule9 = unless-right (any_of (λ x. shares_point x l) ls) _ b;
      },
      (
        ap not (and_left (t6 l) _ k.rule6),
        (
          ap not (and_left (t5 (steps_on rows) (min_of h) (max_of h) l) _ k.rule5),
          (
            ap not (and_left (t7 l) _ k.rule7),
            (
              ap not (and_left (t8 h.subchar1 l) _ k.rule8),
              (
                unless-left (any_of (λ x. shares_bytes x l) ls) _ k.rule9,
                (
                  unless-left (any_of (λ x. shares_point x l) ls) _ b,
                  (lines-over lim ls ∙ lt-leb lim.mappings (length ls) m, tt),
                ),
              ),
            ),
          ),
        ),
      ),
    )

-- END CHARMAP: T10 of all lines
end-keeps : (lim : Limits) (h : Keys) (rows : List (List Cell)) (ls : List Line) → KeepsSoFar lim (table_with h rows ls) → n28 ls ≡ false → Keeps lim (table_with h rows ls)
unfolding n28
end-keeps lim h rows ls k e = record { so_far = k; rule10 = not-false (t10 ls) e }

pub Keeps⇒end : (lim : Limits) (h : Keys) (rows : List (List Cell)) (ls : List Line) → Keeps lim (table_with h rows ls) → n28 ls ≡ false
unfolding n28
Keeps⇒end lim h rows ls k = ap not k.rule10

-- what a reading holds: ranges before CHARMAP, a sound table from there on
abbrev pub RulesSoFarAt : Limits → Phase → Keys → List (List Cell) → List Line → Type 0
RulesSoFarAt lim Header h rows ls = Fits lim h rows
RulesSoFarAt lim Mappings h rows ls = SoundBy KeepsSoFar lim (table_with h rows ls)
RulesSoFarAt lim Ended h rows ls = Sound lim (table_with h rows ls)

abbrev pub RulesSoFar : Limits → Reading → Type 0
RulesSoFar lim r = RulesSoFarAt lim r.phase r.head r.rows r.lines

header-held : (lim : Limits) (h : Keys) (rows : List (List Cell)) (s : List ℕ) (x : ReadLine) → LineRange x → Fits lim h rows
    → NoneHolds (header_asks lim h rows s x).conditions → RulesSoFar lim (header_asks lim h rows s x).behind
unfolding LineRange key_conditions charmap_conditions
header-held lim h rows s None i f n = f
header-held lim h rows s (Some header.Blank) i f n = f
header-held lim h rows s (Some header.Charmap) i f n = (charmap-proper lim h rows f, λ one. charmap-keeps lim h rows f n.0 n.1.0 one)
header-held lim h rows s (Some (header.Known k v q e)) i f n = keep-fits lim h rows (take (e - q) (drop q s)) v i n.1.1.1.0 f

mapping-held : (lim : Limits) (h : Keys) (rows : List (List Cell)) (ls : List Line) (s : List ℕ) (x : BodyLine) → body_line_of s ≡ x
    → SoundBy KeepsSoFar lim (table_with h rows ls) → NoneHolds (mapping_asks lim h rows ls x).conditions → RulesSoFar lim (mapping_asks lim h rows ls x).behind
mapping-held lim h rows ls s no_form i f n = f
mapping-held lim h rows ls s reserved i f n = f
mapping-held lim h rows ls s blank i f n = f
mapping-held lim h rows ls s ending i f n = (f.0, λ one. end-keeps lim h rows ls (f.1 one) n.0)
mapping-held lim h rows ls s (mapping u c d) i f n =
    let b = form-bytes s u c d i in (
      mapping-proper h rows ls (line_as u c d) f.0 (record { bytes = b.0; digit = omega (arith, b.3) }),
      λ one. mapping-keeps lim h rows ls (line_as u c d) (f.1 one) n,
    )

last-held : (lim : Limits) (h : Keys) (rows : List (List Cell)) (ls : List Line) (x : BodyLine) → Sound lim (table_with h rows ls) → RulesSoFar lim (last_asks h rows ls x).behind
last-held lim h rows ls no_form f = f
last-held lim h rows ls reserved f = f
last-held lim h rows ls blank f = f
last-held lim h rows ls ending f = f
last-held lim h rows ls (mapping u c d) f = f

phase-held : (lim : Limits) (p : Phase) (h : Keys) (rows : List (List Cell)) (ls : List Line) (s : List ℕ) → RulesSoFarAt lim p h rows ls
    → NoneHolds (phase_asks lim p h rows ls s).conditions → RulesSoFar lim (phase_asks lim p h rows ls s).behind
phase-held lim Header h rows ls s f n = header-held lim h rows s (header_line_of s) (line-range s) f n
phase-held lim Mappings h rows ls s f n = mapping-held lim h rows ls s (body_line_of s) refl f n
phase-held lim Ended h rows ls s f n = last-held lim h rows ls (after_end_of s) f

-- a line judged fine keeps it
pub Holding-step_of : (lim : Limits) (r : Reading) (s : List ℕ) (q : Reading) → RulesSoFar lim r → line_step lowest lim r s ≡ goes_on q → RulesSoFar lim q
Holding-step_of lim r s q f e =
    let a = line_asks lim r s in
    let j = judged-goes-on (lowest a.conditions) a.behind q e in
    subst (RulesSoFar lim) j.1 (phase-held lim r.phase r.head r.rows r.lines s f (lowest-fine a.conditions j.0))
