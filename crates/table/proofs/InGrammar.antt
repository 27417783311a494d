-- One line judged by all conditions, and by those of the grammar alone: the same where the rules are kept.
use Rattle.table.specs.Header.{ReadValue}
use Rattle.std.specs.Prelude.{Some, None}
use Rattle.table.specs.Header.{ReadLine}
use Rattle.std.specs.Prelude.{Ok}
use Prim.Native.Nat.{ℕ}
use mathlib.Core.Path.{◌≡◌, refl, sym, ap, subst, ◌∙◌}
use mathlib.Core.Bool.{false, not}
use mathlib.Core.List.{List, []}
use lib.Dec.{leb}
use lib.ListN.{length}
use borrow.Author.Tests.{le-leb}
use Rattle.lists.proofs.Laws.{and_yes}
use Rattle.table.specs.Limits.{Limits}
use Rattle.table.specs.Cells.{Cell}
use Rattle.table.specs.Meaning.{Line, flat, steps_on}
use Rattle.table.specs.Rules.{t2, t3, t4_sub, KeepsSoFar, Keeps}
use Rattle.table.specs.Keys.{Keys, min_of, max_of, subchar_of}
use Rattle.table.specs.Header.{header_line_of}
use Rattle.table.specs.Mapping.{BodyLine, no_form, reserved, blank, ending, mapping, body_line_of, after_end_of}
use Rattle.table.specs.Numbers.{Cond, lowest, in_form, n16, rows_at, key_conditions, charmap_conditions, mapping_conditions, end_conditions, Verdict}
use Rattle.table.specs.Load.{Reading, goes_on, judged, line_as, header_asks, mapping_asks, last_asks, phase_asks, line_asks, line_step}
use Rattle.table.specs.declared.header.HeaderLine.TheVariants as header
use Rattle.table.specs.declared.load.Phase.{Phase}
use Rattle.table.specs.declared.load.Phase.TheVariants.{Header, Mappings, Ended}
use Rattle.table.proofs.KeptSizes.{t1_sizes⇒Sizes}
use Rattle.table.proofs.LowestLaws.{lowest-fine, fine-lowest, none-in-form}
use Rattle.table.proofs.Judged.{judged-goes-on, table_with, KeepsSoFar-∷⁻, Keeps⇒end}
use Rattle.table.specs.declared.value.Key.{Key}

fine-goes-on : (v : Verdict) (r q : Reading) → v ≡ Ok tt → r ≡ q → judged v r ≡ goes_on q
fine-goes-on v r q p e = ap (λ (w : Verdict). judged w r) p ∙ ap goes_on e

-- what passes all conditions passes those of the grammar
pass-form : (cs : List Cond) (r q : Reading) → judged (lowest cs) r ≡ goes_on q → judged (in_form cs) r ≡ goes_on q
pass-form cs r q e = let j = judged-goes-on (lowest cs) r q e in fine-goes-on (in_form cs) r q (none-in-form cs (lowest-fine cs j.0)) j.1

pub step-in-grammar : (lim : Limits) (r : Reading) (s : List ℕ) (q : Reading) → line_step lowest lim r s ≡ goes_on q → line_step in_form lim r s ≡ goes_on q
step-in-grammar lim r s q e = let a = line_asks lim r s in pass-form a.conditions a.behind q e

-- from CHARMAP on, rows and lines so far keep the rules that are asked line by line, and behind END CHARMAP all
abbrev pub KeptAt : Limits → Phase → Keys → List (List Cell) → List Line → Type 0
KeptAt lim Header h rows ls = Unit {0}
KeptAt lim Mappings h rows ls = KeepsSoFar lim (table_with h rows ls)
KeptAt lim Ended h rows ls = Keeps lim (table_with h rows ls)

abbrev pub Keeping : Limits → Reading → Type 0
Keeping lim r = KeptAt lim r.phase r.head r.rows r.lines

-- the conditions of a header line are all of the grammar
pub key-form : (lim : Limits) (h : Keys) (n : ℕ) (k : Key) (v : ReadValue) → in_form (key_conditions lim h n k v) ≡ lowest (key_conditions lim h n k v)
unfolding in_form lowest key_conditions
key-form lim h n k v = refl

-- T2, T3, T4 and the order of the sizes are 16 at CHARMAP
charmap-kept : (lim : Limits) (h : Keys) (rows : List (List Cell)) → KeepsSoFar lim (table_with h rows []) → n16 h rows ≡ false
unfolding n16
charmap-kept lim h rows k =
    ap not
    (and_yes (leb (min_of h) (max_of h)) _ (le-leb (min_of h) (max_of h) (t1_sizes⇒Sizes _ _ k.rule1-sizes).ordered)
    (and_yes (t2 (length rows) (flat rows)) _ k.rule2
    (and_yes (t3 (steps_on rows) (max_of h)) _ k.rule3
    (and_yes (t4_sub (steps_on rows) (subchar_of h)) _ k.rule4-sub k.rule4-sub1))))

charmap-fine : (h : Keys) (rows : List (List Cell)) → in_form (charmap_conditions h rows) ≡ Ok tt → n16 h (rows_at h rows) ≡ false → lowest (charmap_conditions h rows) ≡ Ok tt
unfolding in_form lowest charmap_conditions
charmap-fine h rows e n = rw n e

header-kept : (lim : Limits) (h : Keys) (rows : List (List Cell)) (s : List ℕ) (x : ReadLine) → in_form (header_asks lim h rows s x).conditions ≡ Ok tt
    → Keeping lim (header_asks lim h rows s x).behind → lowest (header_asks lim h rows s x).conditions ≡ Ok tt
unfolding in_form lowest
header-kept lim h rows s None e k = e
header-kept lim h rows s (Some header.Blank) e k = e
header-kept lim h rows s (Some header.Charmap) e k = charmap-fine h rows e (charmap-kept lim h (rows_at h rows) k)
header-kept lim h rows s (Some (header.Known x v a b)) e k = sym (key-form lim h (length rows) x v) ∙ e

mapping-back : (lim : Limits) (h : Keys) (rows : List (List Cell)) (ls : List Line) (x : BodyLine) → in_form (mapping_asks lim h rows ls x).conditions ≡ Ok tt
    → Keeping lim (mapping_asks lim h rows ls x).behind → (lowest (mapping_asks lim h rows ls x).conditions ≡ Ok tt) × KeepsSoFar lim (table_with h rows ls)
unfolding in_form lowest
mapping-back lim h rows ls no_form e k = (e, k)
mapping-back lim h rows ls reserved e k = (e, k)
mapping-back lim h rows ls blank e k = (e, k)
mapping-back lim h rows ls ending e k = (fine-lowest (end_conditions ls) (Keeps⇒end lim h rows ls k, tt), k.so_far)
mapping-back lim h rows ls (mapping u c d) e k =
    let m = KeepsSoFar-∷⁻ lim h rows ls (line_as u c d) k in (fine-lowest (mapping_conditions lim h rows ls (line_as u c d)) m.1, m.0)

last-back : (lim : Limits) (h : Keys) (rows : List (List Cell)) (ls : List Line) (x : BodyLine) → in_form (last_asks h rows ls x).conditions ≡ Ok tt
    → Keeping lim (last_asks h rows ls x).behind → (lowest (last_asks h rows ls x).conditions ≡ Ok tt) × Keeps lim (table_with h rows ls)
unfolding in_form lowest
last-back lim h rows ls no_form e k = (e, k)
last-back lim h rows ls reserved e k = (e, k)
last-back lim h rows ls blank e k = (e, k)
last-back lim h rows ls ending e k = (e, k)
last-back lim h rows ls (mapping u c d) e k = (e, k)

phase-back : (lim : Limits) (p : Phase) (h : Keys) (rows : List (List Cell)) (ls : List Line) (s : List ℕ) → in_form (phase_asks lim p h rows ls s).conditions ≡ Ok tt
    → Keeping lim (phase_asks lim p h rows ls s).behind → (lowest (phase_asks lim p h rows ls s).conditions ≡ Ok tt) × KeptAt lim p h rows ls
phase-back lim Header h rows ls s e k = (header-kept lim h rows s (header_line_of s) e k, tt)
phase-back lim Mappings h rows ls s e k = mapping-back lim h rows ls (body_line_of s) e k
phase-back lim Ended h rows ls s e k = last-back lim h rows ls (after_end_of s) e k

-- a line of the grammar behind which the rules are kept passes all conditions, and they were kept before it
pub Keeping-step_of⁻ : (lim : Limits) (r : Reading) (s : List ℕ) (q : Reading) → line_step in_form lim r s ≡ goes_on q → Keeping lim q → (line_step lowest lim r s ≡ goes_on q) × Keeping lim r
Keeping-step_of⁻ lim r s q e k =
    let a = line_asks lim r s in
    let j = judged-goes-on (in_form a.conditions) a.behind q e in
    let b = phase-back lim r.phase r.head r.rows r.lines s j.0 (subst (Keeping lim) (sym j.1) k) in
    (fine-goes-on (lowest a.conditions) a.behind q b.0 j.1, b.1)
