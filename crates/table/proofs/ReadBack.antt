-- T10: each line that only writes has its code read by some line.
-- t10⇒ReadBack, ReadBack⇒t10   T10 as a sentence about the lines, and back
-- t10-members                  the order of the lines does not matter
-- stored_there, stored_back    lines stored and taken out again; t10-sorted: T10 of these
-- written-reads                a line that writes its code, by `|0` or `|1`: some line reads that code
-- written-complete             and the code is complete (T5)
-- Cited by docs/LAWS.md: written-reads, written-complete. Assumes nothing.
use mathlib.Core.Path.{◌≡◌, refl, sym, ap, subst, ◌∙◌}
use mathlib.Core.Bool.{Bool, true, false}
use mathlib.Core.Option.{Option, none, some}
use mathlib.Core.List.{List, map}
use Prim.Native.Nat.{ℕ}
use lib.Dec.{leb, eqb}
use lib.ListN.{length}
use Rattle.lists.specs.Pick.{pick}
use Rattle.lists.specs.Order.{All, In}
use Rattle.lists.specs.Options.{is_some}
use Rattle.lists.specs.Strings.{same}
use Rattle.lists.proofs.Laws.{clash, and_yes, and_left, and_right}
use Rattle.lists.proofs.Chains.{implies-right, implies-yes}
use Rattle.lists.proofs.Choice.{⇔⇒≡}
use Rattle.lists.proofs.Order.{All-In⁻, All-In⁺, In-map⁺, In-map⁻, In-sort⁻, In-sort⁺}
use Rattle.lists.proofs.AllAny.{all_true, true-all, any-first}
use Rattle.lists.proofs.Tests.{any_of⇒In, In⇒any_of}
use Rattle.lists.proofs.Strings.{same⇒≡, same_refl}
use Rattle.table.specs.Limits.{Limits}
use Rattle.table.specs.States.{end_kind, is_code}
use Rattle.table.specs.Meaning.{Line, Table, steps_of, is_read, has_code, writes_code, only_writes, reader}
use Rattle.table.specs.Rules.{t5, t5_kind, t10, Keeps}
use Rattle.table.specs.Stored.{stored_of, line_in, less}
use Rattle.table.specs.Memory.{sorted}
use Rattle.table.specs.loops.Progress.{GoodLine}
use Rattle.table.proofs.StoredLine.{line-stored}
use Rattle.std.specs.Prelude.{Option as Optional, Some, None, is_some as is_some_in}
use Rattle.table.specs.declared.states.EndKind.{EndKind}

-- a line that reads a code
abbrev pub ReadBy : List Line → Line → Type 0
ReadBy ls l = (x : Line) × In x ls × (is_read x ≡ true) × (x.code ≡ l.code)

abbrev pub ReadBack : List Line → Type 0
ReadBack ls = (l : Line) → In l ls → only_writes l ≡ true → ReadBy ls l

module _ (ls : List Line) (l : Line) where
  abbrev reads : Line → Bool
  reads x = pick (is_read x) (same x.code l.code) false

  reader⇒ReadBy : is_some (reader l.code ls) ≡ true → ReadBy ls l
  reader⇒ReadBy e =
      let r = any_of⇒In reads ls (any-first reads reads (λ x. refl) ls ∙ e) in
      (r.0, r.1.0, and_left (is_read r.0) _ r.1.1, same⇒≡ r.0.code l.code (and_right (is_read r.0) _ r.1.1))

  ReadBy⇒reader : ReadBy ls l → is_some (reader l.code ls) ≡ true
  ReadBy⇒reader (x, i, p, e) =
      sym (any-first reads reads (λ y. refl) ls)
      ∙ In⇒any_of reads x ls i (and_yes (is_read x) _ p (subst (λ (c : List ℕ). same x.code c ≡ true) e (same_refl x.code)))

pub t10⇒ReadBack : (ls : List Line) → t10 ls ≡ true → ReadBack ls
unfolding t10
t10⇒ReadBack ls h l i w =
    reader⇒ReadBy ls l
    (implies-right (only_writes l) _
    (All-In⁻ (λ x. pick (only_writes x) (is_some (reader x.code ls)) true ≡ true) l ls (all_true _ ls h) i) w)

pub ReadBack⇒t10 : (ls : List Line) → ReadBack ls → t10 ls ≡ true
unfolding t10
ReadBack⇒t10 ls h =
    true-all _ ls (All-In⁺ ls (λ l i. implies-yes (only_writes l) _ (λ w. ReadBy⇒reader ls l (h l i w))))

-- the order of the lines does not matter
module _ (ls ms : List Line) (there : (l : Line) → In l ls → In l ms) (back : (l : Line) → In l ms → In l ls) where
  moved : ReadBack ls → ReadBack ms
  moved h l i w = let (x, j, p, e) = h l (back l i) w in (x, there x j, p, e)

pub t10-members : (ls ms : List Line) → ((l : Line) → In l ls → In l ms) → ((l : Line) → In l ms → In l ls) → t10 ls ≡ t10 ms
t10-members ls ms there back =
    ⇔⇒≡ (t10 ls) (t10 ms)
    (λ h. ReadBack⇒t10 ms (moved ls ms there back (t10⇒ReadBack ls h)))
    (λ h. ReadBack⇒t10 ls (moved ms ls back there (t10⇒ReadBack ms h)))

-- lines stored and taken out again
pub stored_there : (ls : List Line) → All GoodLine ls → (l : Line) → In l (map line_in (sorted ls)) → In l ls
stored_there ls gs l i =
    let a = In-map⁻ line_in l (sorted ls) i in
    let b = In-map⁻ stored_of a.0 ls (In-sort⁻ less a.0 (map stored_of ls) a.1.0) in
    subst (λ (x : Line). In x ls) (sym (a.1.1 ∙ ap line_in b.1.1 ∙ line-stored b.0 (All-In⁻ GoodLine b.0 ls gs b.1.0))) b.1.0

pub stored_back : (ls : List Line) → All GoodLine ls → (l : Line) → In l ls → In l (map line_in (sorted ls))
stored_back ls gs l i =
    subst (λ (x : Line). In x (map line_in (sorted ls))) (line-stored l (All-In⁻ GoodLine l ls gs i))
    (In-map⁺ line_in (stored_of l) (sorted ls) (In-sort⁺ less (stored_of l) (map stored_of ls) (In-map⁺ stored_of l ls i)))

pub t10-sorted : (ls : List Line) → All GoodLine ls → t10 (map line_in (sorted ls)) ≡ t10 ls
t10-sorted ls gs = t10-members (map line_in (sorted ls)) ls (stored_there ls gs) (stored_back ls gs)

-- the code of a line that writes it is read by some line: by itself, or by T10
pub written-reads : (lim : Limits) (t : Table) → Keeps lim t → (l : Line) → In l t.lines → writes_code l ≡ true
    → (x : Line) × (reader l.code t.lines ≡ some x)
written-reads lim t k l i w = found (reader l.code t.lines) (ReadBy⇒reader t.lines l (by_kind (eqb l.indicator 0) refl w)) refl
  where
    by_kind : (b : Bool) → eqb l.indicator 0 ≡ b → pick b true (only_writes l) ≡ true → ReadBy t.lines l
    by_kind true e w = (l, i, ap (λ (x : Bool). pick x true (eqb l.indicator 3)) e, refl)
    by_kind false e w = t10⇒ReadBack t.lines k.rule10 l i w

    found : (o : Option Line) → is_some o ≡ true → reader l.code t.lines ≡ o → (x : Line) × (reader l.code t.lines ≡ some x)
    found none e q = absurd (clash e refl)
    found (some x) e q = (x, q)

-- and it is a complete code
pub writes_code⇒has_code : (l : Line) → writes_code l ≡ true → has_code l ≡ true
writes_code⇒has_code l = go (eqb l.indicator 0) (eqb l.indicator 1) (eqb l.indicator 3)
  where
    go : (a b c : Bool) → pick a true b ≡ true → pick a true (pick b true c) ≡ true
    go true b c e = refl
    go false true c e = refl
    go false false c e = absurd (clash e refl)

pub written-complete : (lim : Limits) (t : Table) → Keeps lim t → (l : Line) → In l t.lines → writes_code l ≡ true
    → is_code (steps_of t) 0 l.code ≡ true
written-complete lim t k l i w =
    let kept = All-In⁻ (λ x. t5 (steps_of t) t.min t.max x ≡ true) l t.lines (all_true _ t.lines k.so_far.rule5) i in
    let sized = implies-right (has_code l) _ kept (writes_code⇒has_code l w) in
    by_kind (end_kind (steps_of t) 0 l.code)
    (and_right (leb (length l.code) t.max) _ (and_right (leb t.min (length l.code)) _ sized))
  where
    by_kind : (o : Optional EndKind) → t5_kind l.point o ≡ true → is_some_in o ≡ true
    by_kind None e = absurd (clash e refl)
    by_kind (Some kind) e = refl
