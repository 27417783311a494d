-- Laws of header lines: the verdict on a line, ranges of values, the rows that lines give.
use Rattle.table.specs.declared.value.Class.TheVariants.{Sbcs, Mbcs}
use Rattle.table.specs.Codes.{code_of}
use Rattle.table.specs.Header.{ReadValue}
use Rattle.table.specs.declared.value.Value.{Value}
use Rattle.table.specs.Header.{ReadLine}
use Rattle.std.specs.Prelude.{Option, Some, None, Ok, Err}
use mathlib.Core.Path.{◌≡◌, refl, sym, subst, ◌∙◌}
use mathlib.Core.Bool.{Bool, true, false}
use mathlib.Core.List.{List}
use Prim.Native.Nat.{ℕ, ◌+◌, ◌-◌, ◌/◌, ◌<◌, ◌≤◌}
use native.Mathlib.Omega.{arith}
use lib.Dec.{ltb, leb, eqb}
use lib.ListN.{length, get_or, take, drop, replicate, length-replicate}
use borrow.Author.Tests.{leb-false, leb-true, eqb-false}
use Rattle.lists.specs.Ascii.{ascii}
use Rattle.lists.specs.Pick.{pick}
use Rattle.lists.specs.Order.{All}
use Rattle.lists.proofs.Laws.{clash}
use Rattle.lists.proofs.Order.{All-⇒}
use Rattle.lists.proofs.Cases.{pick-case}
use Rattle.lists.proofs.Chains.{or-no-right}
use Rattle.table.specs.Cells.{Cell, illegal}
use Rattle.table.specs.declared.text.ByteRun.{ByteRun}
use Rattle.table.specs.declared.header.HeaderLine.TheVariants.{Blank, Charmap, Known}
use Rattle.table.specs.Text.{byte_of, skip_at, ends_at, content_end, byte_at, join_at, ByteSeries, with_byte, bytes_more, bytes_from, bytes_at, is_charmap, series, broken}
use Rattle.table.specs.Row.{well_at, meaning, open_at, entries_of, row_of}
use Rattle.table.specs.Header.{key_end, key_of, quoted_of, name_in, class_name, class_in, digit_in, min_in, max_in, sub_in, sub1_value, row_from, row_in, value_of, is_row, key_line, keyed_line, header_line_at, header_line_of}
use Rattle.table.specs.Keys.{Keys}
use Rattle.table.specs.Numbers.{n11, n12, n14, n15, lowest, key_conditions}
use Rattle.table.specs.Limits.{Limits}
use Rattle.lists.specs.Strings.{same}
use Rattle.table.specs.Codes.{packed, AllByte}
use Rattle.table.proofs.LowestLaws.{lowest-fine}
use Rattle.table.proofs.Packing.{packed-fits, packed-padded}
use Rattle.table.proofs.TextLaws.{scan, ends-inside, Forth, byte-forth, SeriesByte, more_bytes}
use Rattle.table.proofs.RowText.{Bounded, entries-bounded, overwritten-length}
use Rattle.table.specs.declared.load.Refusal.TheVariants as refusal
use Rattle.table.specs.loops.Coded.{byte_run_of, lone_run, digit_read}
use Rattle.table.specs.loops.Ranges.{InRange}
use Rattle.table.proofs.OneMore.{rows_over}
use Rattle.table.specs.Row.{Entry}
use Rattle.table.specs.declared.value.Key.{Key}
use Rattle.table.specs.declared.value.Key.TheVariants.{CodeSetName, CurMin, CurMax, ConvClass, SubChar, SubChar1, State, Base, Other}
use Rattle.table.specs.declared.value.Value.TheVariants.{Any, Unbuilt, Name, Min, Max, Class, Sub, Sub1, Row}

-- a key's line, condition by condition
pub key-verdict : (lim : Limits) (h : Keys) (n : ℕ) (k : Key) (v : ReadValue) →
    lowest (key_conditions lim h n k v)
    ≡ pick (n11 h k) (Err refusal.KeyAgain) (pick (n12 v) (Err refusal.UnfitValue) (pick (n14 n v) (Err refusal.NotBuilt) (pick (n15 lim n v) (Err refusal.OutOfRange) (Ok tt))))
unfolding lowest key_conditions
key-verdict lim h n k v = refl

-- a value that no condition speaks of
pub other-verdict : (lim : Limits) (h : Keys) (n : ℕ) (k : Key) (v : Value) → n11 h k ≡ false
    → (v ≡ Unbuilt → ⊥) → ((w : ℕ) (l o : Bool) → v ≡ Row w l o → ⊥)
    → Ok tt ≡ lowest (key_conditions lim h n k (Some v))
unfolding lowest key_conditions n12 n14 n15
other-verdict lim h n k Any e unbuilt row = rw e
other-verdict lim h n k Unbuilt e unbuilt row = absurd (unbuilt refl)
other-verdict lim h n k Name e unbuilt row = rw e
other-verdict lim h n k (Min d) e unbuilt row = rw e
other-verdict lim h n k (Max d) e unbuilt row = rw e
other-verdict lim h n k (Class c) e unbuilt row = rw e
other-verdict lim h n k (Sub c) e unbuilt row = rw e
other-verdict lim h n k (Sub1 b) e unbuilt row = rw e
other-verdict lim h n k (Row w l o) e unbuilt row = absurd (row w l o refl)

-- subchar and subchar1 by the run of bytes as the code holds it
abbrev pub sub_read : Option ByteRun → ReadValue
sub_read None = None
sub_read (Some r) = Some (Sub (record { bits = r.bits; len = r.len }))

pub sub-lone : (v : List ℕ) (x : ByteSeries) → sub_in v x ≡ sub_read (lone_run v 4 (byte_run_of x))
unfolding sub_in
sub-lone v broken = refl
sub-lone v (series l m e) = by-tests m (leb (length l) 4) (leb (length v) (skip_at v e))
  where
    by-tests : (a b c : Bool) → pick a None (pick b (pick c (Some (Sub (code_of l))) None) None)
        ≡ sub_read (pick a None (pick b (pick c (Some (record { bits = packed l; len = length l; joined = m; end = e })) None) None))
    by-tests true b c = refl
    by-tests false true true = refl
    by-tests false true false = refl
    by-tests false false c = refl

abbrev pub sub1_read : Option ByteRun → ReadValue
sub1_read None = None
sub1_read (Some r) = Some (Sub1 (r.bits / 16777216))

pub sub1-lone : (v : List ℕ) (x : ByteSeries) → sub1_value v x ≡ sub1_read (lone_run v 1 (byte_run_of x))
unfolding sub1_value
sub1-lone v broken = refl
sub1-lone v (series l m e) = by-tests m (leb (length l) 1) (leb (length v) (skip_at v e))
  where
    by-tests : (a b c : Bool) → pick a None (pick b (pick c (Some (Sub1 (packed l / 16777216))) None) None)
        ≡ sub1_read (pick a None (pick b (pick c (Some (record { bits = packed l; len = length l; joined = m; end = e })) None) None))
    by-tests true b c = refl
    by-tests false true true = refl
    by-tests false true false = refl
    by-tests false false c = refl

-- mb_cur_min and mb_cur_max by the digit that was read
abbrev pub min_read : Option ℕ → ReadValue
min_read None = None
min_read (Some d) = Some (Min d)

pub min-digit : (d : ℕ) → min_in d ≡ min_read (digit_read d)
unfolding min_in
min-digit d = by-test (eqb d 0)
  where
    by-test : (b : Bool) → pick b None (Some (Min d)) ≡ min_read (pick b None (Some d))
    by-test true = refl
    by-test false = refl

abbrev pub max_read : Option ℕ → ReadValue
max_read None = None
max_read (Some d) = Some (Max d)

pub max-digit : (d : ℕ) → max_in d ≡ max_read (digit_read d)
unfolding max_in
max-digit d = by-test (eqb d 0)
  where
    by-test : (b : Bool) → pick b None (Some (Max d)) ≡ max_read (pick b None (Some d))
    by-test true = refl
    by-test false = refl

-- a line that does not end at p: what the byte there makes of it
pub line-key : (s : List ℕ) (p : ℕ) → ends_at s p ≡ false → get_or s p 0 ≡ 60 → header_line_at s p ≡ keyed_line s (p + 1) (key_end (p + 1) (drop (p + 1) s))
unfolding header_line_at
line-key s p e h = let lt = ends-inside s p e in search (scan, e)

pub line_other : (s : List ℕ) (p : ℕ) → ends_at s p ≡ false → (get_or s p 0 ≡ 60 → ⊥) → header_line_at s p ≡ pick (is_charmap s p) (Some Charmap) None
unfolding header_line_at
line_other s p e h = let lt = ends-inside s p e in search (scan, e)

-- a digit is 1 to 4, or 0 for none
digit-range : (v : List ℕ) (at : ℕ) → digit_in v at ≤ 4
unfolding digit_in
digit-range v at =
    pick-case P (ltb (byte_of v at) 49) _ _ (λ _. omega arith)
    (λ _. pick-case P (leb (byte_of v at) 52) _ _
    (λ h. pick-case P (leb (length v) (skip_at v (at + 1))) _ _ (λ _. omega (arith, leb-true (byte_of v at) 52 h)) (λ _. omega arith))
    (λ _. omega arith))
  where
    P : ℕ → Type 0
    P d = d ≤ 4

one_up : (d : ℕ) → eqb d 0 ≡ false → 1 ≤ d
one_up d e = let n = eqb-false d 0 e in omega arith

min-range : (d : ℕ) → d ≤ 4 → InRange (min_in d)
unfolding min_in InRange
min-range d h = pick-case InRange (eqb d 0) _ _ (λ _. tt) (λ e. (one_up d e, h))

max-range : (d : ℕ) → d ≤ 4 → InRange (max_in d)
unfolding max_in InRange
max-range d h = pick-case InRange (eqb d 0) _ _ (λ _. tt) (λ e. (one_up d e, h))

name-range : (x : Option (ℕ × ℕ)) → InRange (name_in x)
unfolding name_in InRange
name-range None = tt
name-range (Some (a, e)) = pick-case InRange (eqb a e) _ _ (λ _. tt) (λ _. tt)

class-picked : (a b c d : Bool) → InRange (pick a (Some (Class Sbcs)) (pick b (Some (Class Mbcs)) (pick c (Some Unbuilt) (pick d (Some Unbuilt) None))))
unfolding InRange
class-picked true b c d = tt
class-picked false true c d = tt
class-picked false false true d = tt
class-picked false false false true = tt
class-picked false false false false = tt

class-range : (v : List ℕ) (x : Option (ℕ × ℕ)) → InRange (class_in v x)
unfolding class_in class_name InRange
class-range v None = tt
class-range v (Some (a, e)) =
    let w = take (e - a) (drop a v) in
    class-picked (same w (ascii "SBCS")) (same w (ascii "MBCS")) (same w (ascii "DBCS"))
    (same w (ascii "EBCDIC_STATEFUL"))

-- a run has one byte or more
abbrev SeriesFull : ByteSeries → Type 0
SeriesFull broken = Unit {0}
SeriesFull (series l m e) = (1 ≤ length l) × AllByte l

with-full : (v : ℕ) (p : Bool) (r : ByteSeries) → v < 256 → SeriesByte r → SeriesFull (with_byte v p r)
unfolding AllByte
with-full v p broken h a = tt
with-full v p (series l m e) h a = (omega arith, (h, a))

from-full : (s : List ℕ) (at : ℕ) (n : Option (ℕ × ℕ)) → Forth 256 at n → SeriesFull (bytes_from s n)
from-full s at None h = tt
from-full s at (Some (v, e)) h = with-full v false (bytes_more (length s) s e (byte_at s (join_at s e))) h.0 (more_bytes (length s) s e _ (byte_at s (join_at s e)) (byte-forth s (join_at s e)))

bytes-full : (s : List ℕ) (at : ℕ) → SeriesFull (bytes_at s at)
unfolding bytes_at
bytes-full s at = from-full s _ (byte_at s (skip_at s at)) (byte-forth s (skip_at s at))

sub-range : (v : List ℕ) (x : ByteSeries) → SeriesFull x → InRange (sub_in v x)
unfolding sub_in InRange
sub-range v broken f = tt
sub-range v (series l m e) f =
    pick-case InRange m _ _ (λ _. tt)
    (λ _. pick-case InRange (leb (length l) 4) _ _
    (λ h. pick-case InRange (leb (length v) (skip_at v e)) _ _
    (λ _. let le = leb-true (length l) 4 h in (f.0, le, packed-fits l f.1, packed-padded l f.1 f.0 le)) (λ _. tt))
    (λ _. tt))

sub1-range : (v : List ℕ) (x : ByteSeries) → SeriesFull x → InRange (sub1_value v x)
unfolding sub1_value InRange
sub1-range v broken f = tt
sub1-range v (series l m e) f =
    pick-case InRange m _ _ (λ _. tt)
    (λ _. pick-case InRange (leb (length l) 1) _ _
    (λ _. pick-case InRange (leb (length v) (skip_at v e)) _ _ (λ _. omega (arith, packed-fits l f.1)) (λ _. tt)) (λ _. tt))

from-range : (v : List ℕ) (n : Option (ℕ × ℕ)) → InRange (row_from v n)
unfolding row_from InRange
from-range v None = tt
from-range v (Some (k, q)) = pick-case InRange (well_at v q) _ _ (λ _. tt) (λ _. tt)

row-range : (v : List ℕ) → InRange (row_in v)
unfolding row_in InRange
row-range v = pick-case InRange (leb (length v) (skip_at v 0)) _ _ (λ _. tt) (λ _. from-range v (open_at v (skip_at v 0)))

-- what a key's value holds lies in its range
pub value-ranges : (k : Key) (v : List ℕ) → InRange (value_of k v)
unfolding value_of InRange
value-ranges CodeSetName v = name-range (quoted_of v)
value-ranges CurMin v = min-range (digit_in v (skip_at v 0)) (digit-range v (skip_at v 0))
value-ranges CurMax v = max-range (digit_in v (skip_at v 0)) (digit-range v (skip_at v 0))
value-ranges ConvClass v = class-range v (quoted_of v)
value-ranges SubChar v = sub-range v (bytes_at v 0) (bytes-full v 0)
value-ranges SubChar1 v = sub1-range v (bytes_at v 0) (bytes-full v 0)
value-ranges State v = row-range v
value-ranges Base v = tt
value-ranges Other v = tt

-- a key's line: its value is that of the text from q to e
abbrev ReadsAs : List ℕ → ReadLine → Type 0
ReadsAs s None = Unit {0}
ReadsAs s (Some Blank) = Unit {0}
ReadsAs s (Some Charmap) = Unit {0}
ReadsAs s (Some (Known k v q e)) = v ≡ value_of k (take (e - q) (drop q s))

key_reads : (s : List ℕ) (k : Key) (q : ℕ) (x : Option ℕ) → ReadsAs s (key_line s k q x)
unfolding key_line
key_reads s k q None = tt
key_reads s k q (Some e) = refl

keyed-reads : (s : List ℕ) (at : ℕ) (x : Option ℕ) → ReadsAs s (keyed_line s at x)
unfolding keyed_line
keyed-reads s at None = tt
keyed-reads s at (Some e) =
    pick-case (ReadsAs s) (eqb at e) _ _ (λ _. tt)
    (λ _. key_reads s (key_of (take (e - at) (drop at s))) (e + 1) (content_end false (e + 1) (drop (e + 1) s)))

line_reads : (s : List ℕ) (p : ℕ) → ReadsAs s (header_line_at s p)
unfolding header_line_at
line_reads s p =
    pick-case (ReadsAs s) (ends_at s p) _ _ (λ _. tt)
    (λ _. pick-case (ReadsAs s) (eqb (byte_of s p) 60) _ _
    (λ _. keyed-reads s (p + 1) (key_end (p + 1) (drop (p + 1) s)))
    (λ _. pick-case (ReadsAs s) (is_charmap s p) _ _ (λ _. tt) (λ _. tt)))

known-value : (s : List ℕ) (k : Key) (v : ReadValue) (q e : ℕ) → header_line_of s ≡ Some (Known k v q e) → v ≡ value_of k (take (e - q) (drop q s))
unfolding header_line_of
known-value s k v q e h = subst (ReadsAs s) h (line_reads s (skip_at s 0))

pub known-range : (s : List ℕ) (k : Key) (v : ReadValue) (q e : ℕ) → header_line_of s ≡ Some (Known k v q e) → InRange v
known-range s k v q e h = subst InRange (sym (known-value s k v q e h)) (value-ranges k (take (e - q) (drop q s)))

-- a row that is let through finds room
over-room : (lim : Limits) (rows : ℕ) (v : ReadValue) → is_row v ≡ true → n15 lim rows v ≡ false → leb lim.rows rows ≡ false
unfolding is_row n15
over-room lim rows None r e = absurd (clash r refl)
over-room lim rows (Some Any) r e = absurd (clash r refl)
over-room lim rows (Some Unbuilt) r e = absurd (clash r refl)
over-room lim rows (Some Name) r e = absurd (clash r refl)
over-room lim rows (Some (Min d)) r e = absurd (clash r refl)
over-room lim rows (Some (Max d)) r e = absurd (clash r refl)
over-room lim rows (Some (Class c)) r e = absurd (clash r refl)
over-room lim rows (Some (Sub c)) r e = absurd (clash r refl)
over-room lim rows (Some (Sub1 b)) r e = absurd (clash r refl)
over-room lim rows (Some (Row w l o)) r e = or-no-right o (leb lim.rows rows) (sym (rows_over lim rows o) ∙ e)

pub row_room : (lim : Limits) (h : Keys) (n : ℕ) (k : Key) (v : ReadValue) → lowest (key_conditions lim h n k v) ≡ Ok tt → is_row v ≡ true → n < lim.rows
unfolding key_conditions
row_room lim h n k v e r = leb-false lim.rows n (over-room lim n v r (lowest-fine (key_conditions lim h n k v) e).1.1.1.0)

-- a row has 256 cells
row-full : (cs : List Entry) → All (λ c. c.hi < 256) cs → length (row_of cs) ≡ 256
unfolding row_of
row-full cs h = overwritten-length meaning cs 256 (replicate 256 illegal) h (length-replicate {A = Cell} 256 illegal)

pub row-length : (s : List ℕ) → length (row_of (entries_of s)) ≡ 256
row-length s = row-full (entries_of s) (All-⇒ (λ c (b : Bounded c). b.0) (entries_of s) (entries-bounded s))
