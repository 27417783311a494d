-- The keys that the code's struct holds: which are given, their values, 13, the rows at CHARMAP, and a value kept.
use Rattle.table.specs.declared.value.Class.{Class as NamedClass}
use Rattle.table.specs.Keys.{number_of_class}
use Rattle.table.specs.declared.value.Class.TheVariants.{Sbcs, Mbcs}
use Rattle.std.specs.Prelude.{Some, None}
use Rattle.table.specs.Header.{ReadValue}
use Prim.Native.Nat.{ℕ, zero, suc, ◌+◌, ◌-◌, ◌≤◌}
use mathlib.Core.Path.{◌≡◌, refl, sym, ap, ◌∙◌}
use mathlib.Core.Bool.{Bool, true, false, not}
use mathlib.Core.Option.{none, some}
use mathlib.Core.List.{List, [], ◌∷◌}
use native.Mathlib.Omega.{arith}
use lib.Dec.{ltb, eqb, leb}
use lib.ListN.{length, replicate}
use borrow.Author.Tests.{lt-ltb, ne_eqb, le-leb}
use Rattle.lists.specs.Pick.{pick}
use Rattle.table.specs.Cells.{Cell, ends}
use Rattle.table.specs.Codes.{packed, unpacked, bytes_of}
use Rattle.table.specs.Stored.{padded}
use Rattle.table.specs.Memory.{sub1_in}
use Rattle.table.specs.Keys.{sbcs, mbcs, class_by, is_sbcs, min_of, max_of, subchar_of}
use Rattle.table.specs.Header.{is_row}
use Rattle.table.specs.Numbers.{n13, rows_at}
use Rattle.table.specs.Load.{keep_value}
use Rattle.table.specs.loops.Progress.{kept, keys_in, class_number, head_of, ProperHead}
use Rattle.table.specs.declared.header.Head.{Head}
use Rattle.table.proofs.NumbersBack.{sub1_of-sub1_in}
use Rattle.table.proofs.Packing.{pack-unpack, length-unpacked}
use Rattle.lists.specs.Options.{is_some, or_else}
use Rattle.table.specs.loops.Ranges.{InRange}
use Rattle.table.specs.declared.value.Value.TheVariants.{Any, Unbuilt, Name, Min, Max, Class, Sub, Sub1, Row}

-- a key is given where its number is not 0
pub is_some-kept : {A : Type 0} (n : ℕ) (x : A) → is_some (kept n x) ≡ ltb 0 n
is_some-kept {A} n x = by-test (ltb 0 n)
  where
    by-test : (b : Bool) → is_some {A = A} (pick b (some x) none) ≡ b
    by-test true = refl
    by-test false = refl

pub is_some-sub1_in : (n : ℕ) → is_some (sub1_in n) ≡ ltb 0 n
is_some-sub1_in zero = refl
is_some-sub1_in (suc n) = rw (ne_eqb (suc n) 0 (λ e. omega arith), lt-ltb 0 (suc n) (omega arith)) refl

class-is : (n : ℕ) → is_sbcs (kept n (class_by n)) ≡ eqb n 1
class-is zero = refl
class-is (suc n) = rw (lt-ltb 0 (suc n) (omega arith)) (by-test (eqb (suc n) 1))
  where
    by-test : (b : Bool) → is_sbcs (some (pick b sbcs mbcs)) ≡ b
    by-test true = refl
    by-test false = refl

-- the values
kept-some : {A : Type 0} (n : ℕ) (x : A) → 1 ≤ n → kept n x ≡ some x
kept-some n x one = rw (lt-ltb 0 n one) refl

value-is : (n : ℕ) → or_else 0 (kept n n) ≡ n
value-is zero = refl
value-is (suc n) = rw (lt-ltb 0 (suc n) (omega arith)) refl

bytes-are : (n v : ℕ) → or_else [] (kept n (unpacked n v)) ≡ unpacked n v
unfolding unpacked
bytes-are zero v = refl
bytes-are (suc n) v = rw (lt-ltb 0 (suc n) (omega arith)) refl

pub min_of-keys_in : (h : Head) → min_of (keys_in h) ≡ h.min
min_of-keys_in h = value-is h.min

pub max_of-keys_in : (h : Head) → max_of (keys_in h) ≡ h.max
max_of-keys_in h = value-is h.max

pub subchar_of-keys_in : (h : Head) → subchar_of (keys_in h) ≡ bytes_of h.sub
subchar_of-keys_in h = bytes-are h.sub.len h.sub.bits

-- the struct is the one that holds its keys and count
class_back : (n : ℕ) → n ≤ 2 → class_number (kept n (class_by n)) ≡ n
class_back zero e = refl
class_back (suc zero) e = refl
class_back (suc (suc zero)) e = refl
class_back (suc (suc (suc n))) e = absurd (omega arith)

bits_back : (n v : ℕ) → (n ≡ 0 → v ≡ 0) → (1 ≤ n → padded n v ≡ true) → packed (unpacked n v) ≡ v
unfolding packed unpacked
bits_back zero v z p = sym (z refl)
bits_back (suc n) v z p = pack-unpack (suc n) v (p (omega arith))

pub head-back : (h : Head) → ProperHead h → head_of (keys_in h) h.rows ≡ h
head-back h p =
    let bits = ap packed (subchar_of-keys_in h) ∙ bits_back h.sub.len h.sub.bits p.sub-none p.sub-padded in
    let len = ap length (subchar_of-keys_in h) ∙ length-unpacked h.sub.len h.sub.bits in
    λ t. record {
      name = h.name;
      min = min_of-keys_in h t;
      max = max_of-keys_in h t;
      class = class_back h.class p.class-small t;
      sub = record { bits = bits t; len = len t };
      sub1 = sub1_of-sub1_in h.sub1 t;
      rows = h.rows;
    }

-- one struct for one reading
pub head-one : (h g : Head) → ProperHead h → ProperHead g → keys_in h ≡ keys_in g → h.rows ≡ g.rows → h ≡ g
head-one h g p q e n = sym (head-back h p) ∙ (λ t. head_of (e t) (n t)) ∙ head-back g q

-- 13: the first of these that fails decides
no_row : (s : Bool) (n : ℕ) → not (pick s true (leb 1 n)) ≡ pick s false (eqb n 0)
no_row true n = refl
no_row false zero = refl
no_row false (suc n) = ap not (le-leb 1 (suc n) (omega arith)) ∙ sym (ne_eqb (suc n) 0 (λ e. omega arith))

absent-chain : (a b c d e s : Bool) (n : ℕ)
    → not (pick a (pick b (pick c (pick d (pick e (pick s true (leb 1 n)) false) false) false) false) false)
    ≡ pick a (pick b (pick c (pick d (pick e (pick s false (eqb n 0)) true) true) true) true) true
absent-chain true true true true true s n = no_row s n
absent-chain true true true true false s n = refl
absent-chain true true true false e s n = refl
absent-chain true true false d e s n = refl
absent-chain true false c d e s n = refl
absent-chain false b c d e s n = refl

pub absent_by : (h : Head)
    → n13 (keys_in h) h.rows ≡ pick h.name
    (pick (ltb 0 h.min)
    (pick (ltb 0 h.max)
    (pick (ltb 0 h.class)
    (pick (ltb 0 h.sub.len)
    (pick (eqb h.class 1) false (eqb h.rows 0)) true) true) true) true) true
unfolding n13
absent_by h =
    let k = keys_in h in
    absent-chain h.name (is_some k.min) (is_some k.max) (is_some k.class) (is_some k.subchar) (is_sbcs k.class) h.rows
    ∙ (λ i. pick h.name
    (pick (is_some-kept h.min h.min i)
    (pick (is_some-kept h.max h.max i)
    (pick (is_some-kept h.class (class_by h.class) i)
    (pick (is_some-kept h.sub.len (bytes_of h.sub) i)
    (pick (class-is h.class i) false (eqb h.rows 0)) true) true) true) true) true)

-- the rows at CHARMAP
pub rows-by : (h : Head) (rows : List (List Cell)) → h.rows ≡ length rows
    → rows_at (keys_in h) rows ≡ pick (eqb h.class 1) (pick (eqb h.rows 0) (replicate 256 ends ∷ []) rows) rows
unfolding rows_at
rows-by h rows e = λ i. pick (class-is h.class i) (pick (eqb (sym e i) 0) (replicate 256 ends ∷ []) rows) rows

-- a value kept in the struct
unfoldable pub keep_in : Head → ReadValue → Head
keep_in h None = h
keep_in h (Some Any) = h
keep_in h (Some Unbuilt) = h
keep_in h (Some Name) = record { name = true; min = h.min; max = h.max; class = h.class; sub = h.sub; sub1 = h.sub1; rows = h.rows }
keep_in h (Some (Min d)) = record { name = h.name; min = d; max = h.max; class = h.class; sub = h.sub; sub1 = h.sub1; rows = h.rows }
keep_in h (Some (Max d)) = record { name = h.name; min = h.min; max = d; class = h.class; sub = h.sub; sub1 = h.sub1; rows = h.rows }
keep_in h (Some (Class c)) = record { name = h.name; min = h.min; max = h.max; class = number_of_class c; sub = h.sub; sub1 = h.sub1; rows = h.rows }
keep_in h (Some (Sub c)) = record { name = h.name; min = h.min; max = h.max; class = h.class; sub = c; sub1 = h.sub1; rows = h.rows }
keep_in h (Some (Sub1 b)) = record { name = h.name; min = h.min; max = h.max; class = h.class; sub = h.sub; sub1 = 1 + b; rows = h.rows }
keep_in h (Some (Row w l o)) = record { name = h.name; min = h.min; max = h.max; class = h.class; sub = h.sub; sub1 = h.sub1; rows = h.rows + 1 }

named : (c : NamedClass) → (1 ≤ number_of_class c) × (number_of_class c ≤ 2)
named Sbcs = (omega arith, omega arith)
named Mbcs = (omega arith, omega arith)

pub keep-proper : (h : Head) (v : ReadValue) → InRange v → ProperHead h → ProperHead (keep_in h v)
unfolding keep_in InRange
keep-proper h None i p = p
keep-proper h (Some Any) i p = p
keep-proper h (Some Unbuilt) i p = p
keep-proper h (Some Name) i p = record { min-small = p.min-small; max-small = p.max-small; class-small = p.class-small; sub-short = p.sub-short; sub-none = p.sub-none; sub-padded = p.sub-padded; sub1-small = p.sub1-small }
keep-proper h (Some (Min d)) i p = record { min-small = i.1; max-small = p.max-small; class-small = p.class-small; sub-short = p.sub-short; sub-none = p.sub-none; sub-padded = p.sub-padded; sub1-small = p.sub1-small }
keep-proper h (Some (Max d)) i p = record { min-small = p.min-small; max-small = i.1; class-small = p.class-small; sub-short = p.sub-short; sub-none = p.sub-none; sub-padded = p.sub-padded; sub1-small = p.sub1-small }
keep-proper h (Some (Class c)) i p = record { min-small = p.min-small; max-small = p.max-small; class-small = (named c).1; sub-short = p.sub-short; sub-none = p.sub-none; sub-padded = p.sub-padded; sub1-small = p.sub1-small }
keep-proper h (Some (Sub c)) i p = record { min-small = p.min-small; max-small = p.max-small; class-small = p.class-small; sub-short = i.1; sub-none = λ z. absurd (omega (arith, z, i.0)); sub-padded = λ _. i.3; sub1-small = p.sub1-small }
keep-proper h (Some (Sub1 b)) i p = record { min-small = p.min-small; max-small = p.max-small; class-small = p.class-small; sub-short = p.sub-short; sub-none = p.sub-none; sub-padded = p.sub-padded; sub1-small = omega arith }
keep-proper h (Some (Row w l o)) i p = record { min-small = p.min-small; max-small = p.max-small; class-small = p.class-small; sub-short = p.sub-short; sub-none = p.sub-none; sub-padded = p.sub-padded; sub1-small = p.sub1-small }

pub keep-count : (h : Head) (v : ReadValue) → (keep_in h v).rows ≡ pick (is_row v) (h.rows + 1) h.rows
unfolding keep_in is_row
keep-count h None = refl
keep-count h (Some Any) = refl
keep-count h (Some Unbuilt) = refl
keep-count h (Some Name) = refl
keep-count h (Some (Min d)) = refl
keep-count h (Some (Max d)) = refl
keep-count h (Some (Class c)) = refl
keep-count h (Some (Sub c)) = refl
keep-count h (Some (Sub1 b)) = refl
keep-count h (Some (Row w l o)) = refl

-- is kept among the keys
sub1-some : (b : ℕ) → sub1_in (1 + b) ≡ some b
sub1-some b = let k : 1 + b - 1 ≡ b = omega arith in rw (ne_eqb (1 + b) 0 (λ e. omega arith), k)

pub kept-keys : (h : Head) (v : ReadValue) → InRange v → keys_in (keep_in h v) ≡ keep_value (keys_in h) v
unfolding InRange keep_in keep_value
kept-keys h None i = refl
kept-keys h (Some Any) i = refl
kept-keys h (Some Unbuilt) i = refl
kept-keys h (Some Name) i = refl
kept-keys h (Some (Min d)) i = λ t. record { name = h.name; min = kept-some d d i.0 t; max = (keys_in h).max; class = (keys_in h).class; subchar = (keys_in h).subchar; subchar1 = (keys_in h).subchar1 }
kept-keys h (Some (Max d)) i = λ t. record { name = h.name; min = (keys_in h).min; max = kept-some d d i.0 t; class = (keys_in h).class; subchar = (keys_in h).subchar; subchar1 = (keys_in h).subchar1 }
kept-keys h (Some (Class c)) i =
    λ t. record { name = h.name; min = (keys_in h).min; max = (keys_in h).max; class = kept-some (number_of_class c) (class_by (number_of_class c)) (named c).0 t; subchar = (keys_in h).subchar; subchar1 = (keys_in h).subchar1 }
kept-keys h (Some (Sub c)) i =
    λ t. record { name = h.name; min = (keys_in h).min; max = (keys_in h).max; class = (keys_in h).class; subchar = kept-some c.len (bytes_of c) i.0 t; subchar1 = (keys_in h).subchar1 }
kept-keys h (Some (Sub1 b)) i =
    λ t. record { name = h.name; min = (keys_in h).min; max = (keys_in h).max; class = (keys_in h).class; subchar = (keys_in h).subchar; subchar1 = sub1-some b t }
kept-keys h (Some (Row w l o)) i = refl

-- and the struct is the one that holds them
pub kept-head : (h : Head) (v : ReadValue) → InRange v → ProperHead h → keep_in h v ≡ head_of (keep_value (keys_in h) v) (pick (is_row v) (h.rows + 1) h.rows)
kept-head h v i p = sym (head-back (keep_in h v) (keep-proper h v i p)) ∙ (λ t. head_of (kept-keys h v i t) (keep-count h v t))

pub kept-as : (h : Head) (v : ReadValue) → InRange v → ProperHead h → (r : Head) → r ≡ keep_in h v → r ≡ head_of (keep_value (keys_in h) v) (pick (is_row v) (h.rows + 1) h.rows)
kept-as h v i p r e = e ∙ kept-head h v i p
