-- Values of the known keys but icu:state: a value of the grammar is read as what it is, and what is read is such a value, or unfit.
-- name-reads, name-cases; class-reads, class_cases; min-reads, min_cases; max-reads, max_cases; sub-reads, sub_cases; sub1-reads, sub1-cases
-- BytesValue⇒AllByte    the values of `\xhh` are bytes
use Rattle.table.specs.Codes.{code_of}
use Rattle.table.specs.Header.{ReadValue}
use Rattle.std.specs.Prelude.{Option, Some, None}
use Prim.Native.Nat.{ℕ, ◌+◌, ◌-◌, ◌/◌, ◌<◌, ◌≤◌}
use mathlib.Core.Path.{◌≡◌, refl, sym, ap, ◌∙◌, subst}
use mathlib.Core.Logic.{◌⊎◌, inl, inr}
use mathlib.Core.List.{List, [], ◌∷◌, ◌++◌, append_assoc}
use mathlib.Core.Bool.{Bool, true, false}
use native.Mathlib.Omega.{arith}
use native.Mathlib.Nat.{add-zero}
use lib.ListN.{length, take, drop}
use lib.Dec.{ltb, leb, eqb}
use borrow.Author.Tests.{le-leb, lt-leb, le-ltb, ne_eqb, eqb-true, eqb-false, leb-true, ltb-false}
use Rattle.lists.specs.Order.{All, In}
use Rattle.lists.specs.Ascii.{ascii}
use Rattle.lists.proofs.Cases.{pick-case}
use Rattle.table.specs.Codes.{packed, AllByte}
use Rattle.table.specs.Text.{ByteSeries, series, broken, byte_of, skip_at, quote_end, bytes_at}
use Rattle.table.specs.Header.{quoted_from, quoted_of, name_in, class_name, class_in, digit_in, min_in, max_in, sub_in, sub1_value, value_of}
use Rattle.table.specs.Grammar.{classes, Blanks, Token, Hex, Byte, More, Quoted, NameValue, SizeValue, BytesValue, SubcharValue}
use Rattle.lists.proofs.Strings.{same⇒≡}
use Rattle.table.proofs.Tokens.{Solid, strip, first, drop⇒byte_of, at_byte, Blanks⇒skip_at, skip_at⇒Blanks, Token⇒skip_at, Token⇒past, drop⇒Token, hex_from, Hex⇒AllDigits, Hex⇒hex_from, closes-strip, closed-first}
use Rattle.table.proofs.SeriesRead.{bytes_read, RunOf, bytes-written}
use Rattle.lists.specs.Strings.{same}
use Rattle.lists.proofs.Parts.{drop-+, +-suc-right, take-drop-++, drop-suc-++}
use Rattle.table.specs.declared.value.Key.TheVariants.{CodeSetName, CurMin, CurMax, ConvClass, SubChar, SubChar1}
use Rattle.table.specs.declared.value.Value.TheVariants.{Name, Min, Max, Sub, Sub1}

-- ## Quotes

abbrev NoQuote : List ℕ → Type 0
NoQuote w = All (λ b. b ≡ 34 → ⊥) w

quote-end : (at : ℕ) (w r : List ℕ) → NoQuote w → ((n : ℕ) → quote_end n r ≡ n) → quote_end at (w ++ r) ≡ at + length w
unfolding quote_end
quote-end at [] r a f = rw (add-zero at) (f at)
quote-end at (b ∷ w) r a f = rw (ne_eqb b 34 a.0, +-suc-right at (length w)) (quote-end (at + 1) w r a.1 f)

quoted-at : (v : List ℕ) (p z : ℕ) → p ≡ skip_at v 0 → byte_of v p ≡ 34 → quote_end (p + 1) (drop (p + 1) v) ≡ z → length v ≤ skip_at v (z + 1)
    → quoted_of v ≡ Some (p + 1, z)
unfolding quoted_of quoted_from
quoted-at v p z k b e h = rw (← k, b, e, le-leb (length v) (skip_at v (z + 1)) h)

-- w stands in v from one place to the other
record Quote (w v : List ℕ) (from to : ℕ) : Type 0 where
  size : to ≡ from + length w
  part : take (to - from) (drop from v) ≡ w

quote-made : (w v r : List ℕ) → drop (skip_at v 0) v ≡ 34 ∷ (w ++ r) → NoQuote w → ((n : ℕ) → quote_end n r ≡ n) → Blanks (drop 1 r)
    → (from : ℕ) × (to : ℕ) × (quoted_of v ≡ Some (from, to)) × Quote w v from to
quote-made w v r h a f b =
    let p : ℕ = skip_at v 0 in
    let z : ℕ = p + 1 + length w in
    let j : drop (p + 1) v ≡ w ++ r = drop-+ v p 1 (34 ∷ (w ++ r)) h in (
      p + 1,
      z,
      quoted-at v p z refl (drop⇒byte_of v p (34 ∷ (w ++ r)) h) (ap (quote_end (p + 1)) j ∙ quote-end (p + 1) w r a f)
          (Blanks⇒skip_at v (z + 1) (drop 1 r) (drop-suc-++ v (p + 1) z w r j refl) b),
      record { size = refl; part = take-drop-++ v (p + 1) z w r j refl },
    )

quoted-reads : (w v : List ℕ) → Quoted w v → (from : ℕ) × (to : ℕ) × (quoted_of v ≡ Some (from, to)) × Quote w v from to
unfolding quote_end
quoted-reads w v (a, inl (m, k, b)) =
    quote-made w v (34 ∷ m)
    (Token⇒skip_at (ascii "\"" ++ (w ++ ascii "\"")) v m (refl, refl) k v 0 refl ∙ ap (λ (l : List ℕ). 34 ∷ l) (append_assoc w (34 ∷ []) m))
    a (λ n. refl) b
quoted-reads w v (a, inr k) = quote-made w v [] (Token⇒skip_at (ascii "\"" ++ w) v [] (refl, refl) k v 0 refl) a (λ n. refl) tt

-- and back: what stands before the next quote, or to the end
abbrev UpToQuote : ℕ → List ℕ → ℕ → Type 0
UpToQuote at l e = (w : List ℕ) × (r : List ℕ) × NoQuote w × (l ≡ w ++ r) × (e ≡ at + length w) × ((r ≡ []) ⊎ ((m : List ℕ) × (r ≡ 34 ∷ m)))

quote-more : (at b : ℕ) (l : List ℕ) (e : ℕ) → (b ≡ 34 → ⊥) → UpToQuote (at + 1) l e → UpToQuote at (b ∷ l) e
quote-more at b l e n (w, r, a, h, k, c) = (b ∷ w, r, (n, a), ap (λ (x : List ℕ). b ∷ x) h, omega (arith, k), c)

quote-found : (at : ℕ) (l : List ℕ) → UpToQuote at l (quote_end at l)
unfolding quote_end
quote-found at [] = ([], [], tt, refl, omega arith, inl refl)
quote-found at (b ∷ l) =
    pick-case (λ (e : ℕ). UpToQuote at (b ∷ l) e) (eqb b 34) _ _
    (λ e. ([], b ∷ l, tt, refl, omega arith, inr (l, ap (λ (x : ℕ). x ∷ l) (eqb-true b 34 e))))
    (λ n. quote-more at b l (quote_end (at + 1) l) (eqb-false b 34 n) (quote-found (at + 1) l))

abbrev QuotedOf : List ℕ → Option (ℕ × ℕ) → Type 0
QuotedOf v None = Unit {0}
QuotedOf v (Some (from, to)) = (w : List ℕ) × Quoted w v × Quote w v from to

-- at: the place behind the first quote
module _ (v : List ℕ) (at : ℕ) (opens : drop (skip_at v 0) v ≡ 34 ∷ drop at v) where
  quote-taken : (e : ℕ) → UpToQuote at (drop at v) e → length v ≤ skip_at v (e + 1) → QuotedOf v (Some (at, e))
  quote-taken e (w, r, a, i, k, c) left = (w, (a, by_end c), record { size = k; part = take-drop-++ v at e w r i k })
    where
      front : drop (skip_at v 0) v ≡ 34 ∷ (w ++ r)
      front = opens ∙ ap (λ (l : List ℕ). 34 ∷ l) i

      behind : drop (e + 1) v ≡ drop 1 r
      behind = drop-suc-++ v at e w r i k

      by_end : (r ≡ []) ⊎ ((m : List ℕ) × (r ≡ 34 ∷ m))
          → ((m : List ℕ) × Token (ascii "\"" ++ (w ++ ascii "\"")) v m × Blanks m) ⊎ Token (ascii "\"" ++ w) v []
      by_end (inl n) =
          let d : drop (e + 1) v ≡ [] = behind ∙ ap (λ (l : List ℕ). drop 1 l) n in
          let t = drop⇒Token v 0 (e + 1) (34 ∷ w) (front ∙ ap (λ (l : List ℕ). 34 ∷ (w ++ l)) (n ∙ sym d)) in
          inr (subst (λ (l : List ℕ). Token (34 ∷ w) v l) d t)
      by_end (inr (m, q)) =
          let d : drop (e + 1) v ≡ m = behind ∙ ap (λ (l : List ℕ). drop 1 l) q in
          let f : w ++ r ≡ (w ++ (34 ∷ [])) ++ drop (e + 1) v =
          ap (λ (l : List ℕ). w ++ l) (q ∙ ap (λ (l : List ℕ). 34 ∷ l) (sym d)) ∙ sym (append_assoc w (34 ∷ []) (drop (e + 1) v)) in
          let t = drop⇒Token v 0 (e + 1) (34 ∷ (w ++ (34 ∷ []))) (front ∙ ap (λ (l : List ℕ). 34 ∷ l) f) in
          inl (drop (e + 1) v, t, skip_at⇒Blanks v (e + 1) left)

  quoted-from : QuotedOf v (quoted_from v at (quote_end at (drop at v)))
  unfolding quoted_from
  quoted-from =
      let e : ℕ = quote_end at (drop at v) in
      pick-case (λ (x : Option (ℕ × ℕ)). QuotedOf v x) (leb (length v) (skip_at v (e + 1))) (Some (at, e)) None
      (λ h. quote-taken e (quote-found at (drop at v)) (leb-true (length v) (skip_at v (e + 1)) h)) (λ _. tt)

quoted-written : (v : List ℕ) → QuotedOf v (quoted_of v)
unfolding quoted_of
quoted-written v =
    let p : ℕ = skip_at v 0 in
    pick-case (λ (x : Option (ℕ × ℕ)). QuotedOf v x) (eqb (byte_of v p) 34) (quoted_from v (p + 1) (quote_end (p + 1) (drop (p + 1) v))) None
    (λ b. quoted-from v (p + 1) (at_byte v p (p + 1) 34 refl (eqb-true (byte_of v p) 34 b) (λ x. omega arith))) (λ _. tt)

-- code_set_name
name_of : (from to : ℕ) → (from ≡ to → ⊥) → name_in (Some (from, to)) ≡ Some Name
unfolding name_in
name_of from to n = rw (ne_eqb from to n)

pub name-reads : (v : List ℕ) → NameValue v → value_of CodeSetName v ≡ Some Name
unfolding value_of
name-reads v (w, some, q) = let r = quoted-reads w v q in ap name_in r.2 ∙ name_of r.0 r.1 (λ e. omega (arith, r.3.size))

name_by : (v : List ℕ) (x : Option (ℕ × ℕ)) → QuotedOf v x → (name_in x ≡ None) ⊎ ((name_in x ≡ Some Name) × NameValue v)
unfolding name_in
name_by v None h = inl refl
name_by v (Some (from, to)) (w, q, r) =
    pick-case (λ (y : ReadValue). (y ≡ None) ⊎ ((y ≡ Some Name) × NameValue v)) (eqb from to) None (Some Name) (λ _. inl refl)
    (λ n. let k = eqb-false from to n in inr (refl, (w, omega (arith, r.size), q)))

pub name-cases : (v : List ℕ) → (value_of CodeSetName v ≡ None) ⊎ ((value_of CodeSetName v ≡ Some Name) × NameValue v)
unfolding value_of
name-cases v = name_by v (quoted_of v) (quoted-written v)

-- uconv_class
class_of : (w v : List ℕ) (from to : ℕ) → Quote w v from to → class_in v (Some (from, to)) ≡ class_name w
unfolding class_in
class_of w v from to r = ap class_name r.part

pub class-reads : (w v : List ℕ) → Quoted w v → value_of ConvClass v ≡ class_name w
unfolding value_of
class-reads w v q = let r = quoted-reads w v q in ap (class_in v) r.2 ∙ class_of w v r.0 r.1 r.3

abbrev IsClass : List ℕ → Type 0
IsClass w = In w classes

class-named : (w : List ℕ) → (class_name w ≡ None) ⊎ IsClass w
unfolding class_name
class-named w =
    pick-case P (same w (ascii "SBCS")) _ _ (λ e. inr (inl (same⇒≡ w (ascii "SBCS") e)))
    (λ _. pick-case P (same w (ascii "MBCS")) _ _ (λ e. inr (inr (inl (same⇒≡ w (ascii "MBCS") e))))
    (λ _. pick-case P (same w (ascii "DBCS")) _ _ (λ e. inr (inr (inr (inl (same⇒≡ w (ascii "DBCS") e)))))
    (λ _. pick-case P (same w (ascii "EBCDIC_STATEFUL")) _ _
    (λ e. inr (inr (inr (inr (inl (same⇒≡ w (ascii "EBCDIC_STATEFUL") e)))))) (λ _. inl refl))))
  where
    P : ReadValue → Type 0
    P x = (x ≡ None) ⊎ IsClass w

class-by : (v : List ℕ) (x : Option (ℕ × ℕ)) → QuotedOf v x
    → (class_in v x ≡ None) ⊎ ((w : List ℕ) × Quoted w v × (class_in v x ≡ class_name w) × IsClass w)
unfolding class_in
class-by v None h = inl refl
class-by v (Some (from, to)) (w, q, r) = by_name (class-named w)
  where
    by_name : (class_name w ≡ None) ⊎ IsClass w
        → (class_in v (Some (from, to)) ≡ None) ⊎ ((x : List ℕ) × Quoted x v × (class_in v (Some (from, to)) ≡ class_name x) × IsClass x)
    by_name (inl u) = inl (class_of w v from to r ∙ u)
    by_name (inr i) = inr (w, q, class_of w v from to r, i)

abbrev pub ClassCase : List ℕ → Type 0
ClassCase v =
    (value_of ConvClass v ≡ None)
    ⊎ ((w : List ℕ) × Quoted w v × (value_of ConvClass v ≡ class_name w)
    × In w classes)

pub class_cases : (v : List ℕ) → ClassCase v
unfolding value_of
class_cases v = class-by v (quoted_of v) (quoted-written v)

-- ## mb_cur_min, mb_cur_max

digit-solid : (d : ℕ) → Solid ((48 + d) ∷ [])
digit-solid d = (ne_eqb (48 + d) 32 (λ e. omega arith), ne_eqb (48 + d) 9 (λ e. omega arith))

module _ (v : List ℕ) where
  abbrev at : ℕ
  at = skip_at v 0

  digit-reads : (d : ℕ) → SizeValue d v → digit_in v at ≡ d
  unfolding digit_in
  digit-reads d (some, few, (m, k, b)) =
      let h : byte_of v at ≡ 48 + d = drop⇒byte_of v at ((48 + d) ∷ m) (Token⇒skip_at ((48 + d) ∷ []) v m (digit-solid d) k v 0 refl) in
      let l : length v ≤ skip_at v (at + 1) = Blanks⇒skip_at v (at + 1) m (Token⇒past ((48 + d) ∷ []) v m (digit-solid d) k v 0 refl) b in
      let e : 48 + d - 48 ≡ d = omega arith in
      rw (h, le-ltb (48 + d) 49 (omega arith), le-leb (48 + d) 52 (omega arith), le-leb (length v) (skip_at v (at + 1)) l, e)

  digit-written : 49 ≤ byte_of v at → byte_of v at ≤ 52 → length v ≤ skip_at v (at + 1) → SizeValue (byte_of v at - 48) v
  digit-written low high left =
      let x : ℕ = 48 + (byte_of v at - 48) in
      let t = drop⇒Token v 0 (at + 1) (x ∷ []) (at_byte v at (at + 1) x refl (omega arith) (λ e. omega arith)) in
      (omega arith, omega arith, (drop (at + 1) v, t, skip_at⇒Blanks v (at + 1) left))

  digit-cases : (digit_in v at ≡ 0) ⊎ SizeValue (digit_in v at) v
  unfolding digit_in
  digit-cases =
      pick-case P (ltb (byte_of v at) 49) _ _ (λ _. inl refl)
      (λ a. pick-case P (leb (byte_of v at) 52) _ _
      (λ b. pick-case P (leb (length v) (skip_at v (at + 1))) _ _
      (λ c. inr (digit-written (ltb-false (byte_of v at) 49 a) (leb-true (byte_of v at) 52 b) (leb-true (length v) (skip_at v (at + 1)) c)))
      (λ _. inl refl)) (λ _. inl refl))
    where
      P : ℕ → Type 0
      P d = (d ≡ 0) ⊎ SizeValue d v

  -- a value made of the digit, unfit for 0
  size-cases : (f g : ℕ → ReadValue) → f 0 ≡ None → ((d : ℕ) → 1 ≤ d → f d ≡ g d)
      → (f (digit_in v at) ≡ None) ⊎ ((d : ℕ) × (f (digit_in v at) ≡ g d) × SizeValue d v)
  size-cases f g z more = by-digit digit-cases
    where
      by-digit : (digit_in v at ≡ 0) ⊎ SizeValue (digit_in v at) v
          → (f (digit_in v at) ≡ None) ⊎ ((d : ℕ) × (f (digit_in v at) ≡ g d) × SizeValue d v)
      by-digit (inl e) = inl (ap f e ∙ z)
      by-digit (inr s) = inr (digit_in v at, more (digit_in v at) s.0, s)

min-of : (d : ℕ) → 1 ≤ d → min_in d ≡ Some (Min d)
unfolding min_in
min-of d h = rw (ne_eqb d 0 (λ e. omega arith))

pub min-reads : (d : ℕ) (v : List ℕ) → SizeValue d v → value_of CurMin v ≡ Some (Min d)
unfolding value_of
min-reads d v s = ap min_in (digit-reads v d s) ∙ min-of d s.0

pub min_cases : (v : List ℕ) → (value_of CurMin v ≡ None) ⊎ ((d : ℕ) × (value_of CurMin v ≡ Some (Min d)) × SizeValue d v)
unfolding value_of min_in
min_cases v = size-cases v min_in (λ d. Some (Min d)) refl min-of

max_of : (d : ℕ) → 1 ≤ d → max_in d ≡ Some (Max d)
unfolding max_in
max_of d h = rw (ne_eqb d 0 (λ e. omega arith))

pub max-reads : (d : ℕ) (v : List ℕ) → SizeValue d v → value_of CurMax v ≡ Some (Max d)
unfolding value_of
max-reads d v s = ap max_in (digit-reads v d s) ∙ max_of d s.0

pub max_cases : (v : List ℕ) → (value_of CurMax v ≡ None) ⊎ ((d : ℕ) × (value_of CurMax v ≡ Some (Max d)) × SizeValue d v)
unfolding value_of max_in
max_cases v = size-cases v max_in (λ d. Some (Max d)) refl max_of

-- ## Bytes

-- a run that ends with the value
run-reads : (c v : List ℕ) → BytesValue c v → (e : ℕ) × (bytes_at v 0 ≡ series c false e) × (length v ≤ skip_at v e)
run-reads c v (m, b, w) =
    let a = bytes_read v 0 c false v m b refl (other 92 (omega arith) (λ e. omega arith)) (other 43 (omega arith) (λ e. omega arith)) in
    (a.0, a.1, Blanks⇒skip_at v a.0 m a.2 w)
  where
    other : (x : ℕ) → x < 256 → (x ≡ 35 → ⊥) → first (strip m) ≡ x → ⊥
    other x = closed-first x (strip m) (closes-strip m (inl w))

-- subchar
sub_of : (v c : List ℕ) (e : ℕ) → length c ≤ 4 → length v ≤ skip_at v e → sub_in v (series c false e) ≡ Some (Sub (code_of c))
unfolding sub_in
sub_of v c e h k = rw (le-leb (length c) 4 h, le-leb (length v) (skip_at v e) k)

pub sub-reads : (c v : List ℕ) → SubcharValue c v → value_of SubChar v ≡ Some (Sub (code_of c))
unfolding value_of
sub-reads c v (few, b) = let r = run-reads c v b in ap (sub_in v) r.1 ∙ sub_of v c r.0 few r.2

sub_by : (v : List ℕ) (x : ByteSeries) → RunOf v 0 x
    → (sub_in v x ≡ None) ⊎ ((c : List ℕ) × (sub_in v x ≡ Some (Sub (code_of c))) × SubcharValue c v)
unfolding sub_in
sub_by v broken h = inl refl
sub_by v (series l true e) h = inl refl
sub_by v (series l false e) h =
    pick-case P (leb (length l) 4) _ _
    (λ a. pick-case P (leb (length v) (skip_at v e)) _ _
    (λ b. inr (l, refl, (leb-true (length l) 4 a, (drop e v, h, skip_at⇒Blanks v e (leb-true (length v) (skip_at v e) b)))))
    (λ _. inl refl)) (λ _. inl refl)
  where
    P : ReadValue → Type 0
    P x = (x ≡ None) ⊎ ((c : List ℕ) × (x ≡ Some (Sub (code_of c))) × SubcharValue c v)

pub sub_cases : (v : List ℕ)
    → (value_of SubChar v ≡ None) ⊎ ((c : List ℕ) × (value_of SubChar v ≡ Some (Sub (code_of c))) × SubcharValue c v)
unfolding value_of
sub_cases v = sub_by v (bytes_at v 0) (bytes-written v 0)

-- subchar1
packed-one : (b : ℕ) → packed (b ∷ []) / 16777216 ≡ b
unfolding packed
packed-one b = omega arith

sub1-of : (v : List ℕ) (b e : ℕ) → length v ≤ skip_at v e → sub1_value v (series (b ∷ []) false e) ≡ Some (Sub1 b)
unfolding sub1_value
sub1-of v b e k = rw (le-leb (length v) (skip_at v e) k, packed-one b)

pub sub1-reads : (b : ℕ) (v : List ℕ) → BytesValue (b ∷ []) v → value_of SubChar1 v ≡ Some (Sub1 b)
unfolding value_of
sub1-reads b v t = let r = run-reads (b ∷ []) v t in ap (sub1_value v) r.1 ∙ sub1-of v b r.0 r.2

sub1-by : (v : List ℕ) (x : ByteSeries) → RunOf v 0 x → (sub1_value v x ≡ None) ⊎ ((b : ℕ) × (sub1_value v x ≡ Some (Sub1 b)) × BytesValue (b ∷ []) v)
unfolding sub1_value
sub1-by v broken h = inl refl
sub1-by v (series l true e) h = inl refl
sub1-by v (series [] false e) h = absurd h
sub1-by v (series (b ∷ []) false e) h =
    pick-case (λ (x : ReadValue). (x ≡ None) ⊎ ((y : ℕ) × (x ≡ Some (Sub1 y)) × BytesValue (y ∷ []) v)) (leb (length v) (skip_at v e)) _ _
    (λ k. inr (b, ap (λ (x : ℕ). Some (Sub1 x)) (packed-one b), (drop e v, h, skip_at⇒Blanks v e (leb-true (length v) (skip_at v e) k)))) (λ _. inl refl)
sub1-by v (series (b ∷ d ∷ l) false e) h = inl (rw (lt-leb (length (b ∷ d ∷ l)) 1 (omega arith)))

pub sub1-cases : (v : List ℕ) → (value_of SubChar1 v ≡ None) ⊎ ((b : ℕ) × (value_of SubChar1 v ≡ Some (Sub1 b)) × BytesValue (b ∷ []) v)
unfolding value_of
sub1-cases v = sub1-by v (bytes_at v 0) (bytes-written v 0)

-- two digits write a byte
byte_small : (high low v : ℕ) → Hex 0 (high ∷ low ∷ []) v → v < 256
unfolding hex_from
byte_small high low v h =
    let a = Hex⇒AllDigits 0 (high ∷ low ∷ []) v h in
    omega (arith, a.0, a.1.0, Hex⇒hex_from 0 (high ∷ low ∷ []) v h)

more-are : (c : List ℕ) (plus : Bool) (s r : List ℕ) → More Byte c plus s r → AllByte c
unfolding AllByte
more-are [] plus s r h = tt
more-are (v ∷ c) plus s r (inl (m, (high, low, k, t), h)) = (byte_small high low v k, more-are c plus m r h)
more-are (v ∷ c) plus s r (inr (j, m, later, e, o, (high, low, k, t), h)) = (byte_small high low v k, more-are c later m r h)

pub BytesValue⇒AllByte : (c v : List ℕ) → BytesValue c v → AllByte c
unfolding AllByte
BytesValue⇒AllByte [] v (m, b, w) = absurd b
BytesValue⇒AllByte (x ∷ c) v (m, (k, (high, low, h, t), b), w) = (byte_small high low x h, more-are c false k m b)
