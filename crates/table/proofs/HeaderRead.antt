-- Lines before CHARMAP: a line of the grammar is read as its key and value, as blank or as CHARMAP, and what is read is such a line.
use Rattle.table.specs.Header.{ReadLine}
use Rattle.std.specs.Prelude.{Option, Some, None}
use Prim.Native.Nat.{ℕ, ◌+◌, ◌-◌}
use mathlib.Core.Path.{◌≡◌, refl, sym, ap, ◌∙◌, subst}
use mathlib.Core.Logic.{inl, inr}
use mathlib.Core.List.{List, [], ◌∷◌, ◌++◌, append_assoc}
use mathlib.Core.Bool.{Bool, true, false}
use native.Mathlib.Omega.{arith}
use native.Mathlib.Nat.{add-zero}
use lib.ListN.{length, take, drop}
use lib.Dec.{ltb, leb, eqb}
use borrow.Author.Tests.{lt-leb, le-ltb, ne_eqb, eqb-true, eqb-false, ltb-false, leb-false}
use Rattle.lists.specs.Order.{All}
use Rattle.lists.specs.Ascii.{ascii}
use Rattle.lists.proofs.Laws.{clash}
use Rattle.lists.proofs.Cases.{pick-case}
use Rattle.lists.proofs.Parts.{+-suc-right, take-drop-++, drop-suc-++, drop-+}
use Rattle.table.specs.Text.{byte_of, skip_at, ends_at, flipped, foreign, content_end, is_charmap}
use Rattle.table.specs.Header.{key_byte, key_end, key_of, value_of, key_line, keyed_line, header_line_at, header_line_of}
use Rattle.table.specs.Grammar.{Token, BlankLine, CharmapLine, KeyByte, Outside, Content, Pair, KeyLine}
use Rattle.table.specs.declared.header.HeaderLine.TheVariants.{Blank, Charmap, Known}
use Rattle.table.proofs.Tokens.{drop⇒byte_of, at_byte, drop⇒ends_at, Token⇒skip_at, drop⇒Token, Closes⇒ends_at, ends_at⇒Closes}
use Rattle.table.proofs.WordLines.{charmap-reads, charmap-written}

-- ## A line of the grammar is read as what it is

key-yes : (b : ℕ) → KeyByte b → key_byte b ≡ true
unfolding key_byte
key-yes b k =
    rw (le-ltb b 33 k.from, lt-leb 127 b k.to, ne_eqb b 60 k.no-open, ne_eqb b 62 k.no-close, ne_eqb b 35 k.no-hash)

key_reads : (at : ℕ) (key r : List ℕ) → All KeyByte key → key_end at (key ++ (62 ∷ r)) ≡ Some (at + length key)
unfolding key_end
key_reads at [] r a = rw (add-zero at)
key_reads at (b ∷ key) r a = rw (ne_eqb b 62 a.0.no-close, key-yes b a.0, +-suc-right at (length key)) (key_reads (at + 1) key r a.1)

-- content ends behind the value
content-reads : (q : Bool) (at : ℕ) (v r : List ℕ) → Content q v r → content_end q at (v ++ r) ≡ Some (at + length v)
unfolding content_end flipped foreign
content-reads true at [] r c = rw (c, add-zero at)
content-reads false at [] r (inl c) = rw (c, add-zero at)
content-reads false at [] r (inr (text, c)) = rw (c, add-zero at)
content-reads true at (b ∷ v) r (inl (k, c)) = rw (k, +-suc-right at (length v)) (content-reads false (at + 1) v r c)
content-reads true at (b ∷ v) r (inr (n, c)) = rw (ne_eqb b 34 n, +-suc-right at (length v)) (content-reads true (at + 1) v r c)
content-reads false at (b ∷ v) r (inl (k, c)) = rw (k, +-suc-right at (length v)) (content-reads true (at + 1) v r c)
content-reads false at (b ∷ v) r (inr (o, c)) =
    rw (ne_eqb b 35 o.no-hash, ne_eqb b 13 o.no-cr, lt-leb 128 b o.low, ne_eqb b 34 o.no-quote, +-suc-right at (length v))
    (content-reads false (at + 1) v r c)

known_at : (s : List ℕ) (p e z : ℕ) (key v : List ℕ) → ends_at s p ≡ false → byte_of s p ≡ 60 → key_end (p + 1) (drop (p + 1) s) ≡ Some e
    → eqb (p + 1) e ≡ false → take (e - (p + 1)) (drop (p + 1) s) ≡ key → content_end false (e + 1) (drop (e + 1) s) ≡ Some z
    → take (z - (e + 1)) (drop (e + 1) s) ≡ v → header_line_at s p ≡ Some (Known (key_of key) (value_of (key_of key) v) (e + 1) z)
unfolding header_line_at keyed_line key_line
known_at s p e z key v a b c d f g i = rw (a, b, c, d, f, g, i)

-- what is read: the key, the value, and where the value stands
pub record KeyLineRead (p : Pair) (s : List ℕ) : Type 0 where
  pub from : ℕ
  pub to : ℕ
  pub line : header_line_of s ≡ Some (Known (key_of p.key) (value_of (key_of p.key) p.value) from to)
  pub part : take (to - from) (drop from s) ≡ p.value

pub key-line-reads : (p : Pair) (s : List ℕ) → KeyLine p s → KeyLineRead p s
unfolding header_line_of
key-line-reads p s l =
    let at : ℕ = skip_at s 0 in
    let key : List ℕ = p.key in
    let r : List ℕ = p.value ++ l.tail in
    let t : List ℕ = 60 ∷ (key ++ (62 ∷ r)) in
    let e : ℕ = at + 1 + length key in
    let z : ℕ = e + 1 + length p.value in
    let w : List ℕ = ascii "<" ++ (key ++ ascii ">") in
    let h : drop at s ≡ t = Token⇒skip_at w s r (refl, refl) l.opens s 0 refl ∙ ap (λ (x : List ℕ). 60 ∷ x) (append_assoc key (62 ∷ []) r) in
    let h1 : drop (at + 1) s ≡ key ++ (62 ∷ r) = drop-+ s at 1 t h in
    let h2 : drop (e + 1) s ≡ r = drop-suc-++ s (at + 1) e key (62 ∷ r) h1 refl in
    let i : take (z - (e + 1)) (drop (e + 1) s) ≡ p.value = take-drop-++ s (e + 1) z p.value l.tail h2 refl in
    record {
      from = e + 1;
      to = z;
      line = known_at s at e z key p.value (drop⇒ends_at s at t h) (drop⇒byte_of s at t h)
          (ap (key_end (at + 1)) h1 ∙ key_reads (at + 1) key r l.bytes)
          (ne_eqb (at + 1) e (λ x. omega (arith, l.some))) (take-drop-++ s (at + 1) e key (62 ∷ r) h1 refl)
          (ap (content_end false (e + 1)) h2 ∙ content-reads false (e + 1) p.value l.tail l.content) i;
      part = i;
    }

pub blank-line-reads : (s : List ℕ) → BlankLine s → header_line_of s ≡ Some Blank
unfolding header_line_of header_line_at
blank-line-reads s c = rw (Closes⇒ends_at s 0 s refl c)

pub charmap-line-reads : (s : List ℕ) → CharmapLine s → header_line_of s ≡ Some Charmap
unfolding header_line_of header_line_at
charmap-line-reads s c =
    let p : ℕ = skip_at s 0 in
    let h : drop p s ≡ ascii "CHARMAP" ++ c.0 = Token⇒skip_at (ascii "CHARMAP") s c.0 (refl, refl) c.1 s 0 refl in
    rw (drop⇒ends_at s p (ascii "CHARMAP" ++ c.0) h, drop⇒byte_of s p (ascii "CHARMAP" ++ c.0) h, charmap-reads s 0 s refl c)

-- ## And back: what is read is such a line

key-of : (b : ℕ) → key_byte b ≡ true → KeyByte b
unfolding key_byte
key-of b =
    pick-case P (ltb b 33) _ _ (λ _ e. absurd (clash e refl))
    (λ i. pick-case P (leb 127 b) _ _ (λ _ e. absurd (clash e refl))
    (λ j. pick-case P (eqb b 60) _ _ (λ _ e. absurd (clash e refl))
    (λ k. pick-case P (eqb b 62) _ _ (λ _ e. absurd (clash e refl))
    (λ l. pick-case P (eqb b 35) _ _ (λ _ e. absurd (clash e refl))
    (λ m e. record {
      from = ltb-false b 33 i;
      to = leb-false 127 b j;
      no-open = eqb-false b 60 k;
      no-close = eqb-false b 62 l;
      no-hash = eqb-false b 35 m;
    })))))
  where
    P : Bool → Type 0
    P x = x ≡ true → KeyByte b

-- a key from a place on, with its `>` at e
record Keyed (at e : ℕ) (l : List ℕ) : Type 0 where
  key : List ℕ
  rest : List ℕ
  bytes : All KeyByte key
  place : e ≡ at + length key
  whole : l ≡ key ++ (62 ∷ rest)

abbrev KeyedOf : ℕ → List ℕ → Option ℕ → Type 0
KeyedOf at l None = Unit {0}
KeyedOf at l (Some e) = Keyed at e l

keyed-more : (at b : ℕ) (l : List ℕ) (x : Option ℕ) → KeyByte b → KeyedOf (at + 1) l x → KeyedOf at (b ∷ l) x
keyed-more at b l None k h = tt
keyed-more at b l (Some e) k h =
    record {
      key = b ∷ h.key;
      rest = h.rest;
      bytes = (k, h.bytes);
      place = omega (arith, h.place);
      whole = ap (λ (r : List ℕ). b ∷ r) h.whole;
    }

key-written : (at : ℕ) (l : List ℕ) → KeyedOf at l (key_end at l)
unfolding key_end
key-written at [] = tt
key-written at (b ∷ l) =
    pick-case P (eqb b 62) _ _
    (λ e. record { key = []; rest = l; bytes = tt; place = omega arith; whole = ap (λ (x : ℕ). x ∷ l) (eqb-true b 62 e) })
    (λ _. pick-case P (key_byte b) _ _ (λ k. keyed-more at b l (key_end (at + 1) l) (key-of b k) (key-written (at + 1) l)) (λ _. tt))
  where
    P : Option ℕ → Type 0
    P x = KeyedOf at (b ∷ l) x

-- content from a place on, up to e; q: its first byte stands inside quotes
record Valued (q : Bool) (at e : ℕ) (l : List ℕ) : Type 0 where
  value : List ℕ
  tail : List ℕ
  content : Content q value tail
  place : e ≡ at + length value
  whole : l ≡ value ++ tail

abbrev ValuedOf : Bool → ℕ → List ℕ → Option ℕ → Type 0
ValuedOf q at l None = Unit {0}
ValuedOf q at l (Some e) = Valued q at e l

-- one byte more; q, d: it stands inside quotes, the next one does
valued-more : (q d : Bool) (at b : ℕ) (l : List ℕ) (x : Option ℕ) → ((v r : List ℕ) → Content d v r → Content q (b ∷ v) r)
    → ValuedOf d (at + 1) l x → ValuedOf q at (b ∷ l) x
valued-more q d at b l None f h = tt
valued-more q d at b l (Some e) f h =
    record {
      value = b ∷ h.value;
      tail = h.tail;
      content = f h.value h.tail h.content;
      place = omega (arith, h.place);
      whole = ap (λ (r : List ℕ). b ∷ r) h.whole;
    }

outside_of : (b : ℕ) → eqb b 35 ≡ false → foreign b ≡ false → eqb b 34 ≡ false → Outside b
unfolding foreign
outside_of b e =
    pick-case (λ (x : Bool). x ≡ false → eqb b 34 ≡ false → Outside b) (eqb b 13) true (leb 128 b) (λ _ f. absurd (clash refl f))
    (λ c f n. record { no-quote = eqb-false b 34 n; no-hash = eqb-false b 35 e; no-cr = eqb-false b 13 c; low = leb-false 128 b f })

content-written : (q : Bool) (at : ℕ) (l : List ℕ) → ValuedOf q at l (content_end q at l)
unfolding content_end flipped
content-written true at [] = record { value = []; tail = []; content = refl; place = omega arith; whole = refl }
content-written false at [] = record { value = []; tail = []; content = inl refl; place = omega arith; whole = refl }
content-written true at (b ∷ l) =
    pick-case (λ (d : Bool). ValuedOf true at (b ∷ l) (content_end d (at + 1) l)) (eqb b 34) false true
    (λ e. valued-more true false at b l (content_end false (at + 1) l) (λ v r c. inl (eqb-true b 34 e, c)) (content-written false (at + 1) l))
    (λ n. valued-more true true at b l (content_end true (at + 1) l) (λ v r c. inr (eqb-false b 34 n, c)) (content-written true (at + 1) l))
content-written false at (b ∷ l) =
    pick-case P (eqb b 35) _ _
    (λ e. record { value = []; tail = b ∷ l; content = inr (l, ap (λ (x : ℕ). x ∷ l) (eqb-true b 35 e)); place = omega arith; whole = refl })
    (λ e. pick-case P (foreign b) _ _ (λ _. tt)
    (λ f. pick-case (λ (d : Bool). P (content_end d (at + 1) l)) (eqb b 34) true false
    (λ k. valued-more false true at b l (content_end true (at + 1) l) (λ v r c. inl (eqb-true b 34 k, c)) (content-written true (at + 1) l))
    (λ n. valued-more false false at b l (content_end false (at + 1) l) (λ v r c. inr (outside_of b e f n, c))
    (content-written false (at + 1) l))))
  where
    P : Option ℕ → Type 0
    P x = ValuedOf false at (b ∷ l) x

-- what the reader's answer says of a line
abbrev pub LineMeans : List ℕ → ReadLine → Type 0
LineMeans s None = Unit {0}
LineMeans s (Some Blank) = BlankLine s
LineMeans s (Some Charmap) = CharmapLine s
LineMeans s (Some (Known k v q e)) =
    (p : Pair) × KeyLine p s × (k ≡ key_of p.key) × (v ≡ value_of k p.value) × (take (e - q) (drop q s) ≡ p.value)

-- at: where a key stands, behind `<`
module _ (s : List ℕ) (at : ℕ) (opens : drop (skip_at s 0) s ≡ 60 ∷ drop at s) where
  value_line : (e : ℕ) (y : Option ℕ) → Keyed at e (drop at s) → (at ≡ e → ⊥) → ValuedOf false (e + 1) (drop (e + 1) s) y
      → LineMeans s (key_line s (key_of (take (e - at) (drop at s))) (e + 1) y)
  unfolding key_line
  value_line e None h n v = tt
  value_line e (Some z) h n v =
      let key : List ℕ = h.key in
      let p : Pair = record { key = key; value = v.value } in
      let w : List ℕ = ascii "<" ++ (key ++ ascii ">") in
      let r : List ℕ = drop (e + 1) s in
      let kk : take (e - at) (drop at s) ≡ key = take-drop-++ s at e key (62 ∷ h.rest) h.whole h.place in
      let vv : take (z - (e + 1)) r ≡ v.value = take-drop-++ s (e + 1) z v.value v.tail v.whole v.place in
      let i : h.rest ≡ r = sym (drop-suc-++ s at e key (62 ∷ h.rest) h.whole h.place) in
      let j : drop at s ≡ (key ++ (62 ∷ [])) ++ r = h.whole ∙ ap (λ (l : List ℕ). key ++ (62 ∷ l)) i ∙ sym (append_assoc key (62 ∷ []) r) in
      let t : Token w s r = drop⇒Token s 0 (e + 1) w (opens ∙ ap (λ (l : List ℕ). 60 ∷ l) j) in
      let l : KeyLine p s = record {
        tail = v.tail;
        bytes = h.bytes;
        some = omega (arith, h.place);
        opens = subst (λ (x : List ℕ). Token w s x) v.whole t;
        content = v.content;
      } in
      (p, l, ap key_of kk, ap (value_of (key_of (take (e - at) (drop at s)))) vv, vv)

  key-line : (x : Option ℕ) → KeyedOf at (drop at s) x → LineMeans s (keyed_line s at x)
  unfolding keyed_line
  key-line None h = tt
  key-line (Some e) h =
      pick-case (λ (l : ReadLine). LineMeans s l) (eqb at e) _ _ (λ _. tt)
      (λ n. value_line e (content_end false (e + 1) (drop (e + 1) s)) h (eqb-false at e n) (content-written false (e + 1) (drop (e + 1) s)))

pub line-written : (s : List ℕ) → LineMeans s (header_line_of s)
unfolding header_line_of header_line_at
line-written s =
    pick-case P (ends_at s (skip_at s 0)) _ _ (λ e. ends_at⇒Closes s 0 e)
    (λ _. pick-case P (eqb (byte_of s (skip_at s 0)) 60) _ _
    (λ b. let at : ℕ = skip_at s 0 + 1 in
    key-line s at (at_byte s (skip_at s 0) at 60 refl (eqb-true (byte_of s (skip_at s 0)) 60 b) (λ x. omega arith))
    (key_end at (drop at s)) (key-written at (drop at s)))
    (λ _. pick-case P (is_charmap s (skip_at s 0)) _ _ (λ e. charmap-written s 0 e) (λ _. tt)))
  where
    P : ReadLine → Type 0
    P l = LineMeans s l
