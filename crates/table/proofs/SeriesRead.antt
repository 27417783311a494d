-- Tokens `\xhh` and `<U..>`, and series of them with `+` or without: what the grammar has is read, and what is read the grammar has.
-- byte-reader, point-reader     the two readers of tokens         series-read, series-written    series of any such tokens
-- bytes_read, bytes-written     series of bytes                   points-counted                 code points, as `points_more` counts them
use Rattle.std.specs.Prelude.{Option, Some, None}
use Prim.Native.Nat.{ℕ, zero, suc, ◌+◌, ◌*◌, ◌<◌, ◌≤◌}
use mathlib.Core.Path.{◌≡◌, refl, sym, ap, ◌∙◌, subst}
use mathlib.Core.Logic.{inl, inr}
use mathlib.Core.List.{List, [], ◌∷◌, ◌++◌}
use mathlib.Core.Bool.{Bool, true, false}
use native.Mathlib.Omega.{arith}
use lib.ListN.{length, drop}
use lib.Dec.{ltb, eqb}
use borrow.Author.Tests.{lt-ltb, ne_eqb, eqb-true, eqb-false, ltb-true}
use Rattle.lists.specs.Pick.{pick}
use Rattle.lists.proofs.Cases.{pick-case}
use Rattle.table.specs.Grammar as grammar
use Rattle.table.specs.Grammar.{Token, Hex, Digits, Point, Byte, More}
use Rattle.table.specs.Text.{digit_of, byte_of, skip_at, byte_at, point_digits, unicode_at, plus_at, join_at, ByteSeries, series, broken, with_byte, bytes_more, bytes_from, bytes_at}
use Rattle.table.specs.Mapping.{points_more}
use Rattle.table.proofs.TextLaws.{digit-most}
use Rattle.table.proofs.Tokens.{strip, first, drop⇒byte_of-+, drop⇒byte_of, drop⇒skip_at, at_byte, Solid, token-front, Token⇒skip_at, Token⇒past, token-less, drop⇒Token, byte_of⇒Token, digit-inside, digit_value, digit_of⇒Digit, hex_from, Hex⇒AllDigits, Hex⇒hex_from}
use Rattle.lists.proofs.Parts.{drop-+, drop⇒length}

-- what is read behind q, if anything, is a token X
abbrev TokenOf : (ℕ → List ℕ → List ℕ → Type 0) → List ℕ → ℕ → Option (ℕ × ℕ) → Type 0
TokenOf X s q None = Unit {0}
TokenOf X s q (Some (v, e)) = X v (drop q s) (drop e s)

-- `at` reads the tokens X, which begin with the byte x
pub record TokenReader (X : ℕ → List ℕ → List ℕ → Type 0) (x : ℕ) (at : List ℕ → ℕ → Option (ℕ × ℕ)) : Type 0 where
  pub solid : Solid (x ∷ [])
  pub no_plus : x ≡ 43 → ⊥
  -- a token of the grammar is read as its value, and the place behind it
  pub read : (v : ℕ) (t r : List ℕ) → X v t r
      → (w : List ℕ) × Token (x ∷ w) t r × ((s : List ℕ) (p : ℕ) → drop p s ≡ x ∷ (w ++ r) → at s p ≡ Some (v, p + suc (length w)))
  -- none is read where x does not stand
  pub none : (s : List ℕ) (p : ℕ) → (byte_of s p ≡ x → ⊥) → at s p ≡ None
  -- what is read is a token of the grammar
  pub written : (s : List ℕ) (q : ℕ) → TokenOf X s q (at s (skip_at s q))

-- ## `\xhh`

byte_reads : (s : List ℕ) (p v a b : ℕ) (r : List ℕ) → Hex 0 (a ∷ b ∷ []) v → drop p s ≡ 92 ∷ 120 ∷ a ∷ b ∷ r → byte_at s p ≡ Some (v, p + 4)
unfolding byte_at hex_from
byte_reads s p v a b r x h =
    let t : List ℕ = 92 ∷ 120 ∷ a ∷ b ∷ r in
    let d = Hex⇒AllDigits 0 (a ∷ b ∷ []) v x in
    let e : digit_of a * 16 + digit_of b ≡ v = omega (arith, Hex⇒hex_from 0 (a ∷ b ∷ []) v x) in
    let i = drop⇒byte_of-+ s p in
    rw (drop⇒byte_of s p t h, i 1 t h, i 2 t h, i 3 t h, lt-ltb (digit_of a) 16 d.0, lt-ltb (digit_of b) 16 d.1.0, e)

byte-none : (s : List ℕ) (p : ℕ) → (byte_of s p ≡ 92 → ⊥) → byte_at s p ≡ None
unfolding byte_at
byte-none s p n = rw (ne_eqb (byte_of s p) 92 n)

byte-written : (s : List ℕ) (q : ℕ) → TokenOf Byte s q (byte_at s (skip_at s q))
unfolding byte_at
byte-written s q =
    pick-case P (eqb (byte_of s at) 92) _ _
    (λ i. pick-case P (eqb (byte_of s (at + 1)) 120) _ _
    (λ j. pick-case P (ltb (digit_of a) 16) _ _
    (λ k. pick-case P (ltb (digit_of b) 16) _ _
    (λ l. made (eqb-true (byte_of s at) 92 i) (eqb-true (byte_of s (at + 1)) 120 j) (ltb-true (digit_of a) 16 k) (ltb-true (digit_of b) 16 l))
    (λ _. tt)) (λ _. tt)) (λ _. tt)) (λ _. tt)
  where
    at : ℕ
    at = skip_at s q

    a : ℕ
    a = byte_of s (at + 2)

    b : ℕ
    b = byte_of s (at + 3)

    P : Option (ℕ × ℕ) → Type 0
    P n = TokenOf Byte s q n

    made : byte_of s at ≡ 92 → byte_of s (at + 1) ≡ 120 → digit_of a < 16 → digit_of b < 16 → P (Some (digit_of a * 16 + digit_of b, at + 4))
    made i j k l =
        let e0 = at_byte s at (at + 1) 92 refl i (λ x. omega arith) in
        let e1 = at_byte s (at + 1) (at + 2) 120 (omega arith) j (λ x. omega arith) in
        let e2 = at_byte s (at + 2) (at + 3) a (omega arith) refl (digit-inside a k) in
        let e3 = at_byte s (at + 3) (at + 4) b (omega arith) refl (digit-inside b l) in
        let e : drop at s ≡ 92 ∷ 120 ∷ a ∷ b ∷ drop (at + 4) s =
        e0 ∙ ap (λ (r : List ℕ). 92 ∷ r) (e1 ∙ ap (λ (r : List ℕ). 120 ∷ r) (e2 ∙ ap (λ (r : List ℕ). a ∷ r) e3)) in
        (a, b, (digit_of a, digit_of⇒Digit a k, (digit_of b, digit_of⇒Digit b l, omega arith)), drop⇒Token s q (at + 4) (92 ∷ 120 ∷ a ∷ b ∷ []) e)

pub byte-reader : TokenReader Byte 92 byte_at
byte-reader =
    record {
      solid = (refl, refl);
      no_plus = λ e. omega arith;
      read = λ v t r (a, b, x, k). (120 ∷ a ∷ b ∷ [], k, λ s p h. byte_reads s p v a b r x h);
      none = byte-none;
      written = byte-written;
    }

-- ## `<U..>`: behind n digits of the value v, more digits and `>`

no-close : (d : ℕ) → digit_of d < 16 → d ≡ 62 → ⊥
unfolding digit_of
no-close d h e = let k : 16 < 16 = rw e at h in omega arith

hex-reads : (n v at : ℕ) (ds r : List ℕ) (u : ℕ) → Hex v ds u → 1 ≤ n + length ds → n + length ds ≤ 6
    → point_digits n v at ((ds ++ (62 ∷ [])) ++ r) ≡ Some (u, at + length (ds ++ (62 ∷ [])))
unfolding point_digits
hex-reads n v at [] r u h one six = rw (ne_eqb n 0 (λ e. omega arith), h)
hex-reads n v at (d ∷ ds) r u (x, k, h) one six =
    let a = Hex⇒AllDigits v (d ∷ ds) u (x, k, h) in
    let e : at + suc (length (ds ++ (62 ∷ []))) ≡ at + 1 + length (ds ++ (62 ∷ [])) = omega arith in
    let y = ne_eqb (digit_of d) 16 (λ z. omega (arith, a.0)) in
    rw (ne_eqb d 62 (no-close d a.0), y, ne_eqb n 6 (λ z. omega arith), digit_value x d k, e)
    (hex-reads (n + 1) (v * 16 + x) (at + 1) ds r u h (omega arith) (omega arith))

point-reads : (s : List ℕ) (p u : ℕ) (ds r : List ℕ) → Digits 6 u ds → drop p s ≡ 60 ∷ 85 ∷ ((ds ++ (62 ∷ [])) ++ r)
    → unicode_at s p ≡ Some (u, p + suc (length (85 ∷ (ds ++ (62 ∷ [])))))
unfolding unicode_at
point-reads s p u ds r (one, six, x) h =
    let t : List ℕ = 60 ∷ 85 ∷ ((ds ++ (62 ∷ [])) ++ r) in
    let e : p + suc (suc (length (ds ++ (62 ∷ [])))) ≡ p + 2 + length (ds ++ (62 ∷ [])) = omega arith in
    rw (drop⇒byte_of s p t h, drop⇒byte_of-+ s p 1 t h, drop-+ s p 2 t h, e) (hex-reads 0 0 (p + 2) ds r u x (omega arith) (omega arith))

point-none : (s : List ℕ) (p : ℕ) → (byte_of s p ≡ 60 → ⊥) → unicode_at s p ≡ None
unfolding unicode_at
point-none s p n = rw (ne_eqb (byte_of s p) 60 n)

module _ (s : List ℕ) where
  abbrev HexOf : ℕ → ℕ → ℕ → Option (ℕ × ℕ) → Type 0
  HexOf n v at None = Unit {0}
  HexOf n v at (Some (u, e)) =
      (ds : List ℕ) × Hex v ds u × (1 ≤ n + length ds) × (n + length ds ≤ 6) × (drop at s ≡ (ds ++ (62 ∷ [])) ++ drop e s)

  hex-next : (n v at b : ℕ) (bs : List ℕ) (r : Option (ℕ × ℕ)) → drop at s ≡ b ∷ bs → digit_of b < 16 → HexOf (n + 1) (v * 16 + digit_of b) (at + 1) r
      → HexOf n v at r
  hex-next n v at b bs None l d h = tt
  hex-next n v at b bs (Some (u, e)) l d (ds, x, one, six, k) =
      (b ∷ ds, (digit_of b, digit_of⇒Digit b d, x), omega arith, omega arith, l ∙ ap (λ (r : List ℕ). b ∷ r) (sym (drop-+ s at 1 (b ∷ bs) l) ∙ k))

  hex-written : (n v at : ℕ) (l : List ℕ) → drop at s ≡ l → n ≤ 6 → HexOf n v at (point_digits n v at l)
  unfolding point_digits
  hex-written n v at [] h le = tt
  hex-written n v at (b ∷ bs) h le =
      let behind = drop-+ s at 1 (b ∷ bs) h in
      pick-case P (eqb b 62) _ _
      (λ c. pick-case P (eqb n 0) _ _ (λ _. tt)
      (λ z. let nz = eqb-false n 0 z in
      ([], refl, omega arith, omega arith, h ∙ ap (λ (x : ℕ). x ∷ bs) (eqb-true b 62 c) ∙ ap (λ (r : List ℕ). 62 ∷ r) (sym behind))))
      (λ _. pick-case P (eqb (digit_of b) 16) _ _ (λ _. tt)
      (λ d. pick-case P (eqb n 6) _ _ (λ _. tt)
      (λ m. let nm = eqb-false n 6 m in let nd = eqb-false (digit_of b) 16 d in
      hex-next n v at b bs (point_digits (n + 1) (v * 16 + digit_of b) (at + 1) bs) h (omega (arith, digit-most b))
      (hex-written (n + 1) (v * 16 + digit_of b) (at + 1) bs behind (omega arith)))))
    where
      P : Option (ℕ × ℕ) → Type 0
      P r = HexOf n v at r

  point-made : (q : ℕ) (r : Option (ℕ × ℕ)) → byte_of s (skip_at s q) ≡ 60 → byte_of s (skip_at s q + 1) ≡ 85 → HexOf 0 0 (skip_at s q + 2) r
      → TokenOf Point s q r
  point-made q None i j h = tt
  point-made q (Some (u, e)) i j (ds, x, one, six, k) =
      let p : ℕ = skip_at s q in
      let e0 = at_byte s p (p + 1) 60 refl i (λ z. omega arith) in
      let e1 = at_byte s (p + 1) (p + 2) 85 (omega arith) j (λ z. omega arith) in (
        ds,
        (omega arith, omega arith, x),
        drop⇒Token s q e (60 ∷ 85 ∷ (ds ++ (62 ∷ []))) (e0 ∙ ap (λ (r : List ℕ). 60 ∷ r) (e1 ∙ ap (λ (r : List ℕ). 85 ∷ r) k)),
      )

  point-written : (q : ℕ) → TokenOf Point s q (unicode_at s (skip_at s q))
  unfolding unicode_at
  point-written q =
      pick-case P (eqb (byte_of s at) 60) _ _
      (λ i. pick-case P (eqb (byte_of s (at + 1)) 85) _ _
      (λ j. point-made q (point_digits 0 0 (at + 2) (drop (at + 2) s)) (eqb-true (byte_of s at) 60 i) (eqb-true (byte_of s (at + 1)) 85 j)
      (hex-written 0 0 (at + 2) (drop (at + 2) s) refl (omega arith)))
      (λ _. tt)) (λ _. tt)
    where
      at : ℕ
      at = skip_at s q

      P : Option (ℕ × ℕ) → Type 0
      P r = TokenOf Point s q r

pub point-reader : TokenReader Point 60 unicode_at
point-reader =
    record {
      solid = (refl, refl);
      no_plus = λ e. omega arith;
      read = λ u t r (ds, x, k). (85 ∷ (ds ++ (62 ∷ [])), k, λ s p h. point-reads s p u ds r x h);
      none = point-none;
      written = point-written;
    }

-- ## A `+`, or none, is the next token

module _ (s : List ℕ) (q : ℕ) where
  plus-front : (t r : List ℕ) → Token (43 ∷ []) t r → drop q s ≡ t → plus_at s q ≡ true
  plus-front t r k h = rw (drop⇒byte_of s (skip_at s q) (43 ∷ r) (Token⇒skip_at (43 ∷ []) t r (refl, refl) k s q h))

  plus_none : (r : List ℕ) → drop q s ≡ r → (first (strip r) ≡ 43 → ⊥) → plus_at s q ≡ false
  plus_none r h n = rw (drop⇒byte_of s (skip_at s q) (strip r) (drop⇒skip_at s q r h), ne_eqb (first (strip r)) 43 n)

  join-plus : plus_at s q ≡ true → join_at s q ≡ skip_at s (skip_at s q + 1)
  unfolding join_at
  join-plus e = rw e

  join-none : plus_at s q ≡ false → join_at s q ≡ skip_at s q
  unfolding join_at
  join-none e = rw e

-- ## Series of any such tokens

module _ (X : ℕ → List ℕ → List ℕ → Type 0) where
  -- what is read behind q, if anything, are further tokens X
  abbrev MoreOf : List ℕ → ℕ → ByteSeries → Type 0
  MoreOf s q broken = Unit {0}
  MoreOf s q (series c plus e) = More X c plus (drop q s) (drop e s)

  -- or is a series of them
  abbrev pub SeriesOf : List ℕ → ℕ → ByteSeries → Type 0
  SeriesOf s q broken = Unit {0}
  SeriesOf s q (series c plus e) = grammar.Series X c plus (drop q s) (drop e s)

  -- one token, behind a `+` or not
  abbrev OneMore : Bool → ℕ → List ℕ → List ℕ → Type 0
  OneMore false v t m = X v t m
  OneMore true v t m = (k : List ℕ) × Token (43 ∷ []) t k × X v k m

  with-more : (s : List ℕ) (q v e : ℕ) (p : Bool) (r : ByteSeries) → OneMore p v (drop q s) (drop e s) → MoreOf s e r → MoreOf s q (with_byte v p r)
  with-more s q v e true broken b h = tt
  with-more s q v e false broken b h = tt
  with-more s q v e true (series c m z) (k, plus, b) h = inr (k, drop e s, m, refl, plus, b, h)
  with-more s q v e false (series c m z) b h = inl (drop e s, b, h)

  with-series : (s : List ℕ) (q v e : ℕ) (r : ByteSeries) → X v (drop q s) (drop e s) → MoreOf s e r → SeriesOf s q (with_byte v false r)
  with-series s q v e broken b h = tt
  with-series s q v e (series c m z) b h = (drop e s, b, h)

module _ (at : List ℕ → ℕ → Option (ℕ × ℕ)) where
  -- as `bytes_more` and `bytes_at`, for the tokens that this reads
  unfoldable pub more_at : ℕ → List ℕ → ℕ → Option (ℕ × ℕ) → ByteSeries
  more_at zero s q None = pick (plus_at s q) broken (series [] false q)
  more_at zero s q (Some (v, e)) = broken
  more_at (suc f) s q None = pick (plus_at s q) broken (series [] false q)
  more_at (suc f) s q (Some (v, e)) = with_byte v (plus_at s q) (more_at f s e (at s (join_at s e)))

  abbrev pub series_from : List ℕ → Option (ℕ × ℕ) → ByteSeries
  series_from s None = broken
  series_from s (Some (v, e)) = with_byte v false (more_at (length s) s e (at s (join_at s e)))

  abbrev pub series_at : List ℕ → ℕ → ByteSeries
  series_at s q = series_from s (at s (skip_at s q))

  more-none : (f : ℕ) (s : List ℕ) (q : ℕ) → plus_at s q ≡ false → more_at f s q None ≡ series [] false q
  unfolding more_at
  more-none zero s q e = rw e
  more-none (suc f) s q e = rw e

  more-step : (f : ℕ) (s : List ℕ) (q v e : ℕ) (p : Bool) (c : List ℕ) (m : Bool) (z : ℕ)
      → plus_at s q ≡ p → more_at f s e (at s (join_at s e)) ≡ series c m z → more_at (suc f) s q (Some (v, e)) ≡ series (v ∷ c) (pick p true m) z
  unfolding more_at
  more-step f s q v e p c m z i g = rw (i, g)

module _ {X : ℕ → List ℕ → List ℕ → Type 0} {x : ℕ} {at : List ℕ → ℕ → (Option (ℕ × ℕ))} (a : TokenReader X x at) where
  -- a token, where it stands and what lies behind it
  token-read : (s : List ℕ) (q v : ℕ) (t r : List ℕ) → X v t r → drop q s ≡ t → (e : ℕ) × (at s (skip_at s q) ≡ Some (v, e)) × (drop e s ≡ r)
  token-read s q v t r b h =
      let k = a.read v t r b in
      let w : List ℕ = x ∷ k.0 in
      (skip_at s q + length w, k.2 s (skip_at s q) (Token⇒skip_at w t r a.solid k.1 s q h), Token⇒past w t r a.solid k.1 s q h)

  token-first : (v : ℕ) (t r : List ℕ) → X v t r → first (strip t) ≡ x
  token-first v t r b = let k = a.read v t r b in ap first (token-front (x ∷ k.0) t r a.solid k.1)

  pub series-first : (c : List ℕ) (plus : Bool) (t r : List ℕ) → grammar.Series X c plus t r → first (strip t) ≡ x
  series-first [] plus t r b = absurd b
  series-first (v ∷ c) plus t r (m, b, bs) = token-first v t m b

  token-shorter : (v : ℕ) (t r : List ℕ) → X v t r → length r < length t
  token-shorter v t r b = let k = a.read v t r b in omega (arith, token-less (x ∷ k.0) t r k.1)

  more-long : (c : List ℕ) (plus : Bool) (t r : List ℕ) → More X c plus t r → length c ≤ length t
  more-long [] plus t r b = omega arith
  more-long (v ∷ c) plus t r (inl (m, b, bs)) = omega (arith, more-long c plus m r bs, token-shorter v t m b)
  more-long (v ∷ c) plus t r (inr (k, m, later, y, i, b, bs)) =
      omega (arith, more-long c later m r bs, token-shorter v k m b, token-less (43 ∷ []) t k i)

  -- what the grammar has is read
  more-read : (f : ℕ) (s : List ℕ) (q : ℕ) (c : List ℕ) (plus : Bool) (t r : List ℕ) → More X c plus t r → drop q s ≡ t → length c ≤ f
      → (first (strip r) ≡ x → ⊥) → (first (strip r) ≡ 43 → ⊥)
      → (e : ℕ) × (more_at at f s q (at s (join_at s q)) ≡ series c plus e) × (drop e s ≡ r)
  more-read f s q [] plus t r (y, b) h fuel n m =
      let k : drop q s ≡ r = h ∙ b in
      let p = plus_none s q r k m in
      let none = a.none s (skip_at s q) (λ e. n (sym (drop⇒byte_of s (skip_at s q) (strip r) (drop⇒skip_at s q r k)) ∙ e)) in
      (q, rw (join-none s q p, none, y) (more-none at f s q p), k)
  more-read zero s q (v ∷ c) plus t r b h fuel n m = absurd (omega arith)
  more-read (suc f) s q (v ∷ c) plus t r (inl (i, b, bs)) h fuel n m =
      let p = plus_none s q t h (λ e. a.no_plus (sym (token-first v t i b) ∙ e)) in
      let k = token-read s q v t i b h in
      let g = more-read f s k.0 c plus i r bs k.2 (omega arith) n m in
      (g.0, rw (join-none s q p, k.1) (more-step at f s q v k.0 false c plus g.0 p g.1), g.2)
  more-read (suc f) s q (v ∷ c) plus t r (inr (j, i, later, y, z, b, bs)) h fuel n m =
      let p = plus-front s q t j z h in
      let k = token-read s (skip_at s q + 1) v j i b (Token⇒past (43 ∷ []) t j (refl, refl) z s q h) in
      let g = more-read f s k.0 c later i r bs k.2 (omega arith) n m in
      (g.0, rw (join-plus s q p, k.1, y) (more-step at f s q v k.0 true c later g.0 p g.1), g.2)

  pub series-read : (s : List ℕ) (q : ℕ) (c : List ℕ) (plus : Bool) (t r : List ℕ) → grammar.Series X c plus t r → drop q s ≡ t
      → (first (strip r) ≡ x → ⊥) → (first (strip r) ≡ 43 → ⊥) → (e : ℕ) × (series_at at s q ≡ series c plus e) × (drop e s ≡ r)
  series-read s q [] plus t r b h n m = absurd b
  series-read s q (v ∷ c) plus t r (i, b, bs) h n m =
      let k = token-read s q v t i b h in
      let f : length c ≤ length s = omega (arith, more-long c plus i r bs, drop⇒length s k.0 i k.2) in
      let g = more-read (length s) s k.0 c plus i r bs k.2 f n m in
      (g.0, rw (k.1, g.1), g.2)

  -- and what is read the grammar has
  step-written : (s : List ℕ) (q v e : ℕ) (p : Bool) → plus_at s q ≡ p → at s (join_at s q) ≡ Some (v, e) → OneMore X p v (drop q s) (drop e s)
  step-written s q v e true i h =
      let j : ℕ = skip_at s q + 1 in
      let k : at s (skip_at s j) ≡ Some (v, e) = sym (ap (at s) (join-plus s q i)) ∙ h in
      (drop j s, byte_of⇒Token s q 43 i (λ z. omega arith), subst (TokenOf X s j) k (a.written s j))
  step-written s q v e false i h =
      let k : at s (skip_at s q) ≡ Some (v, e) = sym (ap (at s) (join-none s q i)) ∙ h in
      subst (TokenOf X s q) k (a.written s q)

  more-written : (f : ℕ) (s : List ℕ) (q : ℕ) (n : Option (ℕ × ℕ)) → at s (join_at s q) ≡ n → MoreOf X s q (more_at at f s q n)
  unfolding more_at
  more-written zero s q None h = pick-case (MoreOf X s q) (plus_at s q) broken (series [] false q) (λ _. tt) (λ _. (refl, refl))
  more-written zero s q (Some (v, e)) h = tt
  more-written (suc f) s q None h = pick-case (MoreOf X s q) (plus_at s q) broken (series [] false q) (λ _. tt) (λ _. (refl, refl))
  more-written (suc f) s q (Some (v, e)) h =
      let n : (Option (ℕ × ℕ)) = at s (join_at s e) in
      with-more X s q v e (plus_at s q) (more_at at f s e n) (step-written s q v e (plus_at s q) refl h) (more-written f s e n refl)

  from-written : (s : List ℕ) (q : ℕ) (n : Option (ℕ × ℕ)) → TokenOf X s q n → SeriesOf X s q (series_from at s n)
  from-written s q None h = tt
  from-written s q (Some (v, e)) h =
      let n : (Option (ℕ × ℕ)) = at s (join_at s e) in
      with-series X s q v e (more_at at (length s) s e n) h (more-written (length s) s e n refl)

  pub series-written : (s : List ℕ) (q : ℕ) → SeriesOf X s q (series_at at s q)
  series-written s q = from-written s q (at s (skip_at s q)) (a.written s q)

-- ## Bytes

bytes-more : (f : ℕ) (s : List ℕ) (q : ℕ) (n : Option (ℕ × ℕ)) → bytes_more f s q n ≡ more_at byte_at f s q n
unfolding bytes_more more_at
bytes-more zero s q None = refl
bytes-more zero s q (Some (v, e)) = refl
bytes-more (suc f) s q None = refl
bytes-more (suc f) s q (Some (v, e)) = ap (with_byte v (plus_at s q)) (bytes-more f s e (byte_at s (join_at s e)))

bytes-from : (s : List ℕ) (n : Option (ℕ × ℕ)) → bytes_from s n ≡ series_from byte_at s n
bytes-from s None = refl
bytes-from s (Some (v, e)) = ap (with_byte v false) (bytes-more (length s) s e (byte_at s (join_at s e)))

bytes-series : (s : List ℕ) (q : ℕ) → bytes_at s q ≡ series_at byte_at s q
unfolding bytes_at
bytes-series s q = bytes-from s (byte_at s (skip_at s q))

pub bytes_read : (s : List ℕ) (q : ℕ) (c : List ℕ) (plus : Bool) (t r : List ℕ) → grammar.Series Byte c plus t r → drop q s ≡ t
    → (first (strip r) ≡ 92 → ⊥) → (first (strip r) ≡ 43 → ⊥) → (e : ℕ) × (bytes_at s q ≡ series c plus e) × (drop e s ≡ r)
bytes_read s q c plus t r b h n m = let g = series-read byte-reader s q c plus t r b h n m in (g.0, bytes-series s q ∙ g.1, g.2)

-- what is read behind q, if anything, are one or more bytes
abbrev pub RunOf : List ℕ → ℕ → ByteSeries → Type 0
RunOf s q r = SeriesOf Byte s q r

pub bytes-written : (s : List ℕ) (q : ℕ) → RunOf s q (bytes_at s q)
bytes-written s q = rw (bytes-series s q) (series-written byte-reader s q)

-- ## Code points, as `points_more` counts them

-- 1 if there are further code points, else n
abbrev pub several : ℕ → List ℕ → ℕ
several n [] = n
several n (u ∷ us) = 1

abbrev pub counted : ℕ → ByteSeries → Option (ℕ × ℕ)
counted n broken = None
counted n (series us joined e) = Some (several n us, e)

counted_none : (p : Bool) (n q : ℕ) → pick p None (Some (n, q)) ≡ counted n (pick p broken (series [] false q))
counted_none true n q = refl
counted_none false n q = refl

counted-more : (n v : ℕ) (p : Bool) (r : ByteSeries) → counted 1 r ≡ counted n (with_byte v p r)
counted-more n v p broken = refl
counted-more n v p (series [] joined e) = refl
counted-more n v p (series (u ∷ us) joined e) = refl

pub points-counted : (f : ℕ) (s : List ℕ) (n q : ℕ) (x : Option (ℕ × ℕ)) → points_more f s n q x ≡ counted n (more_at unicode_at f s q x)
unfolding points_more more_at
points-counted zero s n q None = counted_none (plus_at s q) n q
points-counted zero s n q (Some (v, e)) = refl
points-counted (suc f) s n q None = counted_none (plus_at s q) n q
points-counted (suc f) s n q (Some (v, e)) =
    let x : (Option (ℕ × ℕ)) = unicode_at s (join_at s e) in
    points-counted f s 1 e x ∙ counted-more n v (plus_at s q) (more_at unicode_at f s e x)
