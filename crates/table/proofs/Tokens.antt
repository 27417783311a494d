-- A line from a place on, for the laws of the grammar: the byte there, what lies behind it, blanks, tokens, hexadecimal digits, what closes a line.
-- A place is used only through `drop at s`, what stands from there on.
use Prim.Native.Nat.{ℕ, ◌+◌, ◌*◌, ◌-◌, ◌<◌, ◌≤◌}
use mathlib.Core.Path.{◌≡◌, refl, sym, ap, ◌∙◌, subst}
use mathlib.Core.Logic.{◌⊎◌, inl, inr}
use mathlib.Core.List.{List, [], ◌∷◌, ◌++◌, append_assoc}
use mathlib.Core.Bool.{Bool, true, false}
use native.Mathlib.Omega.{arith}
use lib.ListN.{length, get_or, drop, length-append, drop_of_length-le}
use lib.Seq.{get_or-drop, drop-append_seam}
use lib.Dec.{ltb, leb, eqb}
use borrow.Author.Tests.{le-leb, lt-leb, le-ltb, eqb-true, leb-true, leb-false, ltb-false}
use Rattle.lists.specs.Pick.{pick}
use Rattle.lists.specs.Order.{All}
use Rattle.lists.proofs.Laws.{drop-∷}
use Rattle.lists.proofs.Parts.{drop-+, drop⇒length}
use Rattle.lists.proofs.Cases.{pick-case}
use Rattle.lists.proofs.Append.{All-++⁺}
use Rattle.table.specs.Grammar.{Blanks, Token, Digit, Hex, Closes}
use Rattle.table.specs.Text.{digit_of, byte_of, skip_of, skip_at, ends_at}
use Rattle.lists.specs.Strings.{begins}
use Rattle.lists.proofs.Strings.{begins⇒++}
use Rattle.table.proofs.TextLaws.{get_d-in, get_d-out, digit-none}

-- without the blanks in front
unfoldable pub strip : List ℕ → List ℕ
strip [] = []
strip (b ∷ bs) = let r = strip bs in pick (eqb b 32) r (pick (eqb b 9) r (b ∷ bs))

-- the first byte, or 256
abbrev pub first : List ℕ → ℕ
first r = get_or r 0 256

-- nothing, or a comment
abbrev pub closes : List ℕ → Bool
closes [] = true
closes (b ∷ bs) = eqb b 35

module _ (s : List ℕ) where
  -- what stands at a place, by the list from there on
  pub drop⇒byte_of-+ : (at i : ℕ) (r : List ℕ) → drop at s ≡ r → byte_of s (at + i) ≡ byte_of r i
  drop⇒byte_of-+ at i r h = sym (get_or-drop at s i 256) ∙ ap (λ (l : List ℕ). get_or l i 256) h

  pub drop⇒byte_of : (at : ℕ) (r : List ℕ) → drop at s ≡ r → byte_of s at ≡ first r
  drop⇒byte_of at r h = let k : at ≡ at + 0 = omega arith in ap (λ (j : ℕ). byte_of s j) k ∙ drop⇒byte_of-+ at 0 r h

  pub drop⇒ends_at : (at : ℕ) (r : List ℕ) → drop at s ≡ r → ends_at s at ≡ closes r
  unfolding ends_at
  drop⇒ends_at at [] h = let k : length s ≤ at = omega (arith, drop⇒length s at [] h) in rw (le-leb (length s) at k)
  drop⇒ends_at at (b ∷ bs) h =
      let k : at < length s = omega (arith, drop⇒length s at (b ∷ bs) h) in
      rw (lt-leb (length s) at k, drop⇒byte_of at (b ∷ bs) h)

  -- behind the blanks
  skip-of : (at : ℕ) (r : List ℕ) → drop at s ≡ r → drop (skip_of at r) s ≡ strip r
  unfolding skip_of strip
  skip-of at [] h = h
  skip-of at (b ∷ bs) h = by-blank (eqb b 32) (eqb b 9) (skip-of (at + 1) bs (drop-+ s at 1 (b ∷ bs) h))
    where
      by-blank : (x y : Bool) → drop (skip_of (at + 1) bs) s ≡ strip bs
          → drop (pick x (skip_of (at + 1) bs) (pick y (skip_of (at + 1) bs) at)) s ≡ pick x (strip bs) (pick y (strip bs) (b ∷ bs))
      by-blank true y e = e
      by-blank false true e = e
      by-blank false false e = h

  pub drop⇒skip_at : (at : ℕ) (r : List ℕ) → drop at s ≡ r → drop (skip_at s at) s ≡ strip r
  drop⇒skip_at at r h = ap (λ (l : List ℕ). drop (skip_of at l) s) h ∙ skip-of at r h

  -- a byte of the line, and what lies behind it
  pub at_byte : (p q b : ℕ) → q ≡ p + 1 → byte_of s p ≡ b → (b ≡ 256 → ⊥) → drop p s ≡ b ∷ drop q s
  at_byte p q b e h n = by_end (leb (length s) p) refl
    where
      by_end : (x : Bool) → leb (length s) p ≡ x → drop p s ≡ b ∷ drop q s
      by_end true k = absurd (n (sym h ∙ get_d-out s p (leb-true (length s) p k)))
      by_end false k =
          let i : p < length s = leb-false (length s) p k in
          drop-∷ s p i ∙ ap (λ (j : ℕ). j ∷ drop (p + 1) s) (sym (get_d-in s p i) ∙ h) ∙ ap (λ (j : ℕ). b ∷ drop j s) (sym e)

-- ## Blanks

-- blanks in front do not count
pub strip-gap : (w r : List ℕ) → Blanks w → strip (w ++ r) ≡ strip r
unfolding strip
strip-gap [] r a = refl
strip-gap (b ∷ w) r (inl e, a) = rw (e, strip-gap w r a)
strip-gap (b ∷ w) r (inr e, a) = rw (e, strip-gap w r a)

pub strip-all : (t : List ℕ) → Blanks t → strip t ≡ []
unfolding strip
strip-all [] a = refl
strip-all (b ∷ t) (inl e, a) = rw (e, strip-all t a)
strip-all (b ∷ t) (inr e, a) = rw (e, strip-all t a)

-- every list is blanks and what is left without them
abbrev pub Gap : List ℕ → List ℕ → Type 0
Gap s r = (w : List ℕ) × Blanks w × (s ≡ w ++ r)

pub gap_of : (s : List ℕ) → Gap s (strip s)
unfolding strip
gap_of [] = ([], tt, refl)
gap_of (b ∷ bs) = by-blank (gap_of bs) (eqb b 32) (eqb b 9) refl refl
  where
    more : (b ≡ 32) ⊎ (b ≡ 9) → Gap bs (strip bs) → Gap (b ∷ bs) (strip bs)
    more e g = (b ∷ g.0, (e, g.1), ap (λ (l : List ℕ). b ∷ l) g.2)

    by-blank : Gap bs (strip bs) → (x y : Bool) → eqb b 32 ≡ x → eqb b 9 ≡ y → Gap (b ∷ bs) (pick x (strip bs) (pick y (strip bs) (b ∷ bs)))
    by-blank g true y p q = more (inl (eqb-true b 32 p)) g
    by-blank g false true p q = more (inr (eqb-true b 9 q)) g
    by-blank g false false p q = ([], tt, refl)

skip-gap : (s : List ℕ) (q : ℕ) → Gap (drop q s) (drop (skip_at s q) s)
skip-gap s q = rw (drop⇒skip_at s q (drop q s) refl) (gap_of (drop q s))

blanks-all : (t : List ℕ) → strip t ≡ [] → Blanks t
blanks-all t e =
    let g = gap_of t in
    let k : t ≡ g.0 ++ [] = g.2 ∙ ap (λ (l : List ℕ). g.0 ++ l) e in
    subst Blanks (sym k) (All-++⁺ (λ b. (b ≡ 32) ⊎ (b ≡ 9)) g.0 [] g.1 tt)

-- only blanks are left exactly where nothing is left behind them
pub Blanks⇒skip_at : (v : List ℕ) (e : ℕ) (r : List ℕ) → drop e v ≡ r → Blanks r → length v ≤ skip_at v e
Blanks⇒skip_at v e r h b = omega (arith, drop⇒length v (skip_at v e) [] (drop⇒skip_at v e r h ∙ strip-all r b))

pub skip_at⇒Blanks : (v : List ℕ) (e : ℕ) → length v ≤ skip_at v e → Blanks (drop e v)
skip_at⇒Blanks v e h = blanks-all (drop e v) (sym (drop⇒skip_at v e (drop e v) refl) ∙ drop_of_length-le v h)

-- ## Tokens

-- a token begins with no blank
abbrev pub Solid : List ℕ → Type 0
Solid [] = ⊥
Solid (x ∷ w) = (eqb x 32 ≡ false) × (eqb x 9 ≡ false)

strip-solid : (w r : List ℕ) → Solid w → strip (w ++ r) ≡ w ++ r
unfolding strip
strip-solid [] r n = absurd n
strip-solid (x ∷ w) r n = rw (n.0, n.1)

module _ (w t r : List ℕ) (n : Solid w) (k : Token w t r) where
  pub token-front : strip t ≡ w ++ r
  token-front = ap strip k.whole ∙ strip-gap k.gap (w ++ r) k.blanks ∙ strip-solid w r n

  pub Token⇒skip_at : (s : List ℕ) (q : ℕ) → drop q s ≡ t → drop (skip_at s q) s ≡ w ++ r
  Token⇒skip_at s q h = drop⇒skip_at s q t h ∙ token-front

  pub Token⇒past : (s : List ℕ) (q : ℕ) → drop q s ≡ t → drop (skip_at s q + length w) s ≡ r
  Token⇒past s q h = drop-+ s (skip_at s q) (length w) (w ++ r) (Token⇒skip_at s q h) ∙ drop-append_seam w r

pub token-less : (w t r : List ℕ) → Token w t r → length w + length r ≤ length t
token-less w t r k = omega (arith, ap length k.whole, length-append k.gap (w ++ r), length-append w r)

-- a token whose bytes stand behind the blanks
pub drop⇒Token : (s : List ℕ) (q e : ℕ) (w : List ℕ) → drop (skip_at s q) s ≡ w ++ drop e s → Token w (drop q s) (drop e s)
drop⇒Token s q e w h = let g = skip-gap s q in record { gap = g.0; blanks = g.1; whole = g.2 ∙ ap (λ (l : List ℕ). g.0 ++ l) h }

-- a token of one byte
pub byte_of⇒Token : (s : List ℕ) (q x : ℕ) → eqb (byte_of s (skip_at s q)) x ≡ true → (x ≡ 256 → ⊥) → Token (x ∷ []) (drop q s) (drop (skip_at s q + 1) s)
byte_of⇒Token s q x e n = drop⇒Token s q (skip_at s q + 1) (x ∷ []) (at_byte s (skip_at s q) (skip_at s q + 1) x refl (eqb-true (byte_of s (skip_at s q)) x e) n)

-- more blanks before a token
pub token-behind : (g w t r : List ℕ) → Blanks g → Token w t r → Token w (g ++ t) r
token-behind g w t r b k =
    record {
      gap = g ++ k.gap;
      blanks = All-++⁺ (λ x. (x ≡ 32) ⊎ (x ≡ 9)) g k.gap b k.blanks;
      whole = ap (λ (l : List ℕ). g ++ l) k.whole ∙ sym (append_assoc g k.gap (w ++ r));
    }

-- and none
pub token-bare : (w t r : List ℕ) → Solid w → Token w t r → Token w (strip t) r
token-bare w t r n k = record { gap = []; blanks = tt; whole = token-front w t r n k }

-- a word behind blanks, if the line begins with it there
pub begins⇒Token : (s : List ℕ) (q : ℕ) (w : List ℕ) → begins w (drop (skip_at s q) s) ≡ true → Token w (drop q s) (drop (skip_at s q + length w) s)
begins⇒Token s q w e =
    drop⇒Token s q (skip_at s q + length w) w
    (begins⇒++ w (drop (skip_at s q) s) e ∙ ap (λ (l : List ℕ). w ++ l) (sym (drop-+ s (skip_at s q) (length w) (drop (skip_at s q) s) refl)))

-- ## Hexadecimal digits

pub digit-inside : (b : ℕ) → digit_of b < 16 → b ≡ 256 → ⊥
digit-inside b h e = let k : 16 < 16 = rw (e, digit-none) at h in omega arith

-- a digit of the grammar is one of the reader, of the same value
pub digit_value : (v h : ℕ) → Digit v h → digit_of h ≡ v
unfolding digit_of
digit_value v h (inl (a, e)) = let k : 48 + v - 48 ≡ v = omega arith in rw (e, le-ltb (48 + v) 48 (omega arith), le-leb (48 + v) 57 (omega arith), k)
digit_value v h (inr (a, b, inl e)) =
    let z : h ≡ 55 + v = omega arith in
    let k : 55 + v - 55 ≡ v = omega arith in
    rw (z, le-ltb (55 + v) 48 (omega arith), lt-leb (55 + v) 57 (omega arith), le-ltb (55 + v) 65 (omega arith), le-leb (55 + v) 70 (omega arith), k)
digit_value v h (inr (a, b, inr e)) =
    let z : h ≡ 87 + v = omega arith in
    let k : 87 + v - 87 ≡ v = omega arith in
    rw (
      z,
      le-ltb (87 + v) 48 (omega arith),
      lt-leb (87 + v) 57 (omega arith),
      le-ltb (87 + v) 65 (omega arith),
      lt-leb (87 + v) 70 (omega arith),
      le-ltb (87 + v) 97 (omega arith),
      le-leb (87 + v) 102 (omega arith),
      k,
    )

digit-small : (v h : ℕ) → Digit v h → v < 16
digit-small v h (inl (a, e)) = omega arith
digit-small v h (inr (a, b, e)) = omega arith

-- and back
pub digit_of⇒Digit : (h : ℕ) → digit_of h < 16 → Digit (digit_of h) h
unfolding digit_of
digit_of⇒Digit h =
    pick-case P (ltb h 48) _ _ none
    (λ a. pick-case P (leb h 57) _ _ (λ b _. let x = ltb-false h 48 a in let y = leb-true h 57 b in inl (omega arith, omega arith))
    (λ _. pick-case P (ltb h 65) _ _ none
    (λ a. pick-case P (leb h 70) _ _ (λ b _. let x = ltb-false h 65 a in let y = leb-true h 70 b in inr (omega arith, omega arith, inl (omega arith)))
    (λ _. pick-case P (ltb h 97) _ _ none
    (λ a. pick-case P (leb h 102) _ _ (λ b _. let x = ltb-false h 97 a in let y = leb-true h 102 b in inr (omega arith, omega arith, inr (omega arith))) none)))))
  where
    P : ℕ → Type 0
    P v = v < 16 → Digit v h

    none : {A : Type 0} → A → 16 < 16 → Digit 16 h
    none a k = absurd (omega arith)

-- the number that digits write behind a number
unfoldable pub hex_from : ℕ → List ℕ → ℕ
hex_from n [] = n
hex_from n (h ∷ ds) = hex_from (n * 16 + digit_of h) ds

abbrev pub AllDigits : List ℕ → Type 0
AllDigits ds = All (λ h. digit_of h < 16) ds

pub Hex⇒AllDigits : (n : ℕ) (ds : List ℕ) (u : ℕ) → Hex n ds u → AllDigits ds
Hex⇒AllDigits n [] u h = tt
Hex⇒AllDigits n (d ∷ ds) u (v, k, h) = (omega (arith, digit_value v d k, digit-small v d k), Hex⇒AllDigits (n * 16 + v) ds u h)

pub Hex⇒hex_from : (n : ℕ) (ds : List ℕ) (u : ℕ) → Hex n ds u → hex_from n ds ≡ u
unfolding hex_from
Hex⇒hex_from n [] u h = sym h
Hex⇒hex_from n (d ∷ ds) u (v, k, h) = ap (λ (x : ℕ). hex_from (n * 16 + x) ds) (digit_value v d k) ∙ Hex⇒hex_from (n * 16 + v) ds u h

pub hex_from⇒Hex : (n : ℕ) (ds : List ℕ) (u : ℕ) → AllDigits ds → hex_from n ds ≡ u → Hex n ds u
unfolding hex_from
hex_from⇒Hex n [] u a e = sym e
hex_from⇒Hex n (d ∷ ds) u a e = (digit_of d, digit_of⇒Digit d a.0, hex_from⇒Hex (n * 16 + digit_of d) ds u a.1 e)

-- ## What closes a line

pub closes-strip : (r : List ℕ) → Closes r → closes (strip r) ≡ true
closes-strip r (inl b) = ap closes (strip-all r b)
closes-strip r (inr (text, k)) = ap closes (token-front (35 ∷ []) r text (refl, refl) k)

closed_of : (t : List ℕ) → closes (strip t) ≡ true → Closes t
closed_of t e = by_first (strip t) refl e
  where
    by_first : (l : List ℕ) → strip t ≡ l → closes l ≡ true → Closes t
    by_first [] h c = inl (blanks-all t h)
    by_first (b ∷ l) h c =
        let g = gap_of t in
        inr (l, record { gap = g.0; blanks = g.1; whole = g.2 ∙ ap (λ (x : List ℕ). g.0 ++ x) (h ∙ ap (λ (x : ℕ). x ∷ l) (eqb-true b 35 c)) })

pub Closes⇒ends_at : (s : List ℕ) (q : ℕ) (r : List ℕ) → drop q s ≡ r → Closes r → ends_at s (skip_at s q) ≡ true
Closes⇒ends_at s q r h k = drop⇒ends_at s (skip_at s q) (strip r) (drop⇒skip_at s q r h) ∙ closes-strip r k

pub ends_at⇒Closes : (s : List ℕ) (q : ℕ) → ends_at s (skip_at s q) ≡ true → Closes (drop q s)
ends_at⇒Closes s q e = closed_of (drop q s) (sym (drop⇒ends_at s (skip_at s q) (strip (drop q s)) (drop⇒skip_at s q (drop q s) refl)) ∙ e)

-- a byte that does not close a line does not stand where it closes
pub closed-first : (x : ℕ) (r : List ℕ) → closes r ≡ true → x < 256 → (x ≡ 35 → ⊥) → first r ≡ x → ⊥
closed-first x [] c h n e = omega (arith, e)
closed-first x (b ∷ r) c h n e = n (sym e ∙ eqb-true b 35 c)
