-- The lines CHARMAP and END CHARMAP, and those after END CHARMAP: read exactly where the grammar says so.
use Prim.Native.Nat.{ℕ, suc, ◌+◌, ◌-◌, ◌≤◌}
use mathlib.Core.Path.{◌≡◌, refl, sym, ap, ◌∙◌}
use mathlib.Core.List.{List, [], ◌∷◌, ◌++◌}
use mathlib.Core.Bool.{true, false}
use native.Mathlib.Omega.{arith}
use lib.ListN.{length, drop, length-append}
use lib.Dec.{eqb}
use borrow.Author.Tests.{ne_eqb, eqb-false}
use Rattle.lists.specs.Pick.{pick}
use Rattle.lists.specs.Ascii.{ascii}
use Rattle.lists.proofs.Laws.{and_yes, and_left, and_right}
use Rattle.table.specs.Grammar.{Blanks, Token, CharmapLine, EndLine}
use Rattle.table.specs.Text.{skip_at, ends_at, is_charmap}
use Rattle.lists.specs.Strings.{begins}
use Rattle.table.specs.Mapping.{is_end}
use Rattle.lists.proofs.Chains.{unless-left, unless-right}
use Rattle.table.proofs.Tokens.{strip, drop⇒skip_at, strip-gap, gap_of, Token⇒skip_at, Token⇒past, token-less, token-behind, token-bare, begins⇒Token, Closes⇒ends_at, ends_at⇒Closes}
use Rattle.lists.proofs.Parts.{drop-+, drop⇒length}
use Rattle.lists.proofs.Strings.{begins-++}

-- CHARMAP from any place on
pub charmap-reads : (s : List ℕ) (q : ℕ) (t : List ℕ) → drop q s ≡ t → CharmapLine t → is_charmap s (skip_at s q) ≡ true
unfolding is_charmap
charmap-reads s q t h (m, k, c) =
    and_yes (begins (ascii "CHARMAP") (drop (skip_at s q) s)) (ends_at s (skip_at s (skip_at s q + 7)))
    (ap (begins (ascii "CHARMAP")) (Token⇒skip_at (ascii "CHARMAP") t m (refl, refl) k s q h) ∙ begins-++ (ascii "CHARMAP") m)
    (Closes⇒ends_at s (skip_at s q + 7) m (Token⇒past (ascii "CHARMAP") t m (refl, refl) k s q h) c)

pub charmap-written : (s : List ℕ) (q : ℕ) → is_charmap s (skip_at s q) ≡ true → CharmapLine (drop q s)
unfolding is_charmap
charmap-written s q e =
    let a = and_left (begins (ascii "CHARMAP") (drop (skip_at s q) s)) (ends_at s (skip_at s (skip_at s q + 7))) e in
    let b = and_right (begins (ascii "CHARMAP") (drop (skip_at s q) s)) (ends_at s (skip_at s (skip_at s q + 7))) e in
    (drop (skip_at s q + 7) s, begins⇒Token s q (ascii "CHARMAP") a, ends_at⇒Closes s (skip_at s q + 7) b)

-- blanks before CHARMAP, more of them and none
charmap-behind : (g t : List ℕ) → Blanks g → CharmapLine t → CharmapLine (g ++ t)
charmap-behind g t b (m, k, c) = (m, token-behind g (ascii "CHARMAP") t m b k, c)

charmap-bare : (t : List ℕ) → CharmapLine t → CharmapLine (strip t)
charmap-bare t (m, k, c) = (m, token-bare (ascii "CHARMAP") t m (refl, refl) k, c)

charmap-long : (t : List ℕ) → CharmapLine t → 1 ≤ length t
charmap-long t (m, k, c) = omega (arith, token-less (ascii "CHARMAP") t m k)

-- END, a blank or more, CHARMAP
blank-skips : (b : ℕ) (m : List ℕ) → Blanks (b ∷ []) → strip (b ∷ m) ≡ strip m
blank-skips b m g = strip-gap (b ∷ []) m g

strip-less : (t : List ℕ) → length (strip t) ≤ length t
strip-less t = let g = gap_of t in omega (arith, ap length g.2, length-append g.0 (strip t))

pub end_reads : (s : List ℕ) (q : ℕ) (t : List ℕ) → drop q s ≡ t → EndLine t → is_end s (skip_at s q) ≡ true
unfolding is_end begins
end_reads s q t h (b, m, k, g, c) =
    let p : ℕ = skip_at s q in
    let w : List ℕ = ascii "END" ++ (b ∷ []) in
    let i : drop p s ≡ w ++ m = Token⇒skip_at w t m (refl, refl) k s q h in
    let j : drop (p + 3) s ≡ b ∷ m = drop-+ s p 3 (w ++ m) i in
    let n : skip_at s (p + 3) ≡ p + 3 → ⊥ = λ e.
    let z : length (strip m) ≡ suc (length m) = ap length (sym (blank-skips b m g) ∙ sym (drop⇒skip_at s (p + 3) (b ∷ m) j) ∙ ap (λ (x : ℕ). drop x s) e ∙ j) in
    omega (arith, z, strip-less m) in
    rw (i, ne_eqb (skip_at s (p + 3)) (p + 3) n) (charmap-reads s (p + 3) (b ∷ m) j (charmap-behind (b ∷ []) m g c))

pub end-written : (s : List ℕ) (q : ℕ) → is_end s (skip_at s q) ≡ true → EndLine (drop q s)
unfolding is_end
end-written s q e =
    let p : ℕ = skip_at s q in
    let a = and_left (begins (ascii "END") (drop p s)) (pick (eqb (skip_at s (p + 3)) (p + 3)) false (is_charmap s (skip_at s (p + 3)))) e in
    let b = and_right (begins (ascii "END") (drop p s)) (pick (eqb (skip_at s (p + 3)) (p + 3)) false (is_charmap s (skip_at s (p + 3)))) e in
    let n = eqb-false (skip_at s (p + 3)) (p + 3) (unless-left (eqb (skip_at s (p + 3)) (p + 3)) (is_charmap s (skip_at s (p + 3))) b) in
    let c = charmap-bare (drop (p + 3) s) (charmap-written s (p + 3) (unless-right (eqb (skip_at s (p + 3)) (p + 3)) (is_charmap s (skip_at s (p + 3))) b)) in
    let g = gap_of (drop (p + 3) s) in
    by-gap g.0 g.1 g.2 (begins⇒Token s q (ascii "END") a) c n
  where
    by-gap : (w : List ℕ) → Blanks w → drop (skip_at s q + 3) s ≡ w ++ strip (drop (skip_at s q + 3) s) → Token (ascii "END") (drop q s) (drop (skip_at s q + 3) s)
        → CharmapLine (strip (drop (skip_at s q + 3) s)) → (skip_at s (skip_at s q + 3) ≡ skip_at s q + 3 → ⊥) → EndLine (drop q s)
    by-gap [] x d k c n =
        let p : ℕ = skip_at s q + 3 in
        let z : length s - p ≡ length s - skip_at s p = drop⇒length s p (strip (drop p s)) d ∙ sym (drop⇒length s (skip_at s p) (strip (drop p s)) (drop⇒skip_at s p (drop p s) refl)) in
        let y : 1 ≤ length s - p = omega (arith, drop⇒length s p (strip (drop p s)) d, charmap-long (strip (drop p s)) c) in
        absurd (n (omega arith))
    by-gap (b ∷ w) (x, xs) d k c n =
        let p : ℕ = skip_at s q + 3 in (
          b,
          w ++ strip (drop p s),
          record { gap = k.gap; blanks = k.blanks; whole = k.whole ∙ ap (λ (l : List ℕ). k.gap ++ (ascii "END" ++ l)) d },
          (x, tt),
          charmap-behind w (strip (drop p s)) xs c,
        )
