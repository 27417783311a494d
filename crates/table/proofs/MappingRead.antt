-- Lines of code points, bytes and an indicator: what the grammar has is read as what it writes, and what is read so the grammar has.
use Rattle.std.specs.Prelude.{Option, Some, None}
use Prim.Native.Nat.{ℕ, ◌+◌, ◌-◌, ◌<◌, ◌≤◌}
use mathlib.Core.Path.{◌≡◌, refl, sym, ap, ◌∙◌}
use mathlib.Core.Logic.{◌⊎◌, inl, inr}
use mathlib.Core.List.{List, [], ◌∷◌}
use mathlib.Core.Bool.{Bool, true, false}
use native.Mathlib.Omega.{arith}
use lib.ListN.{length, drop}
use lib.Dec.{ltb, leb, eqb}
use borrow.Author.Tests.{le-ltb, le-leb, ne_eqb, eqb-true, eqb-false, ltb-false, leb-true}
use Rattle.lists.specs.Pick.{pick}
use Rattle.lists.proofs.Laws.{¬true⇒false}
use Rattle.lists.proofs.Cases.{pick-case}
use Rattle.table.specs.Meaning.{Line}
use Rattle.table.specs.Grammar.{Point, Closes, Indicator, AnyMapping, MappingLine, UnbuiltMapping}
use Rattle.table.specs.Text.{byte_of, skip_at, ends_at, unicode_at, join_at, ByteSeries, series, broken, with_byte, bytes_at}
use Rattle.table.specs.Mapping.{BodyLine, no_form, reserved, blank, ending, mapping, indicator_at, indicator_form, bytes_form, points_form, mapping_form, body_line_of}
use Rattle.table.proofs.TextLaws.{get_d-in, ends-inside}
use Rattle.table.proofs.MappingLaws.{form-mapping}
use Rattle.table.proofs.Tokens.{strip, first, closes, drop⇒byte_of-+, drop⇒byte_of, drop⇒ends_at, drop⇒skip_at, at_byte, token-front, Token⇒skip_at, drop⇒Token, closes-strip, Closes⇒ends_at, ends_at⇒Closes, closed-first}
use Rattle.lists.proofs.Parts.{drop-+}
use Rattle.table.proofs.SeriesRead.{byte-reader, point-reader, SeriesOf, more_at, series_from, series_at, series-first, series-read, series-written, bytes_read, RunOf, bytes-written, several, counted, points-counted}

-- ## The indicator

indicator-most : (d : ℕ) (t r : List ℕ) → Indicator d t r → d ≤ 4
indicator-most d t r (inl b) = b.0
indicator-most d t r (inr b) = omega (arith, b.0)

bar-reads : (s : List ℕ) (at d : ℕ) (r : List ℕ) → drop at s ≡ 124 ∷ (48 + d) ∷ r → d ≤ 4 → Closes r → indicator_at s at ≡ Some (d, at + 2)
unfolding indicator_at
bar-reads s at d r h small k =
    let t : List ℕ = 124 ∷ (48 + d) ∷ r in
    let v : 48 + d - 48 ≡ d = omega arith in
    let e = Closes⇒ends_at s (at + 2) r (drop-+ s at 2 t h) k in
    rw (drop⇒ends_at s at t h, drop⇒byte_of s at t h, drop⇒byte_of-+ s at 1 t h, le-ltb (48 + d) 48 (omega arith), le-leb (48 + d) 52 (omega arith), e, v)

none_reads : (s : List ℕ) (at : ℕ) → ends_at s at ≡ true → indicator_at s at ≡ Some (0, at)
unfolding indicator_at
none_reads s at e = rw e

indicator-reads : (s : List ℕ) (q d : ℕ) (t r : List ℕ) → Indicator d t r → Closes r → drop q s ≡ t
    → (e : ℕ) × (indicator_at s (skip_at s q) ≡ Some (d, e))
indicator-reads s q d t r (inl (small, b)) k h =
    (skip_at s q + 2, bar-reads s (skip_at s q) d r (Token⇒skip_at (124 ∷ (48 + d) ∷ []) t r (refl, refl) b s q h) small k)
indicator-reads s q d t r (inr (z, e)) k h =
    (skip_at s q, none_reads s (skip_at s q) (Closes⇒ends_at s q r (h ∙ e) k) ∙ ap (λ (x : ℕ). Some (x, skip_at s q)) (sym z))

-- behind the bytes stands neither a byte nor a `+`
behind-first : (x d : ℕ) (t r : List ℕ) → Indicator d t r → Closes r → x < 256 → (x ≡ 35 → ⊥) → (x ≡ 124 → ⊥) → first (strip t) ≡ x → ⊥
behind-first x d t r (inl (small, b)) k h n m e = m (sym e ∙ ap first (token-front (124 ∷ (48 + d) ∷ []) t r (refl, refl) b))
behind-first x d t r (inr (z, y)) k h n m e =
    closed-first x (strip r) (closes-strip r k) h n (sym (ap (λ (l : List ℕ). first (strip l)) y) ∙ e)

-- what is read behind q, if anything, is an indicator that closes the line
abbrev TailOf : List ℕ → ℕ → Option (ℕ × ℕ) → Type 0
TailOf s q None = Unit {0}
TailOf s q (Some (d, e)) = (r : List ℕ) × Indicator d (drop q s) r × Closes r

indicator-written : (s : List ℕ) (q : ℕ) → TailOf s q (indicator_at s (skip_at s q))
unfolding indicator_at
indicator-written s q =
    pick-case P (ends_at s at) _ _ (λ e. (drop q s, inr (refl, refl), ends_at⇒Closes s q e))
    (λ _. pick-case P (eqb (byte_of s at) 124) _ _
    (λ i. pick-case P (ltb b 48) _ _ (λ _. tt)
    (λ j. pick-case P (leb b 52) _ _
    (λ k. pick-case P (ends_at s (skip_at s (at + 2))) _ _
    (λ e. made (eqb-true (byte_of s at) 124 i) (ltb-false b 48 j) (leb-true b 52 k) (ends_at⇒Closes s (at + 2) e))
    (λ _. tt)) (λ _. tt))) (λ _. tt))
  where
    at : ℕ
    at = skip_at s q

    b : ℕ
    b = byte_of s (at + 1)

    P : Option (ℕ × ℕ) → Type 0
    P n = TailOf s q n

    made : byte_of s at ≡ 124 → 48 ≤ b → b ≤ 52 → Closes (drop (at + 2) s) → P (Some (b - 48, at + 2))
    made i j k c =
        let d : ℕ = b - 48 in
        let e0 = at_byte s at (at + 1) 124 refl i (λ x. omega arith) in
        let e1 = at_byte s (at + 1) (at + 2) (48 + d) (omega arith) (omega arith) (λ x. omega arith) in
        (drop (at + 2) s, inl (omega arith, drop⇒Token s q (at + 2) (124 ∷ (48 + d) ∷ []) (e0 ∙ ap (λ (r : List ℕ). 124 ∷ r) e1)), c)

-- ## A line from its code points on

abbrev series_form : List ℕ → ByteSeries → BodyLine
series_form s broken = no_form
series_form s (series [] joined e) = no_form
series_form s (series (u ∷ us) joined e) = bytes_form s u (several 0 us) (bytes_at s e)

counted-form : (s : List ℕ) (u : ℕ) (r : ByteSeries) → points_form s u (counted 0 r) ≡ series_form s (with_byte u false r)
counted-form s u broken = refl
counted-form s u (series us joined e) = refl

points-form : (s : List ℕ) (n : Option (ℕ × ℕ)) → mapping_form s n ≡ series_form s (series_from unicode_at s n)
points-form s None = refl
points-form s (Some (u, q)) =
    let n : (Option (ℕ × ℕ)) = unicode_at s (join_at s q) in
    ap (points_form s u) (points-counted (length s) s 0 q n) ∙ counted-form s u (more_at unicode_at (length s) s q n)

-- what is read of code points, bytes, whether a `+` stands among the bytes, and an indicator
abbrev pub form_of : List ℕ → List ℕ → Bool → ℕ → BodyLine
form_of [] c plus d = no_form
form_of (u ∷ us) c plus d = pick (pick (eqb (several 0 us) 1) true plus) reserved (pick (eqb d 4) reserved (mapping u c d))

-- ## What the grammar has is read

parts-form : (s us c : List ℕ) (joined plus : Bool) (d q e z : ℕ) → bytes_at s q ≡ series c plus e → indicator_at s (skip_at s e) ≡ Some (d, z)
    → series_form s (series us joined q) ≡ form_of us c plus d
parts-form s [] c joined plus d q e z b i = refl
parts-form s (u ∷ us) c joined plus d q e z b i = rw (b, i)

first-form : (s : List ℕ) → first (strip s) ≡ 60 → body_line_of s ≡ series_form s (series_at unicode_at s 0)
unfolding body_line_of
first-form s h =
    let p : ℕ = skip_at s 0 in
    let k = drop⇒skip_at s 0 s refl in
    let c = ¬true⇒false (closes (strip s)) (λ c. closed-first 60 (strip s) c (omega arith) (λ x. omega arith) h) in
    let n = drop⇒ends_at s p (strip s) k ∙ c in
    form-mapping s p n (sym (get_d-in s p (ends-inside s p n)) ∙ drop⇒byte_of s p (strip s) k ∙ h) ∙ points-form s (unicode_at s p)

pub any-mapping-reads : (us c : List ℕ) (joined plus : Bool) (d : ℕ) (s : List ℕ) → AnyMapping us c joined plus d s
    → body_line_of s ≡ form_of us c plus d
any-mapping-reads us c joined plus d s l =
    let t : List ℕ = l.behind-points in
    let r : List ℕ = l.behind-bytes in
    let f = series-first byte-reader c plus t r l.bytes in
    let p = series-read point-reader s 0 us joined s t l.points refl (λ e. omega (arith, f, e)) (λ e. omega (arith, f, e)) in
    let b = bytes_read s p.0 c plus t r l.bytes p.2
    (behind-first 92 d r l.behind-all l.indicator l.closed (omega arith) (λ x. omega arith) (λ x. omega arith))
    (behind-first 43 d r l.behind-all l.indicator l.closed (omega arith) (λ x. omega arith) (λ x. omega arith)) in
    let i = indicator-reads s b.0 d r l.behind-all l.indicator l.closed b.2 in
    first-form s (series-first point-reader us joined s t l.points) ∙ ap (series_form s) p.1
    ∙ parts-form s us c joined plus d p.0 b.0 i.0 b.1 i.1

pub mapping-line-reads : (l : Line) (s : List ℕ) → MappingLine l s → body_line_of s ≡ mapping l.point l.code l.indicator
mapping-line-reads l s (small, m) =
    any-mapping-reads (l.point ∷ []) l.code false false l.indicator s m ∙ rw (ne_eqb l.indicator 4 (λ e. omega arith))

unbuilt-form : (us c : List ℕ) (joined plus : Bool) (d : ℕ) (s : List ℕ) → AnyMapping us c joined plus d s
    → (2 ≤ length us) ⊎ ((plus ≡ true) ⊎ (d ≡ 4)) → form_of us c plus d ≡ reserved
unbuilt-form [] c joined plus d s m h = absurd m.points
unbuilt-form (u ∷ v ∷ us) c joined plus d s m h = refl
unbuilt-form (u ∷ []) c joined plus d s m (inl h) = absurd (omega arith)
unbuilt-form (u ∷ []) c joined plus d s m (inr (inl h)) = rw h
unbuilt-form (u ∷ []) c joined plus d s m (inr (inr h)) = pick-case (λ (f : BodyLine). f ≡ reserved) plus _ _ (λ _. refl) (λ _. rw h)

pub unbuilt-mapping-reads : (s : List ℕ) → UnbuiltMapping s → body_line_of s ≡ reserved
unbuilt-mapping-reads s (us, c, joined, plus, d, m, h) = any-mapping-reads us c joined plus d s m ∙ unbuilt-form us c joined plus d s m h

-- ## What is read so the grammar has

abbrev pub MappingMeans : List ℕ → BodyLine → Type 0
MappingMeans s no_form = Unit {0}
MappingMeans s reserved = UnbuiltMapping s
MappingMeans s blank = ⊥
MappingMeans s ending = ⊥
MappingMeans s (mapping u c d) = MappingLine (record { point = u; code = c; indicator = d }) s

form-means : (us c : List ℕ) (joined plus : Bool) (d : ℕ) (s : List ℕ) → AnyMapping us c joined plus d s
    → MappingMeans s (form_of us c plus d)
form-means [] c joined plus d s m = tt
form-means (u ∷ v ∷ us) c joined plus d s m = (u ∷ v ∷ us, c, joined, plus, d, m, inl (omega arith))
form-means (u ∷ []) c joined plus d s m =
    pick-case (MappingMeans s) plus _ _ (λ p. (u ∷ [], c, joined, plus, d, m, inr (inl p)))
    (λ p. pick-case (MappingMeans s) (eqb d 4) _ _ (λ e. (u ∷ [], c, joined, plus, d, m, inr (inr (eqb-true d 4 e))))
    (λ e. let n = eqb-false d 4 e in
    let k = indicator-most d m.behind-bytes m.behind-all m.indicator in
    (omega arith, rw (p, m.points.2.0) at m)))

module _ (s : List ℕ) (u : ℕ) (us : List ℕ) (joined : Bool) (q : ℕ) (p : SeriesOf Point s 0 (series (u ∷ us) joined q)) where
  end-means : (c : List ℕ) (plus : Bool) (e : ℕ) (n : Option (ℕ × ℕ)) → RunOf s q (series c plus e) → TailOf s e n
      → MappingMeans s (indicator_form u c (pick (eqb (several 0 us) 1) true plus) n)
  end-means c plus e None b i = tt
  end-means c plus e (Some (d, z)) b (r, i, k) =
      form-means (u ∷ us) c joined plus d s
      (record { behind-points = drop q s; behind-bytes = drop e s; behind-all = r; points = p; bytes = b; indicator = i; closed = k })

  bytes-means : (r : ByteSeries) → RunOf s q r → MappingMeans s (bytes_form s u (several 0 us) r)
  bytes-means broken b = tt
  bytes-means (series c plus e) b = end-means c plus e (indicator_at s (skip_at s e)) b (indicator-written s e)

points-means : (s : List ℕ) (r : ByteSeries) → SeriesOf Point s 0 r → MappingMeans s (series_form s r)
points-means s broken p = tt
points-means s (series [] joined q) p = tt
points-means s (series (u ∷ us) joined q) p = bytes-means s u us joined q p (bytes_at s q) (bytes-written s q)

pub mapping-written : (s : List ℕ) → MappingMeans s (mapping_form s (unicode_at s (skip_at s 0)))
mapping-written s =
    rw (points-form s (unicode_at s (skip_at s 0))) (points-means s (series_at unicode_at s 0) (series-written point-reader s 0))
