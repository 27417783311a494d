-- Lines after CHARMAP: how their tokens follow one another, and the ranges of a mapping.
use Rattle.std.specs.Prelude.{Option, Some, None}
use mathlib.Core.Path.{◌≡◌}
use mathlib.Core.Bool.{Bool, true, false}
use mathlib.Core.List.{List}
use Prim.Native.Nat.{ℕ, zero, suc, ◌+◌, ◌-◌, ◌<◌, ◌≤◌}
use native.Mathlib.Omega.{arith}
use borrow.Author.Tests.{leb-true, eqb-false}
use lib.Dec.{ltb, leb, eqb}
use lib.ListN.{length, get_or}
use Rattle.lists.specs.Pick.{pick}
use Rattle.lists.proofs.Laws.{drop_past}
use Rattle.lists.proofs.Cases.{pick-case}
use Rattle.table.specs.Codes.{AllByte}
use Rattle.table.specs.Text.{ByteSeries, series, broken, byte_of, skip_at, ends_at, byte_at, unicode_at, plus_at, join_at, with_byte, bytes_more, bytes_from, bytes_at, is_charmap}
use Rattle.lists.specs.Strings.{begins}
use Rattle.table.specs.Mapping.{BodyLine, no_form, reserved, blank, ending, mapping, points_more, indicator_at, indicator_form, bytes_form, points_form, mapping_form, is_end, body_line_at, body_line_of}
use Rattle.table.proofs.TextLaws.{scan, ends-inside, Forth, unicode-forth, byte-forth, SeriesByte, more_bytes}

-- a run of code points: one more, or none, where no `+` may stand
pub points-more : (f : ℕ) (s : List ℕ) (several q v e : ℕ) → 0 < f → points_more f s several q (Some (v, e)) ≡ points_more (f - 1) s 1 e (unicode_at s (join_at s e))
unfolding points_more
points-more zero s several q v e h = absurd (omega arith)
points-more (suc f) s several q v e h = let k : suc f - 1 ≡ f = omega arith in rw k

pub points-wrong : (f : ℕ) (s : List ℕ) (several q : ℕ) → plus_at s q ≡ true → points_more f s several q None ≡ None
unfolding points_more
points-wrong zero s several q h = rw h
points-wrong (suc f) s several q h = rw h

pub points-done : (f : ℕ) (s : List ℕ) (several q : ℕ) → plus_at s q ≡ false → points_more f s several q None ≡ Some (several, q)
unfolding points_more
points-done zero s several q h = rw h
points-done (suc f) s several q h = rw h

-- nothing stands at a line's end
pub charmap_none : (s : List ℕ) (p : ℕ) → length s ≤ p → is_charmap s p ≡ false
unfolding is_charmap begins
charmap_none s p h = rw (drop_past s p h)

-- the first byte decides whether a line is a mapping
pub form-mapping : (s : List ℕ) (p : ℕ) → ends_at s p ≡ false → get_or s p 0 ≡ 60 → body_line_at s p ≡ mapping_form s (unicode_at s p)
form-mapping s p e b = let h = ends-inside s p e in search (scan, e)

-- the ranges of a mapping
pub indicator-forth : (s : List ℕ) (at : ℕ) → Forth 5 at (indicator_at s at)
unfolding indicator_at
indicator-forth s at =
    pick-case P (ends_at s at) _ _ (λ _. (omega arith, omega arith))
    (λ _. pick-case P (eqb (byte_of s at) 124) _ _
    (λ _. pick-case P (ltb (byte_of s (at + 1)) 48) _ _ (λ _. tt)
    (λ _. pick-case P (leb (byte_of s (at + 1)) 52) _ _
    (λ h. pick-case P (ends_at s (skip_at s (at + 2))) _ _ (λ _. (omega (arith, leb-true (byte_of s (at + 1)) 52 h), omega arith)) (λ _. tt))
    (λ _. tt))) (λ _. tt))
  where
    P : Option (ℕ × ℕ) → Type 0
    P n = Forth 5 at n

abbrev pub FormFits : BodyLine → Type 0
FormFits no_form = Unit {0}
FormFits reserved = Unit {0}
FormFits blank = Unit {0}
FormFits ending = Unit {0}
FormFits (mapping u l d) = AllByte l × (1 ≤ length l) × (u < 16777216) × (d ≤ 3)

indicator-fits : (u : ℕ) (l : List ℕ) (later : Bool) (at : ℕ) (n : Option (ℕ × ℕ)) → AllByte l → 1 ≤ length l → u < 16777216 → Forth 5 at n → FormFits (indicator_form u l later n)
indicator-fits u l later at None a i h k = tt
indicator-fits u l later at (Some (d, q)) a i h k =
    pick-case FormFits later _ _ (λ _. tt)
    (λ _. pick-case FormFits (eqb d 4) _ _ (λ _. tt) (λ e. let n = eqb-false d 4 e in (a, i, h, omega (arith, k.0))))

-- one or more bytes
abbrev SeriesFits : ByteSeries → Type 0
SeriesFits broken = Unit {0}
SeriesFits (series l m e) = AllByte l × (1 ≤ length l)

with-fits : (v : ℕ) (p : Bool) (r : ByteSeries) → v < 256 → SeriesByte r → SeriesFits (with_byte v p r)
unfolding AllByte
with-fits v p broken h a = tt
with-fits v p (series l m e) h a = ((h, a), omega arith)

from-fits : (s : List ℕ) (at : ℕ) (n : Option (ℕ × ℕ)) → Forth 256 at n → SeriesFits (bytes_from s n)
from-fits s at None h = tt
from-fits s at (Some (v, e)) h = with-fits v false (bytes_more (length s) s e (byte_at s (join_at s e))) h.0 (more_bytes (length s) s e _ (byte_at s (join_at s e)) (byte-forth s (join_at s e)))

bytes-fits : (s : List ℕ) (at : ℕ) → SeriesFits (bytes_at s at)
unfolding bytes_at
bytes-fits s at = from-fits s _ (byte_at s (skip_at s at)) (byte-forth s (skip_at s at))

bytes-form : (s : List ℕ) (u several : ℕ) (r : ByteSeries) → SeriesFits r → u < 16777216 → FormFits (bytes_form s u several r)
bytes-form s u several broken a h = tt
bytes-form s u several (series l plus q) a h = indicator-fits u l (pick (eqb several 1) true plus) _ (indicator_at s (skip_at s q)) a.0 a.1 h (indicator-forth s (skip_at s q))

points-form : (s : List ℕ) (u : ℕ) (n : Option (ℕ × ℕ)) → u < 16777216 → FormFits (points_form s u n)
points-form s u None h = tt
points-form s u (Some (several, q)) h = bytes-form s u several (bytes_at s q) (bytes-fits s q) h

mapping-form : (s : List ℕ) (at : ℕ) (n : Option (ℕ × ℕ)) → Forth 16777216 at n → FormFits (mapping_form s n)
mapping-form s at None h = tt
mapping-form s at (Some (u, q)) h = points-form s u (points_more (length s) s 0 q (unicode_at s (join_at s q))) h.0

mapped-fits : (s : List ℕ) → FormFits (body_line_of s)
unfolding body_line_of
mapped-fits s =
    pick-case FormFits (ends_at s (skip_at s 0)) _ _ (λ _. tt)
    (λ _. pick-case FormFits (eqb (byte_of s (skip_at s 0)) 60) _ _ (λ _. mapping-form s _ (unicode_at s (skip_at s 0)) (unicode-forth s (skip_at s 0)))
    (λ _. pick-case FormFits (is_charmap s (skip_at s 0)) _ _ (λ _. tt)
    (λ _. pick-case FormFits (is_end s (skip_at s 0)) _ _ (λ _. tt) (λ _. tt))))

-- a mapping has one or more bytes, a code point of at most six digits, and an indicator of 0 to 3
pub form-bytes : (s : List ℕ) (u : ℕ) (l : List ℕ) (d : ℕ) → body_line_of s ≡ mapping u l d → AllByte l × (1 ≤ length l) × (u < 16777216) × (d ≤ 3)
form-bytes s u l d e = rw e at (mapped-fits s)
