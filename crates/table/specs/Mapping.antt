-- A line behind CHARMAP as the loader reads it (document 01, 'Mapping'), by form alone: `<U..>`, one or more bytes, an
-- indicator. It knows no number and nothing that came before. Which byte strings are mapping lines, Grammar.antt says;
-- this reader need not be believed.
-- Cases: proofs/MappingCases.antt
use Rattle.std.specs.Prelude.{if◌then◌else◌, ℕ, zero, suc, ◌+◌, ◌-◌, List, Bool, false}
use Rattle.std.specs.Prelude.{length, drop, ltb, leb, eqb, Option, Some, None}
use Rattle.lists.specs.Ascii.{ascii, byte}
use Rattle.lists.specs.Pick.{◌and◌, ◌or◌}
use Rattle.table.specs.Text.{ByteSeries, series, broken, byte_of, skip_at, ends_at, unicode_at, plus_at, join_at}
use Rattle.table.specs.Text.{bytes_at}
use Rattle.table.specs.Text.{is_charmap, only_if}
use Rattle.lists.specs.Strings.{begins}

-- reserved: a form that 14 is given for (second CHARMAP, several code points, a `+`, indicator 4)
pub data BodyLine : Type 0 where
  no_form : BodyLine
  reserved : BodyLine
  blank : BodyLine
  ending : BodyLine
  mapping : ℕ → List ℕ → ℕ → BodyLine

-- the code points behind q, of which the first is given: 1 if there is one, and the place behind; a `+` with none
-- behind it is no form
unfoldable pub points_more : ℕ → List ℕ → ℕ → ℕ → Option (ℕ × ℕ) → Option (ℕ × ℕ)
points_more zero s several q None = if plus_at s q then None else Some (several, q)
points_more zero s several q (Some (v, e)) = None
points_more (suc f) s several q None = if plus_at s q then None else Some (several, q)
points_more (suc f) s several q (Some (v, e)) = points_more f s 1 e (unicode_at s (join_at s e))

-- no indicator reads as `|0`; else `|`, a digit 0 to 4, and nothing after it
unfoldable pub indicator_at : List ℕ → ℕ → Option (ℕ × ℕ)
indicator_at s at =
    if ends_at s at then Some (0, at) else
    only_if (eqb (byte_of s at) (byte "|"))
    (if ltb (byte_of s (at + 1)) (byte "0") then None else
    only_if (leb (byte_of s (at + 1)) (byte "4"))
    (only_if (ends_at s (skip_at s (at + 2)))
    (Some (byte_of s (at + 1) - byte "0", at + 2))))

abbrev pub indicator_form : ℕ → List ℕ → Bool → Option (ℕ × ℕ) → BodyLine
indicator_form u l later None = no_form
indicator_form u l later (Some (d, q)) = if later then reserved else if eqb d 4 then reserved else mapping u l d

abbrev pub bytes_form : List ℕ → ℕ → ℕ → ByteSeries → BodyLine
bytes_form s u several broken = no_form
bytes_form s u several (series l plus q) = indicator_form u l (eqb several 1 or plus) (indicator_at s (skip_at s q))

abbrev pub points_form : List ℕ → ℕ → Option (ℕ × ℕ) → BodyLine
points_form s u None = no_form
points_form s u (Some (several, q)) = bytes_form s u several (bytes_at s q)

abbrev pub mapping_form : List ℕ → Option (ℕ × ℕ) → BodyLine
mapping_form s None = no_form
mapping_form s (Some (u, q)) = points_form s u (points_more (length s) s 0 q (unicode_at s (join_at s q)))

-- `END`, a blank or more, `CHARMAP`
unfoldable pub is_end : List ℕ → ℕ → Bool
is_end s p =
    begins (ascii "END") (drop p s)
    and (if eqb (skip_at s (p + 3)) (p + 3) then false else is_charmap s (skip_at s (p + 3)))

abbrev pub body_line_at : List ℕ → ℕ → BodyLine
body_line_at s p =
    if ends_at s p then blank else
    if eqb (byte_of s p) (byte "<") then mapping_form s (unicode_at s p) else
    if is_charmap s p then reserved else
    if is_end s p then ending else
    no_form

-- a line between CHARMAP and END CHARMAP
unfoldable pub body_line_of : List ℕ → BodyLine
body_line_of s = body_line_at s (skip_at s 0)

-- a line after END CHARMAP
abbrev pub after_end_at : List ℕ → ℕ → BodyLine
after_end_at s p = if ends_at s p then blank else if is_charmap s p then reserved else no_form

unfoldable pub after_end_of : List ℕ → BodyLine
after_end_of s = after_end_at s (skip_at s 0)
