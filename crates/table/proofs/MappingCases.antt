-- Lines after CHARMAP, computed.
use mathlib.Core.Path.{◌≡◌, refl}
use mathlib.Core.List.{List, [], ◌∷◌, ◌++◌, map}
use Prim.Native.Nat.{ℕ}
use Rattle.lists.specs.Ascii.{ascii}
use Rattle.table.specs.Text.{digit_of, skip_of, ends_at, byte_at, point_digits, unicode_at, join_at, bytes_more, bytes_at, is_charmap}
use Rattle.lists.specs.Strings.{begins}
use Rattle.table.specs.Mapping.{BodyLine, no_form, reserved, blank, ending, mapping, points_more, indicator_at, is_end, body_line_of, after_end_of}

abbrev texts : List (List ℕ)
texts =
    ascii "<U002D> \\x2D |0" ∷
    ascii "<U0030> \\x30 |0" ∷
    ascii "<U0033> \\x33 |0" ∷
    ascii "<U2212> \\x81\\x7C |0" ∷
    ascii "<UFF0D> \\x81\\x7C |1" ∷
    ascii "<U2212> \\x81\\x7D |3" ∷
    ascii " \t<U41>\t \\x81 \t\\x7c\t|2 \t" ∷
    ascii "<Uff0d>\\x81\\x7c|1" ∷
    (ascii "<U10FFFF> \\x41 |0 # caf" ++ (0xc3 ∷ 0xa9 ∷ ascii " |4")) ∷
    ascii "<U41> \\x41#" ∷
    ascii "<U41> \\x41" ∷
    ascii "<U41> \\x01\\x02\\x03\\x04\\x05 |0" ∷
    [] ∷  -- the empty line
    (ascii " \t# " ++ (0x80 ∷ [])) ∷
    ascii "<U41> \\x41 |4" ∷
    ascii "<U41><U42> \\x41 |0" ∷
    ascii "<U41> + <U42>+<U43> \\x41 |0" ∷
    ascii "<U41> \\x41+\\x42 + \\x43 |0" ∷
    ascii " CHARMAP # x" ∷
    ascii "<U41> + \\x41 |0" ∷
    ascii "<U41>++<U42> \\x41 |0" ∷
    ascii "<U41> \\x41 + |0" ∷
    ascii "<U41> \\x41 |0 +" ∷
    ascii "<U41> \\x41 |5" ∷
    ascii "<U41> \\x41 | 0" ∷
    ascii "<U41> \\x41 |00" ∷
    ascii "<U> \\x41 |0" ∷
    ascii "<U1234567> \\x41 |0" ∷
    ascii "<U 41> \\x41 |0" ∷
    ascii "<U41 \\x41 |0" ∷
    ascii "<U41> \\X41 |0" ∷
    ascii "<U41> \\x4 |0" ∷
    ascii "<u41> \\x41 |0" ∷
    ascii "<U41> |0" ∷
    ascii "\\x41 <U41> |0" ∷
    (ascii "<U41> \\x41 |0 " ++ (0x80 ∷ [])) ∷
    ascii "<U41> \\x41 |0\r" ∷
    ascii "<mb_cur_max> 2" ∷
    ascii "charmap" ∷
    ascii "CHARMAP x" ∷
    ascii "ENDCHARMAP" ∷
    ascii "END CHARMAP x" ∷
    ascii "END" ∷
    ascii "END CHARMAP" ∷
    ascii "\tEND\t CHARMAP # x" ∷
    []

abbrev forms : List BodyLine
forms =
    -- K's mapping lines
    mapping 45 (45 ∷ []) 0 ∷
    mapping 48 (48 ∷ []) 0 ∷
    mapping 51 (51 ∷ []) 0 ∷
    mapping 8722 (129 ∷ 124 ∷ []) 0 ∷
    mapping 65293 (129 ∷ 124 ∷ []) 1 ∷
    mapping 8722 (129 ∷ 125 ∷ []) 3 ∷
    -- blanks and tabs around tokens, none at all, a comment behind, no indicator, five bytes
    mapping 65 (129 ∷ 124 ∷ []) 2 ∷
    mapping 65293 (129 ∷ 124 ∷ []) 1 ∷
    mapping 1114111 (65 ∷ []) 0 ∷
    mapping 65 (65 ∷ []) 0 ∷
    mapping 65 (65 ∷ []) 0 ∷
    mapping 65 (1 ∷ 2 ∷ 3 ∷ 4 ∷ 5 ∷ []) 0 ∷
    -- blank and comment lines
    blank ∷
    blank ∷
    -- reserved: indicator 4, several code points, a `+` between two code points or two bytes, CHARMAP
    reserved ∷
    reserved ∷
    reserved ∷
    reserved ∷
    reserved ∷
    -- no form: a `+` at another place
    no_form ∷
    no_form ∷
    no_form ∷
    no_form ∷
    -- no form: tokens that are not whole
    no_form ∷
    no_form ∷
    no_form ∷
    no_form ∷
    no_form ∷
    no_form ∷
    no_form ∷
    no_form ∷
    no_form ∷
    no_form ∷
    no_form ∷
    no_form ∷
    -- no form: a byte from 80 up, or a CR, outside a comment; a key's line; other words
    no_form ∷
    no_form ∷
    no_form ∷
    no_form ∷
    no_form ∷
    no_form ∷
    no_form ∷
    no_form ∷
    -- the end
    ending ∷
    ending ∷
    []

read : map body_line_of texts ≡ forms
unfolding digit_of skip_of begins ends_at byte_at point_digits unicode_at join_at bytes_more bytes_at is_charmap points_more indicator_at is_end body_line_of
read = refl

-- behind END CHARMAP
abbrev last_texts : List (List ℕ)
last_texts =
    [] ∷  -- the empty line
    ascii " # x" ∷
    ascii "CHARMAP" ∷
    ascii "END CHARMAP" ∷
    ascii "<U41> \\x41 |0" ∷
    (128 ∷ []) ∷  -- \80
    []

abbrev last_forms : List BodyLine
last_forms =
    blank ∷
    blank ∷
    reserved ∷
    no_form ∷
    no_form ∷
    no_form ∷
    []

read-last : map after_end_of last_texts ≡ last_forms
unfolding skip_of begins ends_at is_charmap after_end_of
read-last = refl
