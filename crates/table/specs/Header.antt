-- A line before CHARMAP as the loader reads it (document 01, 'Table text', Header), by form alone: it knows no number
-- and nothing that came before. Which byte strings are header lines, with which values, Grammar.antt says; this reader
-- need not be believed.
-- Contents: keys; quoted values; the value of each known key (`value_of`); a value by its case (`by_value`); a line
-- (`header_line_of`).
-- Cases: proofs/HeaderCases.antt
use Rattle.table.specs.declared.value.Class.TheVariants.{Sbcs, Mbcs}
use Rattle.table.specs.Codes.{code_of}
use Rattle.std.specs.Prelude.{if◌then◌else◌, ℕ, ◌+◌, ◌-◌, ◌/◌, List, [], ◌∷◌, Bool}
use Rattle.std.specs.Prelude.{true, false, length, take, drop, ltb, leb, eqb, Option, Some, None}
use Rattle.lists.specs.Ascii.{ascii, byte}
use Rattle.table.specs.Codes.{packed, first_byte_unit}
use Rattle.lists.specs.Strings.{same}
use Rattle.lists.specs.Tests.{any_of}
use Rattle.table.specs.Text.{ByteSeries, series, broken, byte_of, skip_at, content_end, quote_end, bytes_at, ends_at}
use Rattle.table.specs.Text.{is_charmap}
use Rattle.table.specs.Row.{open_at, well_at, entries_at, unbuilt_entry, over_entry}
use Rattle.table.specs.declared.header.HeaderLine.{HeaderLine}
use Rattle.table.specs.declared.header.HeaderLine.TheVariants.{Blank, Charmap, Known}
use Rattle.table.specs.declared.value.Key.{Key}
use Rattle.table.specs.declared.value.Key.TheVariants.{CodeSetName, CurMin, CurMax, ConvClass, SubChar}
use Rattle.table.specs.declared.value.Key.TheVariants.{SubChar1, State, Base, Other}
use Rattle.table.specs.declared.value.Value.{Value}
use Rattle.table.specs.declared.value.Value.TheVariants.{Any, Name, Min, Max, Class, Sub, Sub1, Row}
use Rattle.table.specs.declared.value.Value.TheVariants.{Unbuilt}

-- a byte that a key may have: 21 to 7E without `<`, `>`, `#`
unfoldable pub key_byte : ℕ → Bool
key_byte b =
    if ltb b 0x21 then false else
    if leb 0x7f b then false else
    if eqb b (byte "<") then false else
    if eqb b (byte ">") then false else
    if eqb b (byte "#") then false else
    true

-- where the `>` after a run of key bytes stands
unfoldable pub key_end : ℕ → List ℕ → Option ℕ
key_end at [] = None
key_end at (b ∷ bs) =
    let r = key_end (at + 1) bs in
    if eqb b (byte ">") then Some at else if key_byte b then r else None

unfoldable pub key_of : List ℕ → Key
key_of k =
    if same k (ascii "code_set_name") then CodeSetName else
    if same k (ascii "mb_cur_min") then CurMin else
    if same k (ascii "mb_cur_max") then CurMax else
    if same k (ascii "uconv_class") then ConvClass else
    if same k (ascii "subchar") then SubChar else
    if same k (ascii "subchar1") then SubChar1 else
    if same k (ascii "icu:state") then State else
    if same k (ascii "icu:base") then Base else
    Other

-- a value in quotes, and nothing else; an open quote ends with the line
unfoldable pub quoted_from : List ℕ → ℕ → ℕ → Option (ℕ × ℕ)
quoted_from v at stop = if leb (length v) (skip_at v (stop + 1)) then Some (at, stop) else None

unfoldable pub quoted_of : List ℕ → Option (ℕ × ℕ)
quoted_of v =
    if eqb (byte_of v (skip_at v 0)) (byte "\"")
    then quoted_from v (skip_at v 0 + 1) (quote_end (skip_at v 0 + 1) (drop (skip_at v 0 + 1) v))
    else None

-- a value as it is read; none where it is malformed
abbrev pub ReadValue : Type 0
ReadValue = Option Value

-- code_set_name: quoted, not empty
unfoldable pub name_in : Option (ℕ × ℕ) → ReadValue
name_in None = None
name_in (Some (a, e)) = if eqb a e then None else Some Name

-- uconv_class: SBCS, MBCS; DBCS and EBCDIC_STATEFUL are well-formed, but not built
unfoldable pub class_name : List ℕ → ReadValue
class_name w =
    if same w (ascii "SBCS") then Some (Class Sbcs) else
    if same w (ascii "MBCS") then Some (Class Mbcs) else
    if same w (ascii "DBCS") then Some Unbuilt else
    if same w (ascii "EBCDIC_STATEFUL") then Some Unbuilt else
    None

unfoldable pub class_in : List ℕ → Option (ℕ × ℕ) → ReadValue
class_in v None = None
class_in v (Some (a, e)) = class_name (take (e - a) (drop a v))

-- mb_cur_min, mb_cur_max: a digit 1 to 4; 0 for anything else
unfoldable pub digit_in : List ℕ → ℕ → ℕ
digit_in v at =
    if ltb (byte_of v at) (byte "1") then 0 else
    if leb (byte_of v at) (byte "4")
    then (if leb (length v) (skip_at v (at + 1)) then byte_of v at - byte "0" else 0)
    else 0

unfoldable pub min_in : ℕ → ReadValue
min_in d = if eqb d 0 then None else Some (Min d)

unfoldable pub max_in : ℕ → ReadValue
max_in d = if eqb d 0 then None else Some (Max d)

-- subchar: 1 to 4 bytes, and nothing else; kept as one number, first byte on top, and the length
unfoldable pub sub_in : List ℕ → ByteSeries → ReadValue
sub_in v broken = None
sub_in v (series l m e) =
    if m then None else
    if leb (length l) 4 then (if leb (length v) (skip_at v e) then Some (Sub (code_of l)) else None) else
    None

-- subchar1: one byte, and nothing else
unfoldable pub sub1_value : List ℕ → ByteSeries → ReadValue
sub1_value v broken = None
sub1_value v (series l m e) =
    if m then None else
    if leb (length l) 1
    then (if leb (length v) (skip_at v e) then Some (Sub1 (packed l / first_byte_unit)) else None)
    else None

-- icu:state: the word that opens it, whether 14 is given for an entry, whether 15 is
unfoldable pub row_from : List ℕ → Option (ℕ × ℕ) → ReadValue
row_from v None = None
row_from v (Some (k, q)) =
    if well_at v q
    then Some (Row k (any_of unbuilt_entry (entries_at v q)) (any_of over_entry (entries_at v q)))
    else None

unfoldable pub row_in : List ℕ → ReadValue
row_in v = if leb (length v) (skip_at v 0) then Some (Row 0 false false) else row_from v (open_at v (skip_at v 0))

unfoldable pub value_of : Key → List ℕ → ReadValue
value_of CodeSetName v = name_in (quoted_of v)
value_of CurMin v = min_in (digit_in v (skip_at v 0))
value_of CurMax v = max_in (digit_in v (skip_at v 0))
value_of ConvClass v = class_in v (quoted_of v)
value_of SubChar v = sub_in v (bytes_at v 0)
value_of SubChar1 v = sub1_value v (bytes_at v 0)
value_of State v = row_in v
value_of Base v = Some Unbuilt
value_of Other v = Some Any

-- a value by what the conditions ask of it: malformed, under 14, any other, or a row: the word that opens it, whether
-- 14 or 15 is given for an entry
abbrev pub by_value : {A : Type 0} → A → A → A → (ℕ → Bool → Bool → A) → ReadValue → A
by_value unfit later other row None = unfit
by_value unfit later other row (Some Any) = other
by_value unfit later other row (Some Unbuilt) = later
by_value unfit later other row (Some Name) = other
by_value unfit later other row (Some (Min d)) = other
by_value unfit later other row (Some (Max d)) = other
by_value unfit later other row (Some (Class c)) = other
by_value unfit later other row (Some (Sub c)) = other
by_value unfit later other row (Some (Sub1 b)) = other
by_value unfit later other row (Some (Row w l o)) = row w l o

-- a value that is a row
unfoldable pub is_row : ReadValue → Bool
is_row v = by_value false false false (λ w l o. true) v

-- a line as it is read; none where it has no form
abbrev pub ReadLine : Type 0
ReadLine = Option HeaderLine

-- a key's line: the value runs from q to e
unfoldable pub key_line : List ℕ → Key → ℕ → Option ℕ → ReadLine
key_line s k q None = None
key_line s k q (Some e) = Some (Known k (value_of k (take (e - q) (drop q s))) q e)

unfoldable pub keyed_line : List ℕ → ℕ → Option ℕ → ReadLine
keyed_line s at None = None
keyed_line s at (Some e) =
    if eqb at e then None else
    key_line s (key_of (take (e - at) (drop at s))) (e + 1) (content_end false (e + 1) (drop (e + 1) s))

unfoldable pub header_line_at : List ℕ → ℕ → ReadLine
header_line_at s p =
    if ends_at s p then Some Blank else
    if eqb (byte_of s p) (byte "<") then keyed_line s (p + 1) (key_end (p + 1) (drop (p + 1) s)) else
    if is_charmap s p then Some Charmap else
    None

unfoldable pub header_line_of : List ℕ → ReadLine
header_line_of s = header_line_at s (skip_at s 0)
