-- The lines of a text, and the tokens of a line, as the loader reads them (document 01, 'Table text'). Which byte
-- strings they are, Grammar.antt says; this reader need not be believed.
-- Contents: lines; digits; blanks, words, quotes and comments; numbers, bytes `\xhh`, code points; runs of bytes;
-- CHARMAP.
-- Cases: proofs/HeaderCases.antt, proofs/MappingCases.antt
use Rattle.std.specs.Prelude.{if◌then◌else◌, ℕ, zero, suc, ◌+◌, ◌*◌, ◌-◌, List, [], ◌∷◌}
use Rattle.std.specs.Prelude.{Bool, true, false, length, get_or, drop, ltb, leb, eqb, Option, Some, None}
use Rattle.lists.specs.Ascii.{ascii, byte}
use Rattle.lists.specs.Pick.{◌and◌, ◌or◌}
use Rattle.lists.specs.Strings.{begins, onto}

-- a CR right before an LF
unfoldable pub cr_before : ℕ → List ℕ → Bool
cr_before b [] = false
cr_before b (d ∷ ds) = eqb b (byte "\r") and eqb d (byte "\n")

-- lines end in LF or CR LF; the last may lack an end
unfoldable pub lines_of : List ℕ → List (List ℕ)
lines_of [] = []
lines_of (b ∷ bs) =
    let r = lines_of bs in
    if eqb b (byte "\n") then [] ∷ r else if cr_before b bs then r else onto b r

-- the value of a hexadecimal digit in either case, or 16
unfoldable pub digit_of : ℕ → ℕ
digit_of b =
    if ltb b (byte "0") then 16 else
    if leb b (byte "9") then b - byte "0" else
    if ltb b (byte "A") then 16 else
    if leb b (byte "F") then b - 55 else
    if ltb b (byte "a") then 16 else
    if leb b (byte "f") then b - 87 else
    16

-- the digit that a byte is, if it is one
abbrev pub digit_in : ℕ → Option ℕ
digit_in b = if ltb (digit_of b) 16 then Some (digit_of b) else None

-- the byte at a position, or 256 past the end
abbrev pub byte_of : List ℕ → ℕ → ℕ
byte_of s at = get_or s at 256

-- past the blanks and tabs that the list begins with
unfoldable pub skip_of : ℕ → List ℕ → ℕ
skip_of at [] = at
skip_of at (b ∷ bs) =
    let r = skip_of (at + 1) bs in
    if eqb b (byte " ") then r else if eqb b (byte "\t") then r else at

abbrev pub skip_at : List ℕ → ℕ → ℕ
skip_at s at = skip_of at (drop at s)

-- the line ends here, or a comment starts
unfoldable pub ends_at : List ℕ → ℕ → Bool
ends_at s at = leb (length s) at or eqb (byte_of s at) (byte "#")

-- a `"` opens a quote or closes the open one
unfoldable pub flipped : Bool → ℕ → Bool
flipped q b = if eqb b (byte "\"") then (if q then false else true) else q

-- a byte that may only stand in quotes or a comment: from 80 up, and CR
unfoldable pub foreign : ℕ → Bool
foreign b = eqb b (byte "\r") or leb 128 b

-- where a line's content ends: at the first `#` outside quotes, or with the line. None: a foreign byte stands outside
-- quotes and comment
unfoldable pub content_end : Bool → ℕ → List ℕ → Option ℕ
content_end q at [] = Some at
content_end q at (b ∷ bs) =
    let r = content_end (flipped q b) (at + 1) bs in
    if q then r else if eqb b (byte "#") then Some at else if foreign b then None else r

-- where the next `"` stands, or the end
unfoldable pub quote_end : ℕ → List ℕ → ℕ
quote_end at [] = at
quote_end at (b ∷ bs) = let r = quote_end (at + 1) bs in if eqb b (byte "\"") then at else r

-- what is read where a test holds, and nowhere else
abbrev pub only_if : Bool → Option (ℕ × ℕ) → Option (ℕ × ℕ)
only_if test n = if test then n else None

-- one or two hexadecimal digits
unfoldable pub number_at : List ℕ → ℕ → Option (ℕ × ℕ)
number_at s at =
    only_if (ltb (digit_of (byte_of s at)) 16)
    (if ltb (digit_of (byte_of s (at + 1))) 16
    then Some (digit_of (byte_of s at) * 16 + digit_of (byte_of s (at + 1)), at + 2)
    else Some (digit_of (byte_of s at), at + 1))

-- `\xhh`
unfoldable pub byte_at : List ℕ → ℕ → Option (ℕ × ℕ)
byte_at s at =
    only_if (eqb (byte_of s at) (byte "\\"))
    (only_if (eqb (byte_of s (at + 1)) (byte "x"))
    (only_if (ltb (digit_of (byte_of s (at + 2))) 16)
    (only_if (ltb (digit_of (byte_of s (at + 3))) 16)
    (Some (digit_of (byte_of s (at + 2)) * 16 + digit_of (byte_of s (at + 3)), at + 4)))))

-- 1 to 6 hexadecimal digits and `>`; n digits so far, v their value
unfoldable pub point_digits : ℕ → ℕ → ℕ → List ℕ → Option (ℕ × ℕ)
point_digits n v at [] = None
point_digits n v at (b ∷ bs) =
    let r = point_digits (n + 1) (v * 16 + digit_of b) (at + 1) bs in
    if eqb b (byte ">") then (if eqb n 0 then None else Some (v, at + 1)) else
    if eqb (digit_of b) 16 then None else
    if eqb n 6 then None else
    r

-- `<U` digits `>`
unfoldable pub unicode_at : List ℕ → ℕ → Option (ℕ × ℕ)
unicode_at s at =
    only_if (eqb (byte_of s at) (byte "<"))
    (only_if (eqb (byte_of s (at + 1)) (byte "U"))
    (point_digits 0 0 (at + 2) (drop (at + 2) s)))

-- a `+` is the next token
abbrev pub plus_at : List ℕ → ℕ → Bool
plus_at s q = eqb (byte_of s (skip_at s q)) (byte "+")

-- where the token after q and an optional `+` starts
unfoldable pub join_at : List ℕ → ℕ → ℕ
join_at s q = if plus_at s q then skip_at s (skip_at s q + 1) else skip_at s q

-- a run of bytes: the bytes, whether a `+` joined two, and the place after the last
pub data ByteSeries : Type 0 where
  series : List ℕ → Bool → ℕ → ByteSeries
  broken : ByteSeries

abbrev pub with_byte : ℕ → Bool → ByteSeries → ByteSeries
with_byte v p broken = broken
with_byte v p (series l m e) = series (v ∷ l) (p or m) e

-- further bytes from q on, the first of which is given; a `+` without one is malformed. f bounds their number
unfoldable pub bytes_more : ℕ → List ℕ → ℕ → Option (ℕ × ℕ) → ByteSeries
bytes_more zero s q None = if plus_at s q then broken else series [] false q
bytes_more zero s q (Some (v, e)) = broken
bytes_more (suc f) s q None = if plus_at s q then broken else series [] false q
bytes_more (suc f) s q (Some (v, e)) = with_byte v (plus_at s q) (bytes_more f s e (byte_at s (join_at s e)))

abbrev pub bytes_from : List ℕ → Option (ℕ × ℕ) → ByteSeries
bytes_from s None = broken
bytes_from s (Some (v, e)) = with_byte v false (bytes_more (length s) s e (byte_at s (join_at s e)))

-- one or more bytes
unfoldable pub bytes_at : List ℕ → ℕ → ByteSeries
bytes_at s at = bytes_from s (byte_at s (skip_at s at))

-- `CHARMAP` alone
unfoldable pub is_charmap : List ℕ → ℕ → Bool
is_charmap s p = begins (ascii "CHARMAP") (drop p s) and ends_at s (skip_at s (p + 7))
