-- The program's lines (document 01, 'Table K, and what it gives': `The program reads table.ucm ..`): what it writes,
-- and the frames that it reads.
-- Contents: bytes and numbers as digits; the lines written (`ok_line`, `refused_line`, `answer_line`, `finding_line`,
-- `closing_line`); a text put into an output slice; a frame's line read (`parsed`).
-- Cases: proofs/Cases.antt
use Rattle.std.specs.Prelude.{if◌then◌else◌, ◌≡◌, ℕ, zero, suc, ◌+◌, ◌-◌, ◌*◌, ◌/◌, ◌%◌, Bool, true}
use Rattle.std.specs.Prelude.{false, List, [], ◌∷◌, ◌++◌, length, ◌==◌, nat_eq, nat_lt, slice_index}
use Rattle.std.proofs.Math.Option.{Option, none, some}
use Rattle.lists.specs.Ascii.{ascii, byte}
use Rattle.lists.specs.Pick.{◌and◌}
use Rattle.lists.specs.Between.{between}
use Rattle.lists.specs.Place.{fits, placed}
use Rattle.std.specs.Prelude.{Option as Returned, Some, None}
use Rattle.table.specs.Text.{digit_of}

-- a number below 16 as a capital hexadecimal digit
abbrev pub hex_digit : ℕ → ℕ
hex_digit d = if nat_lt d 10 then byte "0" + d else byte "A" + (d - 10)

-- a byte as two hexadecimal digits
abbrev pub hex_byte : ℕ → List ℕ
hex_byte b = hex_digit (b / 16) ∷ hex_digit (b % 16) ∷ []

-- bytes as hexadecimal digits
unfoldable pub hex_bytes : List ℕ → List ℕ
hex_bytes [] = []
hex_bytes (b ∷ s) = hex_byte b ++ hex_bytes s

-- the same, with `-` for no bytes
unfoldable pub hex_of : List ℕ → List ℕ
hex_of [] = ascii "-"
hex_of (b ∷ s) = hex_bytes (b ∷ s)

-- the k lowest decimal digits of n
unfoldable pub digits_of : ℕ → ℕ → List ℕ
digits_of zero n = []
digits_of (suc k) n = digits_of k (n / 10) ++ (byte "0" + n % 10) ∷ []

-- how many decimal digits n has, none if it is zero; n steps are always enough
unfoldable pub more_digits : ℕ → ℕ → ℕ
more_digits zero zero = 0
more_digits zero (suc n) = 0
more_digits (suc steps) zero = 0
more_digits (suc steps) (suc n) = suc (more_digits steps (suc n / 10))

-- how many decimal digits n is written with: the last one, and the digits of n / 10
unfoldable pub decimal_count : ℕ → ℕ
decimal_count n = suc (more_digits n (n / 10))

-- a number in decimal
unfoldable pub decimal_of : ℕ → List ℕ
decimal_of n = digits_of (decimal_count n) n

-- a text and LF
unfoldable pub fixed_line : List ℕ → List ℕ
fixed_line text = text ++ ascii "\n"

-- `BAD FRAME`
abbrev pub bad_frame : List ℕ
bad_frame = ascii "BAD FRAME"

-- two numbers, each after a text
unfoldable pub two_numbers : List ℕ → ℕ → List ℕ → ℕ → List ℕ
two_numbers first n second m = first ++ decimal_of n ++ (second ++ decimal_of m) ++ ascii "\n"

-- `TABLE OK` and the count of mappings
unfoldable pub ok_line : ℕ → List ℕ
ok_line count = ascii "TABLE OK " ++ decimal_of count ++ ascii "\n"

-- `TABLE REFUSED`, the number and the line
unfoldable pub refused_line : ℕ → ℕ → List ℕ
refused_line number line = two_numbers (ascii "TABLE REFUSED ") number (ascii " ") line

-- a frame's line: number, bytes read, output
unfoldable pub answer_line : ℕ → ℕ → List ℕ → List ℕ
answer_line number read output =
    decimal_of number ++ (ascii " " ++ decimal_of read) ++ (ascii " " ++ hex_of output) ++ ascii "\n"

-- a finding of the audit: code and cause
unfoldable pub finding_line : List ℕ → ℕ → List ℕ
finding_line code cause = hex_of code ++ (ascii " " ++ decimal_of cause) ++ ascii "\n"

-- `LOOKED` and the count of codes looked at, `LISTED` and the count of findings
unfoldable pub closing_line : ℕ → ℕ → List ℕ
closing_line looked listed = two_numbers (ascii "LOOKED ") looked (ascii " LISTED ") listed

-- the answer of putting a text into old from at on: the place after it, or that it does not fit
unfoldable pub room_after : List ℕ → ℕ → List ℕ → Returned ℕ
room_after old at text = if fits old at text then Some (at + length text) else None

-- old after that
unfoldable pub put_into : List ℕ → ℕ → List ℕ → List ℕ
put_into old at text = if fits old at text then placed old at text else old

-- both: putting a text into old from at on answers room and leaves new
abbrev pub Puts : List ℕ → ℕ → List ℕ → Returned ℕ → List ℕ → Type 0
Puts old at text room new = (room ≡ room_after old at text) × (new ≡ put_into old at text)

-- how many bytes that put: none where it does not fit
abbrev pub count_put : Returned ℕ → ℕ
count_put (Some n) = n
count_put None = 0

-- how many bytes a text puts at the front of old
unfoldable pub put_count : List ℕ → List ℕ → ℕ
put_count old text = count_put (room_after old 0 text)

-- whether each byte is a hexadecimal digit
unfoldable pub all_digits : List ℕ → Bool
all_digits [] = true
all_digits (b ∷ s) = let r = all_digits s in if digit_of b == 16 then false else r

-- the bytes of hexadecimal digits, two to a byte
unfoldable pub bytes_of_hex : List ℕ → List ℕ
bytes_of_hex [] = []
bytes_of_hex (a ∷ []) = []
bytes_of_hex (a ∷ b ∷ s) = (digit_of a * 16 + digit_of b) ∷ bytes_of_hex s

-- `-` alone
unfoldable pub is_dash : List ℕ → Bool
is_dash line = nat_eq (length line) 1 and nat_eq (slice_index line 0) (byte "-")

-- the hexadecimal digits of the longest frame, which has 4,096 bytes
abbrev pub frame_digits : ℕ
frame_digits = 8192

-- an even number of hexadecimal digits, for 1 to 4,096 bytes
unfoldable pub is_hex : List ℕ → Bool
is_hex line = between 2 frame_digits (length line) and nat_eq (length line % 2) 0 and all_digits line

-- the bytes of a frame's line, or none if it is malformed
unfoldable pub parsed : List ℕ → Option (List ℕ)
parsed line = if is_dash line then some [] else if is_hex line then some (bytes_of_hex line) else none

-- the answer of reading a frame into old: how many bytes it has; a frame that does not fit is bad too
unfoldable pub parsed_answer : List ℕ → Option (List ℕ) → Returned ℕ
parsed_answer old none = None
parsed_answer old (some s) = if fits old 0 s then Some (length s) else None

-- old after that: the frame's bytes at its front, or as it was
unfoldable pub parsed_into : List ℕ → Option (List ℕ) → List ℕ
parsed_into old none = old
parsed_into old (some s) = put_into old 0 s
