-- Document 01's worked example, line by line, and lines of every form, by computing.
use Rattle.std.proofs.Common.{◌≡◌, ℕ, List, [], ◌∷◌, ◌++◌, refl}
use mathlib.Core.Option.{none, some}
use Rattle.lists.specs.Ascii.{ascii}
use Rattle.lists.specs.Order.{prefix_length}
use Rattle.frames.specs.Lines.{hex_bytes, hex_of, digits_of, more_digits, decimal_count, decimal_of, two_numbers, ok_line, refused_line, answer_line, finding_line, closing_line, all_digits, bytes_of_hex, is_dash, is_hex, parsed}
use Rattle.frames.specs.Stream.{InputLine, whole, too_long, input_lines, cut_lines, piece_step, kept_in}
use Rattle.lists.specs.Strings.{onto}
use Rattle.frames.specs.Report.{lines_report, reporting_from}
use Rattle.frames.specs.loops.Inputs.{calls_on, in_pieces, all_text}
use Rattle.frames.specs.loops.Inner.{feed, feed_all}
use Rattle.table.specs.Text.{digit_of}

-- table K with the frame 817C33: `TABLE OK 6`, `0 3 E2889233`, `3F 2`, `817D 3`, `8180 1`, `LOOKED 7 LISTED 3`
pub table-k : (ok_line 6 ≡ ascii "TABLE OK 6\n")
    × (answer_line 0 3 (0xe2 ∷ 0x88 ∷ 0x92 ∷ 0x33 ∷ []) ≡ ascii "0 3 E2889233\n")
    × (finding_line (0x3f ∷ []) 2 ≡ ascii "3F 2\n")
    × (finding_line (0x81 ∷ 0x7d ∷ []) 3 ≡ ascii "817D 3\n")
    × (finding_line (0x81 ∷ 0x80 ∷ []) 1 ≡ ascii "8180 1\n")
    × (closing_line 7 3 ≡ ascii "LOOKED 7 LISTED 3\n")
unfolding hex_bytes hex_of digits_of more_digits decimal_count decimal_of two_numbers ok_line answer_line finding_line closing_line
table-k = (refl, refl, refl, refl, refl, refl)

-- `TABLE REFUSED 27 1`, and numbers of several digits
pub numbers : (refused_line 27 1 ≡ ascii "TABLE REFUSED 27 1\n")
    × (decimal_of 10 ≡ ascii "10")
    × (decimal_of 4096 ≡ ascii "4096")
    × (decimal_count 18446744073709551615 ≡ 20)
    × (answer_line 52 0 [] ≡ ascii "52 0 -\n")
unfolding hex_of digits_of more_digits decimal_count decimal_of two_numbers refused_line answer_line
numbers = (refl, refl, refl, refl, refl)

-- lines of frames: `817C33`, `81 7c` in small letters, `-`; no digits, an odd number of them, a blank, a CR
pub frames : (parsed (ascii "817C33") ≡ some (0x81 ∷ 0x7c ∷ 0x33 ∷ []))
    × (parsed (ascii "817c") ≡ some (0x81 ∷ 0x7c ∷ []))
    × (parsed (ascii "-") ≡ some [])
    × (parsed [] ≡ none)
    × (parsed (ascii "817") ≡ none)
    × (parsed (ascii "81 7") ≡ none)
    × (parsed (ascii "81\r") ≡ none)
    × (parsed (ascii "--") ≡ none)
unfolding digit_of all_digits bytes_of_hex is_dash is_hex parsed
frames = (refl, refl, refl, refl, refl, refl, refl, refl)

-- with room for two bytes: a line, an empty line, one that is too long, and one without LF; whole and in pieces
pub streams : (cut_lines 2 (ascii "AB\n\nABC\nD") ≡ whole (ascii "AB") ∷ whole [] ∷ too_long ∷ whole (ascii "D") ∷ [])
    × (feed_all 2 (whole []) ((ascii "A") ∷ ascii "B\n\nAB" ∷ [] ∷ ascii "C\nD" ∷ []) ≡ whole (ascii "AB") ∷ whole [] ∷ too_long ∷ whole (ascii "D") ∷ [])
    × (cut_lines 2 [] ≡ [])
    × (cut_lines 2 (ascii "A\n") ≡ whole (ascii "A") ∷ [])
unfolding onto input_lines feed feed_all
streams = (refl, refl, refl, refl)

-- a line's own bytes and LF as its report, `!` and LF where it is too long
abbrev echo : InputLine → List ℕ
echo (whole s) = s ++ 10 ∷ []
echo too_long = ascii "!\n"

-- `AB`, `CDE`, `F`, with room for two bytes in memory: whole in one call, and in pieces where a report has no room in the first call
pub calls : (all_text echo (0 ∷ 0 ∷ []) (record { bytes = ascii "AB\nCDE\nF"; rooms = 9 ∷ [] } ∷ []) ≡ ascii "AB\n!\nF\n")
    × (in_pieces echo (0 ∷ 0 ∷ []) (whole []) (record { bytes = ascii "AB\nC"; rooms = 2 ∷ 3 ∷ [] } ∷ record { bytes = ascii "DE\nF"; rooms = 2 ∷ [] } ∷ [])
    ≡ record { text = ascii "AB\n!\n"; held = whole (ascii "F"); memory = ascii "FB"; unread = [] })
unfolding prefix_length piece_step kept_in lines_report reporting_from calls_on in_pieces
calls = (refl, refl)
