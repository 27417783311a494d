-- Calls in pieces, computed with table K (81 leads on; 81 7C is U+2212, 33 is itself, subchar is 3F).
use mathlib.Core.Path.{◌≡◌, refl}
use Prim.Native.Nat.{ℕ}
use mathlib.Core.Bool.{true, false}
use mathlib.Core.List.{List, [], ◌∷◌}
use mathlib.Core.Option.{none, some}
use Rattle.lists.specs.Order.{first_of}
use Rattle.lists.specs.Strings.{same}
use Rattle.utf.specs.Utf8.{decode_one, encode_of, is_scalar}
use Rattle.utf.specs.Utf32.{encode_in, decode_in, mark_at}
use Rattle.utf.specs.declared.utf8.Stop.TheVariants as stopped
use Rattle.utf.specs.declared.scheme.Scheme.TheVariants as scheme
use Rattle.table.specs.States.{cut_from}
use Rattle.table.specs.Meaning.{steps_of, flat, steps_on}
use Rattle.table.specs.TableK.{table_k}
use Rattle.convert.specs.Step.{strict, with_skip, to_sequence, to_plain, to_step, writes, from_plain, from_step}
use Rattle.convert.specs.Pieces.{Carry, fresh, idle, piece_on, step_in, piece_behind, piece_in, close_in, begun}
use Rattle.convert.specs.declared.RunEnd.TheVariants.{AllRead, OutputFull, Stopped}
use Rattle.convert.specs.declared.Settings.{Settings}
use Rattle.convert.specs.declared.pieces.Way.TheVariants.{ToUnicode, FromUnicode}

abbrev held : List ℕ → Carry
held s = record { bytes = s; state = 0; stands = none }

abbrev skips : Settings
skips = with_skip true (strict false)

-- towards UTF-8: 81 is kept; with 7C 33 it is U+2212 and 3, or, with space for two bytes, a 50 that reads nothing; with 2D
-- it is illegal, of length 1, and that stands; a close with it is 51
to_cases : (piece_in ToUnicode scheme.Utf8 table_k (strict false) fresh (0x81 ∷ []) 9
    ≡ record { end = AllRead; read = 1; bytes = []; carry = held (0x81 ∷ []) })
    × (piece_in ToUnicode scheme.Utf8 table_k (strict false) (held (0x81 ∷ [])) (0x7c ∷ 0x33 ∷ []) 9
    ≡ record { end = AllRead; read = 2; bytes = 0xe2 ∷ 0x88 ∷ 0x92 ∷ 0x33 ∷ []; carry = fresh })
    × (piece_in ToUnicode scheme.Utf8 table_k (strict false) (held (0x81 ∷ [])) (0x7c ∷ 0x33 ∷ []) 2
    ≡ idle OutputFull (held (0x81 ∷ [])))
    × (piece_in ToUnicode scheme.Utf8 table_k (strict false) (held (0x81 ∷ [])) (0x2d ∷ []) 9
    ≡ idle (Stopped (stopped.Illegal 1)) (record { bytes = 0x81 ∷ []; state = 0; stands = some (stopped.Illegal 1) }))
    × (close_in ToUnicode scheme.Utf8 (held (0x81 ∷ [])) 0
    ≡ idle (Stopped stopped.CutShort) (record { bytes = 0x81 ∷ []; state = 0; stands = some stopped.CutShort }))
unfolding table_k first_of same is_scalar decode_one encode_of steps_on cut_from flat to_sequence to_plain to_step step_in piece_on piece_behind close_in
to_cases = (refl, refl, refl, refl, refl)

-- from UTF-8 with skipping: E2 88 is broken by 33; with space for one byte E2 is skipped and 88 stays kept, nothing of the
-- piece read; it is skipped by the next call, even with an empty piece
from-cases : (piece_in FromUnicode scheme.Utf8 table_k skips (held (0xe2 ∷ 0x88 ∷ [])) (0x33 ∷ []) 1
    ≡ record { end = OutputFull; read = 0; bytes = 0x3f ∷ []; carry = held (0x88 ∷ []) })
    × (piece_in FromUnicode scheme.Utf8 table_k skips (held (0x88 ∷ [])) [] 1
    ≡ record { end = AllRead; read = 0; bytes = 0x3f ∷ []; carry = fresh })
unfolding table_k is_scalar decode_one encode_of writes from_plain from_step step_in piece_on piece_behind
from-cases = (refl, refl)

-- plain UTF-32: written, the mark comes first, or 50, also at the close; read, three bytes of a mark wait, and the fourth
-- chooses the order
plain-cases : (close_in ToUnicode scheme.Utf32 fresh 3 ≡ idle OutputFull fresh)
    × (close_in ToUnicode scheme.Utf32 fresh 4 ≡ record { end = AllRead; read = 0; bytes = 0 ∷ 0 ∷ 0xfe ∷ 0xff ∷ []; carry = fresh })
    × (piece_in FromUnicode scheme.Utf32 table_k (strict false) fresh (0xff ∷ 0xfe ∷ 0 ∷ []) 9
    ≡ record { end = AllRead; read = 3; bytes = []; carry = held (0xff ∷ 0xfe ∷ 0 ∷ []) })
    × (piece_in FromUnicode scheme.Utf32 table_k (strict false) (held (0xff ∷ 0xfe ∷ 0 ∷ [])) (0 ∷ 0x33 ∷ 0 ∷ 0 ∷ 0 ∷ []) 9
    ≡ record { end = AllRead; read = 5; bytes = 0x33 ∷ []; carry = record { bytes = []; state = 2; stands = none } })
unfolding table_k first_of is_scalar encode_in decode_in mark_at writes from_plain from_step step_in piece_on piece_behind close_in
plain-cases = (refl, refl, refl, refl)

-- what may be kept: 81, not 33; E2 88; trail bytes only where skipping is on, and no more than two
kept-cases : (begun ToUnicode scheme.Utf8 (steps_of table_k) false (0x81 ∷ []) ≡ true)
    × (begun ToUnicode scheme.Utf8 (steps_of table_k) false (0x33 ∷ []) ≡ false)
    × (begun FromUnicode scheme.Utf8 (steps_of table_k) false (0xe2 ∷ 0x88 ∷ []) ≡ true)
    × (begun FromUnicode scheme.Utf8 (steps_of table_k) false (0x88 ∷ []) ≡ false)
    × (begun FromUnicode scheme.Utf8 (steps_of table_k) true (0x88 ∷ 0x92 ∷ []) ≡ true)
    × (begun FromUnicode scheme.Utf8 (steps_of table_k) true (0x88 ∷ 0x92 ∷ 0x92 ∷ []) ≡ false)
    × (begun FromUnicode scheme.Utf32Le (steps_of table_k) false (0xff ∷ 0xff ∷ 0xff ∷ []) ≡ true)
unfolding table_k decode_one decode_in steps_on cut_from flat
kept-cases = (refl, refl, refl, refl, refl, refl, refl)
