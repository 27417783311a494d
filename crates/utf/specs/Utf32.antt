-- UTF-32 (document 02, request 1; source document 002), over the byte order: a code point is four bytes, and the order
-- only turns them round.
-- Contents: a number and its bytes; the two orders; a code point encoded (`encode_in`); one sequence decoded
-- (`decode_in`); the byte order mark (`mark_in`, `mark_at`).
-- Cases: proofs/Vectors.antt
use Rattle.std.specs.Prelude.{if◌then◌else◌, ℕ, zero, suc, ◌+◌, ◌*◌, ◌/◌, ◌%◌, ◌^◌, List}
use Rattle.std.specs.Prelude.{[], ◌∷◌, reverse, Bool, false, ltb, eqb, length, take, Option, Some, None}
use Rattle.utf.specs.Utf8.{is_scalar}
use Rattle.utf.specs.declared.utf8.Stop.TheVariants as stop
use Rattle.utf.specs.declared.utf8.Sequence.{Sequence}
use Rattle.utf.specs.declared.utf8.Sequence.TheVariants as sequence
use Rattle.utf.specs.declared.utf32.ByteOrder.{ByteOrder}
use Rattle.utf.specs.declared.utf32.ByteOrder.TheVariants.{Big, Little}

-- each byte put under v
abbrev pub number_from : ℕ → List ℕ → ℕ
number_from v [] = v
number_from v (b ∷ s) = number_from (v * 256 + b) s

-- the number of some bytes, the highest first
abbrev pub number_of : List ℕ → ℕ
number_of s = number_from 0 s

-- the k lowest bytes of a number, the highest first
abbrev pub low_bytes : ℕ → ℕ → List ℕ
low_bytes zero c = []
low_bytes (suc k) c = c / 2 ^ (8 * k) % 256 ∷ low_bytes k c

-- bytes with the highest first put into an order, and back
abbrev pub in_order : ByteOrder → List ℕ → List ℕ
in_order Big s = s
in_order Little s = reverse s

-- a code point's four bytes
unfoldable pub encode_in : ByteOrder → ℕ → List ℕ
encode_in order c = in_order order (low_bytes 4 c)

-- the number of the first four bytes
abbrev pub word_in : ByteOrder → List ℕ → ℕ
word_in order s = number_of (in_order order (take 4 s))

-- the sequence at the front of a list of bytes: surrogates and numbers above 10FFFF are illegal
unfoldable pub decode_in : ByteOrder → List ℕ → Sequence
decode_in order s =
    if ltb (length s) 4 then sequence.Stopped stop.CutShort else
    if is_scalar (word_in order s) then sequence.Scalar (word_in order s) 4 else
    sequence.Stopped (stop.Illegal 4)

-- the byte order mark: U+FEFF
abbrev pub mark_in : ByteOrder → List ℕ
mark_in order = encode_in order 0xfeff

abbrev pub is_mark : Sequence → Bool
is_mark (sequence.Scalar c n) = eqb c 0xfeff
is_mark (sequence.Stopped w) = false

-- the mark at the front of a text
unfoldable pub mark_at : List ℕ → Option ByteOrder
mark_at s =
    if is_mark (decode_in Big s) then Some Big else
    if is_mark (decode_in Little s) then Some Little else
    None
