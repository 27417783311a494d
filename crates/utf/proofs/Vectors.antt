-- Worked examples under one statement, by computing; the program utf_vectors runs the whole list.
use mathlib.Core.Path.{◌≡◌, refl}
use Prim.Native.Nat.{ℕ}
use mathlib.Core.List.{List, [], ◌∷◌}
use mathlib.Core.Bool.{Bool, true, false}
use Rattle.utf.specs.Utf8.{is_scalar, decode_one, encode_of}
use Rattle.utf.specs.Utf32.{encode_in, decode_in, mark_in, mark_at}
use Rattle.utf.specs.WellFormed.{well_formed}
use Rattle.utf.specs.declared.utf8.Sequence.{Sequence}
use Rattle.utf.specs.declared.utf8.Sequence.TheVariants.{Scalar, Stopped}
use Rattle.utf.specs.declared.utf8.Stop.TheVariants.{CutShort, Illegal}
use Rattle.utf.specs.declared.utf32.ByteOrder.{ByteOrder}
use Rattle.utf.specs.declared.utf32.ByteOrder.TheVariants.{Big, Little}
use Rattle.std.specs.Prelude.{Some, None}

-- bytes, whether they are one well-formed sequence, and what decoding them gives
record Row : Type 0 where
  bytes : List ℕ
  whole : Bool
  answer : Sequence

AllRight : List Row → Type 0
AllRight [] = Unit {0}
AllRight (r ∷ rs) = ((well_formed r.bytes ≡ r.whole) × (decode_one r.bytes ≡ r.answer)) × AllRight rs

table : List Row
table =
    record { bytes = 0x41 ∷ []; whole = true; answer = Scalar 0x41 1 }
    ∷ record { bytes = 0xce ∷ 0x91 ∷ []; whole = true; answer = Scalar 0x391 2 }
    ∷ record { bytes = 0xe2 ∷ 0x89 ∷ 0xa2 ∷ []; whole = true; answer = Scalar 0x2262 3 }
    ∷ record { bytes = 0xf4 ∷ 0x8f ∷ 0xbf ∷ 0xbf ∷ []; whole = true; answer = Scalar 0x10ffff 4 }
    ∷ record { bytes = 0x41 ∷ 0xe2 ∷ []; whole = false; answer = Scalar 0x41 1 }
    ∷ record { bytes = []; whole = false; answer = Stopped CutShort }
    ∷ record { bytes = 0xe2 ∷ 0x89 ∷ []; whole = false; answer = Stopped CutShort }
    ∷ record { bytes = 0xed ∷ 0xa0 ∷ []; whole = false; answer = Stopped (Illegal 2) }
    ∷ record { bytes = 0xc0 ∷ 0xad ∷ []; whole = false; answer = Stopped (Illegal 1) }
    ∷ record { bytes = 0xed ∷ 0xa0 ∷ 0x80 ∷ []; whole = false; answer = Stopped (Illegal 2) }
    ∷ record { bytes = 0xf4 ∷ 0x90 ∷ 0x80 ∷ 0x80 ∷ []; whole = false; answer = Stopped (Illegal 2) }
    ∷ record { bytes = 0xe2 ∷ 0x89 ∷ 0x41 ∷ []; whole = false; answer = Stopped (Illegal 3) }
    ∷ []

all_right : AllRight table
unfolding AllRight table decode_one well_formed
all_right =
    ((refl, refl), ((refl, refl), ((refl, refl), ((refl, refl), ((refl, refl), ((refl, refl), ((refl, refl), ((refl, refl), ((refl, refl), ((refl, refl), ((refl, refl), ((refl, refl), tt))))))))))))

encodes : (encode_of 0x7f ≡ 0x7f ∷ []) × (encode_of 0x391 ≡ 0xce ∷ 0x91 ∷ []) × (encode_of 0x2262 ≡ 0xe2 ∷ 0x89 ∷ 0xa2 ∷ []) × (encode_of 0x10ffff ≡ 0xf4 ∷ 0x8f ∷ 0xbf ∷ 0xbf ∷ [])
unfolding encode_of
encodes = (refl, refl, refl, refl)

-- ## UTF-32

-- four bytes or fewer in an order, and what decoding them gives
record Word : Type 0 where
  order : ByteOrder
  bytes : List ℕ
  answer : Sequence

AllWords : List Word → Type 0
AllWords [] = Unit {0}
AllWords (r ∷ rs) = (decode_in r.order r.bytes ≡ r.answer) × AllWords rs

words : List Word
words =
    record { order = Big; bytes = 0x00 ∷ 0x00 ∷ 0x22 ∷ 0x12 ∷ []; answer = Scalar 0x2212 4 }
    ∷ record { order = Little; bytes = 0x12 ∷ 0x22 ∷ 0x00 ∷ 0x00 ∷ 0x33 ∷ []; answer = Scalar 0x2212 4 }
    ∷ record { order = Big; bytes = 0x00 ∷ 0x10 ∷ 0xff ∷ 0xff ∷ []; answer = Scalar 0x10ffff 4 }
    ∷ record { order = Big; bytes = 0x00 ∷ 0x11 ∷ 0x00 ∷ 0x00 ∷ []; answer = Stopped (Illegal 4) }
    ∷ record { order = Big; bytes = 0x00 ∷ 0x00 ∷ 0xd8 ∷ 0x00 ∷ []; answer = Stopped (Illegal 4) }
    ∷ record { order = Little; bytes = 0xff ∷ 0xdf ∷ 0x00 ∷ 0x00 ∷ []; answer = Stopped (Illegal 4) }
    ∷ record { order = Big; bytes = 0xff ∷ 0xfe ∷ 0x00 ∷ 0x00 ∷ []; answer = Stopped (Illegal 4) }
    ∷ record { order = Big; bytes = 0x00 ∷ 0x00 ∷ 0xfe ∷ 0xff ∷ []; answer = Scalar 0xfeff 4 }
    ∷ record { order = Little; bytes = 0xff ∷ 0xfe ∷ 0x00 ∷ []; answer = Stopped CutShort }
    ∷ record { order = Big; bytes = []; answer = Stopped CutShort }
    ∷ []

all_words : AllWords words
unfolding AllWords words decode_in is_scalar
all_words = (refl, (refl, (refl, (refl, (refl, (refl, (refl, (refl, (refl, (refl, tt))))))))))

-- the mark in either order, and what a text of plain UTF-32 may begin with
marks : (mark_in Big ≡ 0x00 ∷ 0x00 ∷ 0xfe ∷ 0xff ∷ []) × (mark_in Little ≡ 0xff ∷ 0xfe ∷ 0x00 ∷ 0x00 ∷ [])
    × (mark_at (0x00 ∷ 0x00 ∷ 0xfe ∷ 0xff ∷ []) ≡ Some Big) × (mark_at (0xff ∷ 0xfe ∷ 0x00 ∷ 0x00 ∷ 0x33 ∷ []) ≡ Some Little)
    × (mark_at (0x00 ∷ 0x00 ∷ 0x00 ∷ 0x33 ∷ []) ≡ None) × (mark_at (0xff ∷ 0xfe ∷ 0x00 ∷ []) ≡ None)
unfolding encode_in decode_in mark_at is_scalar
marks = (refl, refl, refl, refl, refl, refl)
