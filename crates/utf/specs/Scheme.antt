-- The Unicode side of a conversion, and the schemes: UTF-8 and three of UTF-32 (document 02, request 1).
use Rattle.std.specs.Prelude.{ℕ, List, Bool, eqb, length}
use Rattle.lists.specs.Pick.{◌and◌}
use Rattle.utf.specs.Utf8.{decode_one, encode_of, is_scalar}
use Rattle.utf.specs.WellFormed.{well_formed}
use Rattle.utf.specs.Utf32.{word_in, encode_in, decode_in}
use Rattle.utf.specs.declared.utf8.Sequence.{Sequence}
use Rattle.utf.specs.declared.utf32.ByteOrder.{ByteOrder}
use Rattle.utf.specs.declared.utf32.ByteOrder.TheVariants.{Big, Little}
use Rattle.utf.specs.declared.scheme.Scheme.{Scheme}
use Rattle.utf.specs.declared.scheme.Scheme.TheVariants as scheme

-- how text is held: one code point from the front of a list, a code point as a list, the length of a code unit
pub record Side : Type 0 where
  pub decode : List ℕ → Sequence
  pub encode : ℕ → List ℕ
  pub unit : ℕ

abbrev pub utf8 : Side
utf8 = record { decode = decode_one; encode = encode_of; unit = 1 }

abbrev pub utf32 : ByteOrder → Side
utf32 order = record { decode = decode_in order; encode = encode_in order; unit = 4 }

-- how a scheme holds its text; plain UTF-32 without a mark is big-endian
abbrev pub side_of : Scheme → Side
side_of scheme.Utf8 = utf8
side_of scheme.Utf32Be = utf32 Big
side_of scheme.Utf32Le = utf32 Little
side_of scheme.Utf32 = utf32 Big

-- UTF-32 in a byte order, with no mark
abbrev pub ordered_by : ByteOrder → Scheme
ordered_by Big = scheme.Utf32Be
ordered_by Little = scheme.Utf32Le

-- one whole well-formed sequence of UTF-32: four bytes of a scalar value
unfoldable pub formed_in : ByteOrder → List ℕ → Bool
formed_in order q = eqb (length q) 4 and is_scalar (word_in order q)

-- and of a scheme, as it is written: UTF-8 by RFC 3629's table, plain UTF-32 big-endian
abbrev pub well_formed_in : Scheme → List ℕ → Bool
well_formed_in scheme.Utf8 q = well_formed q
well_formed_in scheme.Utf32Be q = formed_in Big q
well_formed_in scheme.Utf32Le q = formed_in Little q
well_formed_in scheme.Utf32 q = formed_in Big q
