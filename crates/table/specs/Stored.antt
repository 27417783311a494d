-- A mapping as it is stored, two numbers (docs/MEMORY.md). `bits` holds the code's bytes, first byte on top, unused
-- places zero; `info` is code point + 2^21 * rank + 2^24 * (length - 1).
-- The rank is 0 for `|0`, 1 for `|3`, 2 for `|1`, 4 for `|2`: of one code the lines that are read come first, then
-- those that only write. 3 is free, for `|4`.
-- Contents: a stored mapping and its parts; a line as it is stored, and back; which stored mappings are of the form;
-- the two orders; T9 on stored lines.
use Rattle.std.specs.Prelude.{if◌then◌else◌, ℕ, ◌+◌, ◌-◌, ◌*◌, ◌/◌, ◌%◌, Bool, true, false, length, leb, eqb}
use Rattle.lists.specs.Pick.{◌and◌, ◌or◌}
use Rattle.lists.specs.Order.{by_key}
use Rattle.table.specs.Codes.{packed, unpacked, first_byte_unit}
use Rattle.table.specs.Meaning.{Line}

pub record Stored : Type 0 where
  pub bits : ℕ
  pub info : ℕ

abbrev pub bits_of : Stored → ℕ
bits_of e = e.bits

abbrev pub info_of : Stored → ℕ
info_of e = e.info

abbrev pub mk : ℕ → ℕ → Stored
mk b i = record { bits = b; info = i }

-- 2^21: the unit of the rank in `info`; a code point is below it
abbrev pub rank_unit : ℕ
rank_unit = 2097152

-- 2^24: the unit of the length minus 1 in `info`
abbrev pub length_unit : ℕ
length_unit = 16777216

abbrev pub point_in : ℕ → ℕ
point_in i = i % rank_unit

abbrev pub rank_in : ℕ → ℕ
rank_in i = i / rank_unit % 8

-- how many bytes follow the code's first
abbrev pub extra_in : ℕ → ℕ
extra_in i = i / length_unit

abbrev pub rank_of : ℕ → ℕ
rank_of indicator =
    if eqb indicator 0 then 0 else if eqb indicator 3 then 1 else if eqb indicator 1 then 2 else 4

abbrev pub indicator_in : ℕ → ℕ
indicator_in rank = if eqb rank 0 then 0 else if eqb rank 1 then 3 else if eqb rank 2 then 1 else 2

-- a line as it is stored, and back
unfoldable pub stored_of : Line → Stored
stored_of l = mk (packed l.code) (l.point + rank_unit * rank_of l.indicator + length_unit * (length l.code - 1))

unfoldable pub line_in : Stored → Line
line_in e =
    record {
      point = point_in e.info;
      code = unpacked (extra_in e.info + 1) e.bits;
      indicator = indicator_in (rank_in e.info);
    }

-- 2^16: the unit of a code's second byte in its 32 bits
abbrev pub second_byte_unit : ℕ
second_byte_unit = 65536

-- len is 1 to 4, and the bytes after the first len are zero
unfoldable pub padded : ℕ → ℕ → Bool
padded len bits =
    if eqb len 1 then eqb (bits % first_byte_unit) 0 else
    if eqb len 2 then eqb (bits % second_byte_unit) 0 else
    if eqb len 3 then eqb (bits % 256) 0 else
    eqb len 4

-- the rank of a line: 0, 1, 2 or 4
abbrev pub is_rank : ℕ → Bool
is_rank rank = leb rank 2 or eqb rank 4

-- the two numbers are a line: one of its ranks, a code of 1 to 4 bytes
unfoldable pub stored_ok : Stored → Bool
stored_ok e = is_rank (rank_in e.info) and padded (extra_in e.info + 1) e.bits

-- ranks 0 and 1 are read
abbrev pub stored_is_read : Stored → Bool
stored_is_read e = leb (rank_in e.info) 1

-- of the ranks that lines have, 1 alone (`|3`) is not written
abbrev pub stored_decides : Stored → Bool
stored_decides e = if eqb (rank_in e.info) 1 then false else true

-- the key of the second order: the code point, then lines that write before `|3` lines
unfoldable pub order_key_in : ℕ → ℕ
order_key_in i = if eqb (rank_in i) 1 then point_in i * 2 + 1 else point_in i * 2

abbrev pub order_key : Stored → ℕ
order_key e = order_key_in e.info

abbrev pub never : Stored → Stored → Bool
never a b = false

-- the first order: by code, then by the rest
unfoldable pub less : Stored → Stored → Bool
less a b = by_key bits_of (by_key info_of never) a b

-- the second order: by code point, then lines that write, then by code and the rest
unfoldable pub point_less : Stored → Stored → Bool
point_less a b = by_key order_key less a b

-- T9 on stored lines: both are read and share their bytes
unfoldable pub read_clash : Stored → Stored → Bool
read_clash a b =
    eqb a.bits b.bits and eqb (extra_in a.info) (extra_in b.info) and stored_is_read a and stored_is_read b

-- T9 on stored lines: both are written and share their code point
unfoldable pub write_clash : Stored → Stored → Bool
write_clash a b =
    eqb (point_in a.info) (point_in b.info) and stored_decides a and stored_decides b

-- what neighbours in either order are tested for
unfoldable pub read_next : Stored → Stored → Bool
read_next a b = less a b and (if read_clash a b then false else true)

unfoldable pub write_next : Stored → Stored → Bool
write_next a b = point_less a b and (if write_clash a b then false else true)
