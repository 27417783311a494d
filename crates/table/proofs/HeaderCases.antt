-- Lines before CHARMAP, computed: those of table K, and hard ones.
use Rattle.table.specs.declared.value.Class.TheVariants.{Mbcs}
use Rattle.std.specs.Prelude.{Some, None}
use Rattle.table.specs.Header.{ReadLine}
use mathlib.Core.Path.{◌≡◌, refl}
use mathlib.Core.Bool.{true, false}
use mathlib.Core.List.{List, [], ◌∷◌, ◌++◌, map}
use Prim.Native.Nat.{ℕ}
use lib.ListN.{get_or}
use Rattle.lists.specs.Ascii.{ascii}
use Rattle.table.specs.Cells.{Cell, illegal, ends, ends_any, leads}
use Rattle.table.specs.declared.header.HeaderLine.TheVariants.{Blank, Charmap, Known}
use Rattle.table.specs.Text.{digit_of, skip_of, ends_at, flipped, foreign, content_end, quote_end, number_at, byte_at, join_at, bytes_more, bytes_at, is_charmap}
use Rattle.lists.specs.Strings.{begins, same}
use Rattle.table.specs.Row.{to_at, next_at, letter_at, end_at, entry_sep, entry_at, entries_go, well_go, entries_at, well_at, unbuilt_entry, over_entry, meaning, overwritten, comma_at, open_at, entries_from, entries_of, row_of}
use Rattle.lists.specs.Place.{fill_range}
use Rattle.table.specs.Header.{key_byte, key_end, key_of, quoted_from, quoted_of, name_in, class_name, class_in, digit_in, min_in, max_in, sub_in, sub1_value, row_from, row_in, value_of, key_line, keyed_line, header_line_at, header_line_of}
use Rattle.lists.specs.Tests.{any_of}
use Rattle.table.specs.Codes.{packed}
use Rattle.table.specs.declared.value.Key.TheVariants.{CodeSetName, CurMin, CurMax, ConvClass, SubChar, SubChar1, State, Base, Other}
use Rattle.table.specs.declared.value.Value.TheVariants.{Any, Unbuilt, Name, Min, Max, Class, Sub, Sub1, Row}

abbrev texts : List (List ℕ)
texts =
    ascii "<code_set_name> \"kettle-1\"" ∷
    ascii "<mb_cur_min> 1" ∷
    ascii "<mb_cur_max> 2" ∷
    ascii "<uconv_class> \"MBCS\"" ∷
    ascii "<subchar> \\x3F" ∷
    ascii "<icu:state> 2d, 30, 33, 3f, 81:1" ∷
    ascii "<icu:state> 7c-7d, 80.u" ∷
    ascii "<uconv_class> \"MBCS" ∷
    ascii "<uconv_class> \"DBCS\"" ∷
    ascii "<subchar> \\x3F+\\x40" ∷
    ascii "<subchar1>\\x1a" ∷
    ascii "<icu:state> initial, 30 . s" ∷
    ascii "<icu:state> 40:80" ∷
    ascii "<icu:state> 40:80." ∷
    ascii "<icu:state> 40:100" ∷
    ascii "<icu:state>" ∷
    ascii "<icu:state> 1," ∷
    ascii "<icu:base> \"x\"" ∷
    ascii "<>" ∷
    ascii "<a\"b> # \"" ∷
    (ascii "<U0041> \"" ++ (0x80 ∷ ascii "#\" # ") ++ (0xff ∷ [])) ∷
    (ascii "<a> " ++ (0x80 ∷ [])) ∷
    ascii "<code_set_name> \"#" ∷
    ascii "<code_set_name> \"" ∷
    ascii " CHARMAP # x" ∷
    ascii "CHARMAP x" ∷
    ascii "  # x" ∷
    []

abbrev kinds : List ReadLine
kinds =
    Some (Known CodeSetName (Some Name) 15 26) ∷
    Some (Known CurMin (Some (Min 1)) 12 14) ∷
    Some (Known CurMax (Some (Max 2)) 12 14) ∷
    Some (Known ConvClass (Some (Class Mbcs)) 13 20) ∷
    Some (Known SubChar (Some (Sub (record { bits = 0x3f000000; len = 1 }))) 9 14) ∷
    Some (Known State (Some (Row 0 false false)) 11 32) ∷
    Some (Known State (Some (Row 0 false false)) 11 23) ∷
    Some (Known ConvClass (Some (Class Mbcs)) 13 19) ∷
    Some (Known ConvClass (Some Unbuilt) 13 20) ∷
    Some (Known SubChar None 9 19) ∷
    Some (Known SubChar1 (Some (Sub1 26)) 10 14) ∷
    Some (Known State (Some (Row 1 true false)) 11 27) ∷
    Some (Known State (Some (Row 0 false true)) 11 17) ∷
    Some (Known State (Some (Row 0 true true)) 11 18) ∷
    Some (Known State None 11 18) ∷
    Some (Known State (Some (Row 0 false false)) 11 11) ∷
    Some (Known State None 11 14) ∷
    Some (Known Base (Some Unbuilt) 10 14) ∷
    None ∷
    Some (Known Other (Some Any) 5 6) ∷
    Some (Known Other (Some Any) 7 13) ∷
    None ∷
    Some (Known CodeSetName (Some Name) 15 18) ∷
    Some (Known CodeSetName None 15 17) ∷
    Some Charmap ∷
    None ∷
    Some Blank ∷
    []

-- what each line is
pub lines-read : map header_line_of texts ≡ kinds
unfolding packed same any_of digit_of skip_of begins ends_at flipped foreign content_end quote_end number_at byte_at join_at bytes_more bytes_at is_charmap to_at next_at letter_at end_at entry_sep entry_at entries_go well_go entries_at well_at unbuilt_entry over_entry comma_at open_at key_byte key_end key_of quoted_from quoted_of name_in class_name class_in digit_in min_in max_in sub_in sub1_value row_from row_in value_of key_line keyed_line header_line_at header_line_of
lines-read = refl

-- ` 30-33, 31:1, 32.i`: later entries overwrite earlier, and bytes not named are illegal
abbrev overlapping : List Cell
overlapping = row_of (entries_of (ascii " 30-33, 31:1, 32.i"))

pub row_read : map (λ i. get_or overlapping i ends_any) (47 ∷ 48 ∷ 49 ∷ 50 ∷ 51 ∷ 52 ∷ []) ≡ (illegal ∷ ends ∷ leads 1 ∷ illegal ∷ ends ∷ illegal ∷ [])
unfolding digit_of skip_of begins number_at to_at next_at letter_at end_at entry_sep entry_at entries_go entries_at comma_at open_at entries_from entries_of row_of overwritten fill_range meaning
row_read = refl
