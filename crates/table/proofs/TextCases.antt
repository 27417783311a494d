-- Table K's text is a table of the grammar, and so is K written with every liberty: by computing the reader, and by the law that it takes just such texts.
-- T10 of K with one line more, computed.
use Prim.Native.Nat.{ℕ}
use mathlib.Core.Path.{◌≡◌, refl, ◌∙◌}
use mathlib.Core.List.{List, [], ◌∷◌}
use mathlib.Core.Bool.{true, false}
use native.Mathlib.Omega.{arith}
use Rattle.table.specs.Limits.{limits}
use Rattle.table.specs.States.{end_kind, within}
use Rattle.lists.specs.Tests.{all_below, all_of, any_of}
use Rattle.table.specs.Codes.{packed, unpacked}
use Rattle.table.specs.Meaning.{flat, steps_on}
use Rattle.lists.specs.Strings.{same, onto, begins}
use Rattle.lists.specs.Order.{first_of}
use Rattle.table.specs.Rules.{t9, t10}
use Rattle.table.specs.Text.{cr_before, lines_of, digit_of, skip_of, ends_at, flipped, foreign, content_end, quote_end, number_at, byte_at, point_digits, unicode_at, join_at, bytes_more, bytes_at, is_charmap}
use Rattle.table.specs.Row.{to_at, next_at, letter_at, end_at, entry_sep, entry_at, entries_go, well_go, entries_at, well_at, unbuilt_entry, over_entry, meaning, overwritten, comma_at, open_at, entries_from, entries_of, row_of}
use Rattle.lists.specs.Place.{fill_range}
use Rattle.table.specs.Header.{key_byte, key_end, key_of, quoted_from, quoted_of, name_in, class_name, class_in, digit_in, min_in, max_in, sub_in, sub1_value, row_from, row_in, value_of, is_row, key_line, keyed_line, header_line_at, header_line_of}
use Rattle.table.specs.Mapping.{points_more, indicator_at, is_end, body_line_of, after_end_of}
use Rattle.table.specs.Numbers.{n11, n12, n13, row_unbuilt, n14, row_over, n15, rows_at, n16, n20, n21, n22, n23, n24, n25, n26, n28, lowest, key_conditions, charmap_conditions, mapping_conditions}
use Rattle.table.specs.Load.{Outcome, keep_value, keep_row, line_as, table_of, accepted, outcome_at, load_go, load_of}
use Rattle.table.specs.Grammar.{TableText}
use Rattle.table.specs.TableK.{k_text, table_k, free_text}
use Rattle.table.proofs.TextRead.{accepted-exactly}

-- the reader, opened for computing
unfoldable outcome : List ℕ → Outcome
unfolding steps_on end_kind all_below within packed unpacked flat same all_of any_of first_of t9 t10 cr_before onto lines_of digit_of skip_of begins ends_at flipped foreign content_end quote_end number_at byte_at point_digits unicode_at join_at bytes_more bytes_at is_charmap to_at next_at letter_at end_at entry_sep entry_at entries_go well_go entries_at well_at unbuilt_entry over_entry meaning fill_range overwritten comma_at open_at entries_from entries_of row_of key_byte key_end key_of quoted_from quoted_of name_in class_name class_in digit_in min_in max_in sub_in sub1_value row_from row_in value_of key_line keyed_line header_line_at header_line_of points_more indicator_at is_end body_line_of after_end_of n11 n12 n13 row_unbuilt n14 row_over n15 rows_at n16 n20 n21 n22 n23 n24 n25 n26 n28 lowest key_conditions charmap_conditions mapping_conditions keep_value keep_row is_row table_of outcome_at load_go load_of
outcome text = load_of limits text

k-outcome : outcome k_text ≡ accepted table_k
unfolding outcome k_text table_k
k-outcome = refl

free-outcome : outcome free_text ≡ accepted table_k
unfolding outcome free_text table_k
free-outcome = refl

as-loaded : (text : List ℕ) → load_of limits text ≡ outcome text
unfolding outcome
as-loaded text = refl

-- K's text is accepted as table K
pub k-loaded : load_of limits k_text ≡ accepted table_k
k-loaded = as-loaded k_text ∙ k-outcome

-- and is of the grammar
pub k-text : TableText k_text table_k
k-text = ((accepted-exactly limits k_text table_k (omega arith)).0 k-loaded).0

-- so is the same table with every liberty
pub free-text : TableText free_text table_k
free-text = ((accepted-exactly limits free_text table_k (omega arith)).0 (as-loaded free_text ∙ free-outcome)).0

-- T10 of K with one line more: a fallback to a code that no line reads, to one that only a `|3` line reads, to one that only a fallback has
to-nothing : t10 (line_as 0xff0e (0x3f ∷ []) 1 ∷ table_k.lines) ≡ false
unfolding t10 all_of first_of same table_k
to-nothing = refl

to-read-only : t10 (line_as 0xff0e (0x81 ∷ 0x7d ∷ []) 1 ∷ table_k.lines) ≡ true
unfolding t10 all_of first_of same table_k
to-read-only = refl

to-fallback : t10 (line_as 0xff0e (0x3f ∷ []) 1 ∷ line_as 0xff0f (0x3f ∷ []) 1 ∷ table_k.lines) ≡ false
unfolding t10 all_of first_of same table_k
to-fallback = refl
