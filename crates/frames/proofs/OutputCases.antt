-- The program's whole output, by computing: document 01's worked example, inputs of other lines, and no table or a refused one.
use Rattle.std.proofs.Common.{◌≡◌, ℕ, List, [], refl, ap}
use mathlib.Core.List.{flatten}
use mathlib.Core.Option.{none, some}
use Rattle.lists.specs.Ascii.{ascii}
use Rattle.lists.specs.Order.{first_of}
use Rattle.lists.specs.Paging.{entries_for}
use Rattle.utf.specs.Utf8.{encode_of}
use Rattle.table.specs.States.{cut_from, end_kind}
use Rattle.table.specs.Codes.{scan, codes_from}
use Rattle.table.specs.Meaning.{flat, steps_on}
use Rattle.lists.specs.Strings.{same, onto}
use Rattle.table.specs.Load.{Outcome, accepted, outcome_at, load_go, load_of}
use Rattle.table.specs.TableK.{k_text, table_k}
use Rattle.table.proofs.TextCases.{k-loaded}
use Rattle.convert.specs.Step.{to_sequence, to_plain, to_step, writes}
use Rattle.audit.specs.Audit.{cause_of, pageable_codes, plain_list}
use Rattle.frames.specs.Lines.{hex_bytes, hex_of, digits_of, more_digits, decimal_count, decimal_of, fixed_line, two_numbers, ok_line, refused_line, answer_line, finding_line, closing_line, all_digits, bytes_of_hex, is_dash, is_hex, parsed}
use Rattle.frames.specs.Stream.{input_lines}
use Rattle.frames.specs.Pages.{finding_lines}
use Rattle.frames.specs.Output.{frames_output, audit_output, output_for, output_of, program_output}
use Rattle.table.specs.Text.{lines_of as table_lines, digit_of}

-- the output for table K, opened for computing
unfoldable for_k : List ℕ → List ℕ
unfolding table_k first_of entries_for encode_of steps_on cut_from end_kind scan codes_from flat same to_sequence to_plain to_step writes cause_of pageable_codes plain_list flatten
    hex_bytes hex_of digits_of more_digits decimal_count decimal_of fixed_line two_numbers ok_line answer_line finding_line closing_line
    digit_of all_digits bytes_of_hex is_dash is_hex parsed onto input_lines finding_lines frames_output audit_output
for_k input = output_for (accepted table_k) input

as-output : (input : List ℕ) → output_of k_text input ≡ for_k input
unfolding output_of for_k
as-output input = ap (λ (o : Outcome). output_for o input) k-loaded

-- K WITH THE FRAME 817C33, as document 01 gives it in whole
pub k-whole : output_of k_text (ascii "817C33\n") ≡ ascii "TABLE OK 6\n0 3 E2889233\n3F 2\n817D 3\n8180 1\nLOOKED 7 LISTED 3\n"
unfolding for_k
k-whole = as-output (ascii "817C33\n")

-- no frames; no bytes, a code cut short behind another, an illegal sequence, a code without a line, an empty line, a blank, a CR, and a last line without LF
pub k-frames : (output_of k_text [] ≡ ascii "TABLE OK 6\n3F 2\n817D 3\n8180 1\nLOOKED 7 LISTED 3\n")
    × (output_of k_text (ascii "-\n3381\n812D33\n8180\n\n81 7C\n33\r\n817c")
    ≡ ascii "TABLE OK 6\n0 0 -\n51 1 33\n52 0 -\n0 2 EFBFBD\nBAD FRAME\nBAD FRAME\nBAD FRAME\n0 2 E28892\n3F 2\n817D 3\n8180 1\nLOOKED 7 LISTED 3\n")
unfolding for_k
k-frames = (as-output _, as-output _)

-- no table; an empty one, and then nothing of the input is shown
pub no_table : (input : List ℕ) → (program_output none input ≡ ascii "NO TABLE\n") × (program_output (some []) input ≡ ascii "TABLE REFUSED 27 1\n")
unfolding program_output output_of load_of load_go table_lines outcome_at refused_line two_numbers decimal_of decimal_count more_digits digits_of
no_table input = (refl, refl)
