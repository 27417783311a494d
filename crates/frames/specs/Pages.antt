-- What the program writes of the audit (document 01: `the audit follows the frames`): its findings a page at a time,
-- and the closing line.
-- Cases: proofs/Cases.antt
use Rattle.std.specs.Prelude.{if◌then◌else◌, ℕ, ◌+◌, ◌/◌, ◌%◌, Bool, true, false}
use Rattle.std.specs.Prelude.{not, List, [], ◌∷◌, ◌++◌, length, nat_eq, nat_lt, None}
use Rattle.lists.specs.Pick.{◌and◌}
use Rattle.table.specs.Limits.{limits}
use Rattle.lists.specs.Strings.{after}
use Rattle.table.specs.Slices.{Slices}
use Rattle.table.specs.declared.states.Code.{Code}
use Rattle.table.specs.declared.valid.Record.{Record}
use Rattle.audit.specs.Audit.{Finding, Answer, Ending, ending_number, refusal_by, audit_tested, complete_codes}
use Rattle.audit.specs.Demand.{beginning}
use Rattle.frames.specs.Lines.{finding_line}
use Rattle.frames.specs.declared.pages.ListedSoFar.{ListedSoFar}
use Rattle.frames.specs.declared.pages.Listed.{Listed}
use Rattle.table.specs.Codes.{bytes_of}
use Rattle.table.specs.Memory.{table_in}

-- the lines of findings
unfoldable pub finding_lines : List Finding → List ℕ
finding_lines [] = []
finding_lines (f ∷ l) = finding_line f.code f.cause ++ finding_lines l

-- how many findings a page asks for: as many as surely fit at 11 bytes each, and at most 1,024
unfoldable pub page_space : ℕ → ℕ
page_space room = let n = room / 11 in if nat_lt n 1024 then n else 1024

-- 2^64 - 1, the widest allowance, and 2^64
abbrev pub widest_allowance : ℕ
widest_allowance = 18446744073709551615

abbrev pub word64 : ℕ
word64 = 18446744073709551616

-- a page: fallback off, as many codes as the widest number allows
abbrev pub page_in : Record → Slices → Code → ℕ → Answer
page_in rec m pos room = audit_tested limits rec m false pos widest_allowance (page_space room)

-- how far the list has come after a page; sums are of 64 bits
abbrev pub listed_so_far_after : ListedSoFar → Answer → ListedSoFar
listed_so_far_after done a =
    record {
      position = a.page.position;
      looked = (done.looked + a.page.count) % word64;
      listed = (done.listed + length a.page.entries) % word64;
    }

-- whether the list goes on: not where the call was refused, nor where it is finished
abbrev pub more_after : Ending → Bool → Bool
more_after e finished = nat_eq (ending_number e) 0 and not finished

abbrev pub listed_of : ListedSoFar → Answer → Listed
listed_of done a =
    record {
      refused = refusal_by a.ending;
      reached = listed_so_far_after done a;
      put = length (finding_lines a.page.entries);
      more = more_after a.ending a.page.finished;
    }

-- how many complete codes come after a position: what a list still has to look at
unfoldable pub codes_left : Record → Slices → Code → ℕ
codes_left rec m pos = length (after (bytes_of pos) (complete_codes (table_in rec m)))

-- before the first call: at the beginning, nothing looked at or listed, and more to come
abbrev pub nothing_yet : Listed
nothing_yet =
    record {
      refused = None;
      reached = record { position = beginning; looked = 0; listed = 0 };
      put = 0;
      more = true;
    }
