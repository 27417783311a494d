-- Demand 3 (document 01, 'The audit of codes'): what is claimed of any list of audit calls, each with the record and
-- the memory that the load of an accepted text left. It is promised of calls as `all-clauses` in
-- promises/specs/Promises.antt.
use Rattle.std.specs.Prelude.{ℕ, ◌≡◌, Bool, true, false, not, ◌↔◌, ◌⊎◌, List, [], map, length}
use Rattle.lists.specs.Order.{All, In, Rising, filtered}
use Rattle.lists.specs.Calls.{Call, Chain, joined, summed, last_position, last_finished, Moves}
use Rattle.table.specs.States.{is_code}
use Rattle.table.specs.Codes.{count_between, bytes_of, AllByte}
use Rattle.lists.specs.Strings.{before, after, up_to}
use Rattle.table.specs.Meaning.{Table, steps_of}
use Rattle.table.specs.Slices.{Slices}
use Rattle.table.specs.declared.states.Code.{Code}
use Rattle.table.specs.declared.valid.Record.{Record}
use Rattle.audit.specs.Audit.{Finding, Ending, ending_number, complete_codes, plain_list}

-- the position of no bytes
abbrev pub beginning : Code
beginning = record { bits = 0; len = 0 }

-- an audit call: the record, memory and fallback setting it got; how it ended; its allowance, space, position and page.
-- An entry is represented as an F: a call leaves numbers of 64 bits in its space, taken as they stand when it returns
pub record AuditCall (F : Type 0) : Type 0 where
  pub table : Record
  pub memory : Slices
  pub fallback : Bool
  pub ending : Ending
  pub paged : Call F Code

module _ {F : Type 0} where
  abbrev pub calls_of : List (AuditCall F) → List (Call F Code)
  calls_of cs = map (λ c. c.paged) cs

  -- a call gets this record, memory and fallback setting
  abbrev pub Gets : Record → Slices → Bool → AuditCall F → Type 0
  Gets rec m fallback c = (c.table ≡ rec) × (c.memory ≡ m) × (c.fallback ≡ fallback)

  -- each call gets them; the first is made at the beginning, each later one at the position that the last one handed
  -- back
  abbrev pub InTurn : Record → Slices → Bool → List (AuditCall F) → Type 0
  InTurn rec m fallback cs = All (Gets rec m fallback) cs × Chain beginning (calls_of cs)

  -- the last position, as bytes
  abbrev pub last_of : List (AuditCall F) → List ℕ
  last_of cs = bytes_of (last_position beginning (calls_of cs))

-- the part of the plain list up to and including a position
abbrev pub list_up_to : List ℕ → List Finding → List Finding
list_up_to p l = filtered (λ f. not (before p f.code)) l

-- what is claimed of a list of calls, over the rows and lines of a table; `number` represents an entry
pub record Claims {F : Type 0} (t : Table) (fallback : Bool) (number : Finding → F)
    (cs : List (AuditCall F)) : Type 0 where
  -- no call is refused
  pub unrefused : All (λ c. ending_number c.ending ≡ 0) cs
  -- joined entries are the plain list up to and including the last position
  pub entries : joined (calls_of cs) ≡ map number (list_up_to (last_of cs) (plain_list t fallback))
  -- summed counts are the number of complete codes up to and including it
  pub counts : summed (calls_of cs) ≡ length (up_to (last_of cs) (complete_codes t))
  -- each count is the number of complete codes after the call's old position up to and including the new
  pub each :
      All (λ c. c.page.count ≡ count_between (steps_of t) 0 (bytes_of c.came) (bytes_of c.page.position))
      (calls_of cs)
  -- finished exactly when no complete code follows the position
  pub finished :
      All (λ c. (c.page.finished ≡ true) ↔ (after (bytes_of c.page.position) (complete_codes t) ≡ []))
      (calls_of cs)
  -- where the last call is finished the joined entries are the plain list whole
  pub whole : last_finished false (calls_of cs) ≡ true → joined (calls_of cs) ≡ map number (plain_list t fallback)
  -- a call with an allowance and a space of at least one looks at a code or is finished
  pub moves : All Moves (calls_of cs)
  -- every position is the beginning or a complete code
  pub positions :
      All (λ c. (c.page.position ≡ beginning) ⊎ In (bytes_of c.page.position) (complete_codes t))
      (calls_of cs)
  -- where no code was looked at, the position is the beginning, with none before it
  pub unmoved : summed (calls_of cs) ≡ 0 → last_position beginning (calls_of cs) ≡ beginning
  pub none_before : up_to (bytes_of beginning) (complete_codes t) ≡ []
  -- the complete codes in that list are all there are, in byte order, each once
  pub codes-are : (s : List ℕ) → In s (complete_codes t) ↔ (AllByte s × (is_code (steps_of t) 0 s ≡ true))
  pub codes-rise : Rising before (complete_codes t)
