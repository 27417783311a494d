-- What only inner functions of the audit speak of.
use Rattle.std.specs.Prelude.{ℕ, Bool}
use Rattle.table.specs.declared.states.Code.{Code}
use Rattle.audit.specs.declared.Audited.{Audited}

-- a call that looked at codes, as the function hands it back
abbrev pub looked_to : ℕ → Code → Bool → ℕ → Audited
looked_to number position finished count =
    record {
      written = number;
      position = position;
      finished = finished;
      count = count;
    }
