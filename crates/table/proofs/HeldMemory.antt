-- Memory that passes the test behind 60 says of every byte string what the table that it holds says.
use Prim.Native.Nat.{ℕ, ◌≤◌, ◌<◌}
use mathlib.Core.Path.{◌≡◌, ap, ◌∙◌}
use mathlib.Core.Bool.{true}
use mathlib.Core.List.{List}
use lib.ListN.{length}
use Rattle.table.specs.Limits.{Limits, limits}
use Rattle.table.specs.States.{longest, step_at, cut_of, end_kind}
use Rattle.table.specs.Codes.{bytes_of, first_code, next_of, AllByte}
use Rattle.table.specs.loops.Marks.{marks_of, next_marked}
use Rattle.table.specs.Meaning.{Table, steps_of}
use Rattle.table.specs.Slices.{Slices}
use Rattle.table.specs.Memory.{table_in}
use Rattle.table.specs.Valid.{valid}
use Rattle.table.specs.declared.states.Code.{Code}
use Rattle.table.specs.declared.valid.Record.{Record}
use Rattle.table.proofs.Depth.{Agree, needed-agree}
use Rattle.table.proofs.Cuts.{cut-agree, end-agree}
use Rattle.table.proofs.Packing.{unpacked-bytes}
use Rattle.table.proofs.CodeList.{codes-agree}
use Rattle.table.proofs.Marks.{next-marked}
use Rattle.table.proofs.StoreLaws.{ok-codes, ok-infos}
use Rattle.table.proofs.NumbersBack.{states-say}
use Rattle.table.proofs.TestParts.{tested, record_ok⇒RecordKept}
use Rattle.lists.specs.Strings.{after}

module _ (lim : Limits) (rec : Record) (m : Slices) (ok : valid lim rec m ≡ true) where
  abbrev held : Table
  held = table_in rec m

  -- of every row there can be and every byte
  pub steps-held : Agree lim.rows (step_at m.states) (steps_of held)
  unfolding table_in
  steps-held =
      let k = tested lim rec m ok in
      let few = (record_ok⇒RecordKept lim rec k.rec-ok).most-rows in
      let a = needed-agree lim rec.rows m.states few k.states-ok in
      record {
        same = λ r b hr hb. a.same r b hr hb ∙ (λ i. states-say lim rec.rows m.states few k.states-ok i r b);
        stay = a.stay;
      }

  -- from a row there can be on: the sequence at the front of bytes, how bytes end as a code, and the next complete code
  module _ (row : ℕ) (lt : row < lim.rows) where
    pub cut-held : (s : List ℕ) → AllByte s → cut_of (step_at m.states) row s ≡ cut_of (steps_of held) row s
    cut-held s b = cut-agree lim.rows (step_at m.states) (steps_of held) steps-held row longest row 0 s lt lt b

    pub end-held : (s : List ℕ) → AllByte s → end_kind (step_at m.states) row s ≡ end_kind (steps_of held) row s
    end-held s b = end-agree lim.rows (step_at m.states) (steps_of held) steps-held row s lt b

    pub code-held : (c : Code) → c.bits < 4294967296 → end_kind (step_at m.states) row (bytes_of c) ≡ end_kind (steps_of held) row (bytes_of c)
    code-held c h = end-held (bytes_of c) (unpacked-bytes c.len c.bits h)

    pub next-held : (p : List ℕ) → next_of (step_at m.states) row p ≡ next_of (steps_of held) row p
    next-held p =
        ap (λ (l : List (List ℕ)). first_code (after p l))
        (codes-agree lim.rows (step_at m.states) (steps_of held) steps-held.stay steps-held.same longest row lt)

  -- the lines that the record counts lie within both slices
  pub lines-within : (rec.mappings ≤ length m.codes) × (rec.mappings ≤ length m.infos)
  lines-within =
      let s = (tested lim rec m ok).store_ok in
      (ok-codes lim.mappings rec.mappings m.codes m.infos m.order s, ok-infos lim.mappings rec.mappings m.codes m.infos m.order s)

-- `next_code` with the marks of `mark_rows` gives the next complete code
module _ (rec : Record) (m : Slices) (ok : valid limits rec m ≡ true) (row : ℕ) (lt : row < limits.rows) where
  pub next-is-next : (p : List ℕ) → next_marked (marks_of (step_at m.states)) (step_at m.states) row p ≡ next_of (steps_of (table_in rec m)) row p
  next-is-next p = next-marked (step_at m.states) (steps-held limits rec m ok).stay row p lt ∙ next-held limits rec m ok row lt p
