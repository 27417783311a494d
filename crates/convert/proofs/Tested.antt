-- The test behind 60, and what the two conversions answer by it.
use mathlib.Core.Path.{◌≡◌, sym, ap, ◌∙◌}
use Prim.Native.Nat.{ℕ}
use mathlib.Core.Bool.{true, false}
use mathlib.Core.List.{List}
use Rattle.lists.proofs.Cases.{pick_yes, pick_no}
use Rattle.table.specs.Limits.{limits}
use Rattle.table.specs.Meaning.{Table}
use Rattle.table.specs.Slices.{Slices}
use Rattle.table.specs.Memory.{table_in}
use Rattle.table.specs.Valid.{valid}
use Rattle.table.specs.declared.valid.Record.{Record}
use Rattle.convert.specs.Run.{Run, ended_with, converted_of, put_out, end_number, run_number, end_length, run_length}
use Rattle.convert.specs.Convert.{tested}
use Rattle.convert.specs.declared.Converted.{Converted}
use Rattle.convert.specs.declared.RunEnd.TheVariants.{BadTable}

-- what a conversion says of its run
abbrev pub Answers : Run → Converted → List ℕ → List ℕ → Type 0
Answers run d old new =
    (d ≡ converted_of run) × (new ≡ put_out run old) × (end_number d.end ≡ run_number run) × (end_length d.end ≡ run_length run)

answers : (run whole : Run) → run ≡ whole → (d : Converted) (old new : List ℕ) → d ≡ converted_of run → new ≡ put_out run old → Answers whole d old new
answers run whole e d old new q w =
    let r = q ∙ ap converted_of e in
    (r, w ∙ ap (λ (x : Run). put_out x old) e, ap (λ (x : Converted). end_number x.end) r, ap (λ (x : Converted). end_length x.end) r)

module _ (rec : Record) (m : Slices) (run : Table → Run) (d : Converted) (old new : List ℕ) where
  -- a table was held
  pub tested-yes : true ≡ valid limits rec m → (t : Table) → t ≡ table_in rec m → d ≡ converted_of (run t) → new ≡ put_out (run t) old
      → Answers (tested limits rec m (run (table_in rec m))) d old new
  tested-yes ok t e q w = answers (run t) _ (ap run e ∙ sym (pick_yes (valid limits rec m) (run (table_in rec m)) (ended_with BadTable 0) (sym ok))) d old new q w

  -- none was
  pub tested-no : false ≡ valid limits rec m → d ≡ record { end = BadTable; read = 0; written = 0 } → new ≡ old
      → Answers (tested limits rec m (run (table_in rec m))) d old new
  tested-no bad q w = answers (ended_with BadTable 0) _ (sym (pick_no (valid limits rec m) (run (table_in rec m)) (ended_with BadTable 0) (sym bad))) d old new q w
