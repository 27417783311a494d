-- What loading an accepted text gives and leaves in the lent slices: the form of the text's table, which passes the test behind 60.
use Prim.Native.Nat.{ℕ, ◌≤◌}
use mathlib.Core.Path.{◌≡◌, sym, subst}
use mathlib.Core.Bool.{true}
use mathlib.Core.List.{List}
use Rattle.table.specs.Limits.{Limits}
use Rattle.table.specs.Meaning.{Table}
use Rattle.table.specs.Rules.{Keeps}
use Rattle.table.specs.Slices.{Slices}
use Rattle.table.specs.Memory.{record_of, Form, Proper}
use Rattle.table.specs.Valid.{valid}
use Rattle.table.specs.Load.{Given, read, accepted, record_handed, loaded_by, given, left_in}
use Rattle.table.proofs.Accepted.{accepted-keeps-rules, accepted-proper}
use Rattle.table.proofs.Leaves.{left-form}
use Rattle.table.proofs.GivenText.{given-loaded}
use Rattle.table.proofs.ValidLaws.{form-valid}

-- of a table, and of the record and the slices that a load gave and left
pub record LoadedForm (lim : Limits) (t : Table) (g : Given) (old : Slices) : Type 0 where
  pub proper : Proper t
  pub keeps : Keeps lim t
  pub form : let m = left_in lim g old in Form lim t (record_handed (loaded_by g)) m
  pub passes : let m = left_in lim g old in valid lim (record_handed (loaded_by g)) m ≡ true

pub loaded-form : (lim : Limits) (text : List ℕ) (old : Slices) (t : Table) → 1 ≤ lim.rows → given lim text old ≡ read (accepted t)
    → LoadedForm lim t (given lim text old) old
loaded-form lim text old t one e =
    let l = given-loaded lim text old (accepted t) e in
    let p = accepted-proper lim text t l in
    let k = accepted-keeps-rules lim text t one l in
    let f = left-form lim text t old one l in
    subst (λ (g : Given). LoadedForm lim t g old) (sym e)
    (record { proper = p; keeps = k; form = f; passes = form-valid lim t p k (record_of t) _ f })
