-- Calls of the two conversions and illegal sequences: the length that comes with 52, and never 52 where they are skipped.
use Prim.Native.Nat.{ℕ}
use native.Mathlib.Omega.{arith}
use mathlib.Core.Path.{◌≡◌, refl, sym, ap, subst, ◌∙◌}
use mathlib.Core.Bool.{true}
use lib.ListN.{length, drop}
use Rattle.lists.proofs.Cases.{pick-case}
use Rattle.utf.specs.Scheme.{side_of}
use Rattle.utf.specs.declared.utf8.Stop.TheVariants as stopped
use Rattle.table.specs.Limits.{limits}
use Rattle.table.specs.Illegal.{TakesIn}
use Rattle.table.specs.Codes.{AllByte}
use Rattle.table.specs.Meaning.{Table, steps_of}
use Rattle.table.specs.Slices.{Slices}
use Rattle.table.specs.Valid.{valid}
use Rattle.table.specs.declared.valid.Record.{Record}
use Rattle.convert.specs.Run.{Run, end_number, end_length}
use Rattle.convert.specs.Convert.{to_tested, from_tested, tested}
use Rattle.convert.specs.declared.Converted.{Converted}
use Rattle.convert.specs.declared.RunEnd.{RunEnd}
use Rattle.convert.specs.declared.RunEnd.TheVariants.{AllRead, OutputFull, BadTable, Stopped}
use Rattle.convert.proofs.SkippedRuns.{to-legal, from-legal}
use Rattle.convert.proofs.SkippedRuns as runs
use Rattle.promises.specs.Calls.{LoadCall, AcceptedAs, ToCall, FromCall, record_given, slices_given, input_of, output_lent, settings_of, scheme_of}
use Rattle.promises.specs.Words.{OnLoaded}
use Rattle.promises.proofs.LoadCalls.{leaves-form}
use Rattle.promises.proofs.ConversionCalls.{to-answers, from-answers, to-by-text}

-- 52 is an illegal sequence, and its length is the one given
illegal-end : (h : RunEnd) → end_number h ≡ 52 → h ≡ Stopped (stopped.Illegal (end_length h))
illegal-end AllRead e = absurd (omega arith)
illegal-end OutputFull e = absurd (omega arith)
illegal-end BadTable e = absurd (omega arith)
illegal-end (Stopped stopped.CutShort) e = absurd (omega arith)
illegal-end (Stopped (stopped.Illegal n)) e = refl
illegal-end (Stopped stopped.Unassigned) e = absurd (omega arith)

pub length_none : (h : RunEnd) → (end_number h ≡ 52 → ⊥) → end_length h ≡ 0
length_none AllRead e = refl
length_none OutputFull e = refl
length_none BadTable e = refl
length_none (Stopped stopped.CutShort) e = refl
length_none (Stopped (stopped.Illegal n)) e = absurd (e refl)
length_none (Stopped stopped.Unassigned) e = refl

-- what holds of a run that ends at an illegal sequence holds behind the test too: 60 is no such end
behind_test : (P : ℕ → ℕ → Type 0) (rec : Record) (m : Slices) (run : Run)
    → ((n : ℕ) → run.end ≡ Stopped (stopped.Illegal n) → P run.read n)
    → (n : ℕ) → (tested limits rec m run).end ≡ Stopped (stopped.Illegal n) → P (tested limits rec m run).read n
behind_test P rec m run h n =
    pick-case (λ (r : Run). r.end ≡ Stopped (stopped.Illegal n) → P r.read n) (valid limits rec m) _ _
    (λ t. h n)
    (λ t e. absurd (let z : ◌≡◌ {A = ℕ} 0 1 = cc in omega arith))

pub to-never : (c : ToCall) → (settings_of c).skip ≡ true → end_number c.result.end ≡ 52 → ⊥
unfolding to_tested
to-never c on e =
    let a = to-answers c in
    behind_test (λ k n. ⊥) (record_given c) (slices_given c) _
    (λ n f. to-legal (scheme_of c) _ (settings_of c) (input_of c) (length (output_lent c)) on (n, f))
    (end_length c.result.end) (sym (ap (λ (d : Converted). d.end) a.result) ∙ illegal-end c.result.end e)

pub from-never : (c : FromCall) → (settings_of c).skip ≡ true → end_number c.result.end ≡ 52 → ⊥
unfolding from_tested
from-never c on e =
    let a = from-answers c in
    behind_test (λ k n. ⊥) (record_given c) (slices_given c) _
    (λ n f. from-legal (scheme_of c) _ (settings_of c) (input_of c) (length (output_lent c)) on (n, f))
    (end_length c.result.end) (sym (ap (λ (d : Converted). d.end) a.result) ∙ illegal-end c.result.end e)

pub from-length : (c : FromCall) → end_number c.result.end ≡ 52 → end_length c.result.end ≡ (side_of (scheme_of c)).unit
unfolding from_tested
from-length c e =
    let a = from-answers c in
    behind_test (λ k n. n ≡ (side_of (scheme_of c)).unit) (record_given c) (slices_given c) _
    (λ n f. runs.from-length (scheme_of c) _ (settings_of c) (input_of c) (length (output_lent c)) n f)
    (end_length c.result.end) (sym (ap (λ (d : Converted). d.end) a.result) ∙ illegal-end c.result.end e)

pub to-length : (l : LoadCall) (t : Table) → AcceptedAs l t → (c : ToCall) → OnLoaded l c → AllByte (input_of c) → end_number c.result.end ≡ 52
    → TakesIn (steps_of t) 0 t.max (drop c.result.read (input_of c)) (end_length c.result.end)
to-length l t a c o bytes e =
    let r = (to-by-text l t a c o).result in
    subst (λ (k : ℕ). TakesIn (steps_of t) 0 t.max (drop k (input_of c)) (end_length c.result.end)) (sym (ap (λ (d : Converted). d.read) r))
    (runs.to-length (scheme_of c) t (settings_of c) (input_of c) (length (output_lent c)) limits (leaves-form l t a).1 bytes (end_length c.result.end)
    (sym (ap (λ (d : Converted). d.end) r) ∙ illegal-end c.result.end e))
