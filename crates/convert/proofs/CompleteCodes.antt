-- A complete code at the front of any input is cut whole, and the line that reads it says what it gives.
use mathlib.Core.Path.{◌≡◌, refl, ap, ◌∙◌}
use Prim.Native.Nat.{ℕ, ◌≤◌, ◌<◌}
use mathlib.Core.List.{List, ◌++◌}
use mathlib.Core.Bool.{true}
use native.Mathlib.Nat.{zero-add}
use lib.ListN.{length}
use lib.Seq.{take-append_seam}
use Rattle.utf.specs.Scheme.{Side}
use Rattle.table.specs.Limits.{Limits}
use Rattle.table.specs.States.{longest, cut_of, end_kind, is_code}
use Rattle.table.specs.Codes.{AllByte}
use Rattle.table.specs.Meaning.{Table, steps_of, reader}
use Rattle.table.specs.Rules.{Keeps}
use Rattle.table.specs.declared.states.Cut.TheVariants as cut
use Rattle.table.proofs.Cuts.{cut-code}
use Rattle.table.proofs.KeptSizes.{kept-short}
use Rattle.table.proofs.FormTested.{code-length}
use Rattle.convert.specs.Step.{point_for, encoded, to_step}
use Rattle.convert.specs.declared.Settings.{Settings}
use Rattle.convert.proofs.PlainSteps.{to-complete}
use Rattle.convert.proofs.Steps.{to-gives, point-kept}
use Rattle.table.specs.declared.states.EndKind.{EndKind}
use Rattle.std.specs.Prelude.{Option, Some, None}

module _ (lim : Limits) (t : Table) (keeps : Keeps lim t) (c : List ℕ) (bytes : AllByte c) (whole : is_code (steps_of t) 0 c ≡ true) where
  ends : end_kind (steps_of t) 0 c ≡ None → ⊥
  ends = (code-length (steps_of t) c whole).0

  pub some_bytes : 0 < length c
  some_bytes = (code-length (steps_of t) c whole).1

  pub few_bytes : length c ≤ longest
  few_bytes = kept-short lim t keeps c bytes ends

  cuts : (rest : List ℕ) → (kind : EndKind) × (cut_of (steps_of t) 0 (c ++ rest) ≡ cut.Complete (length c) kind)
  cuts rest = go (end_kind (steps_of t) 0 c) refl
    where
      go : (o : Option EndKind) → end_kind (steps_of t) 0 c ≡ o
          → (kind : EndKind) × (cut_of (steps_of t) 0 (c ++ rest) ≡ cut.Complete (length c) kind)
      go None e = absurd (ends e)
      go (Some kind) e = (
        kind,
        cut-code (steps_of t) 0 longest 0 0 c rest kind e few_bytes
            ∙ ap (λ (n : ℕ). cut.Complete n kind) (zero-add (length c)),
      )

  pub code_gives : (u : Side) (settings : Settings) (rest : List ℕ)
      → to_step u t settings 0 (c ++ rest) ≡ encoded u 0 (point_for t.subchar1 settings.substitute (length c) (reader c t.lines))
  code_gives u settings rest =
      to-gives t settings 0 u (c ++ rest) _
      (to-complete t settings 0 (c ++ rest) (length c) (cuts rest).0 (cuts rest).1
      ∙ ap (λ (x : List ℕ). point_for t.subchar1 settings.substitute (length c) (reader x t.lines)) (take-append_seam c rest))
      ∙ point-kept settings.skip (u.encode 0xfffd) u 0 t.subchar1 settings.substitute (length c) (reader c t.lines)
