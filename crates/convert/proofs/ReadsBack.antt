-- A code point that is written is written as a code that reads: T10, seen from the conversions.
-- written-line     what is written as a code is the code of a `|0` or `|1` line
-- written-reads    that code reads as some code point, in every scheme and setting, whatever stands behind it
-- Cited by docs/LAWS.md and docs/PROMISES.md: written-reads. Assumes nothing.
use Prim.Native.Nat.{ℕ}
use mathlib.Core.Path.{◌≡◌, refl, ap, subst, ◌∙◌}
use mathlib.Core.Bool.{Bool, true}
use mathlib.Core.Option.{Option, none, some}
use mathlib.Core.List.{List, ◌++◌}
use native.Mathlib.Omega.{arith}
use lib.Dec.{eqb}
use lib.ListN.{length}
use Rattle.lists.proofs.Cases.{pick-case, pick_yes, pick_no}
use Rattle.lists.proofs.First.{first_of-some⁻}
use Rattle.lists.proofs.Order.{All-In⁻}
use Rattle.utf.specs.Scheme.{Side}
use Rattle.table.specs.Limits.{Limits}
use Rattle.table.specs.Meaning.{Line, Table, writes_code, is_substituted, writer}
use Rattle.table.specs.Rules.{Keeps}
use Rattle.table.specs.Memory.{Proper, ProperLine}
use Rattle.table.proofs.ReadBack.{written-reads as line_reads, written-complete}
use Rattle.convert.specs.Run.{give}
use Rattle.convert.specs.Step.{Written, code, subchar1, nothing, written_by, writes, point_for, encoded, to_step}
use Rattle.convert.specs.declared.Settings.{Settings}
use Rattle.convert.proofs.CompleteCodes.{code_gives}

-- a line that writes this code
abbrev pub WrittenBy : Option Line → List ℕ → Type 0
WrittenBy o c = (l : Line) × (o ≡ some l) × (writes_code l ≡ true) × (l.code ≡ c)

pub written-line : (fallback : Bool) (o : Option Line) (c : List ℕ) → written_by fallback o ≡ code c → WrittenBy o c
written-line fallback none c e = absurd (let z : ◌≡◌ {A = ℕ} 0 1 = cc in omega arith)
written-line fallback (some l) c e =
    pick-case P (eqb l.indicator 0) _ _
    (λ q. own (pick_yes (eqb l.indicator 0) true _ q))
    (λ q. pick-case P (eqb l.indicator 1) _ _
    (λ p. pick-case P fallback _ _ (λ y. own (pick_no (eqb l.indicator 0) true _ q ∙ p)) (λ y. not-nothing))
    (λ p. pick-case P (is_substituted l) _ _ (λ y. not-subchar1) (λ y. not-nothing)))
    e
  where
    P : Written → Type 0
    P w = w ≡ code c → WrittenBy (some l) c

    own : writes_code l ≡ true → P (code l.code)
    own w f = let k : l.code ≡ c = cc in (l, refl, w, k)

    not-subchar1 : P subchar1
    not-subchar1 f = absurd (let z : ◌≡◌ {A = ℕ} 0 1 = cc in omega arith)

    not-nothing : P nothing
    not-nothing f = absurd (let z : ◌≡◌ {A = ℕ} 0 1 = cc in omega arith)

pub written-reads : (lim : Limits) (t : Table) → Proper t → Keeps lim t → (fallback : Bool) (u : ℕ) (c : List ℕ) → writes t fallback u ≡ code c
    → (v : ℕ) × ((s : Side) (settings : Settings) (rest : List ℕ) → to_step s t settings 0 (c ++ rest) ≡ give (s.encode v) (length c) 0)
unfolding writes
written-reads lim t p k fallback u c e =
    let (l, q, w, own) = written-line fallback (writer u t.lines) c e in
    let i = (first_of-some⁻ _ l t.lines q).0 in
    let (x, r) = line_reads lim t k l i w in
    subst (Reads t) own (
      x.point,
      λ s settings rest.
          code_gives lim t k l.code (All-In⁻ ProperLine l t.lines p.lines-proper i).bytes (written-complete lim t k l i w) s settings rest
          ∙ ap (λ (o : Option Line). encoded s 0 (point_for t.subchar1 settings.substitute (length l.code) o)) r,
    )
  where
    Reads : Table → List ℕ → Type 0
    Reads t c = (v : ℕ) × ((s : Side) (settings : Settings) (rest : List ℕ) → to_step s t settings 0 (c ++ rest) ≡ give (s.encode v) (length c) 0)
