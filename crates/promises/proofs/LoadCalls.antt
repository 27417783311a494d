-- Calls of `load`: when it refuses and what it then leaves; what an accepted text leaves.
use Prim.Native.Nat.{ℕ}
use native.Mathlib.Omega.{arith}
use mathlib.Core.Path.{◌≡◌, refl, sym, ap, ◌∙◌, subst}
use mathlib.Core.Logic.{◌↔◌}
use mathlib.Core.Bool.{true}
use lib.Dec.{lit≤}
use Rattle.std.proofs.Math.Option.{Option, none, some}
use Rattle.table.specs.Limits.{limits}
use Rattle.table.specs.Meaning.{Table}
use Rattle.table.specs.Rules.{Keeps}
use Rattle.table.specs.Grammar.{TableText}
use Rattle.table.specs.Slices.{Slices}
use Rattle.table.specs.Memory.{Form, Proper}
use Rattle.table.specs.Valid.{valid}
use Rattle.table.specs.Numbers.{Loaded}
use Rattle.table.specs.Load.{accepted, refused, Given, untouched, read, loaded_by, given, left_in, record_handed, refusal_in}
use Rattle.table.specs.declared.valid.Record.{Record}
use Rattle.table.specs.declared.load.Refusal.{Refusal}
use Rattle.table.proofs.GivenText.{given-loaded, given-lent}
use Rattle.table.proofs.LoadedForm.{LoadedForm, loaded-form}
use Rattle.table.proofs.TextRead as text
use Rattle.promises.specs.Calls.{LoadCall, text_of, lent_to, left_after, MayLoad, AcceptedAs}

-- ## The contract, read

pub answered : (c : LoadCall) → c.result ≡ loaded_by (given limits (text_of c) (lent_to c))
answered c = c.post.0

pub slices-left : (c : LoadCall) → left_after c ≡ left_in limits (given limits (text_of c) (lent_to c)) (lent_to c)
slices-left c = c.post.1.1

-- ## An accepted call

refused-answer : (x : Refusal) → ◌≡◌ {A = Option Refusal} (some x) none → ⊥
refused-answer x e = let z : ◌≡◌ {A = ℕ} 0 1 = cc in omega arith

given-accepted : (g : Given) → refusal_in (loaded_by g) ≡ none → (t : Table) × (g ≡ read (accepted t))
given-accepted (untouched x) e = absurd (refused-answer x e)
given-accepted (read (refused x k)) e = absurd (refused-answer x e)
given-accepted (read (accepted t)) e = (t, refl)

module _ (c : LoadCall) where
  abbrev g : Given
  g = given limits (text_of c) (lent_to c)

  answer-is : refusal_in c.result ≡ refusal_in (loaded_by g)
  answer-is = ap refusal_in (answered c)

  accepted-read : refusal_in c.result ≡ none → (t : Table) × (g ≡ read (accepted t))
  accepted-read e = given-accepted g (sym answer-is ∙ e)

  of-grammar : (t : Table) → g ≡ read (accepted t) → TableText (text_of c) t × Keeps limits t
  of-grammar t e = (text.accepted-exactly limits (text_of c) t (lit≤ tt)).0 (given-loaded limits (text_of c) (lent_to c) (accepted t) e)

  pub accepted-exactly : MayLoad c → (refusal_in c.result ≡ none) ↔ ((t : Table) × TableText (text_of c) t × Keeps limits t)
  accepted-exactly m = (
    (λ e. let p = accepted-read e in let w = of-grammar p.0 p.1 in (p.0, w.0, w.1)),
    λ p. let e = (text.accepted-exactly limits (text_of c) p.0 (lit≤ tt)).1 (p.1, p.2) in
        answer-is
        ∙ ap (λ (x : Given). refusal_in (loaded_by x))
        (given-lent limits (text_of c) (lent_to c) m.long-enough m.short-enough ∙ ap read e),
  )

  pub accepted-means : refusal_in c.result ≡ none → (t : Table) × AcceptedAs c t
  accepted-means e =
      let p = accepted-read e in (p.0, record { accepted = e; of-grammar = (of-grammar p.0 p.1).0 })

-- an accepted call read the table that its text writes
pub as_read : (c : LoadCall) (t : Table) → AcceptedAs c t → given limits (text_of c) (lent_to c) ≡ read (accepted t)
as_read c t a =
    let p = accepted-read c a.accepted in
    let w = of-grammar c p.0 p.1 in
    p.1 ∙ ap (λ (u : Table). read (accepted u)) (text.one_table (text_of c) p.0 t w.0 a.of-grammar)

pub loaded : (c : LoadCall) (t : Table) → AcceptedAs c t → LoadedForm limits t (given limits (text_of c) (lent_to c)) (lent_to c)
loaded c t a = loaded-form limits (text_of c) (lent_to c) t (lit≤ tt) (as_read c t a)

-- what holds of what the definition gives and leaves holds of the record and the slices of the call
pub of-call : (c : LoadCall) (P : Record → Slices → Type 0)
    → (let g = given limits (text_of c) (lent_to c) in P (record_handed (loaded_by g)) (left_in limits g (lent_to c)))
    → P (record_handed c.result) (left_after c)
of-call c P h =
    subst (λ (r : Loaded). P (record_handed r) (left_after c)) (sym (answered c))
    (subst (λ (m : Slices). P (record_handed (loaded_by (given limits (text_of c) (lent_to c)))) m) (sym (slices-left c)) h)

pub leaves-form : (c : LoadCall) (t : Table) → AcceptedAs c t
    → Proper t × Keeps limits t × Form limits t (record_handed c.result) (left_after c)
leaves-form c t a = let f = loaded c t a in (f.proper, f.keeps, of-call c (Form limits t) f.form)

pub leaves-valid : (c : LoadCall) → refusal_in c.result ≡ none → valid limits (record_handed c.result) (left_after c) ≡ true
leaves-valid c e =
    let p = accepted-read c e in
    let f = loaded-form limits (text_of c) (lent_to c) p.0 (lit≤ tt) p.1 in
    of-call c (λ rec m. valid limits rec m ≡ true) f.passes
