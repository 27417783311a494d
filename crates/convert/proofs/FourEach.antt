-- A sequence gives at most four bytes: to-four towards Unicode, from-four from it.
use mathlib.Core.Path.{◌≡◌, refl, sym, ap, ◌∙◌}
use Prim.Native.Nat.{ℕ, ◌≤◌}
use mathlib.Core.List.{List}
use mathlib.Core.Bool.{Bool, true, false}
use mathlib.Core.Option.{Option, none, some}
use native.Mathlib.Omega.{arith}
use borrow.Author.Tests.{leb-true}
use lib.Dec.{leb}
use lib.ListN.{length}
use Rattle.lists.proofs.Laws.{and_left, and_right}
use Rattle.lists.proofs.Cases.{pick_yes}
use Rattle.lists.proofs.Order.{All-In⁻}
use Rattle.lists.proofs.First.{first_of-some⁻}
use Rattle.lists.proofs.AllAny.{all_true}
use Rattle.utf.specs.Scheme.{Side}
use Rattle.utf.specs.declared.utf8.Sequence.{Sequence}
use Rattle.utf.specs.declared.utf8.Sequence.TheVariants as sequence
use Rattle.table.specs.Limits.{Limits}
use Rattle.table.specs.Codes.{AllByte}
use Rattle.table.specs.Meaning.{Line, Table, steps_of, has_code, writer}
use Rattle.table.specs.Rules.{t5, Keeps}
use Rattle.table.proofs.KeptSizes.{kept-sizes, kept-short}
use Rattle.table.proofs.FormTested.{code-length}
use Rattle.table.proofs.ReadBack.{writes_code⇒has_code}
use Rattle.convert.specs.Run.{give}
use Rattle.convert.specs.Step.{to_step}
use Rattle.convert.specs.Step.{Written, code, subchar1, nothing, written_by, writes, sub1_bytes, substituted, sent_for, on_sequence, from_plain, from_step}
use Rattle.convert.specs.declared.Settings.{Settings}
use Rattle.convert.specs.loops.Inner.{AtMost, LawfulSide}
use Rattle.convert.proofs.Skipping.{given_by}
use Rattle.convert.proofs.Steps.{to_step⇒Encoded}
use Rattle.convert.proofs.ReadsBack.{written-line}

-- ## Towards Unicode

pub to-four : (u : Side) → LawfulSide u → (t : Table) (settings : Settings) → AtMost 4 (to_step u t settings)
to-four u law t settings row s bs n next e =
    let k = to_step⇒Encoded t settings row u s bs n next e in
    omega (arith, law.few k.point, ap length k.spelt)

-- ## From Unicode

abbrev CodeFew : Written → Type 0
CodeFew (code c) = length c ≤ 4
CodeFew subchar1 = Unit {0}
CodeFew nothing = Unit {0}

module _ (lim : Limits) (t : Table) (keeps : Keeps lim t) (bytes : AllByte t.subchar) where
  subchar-few : length t.subchar ≤ 4
  subchar-few = kept-short lim t keeps t.subchar bytes (code-length (steps_of t) t.subchar keeps.so_far.rule4-sub).0

  line-few : (l : Line) → t5 (steps_of t) t.min t.max l ≡ true → has_code l ≡ true → length l.code ≤ 4
  line-few l ok h =
      let r = sym (pick_yes (has_code l) _ true h) ∙ ok in
      let m = leb-true (length l.code) t.max (and_left (leb (length l.code) t.max) _ (and_right (leb t.min (length l.code)) _ r)) in
      omega (arith, (kept-sizes lim t keeps).most)

  writes-few : (fallback : Bool) (c : ℕ) → CodeFew (writes t fallback c)
  unfolding writes
  writes-few fallback c = go (written_by fallback (writer c t.lines)) refl
    where
      go : (w : Written) → written_by fallback (writer c t.lines) ≡ w → CodeFew w
      go (code b) e =
          let (l, q, w, own) = written-line fallback (writer c t.lines) b e in
          let kept =
          All-In⁻ (λ x. t5 (steps_of t) t.min t.max x ≡ true) l t.lines (all_true _ t.lines keeps.so_far.rule5) (first_of-some⁻ _ l t.lines q).0 in
          omega (arith, line-few l kept (writes_code⇒has_code l w), ap length own)
      go subchar1 e = tt
      go nothing e = tt

  sub1-few : (o : Option ℕ) → length (sub1_bytes o t.subchar) ≤ 4
  sub1-few none = subchar-few
  sub1-few (some b) = omega arith

  substituted-few : (substitute : Bool) (c : List ℕ) (m row : ℕ) (bs : List ℕ) (n next : ℕ) → length c ≤ 4
      → substituted substitute c m row ≡ give bs n next → length bs ≤ 4
  substituted-few true c m row bs n next h e = let b : c ≡ bs = cc in omega (arith, ap length b)
  substituted-few false c m row bs n next h e = absurd (let z : ◌≡◌ {A = ℕ} 0 1 = cc in omega arith)

  sent-few : (substitute : Bool) (row m : ℕ) (w : Written) (bs : List ℕ) (n next : ℕ) → CodeFew w
      → sent_for t substitute row m w ≡ give bs n next → length bs ≤ 4
  sent-few substitute row m (code c) bs n next h e = let b : c ≡ bs = cc in omega (arith, ap length b)
  sent-few substitute row m subchar1 bs n next h e =
      substituted-few substitute (sub1_bytes t.subchar1 t.subchar) m row bs n next (sub1-few t.subchar1) e
  sent-few substitute row m nothing bs n next h e = substituted-few substitute t.subchar m row bs n next subchar-few e

  sequence-few : (u : Side) (settings : Settings) (row : ℕ) (x : Sequence) (bs : List ℕ) (n next : ℕ)
      → on_sequence u t settings.fallback settings.substitute row x ≡ give bs n next → length bs ≤ 4
  sequence-few u settings row (sequence.Stopped w) bs n next e = absurd (let z : ◌≡◌ {A = ℕ} 0 1 = cc in omega arith)
  sequence-few u settings row (sequence.Scalar c m) bs n next e =
      sent-few settings.substitute row m (writes t settings.fallback c) bs n next (writes-few settings.fallback c) e

  pub from-four : (u : Side) (settings : Settings) → AtMost 4 (from_step u t settings)
  unfolding from_step from_plain
  from-four u settings row s bs n next e =
      given_by t.subchar row (length bs ≤ 4) settings.skip (from_plain u t settings row s) bs n next e
      (λ q. sequence-few u settings row (u.decode s) bs n next q)
      (λ on q b r. omega (arith, subchar-few, ap length b))
