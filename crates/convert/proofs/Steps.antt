-- The steps of the two conversions, skipping on or off: both are sound, and what each sequence gives.
-- to-sound, from-sound      some bytes, in the input, the same under more input
-- to-gives, from_gives      by what was read                      from-stopped    at a stop of the decoder
-- to_step⇒Encoded            what is given towards Unicode is a code point, the same on every side of it
use mathlib.Core.Path.{◌≡◌, refl, ap, ◌∙◌}
use Prim.Native.Nat.{ℕ}
use mathlib.Core.Bool.{Bool, true, false}
use mathlib.Core.List.{List}
use mathlib.Core.Option.{Option, none, some}
use native.Mathlib.Omega.{arith}
use Rattle.lists.specs.Tests.{all_of}
use Rattle.utf.specs.Utf8.{Scalar}
use Rattle.utf.specs.Scheme.{Side}
use Rattle.utf.specs.declared.utf8.Stop.{Stop}
use Rattle.utf.specs.declared.utf8.Stop.TheVariants as stopped
use Rattle.utf.specs.declared.utf8.Sequence.{Sequence}
use Rattle.utf.specs.declared.utf8.Sequence.TheVariants as sequence
use Rattle.table.specs.Meaning.{Line, Table}
use Rattle.table.specs.Rules.{t6}
use Rattle.convert.specs.Run.{give, stop}
use Rattle.convert.specs.Step.{skipped, point_for, to_sequence, encoded, to_plain, to_step, Written, code, subchar1, nothing, writes, sent_for, stopped_by, from_plain, from_step}
use Rattle.convert.specs.declared.Settings.{Settings}
use Rattle.convert.specs.loops.Inner.{Sound, LawfulSide}
use Rattle.convert.proofs.PlainSteps.{to-plain, to_plain⇒Encoded, to-stops, to-scalar, to-plain-sound, to-plain-settled, from-plain, from-plain-sound, from-plain-settled}
use Rattle.convert.proofs.Skipping.{given_by, stopped_by_lem, skipping-sound}

pub to-sound : (u : Side) (t : Table) (settings : Settings) → Sound (to_step u t settings)
unfolding to_step
to-sound u t settings = skipping-sound settings.skip (u.encode 0xfffd) (to_plain u t settings) (to-plain-sound u t settings) (to-plain-settled u t settings)

pub from-sound : (u : Side) → LawfulSide u → (t : Table) (settings : Settings) → Sound (from_step u t settings)
unfolding from_step
from-sound u law t settings = skipping-sound settings.skip t.subchar (from_plain u t settings) (from-plain-sound u law t settings) (from-plain-settled u law t settings)

-- TO UNICODE
-- skipping leaves a complete code alone
pub point-kept : (skip : Bool) (bs : List ℕ) (u : Side) (row : ℕ) (sub1 : Option ℕ) (substitute : Bool) (n : ℕ) (o : Option Line)
    → skipped skip bs row (encoded u row (point_for sub1 substitute n o)) ≡ encoded u row (point_for sub1 substitute n o)
point-kept skip bs u row sub1 substitute n (some l) = refl
point-kept skip bs u row sub1 true n none = refl
point-kept skip bs u row sub1 false n none = refl

replacement-scalar : Scalar 0xfffd
replacement-scalar = record { below = omega arith; plain = λ w. omega (arith, w.1) }

module _ (t : Table) (settings : Settings) (row : ℕ) where
  pub to-gives : (u : Side) (s : List ℕ) (x : Sequence) → to_sequence t settings row s ≡ x
      → to_step u t settings row s ≡ skipped settings.skip (u.encode 0xfffd) row (encoded u row x)
  unfolding to_step
  to-gives u s x q = ap (skipped settings.skip (u.encode 0xfffd) row) (to-plain t settings row u s x q)

  -- a code point, encoded
  pub record Encoded (u : Side) (s bs : List ℕ) (n next : ℕ) : Type 0 where
    pub point : ℕ
    pub gives : (v : Side) → to_step v t settings row s ≡ give (v.encode point) n next
    pub spelt : u.encode point ≡ bs
    pub stays : row ≡ next
    pub scalar : all_of t6 t.lines ≡ true → Scalar point

  -- an illegal sequence that is skipped
  skipped-gives : (u : Side) (s : List ℕ) (n next : ℕ) → settings.skip ≡ true → to_plain u t settings row s ≡ stop (stopped.Illegal n) → row ≡ next
      → (v : Side) → to_step v t settings row s ≡ give (v.encode 0xfffd) n next
  unfolding to_step
  skipped-gives u s n next on q r v =
      ap (skipped settings.skip (v.encode 0xfffd) row) (to-stops t settings row u v s (stopped.Illegal n) q)
      ∙ ap (λ (k : Bool). skipped k (v.encode 0xfffd) row (stop (stopped.Illegal n))) on
      ∙ ap (give (v.encode 0xfffd) n) r

  pub to_step⇒Encoded : (u : Side) (s bs : List ℕ) (n next : ℕ) → to_step u t settings row s ≡ give bs n next → Encoded u s bs n next
  unfolding to_step
  to_step⇒Encoded u s bs n next e =
      given_by (u.encode 0xfffd) row (Encoded u s bs n next) settings.skip (to_plain u t settings row s) bs n next e
      (λ q.
      let k = to_plain⇒Encoded t settings row u s bs n next q in
      record {
        point = k.point;
        gives = λ v. to-gives v s (sequence.Scalar k.point n) k.reads ∙ ap (give (v.encode k.point) n) k.stays;
        spelt = k.spelt;
        stays = k.stays;
        scalar = λ ok. to-scalar t settings row s k.point n ok k.reads;
      })
      (λ on q b r. record { point = 0xfffd; gives = skipped-gives u s n next on q r; spelt = b; stays = r; scalar = λ ok. replacement-scalar })

  -- a stop does not depend on the Unicode side
  pub stops-alike : (u v : Side) (s : List ℕ) (w : Stop) → to_step u t settings row s ≡ stop w → to_step v t settings row s ≡ stop w
  unfolding to_step
  stops-alike u v s w e =
      let k = stopped_by_lem settings.skip (u.encode 0xfffd) row (to_plain u t settings row s) w e in
      ap (skipped settings.skip (v.encode 0xfffd) row) (to-stops t settings row u v s w k.0) ∙ k.1 (v.encode 0xfffd)

-- FROM UNICODE
-- skipping leaves a code point alone
sent-kept : (skip : Bool) (bs : List ℕ) (t : Table) (substitute : Bool) (row n : ℕ) (w : Written)
    → skipped skip bs row (sent_for t substitute row n w) ≡ sent_for t substitute row n w
sent-kept skip bs t substitute row n (code c) = refl
sent-kept skip bs t true row n subchar1 = refl
sent-kept skip bs t false row n subchar1 = refl
sent-kept skip bs t true row n nothing = refl
sent-kept skip bs t false row n nothing = refl

module _ (u : Side) (t : Table) (settings : Settings) (row : ℕ) (s : List ℕ) where
  pub from_gives : (c n : ℕ) → u.decode s ≡ sequence.Scalar c n
      → from_step u t settings row s ≡ sent_for t settings.substitute row n (writes t settings.fallback c)
  unfolding from_step
  from_gives c n q =
      ap (skipped settings.skip t.subchar row) (from-plain u t settings row s (sequence.Scalar c n) q)
      ∙ sent-kept settings.skip t.subchar t settings.substitute row n (writes t settings.fallback c)

  pub from-stopped : (w : Stop) → u.decode s ≡ sequence.Stopped w
      → from_step u t settings row s ≡ skipped settings.skip t.subchar row (stop (stopped_by u w))
  unfolding from_step
  from-stopped w q = ap (skipped settings.skip t.subchar row) (from-plain u t settings row s (sequence.Stopped w) q)
