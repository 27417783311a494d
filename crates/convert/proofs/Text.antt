-- What is written towards Unicode, with no mark, is text: code points of the input, spelt out, which read back as themselves; and how much room they need.
use mathlib.Core.Path.{◌≡◌, refl, sym, ap, subst, ◌∙◌}
use Prim.Native.Nat.{ℕ, ◌-◌, ◌≤◌, ◌<◌}
use mathlib.Core.List.{List, [], ◌∷◌, ◌++◌, map, flatten}
use mathlib.Core.Bool.{true}
use native.Mathlib.Omega.{arith}
use lib.ListN.{length, drop, length-drop}
use Rattle.utf.specs.Utf8.{Scalar}
use Rattle.utf.specs.Scheme.{Side}
use Rattle.utf.specs.declared.utf8.Stop.{Stop}
use Rattle.table.specs.Meaning.{Table}
use Rattle.table.specs.Rules.{t6}
use Rattle.lists.specs.Tests.{all_of}
use Rattle.convert.specs.Run.{give, stop, Run, run_of, after, ended_with}
use Rattle.convert.specs.Step.{to_step}
use Rattle.convert.specs.Claims.{code_points, on_text, text_step, all_read}
use Rattle.convert.specs.loops.Laws.{NotFull, spell}
use Rattle.convert.specs.declared.RunEnd.TheVariants.{OutputFull, Stopped}
use Rattle.convert.specs.declared.Settings.{Settings}
use Rattle.convert.proofs.Runs.{run-stop, run_more, every-run}
use Rattle.convert.proofs.Steps.{to_step⇒Encoded, stops-alike, to-sound}
use Rattle.convert.proofs.Whole.{InputOutput, inputs, outputs, GivesAll, run_of-GivesAll}
use Rattle.lists.specs.Order.{All as Every}
use Rattle.convert.specs.loops.Inner.{LawfulSide}

-- what a run has written, beside all code points of its input
pub record Spelt (u : Side) (r : Run) (all : List ℕ) : Type 0 where
  pub points : List ℕ
  pub rest : List ℕ
  pub first : all ≡ points ++ rest
  pub bytes : r.bytes ≡ spell u points
  pub scalar : Every Scalar points
  pub whole : NotFull r → rest ≡ []

spelt-on : (u : Side) (c n : ℕ) (bs : List ℕ) (r : Run) (all : List ℕ) → Scalar c → u.encode c ≡ bs → Spelt u r all → Spelt u (after n bs r) (c ∷ all)
unfolding spell
spelt-on u c n bs r all k e i =
    record {
      points = c ∷ i.points;
      rest = i.rest;
      first = ap (λ (x : List ℕ). c ∷ x) i.first;
      bytes = ap (λ (x : List ℕ). x ++ r.bytes) (sym e) ∙ ap (λ (x : List ℕ). u.encode c ++ x) i.bytes;
      scalar = (k, i.scalar);
      whole = λ f. i.whole f;
    }

module _ (u : Side) (t : Table) (settings : Settings) (ok : all_of t6 t.lines ≡ true) where
  -- as many places as bytes are enough for the code points
  abbrev Spells : ℕ → List ℕ → ℕ → Run → Type 0
  Spells row s room r = (places : ℕ) → length s ≤ places → Spelt u r (run_of (to_step code_points t settings) row 0 s places).bytes

  spelt-stop : (row : ℕ) (s : List ℕ) (room : ℕ) → 0 < length s → (w : Stop) → to_step u t settings row s ≡ stop w → Spells row s room (ended_with (Stopped w) row)
  unfolding spell
  spelt-stop row s room h w e places l =
      let p = run-stop (to_step code_points t settings) row s places h w (stops-alike t settings row u code_points s w e) in
      record { points = []; rest = []; first = ap (λ (r : Run). r.bytes) p; bytes = refl; scalar = tt; whole = λ f. refl }

  spelt-full : (row : ℕ) (s : List ℕ) (room : ℕ) → Spells row s room (ended_with OutputFull row)
  unfolding spell
  spelt-full row s room places l = record { points = []; rest = _; first = refl; bytes = refl; scalar = tt; whole = λ f. absurd (f refl) }

  spelt-more : (row : ℕ) (s : List ℕ) (room : ℕ) → 0 < length s → (bs : List ℕ) (n next : ℕ) → to_step u t settings row s ≡ give bs n next → length bs ≤ room
      → (r : Run) → Spells next (drop n s) (room - length bs) r → Spells row s room (after n bs r)
  spelt-more row s room h bs n next e l r ih places k =
      let c = to_step⇒Encoded t settings row u s bs n next e in
      let f = (to-sound u t settings).some row s bs n next e in
      let w = (to-sound u t settings).within row s bs n next e in
      let p = run_more (to_step code_points t settings) row s places h (c.point ∷ []) n next (c.gives code_points) f (omega arith) in
      subst (λ (x : Run). Spelt u (after n bs r) x.bytes) (sym p)
      (spelt-on u c.point n bs r _ (c.scalar ok) c.spelt (ih (places - 1) (omega (arith, length-drop n s))))

  pub spelt : (s : List ℕ) (row room : ℕ) → Spells row s room (run_of (to_step u t settings) row 0 s room)
  unfolding spell
  spelt =
      every-run (to_step u t settings) (to-sound u t settings) Spells
      (λ row room places l. record { points = []; rest = []; first = refl; bytes = refl; scalar = tt; whole = λ f. refl })
      spelt-stop
      (λ row s room h bs n next e l. spelt-full row s room)
      spelt-more

-- spelt code points read back as themselves
spellings : Side → List ℕ → List InputOutput
spellings u [] = []
spellings u (c ∷ cs) = record { input = u.encode c; output = c ∷ [] } ∷ spellings u cs

spell-in : (u : Side) (cs : List ℕ) → inputs (spellings u cs) ≡ spell u cs
unfolding spell spellings
spell-in u [] = refl
spell-in u (c ∷ cs) = ap (λ (l : List ℕ). u.encode c ++ l) (spell-in u cs)

spell-out : (u : Side) (cs : List ℕ) → outputs (spellings u cs) ≡ cs
unfolding spellings
spell-out u [] = refl
spell-out u (c ∷ cs) = ap (λ (l : List ℕ). c ∷ l) (spell-out u cs)

module _ (u : Side) (law : LawfulSide u) where
  spell-gives : (cs : List ℕ) → Every Scalar cs → GivesAll (text_step u) (spellings u cs)
  unfolding spellings
  spell-gives [] s = tt
  spell-gives (c ∷ cs) s = (law.some c, (λ rest. ap on_text (law.put_reads c rest s.0)), spell-gives cs s.1)

  pub reads-back : (cs : List ℕ) → Every Scalar cs → run_of (text_step u) 0 0 (spell u cs) (length cs) ≡ all_read (spell u cs) cs
  reads-back cs s =
      let b = spell-out u cs in
      let l : length (outputs (spellings u cs)) ≤ length cs = rw b (omega arith) in
      rw (spell-in u cs) at (rw b at (run_of-GivesAll (text_step u) (spellings u cs) (length cs) (spell-gives cs s) l))

pub spell-flat : (u : Side) (cs : List ℕ) → spell u cs ≡ flatten (map u.encode cs)
unfolding spell flatten
spell-flat u [] = refl
spell-flat u (c ∷ cs) = ap (λ (l : List ℕ). u.encode c ++ l) (spell-flat u cs)
