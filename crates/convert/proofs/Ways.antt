-- One sequence of either way, and what it makes of a run that is on the way.
-- goes-on, ends-there         a run, behind one sequence or where it ends
-- to-done, to-full, to-scalar     towards Unicode, by what the encoder answers
-- from-done, from-full            from Unicode, by whether the code fits
use Rattle.std.specs.Prelude.{Result, Ok, Err}
use mathlib.Core.Path.{◌≡◌, sym, ap, subst, ◌∙◌}
use Prim.Native.Nat.{ℕ, ◌+◌, ◌-◌, ◌<◌}
use mathlib.Core.List.{List, [], ◌∷◌}
use mathlib.Core.Bool.{true, false}
use lib.ListN.{length, take, drop}
use Rattle.lists.specs.Pick.{pick}
use Rattle.lists.specs.Place.{fits, placed}
use Rattle.lists.proofs.Parts.{take_drop_all}
use Rattle.utf.specs.Utf8.{Scalar, encode_answer, encode_into}
use Rattle.utf.specs.Scheme.{Side, side_of}
use Rattle.utf.specs.declared.utf8.PutError.TheVariants.{NoRoom, NotScalar}
use Rattle.utf.specs.declared.utf8.Sequence.{Sequence}
use Rattle.utf.specs.declared.utf8.Sequence.TheVariants as sequence
use Rattle.utf.specs.declared.scheme.Scheme.{Scheme}
use Rattle.utf.proofs.Puts.{put-done, put_full, put_refused}
use Rattle.table.specs.Limits.{limits}
use Rattle.table.specs.Codes.{unpacked}
use Rattle.table.specs.Meaning.{Table}
use Rattle.table.specs.Rules.{Keeps}
use Rattle.table.proofs.Packing.{length-unpacked}
use Rattle.convert.specs.Run.{give, SequenceStep, run_of, converted_of, put_out}
use Rattle.convert.specs.Step.{encoded, to_step, from_step}
use Rattle.convert.specs.Claims.{code_points}
use Rattle.convert.specs.loops.Inner.{sent_of, Sound}
use Rattle.convert.specs.loops.Ways.{Gave, Advances}
use Rattle.convert.specs.declared.Converted.{Converted}
use Rattle.convert.specs.declared.RunEnd.{RunEnd}
use Rattle.convert.specs.declared.RunEnd.TheVariants.{AllRead, OutputFull, BadTable, Stopped}
use Rattle.convert.specs.declared.Sent.{Sent}
use Rattle.convert.specs.declared.Sent.TheVariants as sent
use Rattle.convert.specs.declared.Settings.{Settings}
use Rattle.convert.specs.declared.way.Moved.{Moved}
use Rattle.convert.proofs.CodeBytes.{was-full, was-put}
use Rattle.convert.proofs.Runs.{Going, run-turn, ends-stop, ends-full}
use Rattle.convert.proofs.PlainSteps.{lawful}
use Rattle.convert.proofs.Steps.{to-sound, from-sound, to_step⇒Encoded}

-- a sequence of a sound step
abbrev gave-by : (step : SequenceStep) → Sound step → (s bs : List ℕ) (n : ℕ) → step 0 s ≡ give bs n 0 → Gave step s n
gave-by step so s bs n e = record { bytes = bs; gives = e; some = so.some 0 s bs n 0 e; within = so.within 0 s bs n 0 e }

-- what a call on the rest of the input says of it
pub advances-at : (step : SequenceStep) (s out : List ℕ) (at w : ℕ) (r : Result Moved RunEnd) (new : List ℕ) → Advances step (take (length s - at) (drop at s)) out w r new
    → (q : Result Moved RunEnd) → r ≡ q → Advances step (drop at s) out w q new
advances-at step s out at w r new a q e =
    subst (λ (x : Result Moved RunEnd). Advances step (drop at s) out w x new) e
    (subst (λ (x : List ℕ). Advances step x out w r new) (take_drop_all s at) a)

-- A RUN that is on the way
module _ (step : SequenceStep) (s old out : List ℕ) (at w : ℕ) (g : Going step 0 s old out 0 at w) (left : at < length s) (new : List ℕ) where
  pub goes-on : (m : Moved) → Advances step (drop at s) out w (Ok m) new → Going step 0 s old new 0 (at + m.read) (w + m.written)
  goes-on m (x, c, l, z) = run-turn g left x.bytes m.read 0 x.gives x.some x.within m.written new c l z

  abbrev Ends : RunEnd → Type 0
  Ends h =
      (◌≡◌ {A = Converted} (record { end = h; read = at; written = w }) (converted_of (run_of step 0 0 s (length old))))
      × (new ≡ put_out (run_of step 0 0 s (length old)) old)

  pub ends-there : (h : RunEnd) → Advances step (drop at s) out w (Err h) new → Ends h
  ends-there (Stopped why) (e, q) = let r = ends-stop g left why e in (r.0, q ∙ r.1)
  ends-there OutputFull (n, x, f, q) = let r = ends-full g left x.bytes n 0 x.gives f in (r.0, q ∙ r.1)
  ends-there AllRead a = absurd a
  ends-there BadTable a = absurd a

-- TOWARDS UNICODE: what was read as a code point, on every side of Unicode
module _ (e : Scheme) (t : Table) (settings : Settings) (s old : List ℕ) (at : ℕ) (x : Sequence)
    (gave : (u : Side) → encoded u 0 x ≡ to_step u t settings 0 s) (c n : ℕ) (is : x ≡ sequence.Scalar c n) where
  abbrev u : Side
  u = side_of e

  gives-on : (v : Side) → to_step v t settings 0 s ≡ give (v.encode c) n 0
  gives-on v = sym (gave v) ∙ ap (encoded v 0) is

  abbrev gave-to : Gave (to_step u t settings) s n
  gave-to = gave-by (to_step u t settings) (to-sound u t settings) s (u.encode c) n (gives-on u)

  module _ (new : List ℕ) (into : new ≡ encode_into u.encode c old at) where
    pub to-done : (m : ℕ) → Ok m ≡ encode_answer u.encode c old at → Advances (to_step u t settings) s old at (Ok (record { read = n; written = m })) new
    to-done m q = let p = put-done u.encode c old at m q in (gave-to, p.count, p.within, into ∙ p.bytes)

    pub to-full : Err NoRoom ≡ encode_answer u.encode c old at → Advances (to_step u t settings) s old at (Err OutputFull) new
    to-full q = let p = put_full u.encode c old at q in (n, gave-to, p.beyond, into ∙ p.kept)

  -- with the rules kept it is a scalar value (T6)
  pub to-scalar : Keeps limits t → Err NotScalar ≡ encode_answer u.encode c old at → ⊥
  to-scalar keeps q =
      let g = to_step⇒Encoded t settings 0 code_points s (c ∷ []) n 0 (gives-on code_points) in
      let spelt = g.spelt in
      let same : g.point ≡ c = cc in
      (put_refused u.encode c old at q).other (subst Scalar same (g.scalar keeps.so_far.rule6))

-- FROM UNICODE: a code that is to be put
module _ (e : Scheme) (t : Table) (settings : Settings) (s old : List ℕ) (at : ℕ) (x : Sent)
    (gave : sent_of x ≡ from_step (side_of e) t settings 0 s) (bits len n : ℕ) (is : x ≡ sent.Code bits len n)
    (new : List ℕ) (put : new ≡ pick (fits old at (unpacked len bits)) (placed old at (unpacked len bits)) old) where
  abbrev gave-from : Gave (from_step (side_of e) t settings) s n
  gave-from =
      gave-by (from_step (side_of e) t settings) (from-sound (side_of e) (lawful e) t settings) s (unpacked len bits) n
      (sym gave ∙ ap sent_of is)

  pub from-done : true ≡ fits old at (unpacked len bits) → Advances (from_step (side_of e) t settings) s old at (Ok (record { read = n; written = len })) new
  from-done q = let p = was-put old at len bits new put (sym q) in (gave-from, sym (length-unpacked len bits), p.0, p.1)

  pub from-full : false ≡ fits old at (unpacked len bits) → Advances (from_step (side_of e) t settings) s old at (Err OutputFull) new
  from-full q = let p = was-full old at len bits new put (sym q) in (n, gave-from, p.0, p.1)
