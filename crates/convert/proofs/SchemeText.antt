-- The conversions by a table in a scheme: the mark, and then what they are in the scheme's side.
-- to-more-room, from-more-room   more space changes nothing      room-enough, from-room-enough   four places for each byte, and the mark's
-- text-so-far, text-whole   what is written reads back in its scheme        well-formed-in    and is well formed in it
-- there-in, back_in   a frame of codes that round-trip            round-trip-runs   one code that does
use mathlib.Core.Path.{◌≡◌, refl, sym, ap, subst, ◌∙◌}
use Prim.Native.Nat.{ℕ, ◌+◌, ◌-◌, ◌*◌, ◌≤◌}
use mathlib.Core.Bool.{Bool, true}
use mathlib.Core.Logic.{◌↔◌}
use mathlib.Core.List.{List, [], ◌∷◌, ◌++◌, append-nil, map, flatten}
use native.Mathlib.Omega.{arith}
use native.Mathlib.Nat.{zero-add}
use lib.ListN.{length, length-append}
use lib.Seq.{take-append_seam}
use Rattle.lists.specs.Order.{All as Every}
use Rattle.lists.specs.Tests.{all_of}
use Rattle.lists.proofs.Order.{All-map⁺, All-⇒}
use Rattle.utf.specs.Utf8.{Scalar, encode_of}
use Rattle.utf.specs.Utf32.{mark_in, decode_in, mark_at}
use Rattle.utf.specs.WellFormed.{well_formed}
use Rattle.utf.specs.Scheme.{side_of, well_formed_in}
use Rattle.utf.specs.declared.utf32.ByteOrder.TheVariants.{Big, Little}
use Rattle.utf.specs.declared.scheme.Scheme.{Scheme}
use Rattle.utf.specs.declared.scheme.Scheme.TheVariants as scheme
use Rattle.utf.proofs.RoundTrip.{utf8-encode-decode}
use Rattle.utf.proofs.WellFormed.{decodes-well-formed}
use Rattle.utf.proofs.FourBytes.{formed_in-encode_in}
use Rattle.table.specs.Limits.{Limits}
use Rattle.table.specs.States.{is_code}
use Rattle.table.specs.Codes.{AllByte}
use Rattle.table.specs.Meaning.{Table, steps_of}
use Rattle.table.specs.Rules.{t6, Keeps}
use Rattle.convert.specs.Run.{Run, run_of, after}
use Rattle.convert.specs.Step.{strict, to_step, from_step}
use Rattle.convert.specs.Convert.{mark_of, to_side, from_side, to_run, from_run}
use Rattle.convert.specs.Claims.{WellFormedText, points_in, text_step, all_read, ReadsAs, ReadsAsFirst, RoundTrips, RoundTripCode, frame_of}
use Rattle.convert.specs.loops.Laws.{NotFull, spell, RoundTripsByRuns, points_of}
use Rattle.convert.specs.declared.RunEnd.TheVariants.{AllRead}
use Rattle.convert.specs.declared.Settings.{Settings}
use Rattle.convert.proofs.Whole.{more_room, four-enough}
use Rattle.convert.proofs.PlainSteps.{lawful}
use Rattle.convert.proofs.Steps.{to-sound, from-sound}
use Rattle.convert.proofs.Text.{Spelt, spelt, reads-back, spell-flat}
use Rattle.convert.proofs.Schemes.{write_in-mark, write_in-case, write_in-more, read_in-mark, read_in-case, read_in-more}
use Rattle.convert.proofs.FourEach.{to-four, from-four}
use Rattle.convert.proofs.ThereAndBack.{there, back}
use Rattle.convert.proofs.RoundTrips.{round-trip-side}

-- behind a mark: all of it is read
after-all : (m s bs : List ℕ) → after (length m) [] (all_read s bs) ≡ all_read (m ++ s) bs
after-all m s bs = ap (λ (n : ℕ). record { end = AllRead; read = n; bytes = bs; state = 0 }) (sym (length-append m s))

-- no bytes are a text of no code points
nothing-reads : (e : Scheme) → ReadsAs e [] []
unfolding mark_at decode_in
nothing-reads scheme.Utf8 = refl
nothing-reads scheme.Utf32Be = refl
nothing-reads scheme.Utf32Le = refl
nothing-reads scheme.Utf32 = refl

-- a scalar value is encoded as one whole well-formed sequence
utf8-formed : (c : ℕ) → Scalar c → well_formed (encode_of c) ≡ true
utf8-formed c s =
    let b = encode_of c in
    let r = (decodes-well-formed (b ++ []) c (length b)).0 (utf8-encode-decode c [] s) in
    ap well_formed (sym (take-append_seam b [])) ∙ r.formed

encodes-formed : (e : Scheme) (c : ℕ) → Scalar c → well_formed_in e ((side_of e).encode c) ≡ true
encodes-formed scheme.Utf8 = utf8-formed
encodes-formed scheme.Utf32Be = formed_in-encode_in Big
encodes-formed scheme.Utf32Le = formed_in-encode_in Little
encodes-formed scheme.Utf32 = formed_in-encode_in Big

-- the mark is one such sequence, or none
marks : Scheme → List (List ℕ)
marks scheme.Utf8 = []
marks scheme.Utf32Be = []
marks scheme.Utf32Le = []
marks scheme.Utf32 = mark_in Big ∷ []

marks-flat : (e : Scheme) (l : List (List ℕ)) → mark_of e ++ flatten l ≡ flatten (marks e ++ l)
unfolding marks flatten
marks-flat scheme.Utf8 l = refl
marks-flat scheme.Utf32Be l = refl
marks-flat scheme.Utf32Le l = refl
marks-flat scheme.Utf32 l = refl

marks-formed : (e : Scheme) (l : List (List ℕ)) → Every (λ q. well_formed_in e q ≡ true) l → Every (λ q. well_formed_in e q ≡ true) (marks e ++ l)
unfolding marks
marks-formed scheme.Utf8 l h = h
marks-formed scheme.Utf32Be l h = h
marks-formed scheme.Utf32Le l h = h
marks-formed scheme.Utf32 l h = (formed_in-encode_in Big 0xfeff (record { below = omega arith; plain = λ w. omega (arith, w.1) }), h)

module _ (e : Scheme) (t : Table) (settings : Settings) where
  -- ## Space

  pub to-more-room : (s : List ℕ) (room m : ℕ) → NotFull (to_run e t settings s room) → to_run e t settings s (room + m) ≡ to_run e t settings s room
  to-more-room s = write_in-more (λ u. to_side u t settings s) (λ u room m. more_room _ (to-sound u t settings) s 0 room m) e

  pub room-enough : (s : List ℕ) (room : ℕ) → length (mark_of e) + 4 * length s ≤ room → NotFull (to_run e t settings s room)
  room-enough s room h f =
      let w = write_in-mark (λ u. to_side u t settings s) e room (omega arith) in
      four-enough (to_step (side_of e) t settings) (to-sound (side_of e) t settings) (to-four (side_of e) (lawful e) t settings) s 0 (room - length (mark_of e)) (omega arith) (ap (λ (r : Run). r.end) (sym w) ∙ f)

  -- ## Text

  module _ (ok : all_of t6 t.lines ≡ true) (s : List ℕ) (room : ℕ) where
    abbrev wrote : Spelt (side_of e) (to_side (side_of e) t settings s (room - length (mark_of e))) (points_in t settings s)
    wrote = spelt (side_of e) t settings ok s 0 (room - length (mark_of e)) (length s) (omega arith)

    -- behind its mark a text reads as its code points
    reads_in : (cs : List ℕ) → Every Scalar cs → ReadsAs e (mark_of e ++ spell (side_of e) cs) cs
    reads_in cs k =
        read_in-mark (λ u. run_of (text_step u) 0 0) e (spell (side_of e) cs) (length cs)
        ∙ ap (after (length (mark_of e)) []) (reads-back (side_of e) (lawful e) cs k)
        ∙ after-all (mark_of e) (spell (side_of e) cs) cs

    -- whatever the answer, what is written reads as the first of the input's code points
    pub text-so-far : ReadsAsFirst e (to_run e t settings s room).bytes (points_in t settings s)
    text-so-far =
        write_in-case (λ u. to_side u t settings s) (λ (r : Run). ReadsAsFirst e r.bytes (points_in t settings s)) e room
        (record { points = []; rest = points_in t settings s; first = refl; reads = nothing-reads e })
        (λ l. record {
          points = wrote.points;
          rest = wrote.rest;
          first = wrote.first;
          reads = rw wrote.bytes (reads_in wrote.points wrote.scalar);
        })

    -- and is well formed
    pub well-formed-in : WellFormedText e (to_run e t settings s room).bytes
    unfolding flatten
    well-formed-in =
        write_in-case (λ u. to_side u t settings s) (λ (r : Run). WellFormedText e r.bytes) e room
        (record { sequences = []; joined = refl; formed = tt })
        (λ l.
        let encode = (side_of e).encode in
        record {
          sequences = marks e ++ map encode wrote.points;
          joined = ap (λ (x : List ℕ). mark_of e ++ x) (wrote.bytes ∙ spell-flat (side_of e) wrote.points) ∙ marks-flat e (map encode wrote.points);
          formed = marks-formed e (map encode wrote.points)
              (All-map⁺ encode (λ q. well_formed_in e q ≡ true) wrote.points (All-⇒ (encodes-formed e) wrote.points wrote.scalar));
        })

    -- unless the answer is 50, it reads as all of the input's code points
    pub text-whole : NotFull (to_run e t settings s room) → ReadsAs e (to_run e t settings s room).bytes (points_in t settings s)
    text-whole =
        write_in-case (λ u. to_side u t settings s) (λ (r : Run). NotFull r → ReadsAs e r.bytes (points_in t settings s)) e room
        (λ f. absurd (f refl))
        (λ l f.
        let all : wrote.points ≡ points_in t settings s =
        sym (wrote.first ∙ ap (λ (x : List ℕ). wrote.points ++ x) (wrote.whole f) ∙ append-nil wrote.points) in
        rw wrote.bytes (subst (ReadsAs e (mark_of e ++ spell (side_of e) wrote.points)) all (reads_in wrote.points wrote.scalar)))

pub from-more-room : (e : Scheme) (t : Table) (settings : Settings) (s : List ℕ) (room m : ℕ)
    → NotFull (from_run e t settings s room) → from_run e t settings s (room + m) ≡ from_run e t settings s room
from-more-room e t settings = read_in-more (λ u. from_side u t settings) (λ u law s room m. more_room _ (from-sound u law t settings) s 0 room m) e

pub from-room-enough : (lim : Limits) (t : Table) → Keeps lim t → AllByte t.subchar → (e : Scheme) (settings : Settings) (s : List ℕ) (room : ℕ)
    → 4 * length s ≤ room → NotFull (from_run e t settings s room)
from-room-enough lim t keeps bytes e settings s room h =
    read_in-case (λ u. from_side u t settings) NotFull e s room
    (λ u law unit rest l. four-enough (from_step u t settings) (from-sound u law t settings) (from-four lim t keeps bytes u settings) rest 0 room (omega arith))
    (λ r f. f)

-- ## There and back

module _ (e : Scheme) (lim : Limits) (t : Table) (keeps : Keeps lim t) (settings : Settings) where
  -- a frame's text, with its mark
  abbrev pub text_of : List (RoundTripCode t settings.fallback) → List ℕ
  text_of l = mark_of e ++ spell (side_of e) (points_of l)

  pub there-in : (l : List (RoundTripCode t settings.fallback)) (room : ℕ) → length (text_of l) ≤ room
      → to_run e t settings (frame_of l) room ≡ all_read (frame_of l) (text_of l)
  there-in l room h =
      let n = length-append (mark_of e) (spell (side_of e) (points_of l)) in
      write_in-mark (λ u. to_side u t settings (frame_of l)) e room (omega arith)
      ∙ ap (after 0 (mark_of e)) (there lim t keeps settings (side_of e) (lawful e) l (room - length (mark_of e)) (omega arith))
      ∙ ap (λ (k : ℕ). record { end = AllRead; read = k; bytes = text_of l; state = 0 }) (zero-add (length (frame_of l)))

  pub back_in : (l : List (RoundTripCode t settings.fallback)) (room : ℕ) → length (frame_of l) ≤ room
      → from_run e t settings (text_of l) room ≡ all_read (text_of l) (frame_of l)
  back_in l room h =
      read_in-mark (λ u. from_side u t settings) e (spell (side_of e) (points_of l)) room
      ∙ ap (after (length (mark_of e)) []) (back lim t keeps settings (side_of e) (lawful e) l room h)
      ∙ after-all (mark_of e) (spell (side_of e) (points_of l)) (frame_of l)

-- what two runs show of a code
abbrev Shows : Run → Run → List ℕ → Type 0
Shows there back c = (there.end ≡ AllRead) × (back.end ≡ AllRead) × (back.bytes ≡ c)

-- one code: exactly when it round-trips
pub round-trip-runs : (e : Scheme) (lim : Limits) (t : Table) → Keeps lim t → (fallback : Bool) (c : List ℕ) → AllByte c → is_code (steps_of t) 0 c ≡ true
    → (room room' : ℕ) → length (mark_of e) + 4 ≤ room → 4 ≤ room' → RoundTrips t fallback c ↔ RoundTripsByRuns e t fallback c room room'
round-trip-runs e lim t keeps fallback c bytes whole room room' long long' =
    let n = length (mark_of e) in
    let S = to_side (side_of e) t (strict fallback) c (room - n) in
    let w = write_in-mark (λ u. to_side u t (strict fallback) c) e room (omega arith) in
    let b = read_in-mark (λ u. from_side u t (strict fallback)) e S.bytes room' in
    subst (λ (r : Run). RoundTrips t fallback c ↔ Shows r (from_run e t (strict fallback) r.bytes room') c) (sym w)
    (subst (λ (q : Run). RoundTrips t fallback c ↔ Shows S q c) (sym b)
    (round-trip-side (side_of e) (lawful e) lim t keeps fallback c bytes whole (room - n) room' (omega arith) long'))
