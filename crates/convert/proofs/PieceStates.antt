-- What is kept between the calls of a conversion in pieces, behind the mark: it passes the test behind 42, and a call keeps it so.
-- Contents: bytes; the state behind the mark (`StateFits`); what is kept (`Held`, `Passes`).
use Rattle.std.specs.Prelude.{Option as Optional, None}
use Rattle.utf.specs.declared.utf32.ByteOrder.{ByteOrder}
use mathlib.Core.Path.{◌≡◌, refl, sym, ap, subst, ◌∙◌}
use Prim.Native.Nat.{ℕ, ◌≤◌}
use mathlib.Core.List.{List, [], ◌∷◌, ◌++◌}
use mathlib.Core.Bool.{Bool, true, false}
use mathlib.Core.Option.{Option, none, some}
use native.Mathlib.Omega.{arith}
use borrow.Author.Tests.{leb-true, leb-false}
use lib.Dec.{leb, eqb}
use lib.ListN.{length, drop}
use Rattle.lists.specs.Pick.{◌and◌}
use Rattle.lists.proofs.Laws.{and_yes, drop_past}
use Rattle.lists.proofs.Cases.{pick-case, pick_yes}
use Rattle.utf.specs.declared.utf8.Stop.{Stop}
use Rattle.utf.specs.declared.utf8.Stop.TheVariants as stopped
use Rattle.utf.specs.declared.scheme.Scheme.{Scheme}
use Rattle.utf.specs.declared.scheme.Scheme.TheVariants as scheme
use Rattle.table.specs.Codes.{code_of, bytes_of, AllByte}
use Rattle.table.specs.Meaning.{Table, steps_of}
use Rattle.convert.specs.Run.{stop, SequenceStep, Run, run_of}
use Rattle.convert.specs.Convert.{from_run}
use Rattle.convert.specs.Pieces.{Carry, fresh, PieceRun, is_cut_short, keeping, ended_at, piece_on, state_at, step_in, due_in, due_state, is_ahead}
use Rattle.convert.specs.Pieces.{plain_mark_fits, mark_fits, length_fits, stands_fit, begun, is_nothing, kept_fits, stands_as, place_at, kept_as}
use Rattle.convert.specs.Pieces.{is_held}
use Rattle.convert.specs.loops.Inner.{Sound, Pieceable}
use Rattle.convert.specs.loops.Carried.{scheme_behind, mark_after}
use Rattle.convert.specs.declared.RunEnd.TheVariants.{Stopped}
use Rattle.convert.specs.declared.Settings.{Settings}
use Rattle.convert.specs.declared.pieces.Way.{Way}
use Rattle.convert.specs.declared.pieces.Way.TheVariants.{ToUnicode, FromUnicode}
use Rattle.convert.proofs.SkippedRuns.{bytes-behind}
use Rattle.convert.proofs.PieceRuns.{run-ends-as, is_cut_short-yes, Fit, piece_on-stands}
use Rattle.convert.proofs.KeptForms.{bytes_of-code_of, is_held-code_of, state_at-place_at, state_at-few}
use Rattle.convert.proofs.PieceSteps.{step_in-sound, step_in-to-run, step_in-from-run}
use Rattle.convert.proofs.PieceStops.{step_in-pieceable}
use Rattle.convert.proofs.PieceKept.{illegal-fits, begun-cut, begun-short-to, begun-on, begun-[]}

-- ## Bytes

AllByte-++⁺ : (s u : List ℕ) → AllByte s → AllByte u → AllByte (s ++ u)
unfolding AllByte
AllByte-++⁺ [] u a b = b
AllByte-++⁺ (x ∷ s) u a b = (a.0, AllByte-++⁺ s u a.1 b)

pub AllByte-++⁻ : (s u : List ℕ) → AllByte (s ++ u) → AllByte s
unfolding AllByte
AllByte-++⁻ [] u a = tt
AllByte-++⁻ (x ∷ s) u a = (a.0, AllByte-++⁻ s u a.1)

-- ## The state behind the mark

abbrev pub StateFits : Way → Scheme → ℕ → Type 0
StateFits way scheme.Utf8 st = st ≡ 0
StateFits way scheme.Utf32Be st = st ≡ 0
StateFits way scheme.Utf32Le st = st ≡ 0
StateFits ToUnicode scheme.Utf32 st = st ≡ 1
StateFits FromUnicode scheme.Utf32 st = st ≤ 2

pub StateFits-due_state : (way : Way) (e : Scheme) → StateFits way e (due_state way e 0)
StateFits-due_state ToUnicode scheme.Utf8 = refl
StateFits-due_state ToUnicode scheme.Utf32Be = refl
StateFits-due_state ToUnicode scheme.Utf32Le = refl
StateFits-due_state ToUnicode scheme.Utf32 = refl
StateFits-due_state FromUnicode scheme.Utf8 = refl
StateFits-due_state FromUnicode scheme.Utf32Be = refl
StateFits-due_state FromUnicode scheme.Utf32Le = refl
StateFits-due_state FromUnicode scheme.Utf32 = omega arith

StateFits-few : (way : Way) (e : Scheme) (st : ℕ) → StateFits way e st → st ≤ 2
StateFits-few way scheme.Utf8 st h = omega arith
StateFits-few way scheme.Utf32Be st h = omega arith
StateFits-few way scheme.Utf32Le st h = omega arith
StateFits-few ToUnicode scheme.Utf32 st h = omega arith
StateFits-few FromUnicode scheme.Utf32 st h = h

pub due_in-none : (way : Way) (e : Scheme) (st : ℕ) → StateFits way e st → due_in way e st ≡ []
due_in-none FromUnicode e st h = refl
due_in-none ToUnicode scheme.Utf8 st h = ap (due_in ToUnicode scheme.Utf8) h
due_in-none ToUnicode scheme.Utf32Be st h = ap (due_in ToUnicode scheme.Utf32Be) h
due_in-none ToUnicode scheme.Utf32Le st h = ap (due_in ToUnicode scheme.Utf32Le) h
due_in-none ToUnicode scheme.Utf32 st h = ap (due_in ToUnicode scheme.Utf32) h

pub due_state-none : (way : Way) (e : Scheme) (st : ℕ) → StateFits way e st → due_state way e st ≡ st
due_state-none FromUnicode e st h = refl
due_state-none ToUnicode scheme.Utf8 st h = refl
due_state-none ToUnicode scheme.Utf32Be st h = refl
due_state-none ToUnicode scheme.Utf32Le st h = refl
due_state-none ToUnicode scheme.Utf32 st h = sym h

StateFits⇒mark_fits : (way : Way) (e : Scheme) (st : ℕ) → StateFits way e st → (untouched : Bool) → mark_fits way e untouched (place_at st) ≡ true
StateFits⇒mark_fits way scheme.Utf8 st h b = ap (λ (x : ℕ). is_ahead (place_at x)) h
StateFits⇒mark_fits way scheme.Utf32Be st h b = ap (λ (x : ℕ). is_ahead (place_at x)) h
StateFits⇒mark_fits way scheme.Utf32Le st h b = ap (λ (x : ℕ). is_ahead (place_at x)) h
StateFits⇒mark_fits ToUnicode scheme.Utf32 st h b = ap (λ (x : ℕ). plain_mark_fits ToUnicode b (place_at x)) h
StateFits⇒mark_fits FromUnicode scheme.Utf32 st h b = refl

mark_fits-fresh : (way : Way) (e : Scheme) → mark_fits way e true None ≡ true
mark_fits-fresh way scheme.Utf8 = refl
mark_fits-fresh way scheme.Utf32Be = refl
mark_fits-fresh way scheme.Utf32Le = refl
mark_fits-fresh ToUnicode scheme.Utf32 = refl
mark_fits-fresh FromUnicode scheme.Utf32 = refl

module _ (t : Table) (settings : Settings) (s : List ℕ) (room : ℕ) where
  at_place : (e : Scheme) (p : Optional ByteOrder) → StateFits FromUnicode e (state_at p)
      → StateFits FromUnicode e (run_of (step_in FromUnicode e t settings) (state_at p) 0 s room).state
  at_place scheme.Utf8 p h = ap (λ (r : Run). r.state) (step_in-from-run scheme.Utf8 t settings p s room) ∙ h
  at_place scheme.Utf32Be p h = ap (λ (r : Run). r.state) (step_in-from-run scheme.Utf32Be t settings p s room) ∙ h
  at_place scheme.Utf32Le p h = ap (λ (r : Run). r.state) (step_in-from-run scheme.Utf32Le t settings p s room) ∙ h
  at_place scheme.Utf32 p h = subst (λ (x : ℕ). x ≤ 2) (sym (ap (λ (r : Run). r.state) (step_in-from-run scheme.Utf32 t settings p s room)))
      (state_at-few (mark_after scheme.Utf32 p s (from_run (scheme_behind scheme.Utf32 p) t settings s room).read))

  -- a run leaves it so
  StateFits-run : (way : Way) (e : Scheme) (st : ℕ) → StateFits way e st → StateFits way e (run_of (step_in way e t settings) st 0 s room).state
  StateFits-run ToUnicode e st h = subst (StateFits ToUnicode e) (sym (ap (λ (r : Run). r.state) (step_in-to-run e t settings st s room))) h
  StateFits-run FromUnicode e st h =
      let p = state_at-place_at st (StateFits-few FromUnicode e st h) in
      subst (λ (x : ℕ). StateFits FromUnicode e x → StateFits FromUnicode e (run_of (step_in FromUnicode e t settings) x 0 s room).state)
      p (at_place e (place_at st)) h

-- ## What is kept between calls

begun⇒length_fits : (way : Way) (e : Scheme) (t : Table) (settings : Settings) (st : ℕ) (old u : List ℕ) (n : ℕ)
    → begun way e (steps_of t) settings.skip old ≡ true → step_in way e t settings st (old ++ u) ≡ stop (stopped.Illegal n)
    → length_fits way e (length old) n ≡ true
begun⇒length_fits ToUnicode e t settings st old u n b h = illegal-fits ToUnicode e t settings st old u n h (λ y. begun-short-to e t settings st old b)
begun⇒length_fits FromUnicode e t settings st old u n b h = illegal-fits FromUnicode e t settings st [] (old ++ u) n h (λ y. absurd (omega arith))

module _ (way : Way) (e : Scheme) (t : Table) (settings : Settings) where
  abbrev step : SequenceStep
  step = step_in way e t settings

  so : Sound step
  so = step_in-sound way e t settings

  pe : Pieceable step
  pe = step_in-pieceable way e t settings

  abbrev begins : List ℕ → Bool
  begins s = begun way e (steps_of t) settings.skip s

  -- behind the mark
  pub record Held (k : Carry) : Type 0 where
    pub bytes : AllByte k.bytes
    pub few : length k.bytes ≤ 3
    pub state : StateFits way e k.state
    pub begun : begins k.bytes ≡ true
    pub stands : stands_fit way e (length k.bytes) (stands_as k.stands) ≡ true

  fits : (k : Carry) → AllByte k.bytes → length k.bytes ≤ 3
      → mark_fits way e (eqb (length k.bytes) 0 and is_nothing (stands_as k.stands)) (place_at k.state) ≡ true
      → stands_fit way e (length k.bytes) (stands_as k.stands) ≡ true → begins k.bytes ≡ true → kept_fits way e (steps_of t) settings (kept_as k) ≡ true
  unfolding kept_fits
  fits k a few m s b =
      pick_yes (is_held (code_of k.bytes)) _ false (is_held-code_of k.bytes a few)
      ∙ and_yes (mark_fits way e (eqb (length k.bytes) 0 and is_nothing (stands_as k.stands)) (place_at k.state)) _ m
      (and_yes (stands_fit way e (length k.bytes) (stands_as k.stands)) (begins (bytes_of (code_of k.bytes))) s
      (ap begins (bytes_of-code_of k.bytes a (omega arith)) ∙ b))

  Held⇒kept_fits : (k : Carry) → Held k → kept_fits way e (steps_of t) settings (kept_as k) ≡ true
  Held⇒kept_fits k h = fits k h.bytes h.few (StateFits⇒mark_fits way e k.state h.state _) h.stands h.begun

  fresh⇒kept_fits : kept_fits way e (steps_of t) settings (kept_as fresh) ≡ true
  unfolding AllByte
  fresh⇒kept_fits = fits fresh tt (omega arith) (mark_fits-fresh way e) refl (begun-[] way e t settings)

  -- as a call asks it of what it gets
  pub record Passes (k : Carry) : Type 0 where
    pub bytes : AllByte k.bytes
    pub few : length k.bytes ≤ 3
    pub state : k.state ≤ 2
    pub fits : kept_fits way e (steps_of t) settings (kept_as k) ≡ true

  pub Held⇒Passes : (k : Carry) → Held k → Passes k
  Held⇒Passes k h = record { bytes = h.bytes; few = h.few; state = StateFits-few way e k.state h.state; fits = Held⇒kept_fits k h }

  pub Passes-fresh : Passes fresh
  unfolding AllByte
  Passes-fresh = record { bytes = tt; few = omega arith; state = omega arith; fits = fresh⇒kept_fits }

  -- a call keeps it so
  module _ (k : Carry) (piece : List ℕ) (room : ℕ) (h : Held k) (bytes : AllByte piece) where
    abbrev now : Run
    now = run_of step k.state 0 (k.bytes ++ piece) room

    piece_bytes : AllByte (piece_on step k piece room).carry.bytes
    unfolding piece_on
    piece_bytes =
        pick-case (λ (a : PieceRun). AllByte a.carry.bytes) (is_cut_short now.end) (keeping k.bytes piece now) (ended_at k.bytes now)
        (λ q. bytes-behind now.read (k.bytes ++ piece) (AllByte-++⁺ k.bytes piece h.bytes bytes))
        (λ q. bytes-behind now.read k.bytes h.bytes)

    piece-state : StateFits way e (piece_on step k piece room).carry.state
    unfolding piece_on
    piece-state =
        let r = StateFits-run t settings (k.bytes ++ piece) room way e k.state h.state in
        pick-case (λ (a : PieceRun). StateFits way e a.carry.state) (is_cut_short now.end) (keeping k.bytes piece now)
        (ended_at k.bytes now) (λ q. r) (λ q. r)

    piece-begun : begins (piece_on step k piece room).carry.bytes ≡ true
    unfolding piece_on
    piece-begun =
        pick-case (λ (a : PieceRun). begins a.carry.bytes ≡ true) (is_cut_short now.end) (keeping k.bytes piece now) (ended_at k.bytes now)
        (λ q. begun-cut way e t settings now.state (drop now.read (k.bytes ++ piece))
        (run-ends-as step so (k.bytes ++ piece) k.state room (Stopped stopped.CutShort) (is_cut_short-yes now.end q)).1)
        (λ q. pick-case (λ (x : ℕ). begins (drop now.read k.bytes) ≡ true) (leb (length k.bytes) now.read) 0 0
        (λ l. ap begins (drop_past k.bytes now.read (leb-true _ _ l)) ∙ begun-[] way e t settings)
        (λ l. begun-on way e t settings k.state k.bytes piece room h.begun h.few (leb-false _ _ l)))

    module _ (u : List ℕ) (f : Fit step (piece_on step k piece room).carry u) where
      abbrev next : Carry
      next = (piece_on step k piece room).carry

      piece-stands : (o : Option Stop) → next.stands ≡ o → stands_fit way e (length next.bytes) (stands_as o) ≡ true
      piece-stands none z = refl
      piece-stands (some stopped.CutShort) z = absurd (piece_on-stands step so pe k piece room z)
      piece-stands (some (stopped.Illegal n)) z =
          begun⇒length_fits way e t settings next.state next.bytes u n piece-begun (f.stands (stopped.Illegal n) z).1
      piece-stands (some stopped.Unassigned) z = refl

      pub Held-piece : Held next
      Held-piece = record { bytes = piece_bytes; few = f.few; state = piece-state; begun = piece-begun; stands = piece-stands next.stands refl }
