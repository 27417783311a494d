-- A conversion that skips, in parts, whatever the step (document 02, request 3).
use mathlib.Core.Path.{◌≡◌, refl, sym, ap, subst, ◌∙◌}
use Prim.Native.Nat.{ℕ, zero, suc, ◌+◌, ◌-◌, ◌≤◌, ◌<◌}
use mathlib.Core.Bool.{true}
use mathlib.Core.List.{List, [], ◌∷◌, ◌++◌}
use native.Mathlib.Omega.{arith}
use lib.Dec.{leb}
use lib.ListN.{length, take, drop, take-append-drop, length-drop}
use lib.Seq.{drop-drop, length-take-le}
use Rattle.lists.proofs.Cases.{pick-case}
use Rattle.utf.specs.declared.utf8.Stop.TheVariants as stopped
use Rattle.convert.specs.Run.{stop, SequenceStep, Run, run_of, after}
use Rattle.convert.specs.Step.{skipping}
use Rattle.convert.specs.Claims.{all_read, Part, InParts}
use Rattle.convert.specs.declared.RunEnd.{RunEnd}
use Rattle.convert.specs.declared.RunEnd.TheVariants.{AllRead, OutputFull, BadTable, Stopped}
use Rattle.convert.specs.loops.Inner.{Sound, Settled, GivesAlone, Stays}
use Rattle.convert.specs.loops.Laws.{NotFull, split_by}
use Rattle.convert.proofs.Whole.{room-alike, reads-within, stops-there, state-stays}
use Rattle.convert.proofs.Skipping.{skipping-splits, part-alone}

module _ (bs : List ℕ) (step : SequenceStep) (so : Sound step) (se : Settled step) (alone : GivesAlone step) (stays : Stays step) where
  abbrev skips : SequenceStep
  skips = skipping true bs step

  state : (s : List ℕ) (room : ℕ) → (run_of step 0 0 s room).state ≡ 0
  state s room = state-stays step so stays s 0 room

  module _ (s : List ℕ) (room : ℕ) where
    -- the run that does not skip
    abbrev plain : Run
    plain = run_of step 0 0 s room

    within : plain.read ≤ length s
    within = reads-within step so s 0 room

    -- where it meets no illegal sequence
    unsplit : (h : RunEnd) → plain.end ≡ h → split_by skips bs s room plain h ≡ plain → NotFull (run_of skips 0 0 s room) → InParts step bs s (run_of skips 0 0 s room)
    unsplit h q same f =
        let e : run_of skips 0 0 s room ≡ plain = skipping-splits bs step so se s 0 room ∙ ap (split_by skips bs s room plain) q ∙ same in
        subst (InParts step bs s) (sym e)
        (record {
          parts = [];
          rest = s;
          joined = refl;
          stand = tt;
          last = plain;
          converts = room-alike step so s 0 room (λ z. f (ap (λ (r : Run). r.end) e ∙ z));
          ends = refl;
          place = omega arith;
          output = refl;
        })

    -- where it ends at an illegal sequence of n bytes: the part before it, and what stands there
    module _ (n : ℕ) (q : plain.end ≡ Stopped (stopped.Illegal n)) where
      abbrev behind : List ℕ
      behind = drop (plain.read + n) s

      there : step 0 (drop plain.read s) ≡ stop (stopped.Illegal n)
      there = ap (λ (st : ℕ). step st (drop plain.read s)) (sym (state s room)) ∙ stops-there step so s 0 room (stopped.Illegal n) q

      some : 0 < n
      some = se.illegal-some 0 (drop plain.read s) n there

      inside : plain.read + n ≤ length s
      inside = omega (arith, se.illegal-within 0 (drop plain.read s) n there, length-drop plain.read s, within)

      abbrev found : Part
      found = record { bytes = take plain.read s; gives = plain.bytes; illegal = take n (drop plain.read s) }

      part-whole : run_of step 0 0 (take plain.read s) room ≡ all_read (take plain.read s) plain.bytes
      part-whole =
          part-alone step so alone s 0 room
          ∙ (λ i. record { end = AllRead; read = sym (length-take-le plain.read s within) i; bytes = plain.bytes; state = state s room i })

      part-converts : (m : ℕ) → length plain.bytes ≤ m → run_of step 0 0 (take plain.read s) m ≡ all_read (take plain.read s) plain.bytes
      part-converts m l =
          room-alike step so (take plain.read s) 0 room (λ z. let y = ap (λ (r : Run). r.end) part-whole in let w : ◌≡◌ {A = ℕ} 0 1 = cc in omega arith) m
          (subst (λ (r : Run). length r.bytes ≤ m) (sym part-whole) l)
          ∙ part-whole

      long : length (take n (drop plain.read s)) ≡ n
      long = length-take-le n (drop plain.read s) (se.illegal-within 0 (drop plain.read s) n there)

      -- the rest of the input, as the illegal sequence and what is behind it
      split_rest : take n (drop plain.read s) ++ behind ≡ drop plain.read s
      split_rest = ap (λ (x : List ℕ). take n (drop plain.read s) ++ x) (sym (drop-drop n plain.read s)) ∙ take-append-drop n (drop plain.read s)

      -- one part more in front
      one_more : (room' : ℕ) → InParts step bs behind (run_of skips 0 0 behind room')
          → InParts step bs s (after plain.read plain.bytes (after n bs (run_of skips 0 0 behind room')))
      one_more room' i =
          record {
            parts = found ∷ i.parts;
            rest = i.rest;
            joined = sym (take-append-drop plain.read s)
                ∙ ap (λ (x : List ℕ). take plain.read s ++ x) (sym split_rest ∙ ap (λ (x : List ℕ). take n (drop plain.read s) ++ x) i.joined);
            stand = (
              part-converts,
              ap (step 0) (ap (λ (x : List ℕ). take n (drop plain.read s) ++ x) (sym i.joined) ∙ split_rest)
                  ∙ there
                  ∙ ap (λ (k : ℕ). stop (stopped.Illegal k)) (sym long),
              i.stand,
            );
            last = i.last;
            converts = i.converts;
            ends = i.ends;
            place = omega (arith, i.place, length-drop (plain.read + n) s, inside);
            output = ap (λ (x : List ℕ). plain.bytes ++ (bs ++ x)) i.output;
          }

      -- the run that skips goes on behind it, unless it is full
      goes_on : NotFull (run_of skips 0 0 s room)
          → (room' : ℕ) × (run_of skips 0 0 s room ≡ after plain.read plain.bytes (after n bs (run_of skips 0 0 behind room')))
      goes_on f =
          let left = room - length plain.bytes in
          let room' = left - length bs in
          let e = skipping-splits bs step so se s 0 room ∙ ap (split_by skips bs s room plain) q in
          let z : after plain.read plain.bytes (after n bs (run_of skips plain.state 0 behind room'))
          ≡ after plain.read plain.bytes (after n bs (run_of skips 0 0 behind room')) =
          ap (λ (st : ℕ). after plain.read plain.bytes (after n bs (run_of skips st 0 behind room'))) (state s room) in (
            room',
            pick-case (λ (r : Run). run_of skips 0 0 s room ≡ after plain.read plain.bytes r
                → run_of skips 0 0 s room ≡ after plain.read plain.bytes (after n bs (run_of skips 0 0 behind room')))
                (leb (length bs) left) _ _
                (λ t y. y ∙ z)
                (λ t y. absurd (f (ap (λ (r : Run). r.end) y)))
                e,
          )

  by_end : (s : List ℕ) (room : ℕ) → NotFull (run_of skips 0 0 s room)
      → ((x : List ℕ) (m : ℕ) → length x < length s → NotFull (run_of skips 0 0 x m) → InParts step bs x (run_of skips 0 0 x m))
      → (h : RunEnd) → (run_of step 0 0 s room).end ≡ h → InParts step bs s (run_of skips 0 0 s room)
  by_end s room f ih AllRead q = unsplit s room AllRead q refl f
  by_end s room f ih OutputFull q = unsplit s room OutputFull q refl f
  by_end s room f ih BadTable q = unsplit s room BadTable q refl f
  by_end s room f ih (Stopped stopped.CutShort) q = unsplit s room (Stopped stopped.CutShort) q refl f
  by_end s room f ih (Stopped stopped.Unassigned) q = unsplit s room (Stopped stopped.Unassigned) q refl f
  by_end s room f ih (Stopped (stopped.Illegal n)) q =
      let g = goes_on s room n q f in
      let few = some s room n q in
      let i = inside s room n q in
      subst (InParts step bs s) (sym g.1)
      (one_more s room n q g.0
      (ih (behind s room n q) g.0 (omega (arith, length-drop ((run_of step 0 0 s room).read + n) s)) (λ z. f (ap (λ (r : Run). r.end) g.1 ∙ z))))

  -- IN PARTS
  by_length : (k : ℕ) (s : List ℕ) (room : ℕ) → length s < k → NotFull (run_of skips 0 0 s room) → InParts step bs s (run_of skips 0 0 s room)
  by_length zero s room h f = absurd (omega arith)
  by_length (suc k) s room h f = by_end s room f (λ x m l. by_length k x m (omega arith)) (run_of step 0 0 s room).end refl

  pub in_parts : (s : List ℕ) (room : ℕ) → NotFull (run_of skips 0 0 s room) → InParts step bs s (run_of skips 0 0 s room)
  in_parts s room = by_length (suc (length s)) s room (omega arith)
