-- The length beside a 52 that stands is at most four, so it fits into 32 bits.
-- piece-few, close-few   of every call that is not refused
use Rattle.std.specs.Prelude.{Option as Optional, Some, None}
use mathlib.Core.Path.{◌≡◌, refl, sym, subst}
use Prim.Native.Nat.{ℕ, ◌≤◌}
use mathlib.Core.Bool.{Bool, true, false}
use mathlib.Core.List.{List, [], ◌∷◌, ◌++◌}
use mathlib.Core.Option.{Option, none, some}
use native.Mathlib.Omega.{arith}
use borrow.Author.Tests.{leb-true, eqb-true}
use lib.Dec.{leb, eqb}
use lib.ListN.{length, drop}
use Rattle.lists.specs.Pick.{◌and◌}
use Rattle.lists.proofs.Laws.{clash}
use Rattle.lists.proofs.Cases.{pick-case}
use Rattle.utf.specs.Scheme.{side_of}
use Rattle.utf.specs.declared.utf8.Stop.{Stop}
use Rattle.utf.specs.declared.utf8.Stop.TheVariants as stopped
use Rattle.utf.specs.declared.scheme.Scheme.{Scheme}
use Rattle.utf.specs.declared.scheme.Scheme.TheVariants as scheme
use Rattle.table.specs.Limits.{Limits}
use Rattle.table.specs.Codes.{bytes_of}
use Rattle.table.specs.Meaning.{Table, steps_of}
use Rattle.table.specs.Slices.{Slices}
use Rattle.table.specs.Memory.{table_in}
use Rattle.table.specs.Valid.{valid}
use Rattle.table.specs.declared.valid.Record.{Record}
use Rattle.convert.specs.Run.{run_of}
use Rattle.convert.specs.Pieces.{Carry, PieceRun, is_cut_short, standing, keeping, ended_at, piece_on, unless, state_at, step_in, due_in, past_due, piece_behind, piece_in, close_bytes, close_in, length_fits, stands_fit, kept_fits, stands_in, stands_as, carry_in, PieceAnswer, answered_piece, piece_guarded, piece_tested, close_tested}
use Rattle.convert.specs.loops.Carried.{is_refused, FewBytes}
use Rattle.convert.specs.declared.RunEnd.{RunEnd}
use Rattle.convert.specs.declared.RunEnd.TheVariants.{AllRead, OutputFull, BadTable, Stopped}
use Rattle.convert.specs.declared.Settings.{Settings}
use Rattle.convert.specs.declared.pieces.Way.{Way}
use Rattle.convert.specs.declared.pieces.Way.TheVariants.{ToUnicode, FromUnicode}
use Rattle.convert.specs.declared.pieces.Kept.{Kept}
use Rattle.convert.proofs.Whole.{stops-there}
use Rattle.convert.proofs.PieceSteps.{step_in-sound}
use Rattle.convert.proofs.PieceKept.{illegal-fits}
use Rattle.convert.proofs.KeptForms.{stands_as-stands_in}
use Rattle.convert.proofs.PieceTests.{kept_fits⇒stands_fit}

unit-few : (e : Scheme) (m : ℕ) → eqb m (side_of e).unit ≡ true → m ≤ 4
unit-few scheme.Utf8 m h = omega (arith, eqb-true m 1 h)
unit-few scheme.Utf32Be m h = omega (arith, eqb-true m 4 h)
unit-few scheme.Utf32Le m h = omega (arith, eqb-true m 4 h)
unit-few scheme.Utf32 m h = omega (arith, eqb-true m 4 h)

-- a length that fits
fits-few : (way : Way) (e : Scheme) (n m : ℕ) → length_fits way e n m ≡ true → m ≤ 4
fits-few FromUnicode e n m = λ h. unit-few e m h
fits-few ToUnicode e n m =
    pick-case (λ (b : Bool). b ≡ true → m ≤ 4) (leb 1 m) (leb n m and leb m 4) false
    (λ q. pick-case (λ (b : Bool). b ≡ true → m ≤ 4) (leb n m) (leb m 4) false (λ r h. leb-true m 4 h) (λ r h. absurd (clash h refl)))
    (λ q h. absurd (clash h refl))

stands-few : (way : Way) (e : Scheme) (n : ℕ) (s : Optional Stop) → stands_fit way e n s ≡ true → FewBytes s
stands-few way e n None h = tt
stands-few way e n (Some stopped.CutShort) h = tt
stands-few way e n (Some (stopped.Illegal m)) h = fits-few way e n m h
stands-few way e n (Some stopped.Unassigned) h = tt

abbrev Few : Option Stop → Type 0
Few o = FewBytes (stands_as o)

module _ (way : Way) (e : Scheme) (t : Table) (settings : Settings) where
  -- how a run ended
  end-few : (st : ℕ) (s : List ℕ) (room : ℕ) (h : RunEnd) → (run_of (step_in way e t settings) st 0 s room).end ≡ h → Few (standing h)
  end-few st s room AllRead q = tt
  end-few st s room OutputFull q = tt
  end-few st s room BadTable q = tt
  end-few st s room (Stopped stopped.CutShort) q = tt
  end-few st s room (Stopped stopped.Unassigned) q = tt
  end-few st s room (Stopped (stopped.Illegal n)) q =
      let r = run_of (step_in way e t settings) st 0 s room in
      let there = stops-there (step_in way e t settings) (step_in-sound way e t settings) s st room (stopped.Illegal n) q in
      fits-few way e 0 n (illegal-fits way e t settings r.state [] (drop r.read s) n there (λ l. absurd (omega arith)))

  piece_on-few : (k : Carry) (piece : List ℕ) (room : ℕ) → Few (piece_on (step_in way e t settings) k piece room).carry.stands
  unfolding piece_on
  piece_on-few k piece room =
      let r = run_of (step_in way e t settings) k.state 0 (k.bytes ++ piece) room in
      pick-case (λ (x : PieceRun). Few x.carry.stands) (is_cut_short r.end) (keeping k.bytes piece r) (ended_at k.bytes r)
      (λ q. tt) (λ q. end-few k.state (k.bytes ++ piece) room r.end refl)

  behind-few : (k : Carry) (piece : List ℕ) (room : ℕ) → Few k.stands → Few (piece_behind way e t settings k piece room).carry.stands
  unfolding piece_behind
  behind-few k piece room h =
      pick-case (λ (x : PieceRun). Few x.carry.stands) (leb (length (due_in way e k.state)) room) _ _ (λ q. piece_on-few (past_due way e k) piece _) (λ q. h)

unless-few : (o : Option Stop) (k : Carry) (r : PieceRun) → Few k.stands → Few r.carry.stands → Few (unless o k r).carry.stands
unless-few none k r h g = g
unless-few (some w) k r h g = h

close-bytes-few : (due : List ℕ) (k : Carry) (s : List ℕ) (room : ℕ) → Few k.stands → Few (close_bytes due k s room).carry.stands
close-bytes-few due k (b ∷ s) room h = tt
close-bytes-few due k [] room h = pick-case (λ (x : PieceRun). Few x.carry.stands) (leb (length due) room) _ _ (λ q. tt) (λ q. h)

module _ (way : Way) (e : Scheme) (lim : Limits) (rec : Record) (m : Slices) (settings : Settings) (k : Kept) where
  abbrev fits : Bool
  fits = kept_fits way e (steps_of (table_in rec m)) settings k

  guarded-few : (r : PieceRun) → (Few (stands_in k.standing) → Few r.carry.stands)
      → let a = piece_guarded way e lim rec m settings k r in is_refused a.end ≡ false → FewBytes a.kept.standing
  guarded-few r h =
      pick-case (λ (a : PieceAnswer). is_refused a.end ≡ false → FewBytes a.kept.standing) (valid lim rec m) _ _
      (λ v. pick-case (λ (a : PieceAnswer). is_refused a.end ≡ false → FewBytes a.kept.standing) fits (answered_piece r) _
      (λ f q. h (subst FewBytes (sym (stands_as-stands_in k.standing))
      (stands-few way e k.bytes.len k.standing (kept_fits⇒stands_fit way e (steps_of (table_in rec m)) settings k f))))
      (λ f q. absurd (clash refl q)))
      (λ v q. absurd (clash refl q))

  pub piece-few : (piece : List ℕ) (room : ℕ) → let a = piece_tested way e lim rec m settings k piece room in is_refused a.end ≡ false → FewBytes a.kept.standing
  unfolding piece_tested
  piece-few piece room =
      let t = table_in rec m in
      guarded-few (piece_in way e t settings (carry_in k) piece room)
      (λ h. unless-few (stands_in k.standing) (carry_in k) (piece_behind way e t settings (carry_in k) piece room) h (behind-few way e t settings (carry_in k) piece room h))

  pub close-few : (room : ℕ) → let a = close_tested way e lim rec m settings k room in is_refused a.end ≡ false → FewBytes a.kept.standing
  unfolding close_tested close_in
  close-few room =
      guarded-few (close_in way e (carry_in k) room)
      (λ h.
      let due = due_in way e (state_at k.mark) in
      unless-few (stands_in k.standing) (carry_in k) (close_bytes due (carry_in k) (bytes_of k.bytes) room) h
      (close-bytes-few due (carry_in k) (bytes_of k.bytes) room h))
