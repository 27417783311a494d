-- A call on any memory: 60, 42, the answer that stands, and the rest.
use Rattle.std.specs.Prelude.{Some}
use mathlib.Core.Path.{◌≡◌, refl, sym, ap, ◌∙◌}
use Prim.Native.Nat.{ℕ, ◌<◌}
use mathlib.Core.Bool.{Bool, true, false}
use mathlib.Core.List.{List, []}
use mathlib.Core.Option.{Option}
use lib.Dec.{lit<, eqb}
use Rattle.lists.specs.Pick.{pick}
use Rattle.lists.proofs.Cases.{pick_yes, pick_no}
use Rattle.utf.specs.declared.utf8.Stop.{Stop}
use Rattle.utf.specs.declared.scheme.Scheme.{Scheme}
use Rattle.table.specs.Limits.{limits}
use Rattle.table.specs.States.{step_at}
use Rattle.table.specs.Codes.{bytes_of}
use Rattle.table.specs.Meaning.{steps_of}
use Rattle.table.specs.Slices.{Slices}
use Rattle.table.specs.Memory.{table_in}
use Rattle.table.specs.Valid.{valid}
use Rattle.table.specs.declared.valid.Record.{Record}
use Rattle.table.proofs.Packing.{unpacked-bytes}
use Rattle.table.proofs.HeldMemory.{cut-held}
use Rattle.convert.specs.Run.{put_bytes}
use Rattle.convert.specs.Pieces.{PieceRun, unless, is_held, is_short_cut, begun, is_nothing, mark_fits, stands_fit, kept_fits, stands_in, carry_in, PieceAnswer, refused_piece, answered_piece, piece_guarded, answered_of, piece_number, piece_length}
use Rattle.convert.specs.declared.RunEnd.TheVariants.{BadTable, Stopped}
use Rattle.convert.specs.declared.Settings.{Settings}
use Rattle.convert.specs.declared.pieces.Way.{Way}
use Rattle.convert.specs.declared.pieces.Way.TheVariants.{ToUnicode, FromUnicode}
use Rattle.convert.specs.declared.pieces.Kept.{Kept}
use Rattle.convert.specs.declared.pieces.PieceEnd.TheVariants.{Ended, BadKept}
use Rattle.convert.specs.declared.pieces.Pieced.{Pieced}
use Rattle.convert.proofs.KeptForms.{kept_as-carry_in}
use Rattle.convert.proofs.PieceTests.{kept_fits⇒is_held}
use Rattle.convert.proofs.PieceDue.{is_nothing⇒none}

-- the four parts of a contract, by the answer that the definition has
pub answers_by : {r : Pieced} {new : List ℕ} (old : List ℕ) (a b : PieceAnswer) → a ≡ b → r ≡ answered_of b → new ≡ put_bytes b.bytes old
    → (r ≡ answered_of a) × (new ≡ put_bytes a.bytes old) × (piece_number r.end ≡ piece_number a.end) × (piece_length r.end ≡ piece_length a.end)
answers_by old a b e q o =
    let p = q ∙ ap answered_of (sym e) in
    (p, o ∙ ap (λ (x : PieceAnswer). put_bytes x.bytes old) (sym e), ap (λ (x : Pieced). piece_number x.end) p, ap (λ (x : Pieced). piece_length x.end) p)

module _ (way : Way) (e : Scheme) (rec : Record) (m : Slices) (settings : Settings) (k : Kept) (r : PieceRun) where
  abbrev guarded : PieceAnswer
  guarded = piece_guarded way e limits rec m settings k r

  abbrev fitting : Bool
  fitting = kept_fits way e (steps_of (table_in rec m)) settings k

  pub guarded-60 : valid limits rec m ≡ false → guarded ≡ refused_piece (Ended BadTable) k
  guarded-60 h = pick_no (valid limits rec m) _ _ h

  module _ (h : valid limits rec m ≡ true) where
    pub guarded-42 : fitting ≡ false → guarded ≡ refused_piece BadKept k
    guarded-42 q = pick_yes (valid limits rec m) _ _ h ∙ pick_no fitting _ _ q

    pub guarded-on : fitting ≡ true → guarded ≡ answered_piece r
    guarded-on q = pick_yes (valid limits rec m) _ _ h ∙ pick_yes fitting _ _ q

-- kept bytes by the memory's rows are kept bytes by the table's
module _ (rec : Record) (m : Slices) (ok : valid limits rec m ≡ true) where
  begun-held : (way : Way) (e : Scheme) (skip : Bool) (k : Kept) → k.bytes.bits < 4294967296
      → begun way e (step_at m.states) skip (bytes_of k.bytes) ≡ begun way e (steps_of (table_in rec m)) skip (bytes_of k.bytes)
  begun-held FromUnicode e skip k h = refl
  begun-held ToUnicode e skip k h = ap is_short_cut (cut-held limits rec m ok 0 (lit< tt) (bytes_of k.bytes) (unpacked-bytes k.bytes.len k.bytes.bits h))

  pub kept_fits-rows : (way : Way) (e : Scheme) (settings : Settings) (k : Kept) → k.bytes.bits < 4294967296
      → kept_fits way e (step_at m.states) settings k ≡ kept_fits way e (steps_of (table_in rec m)) settings k
  unfolding kept_fits
  kept_fits-rows way e settings k h = ap (λ (b : Bool). kept_with b) (begun-held way e settings.skip k h)
    where
      kept_with : Bool → Bool
      kept_with b =
          pick (is_held k.bytes)
          (pick (mark_fits way e (pick (eqb k.bytes.len 0) (is_nothing k.standing) false) k.mark) (pick (stands_fit way e k.bytes.len k.standing) b false) false)
          false

-- an answer that stands is given again, and nothing changes
pub guarded-stands : (way : Way) (e : Scheme) (rec : Record) (m : Slices) (settings : Settings) (k : Kept) (w : Stop) → k.standing ≡ Some w
    → valid limits rec m ≡ true → kept_fits way e (steps_of (table_in rec m)) settings k ≡ true
    → (r : PieceRun) → piece_guarded way e limits rec m settings k (unless (stands_in k.standing) (carry_in k) r) ≡ refused_piece (Ended (Stopped w)) k
guarded-stands way e rec m settings k w q h f r =
    guarded-on way e rec m settings k (unless (stands_in k.standing) (carry_in k) r) h f
    ∙ ap (λ (o : Option Stop). answered_piece (unless o (carry_in k) r)) (ap stands_in q)
    ∙ (λ i. record { end = Ended (Stopped w); read = 0; bytes = []; kept = kept_as-carry_in k (kept_fits⇒is_held way e (steps_of (table_in rec m)) settings k f) i })

-- with none standing it goes on
pub guarded-open : (way : Way) (e : Scheme) (rec : Record) (m : Slices) (settings : Settings) (k : Kept) → valid limits rec m ≡ true
    → kept_fits way e (steps_of (table_in rec m)) settings k ≡ true → is_nothing k.standing ≡ true
    → (r : PieceRun) → piece_guarded way e limits rec m settings k (unless (stands_in k.standing) (carry_in k) r) ≡ answered_piece r
guarded-open way e rec m settings k h f n r =
    guarded-on way e rec m settings k (unless (stands_in k.standing) (carry_in k) r) h f
    ∙ ap (λ (o : Option Stop). answered_piece (unless o (carry_in k) r)) (is_nothing⇒none k.standing n)
