-- What a call in pieces exported to C answers, by what was asked of it: once for all four.
use Rattle.std.proofs.Common.{◌≡◌, refl, sym, ap, ◌∙◌, ℕ, ◌<◌, List, [], ◌∷◌, Bool, true, false, ltb, length}
use Rattle.std.specs.Prelude.{Option, Some, None, Result, Ok, Err}
use Rattle.lists.specs.Pick.{pick}
use Rattle.lists.proofs.Laws.{tests}
use Rattle.utf.specs.declared.scheme.Scheme.{Scheme}
use Rattle.table.specs.declared.valid.Record.{Record}
use Rattle.convert.specs.Run.{put_bytes}
use Rattle.convert.specs.Pieces.{PieceAnswer, answered_of, piece_number, piece_length}
use Rattle.convert.specs.declared.pieces.Kept.{Kept}
use Rattle.convert.specs.declared.pieces.Pieced.{Pieced}
use Rattle.cabi.specs.Exported.{record_in, kept_in, kept_after, if_fewer, if_short, with_numbers}
use Rattle.cabi.specs.Exported.{scheme_in, PieceAnswered, piece_unanswered, piece_answered_by}
use Rattle.cabi.specs.Exported.{piece_in_scheme, piece_answered}
use Rattle.cabi.specs.loops.Asked.{kept_of, number_of, with_scheme, asked}
use Rattle.cabi.specs.declared.Misuse.{Misuse}
use Rattle.cabi.specs.declared.Misuse.TheVariants as misuse

kept_of-short : (ns : List ℕ) → length ns < 5 → None ≡ kept_of ns
unfolding if_fewer
kept_of-short ns h = search tests

module _ (run : Kept → Record → Scheme → PieceAnswer) (rec : List ℕ) (n : ℕ) (kept output result : List ℕ) where
  -- its number alone where something is wrong, or the call
  abbrev answered_as : Option Kept → Result (Record × Scheme) Misuse → PieceAnswered
  answered_as None a = piece_unanswered 70 kept output result
  answered_as (Some k) (Err w) = piece_unanswered (number_of (Err w)) kept output result
  answered_as (Some k) (Ok (r, e)) = piece_answered_by (run k r e) kept output result

  by-tests : (k : Kept) (r : Record) (a b d : Bool) (o : Option Scheme)
      → (let short = piece_unanswered 70 kept output result in
      pick a short (pick b short (pick d short (piece_in_scheme o (run k r) kept output result))))
      ≡ answered_as (pick a None (Some k)) (with_scheme (pick b (Err misuse.Short) (pick d (Err misuse.Short) (Ok r))) o)
  by-tests k r true b d o = refl
  by-tests k r false true d o = refl
  by-tests k r false false true o = refl
  by-tests k r false false false None = refl
  by-tests k r false false false (Some e) = refl

  by-asked : piece_answered rec n (run (kept_in kept) (record_in rec)) kept output result ≡ answered_as (kept_of kept) (asked rec n result)
  unfolding piece_answered if_short if_fewer
  by-asked =
      by-tests (kept_in kept) (record_in rec) (ltb (length kept) 5) (ltb (length rec) 7) (ltb (length result) 3) (scheme_in n)

  -- a number and the three slices are what a call answers
  abbrev pub PieceAnswers : ℕ → List ℕ → List ℕ → List ℕ → Type 0
  PieceAnswers r k out res =
      let a = piece_answered rec n (run (kept_in kept) (record_in rec)) kept output result in
      (r ≡ a.number) × (k ≡ a.kept) × (out ≡ a.output) × (res ≡ a.result)

  unchanged : (k : ℕ) → piece_unanswered k kept output result ≡ answered_as (kept_of kept) (asked rec n result)
      → (r : ℕ) → r ≡ k → PieceAnswers r kept output result
  unchanged k h r q =
      let e = h ∙ sym by-asked in (
        q ∙ ap (λ (x : PieceAnswered). x.number) e,
        ap (λ (x : PieceAnswered). x.kept) e,
        ap (λ (x : PieceAnswered). x.output) e,
        ap (λ (x : PieceAnswered). x.result) e,
      )

  pub short-kept : None ≡ kept_of kept → (r : ℕ) → r ≡ 70 → PieceAnswers r kept output result
  short-kept is r q = unchanged 70 (ap (λ (x : Option Kept). answered_as x (asked rec n result)) is) r q

  module _ (k : Kept) (came : Some k ≡ kept_of kept) where
    pub answers-err : (w : Misuse) → Err w ≡ asked rec n result → (r : ℕ) → r ≡ number_of (Err w) → PieceAnswers r kept output result
    answers-err w is r q = unchanged (number_of (Err w)) (λ i. answered_as (came i) (is i)) r q

    -- the call's own answer, kept state, output slice and counts
    pub answers-ok : (r : Record) (e : Scheme) → Ok (r, e) ≡ asked rec n result
        → (done : Pieced) → done ≡ answered_of (run k r e)
        → (m : ℕ) (s out res : List ℕ) → m ≡ piece_number done.end → s ≡ kept_after done.end done.kept kept → out ≡ put_bytes (run k r e).bytes output
        → res ≡ with_numbers (done.read ∷ done.written ∷ piece_length done.end ∷ []) result → PieceAnswers m s out res
    answers-ok r e is done d m s out res q z o w =
        let x : piece_answered_by (run k r e) kept output result ≡ piece_answered rec n (run (kept_in kept) (record_in rec)) kept output result =
        (λ i. answered_as (came i) (is i)) ∙ sym by-asked in (
          q ∙ ap (λ (y : Pieced). piece_number y.end) d ∙ ap (λ (y : PieceAnswered). y.number) x,
          z ∙ ap (λ (y : Pieced). kept_after y.end y.kept kept) d ∙ ap (λ (y : PieceAnswered). y.kept) x,
          o ∙ ap (λ (y : PieceAnswered). y.output) x,
          w ∙ ap (λ (y : Pieced). with_numbers (y.read ∷ y.written ∷ piece_length y.end ∷ []) result) d ∙ ap (λ (y : PieceAnswered). y.result) x,
        )

-- a kept state of too few numbers is the first that is found
pub piece-short-kept : (rec : List ℕ) (n : ℕ) (run : Scheme → PieceAnswer) (kept output result : List ℕ) → length kept < 5
    → let a = piece_answered rec n run kept output result in
    (70 ≡ a.number) × (kept ≡ a.kept) × (output ≡ a.output) × (result ≡ a.result)
piece-short-kept rec n run kept output result h =
    short-kept (λ k r e. run e) rec n kept output result (kept_of-short kept h) 70 refl
