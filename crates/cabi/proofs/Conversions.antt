-- What a conversion exported to C answers, by what was found of its slices and of its scheme: once for both.
-- answered-short-record, answered-short-result   70      answered-none   71      answered-run   the conversion's own
use Rattle.std.proofs.Common.{◌≡◌, refl, sym, ap, ◌∙◌, ℕ, ◌<◌, ◌≤◌, List, [], ◌∷◌, Bool, true, false, ltb, length}
use Rattle.std.specs.Prelude.{Option, Some, None, Result, Ok, Err}
use Rattle.lists.specs.Pick.{pick}
use Rattle.lists.proofs.Laws.{tests}
use Rattle.utf.specs.declared.scheme.Scheme.{Scheme}
use Rattle.table.specs.declared.valid.Record.{Record}
use Rattle.convert.specs.Run.{Run, converted_of, put_out, end_number, end_length}
use Rattle.convert.specs.declared.Converted.{Converted}
use Rattle.cabi.specs.Exported.{record_in, if_fewer, if_short, with_numbers, scheme_in}
use Rattle.cabi.specs.Exported.{Answered, unanswered, answered_by, in_scheme, answered}
use Rattle.cabi.specs.loops.Asked.{number_of, with_scheme, asked}
use Rattle.cabi.specs.declared.Misuse.{Misuse}
use Rattle.cabi.specs.declared.Misuse.TheVariants as misuse

-- what is asked, by the lengths and the scheme
module _ (rec : List ℕ) (n : ℕ) (result : List ℕ) where
  pub asked-short-record : length rec < 7 → Err misuse.Short ≡ asked rec n result
  unfolding if_short if_fewer
  asked-short-record h = search tests

  pub asked-short-result : 7 ≤ length rec → length result < 3 → Err misuse.Short ≡ asked rec n result
  unfolding if_short if_fewer
  asked-short-result h k = search tests

  by-scheme : 7 ≤ length rec → 3 ≤ length result → with_scheme (Ok (record_in rec)) (scheme_in n) ≡ asked rec n result
  unfolding if_short if_fewer
  by-scheme h k = search tests

  pub asked-none : 7 ≤ length rec → 3 ≤ length result → scheme_in n ≡ None → Err misuse.NoScheme ≡ asked rec n result
  asked-none h k o = ap (with_scheme (Ok (record_in rec))) (sym o) ∙ by-scheme h k

  pub asked-some : 7 ≤ length rec → 3 ≤ length result → (e : Scheme) → scheme_in n ≡ Some e → Ok (record_in rec, e) ≡ asked rec n result
  asked-some h k e o = ap (with_scheme (Ok (record_in rec))) (sym o) ∙ by-scheme h k

-- a number and the two slices are what a conversion answers
abbrev pub Answers : List ℕ → ℕ → (Scheme → Run) → List ℕ → List ℕ → ℕ → List ℕ → List ℕ → Type 0
Answers rec n run output result r out res =
    let a = answered rec n run output result in
    (r ≡ a.number) × (out ≡ a.output) × (res ≡ a.result)

-- what is answered, by what is asked
module _ (run : Record → Scheme → Run) (rec : List ℕ) (n : ℕ) (output result : List ℕ) where
  abbrev answered_as : Result (Record × Scheme) Misuse → Answered
  answered_as (Err w) = unanswered (number_of (Err w)) output result
  answered_as (Ok (r, e)) = answered_by (run r e) output result

  by-tests : (r : Record) (a b : Bool) (o : Option Scheme)
      → pick a (unanswered 70 output result) (pick b (unanswered 70 output result) (in_scheme o (run r) output result))
      ≡ answered_as (with_scheme (pick a (Err misuse.Short) (pick b (Err misuse.Short) (Ok r))) o)
  by-tests r true b o = refl
  by-tests r false true o = refl
  by-tests r false false None = refl
  by-tests r false false (Some e) = refl

  by-asked : answered rec n (run (record_in rec)) output result ≡ answered_as (asked rec n result)
  unfolding answered if_short if_fewer
  by-asked = by-tests (record_in rec) (ltb (length rec) 7) (ltb (length result) 3) (scheme_in n)

  pub answers-err : (w : Misuse) → Err w ≡ asked rec n result
      → (r : ℕ) → r ≡ number_of (Err w) → Answers rec n (run (record_in rec)) output result r output result
  answers-err w is r q =
      let e = ap answered_as is ∙ sym by-asked in
      (q ∙ ap (λ (x : Answered). x.number) e, ap (λ (x : Answered). x.output) e, ap (λ (x : Answered). x.result) e)

  -- the run's own answer, output slice and counts
  pub answers-ok : (h : Record) (e : Scheme) → Ok (h, e) ≡ asked rec n result
      → (done : Converted) → done ≡ converted_of (run h e)
      → (r : ℕ) (out res : List ℕ) → r ≡ end_number done.end → out ≡ put_out (run h e) output
      → res ≡ with_numbers (done.read ∷ done.written ∷ end_length done.end ∷ []) result
      → Answers rec n (run (record_in rec)) output result r out res
  answers-ok h e is done d r out res q o w =
      let x = ap answered_as is ∙ sym by-asked in (
        q ∙ ap (λ (y : Converted). end_number y.end) d ∙ ap (λ (y : Answered). y.number) x,
        o ∙ ap (λ (y : Answered). y.output) x,
        w
            ∙ ap (λ (y : Converted). with_numbers (y.read ∷ y.written ∷ end_length y.end ∷ []) result) d
            ∙ ap (λ (y : Answered). y.result) x,
      )

module _ (rec : List ℕ) (n : ℕ) (run : Scheme → Run) (output result : List ℕ) where
  abbrev any-record : Record → Scheme → Run
  any-record r e = run e

  refused : (w : Misuse) → Err w ≡ asked rec n result → Answers rec n run output result (number_of (Err w)) output result
  refused w is = answers-err any-record rec n output result w is (number_of (Err w)) refl

  pub answered-short-record : length rec < 7 → Answers rec n run output result 70 output result
  answered-short-record h = refused misuse.Short (asked-short-record rec n result h)

  module _ (h : 7 ≤ length rec) where
    pub answered-short-result : length result < 3 → Answers rec n run output result 70 output result
    answered-short-result k = refused misuse.Short (asked-short-result rec n result h k)

    module _ (k : 3 ≤ length result) where
      pub answered-none : scheme_in n ≡ None → Answers rec n run output result 71 output result
      answered-none o = refused misuse.NoScheme (asked-none rec n result h k o)

      -- the run's own answer, output slice and counts
      pub answered-run : (e : Scheme) → scheme_in n ≡ Some e → (done : Converted) → done ≡ converted_of (run e)
          → (r : ℕ) (out res : List ℕ) → r ≡ end_number done.end → out ≡ put_out (run e) output
          → res ≡ with_numbers (done.read ∷ done.written ∷ end_length done.end ∷ []) result
          → Answers rec n run output result r out res
      answered-run e o = answers-ok any-record rec n output result (record_in rec) e (asked-some rec n result h k e o)
