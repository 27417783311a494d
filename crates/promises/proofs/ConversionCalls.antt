-- Calls of `to_unicode` and `from_unicode`: on any memory, and on what the load of a text left.
use Rattle.std.specs.Prelude.{Option, Some, None}
use Prim.Native.Nat.{ℕ, ◌+◌, ◌-◌, ◌*◌, ◌≤◌, ◌<◌}
use native.Mathlib.Omega.{arith}
use borrow.Author.Tests.{le-leb, lt-leb}
use mathlib.Core.Path.{◌≡◌, refl, sym, ap, ◌∙◌, subst}
use mathlib.Core.Logic.{◌↔◌}
use mathlib.Core.Bool.{Bool, true, false}
use mathlib.Core.List.{List, [], ◌++◌}
use lib.ListN.{length, take, drop}
use lib.Seq.{take_at}
use borrow.Fn.Kinds.{Out}
use Rattle.lists.specs.Order.{All}
use Rattle.lists.proofs.Cases.{pick_yes, pick_no}
use Rattle.utf.specs.Utf32.{mark_in, mark_at}
use Rattle.utf.specs.Scheme.{ordered_by, side_of}
use Rattle.utf.specs.declared.utf32.ByteOrder.{ByteOrder}
use Rattle.utf.specs.declared.utf32.ByteOrder.TheVariants.{Big, Little}
use Rattle.utf.specs.declared.scheme.Scheme.{Scheme}
use Rattle.utf.specs.declared.scheme.Scheme.TheVariants.{Utf32Be, Utf32}
use Rattle.utf.proofs.FourBytes.{mark-begins}
use Rattle.table.specs.Limits.{limits}
use Rattle.table.specs.States.{is_code}
use Rattle.table.specs.Codes.{AllByte}
use Rattle.table.specs.Meaning.{Table, steps_of}
use Rattle.table.specs.Slices.{Slices}
use Rattle.table.specs.Load.{loaded_by, given, left_in, record_handed}
use Rattle.table.specs.Valid.{valid}
use Rattle.table.specs.declared.valid.Record.{Record}
use Rattle.convert.specs.Run.{Run, give, after, ended_with}
use Rattle.convert.specs.Step.{code, writes, strict, to_step}
use Rattle.convert.specs.Convert.{mark_of, from_side, to_run, from_run, to_tested, from_tested}
use Rattle.convert.specs.Claims.{WellFormedText, points_in, all_read, ReadsAs, ReadsAsFirst, RoundTripCode, frame_of, RoundTrips}
use Rattle.convert.specs.loops.Laws.{NotFull}
use Rattle.convert.specs.declared.Converted.{Converted}
use Rattle.convert.specs.declared.RunEnd.{RunEnd}
use Rattle.convert.specs.declared.RunEnd.TheVariants.{AllRead, OutputFull, BadTable}
use Rattle.convert.specs.declared.Settings.{Settings}
use Rattle.convert.proofs.to_unicode.Kinds as of-to-unicode
use Rattle.convert.proofs.Schemes.{mark-chooses, mark-none}
use Rattle.convert.proofs.SchemeText.{to-more-room, from-more-room, text-so-far, text-whole, well-formed-in, text_of as spelt, there-in, back_in, round-trip-runs}
use Rattle.convert.proofs.SchemeText as scheme
use Rattle.convert.proofs.LoadedText.{to-loaded, from-loaded}
use Rattle.convert.proofs.ReadsBack as back
use Rattle.promises.specs.Calls.{LoadCall, text_of, lent_to, AcceptedAs, ConversionCall, ToCall, FromCall, record_given, slices_given, input_of, output_lent, output_after, settings_of, scheme_of, written_by}
use Rattle.promises.specs.Words.{AnswersBy, OnLoaded}
use Rattle.promises.proofs.LoadCalls.{as_read, of-call, leaves-form}

-- ## Either conversion

module _ {Post : Out 3 of-to-unicode.ps of-to-unicode.r} (c : ConversionCall Post) where
  -- another name for the run
  by-run : (r q : Run) → r ≡ q → AnswersBy r c → AnswersBy q c
  by-run r q e a = subst (λ (x : Run). AnswersBy x c) e a

  -- what it wrote is what the run wrote
  wrote : (r : Run) → AnswersBy r c → written_by c ≡ r.bytes
  wrote r a =
      (λ i. take (a.result i).written (a.output i))
      ∙ take_at r.bytes (drop (length r.bytes) (output_lent c)) (length r.bytes) refl

  ended : (r : Run) → AnswersBy r c → c.result.end ≡ r.end
  ended r a = ap (λ (d : Converted). d.end) a.result

  -- 60 reads and writes nothing
  refusing : AnswersBy (ended_with BadTable 0) c → AnswersBy (ended_with BadTable 0) c × (output_after c ≡ output_lent c)
  refusing a = (a, a.output)

-- ## On any memory

pub to-answers : (c : ToCall)
    → AnswersBy (to_tested (scheme_of c) limits (record_given c) (slices_given c) (settings_of c) (input_of c) (length (output_lent c))) c
to-answers c = record { result = c.post.0; output = c.post.1.0; number = c.post.1.1.0; length = c.post.1.1.1 }

pub from-answers : (c : FromCall)
    → AnswersBy (from_tested (scheme_of c) limits (record_given c) (slices_given c) (settings_of c) (input_of c) (length (output_lent c))) c
from-answers c = record { result = c.post.0; output = c.post.1.0; number = c.post.1.1.0; length = c.post.1.1.1 }

pub to-refuses : (c : ToCall) → valid limits (record_given c) (slices_given c) ≡ false
    → AnswersBy (ended_with BadTable 0) c × (output_after c ≡ output_lent c)
unfolding to_tested
to-refuses c e = refusing c (by-run c _ _ (pick_no _ _ _ e) (to-answers c))

pub from-refuses : (c : FromCall) → valid limits (record_given c) (slices_given c) ≡ false
    → AnswersBy (ended_with BadTable 0) c × (output_after c ≡ output_lent c)
unfolding from_tested
from-refuses c e = refusing c (by-run c _ _ (pick_no _ _ _ e) (from-answers c))

-- ## On what the load of a text left

-- either conversion: where the definition on what the load left is the run by the text, so is the call
module _ {Post : Out 3 of-to-unicode.ps of-to-unicode.r} (tested : Scheme → Record → Slices → Settings → List ℕ → ℕ → Run)
    (answers : (c : ConversionCall Post)
    → AnswersBy (tested (scheme_of c) (record_given c) (slices_given c) (settings_of c) (input_of c) (length (output_lent c))) c) where
  on-loaded : (l : LoadCall) (run : Scheme → Settings → List ℕ → ℕ → Run)
      → (let g = given limits (text_of l) (lent_to l) in
      (e : Scheme) (s : Settings) (x : List ℕ) (n : ℕ) → tested e (record_handed (loaded_by g)) (left_in limits g (lent_to l)) s x n ≡ run e s x n)
      → (c : ConversionCall Post) → OnLoaded l c → AnswersBy (run (scheme_of c) (settings_of c) (input_of c) (length (output_lent c))) c
  on-loaded l run same c o =
      let e = scheme_of c in
      let s = settings_of c in
      let x = input_of c in
      let n = length (output_lent c) in
      by-run c _ _
      ((λ i. tested e (o.0 i) (o.1 i) s x n) ∙ of-call l (λ rec m. tested e rec m s x n ≡ run e s x n) (same e s x n))
      (answers c)

module _ (l : LoadCall) (t : Table) (a : AcceptedAs l t) where
  pub to-by-text : (c : ToCall) → OnLoaded l c
      → AnswersBy (to_run (scheme_of c) t (settings_of c) (input_of c) (length (output_lent c))) c
  to-by-text =
      on-loaded (λ e rec m. to_tested e limits rec m) to-answers l (λ e. to_run e t)
      (λ e. to-loaded (text_of l) (lent_to l) t (as_read l t a) e)

  pub from-by-text : (c : FromCall) → OnLoaded l c
      → AnswersBy (from_run (scheme_of c) t (settings_of c) (input_of c) (length (output_lent c))) c
  from-by-text =
      on-loaded (λ e rec m. from_tested e limits rec m) from-answers l (λ e. from_run e t)
      (λ e. from-loaded (text_of l) (lent_to l) t (as_read l t a) e)

  pub written-reads : (fallback : Bool) (u : ℕ) (c : List ℕ) → writes t fallback u ≡ code c
      → (v : ℕ) × ((e : Scheme) (settings : Settings) (rest : List ℕ) → to_step (side_of e) t settings 0 (c ++ rest) ≡ give ((side_of e).encode v) (length c) 0)
  written-reads fallback u c q =
      let f = leaves-form l t a in
      let (v, r) = back.written-reads limits t f.0 f.1 fallback u c q in
      (v, λ e settings rest. r (side_of e) settings rest)

  pub writes-text : (c : ToCall) → OnLoaded l c → WellFormedText (scheme_of c) (written_by c)
  writes-text c o =
      subst (WellFormedText (scheme_of c)) (sym (wrote c _ (to-by-text c o)))
      (well-formed-in (scheme_of c) t (settings_of c) (leaves-form l t a).1.so_far.rule6 (input_of c) (length (output_lent c)))

  pub reads-back : (c : ToCall) → OnLoaded l c → ReadsAsFirst (scheme_of c) (written_by c) (points_in t (settings_of c) (input_of c))
  reads-back c o =
      subst (λ (x : List ℕ). ReadsAsFirst (scheme_of c) x (points_in t (settings_of c) (input_of c))) (sym (wrote c _ (to-by-text c o)))
      (text-so-far (scheme_of c) t (settings_of c) (leaves-form l t a).1.so_far.rule6 (input_of c) (length (output_lent c)))

  pub reads-back-whole : (c : ToCall) → OnLoaded l c → (c.result.end ≡ OutputFull → ⊥)
      → ReadsAs (scheme_of c) (written_by c) (points_in t (settings_of c) (input_of c))
  reads-back-whole c o f =
      let r = to-by-text c o in
      subst (λ (x : List ℕ). ReadsAs (scheme_of c) x (points_in t (settings_of c) (input_of c))) (sym (wrote c _ r))
      (text-whole (scheme_of c) t (settings_of c) (leaves-form l t a).1.so_far.rule6 (input_of c) (length (output_lent c)) (λ z. f (ended c _ r ∙ z)))

  pub room-enough : (c : ToCall) → OnLoaded l c → length (mark_of (scheme_of c)) + 4 * length (input_of c) ≤ length (output_lent c) → c.result.end ≡ OutputFull → ⊥
  room-enough c o h f =
      scheme.room-enough (scheme_of c) t (settings_of c) (input_of c) (length (output_lent c)) h (sym (ended c _ (to-by-text c o)) ∙ f)

  pub from-room-enough : (c : FromCall) → OnLoaded l c → 4 * length (input_of c) ≤ length (output_lent c) → c.result.end ≡ OutputFull → ⊥
  from-room-enough c o h f =
      let f' = leaves-form l t a in
      scheme.from-room-enough limits t f'.1 f'.0.sub-bytes (scheme_of c) (settings_of c) (input_of c) (length (output_lent c)) h (sym (ended c _ (from-by-text c o)) ∙ f)

-- ## Two calls on one question with different space

module _ {Post : Out 3 of-to-unicode.ps of-to-unicode.r} (run : Scheme → Settings → List ℕ → ℕ → Run)
    (more : (e : Scheme) (s : Settings) (x : List ℕ) (room m : ℕ) → NotFull (run e s x room) → run e s x (room + m) ≡ run e s x room) where
  more-space : (c d : ConversionCall Post)
      → AnswersBy (run (scheme_of c) (settings_of c) (input_of c) (length (output_lent c))) c
      → AnswersBy (run (scheme_of d) (settings_of d) (input_of d) (length (output_lent d))) d
      → input_of d ≡ input_of c → settings_of d ≡ settings_of c → scheme_of d ≡ scheme_of c → length (output_lent c) ≤ length (output_lent d)
      → (c.result.end ≡ OutputFull → ⊥) → (d.result ≡ c.result) × (written_by d ≡ written_by c)
  more-space c d p q ex es ee h f =
      let n = length (output_lent c) in
      let k = length (output_lent d) - n in
      let j : length (output_lent d) ≡ n + k = omega arith in
      let r = run (scheme_of c) (settings_of c) (input_of c) n in
      let e : run (scheme_of d) (settings_of d) (input_of d) (length (output_lent d)) ≡ r =
      (λ i. run (ee i) (es i) (ex i) (j i)) ∙ more (scheme_of c) (settings_of c) (input_of c) n k (λ z. f (ended c r p ∙ z)) in
      let w = by-run d _ r e q in
      (w.result ∙ sym p.result, wrote d r w ∙ sym (wrote c r p))

module _ (l : LoadCall) (t : Table) (a : AcceptedAs l t) where
  pub to-more-space : (c d : ToCall) → OnLoaded l c → OnLoaded l d
      → input_of d ≡ input_of c → settings_of d ≡ settings_of c → scheme_of d ≡ scheme_of c → length (output_lent c) ≤ length (output_lent d)
      → (c.result.end ≡ OutputFull → ⊥) → (d.result ≡ c.result) × (written_by d ≡ written_by c)
  to-more-space c d o p = more-space (λ e. to_run e t) (λ e. to-more-room e t) c d (to-by-text l t a c o) (to-by-text l t a d p)

  pub from-more-space : (c d : FromCall) → OnLoaded l c → OnLoaded l d
      → input_of d ≡ input_of c → settings_of d ≡ settings_of c → scheme_of d ≡ scheme_of c → length (output_lent c) ≤ length (output_lent d)
      → (c.result.end ≡ OutputFull → ⊥) → (d.result ≡ c.result) × (written_by d ≡ written_by c)
  from-more-space c d o p = more-space (λ e. from_run e t) (λ e. from-more-room e t) c d (from-by-text l t a c o) (from-by-text l t a d p)

  -- ## There and back

  pub there_and_back : (c : ToCall) (d : FromCall) → OnLoaded l c → OnLoaded l d
      → settings_of d ≡ settings_of c → scheme_of d ≡ scheme_of c
      → (codes : List (RoundTripCode t (settings_of c).fallback)) → input_of c ≡ frame_of codes
      → length (mark_of (scheme_of c)) + 4 * length (input_of c) ≤ length (output_lent c) → input_of d ≡ written_by c → length (input_of c) ≤ length (output_lent d)
      → written_by d ≡ input_of c
  there_and_back c d o p es ee codes ex h ed k =
      let e = scheme_of c in
      let s = settings_of c in
      let keeps = (leaves-form l t a).1 in
      let n = length (output_lent c) in
      let text = spelt e limits t keeps s codes in
      let r : to_run e t s (frame_of codes) n ≡ all_read (frame_of codes) text =
      sym (to-more-room e t s (frame_of codes) n (length text)
      (scheme.room-enough e t s (frame_of codes) n (subst (λ (x : List ℕ). length (mark_of e) + 4 * length x ≤ n) ex h)))
      ∙ there-in e limits t keeps s codes (n + length text) (omega arith) in
      let w : written_by c ≡ text =
      wrote c _ (to-by-text l t a c o) ∙ ap (λ (x : List ℕ). (to_run e t s x n).bytes) ex ∙ ap (λ (q : Run). q.bytes) r in
      let b = back_in e limits t keeps s codes (length (output_lent d)) (subst (λ (x : List ℕ). length x ≤ length (output_lent d)) ex k) in
      wrote d _ (from-by-text l t a d p)
      ∙ (λ i. (from_run (ee i) t (es i) ((ed ∙ w) i) (length (output_lent d))).bytes)
      ∙ ap (λ (q : Run). q.bytes) b
      ∙ sym ex

  -- ## A code round-trips

  pub home-by-calls : (fallback : Bool) (s : List ℕ) → AllByte s → is_code (steps_of t) 0 s ≡ true
      → (c : ToCall) (d : FromCall) → OnLoaded l c → OnLoaded l d → settings_of c ≡ strict fallback → settings_of d ≡ strict fallback → scheme_of d ≡ scheme_of c
      → input_of c ≡ s → input_of d ≡ written_by c → length (mark_of (scheme_of c)) + 4 ≤ length (output_lent c) → 4 ≤ length (output_lent d)
      → RoundTrips t fallback s ↔ ((c.result.end ≡ AllRead) × (d.result.end ≡ AllRead) × (written_by d ≡ s))
  home-by-calls fallback s bytes whole c d o p ec ed ee ex ew h k =
      let e = scheme_of c in
      let n = length (output_lent c) in
      let m = length (output_lent d) in
      let r = to_run e t (strict fallback) s n in
      let q = by-run c _ r (λ i. to_run e t (ec i) (ex i) n) (to-by-text l t a c o) in
      let b = from_run e t (strict fallback) r.bytes m in
      let v = by-run d _ b (λ i. from_run (ee i) t (ed i) ((ew ∙ wrote c r q) i) m) (from-by-text l t a d p) in
      subst (λ (x : RunEnd). RoundTrips t fallback s ↔ ((x ≡ AllRead) × (d.result.end ≡ AllRead) × (written_by d ≡ s))) (sym (ended c r q))
      (subst (λ (x : RunEnd). RoundTrips t fallback s ↔ ((r.end ≡ AllRead) × (x ≡ AllRead) × (written_by d ≡ s))) (sym (ended d b v))
      (subst (λ (x : List ℕ). RoundTrips t fallback s ↔ ((r.end ≡ AllRead) × (b.end ≡ AllRead) × (x ≡ s))) (sym (wrote d b v))
      (round-trip-runs e limits t (leaves-form l t a).1 fallback s bytes whole n m h k)))

-- ## Plain UTF-32

pub plain-written : (t : Table) (settings : Settings) (s : List ℕ) (room : ℕ) → 4 ≤ room
    → to_run Utf32 t settings s room ≡ after 0 (mark_in Big) (to_run Utf32Be t settings s (room - 4))
plain-written t settings s room h = pick_yes _ _ _ (le-leb 4 room h)

pub plain-full : (t : Table) (settings : Settings) (s : List ℕ) (room : ℕ) → room < 4 → to_run Utf32 t settings s room ≡ ended_with OutputFull 0
plain-full t settings s room h = pick_no _ _ _ (lt-leb 4 room h)

pub plain-marked : (t : Table) (settings : Settings) (order : ByteOrder) (s : List ℕ) (room : ℕ)
    → from_run Utf32 t settings (mark_in order ++ s) room ≡ after 4 [] (from_run (ordered_by order) t settings s room)
plain-marked t settings Big s room = mark-chooses (λ u. from_side u t settings) Big s room
plain-marked t settings Little s room = mark-chooses (λ u. from_side u t settings) Little s room

pub plain-unmarked : (t : Table) (settings : Settings) (s : List ℕ) (room : ℕ) → All (λ b. b < 256) s
    → ((order : ByteOrder) (rest : List ℕ) → s ≡ mark_in order ++ rest → ⊥)
    → from_run Utf32 t settings s room ≡ from_run Utf32Be t settings s room
plain-unmarked t settings s room bytes marked = mark-none (λ u. from_side u t settings) s room (none (mark_at s) refl)
  where
    none : (m : Option ByteOrder) → mark_at s ≡ m → m ≡ None
    none None e = refl
    none (Some order) e = absurd (marked order (drop 4 s) (mark-begins order s bytes e))
