-- What calls and closes in turn keep is a kept state to the next, and a final answer among it is given again.
use Rattle.std.specs.Prelude.{Some, None}
use Prim.Native.Nat.{ℕ, ◌<◌}
use native.Mathlib.Omega.{arith}
use borrow.Author.Tests.{lt-ltb, ne_eqb}
use mathlib.Core.Path.{◌≡◌, refl, sym, ap, ◌∙◌, subst}
use mathlib.Core.Bool.{Bool, true, false}
use mathlib.Core.List.{List, [], ◌∷◌, ◌++◌, map}
use lib.Dec.{eqb}
use lib.ListN.{drop}
use Rattle.lists.specs.Order.{All}
use Rattle.lists.specs.Pick.{◌and◌}
use Rattle.lists.proofs.Append.{All-++⁺}
use Rattle.lists.proofs.Laws.{and_left, and_right, and_yes}
use Rattle.lists.proofs.Cases.{pick_no}
use Rattle.utf.specs.declared.utf8.Stop.{Stop}
use Rattle.utf.specs.declared.utf8.Stop.TheVariants as stopped
use Rattle.utf.specs.declared.scheme.Scheme.{Scheme}
use Rattle.utf.specs.declared.scheme.Scheme.TheVariants as scheme
use Rattle.table.specs.Limits.{limits}
use Rattle.table.specs.Codes.{bytes_of, AllByte}
use Rattle.table.specs.Meaning.{Table, steps_of}
use Rattle.table.specs.Memory.{table_in}
use Rattle.table.specs.Valid.{valid}
use Rattle.table.specs.Load.{record_handed}
use Rattle.table.proofs.Packing.{length-unpacked, unpacked-none}
use Rattle.convert.specs.Pieces.{piece_in, close_in, is_held, is_nothing, mark_fits, stands_fit, begun, kept_fits, carry_in, kept_as}
use Rattle.convert.specs.Pieces.{PieceAnswer, piece_tested, close_tested}
use Rattle.convert.specs.PieceClaims.{one_run, fresh_kept, PieceCall, InTurn, Closing, last_end, last_kept, Unrefused}
use Rattle.convert.specs.declared.RunEnd.TheVariants.{AllRead, OutputFull, Stopped}
use Rattle.convert.specs.declared.Settings.{Settings}
use Rattle.convert.specs.declared.pieces.Way.{Way}
use Rattle.convert.specs.declared.pieces.Way.TheVariants.{ToUnicode, FromUnicode}
use Rattle.convert.specs.declared.pieces.Kept.{Kept}
use Rattle.convert.specs.declared.pieces.PieceEnd.{PieceEnd}
use Rattle.convert.specs.declared.pieces.PieceEnd.TheVariants.{Ended, BadKept}
use Rattle.convert.proofs.KeptForms.{code_of-bytes_of, place_at-state_at, kept_as-carry_in, kept_as-fresh}
use Rattle.convert.proofs.PieceKept.{begun-[]}
use Rattle.convert.proofs.PieceGuard.{guarded-42, guarded-on}
use Rattle.convert.proofs.PieceCloses.{close_in-case}
use Rattle.convert.proofs.PieceCalls.{in-pieces}
use Rattle.promises.specs.Calls.{LoadCall, left_after, AcceptedAs, PieceFunctionCall, CloseFunctionCall, PieceParts, piece_parts, close_parts}
use Rattle.promises.specs.Words.{DidNothing, memory_valid, kept_fitting, piece_call_of, close_call_of, PieceOn}
use Rattle.promises.proofs.LoadCalls.{leaves-form, leaves-valid}
use Rattle.promises.proofs.PieceFunctionCalls.{CloseAnswered, pieces-answered, closes-answered, piece-final, close-final, piece-stands, close-stands}

-- ## One more call

InTurn-one : (unread : List ℕ) (k : Kept) (cs : List PieceCall) (c : PieceCall) → c.came ≡ last_kept k cs → c.piece ≡ [] → InTurn unread k cs
    → InTurn unread k (cs ++ c ∷ [])
InTurn-one unread k [] c e q i = (e, (unread, ap (λ (x : List ℕ). x ++ unread) (sym q)), tt)
InTurn-one unread k (d ∷ cs) c e q i = (i.0, i.1, InTurn-one (drop d.read unread) d.kept cs c e q i.2)

All-one : (P : PieceCall → Type 0) (cs : List PieceCall) (c : PieceCall) → All P ((cs ++ c ∷ []) ++ []) → P c
All-one P [] c h = h.0
All-one P (d ∷ cs) c h = All-one P cs c h.1

-- ## The test behind 42, by its parts

module _ (way : Way) (e : Scheme) (t : Table) (settings : Settings) where
  abbrev fits : Kept → Bool
  fits k = kept_fits way e (steps_of t) settings k

  abbrev untouched : Kept → Bool
  untouched k = eqb k.bytes.len 0 and is_nothing k.standing

  abbrev marks : Kept → Bool
  marks k = mark_fits way e (untouched k) k.mark

  abbrev answers : Kept → Bool
  answers k = stands_fit way e k.bytes.len k.standing

  abbrev begins : Kept → Bool
  begins k = begun way e (steps_of t) settings.skip (bytes_of k.bytes)

  record Fitting (k : Kept) : Type 0 where
    pub is-held : is_held k.bytes ≡ true
    pub marked : marks k ≡ true
    pub answered : answers k ≡ true
    pub started : begins k ≡ true

  fits⇒Fitting : (k : Kept) → fits k ≡ true → Fitting k
  unfolding kept_fits
  fits⇒Fitting k h =
      let r = and_right (is_held k.bytes) (marks k and answers k and begins k) h in
      let q = and_right (marks k) (answers k and begins k) r in
      record {
        is-held = and_left (is_held k.bytes) (marks k and answers k and begins k) h;
        marked = and_left (marks k) (answers k and begins k) r;
        answered = and_left (answers k) (begins k) q;
        started = and_right (answers k) (begins k) q;
      }

  Fitting⇒fits : (k : Kept) → Fitting k → fits k ≡ true
  unfolding kept_fits
  Fitting⇒fits k f =
      and_yes (is_held k.bytes) (marks k and answers k and begins k) f.is-held
      (and_yes (marks k) (answers k and begins k) f.marked (and_yes (answers k) (begins k) f.answered f.started))

  -- a fresh start fits
  mark-ahead : (way : Way) (e : Scheme) → mark_fits way e true None ≡ true
  mark-ahead way scheme.Utf8 = refl
  mark-ahead way scheme.Utf32Be = refl
  mark-ahead way scheme.Utf32Le = refl
  mark-ahead ToUnicode scheme.Utf32 = refl
  mark-ahead FromUnicode scheme.Utf32 = refl

  fits_fresh : fits fresh_kept ≡ true
  fits_fresh =
      Fitting⇒fits fresh_kept
      (record {
        is-held = refl;
        marked = mark-ahead way e;
        answered = refl;
        started = ap (begun way e (steps_of t) settings.skip) (unpacked-none 0 0 (omega arith)) ∙ begun-[] way e t settings;
      })

  -- what a close keeps fits
  module _ (k : Kept) (f : fits k ≡ true) where
    fits-back : fits (kept_as (carry_in k)) ≡ true
    fits-back = ap fits (kept_as-carry_in k (fits⇒Fitting k f).is-held) ∙ f

    fits-short : 0 < k.bytes.len → fits (record { bytes = k.bytes; mark = k.mark; standing = Some stopped.CutShort }) ≡ true
    fits-short n =
        let p = fits⇒Fitting k f in
        let some : eqb k.bytes.len 0 ≡ false = ne_eqb k.bytes.len 0 (λ z. omega arith) in
        Fitting⇒fits _
        (record {
          is-held = p.is-held;
          marked = ap (λ (b : Bool). mark_fits way e b k.mark) (pick_no (eqb k.bytes.len 0) _ _ some ∙ sym (pick_no (eqb k.bytes.len 0) _ _ some))
              ∙ p.marked;
          answered = lt-ltb 0 k.bytes.len n;
          started = p.started;
        })

    fits-close : (room : ℕ) → fits (kept_as (close_in way e (carry_in k) room).carry) ≡ true
    fits-close room =
        close_in-case way e (carry_in k) (λ r. fits (kept_as r.carry) ≡ true) room (λ w q. fits-back)
        (λ n. ap fits (λ i. record {
          bytes = code_of-bytes_of k.bytes (fits⇒Fitting k f).is-held i;
          mark = place_at-state_at k.mark i;
          standing = Some stopped.CutShort;
        }) ∙ fits-short (omega (arith, length-unpacked k.bytes.len k.bytes.bits)))
        (λ n. ap fits kept_as-fresh ∙ fits_fresh) fits-back

-- ## What is kept at last

-- final answers are kept
abbrev KeepsFinal : Stop → PieceCall → Type 0
KeepsFinal w c = c.end ≡ Ended (Stopped w) → c.kept.standing ≡ Some w

last-final : (w : Stop) (cs : List PieceCall) → All (KeepsFinal w) cs → (h : PieceEnd) (k : Kept)
    → (h ≡ Ended (Stopped w) → k.standing ≡ Some w) → last_end h cs ≡ Ended (Stopped w) → (last_kept k cs).standing ≡ Some w
last-final w [] a h k z e = z e
last-final w (c ∷ cs) a h k z e = last-final w cs a.1 c.end c.kept a.0 e

pieces-final : (w : Stop) (cs : List PieceFunctionCall) → All (KeepsFinal w) (map piece_call_of cs)
pieces-final w [] = tt
pieces-final w (c ∷ cs) = (piece-final c w, pieces-final w cs)

closes-final : (w : Stop) (ds : List CloseFunctionCall) → All (KeepsFinal w) (map close_call_of ds)
closes-final w [] = tt
closes-final w (d ∷ ds) = (close-final d w, closes-final w ds)

module _ (l : LoadCall) (t : Table) (a : AcceptedAs l t) (way : Way) (e : Scheme) (settings : Settings) where
  abbrev held : Table
  held = table_in (record_handed l.result) (left_after l)

  abbrev Fits : Kept → Type 0
  Fits k = kept_fits way e (steps_of held) settings k ≡ true

  valid-left : valid limits (record_handed l.result) (left_after l) ≡ true
  valid-left = leaves-valid l a.accepted

  -- closes, one after the other
  closes-fit : (ds : List PieceCall) (k : Kept) → Fits k → Closing k ds → All (CloseAnswered l way e settings) ds → Fits (last_kept k ds)
  unfolding close_tested
  closes-fit [] k f i h = f
  closes-fit (d ∷ ds) k f i h =
      let came : Fits d.came = subst Fits (sym i.0) f in
      let is = h.0 ∙ guarded-on way e (record_handed l.result) (left_after l) settings d.came (close_in way e (carry_in d.came) d.room) valid-left came in
      closes-fit ds d.kept
      (subst Fits (sym (ap (λ (x : PieceAnswer). x.kept) is)) (fits-close way e held settings d.came came d.room)) i.2 h.1

  module _ (frame : List ℕ) (bytes : AllByte frame) (room : ℕ) (enough : (one_run way e t settings frame room).end ≡ OutputFull → ⊥)
      (cs : List PieceFunctionCall) (on : All (PieceOn l way e settings) (map piece_parts cs)) (turn : InTurn frame fresh_kept (map piece_call_of cs)) where
    abbrev last : Kept
    last = last_kept fresh_kept (map piece_call_of cs)

    abbrev answer : PieceAnswer
    answer = piece_tested way e limits (record_handed l.result) (left_after l) settings last [] 0

    -- one more call, with no piece and no space
    abbrev more : PieceCall
    more = record { came = last; piece = []; room = 0; end = answer.end; read = answer.read; output = answer.bytes; kept = answer.kept }

    unrefused : Unrefused more
    unrefused =
        let f = leaves-form l t a in
        All-one Unrefused (map piece_call_of cs) more
        (in-pieces t f.0 f.1 (record_handed l.result) (left_after l) f.2 way e settings frame bytes room enough (map piece_call_of cs ++ more ∷ []) []
        (InTurn-one frame fresh_kept (map piece_call_of cs) more refl refl turn) tt
        (All-++⁺ _ (map piece_call_of cs) (more ∷ []) (pieces-answered l way e settings cs on) (refl, tt)) tt).unrefused

    pieces-fit : Fits last
    unfolding piece_tested
    pieces-fit = by-fit (kept_fits way e (steps_of held) settings last) refl
      where
        by-fit : (b : Bool) → kept_fits way e (steps_of held) settings last ≡ b → Fits last
        by-fit true q = q
        by-fit false q =
            let u = unrefused in
            let is = ap (λ (x : PieceAnswer). x.end)
            (guarded-42 way e (record_handed l.result) (left_after l) settings last (piece_in way e held settings (carry_in last) [] 0) valid-left q) in
            let z : Ended u.0 ≡ BadKept = sym u.1 ∙ is in
            absurd (let y : ◌≡◌ {A = ℕ} 0 1 = cc in omega arith)

  -- a call on what the load left, with a kept state that fits
  module _ (p : PieceParts) (o : PieceOn l way e settings p) (k : Kept) (f : Fits k) (i : p.came ≡ k) where
    valid-on : memory_valid p ≡ true
    valid-on = (λ j. valid limits (o.on-table j) (o.on-memory j)) ∙ valid-left

    fits_on : kept_fitting p ≡ true
    fits_on = (λ j. kept_fits (o.one_way j) (o.one-scheme j) (steps_of (table_in (o.on-table j) (o.on-memory j))) (o.one-setting j) (i j)) ∙ f

pub stands_on : (l : LoadCall) (t : Table) → AcceptedAs l t → (way : Way) (e : Scheme) (settings : Settings)
    → (frame : List ℕ) → AllByte frame → (room : ℕ)
    → ((one_run way e t settings frame room).end ≡ OutputFull → ⊥)
    → (cs : List PieceFunctionCall) (ds : List CloseFunctionCall)
    → All (PieceOn l way e settings) (map piece_parts cs) → All (PieceOn l way e settings) (map close_parts ds)
    → InTurn frame fresh_kept (map piece_call_of cs)
    → Closing (last_kept fresh_kept (map piece_call_of cs)) (map close_call_of ds)
    → let kept = last_kept (last_kept fresh_kept (map piece_call_of cs)) (map close_call_of ds) in
    (w : Stop) → last_end (last_end (Ended AllRead) (map piece_call_of cs)) (map close_call_of ds) ≡ Ended (Stopped w)
    → ((c : PieceFunctionCall) → PieceOn l way e settings (piece_parts c) → (piece_parts c).came ≡ kept → DidNothing (Ended (Stopped w)) (piece_parts c))
    × ((d : CloseFunctionCall) → PieceOn l way e settings (close_parts d) → (close_parts d).came ≡ kept → DidNothing (Ended (Stopped w)) (close_parts d))
stands_on l t a way e settings frame bytes room enough cs ds on closed turn closing w h =
    let kept = last_kept (last_kept fresh_kept (map piece_call_of cs)) (map close_call_of ds) in
    let f = closes-fit l t a way e settings (map close_call_of ds) _ (pieces-fit l t a way e settings frame bytes room enough cs on turn) closing
    (closes-answered l way e settings ds closed) in
    let stood : kept.standing ≡ Some w = last-final w (map close_call_of ds) (closes-final w ds) _ _
    (last-final w (map piece_call_of cs) (pieces-final w cs) (Ended AllRead) fresh_kept (λ z. absurd (let y : ◌≡◌ {A = ℕ} 0 1 = cc in omega arith))) h in (
      λ c o i. piece-stands c w (ap (λ (k : Kept). k.standing) i ∙ stood) (valid-on l t a way e settings (piece_parts c) o kept f i)
          (fits_on l t a way e settings (piece_parts c) o kept f i),
      λ d o i. close-stands d w (ap (λ (k : Kept). k.standing) i ∙ stood) (valid-on l t a way e settings (close_parts d) o kept f i)
          (fits_on l t a way e settings (close_parts d) o kept f i),
    )
