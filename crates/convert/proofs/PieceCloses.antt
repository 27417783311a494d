-- The closes behind the calls of a conversion in pieces: by what was kept, and several one after the other.
use mathlib.Core.Path.{◌≡◌, refl, ap, subst, ◌∙◌}
use Prim.Native.Nat.{ℕ, ◌≤◌, ◌<◌}
use mathlib.Core.List.{List, [], ◌∷◌, ◌++◌, append-nil}
use mathlib.Core.Option.{Option, none, some}
use native.Mathlib.Omega.{arith}
use native.Mathlib.Nat.{add-zero}
use lib.Dec.{leb}
use lib.ListN.{length}
use Rattle.lists.specs.Order.{All}
use Rattle.lists.proofs.Cases.{pick-case}
use Rattle.utf.specs.declared.utf8.Stop.{Stop}
use Rattle.utf.specs.declared.utf8.Stop.TheVariants as stopped
use Rattle.utf.specs.declared.scheme.Scheme.{Scheme}
use Rattle.convert.specs.Pieces.{Carry, fresh, PieceRun, idle, unless, due_in, close_bytes, close_in, kept_as, PieceAnswer, answered_piece}
use Rattle.convert.specs.PieceClaims.{PieceCall, Closing, read_by, written_by, last_end, last_kept, Unrefused}
use Rattle.convert.specs.declared.RunEnd.TheVariants.{AllRead, OutputFull, BadTable, Stopped}
use Rattle.convert.specs.declared.pieces.Way.{Way}
use Rattle.convert.specs.declared.pieces.Kept.{Kept}
use Rattle.convert.specs.declared.pieces.PieceEnd.{PieceEnd}
use Rattle.convert.specs.declared.pieces.PieceEnd.TheVariants.{Ended}

-- what a call handed back
abbrev pub answer_in : PieceCall → PieceAnswer
answer_in c = record { end = c.end; read = c.read; bytes = c.output; kept = c.kept }

module _ (way : Way) (e : Scheme) (k : Carry) where
  -- by what is kept and whether the mark fits
  close_bytes-case : (P : PieceRun → Type 0) (due s : List ℕ) (room : ℕ)
      → (0 < length s → P (idle (Stopped stopped.CutShort) (record { bytes = k.bytes; state = k.state; stands = some stopped.CutShort })))
      → (length s ≤ 0 → P (record { end = AllRead; read = 0; bytes = due; carry = fresh })) → P (idle OutputFull k) → P (close_bytes due k s room)
  close_bytes-case P due (b ∷ s) room short all full = short (omega arith)
  close_bytes-case P due [] room short all full =
      pick-case P (leb (length due) room) (record { end = AllRead; read = 0; bytes = due; carry = fresh })
      (idle OutputFull k) (λ q. all (omega arith)) (λ q. full)

  unless-case : (P : PieceRun → Type 0) (o : Option Stop) (r : PieceRun) → ((w : Stop) → o ≡ some w → P (idle (Stopped w) k)) → P r → P (unless o k r)
  unless-case P none r again more = more
  unless-case P (some w) r again more = again w refl

  pub close_in-case : (P : PieceRun → Type 0) (room : ℕ)
      → ((w : Stop) → k.stands ≡ some w → P (idle (Stopped w) k))
      → (0 < length k.bytes → P (idle (Stopped stopped.CutShort) (record { bytes = k.bytes; state = k.state; stands = some stopped.CutShort })))
      → (length k.bytes ≤ 0 → P (record { end = AllRead; read = 0; bytes = due_in way e k.state; carry = fresh })) → P (idle OutputFull k)
      → P (close_in way e k room)
  unfolding close_in
  close_in-case P room again short all full = unless-case P k.stands _ again (close_bytes-case P (due_in way e k.state) k.bytes room short all full)

  close-valid : (room : ℕ) → (close_in way e k room).end ≡ BadTable → ⊥
  close-valid room = close_in-case (λ c. c.end ≡ BadTable → ⊥) room
      (λ w z y. let z : ◌≡◌ {A = ℕ} 0 1 = cc in omega arith)
      (λ z y. let z : ◌≡◌ {A = ℕ} 0 1 = cc in omega arith)
      (λ z y. let z : ◌≡◌ {A = ℕ} 0 1 = cc in omega arith)
      (λ y. let z : ◌≡◌ {A = ℕ} 0 1 = cc in omega arith)

  close-few : length k.bytes ≤ 3 → (room : ℕ) → length (close_in way e k room).carry.bytes ≤ 3
  close-few f room = close_in-case (λ c. length c.carry.bytes ≤ 3) room (λ w z. f) (λ z. f) (λ z. omega arith) f

  pub close-read : (room : ℕ) → (close_in way e k room).read ≡ 0
  close-read room = close_in-case (λ c. c.read ≡ 0) room (λ w z. refl) (λ z. refl) (λ z. refl) refl

  -- 50 changes nothing
  close-full : (room : ℕ) → (close_in way e k room).end ≡ OutputFull → close_in way e k room ≡ idle OutputFull k
  close-full room = close_in-case (λ c. c.end ≡ OutputFull → c ≡ idle OutputFull k) room
      (λ w z y. absurd (let z : ◌≡◌ {A = ℕ} 0 1 = cc in omega arith))
      (λ z y. absurd (let z : ◌≡◌ {A = ℕ} 0 1 = cc in omega arith))
      (λ z y. absurd (let z : ◌≡◌ {A = ℕ} 0 1 = cc in omega arith))
      (λ y. refl)

  -- what holds of each
  pub record EachClose (c : PieceCall) : Type 0 where
    pub unrefused : Unrefused c
    pub few : c.kept.bytes.len ≤ 3

  -- and of the last, where it is not answered 50
  pub record LastClose (cs : List PieceCall) : Type 0 where
    pub room : ℕ
    pub not_full : (close_in way e k room).end ≡ OutputFull → ⊥
    pub end : (h : PieceEnd) → last_end h cs ≡ Ended (close_in way e k room).end
    pub kept : (x : Kept) → last_kept x cs ≡ kept_as (close_in way e k room).carry
    pub output : written_by cs ≡ (close_in way e k room).bytes

  pub record Closed (cs : List PieceCall) : Type 0 where
    pub each : All EachClose cs
    pub read : read_by cs ≡ 0
    pub last : (last_end (Ended OutputFull) cs ≡ Ended OutputFull → ⊥) → LastClose cs

  module _ (few : length k.bytes ≤ 3) (tested : Kept → ℕ → PieceAnswer)
      (tell : (room : ℕ) → tested (kept_as k) room ≡ answered_piece (close_in way e k room)) where
    abbrev Answers : PieceCall → Type 0
    Answers c = answer_in c ≡ tested c.came c.room

    close-is : (c : PieceCall) → c.came ≡ kept_as k → Answers c → answer_in c ≡ answered_piece (close_in way e k c.room)
    close-is c i a = a ∙ ap (λ (x : Kept). tested x c.room) i ∙ tell c.room

    each-close : (c : PieceCall) → c.came ≡ kept_as k → Answers c → EachClose c
    each-close c i a =
        let is = close-is c i a in
        let end : c.end ≡ Ended (close_in way e k c.room).end = ap (λ (x : PieceAnswer). x.end) is in
        let len : c.kept.bytes.len ≡ length (close_in way e k c.room).carry.bytes = ap (λ (x : PieceAnswer). x.kept.bytes.len) is in
        record { unrefused = ((close_in way e k c.room).end, end, close-valid c.room); few = rw len (close-few few c.room) }

    pub all_closed : (cs : List PieceCall) → Closing (kept_as k) cs → All Answers cs → Closed cs
    all_closed [] i a = record { each = tt; read = refl; last = λ f. absurd (f refl) }
    all_closed (c ∷ []) i a =
        let is = close-is c i.0 a.0 in
        let end : c.end ≡ Ended (close_in way e k c.room).end = ap (λ (x : PieceAnswer). x.end) is in
        record {
          each = (each-close c i.0 a.0, tt);
          read = add-zero c.read ∙ ap (λ (x : PieceAnswer). x.read) is ∙ close-read c.room;
          last = λ f. record {
            room = c.room;
            not_full = λ z. f (end ∙ ap Ended z);
            end = λ h. end;
            kept = λ x. ap (λ (x : PieceAnswer). x.kept) is;
            output = append-nil c.output ∙ ap (λ (x : PieceAnswer). x.bytes) is;
          };
        }
    all_closed (c ∷ c2 ∷ cs) i a =
        let is = close-is c i.0 a.0 in
        let end : c.end ≡ Ended (close_in way e k c.room).end = ap (λ (x : PieceAnswer). x.end) is in
        let full : c.end ≡ Ended OutputFull = i.1 (omega arith) in
        let same : close_in way e k c.room ≡ idle OutputFull k = close-full c.room (let z : (close_in way e k c.room).end ≡ OutputFull = cc in z) in
        let kept : c.kept ≡ kept_as k = ap (λ (x : PieceAnswer). x.kept) is ∙ ap (λ (x : PieceRun). kept_as x.carry) same in
        let bytes : c.output ≡ [] = ap (λ (x : PieceAnswer). x.bytes) is ∙ ap (λ (x : PieceRun). x.bytes) same in
        let read : c.read ≡ 0 = ap (λ (x : PieceAnswer). x.read) is ∙ close-read c.room in
        let ih = all_closed (c2 ∷ cs) (subst (λ (x : Kept). Closing x (c2 ∷ cs)) kept i.2) a.1 in
        record {
          each = (each-close c i.0 a.0, ih.each);
          read = let r = ih.read in omega arith;
          last = λ f.
              let l = ih.last f in
              record {
                room = l.room;
                not_full = l.not_full;
                end = λ h. l.end c.end;
                kept = λ x. l.kept c.kept;
                output = ap (λ (x : List ℕ). x ++ written_by (c2 ∷ cs)) bytes ∙ l.output;
              };
        }
