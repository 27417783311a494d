-- Calls with room for any line's report read a piece through: each takes at least a byte while there is one.
use Rattle.std.proofs.Common.{◌≡◌, ℕ, suc, ◌≤◌, List, [], ◌∷◌, ◌++◌, length, drop, refl, arith, length-drop}
use Rattle.lists.specs.Order.{All}
use Rattle.lists.proofs.Laws.{drop_past}
use Rattle.lists.proofs.Order.{All-⇒}
use Rattle.frames.specs.Stream.{InputLine}
use Rattle.frames.specs.Report.{reporting_of}
use Rattle.frames.specs.loops.Inputs.{Piece, calls_on, in_pieces}
use Rattle.frames.specs.loops.Inner.{Ample}
use Rattle.frames.proofs.Reports.{reporting-end, reporting-moves}

module _ (write : InputLine → List ℕ) where
  -- one call less is enough for what a call leaves
  left_less : (memory : List ℕ) (h : InputLine) (s : List ℕ) (room n : ℕ) → ((l : InputLine) → length (write l) ≤ room) → length s ≤ suc n
      → length (drop (reporting_of write memory h s room).taken s) ≤ n
  left_less memory h [] room n w b = simp length-drop (omega arith)
  left_less memory h (x ∷ s) room n w b =
      let m = reporting-moves write memory h (x ∷ s) room (omega arith) w in
      simp length-drop (omega arith)

  -- AS MANY CALLS AS BYTES ARE ENOUGH, whatever is held
  pub enough-calls : (rooms : List ℕ) → All (λ (room : ℕ). (l : InputLine) → length (write l) ≤ room) rooms → (memory : List ℕ) (h : InputLine) (s : List ℕ)
      → length s ≤ length rooms → (calls_on write memory h s rooms).unread ≡ []
  unfolding calls_on
  enough-calls [] w memory h s b = drop_past s 0 b
  enough-calls (room ∷ rooms) w memory h s b =
      let r = reporting_of write memory h s room in
      enough-calls rooms w.1 r.memory r.held (drop r.taken s) (left_less memory h s room (length rooms) w.0 b)

  -- and so for every piece of an input
  pub enough-pieces : (widest : ℕ) → ((l : InputLine) → length (write l) ≤ widest) → (pieces : List Piece) → All (Ample widest) pieces → (memory : List ℕ) (h : InputLine)
      → (in_pieces write memory h pieces).unread ≡ []
  unfolding in_pieces
  enough-pieces widest w [] a memory h = refl
  enough-pieces widest w (p ∷ pieces) a memory h =
      let r = calls_on write memory h p.bytes p.rooms in
      let wide : All (λ (room : ℕ). (l : InputLine) → length (write l) ≤ room) p.rooms = All-⇒ (λ room q l. omega (arith, w l)) p.rooms a.0.wide in
      rw (enough-calls p.rooms wide memory h p.bytes a.0.calls) (enough-pieces widest w pieces a.1 r.memory r.held)

  -- calls on no bytes change nothing, so a caller may stop where a piece is read through
  idle-calls : (rooms memory : List ℕ) (h : InputLine) → calls_on write memory h [] rooms ≡ record { text = []; held = h; memory = memory; unread = [] }
  unfolding calls_on
  idle-calls [] memory h = refl
  idle-calls (room ∷ rooms) memory h = rw (reporting-end write memory h [] room (omega arith)) (idle-calls rooms memory h)

  pub may-stop : (rooms more memory : List ℕ) (h : InputLine) (s : List ℕ) → (calls_on write memory h s rooms).unread ≡ []
      → calls_on write memory h s (rooms ++ more) ≡ calls_on write memory h s rooms
  unfolding calls_on
  may-stop [] more memory h s u = rw u (idle-calls more memory h)
  may-stop (room ∷ rooms) more memory h s u =
      let r = reporting_of write memory h s room in
      rw (may-stop rooms more r.memory r.held (drop r.taken s) u)
