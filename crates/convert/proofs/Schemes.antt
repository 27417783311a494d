-- Writing and reading in a scheme, whatever runs behind the mark: the mark, and then the run in the scheme's side.
-- write_in-full, write_in-mark, write_in-case   writing, by whether the mark fits     write_in-more, read_in-more   more space
-- read_in-case   reading, whatever the mark       read_in-mark   reading behind the scheme's own mark     mark-chooses, mark-none   plain UTF-32: a mark of either order, none
use Rattle.std.specs.Prelude.{Option, Some, None}
use mathlib.Core.Path.{◌≡◌, refl, sym, ap, subst, ◌∙◌}
use Prim.Native.Nat.{ℕ, ◌+◌, ◌-◌, ◌≤◌, ◌<◌}
use mathlib.Core.List.{List, [], ◌++◌}
use native.Mathlib.Omega.{arith}
use borrow.Author.Tests.{le-leb, lt-leb, leb-true, leb-false}
use lib.Dec.{leb}
use lib.ListN.{length, drop, length-drop}
use lib.Seq.{drop-append_seam}
use Rattle.lists.proofs.Cases.{pick-case}
use Rattle.utf.specs.Utf32.{mark_in, mark_at}
use Rattle.utf.specs.Scheme.{Side, utf8, utf32, side_of}
use Rattle.utf.specs.declared.utf32.ByteOrder.{ByteOrder}
use Rattle.utf.specs.declared.utf32.ByteOrder.TheVariants.{Big, Little}
use Rattle.utf.specs.declared.scheme.Scheme.{Scheme}
use Rattle.utf.specs.declared.scheme.Scheme.TheVariants as scheme
use Rattle.utf.proofs.Words.{length-encode_in}
use Rattle.utf.proofs.FourBytes.{mark_at-mark_in}
use Rattle.convert.specs.Run.{Run, after, ended_with}
use Rattle.convert.specs.Convert.{mark_of, write_in, behind_mark, read_in}
use Rattle.convert.specs.loops.Laws.{NotFull}
use Rattle.convert.specs.declared.RunEnd.TheVariants.{OutputFull}
use Rattle.convert.specs.loops.Inner.{LawfulSide}
use Rattle.convert.proofs.Runs.{after_none}
use Rattle.convert.proofs.PlainSteps.{utf8-lawful, utf32-lawful}

length-mark : length (mark_in Big) ≡ 4
length-mark = length-encode_in Big 0xfeff

-- ## Writing

module _ (run : Side → ℕ → Run) where
  -- with no mark
  behind-none : (u : Side) (room : ℕ) → run u room ≡ after 0 [] (run u (room - 0))
  behind-none u room =
      let z : room - 0 ≡ room = omega arith in
      sym (after_none (run u (room - 0)) ∙ ap (run u) z)

  pub write_in-full : (e : Scheme) (room : ℕ) → room < length (mark_of e) → write_in e run room ≡ ended_with OutputFull 0
  write_in-full scheme.Utf8 room h = absurd (omega arith)
  write_in-full scheme.Utf32Be room h = absurd (omega arith)
  write_in-full scheme.Utf32Le room h = absurd (omega arith)
  write_in-full scheme.Utf32 room h = let m = length-mark in simp (lt-leb 4 room (omega arith))

  pub write_in-mark : (e : Scheme) (room : ℕ) → length (mark_of e) ≤ room → write_in e run room ≡ after 0 (mark_of e) (run (side_of e) (room - length (mark_of e)))
  write_in-mark scheme.Utf8 room h = behind-none utf8 room
  write_in-mark scheme.Utf32Be room h = behind-none (utf32 Big) room
  write_in-mark scheme.Utf32Le room h = behind-none (utf32 Little) room
  write_in-mark scheme.Utf32 room h =
      let m = length-mark in
      simp (le-leb 4 room (omega arith)) (ap (λ (n : ℕ). after 0 (mark_in Big) (run (utf32 Big) (room - n))) (sym m))

  -- by whether the mark fits
  pub write_in-case : (P : Run → Type 0) (e : Scheme) (room : ℕ) → P (ended_with OutputFull 0)
      → (length (mark_of e) ≤ room → P (after 0 (mark_of e) (run (side_of e) (room - length (mark_of e))))) → P (write_in e run room)
  write_in-case P e room full more =
      pick-case (λ (x : ℕ). P (write_in e run room)) (leb (length (mark_of e)) room) 0 0
      (λ t. let l = leb-true (length (mark_of e)) room t in subst P (sym (write_in-mark e room l)) (more l))
      (λ t. subst P (sym (write_in-full e room (leb-false (length (mark_of e)) room t))) full)

  pub write_in-more : ((u : Side) (room m : ℕ) → NotFull (run u room) → run u (room + m) ≡ run u room)
      → (e : Scheme) (room m : ℕ) → NotFull (write_in e run room) → write_in e run (room + m) ≡ write_in e run room
  write_in-more more scheme.Utf8 room m f = more utf8 room m f
  write_in-more more scheme.Utf32Be room m f = more (utf32 Big) room m f
  write_in-more more scheme.Utf32Le room m f = more (utf32 Little) room m f
  write_in-more more scheme.Utf32 room m f₀ =
      pick-case (λ (r : Run). NotFull r → write_in scheme.Utf32 run (room + m) ≡ r) (leb 4 room) _ _
      (λ t f.
      let l : 4 ≤ room = leb-true 4 room t in
      let d : room + m - 4 ≡ room - 4 + m = omega arith in
      simp (le-leb 4 (room + m) (omega arith)) (ap (after 0 (mark_in Big)) (ap (run (utf32 Big)) d ∙ more (utf32 Big) (room - 4) m f)))
      (λ t f. absurd (f refl))
      f₀

-- ## Reading

module _ (run : Side → List ℕ → ℕ → Run) where
  pub mark-chooses : (order : ByteOrder) (s : List ℕ) (room : ℕ) → read_in scheme.Utf32 run (mark_in order ++ s) room ≡ after 4 [] (run (utf32 order) s room)
  mark-chooses order s room =
      ap (λ (m : Option ByteOrder). behind_mark m run (mark_in order ++ s) room) (mark_at-mark_in order s)
      ∙ ap (λ (x : List ℕ). after 4 [] (run (utf32 order) x room)) behind
    where
      behind : drop 4 (mark_in order ++ s) ≡ s
      behind = ap (λ (n : ℕ). drop n (mark_in order ++ s)) (sym (length-encode_in order 0xfeff)) ∙ drop-append_seam (mark_in order) s

  pub mark-none : (s : List ℕ) (room : ℕ) → mark_at s ≡ None → read_in scheme.Utf32 run s room ≡ run (utf32 Big) s room
  mark-none s room e = ap (λ (m : Option ByteOrder). behind_mark m run s room) e

  pub read_in-mark : (e : Scheme) (s : List ℕ) (room : ℕ) → read_in e run (mark_of e ++ s) room ≡ after (length (mark_of e)) [] (run (side_of e) s room)
  read_in-mark scheme.Utf8 s room = sym (after_none (run utf8 s room))
  read_in-mark scheme.Utf32Be s room = sym (after_none (run (utf32 Big) s room))
  read_in-mark scheme.Utf32Le s room = sym (after_none (run (utf32 Little) s room))
  read_in-mark scheme.Utf32 s room = mark-chooses Big s room ∙ ap (λ (n : ℕ). after n [] (run (utf32 Big) s room)) (sym length-mark)

  behind-case : (P : Run → Type 0) (k : Option ByteOrder) (s : List ℕ) (room : ℕ)
      → ((u : Side) → LawfulSide u → u.unit ≡ 4 → (rest : List ℕ) → length rest ≤ length s → P (run u rest room))
      → ((r : Run) → P r → P (after 4 [] r))
      → P (behind_mark k run s room)
  behind-case P None s room plain behind = plain (utf32 Big) (utf32-lawful Big) refl s (omega arith)
  behind-case P (Some order) s room plain behind =
      behind _ (plain (utf32 order) (utf32-lawful order) refl (drop 4 s) (omega (arith, length-drop 4 s)))

  -- what holds in each side of the scheme, and behind a mark too
  pub read_in-case : (P : Run → Type 0) (e : Scheme) (s : List ℕ) (room : ℕ)
      → ((u : Side) → LawfulSide u → u.unit ≡ (side_of e).unit → (rest : List ℕ) → length rest ≤ length s → P (run u rest room))
      → ((r : Run) → P r → P (after 4 [] r))
      → P (read_in e run s room)
  read_in-case P scheme.Utf8 s room plain behind = plain utf8 utf8-lawful refl s (omega arith)
  read_in-case P scheme.Utf32Be s room plain behind = plain (utf32 Big) (utf32-lawful Big) refl s (omega arith)
  read_in-case P scheme.Utf32Le s room plain behind = plain (utf32 Little) (utf32-lawful Little) refl s (omega arith)
  read_in-case P scheme.Utf32 s room plain behind = behind-case P (mark_at s) s room plain behind

  behind_more : ((u : Side) → LawfulSide u → (s : List ℕ) (room m : ℕ) → NotFull (run u s room) → run u s (room + m) ≡ run u s room)
      → (k : Option ByteOrder) (s : List ℕ) (room m : ℕ) → NotFull (behind_mark k run s room) → behind_mark k run s (room + m) ≡ behind_mark k run s room
  behind_more more None s room m f = more (utf32 Big) (utf32-lawful Big) s room m f
  behind_more more (Some order) s room m f = ap (after 4 []) (more (utf32 order) (utf32-lawful order) (drop 4 s) room m f)

  pub read_in-more : ((u : Side) → LawfulSide u → (s : List ℕ) (room m : ℕ) → NotFull (run u s room) → run u s (room + m) ≡ run u s room)
      → (e : Scheme) (s : List ℕ) (room m : ℕ) → NotFull (read_in e run s room) → read_in e run s (room + m) ≡ read_in e run s room
  read_in-more more scheme.Utf8 s room m f = more utf8 utf8-lawful s room m f
  read_in-more more scheme.Utf32Be s room m f = more (utf32 Big) (utf32-lawful Big) s room m f
  read_in-more more scheme.Utf32Le s room m f = more (utf32 Little) (utf32-lawful Little) s room m f
  read_in-more more scheme.Utf32 s room m f = behind_more more (mark_at s) s room m f
