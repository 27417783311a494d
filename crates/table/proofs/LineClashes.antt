-- T9 of a list of lines is that no two of the stored ones clash (t9⇒AllApart, AllApart⇒t9); a new line clashes with a stored one exactly when
-- it does with a line (read-taken-lines, write-taken-lines).
use mathlib.Core.Path.{◌≡◌, refl, sym, ◌∙◌}
use mathlib.Core.Bool.{true, false}
use mathlib.Core.List.{List, [], ◌∷◌, map}
use Prim.Native.Nat.{◌-◌}
use lib.Dec.{eqb}
use lib.ListN.{length}
use Rattle.lists.specs.Pick.{pick}
use Rattle.lists.specs.Order.{All}
use Rattle.lists.proofs.Order.{All-⇒}
use Rattle.lists.proofs.Chains.{unless-left, unless-right}
use Rattle.table.specs.Codes.{packed}
use Rattle.table.specs.Meaning.{Line, is_read, decides_point}
use Rattle.table.specs.Rules.{t9, shares_bytes, shares_point}
use Rattle.table.specs.Stored.{stored_of, read_clash, write_clash, less}
use Rattle.table.specs.Memory.{sorted}
use Rattle.table.specs.loops.Search.{read_taken, write_taken, AllApart}
use Rattle.table.specs.loops.Progress.{GoodLine}
use Rattle.table.proofs.Taken.{free-apart, apart-free}
use Rattle.lists.proofs.AllAny.{any-sorted, any-map}
use Rattle.table.proofs.StoredLine.{same-packed, stored-bits, stored-point, stored-extra, stored-reads, stored-writes}
use Rattle.lists.proofs.Conjunctions.{and-shift, and-shift-two}
use Rattle.lists.specs.Tests.{any_of}

-- T9 on lines and on what is stored
module _ (a b : Line) (g : GoodLine a) (h : GoodLine b) where
  shares-bytes : shares_bytes a b ≡ read_clash (stored_of a) (stored_of b)
  unfolding read_clash
  shares-bytes =
      (λ t. pick (is_read a) (pick (is_read b)
      (same-packed a.code b.code g.proper.bytes h.proper.bytes g.some_bytes g.few_bytes
      h.some_bytes t) false) false)
      ∙ and-shift-two (eqb (packed a.code) (packed b.code)) (eqb (length a.code - 1) (length b.code - 1))
      (is_read a) (is_read b)
      ∙ sym (λ t. pick (eqb (stored-bits a g t) (stored-bits b h t))
      (pick (eqb (stored-extra a g t) (stored-extra b h t))
      (pick (stored-reads a g t) (stored-reads b h t) false) false) false)

  shares-point : shares_point a b ≡ write_clash (stored_of a) (stored_of b)
  unfolding write_clash
  shares-point =
      and-shift (eqb a.point b.point) (decides_point a) (decides_point b)
      ∙ sym (λ t. pick (eqb (stored-point a g t) (stored-point b h t))
      (pick (stored-writes a g t) (stored-writes b h t) false) false)

-- a new line clashes with a stored one exactly when it does with a line
module _ (l : Line) (ls : List Line) (g : GoodLine l) (gs : All GoodLine ls) where
  read_taken_lem : read_taken (stored_of l) (map stored_of ls) ≡ any_of (λ x. shares_bytes x l) ls
  unfolding read_taken
  read_taken_lem =
      any-map stored_of (λ x. read_clash x (stored_of l)) (λ x. shares_bytes x l) ls
      (All-⇒ (λ x h. sym (shares-bytes x l h g)) ls gs)

  write-taken : write_taken (stored_of l) (map stored_of ls) ≡ any_of (λ x. shares_point x l) ls
  unfolding write_taken
  write-taken =
      any-map stored_of (λ x. write_clash x (stored_of l)) (λ x. shares_point x l) ls
      (All-⇒ (λ x h. sym (shares-point x l h g)) ls gs)

  pub read-taken-lines : read_taken (stored_of l) (sorted ls) ≡ any_of (λ x. shares_bytes x l) ls
  unfolding read_taken
  read-taken-lines = any-sorted less (λ x. read_clash x (stored_of l)) (map stored_of ls) ∙ read_taken_lem

  pub write-taken-lines : write_taken (stored_of l) (sorted ls) ≡ any_of (λ x. shares_point x l) ls
  unfolding write_taken
  write-taken-lines = any-sorted less (λ x. write_clash x (stored_of l)) (map stored_of ls) ∙ write-taken

-- T9 of a list of lines is that no two of the stored ones clash
pub t9⇒AllApart : (ls : List Line) → All GoodLine ls → t9 ls ≡ true → AllApart (map stored_of ls)
unfolding t9
t9⇒AllApart [] gs h = tt
t9⇒AllApart (l ∷ ls) gs h =
    let b = any_of (λ x. shares_bytes x l) ls in
    let p = any_of (λ x. shares_point x l) ls in
    let r = unless-right b (pick p false (t9 ls)) h in (
      free-apart (stored_of l) (map stored_of ls)
          (read_taken_lem l ls gs.0 gs.1 ∙ unless-left b (pick p false (t9 ls)) h)
          (write-taken l ls gs.0 gs.1 ∙ unless-left p (t9 ls) r),
      t9⇒AllApart ls gs.1 (unless-right p (t9 ls) r),
    )

pub AllApart⇒t9 : (ls : List Line) → All GoodLine ls → AllApart (map stored_of ls) → t9 ls ≡ true
unfolding t9
AllApart⇒t9 [] gs h = refl
AllApart⇒t9 (l ∷ ls) gs h =
    let r = apart-free (stored_of l) (map stored_of ls) h.0 in
    rw (sym (read_taken_lem l ls gs.0 gs.1) ∙ r.0, sym (write-taken l ls gs.0 gs.1) ∙ r.1)
    (AllApart⇒t9 ls gs.1 h.1)
