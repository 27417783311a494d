-- A new line's clashes by look-up (read_taken-holds_at, write_taken-holds_at and where it takes no part), and what they say of T9: no clash is that
-- the line keeps T9 with all that are stored (free-apart, apart-free).
use mathlib.Core.Path.{◌≡◌, refl, sym, ap, ◌∙◌}
use mathlib.Core.Bool.{Bool, false, true}
use mathlib.Core.Option.{none}
use mathlib.Core.List.{List}
use Prim.Native.Nat.{ℕ, ◌+◌, ◌<◌, ◌≤◌}
use lib.ListN.{take}
use borrow.Author.Tests.{eq-eqb, ne_eqb, le-leb, lt-leb}
use Rattle.lists.specs.Order.{All}
use Rattle.lists.proofs.Choice.{⇔⇒≡, pick-true-false}
use Rattle.lists.proofs.Order.{All-⇒, All-×⁺, All-In⁺}
use Rattle.table.specs.Stored.{Stored, point_in, rank_in, extra_in, read_clash, write_clash}
use Rattle.table.specs.Memory.{stored_list, stored_at}
use Rattle.table.specs.loops.Search.{reads_code, writes_point, holds_at, FirstAt, read_taken, write_taken, Apart}
use Rattle.table.proofs.StoredLaws.{Side, clashing, reading, writing, apart-sym}
use Rattle.table.proofs.Finding.{Sought, two-clash, is-reads, is-writes, sought-code, sought-point}
use Rattle.lists.proofs.Laws.{clash, ¬true⇒false}
use Rattle.lists.proofs.AllAny.{any-by, any-first, any_none}
use Rattle.lists.specs.Tests.{any_of}
use Rattle.lists.specs.Options.{is_some}
use Rattle.lists.proofs.Tests.{any_of-no⁻}

-- some stored mapping clashes where one was found at the place that the search gives
any_at : (f g : Stored → Bool)
    → ((x : Stored) → f x ≡ g x)
    → (n : ℕ) (codes infos : List ℕ) (at : ℕ)
    → FirstAt g n codes infos at
    → any_of f (stored_list (take n codes) (take n infos)) ≡ holds_at g n codes infos at
any_at f g h n codes infos at p =
    any-first f g h (stored_list (take n codes) (take n infos))
    ∙ ap is_some p
    ∙ sym (any-by (holds_at g n codes infos at) (stored_at codes infos at) false none refl)
    ∙ pick-true-false (holds_at g n codes infos at)

-- on one side: a stored mapping that is there with the key of e clashes with e; nothing does if e takes no part
module _ {K : Type 0} {before shares next : Stored → Stored → Bool} {key : Stored → K} {takes : Stored → Bool}
    (side : Side before shares next key takes) (e : Stored) where
  taken_is : {holds : Stored → Bool} {mark : Stored}
      → Sought before key takes holds mark
      → holds e ≡ true
      → (n : ℕ) (codes infos : List ℕ) (at : ℕ)
      → FirstAt holds n codes infos at
      → any_of (λ x. shares x e) (stored_list (take n codes) (take n infos)) ≡ holds_at holds n codes infos at
  taken_is {holds} sought h =
      any_at (λ x. shares x e) holds
      (λ x. ⇔⇒≡ (shares x e) (holds x)
      (λ p. let w = clashing side x e p in sought.alike x e h w.0 w.1.0)
      (λ p. two-clash side sought x e p h))

  not_taken : (es : List Stored) → takes e ≡ false → any_of (λ x. shares x e) es ≡ false
  not_taken es h =
      any_none (λ x. shares x e) es (All-In⁺ es (λ x i. ¬true⇒false (shares x e) (λ p. clash (clashing side x e p).1.1 h)))

pub read_taken-holds_at : (e : Stored) (n : ℕ) (codes infos : List ℕ) (at : ℕ) → rank_in e.info ≤ 1
    → FirstAt (reads_code e.bits (extra_in e.info + 1)) n codes infos at
    → read_taken e (stored_list (take n codes) (take n infos))
    ≡ holds_at (reads_code e.bits (extra_in e.info + 1)) n codes infos at
unfolding read_taken
read_taken-holds_at e n codes infos at h =
    let code = e.bits in
    let len = extra_in e.info + 1 in
    taken_is reading e (sought-code code len)
    (is-reads code len e refl refl (le-leb (rank_in e.info) 1 h)) n codes infos at

pub read-not-taken : (e : Stored) (es : List Stored) → 1 < rank_in e.info → read_taken e es ≡ false
unfolding read_taken
read-not-taken e es h = not_taken reading e es (lt-leb (rank_in e.info) 1 h)

pub write_taken-holds_at : (e : Stored) (n : ℕ) (codes infos : List ℕ) (at : ℕ) → (rank_in e.info ≡ 1 → ⊥)
    → FirstAt (writes_point (point_in e.info)) n codes infos at
    → write_taken e (stored_list (take n codes) (take n infos)) ≡ holds_at (writes_point (point_in e.info)) n codes infos at
unfolding write_taken
write_taken-holds_at e n codes infos at h =
    let point = point_in e.info in
    taken_is writing e (sought-point point)
    (is-writes point e refl (rw (ne_eqb (rank_in e.info) 1 h))) n codes infos at

pub write-not-taken : (e : Stored) (es : List Stored) → rank_in e.info ≡ 1 → write_taken e es ≡ false
unfolding write_taken
write-not-taken e es h = not_taken writing e es (rw (eq-eqb (rank_in e.info) 1 h))

-- not taken is that the new line keeps T9 with all
pub free-apart : (e : Stored) (es : List Stored) → read_taken e es ≡ false → write_taken e es ≡ false → All (Apart e) es
unfolding read_taken write_taken
free-apart e es p q =
    All-⇒ (λ x (w : Apart x e). apart-sym x e w) es
    (All-×⁺ (λ x. read_clash x e ≡ false) (λ x. write_clash x e ≡ false) es (any_of-no⁻ (λ x. read_clash x e) es p)
    (any_of-no⁻ (λ x. write_clash x e) es q))

pub apart-free : (e : Stored) (es : List Stored) → All (Apart e) es → (read_taken e es ≡ false) × (write_taken e es ≡ false)
unfolding read_taken write_taken
apart-free e es h = (
  any_none (λ x. read_clash x e) es (All-⇒ (λ x w. (apart-sym e x w).0) es h),
  any_none (λ x. write_clash x e) es (All-⇒ (λ x w. (apart-sym e x w).1) es h),
)
