-- A call with an allowance and a space of at least one leaves fewer complete codes after its position, or is finished; and what its entries are.
use Prim.Native.Nat.{ℕ, zero, suc, ◌+◌, ◌≤◌, ◌<◌}
use native.Mathlib.Omega.{arith}
use mathlib.Core.Path.{◌≡◌, sym, ap, subst}
use mathlib.Core.Bool.{Bool, true, false}
use mathlib.Core.Logic.{◌⊎◌, inl, inr}
use mathlib.Core.Option.{some}
use mathlib.Core.List.{List}
use lib.ListN.{length}
use Rattle.lists.specs.Pick.{pick}
use Rattle.lists.specs.Order.{All, In}
use Rattle.lists.specs.Paging.{Page, page_from}
use Rattle.lists.proofs.Laws.{clash}
use Rattle.lists.proofs.Cases.{pick-case}
use Rattle.lists.proofs.Order.{All-In⁻}
use Rattle.lists.proofs.Paging.{page_from-moves, position-page_from}
use Rattle.lists.proofs.PageEntries.{following-falls, All-entries}
use Rattle.table.specs.Limits.{limits}
use Rattle.table.specs.Codes.{code_of, bytes_of, AllByte}
use Rattle.lists.specs.Strings.{after, same}
use Rattle.table.specs.States.{end_kind}
use Rattle.table.specs.Meaning.{Table, steps_of, reader}
use Rattle.table.specs.Slices.{Slices}
use Rattle.table.specs.Memory.{table_in}
use Rattle.table.specs.Valid.{valid}
use Rattle.table.specs.declared.states.Code.{Code}
use Rattle.table.specs.declared.valid.Record.{Record}
use Rattle.table.proofs.Packing.{unpacked-packed}
use Rattle.table.proofs.CodeList.{Bytes, codes-bytes}
use Rattle.audit.specs.Audit.{Finding, Answer, Back, unread, unwritten, written, complete_codes, back_of, cause_by, cause_of, finding_of, pageable_codes, refused, looked, is_position, audit_on, audit_tested, is_unassigned}
use Rattle.audit.specs.Audit.{Looked, BadPosition, BadTable}
use Rattle.audit.proofs.CodePages.{codes-lawful}
use Rattle.audit.proofs.Tests.{position-packed}

-- a finding: a code of at most four bytes, by one of the four causes
pub record Found (f : Finding) : Type 0 where
  pub bytes : AllByte f.code
  pub short : length f.code ≤ 4
  pub least : 1 ≤ f.cause
  pub most : f.cause ≤ 4

few-causes : (c : List ℕ) (u : Bool) (b : Back) → cause_by c u b ≤ 4
few-causes c u (written d) =
    pick-case (λ (n : ℕ). n ≤ 4) (same d c) 0 (pick u 1 3) (λ h. omega arith) (λ h. pick-case (λ (n : ℕ). n ≤ 4) u 1 3 (λ k. omega arith) (λ k. omega arith))
few-causes c u unread = pick-case (λ (n : ℕ). n ≤ 4) u 1 2 (λ k. omega arith) (λ k. omega arith)
few-causes c u unwritten = pick-case (λ (n : ℕ). n ≤ 4) u 1 4 (λ k. omega arith) (λ k. omega arith)

module _ (t : Table) (fallback : Bool) where
  cause-most : (c : List ℕ) → cause_of t fallback c ≤ 4
  unfolding cause_of
  cause-most c = few-causes c (is_unassigned (end_kind (steps_of t) 0 c)) (back_of t fallback (reader c t.lines))

  is_found : (c : List ℕ) (w : ℕ) (f : Finding) → Bytes 4 c → w ≤ 4 → finding_of c w ≡ some f → Found f
  is_found c zero f b m e = let z : ◌≡◌ {A = ℕ} 0 1 = cc in absurd (omega arith)
  is_found c (suc w) f b m e =
      let k : record { code = c; cause = suc w } ≡ f = cc in
      subst Found k (record { bytes = b.bytes; short = b.short; least = omega arith; most = m })

  page-found : (allowance space : ℕ) (p : List ℕ) → All Found (page_from (pageable_codes t fallback) allowance space p).entries
  unfolding pageable_codes
  page-found allowance space p =
      All-entries (pageable_codes t fallback) (complete_codes t) (codes-lawful t fallback) (Bytes 4) Found
      (λ c f b e. is_found c (cause_of t fallback c) f b (cause-most c) e) (codes-bytes (steps_of t) 4 0) allowance space p

  -- positions as bytes and as codes
  page-bytes : (allowance space : ℕ) (p : List ℕ) → bytes_of (code_of p) ≡ p → bytes_of (code_of (page_from (pageable_codes t fallback) allowance space p).position) ≡ (page_from (pageable_codes t fallback) allowance space p).position
  unfolding pageable_codes
  page-bytes allowance space p h =
      position-page_from (pageable_codes t fallback) (complete_codes t) (codes-lawful t fallback) (λ q. bytes_of (code_of q) ≡ q)
      (λ s i. all-in-bytes s i) allowance space p h
    where
      all-in-bytes : (s : List ℕ) → In s (complete_codes t) → bytes_of (code_of s) ≡ s
      all-in-bytes s i = let b = All-In⁻ (Bytes 4) s (complete_codes t) (codes-bytes (steps_of t) 4 0) i in unpacked-packed s b.bytes b.short

  page-falls : (allowance space : ℕ) (p : List ℕ) → (page_from (pageable_codes t fallback) allowance space p).finished ≡ false → 1 ≤ allowance → 1 ≤ space
      → length (after (page_from (pageable_codes t fallback) allowance space p).position (complete_codes t)) < length (after p (complete_codes t))
  unfolding pageable_codes
  page-falls allowance space p f h k =
      let l = following-falls (pageable_codes t fallback) (complete_codes t) (codes-lawful t fallback) allowance space p in
      go (page_from-moves (pageable_codes t fallback) allowance space p h k) l
    where
      go : (1 ≤ (page_from (pageable_codes t fallback) allowance space p).count) ⊎ ((page_from (pageable_codes t fallback) allowance space p).finished ≡ true)
          → length (after (page_from (pageable_codes t fallback) allowance space p).position (complete_codes t)) + (page_from (pageable_codes t fallback) allowance space p).count ≡ length (after p (complete_codes t))
          → length (after (page_from (pageable_codes t fallback) allowance space p).position (complete_codes t)) < length (after p (complete_codes t))
      go (inl c) l = omega arith
      go (inr c) l = absurd (clash c f)

-- a call on any record and memory
module _ (rec : Record) (m : Slices) (fallback : Bool) (pos : Code) (allowance space : ℕ) where
  abbrev held : Table
  held = table_in rec m

  abbrev answer : Answer
  answer = audit_tested limits rec m fallback pos allowance space

  abbrev page : Page Finding (List ℕ)
  page = page_from (pageable_codes held fallback) allowance space (bytes_of pos)

  -- what holds of a page from a position and of a refusal holds of the answer
  by-ending : (R : Answer → Type 0) → (pos ≡ code_of (bytes_of pos) → R (looked page)) → R (refused BadPosition pos) → R (refused BadTable pos) → R answer
  unfolding audit_tested audit_on
  by-ending R f g h =
      pick-case R (valid limits rec m) (audit_on held fallback pos allowance space) (refused BadTable pos)
      (λ v. pick-case R (is_position (steps_of held) pos) (looked page) (refused BadPosition pos) (λ p. f (position-packed (steps_of held) pos p)) (λ p. g))
      (λ v. h)

  pub entries-found : All Found answer.page.entries
  entries-found = by-ending (λ a. All Found a.page.entries) (λ e. page-found held fallback allowance space (bytes_of pos)) tt tt

  pub fewer-left : answer.ending ≡ Looked → answer.page.finished ≡ false → 1 ≤ allowance → 1 ≤ space
      → length (after (bytes_of answer.page.position) (complete_codes held)) < length (after (bytes_of pos) (complete_codes held))
  fewer-left =
      by-ending
      (λ a. a.ending ≡ Looked → a.page.finished ≡ false → 1 ≤ allowance → 1 ≤ space → length (after (bytes_of a.page.position) (complete_codes held)) < length (after (bytes_of pos) (complete_codes held)))
      (λ p e f h k. subst (λ (q : List ℕ). length (after q (complete_codes held)) < length (after (bytes_of pos) (complete_codes held)))
      (sym (page-bytes held fallback allowance space (bytes_of pos) (ap bytes_of (sym p)))) (page-falls held fallback allowance space (bytes_of pos) f h k))
      (λ e f h k. let z : ◌≡◌ {A = ℕ} 0 1 = cc in absurd (omega arith))
      (λ e f h k. let z : ◌≡◌ {A = ℕ} 0 1 = cc in absurd (omega arith))
