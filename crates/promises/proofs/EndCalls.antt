-- The first and the last call, of `report_table` and of `report_closing`, each as the function's own contract has it: with space for the widest line of
-- a frame the line is put.
use Prim.Native.Nat.{ℕ, ◌≤◌, ◌<◌}
use native.Mathlib.Omega.{arith}
use mathlib.Core.Path.{◌≡◌, refl, sym, ap, ◌∙◌, subst}
use mathlib.Core.List.{List, [], ◌∷◌}
use lib.ListN.{length}
use Rattle.table.specs.Limits.{limits}
use Rattle.table.specs.Slices.{Slices}
use Rattle.table.specs.Memory.{record_of}
use Rattle.table.specs.Numbers.{refusal_number, Loaded}
use Rattle.table.specs.Load.{Outcome, accepted, refused, load_of, loaded_as}
use Rattle.table.specs.declared.valid.Record.{Record}
use Rattle.table.proofs.Counts.{record-counts, mappings-few, refused-within, numbers-few}
use Rattle.frames.specs.Lines.{two_numbers, refused_line, closing_line}
use Rattle.frames.specs.Report.{table_line}
use Rattle.frames.specs.Pages.{page_in, listed_of}
use Rattle.frames.specs.loops.Inputs.{pages_from, last_listed}
use Rattle.frames.specs.declared.pages.ListedSoFar.{ListedSoFar}
use Rattle.frames.specs.declared.pages.Listed.{Listed}
use Rattle.frames.proofs.Digits.{count-le}
use Rattle.frames.proofs.Writes.{length-ok, length_two}
use Rattle.frames.proofs.Fronts.{counted-taken}
use Rattle.promises.specs.Program.{TableCall, table_loaded, table_out, table_put, ClosingCall, closing_listing, closing_out, closing_put}

-- two numbers of 64 bits, each behind a short text
two_fits : (a : List ℕ) (n : ℕ) (b : List ℕ) (m : ℕ) → length a ≤ 100 → length b ≤ 100 → n < 18446744073709551616 → m < 18446744073709551616
    → length (two_numbers a n b m) ≤ 32777
two_fits a n b m ha hb hn hm = omega (arith, length_two a n b m, count-le n hn, count-le m hm)

table_fits : (text : List ℕ) → length text ≤ limits.text → (o : Outcome) → load_of limits text ≡ o → length (table_line (loaded_as o)) ≤ 32777
unfolding table_line refused_line
table_fits text h (accepted t) e =
    let n = (record_of t).mappings in
    omega (arith, length-ok n, count-le n (omega (arith, record-counts t, mappings-few limits text t (omega arith) e)))
table_fits text h (refused why k) e =
    two_fits _ (refusal_number why) (32 ∷ []) k (omega arith) (omega arith) (omega (arith, numbers-few why))
    (omega (arith, refused-within limits text why k e))

pub table-put : (c : TableCall) (text : List ℕ) → length text ≤ limits.text → table_loaded c ≡ loaded_as (load_of limits text) → 32777 ≤ length (table_out c)
    → table_put c ≡ table_line (table_loaded c)
table-put c text h e room =
    let line = table_line (table_loaded c) in
    let f : length line ≤ 32777 = subst (λ (l : Loaded). length (table_line l) ≤ 32777) (sym e) (table_fits text h (load_of limits text) refl) in
    counted-taken (table_out c) line (omega arith) c.result c.exit.1.0.now c.post.0

-- sums are of 64 bits
abbrev Small : ListedSoFar → Type 0
Small done = (done.looked < 18446744073709551616) × (done.listed < 18446744073709551616)

pub sums-small : (rec : Record) (m : Slices) (rooms : List ℕ) (first : Listed) → Small first.reached
    → Small (last_listed first (pages_from rec m first.reached rooms)).reached
unfolding pages_from last_listed
sums-small rec m [] first h = h
sums-small rec m (room ∷ rooms) first h =
    let a = page_in rec m first.reached.position room in
    sums-small rec m rooms (listed_of first.reached a) (omega arith)

pub closing-put : (c : ClosingCall) (done : ListedSoFar) → closing_listing c ≡ done → Small done → 32777 ≤ length (closing_out c)
    → closing_put c ≡ closing_line done.looked done.listed
unfolding closing_line
closing-put c done e h room =
    let old = closing_listing c in
    let line = closing_line old.looked old.listed in
    let w = subst Small (sym e) h in
    let f : length line ≤ 32777 = two_fits _ old.looked _ old.listed (omega arith) (omega arith) w.0 w.1 in
    counted-taken (closing_out c) line (omega arith) c.result c.exit.1.0.now c.post.0
    ∙ ap (λ (d : ListedSoFar). closing_line d.looked d.listed) e
