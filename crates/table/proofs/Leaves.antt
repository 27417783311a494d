-- What an accepted load leaves is the form of its table.
use Prim.Native.Nat.{ℕ, ◌≤◌}
use mathlib.Core.Path.{◌≡◌, refl, ◌∙◌}
use mathlib.Core.List.{List, map}
use native.Mathlib.Omega.{arith}
use lib.Dec.{leb}
use lib.ListN.{length, take, drop, length-map}
use lib.Seq.{take_at}
use borrow.Author.Tests.{leb-true}
use Rattle.lists.proofs.Laws.{and_right}
use Rattle.lists.proofs.Order.{length-sort}
use Rattle.table.specs.Limits.{Limits, needed}
use Rattle.table.specs.Meaning.{Table}
use Rattle.table.specs.Stored.{bits_of, info_of, stored_of, less}
use Rattle.table.specs.Slices.{Slices}
use Rattle.table.specs.Memory.{sorted, record_of, Form}
use Rattle.table.specs.Load.{accepted, load_of, read, left_by, left_in, states_of, codes_of, infos_of, ordered_of}
use Rattle.table.proofs.RowLaws.{length-numbers}
use Rattle.table.proofs.IndexOrder.{length-order_of}
use Rattle.lists.proofs.Filled.{filled-length}
use Rattle.table.proofs.Accepted.{accepted-keeps-rules, accepted-proper}
use Rattle.lists.specs.Place.{filled}

-- a lent slice afterwards, as far as it is needed
left-taken : (n : ℕ) (numbers : Table → List ℕ) (t : Table) (old : List ℕ) → length (numbers t) ≤ n → take n (left_by n numbers (read (accepted t)) old) ≡ filled n (numbers t)
left-taken n numbers t old h = take_at (filled n (numbers t)) (drop n old) n (filled-length n (numbers t) h)

-- the memory that is left for an accepted text is the form of its table
pub left-form : (lim : Limits) (text : List ℕ) (t : Table) (m : Slices) → 1 ≤ lim.rows → load_of lim text ≡ accepted t
    → Form lim t (record_of t) (left_in lim (read (accepted t)) m)
left-form lim text t m one e =
    let k = accepted-keeps-rules lim text t one e in
    let rows = leb-true (length t.rows) lim.rows (and_right (leb 1 (length t.rows)) _ k.so_far.rule1-rows) in
    let lines = leb-true (length t.lines) lim.mappings k.so_far.rule1-lines in
    let f = length-numbers t.rows (accepted-proper lim text t e).rows-full in
    let n : length (sorted t.lines) ≡ length t.lines = length-sort less (map stored_of t.lines) ∙ length-map t.lines stored_of in
    record {
      record_is = refl;
      states-are = left-taken (needed lim) states_of t m.states (omega arith);
      mappings-are = record {
        fits = omega arith;
        codes-are = left-taken lim.mappings codes_of t m.codes (let l = length-map (sorted t.lines) bits_of in omega arith);
        infos-are = left-taken lim.mappings infos_of t m.infos (let l = length-map (sorted t.lines) info_of in omega arith);
        order_is = left-taken lim.mappings ordered_of t m.order (let l = length-order_of (sorted t.lines) in omega arith);
      };
    }
