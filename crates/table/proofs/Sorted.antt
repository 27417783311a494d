-- The test of the mapping slices holds exactly when they are the form of some rising list of stored mappings that keeps T9.
-- store-form   from the test to the form           form-store   from the form to the test
-- read_next⇒less                 neighbours that pass rise
-- sorted-rising, sorted_apart   lines in any order that keep T9: sorted they rise and still keep it
use mathlib.Core.Path.{◌≡◌, sym, ap, ◌∙◌}
use mathlib.Core.Bool.{true, false}
use mathlib.Core.List.{List, map}
use Prim.Native.Nat.{ℕ, ◌-◌, ◌≤◌}
use native.Mathlib.Omega.{arith}
use lib.Dec.{leb}
use lib.ListN.{length, take, drop, length-map}
use lib.Seq.{length-take-le}
use borrow.Author.Tests.{le-leb, leb-true}
use Rattle.lists.specs.Order.{All, Rising, rises, sort}
use Rattle.lists.proofs.Laws.{and_yes, and_left, and_right}
use Rattle.lists.proofs.Order.{All-In⁺, Pairs-⇒, rises⇒Rising, Rising⇒rises, Rising-sort, Pairs-sort}
use Rattle.table.specs.Stored.{Stored, bits_of, info_of, less, write_clash, read_next}
use Rattle.table.specs.Memory.{stored_list, order_of}
use Rattle.table.specs.Valid.{ordered, store_ok}
use Rattle.table.proofs.StoredLaws.{less-trans, less-apart, apart-differ, reading, next-yes, next-parts, next-trans, apart-sym}
use Rattle.table.proofs.Entries.{length-entries, map-bits_of-entries, map-info_of-entries, entries-map}
use Rattle.lists.proofs.Filled.{part_filled, filled-long, filled-take, filled-zeros}
use Rattle.table.proofs.IndexOrder.{length-order_of, passed-order, passed-writes, order-passes}
use Rattle.lists.proofs.Nth.{Pairs-×⁺}
use Rattle.lists.specs.Place.{filled}
use Rattle.lists.specs.Tests.{zeros}
use Rattle.table.specs.loops.Search.{Apart, AllApart, Kept}

-- neighbours that pass rise
pub read_next⇒less : (es : List Stored) → rises read_next es ≡ true → Rising less es
read_next⇒less es r =
    Pairs-⇒ {P = λ e. Unit {0}} (λ a b p q e. (next-parts reading a b e).0) es (All-In⁺ es (λ e i. tt))
    (rises⇒Rising read_next (next-trans reading) es r)

-- ## From the test to the form
module _ (limit n : ℕ) (codes infos order : List ℕ) (ok : store_ok limit n codes infos order ≡ true) where
  abbrev es : List Stored
  es = stored_list (take n codes) (take n infos)

  record Parts : Type 0 where
    fits : n ≤ limit
    c-long : limit ≤ length codes
    i-long : limit ≤ length infos
    o-long : limit ≤ length order
    risen : rises read_next es ≡ true
    in_order : ordered (take n codes) (take n infos) (take n order) ≡ true
    c-zero : zeros (take (limit - n) (drop n codes)) ≡ true
    i-zero : zeros (take (limit - n) (drop n infos)) ≡ true
    o-zero : zeros (take (limit - n) (drop n order)) ≡ true

  parts : Parts
  unfolding store_ok
  parts =
      let p1 = and_right (leb n limit) _ ok in
      let p2 = and_right (leb limit (length codes)) _ p1 in
      let p3 = and_right (leb limit (length infos)) _ p2 in
      let p4 = and_right (leb limit (length order)) _ p3 in
      let p5 = and_right (rises read_next es) _ p4 in
      let p6 = and_right (ordered (take n codes) (take n infos) (take n order)) _ p5 in
      let p7 = and_right (zeros (take (limit - n) (drop n codes))) _ p6 in
      record {
        fits = leb-true n limit (and_left _ _ ok);
        c-long = leb-true limit (length codes) (and_left _ _ p1);
        i-long = leb-true limit (length infos) (and_left _ _ p2);
        o-long = leb-true limit (length order) (and_left _ _ p3);
        risen = and_left _ _ p4;
        in_order = and_left _ _ p5;
        c-zero = and_left _ _ p6;
        i-zero = and_left _ _ p7;
        o-zero = and_right (zeros (take (limit - n) (drop n infos))) _ p7;
      }

  clen : length (take n codes) ≡ n
  clen = length-take-le n codes (omega (arith, parts.fits, parts.c-long))

  ilen : length (take n infos) ≡ n
  ilen = length-take-le n infos (omega (arith, parts.fits, parts.i-long))

  olen : length (take n order) ≡ n
  olen = length-take-le n order (omega (arith, parts.fits, parts.o-long))

  es-count : length es ≡ n
  es-count = length-entries (take n codes) (take n infos) (clen ∙ sym ilen) ∙ clen

  es-codes : map bits_of es ≡ take n codes
  es-codes = map-bits_of-entries (take n codes) (take n infos) (clen ∙ sym ilen)

  es-infos : map info_of es ≡ take n infos
  es-infos = map-info_of-entries (take n codes) (take n infos) (clen ∙ sym ilen)

  nexts : Rising read_next es
  nexts = rises⇒Rising read_next (next-trans reading) es parts.risen

  any : All (λ e. Unit {0}) es
  any = All-In⁺ es (λ e i. tt)

  es-rising : Rising less es
  es-rising = read_next⇒less es parts.risen

  es-ordered : ordered (map bits_of es) (map info_of es) (take n order) ≡ true
  es-ordered = rw (es-codes, es-infos) parts.in_order

  abbrev Both : Stored → Stored → Type 0
  Both a b = (read_next a b ≡ true) × (write_clash a b ≡ false)

  es-apart : AllApart es
  es-apart =
      Pairs-⇒ {P = λ e. Unit {0}} (λ a b p q (w : Both a b). ((next-parts reading a b w.0).1, w.1)) es any
      (Pairs-×⁺ (λ a b. read_next a b ≡ true) (λ a b. write_clash a b ≡ false) es nexts
      (passed-writes es (take n order) es-rising (olen ∙ sym es-count) es-ordered))

  es-order : take n order ≡ order_of es
  es-order = passed-order es (take n order) es-rising (olen ∙ sym es-count) es-ordered

  pub store-form : Kept limit n codes infos order
  store-form = record {
    es = es;
    count = es-count;
    rising = es-rising;
    apart = es-apart;
    stored = record {
      fits = omega (arith, es-count, parts.fits);
      codes-are =
          part_filled limit n codes parts.fits parts.c-long parts.c-zero ∙ ap (filled limit) (sym es-codes);
      infos-are =
          part_filled limit n infos parts.fits parts.i-long parts.i-zero ∙ ap (filled limit) (sym es-infos);
      order_is = part_filled limit n order parts.fits parts.o-long parts.o-zero ∙ ap (filled limit) es-order;
    };
  }

-- ## From the form to the test
pub form-store : (limit n : ℕ) (codes infos order : List ℕ)
    → Kept limit n codes infos order
    → store_ok limit n codes infos order ≡ true
unfolding store_ok
form-store limit n codes infos order k =
    let es = k.es in
    let f = k.stored in
    let h : n ≤ limit = omega (arith, f.fits, k.count) in
    let cl : length (map bits_of es) ≡ n = length-map es bits_of ∙ k.count in
    let il : length (map info_of es) ≡ n = length-map es info_of ∙ k.count in
    let ol : length (order_of es) ≡ n = length-order_of es ∙ k.count in
    let ct : take n codes ≡ map bits_of es = filled-take limit n codes (map bits_of es) cl h f.codes-are in
    let it : take n infos ≡ map info_of es = filled-take limit n infos (map info_of es) il h f.infos-are in
    let ot : take n order ≡ order_of es = filled-take limit n order (order_of es) ol h f.order_is in
    let any : All (λ e. Unit {0}) es = All-In⁺ es (λ e i. tt) in
    let nexts : Rising read_next es =
    Pairs-⇒ {P = λ e. Unit {0}}
    (λ a b u v (w : (less a b ≡ true) × Apart a b). next-yes reading a b w.0 w.1.0) es any
    (Pairs-×⁺ (λ a b. less a b ≡ true) Apart es k.rising k.apart) in
    let rs : rises read_next (stored_list (take n codes) (take n infos)) ≡ true =
    rw (ct, it, entries-map) (Rising⇒rises read_next es nexts) in
    let os : ordered (take n codes) (take n infos) (take n order) ≡ true =
    rw (ct, it, ot) (order-passes es k.rising k.apart) in
    and_yes _ _ (le-leb n limit h)
    (and_yes _ _ (le-leb limit (length codes) (filled-long limit codes (map bits_of es) (omega arith) f.codes-are))
    (and_yes _ _ (le-leb limit (length infos) (filled-long limit infos (map info_of es) (omega arith) f.infos-are))
    (and_yes _ _ (le-leb limit (length order) (filled-long limit order (order_of es) (omega arith) f.order_is))
    (and_yes _ _ rs
    (and_yes _ _ os
    (and_yes _ _ (filled-zeros limit n codes (map bits_of es) cl f.codes-are)
    (and_yes _ _ (filled-zeros limit n infos (map info_of es) il f.infos-are)
    (filled-zeros limit n order (order_of es) ol f.order_is))))))))

-- lines in the order of a text: sorted they rise and still keep T9
pub sorted-rising : (ls : List Stored) → AllApart ls → Rising less (sort less ls)
sorted-rising ls t =
    Rising-sort less less-trans ls
    (Pairs-⇒ {P = λ e. Unit {0}} (λ a b p q w. less-apart a b (apart-differ a b w.0 w.1)) ls
    (All-In⁺ ls (λ e i. tt)) t)

pub sorted_apart : (ls : List Stored) → AllApart ls → AllApart (sort less ls)
sorted_apart ls t = Pairs-sort less apart-sym ls t
