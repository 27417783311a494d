-- A conversion behind a mark, over slices, for `to_scheme` and `from_scheme`.
-- mark_of-unmarked, read_in-unmarked   a scheme that has no mark      side_of-ordered_by   UTF-32 in an order
-- drop-marked, put-behind   the output behind the mark, lent and back     written_behind, read_behind   the answer's counts
use mathlib.Core.Path.{◌≡◌, refl, sym, ap, ◌∙◌}
use Prim.Native.Nat.{ℕ, ◌+◌, ◌≤◌}
use mathlib.Core.List.{List, [], ◌∷◌, ◌++◌, append-nil, append_assoc}
use mathlib.Core.Logic.{inl, inr}
use native.Mathlib.Omega.{arith}
use native.Mathlib.Nat.{zero-add, add_comm}
use types.Run.{OneOf}
use denote.Enum.Declared.{tag_of}
use lib.ListN.{length, take, drop, length-append, length-drop, drop_of_length-le}
use lib.Seq.{take-append_seam, drop-append_seam, drop-drop}
use Rattle.lists.specs.Place.{placed}
use Rattle.utf.specs.Scheme.{Side, utf32, side_of, ordered_by}
use Rattle.utf.specs.declared.utf32.ByteOrder.{ByteOrder}
use Rattle.utf.specs.declared.utf32.ByteOrder.TheVariants.{Big, Little}
use Rattle.utf.specs.declared.scheme.Scheme.{Scheme}
use Rattle.utf.specs.declared.scheme.Scheme.TheVariants as scheme
use Rattle.utf.specs.contracts.scheme.Scheme as schemes
use Rattle.convert.specs.Run.{Run, after, converted_of, put_out}
use Rattle.convert.specs.Convert.{mark_of, read_in}
use Rattle.convert.specs.declared.Converted.{Converted}

-- a scheme that is not plain UTF-32 has no mark
abbrev Unmarked : Scheme → Type 0
Unmarked e = OneOf (0 ∷ 1 ∷ 2 ∷ []) (tag_of schemes.the_type e)

pub mark_of-unmarked : (e : Scheme) → Unmarked e → [] ≡ mark_of e
mark_of-unmarked scheme.Utf8 h = refl
mark_of-unmarked scheme.Utf32Be h = refl
mark_of-unmarked scheme.Utf32Le h = refl
mark_of-unmarked scheme.Utf32 (inl h) = absurd (omega arith)
mark_of-unmarked scheme.Utf32 (inr (inl h)) = absurd (omega arith)
mark_of-unmarked scheme.Utf32 (inr (inr h)) = absurd (omega arith)

pub read_in-unmarked : (e : Scheme) (run : Side → List ℕ → ℕ → Run) (s : List ℕ) (room : ℕ) → Unmarked e → run (side_of e) s room ≡ read_in e run s room
read_in-unmarked scheme.Utf8 run s room h = refl
read_in-unmarked scheme.Utf32Be run s room h = refl
read_in-unmarked scheme.Utf32Le run s room h = refl
read_in-unmarked scheme.Utf32 run s room (inl h) = absurd (omega arith)
read_in-unmarked scheme.Utf32 run s room (inr (inl h)) = absurd (omega arith)
read_in-unmarked scheme.Utf32 run s room (inr (inr h)) = absurd (omega arith)

-- a mark of n bytes
module _ (mark : List ℕ) (n : ℕ) (count : length mark ≡ n) where
  -- the output slice, when the part behind the mark is back
  module _ (old new : List ℕ) (put : new ≡ placed old 0 mark) where
    marked-split : new ≡ mark ++ drop n old
    marked-split = put ∙ ap (λ (k : ℕ). mark ++ drop k old) (zero-add (length mark) ∙ count)

    take-marked : take n new ≡ mark
    take-marked = ap (take n) marked-split ∙ ap (λ (k : ℕ). take k (mark ++ drop n old)) (sym count) ∙ take-append_seam mark (drop n old)

    pub drop-marked : drop n new ≡ drop n old
    drop-marked = ap (drop n) marked-split ∙ ap (λ (k : ℕ). drop k (mark ++ drop n old)) (sym count) ∙ drop-append_seam mark (drop n old)

    pub put-behind : (r : Run) (k : ℕ) (part : List ℕ) → length new ≤ n + k → part ≡ put_out r (drop n old)
        → take n new ++ (part ++ drop k (drop n new)) ≡ put_out (after 0 mark r) old
    put-behind r k part h is =
        let few : length (drop n new) ≤ k = omega (arith, length-drop n new) in
        let none : drop k (drop n new) ≡ [] = drop_of_length-le (drop n new) few in
        let long : n + length r.bytes ≡ length (mark ++ r.bytes) = omega (arith, length-append mark r.bytes, count) in
        (λ i. take-marked i ++ (part ++ none i))
        ∙ ap (λ (x : List ℕ). mark ++ x) (append-nil part ∙ is)
        ∙ sym (append_assoc mark r.bytes (drop (length r.bytes) (drop n old)))
        ∙ ap (λ (x : List ℕ). (mark ++ r.bytes) ++ x) (drop-drop (length r.bytes) n old ∙ ap (λ (m : ℕ). drop m old) long)

  -- the answer, with the mark's bytes counted
  pub written_behind : (r : Run) (d : Converted) → d ≡ converted_of r
      → ◌≡◌ {A = Converted} (record { end = d.end; read = d.read; written = d.written + n }) (converted_of (after 0 mark r))
  written_behind r d e =
      let long : length r.bytes + n ≡ length (mark ++ r.bytes) = omega (arith, length-append mark r.bytes, count) in
      ap (λ (x : Converted). record { end = x.end; read = x.read; written = x.written + n }) e
      ∙ (λ i. record { end = r.end; read = sym (zero-add r.read) i; written = long i })

pub read_behind : (n : ℕ) (r : Run) (d : Converted) → d ≡ converted_of r
    → ◌≡◌ {A = Converted} (record { end = d.end; read = d.read + n; written = d.written }) (converted_of (after n [] r))
read_behind n r d e =
    ap (λ (x : Converted). record { end = x.end; read = x.read + n; written = x.written }) e
    ∙ (λ i. record { end = r.end; read = add_comm r.read n i; written = length r.bytes })

pub side_of-ordered_by : (order : ByteOrder) → side_of (ordered_by order) ≡ utf32 order
side_of-ordered_by Big = refl
side_of-ordered_by Little = refl
