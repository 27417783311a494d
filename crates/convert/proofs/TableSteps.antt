-- What a step looks up in a table.
use Prim.Native.Nat.{ℕ, ◌<◌, ◌≤◌}
use mathlib.Core.Path.{◌≡◌, sym, ap, ◌∙◌}
use mathlib.Core.Bool.{Bool}
use mathlib.Core.Option.{none}
use mathlib.Core.List.{List}
use native.Mathlib.Omega.{arith}
use lib.ListN.{length, take}
use lib.Seq.{length-take-le}
use Rattle.lists.specs.Order.{All}
use Rattle.lists.proofs.AllParts.{All-take}
use Rattle.lists.proofs.Cases.{pick_yes}
use Rattle.utf.specs.declared.utf8.Sequence.TheVariants as sequence
use Rattle.table.specs.States.{cut_of}
use Rattle.table.specs.Codes.{packed, code_of, bytes_of}
use Rattle.table.specs.Meaning.{Table, steps_of, reader, writer}
use Rattle.table.specs.Stored.{padded}
use Rattle.table.specs.Lookup.{line_found, reader_of}
use Rattle.table.specs.declared.states.Cut.{Cut}
use Rattle.table.specs.declared.states.Cut.TheVariants as cut
use Rattle.table.proofs.Packing.{all-bytes, unpacked-packed, packed-padded}
use Rattle.table.proofs.Cuts.{cut-within}
use Rattle.convert.specs.Step.{point_for, on_cut, to_sequence, read_as, point_read_as, written_by, writes}
use Rattle.std.specs.Prelude.{Option as Optional, Some, None}
use Rattle.convert.specs.declared.Settings.{Settings}
use Rattle.convert.proofs.LookUps.{point-some, point-none}
use Rattle.table.specs.declared.lookup.Mapping.{Mapping}
use Rattle.table.specs.declared.states.EndKind.{EndKind}

module _ (t : Table) (settings : Settings) (s : List ℕ) (bytes : All (λ b. b < 256) s) where
  pub on-cut : (x : Cut) → cut_of (steps_of t) 0 s ≡ x → to_sequence t settings 0 s ≡ on_cut t settings.substitute s x
  unfolding to_sequence
  on-cut x e = ap (on_cut t settings.substitute s) e

  module _ (n : ℕ) (kind : EndKind) (e : cut_of (steps_of t) 0 s ≡ cut.Complete n kind) (bits : ℕ) (bits_are : bits ≡ packed (take n s))
      (f : Optional Mapping) (found : line_found f ≡ reader_of (record { bits = bits; len = n }) t.lines) where
    found-reader : reader (take n s) t.lines ≡ line_found f
    found-reader =
        let w = cut-within (steps_of t) s 0 n kind e in
        let m : length (take n s) ≡ n = length-take-le n s w.2 in
        let b = all-bytes (take n s) (All-take (λ x. x < 256) n s bytes) in
        let lo : 1 ≤ length (take n s) = omega (arith, w.0) in
        let hi : length (take n s) ≤ 4 = omega (arith, w.1) in
        sym (found
        ∙ (λ i. reader_of (record { bits = bits_are i; len = sym m i }) t.lines)
        ∙ pick_yes (padded (length (take n s)) (packed (take n s))) (reader (bytes_of (code_of (take n s))) t.lines) none (packed-padded (take n s) b lo hi)
        ∙ ap (λ (x : List ℕ). reader x t.lines) (unpacked-packed (take n s) b hi))

    to-found : to_sequence t settings 0 s ≡ point_for t.subchar1 settings.substitute n (line_found f)
    to-found = on-cut (cut.Complete n kind) e ∙ ap (point_for t.subchar1 settings.substitute n) found-reader

    module _ (r : Optional ℕ) (choice : point_read_as r ≡ read_as (line_found f)) where
      pub on-point : (c : ℕ) → r ≡ Some c → to_sequence t settings 0 s ≡ sequence.Scalar c n
      on-point c q = to-found ∙ point-some t.subchar1 settings.substitute n c (line_found f) (sym choice ∙ ap point_read_as q)

      pub on-nothing : r ≡ None → to_sequence t settings 0 s ≡ point_for t.subchar1 settings.substitute n none
      on-nothing q = to-found ∙ point-none t.subchar1 settings.substitute n (line_found f) (sym choice ∙ ap point_read_as q)

-- what a code point is written as, by the line that was found
pub found-writes : (t : Table) (fallback : Bool) (c : ℕ) (f : Optional Mapping) → line_found f ≡ writer c t.lines → written_by fallback (line_found f) ≡ writes t fallback c
unfolding writes
found-writes t fallback c f found = ap (written_by fallback) found
