-- The two choices by the line that was found: what a code point is written as, and what is sent for that.
use Rattle.std.specs.Prelude.{Option as Optional, Some}
use Prim.Native.Nat.{ℕ, ◌-◌, ◌*◌, ◌%◌, ◌≤◌}
use native.Mathlib.Omega.{arith}
use mathlib.Core.Path.{◌≡◌, refl, sym, ap, ◌∙◌}
use mathlib.Core.Bool.{Bool, true, false}
use mathlib.Core.Option.{Option, none, some}
use mathlib.Core.List.{List}
use Rattle.table.specs.Codes.{unpacked, bytes_of}
use Rattle.table.specs.Meaning.{Table}
use Rattle.table.specs.Memory.{sub1_in}
use Rattle.table.specs.Lookup.{indicator_of, line_found}
use Rattle.table.specs.declared.lookup.Use.{Use}
use Rattle.table.specs.declared.lookup.Use.TheVariants.{RoundTrip, Fallback, Substituted, ReverseFallback}
use Rattle.table.specs.declared.lookup.Mapping.{Mapping}
use Rattle.table.specs.declared.valid.Record.{Record}
use Rattle.table.proofs.Packing.{unpacked-one}
use Rattle.table.proofs.TableParts.{subchar1-none, subchar1-some}
use Rattle.convert.specs.Run.{Gives}
use Rattle.convert.specs.Step.{Written, written_by, written_in, OwnCode, sub1_bytes, substituted, sent_for}
use Rattle.convert.specs.declared.WrittenAs.{WrittenAs}
use Rattle.convert.specs.declared.WrittenAs.TheVariants as written

-- what a line that was found says of its code point, by how it is used
module _ (f : Optional Mapping) (m : Mapping) (e : f ≡ Some m) where
  abbrev by : Bool → Use → Written
  by fallback u = written_by fallback (some (record { point = m.point; code = bytes_of m.code; indicator = indicator_of u }))

  chosen : (fallback : Bool) (u : Use) → m.used ≡ u → by fallback u ≡ written_by fallback (line_found f)
  chosen fallback u q = sym (ap (λ (x : Optional Mapping). written_by fallback (line_found x)) e ∙ ap (by fallback) q)

  abbrev Chooses : Bool → WrittenAs → Type 0
  Chooses fallback w = (written_in w ≡ written_by fallback (line_found f)) × OwnCode f w

  pub both_ways : (fallback : Bool) → m.used ≡ RoundTrip → Chooses fallback (written.Code m.code)
  both_ways fallback q = (chosen fallback RoundTrip q, (m, e, refl))

  pub fallback-on : (fallback : Bool) → m.used ≡ Fallback → fallback ≡ true → Chooses fallback (written.Code m.code)
  fallback-on fallback q y = (ap (λ (b : Bool). by b Fallback) (sym y) ∙ chosen fallback Fallback q, (m, e, refl))

  pub fallback-off : (fallback : Bool) → m.used ≡ Fallback → fallback ≡ false → Chooses fallback written.Nothing
  fallback-off fallback q y = (ap (λ (b : Bool). by b Fallback) (sym y) ∙ chosen fallback Fallback q, tt)

  pub by-subchar1 : (fallback : Bool) → m.used ≡ Substituted → Chooses fallback written.Subchar1
  by-subchar1 fallback q = (chosen fallback Substituted q, tt)

  pub only-read : (fallback : Bool) → m.used ≡ ReverseFallback → Chooses fallback written.Nothing
  only-read fallback q = (chosen fallback ReverseFallback q, tt)

-- what is sent, by what the code point is written as
module _ (rec : Record) (t : Table) (same-sub : t.subchar ≡ bytes_of rec.subchar) (same-sub1 : t.subchar1 ≡ sub1_in rec.subchar1) (substitute : Bool) (n : ℕ)
    (w : WrittenAs) where
  abbrev Sends : Gives → Type 0
  Sends g = g ≡ sent_for t substitute 0 n (written_in w)

  pub sends : (x : WrittenAs) → w ≡ x → Sends (sent_for t substitute 0 n (written_in x))
  sends x e = ap (λ (y : WrittenAs). sent_for t substitute 0 n (written_in y)) (sym e)

  pub sends-subchar : w ≡ written.Nothing → Sends (substituted substitute (bytes_of rec.subchar) n 0)
  sends-subchar e = ap (λ (l : List ℕ). substituted substitute l n 0) (sym same-sub) ∙ sends written.Nothing e

  module _ (e : w ≡ written.Subchar1) where
    sends-one : (o : Option ℕ) → sub1_in rec.subchar1 ≡ o → Sends (substituted substitute (sub1_bytes o (bytes_of rec.subchar)) n 0)
    sends-one o q =
        (λ i. substituted substitute (sub1_bytes (sym (same-sub1 ∙ q) i) (sym same-sub i)) n 0) ∙ sends written.Subchar1 e

    pub sends_none : rec.subchar1 ≡ 0 → Sends (substituted substitute (bytes_of rec.subchar) n 0)
    sends_none z = sends-one none (subchar1-none rec.subchar1 z)

    pub sends-subchar1 : (rec.subchar1 ≡ 0 → ⊥) → rec.subchar1 ≤ 256 → (v : ℕ) → v ≡ (rec.subchar1 - 1) % 256 * 16777216 → Sends (substituted substitute (unpacked 1 v) n 0)
    sends-subchar1 z few v q =
        ap (λ (l : List ℕ). substituted substitute l n 0) (unpacked-one (rec.subchar1 - 1) v (omega arith))
        ∙ sends-one (some (rec.subchar1 - 1)) (subchar1-some rec.subchar1 z)

-- subchar1, as the table gives it
module _ (t : Table) (substitute : Bool) (n : ℕ) (w : WrittenAs) (e : w ≡ written.Subchar1) (b v : ℕ) where
  pub sends-byte : some b ≡ t.subchar1 → v ≡ b * 16777216 → substituted substitute (unpacked 1 v) n 0 ≡ sent_for t substitute 0 n (written_in w)
  sends-byte q z =
      ap (λ (l : List ℕ). substituted substitute l n 0) (unpacked-one b v z)
      ∙ ap (λ (o : Option ℕ). substituted substitute (sub1_bytes o t.subchar) n 0) q
      ∙ ap (λ (y : WrittenAs). sent_for t substitute 0 n (written_in y)) (sym e)
