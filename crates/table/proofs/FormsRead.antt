-- Lines after CHARMAP and after END CHARMAP: each form of the grammar is read as itself, and what is read is of the grammar.
use Prim.Native.Nat.{ℕ}
use mathlib.Core.Path.{◌≡◌, refl, ◌∙◌}
use mathlib.Core.Logic.{◌⊎◌, inl, inr}
use mathlib.Core.List.{List, [], ◌∷◌, ◌++◌}
use mathlib.Core.Bool.{false}
use lib.ListN.{drop}
use lib.Dec.{eqb}
use Rattle.lists.specs.Ascii.{ascii}
use Rattle.lists.proofs.Cases.{pick-case}
use Rattle.table.specs.Text.{byte_of, skip_at, ends_at, is_charmap, unicode_at}
use Rattle.lists.specs.Strings.{begins}
use Rattle.table.specs.Mapping.{BodyLine, no_form, reserved, blank, ending, mapping, mapping_form, is_end, body_line_of, after_end_of}
use Rattle.table.specs.Load.{line_as}
use Rattle.table.specs.Grammar.{Token, BlankLine, CharmapLine, EndLine, MappingLine, UnbuiltMapping}
use Rattle.table.proofs.Tokens.{drop⇒byte_of, drop⇒ends_at, Token⇒skip_at, Closes⇒ends_at, ends_at⇒Closes}
use Rattle.table.proofs.WordLines.{charmap-reads, charmap-written, end_reads, end-written}
use Rattle.table.proofs.MappingRead.{MappingMeans, mapping-written}

-- ## Between CHARMAP and END CHARMAP

abbrev pub FormMeans : List ℕ → BodyLine → Type 0
FormMeans s no_form = Unit {0}
FormMeans s reserved = CharmapLine s ⊎ UnbuiltMapping s
FormMeans s blank = BlankLine s
FormMeans s ending = EndLine s
FormMeans s (mapping u c d) = MappingLine (line_as u c d) s

mapping-means : (s : List ℕ) (f : BodyLine) → MappingMeans s f → FormMeans s f
mapping-means s no_form m = tt
mapping-means s reserved m = inr m
mapping-means s blank m = absurd m
mapping-means s ending m = absurd m
mapping-means s (mapping u c d) m = m

-- whatever is read is of the grammar
pub form-written : (s : List ℕ) → FormMeans s (body_line_of s)
unfolding body_line_of
form-written s =
    pick-case P (ends_at s (skip_at s 0)) _ _ (ends_at⇒Closes s 0)
    (λ _. pick-case P (eqb (byte_of s (skip_at s 0)) 60) _ _ (λ _. mapping-means s (mapping_form s (unicode_at s (skip_at s 0))) (mapping-written s))
    (λ _. pick-case P (is_charmap s (skip_at s 0)) _ _ (λ e. inl (charmap-written s 0 e))
    (λ _. pick-case P (is_end s (skip_at s 0)) _ _ (end-written s 0) (λ _. tt))))
  where
    P : BodyLine → Type 0
    P f = FormMeans s f

-- a line that begins with a word
module _ (s w m : List ℕ) (x : ℕ) (k : Token (x ∷ w) s m) (a : eqb x 32 ≡ false) (b : eqb x 9 ≡ false) where
  word-here : drop (skip_at s 0) s ≡ x ∷ (w ++ m)
  word-here = Token⇒skip_at (x ∷ w) s m (a, b) k s 0 refl

  word_first : byte_of s (skip_at s 0) ≡ x
  word_first = drop⇒byte_of s (skip_at s 0) (x ∷ (w ++ m)) word-here

  word-goes-on : eqb x 35 ≡ false → ends_at s (skip_at s 0) ≡ false
  word-goes-on c = drop⇒ends_at s (skip_at s 0) (x ∷ (w ++ m)) word-here ∙ c

-- and what is of the grammar is read
pub blank-body : (s : List ℕ) → BlankLine s → body_line_of s ≡ blank
unfolding body_line_of
blank-body s b = rw (Closes⇒ends_at s 0 s refl b)

pub charmap-body : (s : List ℕ) → CharmapLine s → body_line_of s ≡ reserved
unfolding body_line_of
charmap-body s l =
    rw (word-goes-on s (ascii "HARMAP") l.0 67 l.1 refl refl refl, word_first s (ascii "HARMAP") l.0 67 l.1 refl refl, charmap-reads s 0 s refl l)

end-no-charmap : (s : List ℕ) → EndLine s → is_charmap s (skip_at s 0) ≡ false
unfolding is_charmap begins
end-no-charmap s (b, m, k, g, c) = rw (Token⇒skip_at (ascii "END" ++ (b ∷ [])) s m (refl, refl) k s 0 refl)

pub end_body : (s : List ℕ) → EndLine s → body_line_of s ≡ ending
unfolding body_line_of
end_body s l =
    let w : List ℕ = ascii "ND" ++ (l.0 ∷ []) in
    rw (word-goes-on s w l.1 69 l.2 refl refl refl, word_first s w l.1 69 l.2 refl refl, end-no-charmap s l, end_reads s 0 s refl l)

-- ## Behind END CHARMAP

abbrev pub LastMeans : List ℕ → BodyLine → Type 0
LastMeans s no_form = Unit {0}
LastMeans s reserved = CharmapLine s
LastMeans s blank = BlankLine s
LastMeans s ending = ⊥
LastMeans s (mapping u c d) = ⊥

pub last_written : (s : List ℕ) → LastMeans s (after_end_of s)
unfolding after_end_of
last_written s =
    pick-case (LastMeans s) (ends_at s (skip_at s 0)) _ _ (ends_at⇒Closes s 0)
    (λ _. pick-case (LastMeans s) (is_charmap s (skip_at s 0)) _ _ (charmap-written s 0) (λ _. tt))

pub blank-last : (s : List ℕ) → BlankLine s → after_end_of s ≡ blank
unfolding after_end_of
blank-last s b = rw (Closes⇒ends_at s 0 s refl b)

pub charmap-last : (s : List ℕ) → CharmapLine s → after_end_of s ≡ reserved
unfolding after_end_of
charmap-last s l = rw (word-goes-on s (ascii "HARMAP") l.0 67 l.1 refl refl refl, charmap-reads s 0 s refl l)
