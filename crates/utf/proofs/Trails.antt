-- The front of the input: nothing, one byte, or a lead byte and what follows it. And trail bytes: one more behind those
-- that were read, and what they leave of the value.
use mathlib.Core.Path.{◌≡◌, refl, sym, ap, ◌∙◌}
use Prim.Native.Nat.{ℕ, zero, suc, ◌+◌, ◌*◌, ◌/◌, ◌%◌, ◌^◌, ◌<◌}
use native.Mathlib.Omega.{arith}
use mathlib.Core.List.{List, [], ◌∷◌}
use mathlib.Core.Bool.{Bool, true, false}
use lib.ListN.{length, get_or, drop}
use lib.Seq.{drop-drop}
use Rattle.lists.specs.Pick.{pick}
use Rattle.lists.specs.Between.{between}
use Rattle.lists.proofs.Cases.{pick-case}
use Rattle.utf.specs.Utf8.{lead_of, trails_of, after_lead, decode_one}
use Rattle.utf.specs.declared.utf8.Lead.{Lead}
use Rattle.utf.specs.declared.utf8.Sequence.{Sequence}
use Rattle.utf.specs.declared.utf8.Sequence.TheVariants.{Scalar, Stopped}
use Rattle.utf.specs.declared.utf8.Stop.{Stop}
use Rattle.utf.specs.declared.utf8.Stop.TheVariants.{CutShort, Illegal}
use Rattle.utf.proofs.Groups.{div-group}
use Rattle.std.specs.Prelude.{Option}
use Rattle.utf.proofs.Leads.{lead-one}

pub decode_one-none : (s : List ℕ) → length s ≡ 0 → decode_one s ≡ Stopped CutShort
unfolding decode_one
decode_one-none [] h = refl
decode_one-none (x ∷ s) h = absurd (omega arith)

pub decode_one-some : (s : List ℕ) → 0 < length s → decode_one s ≡ after_lead (lead_of (get_or s 0 0)) (drop 1 s)
unfolding decode_one
decode_one-some [] h = absurd (omega arith)
decode_one-some (x ∷ s) h = refl

pub decode_one-small : (s : List ℕ) → 0 < length s → get_or s 0 0 < 0x80 → decode_one s ≡ Scalar (get_or s 0 0) 1
decode_one-small s h b =
    decode_one-some s h ∙ ap (λ (l : Option Lead). after_lead l (drop 1 s)) (lead-one (get_or s 0 0) b) ∙ ap (λ (v : ℕ). Scalar v 1) (omega arith)

pub ruleset fronts = (decode_one-none, decode_one-some, decode_one-small)

-- one more trail byte of s behind what has been read
abbrev pub behind : Sequence → List ℕ → Sequence
behind (Scalar v i) s = trails_of 1 0x80 0xbf v i (drop i s)
behind (Stopped t) s = Stopped t

pick-behind : (t : Bool) (o : Sequence) (e : Stop) (s : List ℕ) → pick t (behind o s) (Stopped e) ≡ behind (pick t o (Stopped e)) s
pick-behind true o e s = refl
pick-behind false o e s = refl

-- trail bytes and one more, over their number
trails-more : (k lo hi v i : ℕ) (s t : List ℕ) → t ≡ drop i s → trails_of (suc (suc k)) lo hi v i t ≡ behind (trails_of (suc k) lo hi v i t) s
trails-more k lo hi v i s [] e = refl
trails-more zero lo hi v i s (x ∷ t) e =
    let d : t ≡ drop (i + 1) s = ap (drop 1) e ∙ drop-drop 1 i s in
    rw d (pick-behind (between lo hi x) (Scalar (v * 64 + x % 64) (i + 1)) (Illegal (i + 1)) s)
trails-more (suc k) lo hi v i s (x ∷ t) e =
    ap (λ (o : Sequence). pick (between lo hi x) o (Stopped (Illegal (i + 1)))) (trails-more k 0x80 0xbf (v * 64 + x % 64) (i + 1) s t (ap (drop 1) e ∙ drop-drop 1 i s))
    ∙ pick-behind (between lo hi x) _ (Illegal (i + 1)) s

pub one_more : {o r : Sequence} (s : List ℕ) → r ≡ behind o s
    → (k lo hi v : ℕ) → o ≡ trails_of (suc k) lo hi v 1 (drop 1 s) → r ≡ trails_of (suc (suc k)) lo hi v 1 (drop 1 s)
one_more s b k lo hi v e = b ∙ ap (λ (o : Sequence). behind o s) e ∙ sym (trails-more k lo hi v 1 s (drop 1 s) refl)

-- above the groups of the trail bytes stands what was there before them
pub trails-above : (k lo hi v n : ℕ) (s : List ℕ) (c m : ℕ) → trails_of k lo hi v n s ≡ Scalar c m → v ≡ c / 2 ^ (6 * k)
trails-above zero lo hi v n s c m e = let a : v ≡ c = cc in omega arith
trails-above (suc k) lo hi v n [] c m e = let z : ◌≡◌ {A = ℕ} 0 1 = cc in absurd (omega arith)
trails-above (suc k) lo hi v n (x ∷ s) c m e =
    pick-case (λ (o : Sequence). o ≡ Scalar c m → v ≡ c / 2 ^ (6 * suc k)) (between lo hi x) _ _
    (λ t q. let r = trails-above k 0x80 0xbf (v * 64 + x % 64) (n + 1) s c m q in omega (arith, div-group c k))
    (λ t q. let z : ◌≡◌ {A = ℕ} 0 1 = cc in absurd (omega arith))
    e
