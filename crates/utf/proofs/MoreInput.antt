-- What more input changes: nothing, unless the answer was 'cut short'; and what is cut short can be filled up.
use mathlib.Core.Path.{◌≡◌, refl, ◌∙◌}
use Prim.Native.Nat.{ℕ, zero, suc, ◌+◌, ◌-◌, ◌*◌, ◌%◌, ◌≤◌}
use mathlib.Core.List.{List, [], ◌∷◌, ◌++◌}
use mathlib.Core.Bool.{Bool, true, false}
use native.Mathlib.Omega.{arith}
use Rattle.lists.specs.Pick.{pick}
use Rattle.lists.specs.Between.{between}
use Rattle.lists.proofs.Cases.{pick_yes}
use Rattle.lists.proofs.Between.{between-yes⁺}
use Rattle.utf.specs.Utf8.{lead_of, trails_of, after_lead, decode_one}
use Rattle.utf.specs.declared.utf8.Lead.{Lead}
use Rattle.std.specs.Prelude.{Option, Some, None}
use Rattle.utf.specs.declared.utf8.Sequence.{Sequence}
use Rattle.utf.specs.declared.utf8.Sequence.TheVariants.{Scalar, Stopped}
use Rattle.utf.specs.declared.utf8.Stop.TheVariants as stop
use Rattle.utf.proofs.Leads.{lead-case}

-- an answer that is not 'cut short'
abbrev pub NotCutShort : Sequence → Type 0
NotCutShort o = o ≡ Stopped stop.CutShort → ⊥

pick_same : (t : Bool) (a b d : Sequence) → (NotCutShort a → b ≡ a) → NotCutShort (pick t a d) → pick t b d ≡ pick t a d
pick_same true a b d f n = f n
pick_same false a b d f n = refl

trails-same : (k lo hi v n : ℕ) (s t : List ℕ) → NotCutShort (trails_of k lo hi v n s) → trails_of k lo hi v n (s ++ t) ≡ trails_of k lo hi v n s
trails-same zero lo hi v n s t e = refl
trails-same (suc k) lo hi v n [] t e = absurd (e refl)
trails-same (suc k) lo hi v n (x ∷ s) t e =
    pick_same (between lo hi x) _ _ (Stopped (stop.Illegal (n + 1))) (trails-same k 0x80 0xbf (v * 64 + x % 64) (n + 1) s t) e

lead-same : (l : Option Lead) (s t : List ℕ) → NotCutShort (after_lead l s) → after_lead l (s ++ t) ≡ after_lead l s
lead-same (Some l) s t e = trails-same l.trails l.lo l.hi l.top 1 s t e
lead-same None s t e = refl

-- bytes behind a settled answer do not change it
pub more-input-same : (s t : List ℕ) → (decode_one s ≡ Stopped stop.CutShort → ⊥) → decode_one (s ++ t) ≡ decode_one s
unfolding decode_one
more-input-same [] t e = absurd (e refl)
more-input-same (b ∷ s) t e = lead-same (lead_of b) s t e

-- bytes with which a beginning decodes
pub record Rest (f : List ℕ → Sequence) : Type 0 where
  pub bytes : List ℕ
  pub code : ℕ
  pub size : ℕ
  pub reads : f bytes ≡ Scalar code size

fill : (k lo hi v n : ℕ) → lo ≤ hi → Rest (trails_of k lo hi v n)
fill zero lo hi v n h = record { bytes = []; code = v; size = n; reads = refl }
fill (suc k) lo hi v n h =
    let r = fill k 0x80 0xbf (v * 64 + lo % 64) (n + 1) (omega arith) in
    record { bytes = lo ∷ r.bytes; code = r.code; size = r.size; reads = pick_yes (between lo hi lo) _ _ (between-yes⁺ lo hi lo (omega arith) h) ∙ r.reads }

pick-fill : (t : Bool) (a d : Sequence) (f : List ℕ → Sequence) → (a ≡ Stopped stop.CutShort → Rest f) → NotCutShort d → pick t a d ≡ Stopped stop.CutShort → Rest (λ l. pick t (f l) d)
pick-fill true a d f g n e = g e
pick-fill false a d f g n e = absurd (n e)

illegal : (n : ℕ) → NotCutShort (Stopped (stop.Illegal n))
illegal n e = let z : ◌≡◌ {A = ℕ} 0 1 = cc in omega arith

trails-fill : (k lo hi v n : ℕ) (s : List ℕ) → lo ≤ hi → trails_of k lo hi v n s ≡ Stopped stop.CutShort → Rest (λ t. trails_of k lo hi v n (s ++ t))
trails-fill zero lo hi v n s h e = let z : ◌≡◌ {A = ℕ} 0 1 = cc in absurd (omega arith)
trails-fill (suc k) lo hi v n [] h e = fill (suc k) lo hi v n h
trails-fill (suc k) lo hi v n (x ∷ s) h e =
    pick-fill (between lo hi x) _ (Stopped (stop.Illegal (n + 1))) (λ t. trails_of k 0x80 0xbf (v * 64 + x % 64) (n + 1) (s ++ t))
    (trails-fill k 0x80 0xbf (v * 64 + x % 64) (n + 1) s (omega arith)) (illegal (n + 1)) e

-- the bounds of a first trail byte leave room for one
abbrev Fillable : List ℕ → Option Lead → Type 0
Fillable s l = after_lead l s ≡ Stopped stop.CutShort → Rest (λ t. after_lead l (s ++ t))

pub short-fills : (s : List ℕ) → decode_one s ≡ Stopped stop.CutShort → Rest (λ t. decode_one (s ++ t))
unfolding decode_one
short-fills [] e = record { bytes = 0 ∷ []; code = 0; size = 1; reads = refl }
short-fills (b ∷ s) e =
    lead-case (Fillable s) b
    (λ u. trails-fill 0 0x80 0xbf (b - 0) 1 s (omega arith))
    (λ u q. absurd (illegal 1 q))
    (λ u. trails-fill 1 0x80 0xbf (b - 0xc0) 1 s (omega arith))
    (λ u. trails-fill 2 0xa0 0xbf (b - 0xe0) 1 s (omega arith))
    (λ u. trails-fill 2 0x80 0x9f (b - 0xe0) 1 s (omega arith))
    (λ u. trails-fill 2 0x80 0xbf (b - 0xe0) 1 s (omega arith))
    (λ u. trails-fill 3 0x90 0xbf (b - 0xf0) 1 s (omega arith))
    (λ u. trails-fill 3 0x80 0x8f (b - 0xf0) 1 s (omega arith))
    (λ u. trails-fill 3 0x80 0xbf (b - 0xf0) 1 s (omega arith))
    (λ u q. absurd (illegal 1 q))
    e
