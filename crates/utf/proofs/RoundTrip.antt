-- Decoding inverts encoding, and whatever decodes is an encoding; both over the length.
use mathlib.Core.Path.{◌≡◌, refl, sym, ap, ◌∙◌}
use Prim.Native.Nat.{ℕ, zero, suc, ◌+◌, ◌-◌, ◌*◌, ◌/◌, ◌%◌, ◌^◌, ◌≤◌, ◌<◌}
use mathlib.Core.List.{List, [], ◌∷◌, ◌++◌, append-nil}
use native.Mathlib.Omega.{arith}
use lib.ListN.{drop, length, length-append}
use Rattle.lists.specs.Between.{between}
use Rattle.lists.proofs.Cases.{pick-case, pick_yes}
use Rattle.lists.proofs.Between.{between-yes⁺, between-yes⁻}
use Rattle.utf.specs.Utf8.{Scalar, lead_of, trails_of, after_lead, decode_one, trail_count, trail_byte, lead_byte, trail_bytes, encode_of}
use Rattle.utf.specs.declared.utf8.Lead.{Lead}
use Rattle.std.specs.Prelude.{Option, Some, None}
use Rattle.utf.specs.declared.utf8.Sequence.{Sequence}
use Rattle.utf.specs.declared.utf8.Sequence.TheVariants as sequence
use Rattle.utf.proofs.Leads.{lead-case}
use Rattle.utf.proofs.Groups.{div-group, shift-group, count-one, count-two, count-three, count-four, count-case}
use Rattle.utf.proofs.Puts.{length-encode_of}

-- one trail byte reads back
trails-step : (c k n lo hi : ℕ) (rest : List ℕ) → lo ≤ trail_byte c k → trail_byte c k ≤ hi
    → trails_of (suc k) lo hi (c / 2 ^ (6 * suc k)) n (trail_bytes c (suc k) ++ rest) ≡ trails_of k 0x80 0xbf (c / 2 ^ (6 * k)) (n + 1) (trail_bytes c k ++ rest)
trails-step c k n lo hi rest a b =
    pick_yes (between lo hi (trail_byte c k)) _ _ (between-yes⁺ lo hi (trail_byte c k) a b) ∙ simp (shift-group c k)

-- k trail bytes read back as the k lowest groups
trails-read : (c k n : ℕ) (rest : List ℕ) → trails_of k 0x80 0xbf (c / 2 ^ (6 * k)) n (trail_bytes c k ++ rest) ≡ sequence.Scalar c (n + k)
trails-read c zero n rest =
    ap (λ (v : ℕ). sequence.Scalar v n) (omega arith) ∙ ap (sequence.Scalar c) (omega arith)
trails-read c (suc k) n rest =
    trails-step c k n 0x80 0xbf rest (omega arith) (omega arith) ∙ trails-read c k (n + 1) rest ∙ ap (sequence.Scalar c) (omega arith)

-- a lead byte that announces k trail bytes, gives v, and lets x follow
abbrev Opens : ℕ → ℕ → ℕ → Option Lead → Type 0
Opens k v x (Some l) = (l.trails ≡ k) × (l.top ≡ v) × (l.lo ≤ x) × (x ≤ l.hi)
Opens k v x None = ⊥

abbrev OpensAs : ℕ → ℕ → Option Lead → Type 0
OpensAs c k = Opens k (c / 2 ^ (6 * k)) (trail_byte c (k - 1))

abbrev Ready : ℕ → ℕ → Type 0
Ready c k = OpensAs c k (lead_of (lead_byte c k))

-- the lead byte of an encoding opens it: the one place where the four lengths differ
opens : (c : ℕ) → Scalar c → Ready c (trail_count c)
opens c s =
    let l = s.below in
    let n : c / 0x800 ≡ 27 → ⊥ = λ e. s.plain (omega arith) in
    count-case (Ready c) c
    (λ h. lead-case (OpensAs c 0) (lead_byte c 0) (λ u. omega arith) (λ u. omega arith) (λ u. omega arith) (λ u. omega arith) (λ u. omega arith) (λ u. omega arith) (λ u. omega arith) (λ u. omega arith) (λ u. omega arith) (λ u. omega arith))
    (λ h. lead-case (OpensAs c 1) (lead_byte c 1) (λ u. omega arith) (λ u. omega arith) (λ u. omega arith) (λ u. omega arith) (λ u. omega arith) (λ u. omega arith) (λ u. omega arith) (λ u. omega arith) (λ u. omega arith) (λ u. omega arith))
    (λ h. lead-case (OpensAs c 2) (lead_byte c 2) (λ u. omega arith) (λ u. omega arith) (λ u. omega arith) (λ u. omega arith) (λ u. omega arith) (λ u. omega arith) (λ u. omega arith) (λ u. omega arith) (λ u. omega arith) (λ u. omega arith))
    (λ h. lead-case (OpensAs c 3) (lead_byte c 3) (λ u. omega arith) (λ u. omega arith) (λ u. omega arith) (λ u. omega arith) (λ u. omega arith) (λ u. omega arith) (λ u. omega arith) (λ u. omega arith) (λ u. omega arith) (λ u. omega arith))

opens-read : (c k : ℕ) (l : Option Lead) (rest : List ℕ) → OpensAs c k l → after_lead l (trail_bytes c k ++ rest) ≡ sequence.Scalar c (k + 1)
opens-read c k None rest o = absurd o
opens-read c zero (Some l) rest o = rw (o.0, o.1) (ap (λ (x : ℕ). sequence.Scalar x 1) (omega arith))
opens-read c (suc k) (Some l) rest o =
    let e : suc k - 1 ≡ k = omega arith in
    let a : l.lo ≤ trail_byte c k = rw e at o.2 in
    let b : trail_byte c k ≤ l.hi = rw e at o.3 in
    rw (o.0, o.1) (trails-step c k 1 l.lo l.hi rest a b ∙ trails-read c k 2 rest ∙ ap (sequence.Scalar c) (omega arith))

reads-count : (c : ℕ) (rest : List ℕ) → Scalar c → decode_one (encode_of c ++ rest) ≡ sequence.Scalar c (trail_count c + 1)
unfolding decode_one encode_of
reads-count c rest s = opens-read c (trail_count c) (lead_of (lead_byte c (trail_count c))) rest (opens c s)

-- an encoding decodes to its code point, whatever bytes stand behind it
pub utf8-encode-decode : (c : ℕ) (rest : List ℕ) → Scalar c → decode_one (encode_of c ++ rest) ≡ sequence.Scalar c (length (encode_of c))
utf8-encode-decode c rest s = reads-count c rest s ∙ ap (sequence.Scalar c) (sym (length-encode_of c))

-- what k trail bytes that were read say
record Back (k lo hi v n : ℕ) (s : List ℕ) (c m : ℕ) : Type 0 where
  value : v ≡ c / 2 ^ (6 * k)
  count : m ≡ n + k
  bytes : s ≡ trail_bytes c k ++ drop k s
  first : 0 < k → (lo ≤ trail_byte c (k - 1)) × (trail_byte c (k - 1) ≤ hi)

trails-back : (k lo hi v n : ℕ) (s : List ℕ) (c m : ℕ) → 0x80 ≤ lo → hi ≤ 0xbf → trails_of k lo hi v n s ≡ sequence.Scalar c m → Back k lo hi v n s c m
trails-back zero lo hi v n s c m l h e =
    let a : v ≡ c = cc in
    let b : n ≡ m = cc in
    record { value = omega arith; count = omega arith; bytes = refl; first = λ p. omega arith }
trails-back (suc k) lo hi v n [] c m l h e = let z : ◌≡◌ {A = ℕ} 0 1 = cc in absurd (omega arith)
trails-back (suc k) lo hi v n (x ∷ s) c m l h e =
    pick-case (λ (o : Sequence). o ≡ sequence.Scalar c m → Back (suc k) lo hi v n (x ∷ s) c m) (between lo hi x) _ _
    (λ t q.
    let w = between-yes⁻ lo hi x t in
    let r = trails-back k 0x80 0xbf (v * 64 + x % 64) (n + 1) s c m (omega arith) (omega arith) q in
    let f : x ≡ trail_byte c k = omega arith in
    let d : suc k - 1 ≡ k = omega arith in
    record {
      value = omega (arith, div-group c k);
      count = omega arith;
      bytes = ap (λ (y : ℕ). y ∷ s) f ∙ ap (λ (y : List ℕ). trail_byte c k ∷ y) r.bytes;
      first = λ p. rw d (omega arith);
    })
    (λ t q. let z : ◌≡◌ {A = ℕ} 0 1 = cc in absurd (omega arith))
    e

-- what was decoded: a scalar value, by just its encoding
pub record Decoded (s : List ℕ) (c n : ℕ) : Type 0 where
  pub scalar : Scalar c
  pub count : n ≡ length (encode_of c)
  pub bytes : s ≡ encode_of c ++ drop n s

finish : (b : ℕ) (t : List ℕ) (k lo hi v c n : ℕ) → Back k lo hi v 1 t c n → Scalar c → k ≡ trail_count c → b ≡ lead_byte c k → Decoded (b ∷ t) c n
unfolding encode_of
finish b t k lo hi v c n r s e f =
    let m : n ≡ suc k = omega arith in
    record {
      scalar = s;
      count = omega (arith, length-encode_of c);
      bytes = rw (← e, m) (ap (λ (y : ℕ). y ∷ t) f ∙ ap (λ (y : List ℕ). lead_byte c k ∷ y) r.bytes);
    }

-- whatever decodes is the encoding of its value: no overlong form, no surrogate, nothing above 10FFFF
pub utf8-decode-encode : (s : List ℕ) (c n : ℕ) → decode_one s ≡ sequence.Scalar c n → Decoded s c n
unfolding decode_one
utf8-decode-encode [] c n e = let z : ◌≡◌ {A = ℕ} 0 1 = cc in absurd (omega arith)
utf8-decode-encode (b ∷ t) c n e =
    lead-case (λ (l : Option Lead). after_lead l t ≡ sequence.Scalar c n → Decoded (b ∷ t) c n) b
    (λ u q. let r = trails-back 0 0x80 0xbf (b - 0) 1 t c n (omega arith) (omega arith) q in
    finish b t 0 _ _ _ c n r (record { below = omega arith; plain = λ p. omega arith }) (count-one c (omega arith)) (omega arith))
    (λ u q. let z : ◌≡◌ {A = ℕ} 0 1 = cc in absurd (omega arith))
    (λ u q. let r = trails-back 1 0x80 0xbf (b - 0xc0) 1 t c n (omega arith) (omega arith) q in
    finish b t 1 _ _ _ c n r (record { below = omega arith; plain = λ p. omega arith }) (count-two c (omega arith) (omega arith)) (omega arith))
    (λ u q. let r = trails-back 2 0xa0 0xbf (b - 0xe0) 1 t c n (omega arith) (omega arith) q in
    let f = r.first (omega arith) in
    finish b t 2 _ _ _ c n r (record { below = omega arith; plain = λ p. omega arith }) (count-three c (omega arith) (omega arith)) (omega arith))
    (λ u q. let r = trails-back 2 0x80 0x9f (b - 0xe0) 1 t c n (omega arith) (omega arith) q in
    let f = r.first (omega arith) in
    finish b t 2 _ _ _ c n r (record { below = omega arith; plain = λ p. omega arith }) (count-three c (omega arith) (omega arith)) (omega arith))
    (λ u q. let r = trails-back 2 0x80 0xbf (b - 0xe0) 1 t c n (omega arith) (omega arith) q in
    let f = r.first (omega arith) in
    finish b t 2 _ _ _ c n r (record { below = omega arith; plain = λ p. omega arith }) (count-three c (omega arith) (omega arith)) (omega arith))
    (λ u q. let r = trails-back 3 0x90 0xbf (b - 0xf0) 1 t c n (omega arith) (omega arith) q in
    let f = r.first (omega arith) in
    finish b t 3 _ _ _ c n r (record { below = omega arith; plain = λ p. omega arith }) (count-four c (omega arith)) (omega arith))
    (λ u q. let r = trails-back 3 0x80 0x8f (b - 0xf0) 1 t c n (omega arith) (omega arith) q in
    let f = r.first (omega arith) in
    finish b t 3 _ _ _ c n r (record { below = omega arith; plain = λ p. omega arith }) (count-four c (omega arith)) (omega arith))
    (λ u q. let r = trails-back 3 0x80 0xbf (b - 0xf0) 1 t c n (omega arith) (omega arith) q in
    let f = r.first (omega arith) in
    finish b t 3 _ _ _ c n r (record { below = omega arith; plain = λ p. omega arith }) (count-four c (omega arith)) (omega arith))
    (λ u q. let z : ◌≡◌ {A = ℕ} 0 1 = cc in absurd (omega arith))
    e

-- for a conversion: a sequence that decodes is not empty and lies within the input
pub record Within (s : List ℕ) (c n : ℕ) : Type 0 where
  pub scalar : Scalar c
  pub some : 0 < n
  pub within : n ≤ length s
  pub count : n ≡ length (encode_of c)

pub reads-within : (s : List ℕ) (c n : ℕ) → decode_one s ≡ sequence.Scalar c n → Within s c n
reads-within s c n e =
    let r = utf8-decode-encode s c n e in
    let l : length s ≡ length (encode_of c) + length (drop n s) = ap length r.bytes ∙ length-append (encode_of c) (drop n s) in
    record { scalar = r.scalar; some = omega (arith, r.count, length-encode_of c); within = omega (arith, r.count); count = r.count }

-- two scalar values whose encodings begin one list are the same
pub one-beginning : (c d : ℕ) (r t : List ℕ) → Scalar c → Scalar d → encode_of c ++ r ≡ encode_of d ++ t → c ≡ d
one-beginning c d r t s u e =
    let z : sequence.Scalar c (length (encode_of c)) ≡ sequence.Scalar d (length (encode_of d)) = sym (utf8-encode-decode c r s) ∙ ap decode_one e ∙ utf8-encode-decode d t u in
    cc

-- of two different scalar values neither's encoding begins the other's
pub encodings-apart : (c d : ℕ) (rest : List ℕ) → Scalar c → Scalar d → (c ≡ d → ⊥) → encode_of d ≡ encode_of c ++ rest → ⊥
encodings-apart c d rest s u n e = n (one-beginning c d rest [] s u (sym e ∙ sym (append-nil (encode_of d))))
