-- An entry's number, taken apart, gives its code and its cause back.
use Prim.Native.Nat.{ℕ, ◌/◌, ◌%◌, ◌≤◌}
use native.Mathlib.Omega.{arith}
use mathlib.Core.Path.{◌≡◌, sym, ap, ◌∙◌}
use lib.ListN.{length}
use Rattle.table.specs.Codes.{packed, code_of, AllByte}
use Rattle.table.proofs.Packing.{packed-fits, pack-one-way}
use Rattle.audit.specs.Audit.{Finding, entry_number, entry_in}

module _ (f : Finding) (bytes : AllByte f.code) (short : length f.code ≤ 4) where
  bits_back : entry_number f % 4294967296 ≡ packed f.code
  unfolding entry_number
  bits_back = let h = packed-fits f.code bytes in omega arith

  length_back : entry_number f / 4294967296 % 256 ≡ length f.code
  unfolding entry_number
  length_back = let h = packed-fits f.code bytes in omega arith

  cause-back : entry_number f / 1099511627776 ≡ f.cause
  unfolding entry_number
  cause-back = let h = packed-fits f.code bytes in omega arith

  -- taken apart, it gives them back
  pub entry-back : entry_in (entry_number f) ≡ record { code = code_of f.code; cause = f.cause }
  unfolding entry_in
  entry-back = λ i. record { code = record { bits = bits_back i; len = length_back i }; cause = cause-back i }

-- two entries of one number are one
pub entry-one : (f g : Finding) → AllByte f.code → length f.code ≤ 4 → AllByte g.code → length g.code ≤ 4 → entry_number f ≡ entry_number g → f ≡ g
entry-one f g bf sf bg sg e =
    let p : packed f.code ≡ packed g.code = sym (bits_back f bf sf) ∙ ap (λ (n : ℕ). n % 4294967296) e ∙ bits_back g bg sg in
    let n : length f.code ≡ length g.code = sym (length_back f bf sf) ∙ ap (λ (n : ℕ). n / 4294967296 % 256) e ∙ length_back g bg sg in
    let w : f.cause ≡ g.cause = sym (cause-back f bf sf) ∙ ap (λ (n : ℕ). n / 1099511627776) e ∙ cause-back g bg sg in
    let c : f.code ≡ g.code = pack-one-way f.code g.code bf bg n sf p in
    (λ i. record { code = c i; cause = w i })
