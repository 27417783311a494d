-- Conjunctions of tests: regrouped, in another order, denied.
-- and_assoc   brackets to the right           and-shift, and-shift-two   the last one, the last two first
-- and-pairs   four of six tests in pairs      and_last                   the last test joined to one in the middle
-- not-and-four, not-and-three                 not all of four; not all of three, two of them denied
use mathlib.Core.Path.{◌≡◌, refl, sym, ap, ◌∙◌}
use mathlib.Core.Bool.{Bool, true, false}
use Rattle.lists.specs.Pick.{pick}
use Rattle.lists.proofs.Choice.{and_comm}

pub and_assoc : (a b c : Bool) → pick (pick a b false) c false ≡ pick a (pick b c false) false
and_assoc true b c = refl
and_assoc false b c = refl

pub and-shift : (a b c : Bool) → pick b (pick c a false) false ≡ pick a (pick b c false) false
and-shift a b c = sym (and_assoc b c a) ∙ and_comm (pick b c false) a

pub and-shift-two : (a b c d : Bool)
    → pick c (pick d (pick a b false) false) false ≡ pick a (pick b (pick c d false) false) false
and-shift-two a b c d =
    sym (and_assoc c d (pick a b false)) ∙ and_comm (pick c d false) (pick a b false) ∙ and_assoc a b (pick c d false)

pub and-pairs : (a b c d e z : Bool)
    → pick a (pick b (pick c (pick d (pick e z false) false) false) false) false
    ≡ pick a (pick (pick b c false) (pick (pick d e false) z false) false) false
and-pairs a b c d e z =
    ap (λ (t : Bool). pick a t false)
    (sym (and_assoc b c (pick d (pick e z false) false))
    ∙ ap (λ (t : Bool). pick (pick b c false) t false) (sym (and_assoc d e z)))

and-into : (a b c d r l z : Bool)
    → pick (pick a (pick b (pick c (pick d (pick r z false) false) false) false) false) l false
    ≡ pick a (pick b (pick c (pick d (pick (pick r l false) z false) false) false) false) false
and-into true true true true true l z = and_comm z l
and-into true true true true false l z = refl
and-into true true true false r l z = refl
and-into true true false d r l z = refl
and-into true false c d r l z = refl
and-into false b c d r l z = refl

pub and_last : (a b c d r l z m : Bool) → pick r l false ≡ m
    → pick (pick a (pick b (pick c (pick d (pick r z false) false) false) false) false) l false
    ≡ pick a (pick b (pick c (pick d (pick m z false) false) false) false) false
and_last a b c d r l z m e =
    and-into a b c d r l z ∙ ap (λ (t : Bool). pick a (pick b (pick c (pick d (pick t z false) false) false) false) false) e

pub not-and-four : (p q r s : Bool)
    → pick (pick p (pick q (pick r s false) false) false) false true
    ≡ pick p (pick q (pick r (pick s false true) true) true) true
not-and-four true true true s = refl
not-and-four true true false s = refl
not-and-four true false r s = refl
not-and-four false q r s = refl

pub not-and-three : (p q r : Bool)
    → pick (pick p (pick (pick q false true) (pick r false true) false) false) false true
    ≡ pick p (pick q true (pick r true false)) true
not-and-three true true r = refl
not-and-three true false true = refl
not-and-three true false false = refl
not-and-three false q r = refl
