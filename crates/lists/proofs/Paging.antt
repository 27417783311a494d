-- One call through a rising list: the elements it looked at, those left, its new position. Lists of calls: Calls.antt.
use Prim.Native.Nat.{ℕ, zero, suc, ◌≤◌, zero-le, suc-le-suc}
use native.Mathlib.Omega.{arith}
use mathlib.Core.Path.{◌≡◌, refl, sym, ap, ◌∙◌, subst}
use mathlib.Core.Bool.{Bool, true, false, not, false≢true}
use mathlib.Core.Logic.{◌⊎◌, inl, inr, ◌↔◌}
use mathlib.Core.Option.{Option, none, some}
use mathlib.Core.List.{List, [], ◌∷◌, ◌++◌, head?, append-nil, append_assoc, nil≢cons, cons≢nil, head-eq_of_cons-eq}
use lib.ListN.{length}
use Rattle.lists.specs.Order.{All, In, filtered}
use Rattle.lists.specs.Paging.{Pageable, Page, put, stopped_at, counted, following, up_to, entries_for, look_at, look, page_from, Reached, Place, Enumerates}
use Rattle.lists.specs.Options.{is_none}
use Rattle.lists.proofs.Laws.{clash, ¬true⇒false}
use Rattle.lists.proofs.Order.{All-⇒, All-In⁺}
use Rattle.lists.proofs.Filter.{not-true, not-false, filtered-yes, filtered-no, filtered-none, filtered-keep, filtered-after-next, filtered-not-after-next}

head?-none⁻ : {A : Type 0} (l : List A) → head? l ≡ none → l ≡ []
head?-none⁻ [] e = refl
head?-none⁻ (c ∷ l) e = cc

head?-some⁻ : {A : Type 0} (l : List A) (c : A) → head? l ≡ some c → (r : List A) × (l ≡ c ∷ r)
head?-some⁻ [] c e = let z : ◌≡◌ {A = ℕ} 0 1 = cc in absurd (omega arith)
head?-some⁻ {A} (d ∷ l) c e = (l, ap (λ (x : A). x ∷ l) (cc))

is_none-head?⇔[] : {A : Type 0} (l : List A) → (is_none (head? l) ≡ true) ↔ (l ≡ [])
is_none-head?⇔[] [] = ((λ _. refl), (λ _. refl))
is_none-head?⇔[] (c ∷ l) = ((λ e. absurd (false≢true e)), (λ e. absurd (cons≢nil e)))

put-++ : {E : Type 0} (e : Option E) (l m : List E) → put e (l ++ m) ≡ put e l ++ m
put-++ none l m = refl
put-++ (some e) l m = refl

module _ {A E P : Type 0} (S : Pageable A E P) where
  pub notes-++ : (l m : List A) → entries_for S (l ++ m) ≡ entries_for S l ++ entries_for S m
  unfolding entries_for
  notes-++ [] m = refl
  notes-++ (c ∷ l) m =
      ap (put (S.note c)) (notes-++ l m) ∙ put-++ (S.note c) (entries_for S l) (entries_for S m)

  -- with an allowance and a space of at least one a call moves on or is finished
  pub page_from-moves : (n space : ℕ) (p : P) → 1 ≤ n → 1 ≤ space
      → (1 ≤ (page_from S n space p).count) ⊎ ((page_from S n space p).finished ≡ true)
  unfolding page_from
  page_from-moves zero space p h k = absurd (omega arith)
  page_from-moves (suc n) zero p h k = absurd (omega arith)
  page_from-moves (suc n) (suc space) p h k = go (S.next p)
    where
      at : (a : A) (w : Option E)
          → (1 ≤ (look_at S p a w (suc space) (page_from S n)).count)
          ⊎ ((look_at S p a w (suc space) (page_from S n)).finished ≡ true)
      at a none = inl (suc-le-suc zero-le)
      at a (some e) = inl (suc-le-suc zero-le)

      go : (o : Option A)
          → (1 ≤ (look S p o (suc space) (page_from S n)).count)
          ⊎ ((look S p o (suc space) (page_from S n)).finished ≡ true)
      go none = inr refl
      go (some a) = at a (S.note a)

module _ {A E P : Type 0} (S : Pageable A E P) (L : List A) (W : Enumerates S L) where
  -- none of those after a position is up to it
  up_to-left : (p : P) (l : List A) → up_to S p (following S p l) ≡ []
  up_to-left p l =
      filtered-none (λ x. not (S.after p x)) (following S p l)
      (All-⇒ (λ b q. not-true q.1) (following S p l) (filtered-keep (S.after p) (λ b. Unit {0}) l (All-In⁺ l (λ b i. tt))))

  -- the first element after a position is one of the list
  In-left⁻ : (p : P) (c : A) (l r : List A) → following S p l ≡ c ∷ r → In c l
  unfolding filtered
  In-left⁻ p c [] r e = absurd (nil≢cons e)
  In-left⁻ p c (d ∷ l) r e = go (In-left⁻ p c l r) (S.after p d) refl
    where
      go : (following S p l ≡ c ∷ r → In c l) → (b : Bool) → S.after p d ≡ b → (c ≡ d) ⊎ In c l
      go ih true t = inl (sym (head-eq_of_cons-eq (sym (filtered-yes (S.after p) d l t) ∙ e)))
      go ih false t = inr (ih (sym (filtered-no (S.after p) d l t) ∙ e))

  -- every element comes after the start
  pub up_to-start : up_to S S.start L ≡ []
  up_to-start = filtered-none (λ a. not (S.after S.start a)) L (All-⇒ (λ b q. not-true q) L W.begins)

  -- what a call from p that handed back a did: the elements it looked at
  pub record Done (p : P) (a : Page E P) : Type 0 where
    pub looked : List A
    pub cut : up_to S a.position L ≡ up_to S p L ++ looked
    pub between : up_to S a.position (following S p L) ≡ looked
    pub entries : a.entries ≡ entries_for S looked
    pub count : a.count ≡ length looked
    pub ends : (a.finished ≡ true) ↔ (following S a.position L ≡ [])
    pub beyond : (b : A) → S.after a.position b ≡ true → S.after p b ≡ true
    pub place : (a.position ≡ p) ⊎ Reached S L a.position
    pub stays : a.count ≡ 0 → a.position ≡ p

  done-stopped : (p : P) (f : Bool) → (f ≡ true) ↔ (following S p L ≡ []) → Done p (stopped_at p f)
  unfolding entries_for
  done-stopped p f h =
      record {
        looked = [];
        cut = sym (append-nil (up_to S p L));
        between = up_to-left p L;
        entries = refl;
        count = refl;
        ends = h;
        beyond = λ b e. e;
        place = inl refl;
        stays = λ e. refl;
      }

  done-counted : (p : P) (c : A) (r : List A) (w : Option E) (a : Page E P) → following S p L ≡ c ∷ r → S.note c ≡ w
      → Done (S.at c) a → Done p (counted w a)
  unfolding entries_for
  done-counted p c r w a e cw d =
      let at_c : following S (S.at c) L ≡ r =
      filtered-after-next S.after S.at W.irrefl W.trans p c L r W.rising e in
      let first : S.after p c ≡ true =
      (subst (All (λ b. Unit {0} × (S.after p b ≡ true))) e
      (filtered-keep (S.after p) (λ b. Unit {0}) L (All-In⁺ L (λ b i. tt)))).0.1 in
      let kept : not (S.after a.position c) ≡ true =
      not-false (¬true⇒false (S.after a.position c) (λ u. clash (d.beyond c u) (W.irrefl c))) in
      record {
        looked = c ∷ d.looked;
        cut =
            d.cut
            ∙ ap (λ (l : List A). l ++ d.looked)
            (filtered-not-after-next S.after S.at W.irrefl W.trans p c L r W.rising e)
            ∙ append_assoc (up_to S p L) (c ∷ []) d.looked;
        between =
            ap (up_to S a.position) e ∙ filtered-yes (λ x. not (S.after a.position x)) c r kept
            ∙ ap (λ (l : List A). c ∷ l) (ap (up_to S a.position) (sym at_c) ∙ d.between);
        entries = ap (put w) d.entries ∙ ap (λ (o : Option E). put o (entries_for S d.looked)) (sym cw);
        count = ap suc d.count;
        ends = d.ends;
        beyond = λ b u. W.trans p c b first (d.beyond b u);
        place = inr (reached d.place);
        stays = λ z. absurd (omega arith);
      }
    where
      reached : (a.position ≡ S.at c) ⊎ Reached S L a.position → Reached S L a.position
      reached (inl q) = (c, In-left⁻ p c L r e, q)
      reached (inr q) = q

  pub page_from-done : (n space : ℕ) (p : P) → Done p (page_from S n space p)
  unfolding page_from
  page_from-done zero space p = done-stopped p (is_none (S.next p)) (rw (W.next-is p) (is_none-head?⇔[] (following S p L)))
  page_from-done (suc n) space p = go (S.next p) (sym (W.next-is p)) (page_from-done n)
    where
      at : (c : A) (r : List A) → following S p L ≡ c ∷ r → (w : Option E) (space : ℕ) → S.note c ≡ w
          → ((space : ℕ) (p : P) → Done p (page_from S n space p)) → Done p (look_at S p c w space (page_from S n))
      at c r e none space cw ih = done-counted p c r none (page_from S n space (S.at c)) e cw (ih space (S.at c))
      at c r e (some w) zero cw ih =
          done-stopped p false ((λ f. absurd (false≢true f)), (λ x. absurd (cons≢nil (sym e ∙ x))))
      at c r e (some w) (suc space) cw ih =
          done-counted p c r (some w) (page_from S n space (S.at c)) e cw (ih space (S.at c))

      go : (o : Option A) → head? (following S p L) ≡ o → ((space : ℕ) (p : P) → Done p (page_from S n space p))
          → Done p (look S p o space (page_from S n))
      go none e ih = done-stopped p true ((λ _. head?-none⁻ (following S p L) e), (λ _. refl))
      go (some c) e ih = let h = head?-some⁻ (following S p L) c e in at c h.0 h.1 (S.note c) space refl ih

  -- its position is of a kind that the old one and those of the elements are
  pub position-page_from : (K : P → Type 0) → ((x : A) → In x L → K (S.at x)) → (n space : ℕ) (p : P) → K p
      → K (page_from S n space p).position
  position-page_from K f n space p k = go (page_from-done n space p).place
    where
      go : ((page_from S n space p).position ≡ p) ⊎ Reached S L (page_from S n space p).position
          → K (page_from S n space p).position
      go (inl e) = subst K (sym e) k
      go (inr r) = subst K (sym r.2) (f r.0 r.1)

  pub Place-page_from : (n space : ℕ) (p : P) → Place S L p → Place S L (page_from S n space p).position
  Place-page_from = position-page_from (Place S L) (λ x i. inr (x, i, refl))
