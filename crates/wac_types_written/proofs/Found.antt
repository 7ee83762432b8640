-- What became of interfaces and worlds, as it is looked for and kept.
use Rattle.std.proofs.Common.{◌≡◌, ℕ, Some, Bool, true, false, nat_eq, cond, refl, sym, ap, subst, ◌∙◌}
use Rattle.std.proofs.lemmas.Bool.{eqb-true}
use Rattle.std.specs.HashMap.{HashMap, get, Updates}
use Rattle.wac_types_base.specs.declared.item.ItemKind.{ItemKind}
use Rattle.wac_types_base.specs.Record.{Collection}
use Rattle.wac_types_base.specs.Collection.{Stands}
use Rattle.wac_types_written.specs.Forms.{EachFormed, IsFormed}
use Rattle.wac_types_written.specs.Written.{WorldMaker}

module _ {S : Type 0} (make : WorldMaker) (c : Collection) (kind : ℕ → ℕ → ItemKind) (t : HashMap ℕ ℕ S) (h : EachFormed make c kind t) where
  -- what is found of an id of this collection
  pub found_formed : (col i j : ℕ) → col ≡ c.number → get nat_eq t i ≡ Some j → IsFormed make c (kind col i) (kind c.number j)
  found_formed col i j own e = subst (λ n. IsFormed make c (kind n i) (kind c.number j)) (sym own) (h.formed i j e)

  -- one more
  pub each_more : (t' : HashMap ℕ ℕ S) (col i d j : ℕ) → col ≡ c.number → d ≡ c.number → Updates nat_eq t t' i (Some j) → Stands c (kind col i) → IsFormed make c (kind col i) (kind d j) → EachFormed make c kind t'
  each_more t' col i d j own form u stands formed =
      let s : Stands c (kind c.number i) = subst (λ n. Stands c (kind n i)) own stands in
      let w : IsFormed make c (kind c.number i) (kind c.number j) = subst (λ n. IsFormed make c (kind c.number i) (kind n j)) form (subst (λ n. IsFormed make c (kind n i) (kind d j)) own formed) in
      record {
        stand = λ a b e. standing a s (nat_eq i a) refl b e;
        formed = λ a b e. becoming a w (nat_eq i a) refl b e;
      }
    where
      standing : (a : ℕ) → Stands c (kind c.number i) → (x : Bool) → nat_eq i a ≡ x → (b : ℕ) → get nat_eq t' a ≡ Some b → Stands c (kind c.number a)
      standing a s true same b e = subst (λ n. Stands c (kind c.number n)) (eqb-true i a same) s
      standing a s false other b e = h.stand a b (ap (λ x. cond x (Some j) (get nat_eq t a)) (sym other) ∙ sym (u.0 a) ∙ e)

      becoming : (a : ℕ) → IsFormed make c (kind c.number i) (kind c.number j) → (x : Bool) → nat_eq i a ≡ x → (b : ℕ) → get nat_eq t' a ≡ Some b → IsFormed make c (kind c.number a) (kind c.number b)
      becoming a w true same b e =
          let new : Some j ≡ Some b = ap (λ x. cond x (Some j) (get nat_eq t a)) (sym same) ∙ sym (u.0 a) ∙ e in
          let js : j ≡ b = cc new in
          subst (λ n. IsFormed make c (kind c.number n) (kind c.number b)) (eqb-true i a same) (subst (λ n. IsFormed make c (kind c.number i) (kind c.number n)) js w)
      becoming a w false other b e = h.formed a b (ap (λ x. cond x (Some j) (get nat_eq t a)) (sym other) ∙ sym (u.0 a) ∙ e)
