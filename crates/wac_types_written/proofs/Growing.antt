-- What is kept while a collection grows.
use Rattle.std.proofs.Common.{◌≡◌, ℕ, ◌+◌, List, [], ◌∷◌, map, refl, sym, ap, subst, ◌∙◌, inl, inr}
use Rattle.std.specs.HashMap.{HashMap}
use Rattle.wac_types_base.specs.declared.item.ItemKind.{ItemKind}
use Rattle.wac_types_base.specs.declared.defined.UsedType.{UsedType}
use Rattle.wac_types_base.specs.Record.{Collection}
use Rattle.wac_types_base.specs.Entries.{Name, with_values}
use Rattle.wac_types_base.specs.Graph.{nodes}
use Rattle.wac_types_base.specs.Collection.{Stands, Grows, items, size_in, size_of, used}
use Rattle.wac_types_base.specs.Copies.{interface_at, world_at}
use Rattle.wac_types_base.specs.Stated.{Stated, Used, stated_of, stated_in, stated_use}
use Rattle.wac_types_base.proofs.Telling.{row_size}
use Rattle.wac_types_written.specs.declared.forms.Forms.{Forms}
use Rattle.wac_types_written.specs.Written.{WorldMaker, formed}
use Rattle.wac_types_written.specs.Forms.{AreFormed, AreForms, EachFormed, IsFormed, IsOf, ItemsStand, UsesFormed, UsesStand, formed_use, stated_items, stated_uses}

module _ (c d : Collection) (g : Grows c d) where
  pub stated_kept : (k : ItemKind) → Stands c k → stated_of d k ≡ stated_of c k
  stated_kept k s = ap stated_in (g.keep k s)

  pub size_kept : (k : ItemKind) → Stands c k → size_of d k ≡ size_of c k
  size_kept k s = ap size_in (g.keep k s)

  pub items_kept : (xs : List (Name × ItemKind)) → ItemsStand c xs → stated_items d xs ≡ stated_items c xs
  items_kept [] h = refl
  items_kept (x ∷ xs) h = ap (λ y. (x.0, y) ∷ stated_items d xs) (stated_kept x.1 (h x (inl refl))) ∙ ap (λ l. (x.0, stated_of c x.1) ∷ l) (items_kept xs (λ y m. h y (inr m)))

  with_interface : Name × UsedType → Stated → Used
  with_interface u x = record { name = u.0; there = u.1.name; interface = x }

  pub uses_kept : (us : List (Name × UsedType)) → UsesStand c us → stated_uses d us ≡ stated_uses c us
  unfolding with_interface
  uses_kept [] h = refl
  uses_kept (u ∷ us) h = ap (λ x. with_interface u x ∷ stated_uses d us) (stated_kept (ItemKind.Instance u.1.interface) (h u (inl refl))) ∙ ap (λ l. stated_use c u ∷ l) (uses_kept us (λ y m. h y (inr m)))

  pub items_stand_kept : (xs : List (Name × ItemKind)) → ItemsStand c xs → ItemsStand d xs
  items_stand_kept xs h x m = g.stand x.1 (h x m)

  pub uses_stand_kept : (us : List (Name × UsedType)) → UsesStand c us → UsesStand d us
  uses_stand_kept us h u m = g.stand (ItemKind.Instance u.1.interface) (h u m)

  pub of_kept : (x : Stated) (k : ItemKind) → IsOf c x k → IsOf d x k
  of_kept x k h = record { stands = g.stand k h.stands; states = stated_kept k h.stands ∙ h.states }

  pub used_size_kept : (us : List (Name × UsedType)) → UsesStand c us → row_size d (used us) ≡ row_size c (used us)
  used_size_kept [] h = refl
  used_size_kept (u ∷ us) h =
      ap (λ x. nodes x + row_size d (used us)) (stated_kept (ItemKind.Instance u.1.interface) (h u (inl refl)))
      ∙ ap (λ n. nodes (stated_of c (ItemKind.Instance u.1.interface)) + n) (used_size_kept us (λ y m. h y (inr m)))

  pub items_size_kept : (xs : List (Name × ItemKind)) → ItemsStand c xs → row_size d (items xs) ≡ row_size c (items xs)
  items_size_kept [] h = refl
  items_size_kept (x ∷ xs) h =
      ap (λ y. nodes y + row_size d (items xs)) (stated_kept x.1 (h x (inl refl)))
      ∙ ap (λ n. nodes (stated_of c x.1) + n) (items_size_kept xs (λ y m. h y (inr m)))

module _ (make : WorldMaker) (c d : Collection) (g : Grows c d) where
  pub formed_kept : (k j : ItemKind) → Stands c k → IsFormed make c k j → IsFormed make d k j
  formed_kept k j s h = record { stands = g.stand j h.stands; states = stated_kept c d g j h.stands ∙ h.states ∙ ap (formed make) (sym (stated_kept c d g k s)) }

  pub items_formed_kept : (xs ys : List (Name × ItemKind)) → ItemsStand c xs → AreFormed make c xs ys → AreFormed make d xs ys
  items_formed_kept xs ys s h = record { stand = items_stand_kept c d g ys h.stand; state = items_kept c d g ys h.stand ∙ h.state ∙ ap (with_values (formed make)) (sym (items_kept c d g xs s)) }

  pub uses_formed_kept : (us vs : List (Name × UsedType)) → UsesStand c us → UsesFormed make c us vs → UsesFormed make d us vs
  uses_formed_kept us vs s h = record { stand = uses_stand_kept c d g vs h.stand; state = uses_kept c d g vs h.stand ∙ h.state ∙ ap (map (formed_use make)) (sym (uses_kept c d g us s)) }

  each_kept : {S : Type 0} (kind : ℕ → ℕ → ItemKind) (t : HashMap ℕ ℕ S) → EachFormed make c kind t → EachFormed make d kind t
  each_kept kind t h = record {
    stand = λ i j e. subst (λ n. Stands d (kind n i)) (sym g.number) (g.stand (kind c.number i) (h.stand i j e));
    formed = λ i j e. subst (λ n. IsFormed make d (kind n i) (kind n j)) (sym g.number) (formed_kept (kind c.number i) (kind c.number j) (h.stand i j e) (h.formed i j e));
  }

  pub forms_kept : (f : Forms) → AreForms make c f → AreForms make d f
  forms_kept f h = record { interfaces = each_kept interface_at f.interfaces h.interfaces; worlds = each_kept world_at f.worlds h.worlds }
