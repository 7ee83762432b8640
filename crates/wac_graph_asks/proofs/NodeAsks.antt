-- What single nodes ask and define, added.
use Rattle.std.specs.List.{list_any}
use Rattle.std.specs.Map.{lookup, keys_of}
use Rattle.std.specs.Prelude.{option_map, option_to_list}
use Rattle.std.proofs.Common.{rules, ◌≡◌, ◌↔◌, IsTrue, ◌||◌, ℕ, Bool, true, false, true≢false, cond, List, [], ◌∷◌, ◌++◌, Option, Some, None, refl, sym, ap, subst, ◌∙◌, inl, inr}
use Rattle.std.proofs.lemmas.Option.{none-some, same_Some}
use Rattle.wac_types_fit.proofs.ItemKinds.{not_component}
use Rattle.wac_types_base.specs.declared.ids.WorldId.{WorldId}
use Rattle.wac_types_base.specs.declared.item.ItemKind.{ItemKind}
use Rattle.wac_types_base.specs.declared.item.«Type».{«Type» as TypeKind}
use Rattle.wac_types_base.specs.Record.{Collection}
use Rattle.wac_types_base.specs.Entries.{Name}
use Rattle.wac_types_base.specs.Graph.{Among}
use Rattle.wac_types_base.specs.Collection.{Stands, IsAcyclic, Grows}
use Rattle.wac_types_base.specs.Copying.{IsCopy}
use Rattle.wac_types_base.specs.Stated.{stated_in, stated_of, kind_of}
use Rattle.wac_types_base.proofs.Telling.{kind_stated}
use Rattle.wac_types_names.specs.Packaged.{Packaged}
use Rattle.wac_graph_core.specs.declared.ids.PackageId.{PackageId}
use Rattle.wac_graph_core.specs.contracts.ids.PackageIdPartialEq.TheImpl.{eq-value}
use Rattle.wac_graph_core.specs.Nodes.{NodeData, Role, IsDefinedType, imported_as}
use Rattle.wac_graph_core.specs.Graph.{Graph, IsGraph, node_at, package_of, package_if}
use Rattle.wac_types_parts.specs.Parts.{imports_of}
use Rattle.wac_composition.specs.Composition.{Placed}
use Rattle.wac_composition.specs.Asks.{ByName, explicit_ask}
use Rattle.wac_graph_asks.specs.declared.asks.Asking.{Asking as HeldAsking}
use Rattle.wac_graph_asks.specs.declared.asks.Ask.{Ask as HeldAsk}
use Rattle.wac_graph_asks.specs.declared.asks.Asked.{Asked}
use Rattle.wac_graph_asks.specs.Graphs.{import_by, made_with, definition_by, first_export}
use Rattle.wac_graph_asks.specs.Reads.{import_name_of, package_id_of, is_defined, is_definition, AreArguments}
use Rattle.wac_graph_asks.specs.AsksIn.{asks_in}
use Rattle.wac_graph_asks.specs.Asked.{IsWorldOf, HasCopy, IsHeld, Adds}
use Rattle.wac_graph_asks.specs.AskedNodes.{filled_by, unbound_asks, imported_at, made_at, defined_at, import_asks, instance_asks, instance_ids, definitions_at}
use Rattle.wac_graph_asks.proofs.Filling.{instance_filled, filled_stands}
use Rattle.wac_graph_asks.proofs.Asking.{adds_nothing, adds_then, adds_as, adds_asks, adds_definition, adds_package, adds_known_package}

-- ---- packages that are there

pub same_id : (a b : PackageId) → IsTrue (eq-value.it a b) ↔ (a ≡ b)
same_id a b = search rules

lookup_among : (es : List (PackageId × WorldId)) (id : PackageId) (w : WorldId) → lookup (eq-value.it id) es ≡ Some w → Among (id, w) es
lookup_among [] id w e = absurd (none-some _ e)
lookup_among (x ∷ es) id w e = go (eq-value.it id x.0) refl e (lookup_among es id w)
  where
    go : (b : Bool) → eq-value.it id x.0 ≡ b → cond b (Some x.1) (lookup (eq-value.it id) es) ≡ Some w → (lookup (eq-value.it id) es ≡ Some w → Among (id, w) es) → Among (id, w) (x ∷ es)
    go true q h later = inl (λ i. ((same_id id x.0).0 q i, sym (same_Some _ _ h) i))
    go false q h later = inr (later h)

lookup_there : (es : List (PackageId × WorldId)) (id : PackageId) (w : WorldId) → lookup (eq-value.it id) es ≡ Some w → list_any (eq-value.it id) (keys_of es) ≡ true
lookup_there [] id w e = absurd (none-some _ e)
lookup_there (x ∷ es) id w e = go (eq-value.it id x.0) e (lookup_there es id w)
  where
    go : (b : Bool) → cond b (Some x.1) (lookup (eq-value.it id) es) ≡ Some w → (lookup (eq-value.it id) es ≡ Some w → list_any (eq-value.it id) (keys_of es) ≡ true) → (b || list_any (eq-value.it id) (keys_of es)) ≡ true
    go true h later = refl
    go false h later = later h

lookup_missing : (es : List (PackageId × WorldId)) (id : PackageId) → lookup (eq-value.it id) es ≡ None → list_any (eq-value.it id) (keys_of es) ≡ false
lookup_missing [] id e = refl
lookup_missing (x ∷ es) id e = go (eq-value.it id x.0) e (lookup_missing es id)
  where
    go : (b : Bool) → cond b (Some x.1) (lookup (eq-value.it id) es) ≡ None → (lookup (eq-value.it id) es ≡ None → list_any (eq-value.it id) (keys_of es) ≡ false) → (b || list_any (eq-value.it id) (keys_of es)) ≡ false
    go true h later = absurd (none-some _ (sym h))
    go false h later = later h

-- ---- a copy of a world is a world

pub world_copied : (c d : Collection) → IsAcyclic c → IsAcyclic d → (w : WorldId) (k : ItemKind) → Stands c (ItemKind.Component w) → IsCopy c d (ItemKind.Component w) k → ((x : WorldId) → k ≡ ItemKind.Component x → ⊥) → ⊥
world_copied c d a b w k stands copy h =
    not_component k h (sym (kind_stated d b k copy.stands) ∙ ap (λ o. kind_of (stated_in o)) copy.same ∙ kind_stated c a (ItemKind.Component w) stands)

module _ (g : Graph) where
  -- ---- an import

  import_asked : (k : ℕ) (n : Name) (kind : ItemKind) → Some n ≡ import_name_of (node_at g k) → Some kind ≡ option_map (λ x. x.item_kind) (node_at g k)
      → record { asking = ByName; by = k; name = n; item = stated_of g.types kind } ∷ [] ≡ import_asks g k
  import_asked k n kind named of_kind = by_node (node_at g k) named of_kind
    where
      by_role : (x : NodeData) (r : Role) → Some n ≡ imported_as r → Some kind ≡ Some x.item_kind → record { asking = ByName; by = k; name = n; item = stated_of g.types kind } ∷ [] ≡ option_to_list (option_map explicit_ask (import_by g k x r))
      by_role x (Role.Imported m) e f = λ i. record { asking = ByName; by = k; name = same_Some _ _ e i; item = stated_of g.types (same_Some _ _ f i) } ∷ []
      by_role x Role.Defined e f = absurd (none-some _ (sym e))
      by_role x Role.Instance e f = absurd (none-some _ (sym e))
      by_role x Role.Aliased e f = absurd (none-some _ (sym e))

      by_node : (o : Option NodeData) → Some n ≡ import_name_of o → Some kind ≡ option_map (λ x. x.item_kind) o → record { asking = ByName; by = k; name = n; item = stated_of g.types kind } ∷ [] ≡ option_to_list (option_map explicit_ask (imported_at g k o))
      by_node None e f = absurd (none-some _ (sym e))
      by_node (Some x) e f = by_role x x.role e f

  pub import_added : (a b : Asked) → IsHeld g a → Grows a.types b.types → (k : ℕ) (n : Name) (kind item : ItemKind) → Some n ≡ import_name_of (node_at g k) → Some kind ≡ option_map (λ x. x.item_kind) (node_at g k) → IsCopy g.types b.types kind item
      → b.asks.items ≡ a.asks.items ++ record { asking = HeldAsking.ByName; by = k; name = n; item = item } ∷ [] → b.packages.entries ≡ a.packages.entries → b.definitions.items ≡ a.definitions.items
      → Adds g a b (import_asks g k) [] []
  import_added a b h grows k n kind item named of_kind copy is same_packages same_definitions =
      adds_as g a b (adds_asks g a b h grows (record { asking = HeldAsking.ByName; by = k; name = n; item = item } ∷ []) stand is same_packages same_definitions)
      (ap (λ o. record { asking = ByName; by = k; name = n; item = stated_in o } ∷ []) copy.same ∙ import_asked k n kind named of_kind) refl refl
    where
      stand : (x : HeldAsk) → Among x (record { asking = HeldAsking.ByName; by = k; name = n; item = item } ∷ []) → Stands b.types x.item
      stand x (inl s) = subst (Stands b.types) (ap (λ (y : HeldAsk). y.item) (sym s)) copy.stands
      stand x (inr m) = absurd m

  pub no_import_added : (a : Asked) → IsHeld g a → (k : ℕ) → None ≡ import_name_of (node_at g k) → Adds g a a (import_asks g k) [] []
  no_import_added a h k none = adds_as g a a (adds_nothing g a h) (by_node (node_at g k) none) refl refl
    where
      by_role : (x : NodeData) (r : Role) → None ≡ imported_as r → [] ≡ option_to_list (option_map explicit_ask (import_by g k x r))
      by_role x (Role.Imported m) e = absurd (none-some _ e)
      by_role x Role.Defined e = refl
      by_role x Role.Instance e = refl
      by_role x Role.Aliased e = refl

      by_node : (o : Option NodeData) → None ≡ import_name_of o → [] ≡ option_to_list (option_map explicit_ask (imported_at g k o))
      by_node None e = refl
      by_node (Some x) e = by_role x x.role e

  pub no_kind_added : (a : Asked) → IsHeld g a → (k : ℕ) → None ≡ option_map (λ x. x.item_kind) (node_at g k) → Adds g a a (import_asks g k) [] []
  no_kind_added a h k none = adds_as g a a (adds_nothing g a h) (by_node (node_at g k) none) refl refl
    where
      by_node : (o : Option NodeData) → None ≡ option_map (λ x. x.item_kind) o → [] ≡ option_to_list (option_map explicit_ask (imported_at g k o))
      by_node None e = refl
      by_node (Some x) e = absurd (none-some _ e)

  -- ---- the world of a package

  pub known_world : (a : Asked) → IsHeld g a → (id : PackageId) (w : WorldId) → lookup (eq-value.it id) a.packages.entries ≡ Some w → IsWorldOf g a.types id w × Adds g a a [] (id ∷ []) []
  known_world a h id w e = (h.worlds id w (lookup_among a.packages.entries id w e), adds_known_package g a h id (lookup_there a.packages.entries id w e))

  pub new_world : (a b : Asked) → IsHeld g a → Grows a.types b.types → (id : PackageId) (v w : WorldId) → Some v ≡ option_map (λ p. p.ty) (package_of g id) → IsCopy g.types b.types (ItemKind.Component v) (ItemKind.Component w)
      → lookup (eq-value.it id) a.packages.entries ≡ None → b.packages.entries ≡ a.packages.entries ++ (id, w) ∷ [] → b.asks.items ≡ a.asks.items → b.definitions.items ≡ a.definitions.items
      → IsWorldOf g b.types id w × Adds g a b [] (id ∷ []) []
  new_world a b h grows id v w of copy none is same_asks same_definitions = (world, adds_package g a b h grows id w world (lookup_missing a.packages.entries id none) is same_asks same_definitions)
    where
      by_package : (o : Option Packaged) → package_of g id ≡ o → Some v ≡ option_map (λ p. p.ty) o → IsWorldOf g b.types id w
      by_package None e f = absurd (none-some _ (sym f))
      by_package (Some p) e f = record { held = p; is = e; copy = subst (λ v. IsCopy g.types b.types (ItemKind.Component v) (ItemKind.Component w)) (same_Some _ _ f) copy }

      world : IsWorldOf g b.types id w
      world = by_package (package_of g id) refl of

  -- ---- an instance

  pub no_instance_added : (a : Asked) → IsHeld g a → (k : ℕ) → None ≡ package_id_of (node_at g k) → Adds g a a (instance_asks g k) (instance_ids g k) []
  no_instance_added a h k none = adds_as g a a (adds_nothing g a h) (by_node (node_at g k) none) (ap option_to_list none) refl
    where
      by_node : (o : Option NodeData) → None ≡ package_id_of o → [] ≡ filled_by (made_at g k o)
      by_node None e = refl
      by_node (Some x) e = ap (λ o. filled_by (made_with g k (package_if g o))) e

  module _ (sound : IsGraph g) (finite_types : IsAcyclic g.types) (k : ℕ) (id : PackageId) (of : Some id ≡ package_id_of (node_at g k)) where
    -- its package stands
    pub package_there : package_of g id ≡ None → ⊥
    package_there none = by_node (node_at g k) refl of
      where
        by_node : (o : Option NodeData) → node_at g k ≡ o → Some id ≡ package_id_of o → ⊥
        by_node None e f = absurd (none-some _ (sym f))
        by_node (Some x) e f = absurd (cc (none, (sound.nodes k x e).of id (sym f)))

    instance_asked : (p : Packaged) → package_of g id ≡ Some p → (c : Collection) → IsAcyclic c → (w : WorldId) → IsCopy g.types c (ItemKind.Component p.ty) (ItemKind.Component w) → (given : List (Name × ℕ)) → AreArguments g k given
        → asks_in c (unbound_asks k given (imports_of c w)) ≡ instance_asks g k
    instance_asked p is c acyclic w copy given are = by_node (node_at g k) of
      where
        by_node : (o : Option NodeData) → Some id ≡ package_id_of o → asks_in c (unbound_asks k given (imports_of c w)) ≡ filled_by (made_at g k o)
        by_node None f = absurd (none-some _ (sym f))
        by_node (Some x) f =
            sym (instance_filled g sound finite_types k given are c acyclic p w copy)
            ∙ ap (λ o. filled_by (made_with g k o)) (sym is) ∙ ap (λ o. filled_by (made_with g k (package_if g o))) f

    pub instance_added : (a mid b : Asked) (w : WorldId) (given : List (Name × ℕ)) → IsWorldOf g mid.types id w × Adds g a mid [] (id ∷ []) [] → AreArguments g k given → b.types ≡ mid.types → Grows mid.types b.types
        → b.asks.items ≡ mid.asks.items ++ unbound_asks k given (imports_of mid.types w) → b.packages.entries ≡ mid.packages.entries → b.definitions.items ≡ mid.definitions.items → Adds g a b (instance_asks g k) (instance_ids g k) []
    instance_added a mid b w given copied are same grows is same_packages same_definitions =
        let world = copied.0 in
        let asks = unbound_asks k given (imports_of mid.types w) in
        adds_as g a b
        (adds_then g a mid b copied.1
        (adds_asks g mid b copied.1.held grows asks
        (λ x m. subst (λ c. Stands c x.item) (sym same) (filled_stands g sound finite_types k given are mid.types copied.1.held.acyclic world.held w world.copy x m)) is same_packages same_definitions))
        (ap (λ c. asks_in c asks) same ∙ instance_asked world.held world.is mid.types copied.1.held.acyclic w world.copy given are) (ap option_to_list of) refl

  -- ---- a definition

  module _ (k : ℕ) (kind : ItemKind) (defined : is_definition (node_at g k) ≡ true) (of_kind : Some kind ≡ option_map (λ x. x.item_kind) (node_at g k)) where
    placed : Placed ℕ
    placed = record { by = k; name = first_export g.exports k; item = stated_of g.types kind }

    defined_is : Some placed ≡ defined_at g k (node_at g k)
    unfolding placed
    defined_is = by_node (node_at g k) defined of_kind
      where
        by_role : (x : NodeData) (r : Role) → is_defined r ≡ true → Some kind ≡ Some x.item_kind → Some (record { by = k; name = first_export g.exports k; item = stated_of g.types kind }) ≡ definition_by g k x r
        by_role x Role.Defined e f = ap (λ j. Some (record { by = k; name = first_export g.exports k; item = stated_of g.types j })) (same_Some _ _ f)
        by_role x (Role.Imported n) e f = absurd (true≢false (sym e))
        by_role x Role.Instance e f = absurd (true≢false (sym e))
        by_role x Role.Aliased e f = absurd (true≢false (sym e))

        by_node : (o : Option NodeData) → is_definition o ≡ true → Some kind ≡ option_map (λ x. x.item_kind) o → Some (record { by = k; name = first_export g.exports k; item = stated_of g.types kind }) ≡ defined_at g k o
        by_node None e f = absurd (true≢false (sym e))
        by_node (Some x) e f = by_role x x.role e f

    pub is_defined_type : IsGraph g → IsDefinedType kind
    is_defined_type sound = by_node (node_at g k) refl defined of_kind
      where
        by_role : (x : NodeData) → node_at g k ≡ Some x → (r : Role) → x.role ≡ r → is_defined r ≡ true → IsDefinedType x.item_kind
        by_role x at Role.Defined r e = (sound.nodes k x at).defined r
        by_role x at (Role.Imported n) r e = absurd (true≢false (sym e))
        by_role x at Role.Instance r e = absurd (true≢false (sym e))
        by_role x at Role.Aliased r e = absurd (true≢false (sym e))

        by_node : (o : Option NodeData) → node_at g k ≡ o → is_definition o ≡ true → Some kind ≡ option_map (λ x. x.item_kind) o → IsDefinedType kind
        by_node None at e f = absurd (true≢false (sym e))
        by_node (Some x) at e f = subst IsDefinedType (sym (same_Some _ _ f)) (by_role x at x.role refl e)

    pub no_other_kind : IsGraph g → ((t : TypeKind) → kind ≡ ItemKind.Ty t → ⊥) → ⊥
    no_other_kind sound none = let d = is_defined_type sound in none d.type d.is

    pub definition_added : (a b : Asked) → IsHeld g a → Grows a.types b.types → (t : TypeKind) → kind ≡ ItemKind.Ty t → (n : Name) → n ≡ first_export g.exports k → (copy : Option ItemKind) → HasCopy g.types b.types t copy
        → b.definitions.items ≡ a.definitions.items ++ record { node = k; name = n; ty = t; copy = copy } ∷ [] → b.asks.items ≡ a.asks.items → b.packages.entries ≡ a.packages.entries → Adds g a b [] [] (definitions_at g k)
    unfolding placed
    definition_added a b h grows t is n named copy has items same_asks same_packages =
        adds_as g a b (adds_definition g a b h grows (record { node = k; name = n; ty = t; copy = copy }) has items same_asks same_packages) refl refl
        (ap (λ m. record { by = k; name = m; item = stated_of g.types (ItemKind.Ty t) } ∷ []) named
        ∙ ap (λ j. record { by = k; name = first_export g.exports k; item = stated_of g.types j } ∷ []) (sym is) ∙ ap option_to_list defined_is)

  pub no_node_added : (a : Asked) → IsHeld g a → (k : ℕ) → is_definition (node_at g k) ≡ false → Adds g a a [] [] (definitions_at g k)
  no_node_added a h k none = adds_as g a a (adds_nothing g a h) refl refl (by_node (node_at g k) none)
    where
      by_role : (x : NodeData) (r : Role) → is_defined r ≡ false → [] ≡ option_to_list (definition_by g k x r)
      by_role x Role.Defined e = absurd (true≢false e)
      by_role x (Role.Imported n) e = refl
      by_role x Role.Instance e = refl
      by_role x Role.Aliased e = refl

      by_node : (o : Option NodeData) → is_definition o ≡ false → [] ≡ option_to_list (defined_at g k o)
      by_node None e = refl
      by_node (Some x) e = by_role x x.role e

  pub no_item_added : (a : Asked) → (k : ℕ) → is_definition (node_at g k) ≡ true → None ≡ option_map (λ x. x.item_kind) (node_at g k) → Adds g a a [] [] (definitions_at g k)
  no_item_added a k defined none = absurd (by_node (node_at g k) defined none)
    where
      by_node : (o : Option NodeData) → is_definition o ≡ true → None ≡ option_map (λ x. x.item_kind) o → ⊥
      by_node None e f = true≢false (sym e)
      by_node (Some x) e f = none-some _ f
