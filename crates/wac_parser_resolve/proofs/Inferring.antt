-- The names that nodes tell are those that are stated of what they denote.
use Rattle.std.specs.Prelude.{string_bytes, unwrap_or, slice_get, if◌then◌else◌}
use Rattle.std.proofs.Common.{◌≡◌, ℕ, List, Bool, true, false, Option, Some, None, Ok, Err, refl, sym, ap, subst, ◌∙◌}
use Rattle.wac_types_base.specs.declared.item.ItemKind.{ItemKind}
use Rattle.wac_types_base.specs.declared.item.«Type».{«Type» as TypeKind}
use Rattle.wac_types_base.specs.declared.ids.InterfaceId.{InterfaceId}
use Rattle.wac_types_base.specs.declared.ids.WorldId.{WorldId}
use Rattle.wac_types_base.specs.declared.defined.Interface.{Interface}
use Rattle.wac_types_base.specs.declared.defined.World.{World}
use Rattle.wac_types_base.specs.Record.{Collection}
use Rattle.wac_types_base.specs.Collection.{IsAcyclic, item_node, interface_entry}
use Rattle.wac_types_base.specs.Entries.{Name, has_name, names_of}
use Rattle.wac_types_base.specs.Parts.{identifier_in}
use Rattle.wac_types_base.specs.Stated.{Stated, Kind, identifier_of, imports_of, kind_of, stated_of}
use Rattle.wac_types_base.proofs.Loops.{names-with_values}
use Rattle.wac_types_base.proofs.Slots.{entry_at-is}
use Rattle.wac_types_base.proofs.Standing.{interface_found}
use Rattle.wac_types_base.proofs.Telling.{item_kind, kind_stated, stated_step}
use Rattle.wac_graph_core.specs.Nodes.{NodeData, Role, imported_as}
use Rattle.wac_graph_core.specs.Edges.{HasAlias, alias_edge}
use Rattle.wac_graph_core.specs.Exporting.{import_name_of}
use Rattle.wac_graph_core.specs.Graph.{Graph, IsGraph, node_at}
use Rattle.wac_composition.specs.Composition.{Origin, imported, instance, projected, defined}
use Rattle.wac_parser_tree.specs.Trees as t
use Rattle.wac_parser_refusals.specs.Causes.{Answer, ◌>>=◌, pure}
use Rattle.wac_parser_refusals.specs.Outcomes.{IsHeld}
use Rattle.wac_parser_declare.specs.Holding.{Holds}
use Rattle.wac_parser_declare.proofs.Exports.{component_imports}
use Rattle.wac_parser_resolve.specs.declared.arguments.Given.{Given}
use Rattle.wac_parser_resolve.specs.Ascribing.{Denoted, own_name}
use Rattle.std.specs.Option.{option_or}
use Rattle.wac_parser_resolve.specs.Denoting.{if_among, inferred_name, instance_identifier}
use Rattle.wac_parser_resolve.specs.Holding.{Denotes, HasItem, IsGiven, IsNode}
use Rattle.wac_parser_resolve.specs.InArguments.{inferred_given}
use Rattle.wac_parser_resolve.specs.Told.{IsAliasName, IsOwnName, TellsOwnName, identifier, identifier_of_item, identifier_of_node}
use Rattle.wac_parser_resolve.proofs.Nodes.{told_role}

-- ---- identifiers

module _ (c : Collection) (a : IsAcyclic c) where
  interface_identifier : (i : InterfaceId) (x : Interface) → slice_get c.interfaces i.index ≡ Some x → i.collection ≡ c.number → identifier_of (stated_of c (ItemKind.Instance i)) ≡ x.id
  unfolding item_node
  interface_identifier i x at own =
      ap identifier_of (stated_step c a (ItemKind.Instance i) (interface_entry x) (entry_at-is interface_entry c.number c.interfaces i.collection i.index x at own))

  told_by : (t : Stated) (x : ItemKind) → Holds c t x → (k : Kind) → item_kind x ≡ k → instance_identifier (kind_of t) t ≡ instance_identifier k t
  told_by t x h k e = ap (λ (j : Kind). instance_identifier j t) (sym (ap kind_of h.same) ∙ kind_stated c a x h.stands ∙ e)

  instance_told : (t : Stated) (i : InterfaceId) → Holds c t (ItemKind.Instance i) → identifier_of_item c (ItemKind.Instance i) ≡ instance_identifier (kind_of t) t
  instance_told t i h =
      let f = interface_found c i h.stands in
      ap identifier_in f.at ∙ sym (interface_identifier i f.value f.at f.own) ∙ ap identifier_of h.same ∙ sym (told_by t (ItemKind.Instance i) h (item_kind (ItemKind.Instance i)) refl)

  item_told : (t : Stated) (x : ItemKind) → Holds c t x → identifier_of_item c x ≡ instance_identifier (kind_of t) t
  item_told t (ItemKind.Instance i) h = instance_told t i h
  item_told t (ItemKind.Ty (TypeKind.Resource r)) h = sym (told_by t (ItemKind.Ty (TypeKind.Resource r)) h (item_kind (ItemKind.Ty (TypeKind.Resource r))) refl)
  item_told t (ItemKind.Ty (TypeKind.Func r)) h = sym (told_by t (ItemKind.Ty (TypeKind.Func r)) h (item_kind (ItemKind.Ty (TypeKind.Func r))) refl)
  item_told t (ItemKind.Ty (TypeKind.Value r)) h = sym (told_by t (ItemKind.Ty (TypeKind.Value r)) h (item_kind (ItemKind.Ty (TypeKind.Value r))) refl)
  item_told t (ItemKind.Ty (TypeKind.Interface r)) h = sym (told_by t (ItemKind.Ty (TypeKind.Interface r)) h (item_kind (ItemKind.Ty (TypeKind.Interface r))) refl)
  item_told t (ItemKind.Ty (TypeKind.World r)) h = sym (told_by t (ItemKind.Ty (TypeKind.World r)) h (item_kind (ItemKind.Ty (TypeKind.World r))) refl)
  item_told t (ItemKind.Ty (TypeKind.Module r)) h = sym (told_by t (ItemKind.Ty (TypeKind.Module r)) h (item_kind (ItemKind.Ty (TypeKind.Module r))) refl)
  item_told t (ItemKind.Func r) h = sym (told_by t (ItemKind.Func r) h (item_kind (ItemKind.Func r)) refl)
  item_told t (ItemKind.Component r) h = sym (told_by t (ItemKind.Component r) h (item_kind (ItemKind.Component r)) refl)
  item_told t (ItemKind.Module r) h = sym (told_by t (ItemKind.Module r) h (item_kind (ItemKind.Module r)) refl)
  item_told t (ItemKind.Value r) h = sym (told_by t (ItemKind.Value r) h (item_kind (ItemKind.Value r)) refl)

pub identifier_told : (g : Graph) → IsAcyclic g.types → (k : ℕ) (t : Stated) → HasItem g k t → identifier g k ≡ instance_identifier (kind_of t) t
identifier_told g a k t h = ap (identifier_of_node g.types) h.there ∙ item_told g.types a t h.node.item_kind h.kind

-- ---- names of their own

module _ (g : Graph) (is : IsGraph g) (ms : List ℕ) where
  unimported : (k : ℕ) (x : NodeData) → node_at g k ≡ Some x → imported_as x.role ≡ None → (r : Option Name) → TellsOwnName g k r → IsAliasName g k r
  unimported k x at e r h = subst (λ (m : Option Name). IsOwnName g k m r) (ap import_name_of at ∙ e) h

  no_alias : (k : ℕ) (x : NodeData) → node_at g k ≡ Some x → (x.role ≡ Role.Aliased → ⊥) → (r : Option Name) → IsAliasName g k r → r ≡ None
  no_alias k x at n None h = refl
  no_alias k x at n (Some m) h =
      let z = (is.wired.edges (alias_edge h.0 k m) h.1).alias m refl in
      let e : Some z.0 ≡ Some x = sym z.1 ∙ at in
      let same : z.0 ≡ x = cc e in
      absurd (n (ap (λ (y : NodeData). y.role) (sym same) ∙ z.2))

  alias_by : (i k : ℕ) (n : Name) → HasAlias g.edges i n k → (r : Option Name) → IsAliasName g k r → r ≡ Some n
  alias_by i k n e None h = absurd (h n (i, e))
  alias_by i k n e (Some m) h = ap Some (is.keyed.one_source h.0 i k m n h.1 e).1

  pub own_told : (o : Origin ℕ) (k : ℕ) (r : Option Name) → IsNode g ms o k → TellsOwnName g k r → r ≡ own_name o
  own_told (imported n) k r a h =
      subst (λ (m : Option Name). IsOwnName g k m r) (ap import_name_of a.there ∙ ap imported_as a.role) h
  own_told (instance i) k r a h =
      let x = told_role g is ms (instance i) k a in
      no_alias k x.0 x.1 (λ e. absurd (cc (e, x.2))) r (unimported k x.0 x.1 (ap imported_as x.2) r h)
  own_told (projected o n) k r a h =
      let x = told_role g is ms (projected o n) k a in
      alias_by a.0 k n a.3 r (unimported k x.0 x.1 (ap imported_as x.2) r h)
  own_told (defined n y) k r a h =
      let x = told_role g is ms (defined n y) k a in
      no_alias k x.0 x.1 (λ e. absurd (cc (e, x.2))) r (unimported k x.0 x.1 (ap imported_as x.2) r h)

-- ---- the import that an argument without a name is for

-- the first of two that is there, else another
pub first_of : (a b : Option Name) (m n : Name) → a ≡ Some n → n ≡ unwrap_or (option_or a b) m
first_of a b m n e = ap (λ (x : Option Name). unwrap_or (option_or x b) m) (sym e)

pub second_of : (a b : Option Name) (m n : Name) → a ≡ None → b ≡ Some n → n ≡ unwrap_or (option_or a b) m
second_of a b m n e f = ap (λ (x : Option Name). unwrap_or x m) (sym f) ∙ ap (λ (x : Option Name). unwrap_or (option_or x b) m) (sym e)

pub neither_of : (a b : Option Name) (m : Name) → a ≡ None → b ≡ None → m ≡ unwrap_or (option_or a b) m
neither_of a b m e f = ap (λ (x : Option Name). unwrap_or x m) (sym f) ∙ ap (λ (x : Option Name). unwrap_or (option_or x b) m) (sym e)

-- the names of a world's imports
pub import_names : (c : Collection) → IsAcyclic c → (w : WorldId) (x : World) → slice_get c.worlds w.index ≡ Some x → w.collection ≡ c.number → names_of (imports_of (stated_of c (ItemKind.Component w))) ≡ names_of x.imports
import_names c a w x at own = ap (λ (es : List (Name × Stated)). names_of es) (component_imports c a w x at own) ∙ names-with_values (stated_of c) x.imports

-- an argument that is a name alone
pub inferred_held : (g : Graph) (ms : List ℕ) (q : Answer Denoted) (k : ℕ) (one : Given) (ns : List Name) (i : t.Ident) → IsHeld (Denotes g ms) q k → one.node ≡ k → one.span ≡ i.span
    → ((d : Denoted) → Denotes g ms d k → string_bytes one.name ≡ inferred_name ns i d) → IsHeld (IsGiven g ms) (q >>= λ d. pure (inferred_given ns i d)) one
inferred_held g ms (Ok d) k one ns i h node span name =
    record { name = name d h; denotes = subst (Denotes g ms d) (sym node) h; span = span }
inferred_held g ms (Err c) k one ns i h node span name = absurd h

-- a name that is among these, and one that is not
pub among_here : (ns : List Name) (n : Name) → has_name ns n ≡ true → Some n ≡ if_among ns (Some n)
among_here ns n e = go (has_name ns n) e
  where
    go : (b : Bool) → b ≡ true → Some n ≡ (if b then Some n else None)
    go true h = refl
    go false h = absurd (cc h)

pub among_not : (ns : List Name) (n : Name) → has_name ns n ≡ false → None ≡ if_among ns (Some n)
among_not ns n e = go (has_name ns n) e
  where
    go : (b : Bool) → b ≡ false → None ≡ (if b then Some n else None)
    go true h = absurd (cc h)
    go false h = refl
