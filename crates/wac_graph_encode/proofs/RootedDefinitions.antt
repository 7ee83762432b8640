-- Definitions that are written stand for their nodes.
use Rattle.indexmap.specs.IndexMap.{IndexMap, insert_entry}
use Rattle.std.specs.Map.{lookup}
use Rattle.std.specs.Prelude.{nat_eq, if◌then◌else◌}
use Rattle.std.proofs.Common.{Result, Ok, Err, IfOk, ◌≡◌, ℕ, Bool, true, false, List, [], ◌∷◌, map, Option, Some, None, slice_get, refl, sym, ap, subst, ◌∙◌, inl, inr, arith}
use Rattle.std.proofs.lemmas.Bool.Decides.{nat_tests}
use Rattle.std.proofs.lemmas.Option.{none-some, same_Some}
use Rattle.wac_types_base.specs.declared.item.ItemKind.{ItemKind}
use Rattle.wac_types_base.specs.declared.item.«Type».{«Type» as TypeKind}
use Rattle.wac_types_base.specs.declared.ids.WorldId.{WorldId}
use Rattle.wac_types_base.specs.Record.{Collection}
use Rattle.wac_types_base.specs.Entries.{Name, value_at}
use Rattle.wac_types_base.specs.Graph.{Among}
use Rattle.wac_types_base.specs.Collection.{Stands, IsAcyclic}
use Rattle.wac_types_base.proofs.Telling.{item_kind, kind_stated}
use Rattle.wac_types_fit.specs.Trees.{tree_in}
use Rattle.wac_types_base.specs.Stated.{stated_of, kind_of}
use Rattle.wac_types_base.specs.Tree.{Tree, tree}
use Rattle.wac_types_base.proofs.Lists.{among_mapped, from_filtered}
use Rattle.wac_types_written.specs.Written.{written_definition}
use Rattle.wac_graph_bytes.specs.declared.value.Sort.{Sort}
use Rattle.wac_graph_bytes.specs.declared.value.Sort.TheVariants as sort
use Rattle.wac_graph_bytes.specs.declared.value.Description.{Description}
use Rattle.wac_graph_bytes.specs.declared.value.Description.TheVariants as desc
use Rattle.wac_graph_bytes.specs.Counting.{description_sort}
use Rattle.wac_graph_bytes.specs.Typing as typing
use Rattle.wac_graph_bytes.specs.Typing.{Worlds, Meaning, Known, Scope, Inside, ◌>>=◌}
use Rattle.wac_graph_bytes.specs.Wirings.{Definition as DefinitionOf}
use Rattle.wac_graph_core.specs.Nodes.{NodeData, Role, IsResource}
use Rattle.wac_graph_core.specs.Graph.{Graph, IsGraph, node_at, is_instance}
use Rattle.wac_graph_core.specs.GraphWiring.{defined}
use Rattle.wac_graph_core.specs.contracts.ids.NodeIdPartialEq.TheImpl as node_id
use Rattle.wac_graph_scopes.specs.declared.imports.SortIndex.{SortIndex}
use Rattle.wac_graph_scopes.specs.declared.scope.KnownTypes.{KnownTypes}
use Rattle.wac_graph_scopes.specs.declared.imports.ImportScope.{ImportScope}
use Rattle.wac_graph_scopes.specs.declared.items.ItemScope.{ItemScope}
use Rattle.wac_graph_scopes.specs.Items.{sort_of, HasEntry, IsNoResource, IsEntryOf, GivesMeaning}
use Rattle.wac_graph_scopes.specs.Imports.{WritesWorld, WritesOn, DescribesIn, DescribesApart}
use Rattle.wac_graph_scopes.proofs.WritingLaws.{writes_on}
use Rattle.wac_graph_scopes.proofs.ImportLaws.{world_goes}
use Rattle.wac_graph_scopes.proofs.ScopeLaws.{Extends-trans, all_known_kept}
use Rattle.wac_graph_scopes.specs.Scopes.{Extends, GoesOn, AreKnown}
use Rattle.wac_graph_scopes.specs.Roots.{at_root}
use Rattle.wac_graph_asks.specs.declared.asks.Definition.{Definition}
use Rattle.wac_graph_asks.specs.Graphs.{composition_of, definition_by, nodes_of}
use Rattle.wac_graph_asks.specs.Wirings.{written_tree}
use Rattle.wac_graph_asks.specs.Asked.{placed_in}
use Rattle.wac_graph_asks.proofs.ByNode.{entry_there}
use Rattle.wac_graph_encode.specs.declared.root.Defined.{Defined}
use Rattle.wac_graph_encode.specs.declared.declarations.Early.{Early}
use Rattle.wac_graph_encode.specs.Standing.{StandsAt, type_place}
use Rattle.wac_graph_encode.specs.Formed.{HasForm}
use Rattle.wac_graph_encode.proofs.FormKinds.{own_form, form_entry}
use Rattle.wac_graph_encode.proofs.Entries.{same_node}
use Rattle.wac_graph_encode.proofs.Nesting.{inserted_among}
use Rattle.wac_graph_encode.specs.Defining.{IsNodeOf, IsToWrite, AreToWrite, IsEarlyAt, AreEarly, HoldsDefinitions, HoldsEntry, NotesEarly, DefinesIn}

module _ (g : Graph) where
  node_of : (x : Definition) → Among (placed_in g.types x) (composition_of g).definitions → IsNodeOf g x
  node_of x m =
      let f = from_filtered (λ e. definition_by g e.0 e.1 e.1.role) (nodes_of g) (placed_in g.types x) m in
      by_role f.0 (entry_there g.nodes f.0 f.1) f.0.1.role refl f.2
    where
      by_role : (e : ℕ × NodeData) → node_at g e.0 ≡ Some e.1 → (r : Role) → e.1.role ≡ r → definition_by g e.0 e.1 r ≡ Some (placed_in g.types x) → IsNodeOf g x
      by_role e at Role.Defined r h =
          let same = same_Some _ _ h in
          record { node = e.1; there = subst (λ k. node_at g k ≡ Some e.1) (ap (λ p. p.by) same) at; role = r; states = ap (λ p. p.item) same }
      by_role e at (Role.Imported n) r h = absurd (none-some _ h)
      by_role e at Role.Instance r h = absurd (none-some _ h)
      by_role e at Role.Aliased r h = absurd (none-some _ h)

  -- each definition that is held is one of a node
  pub nodes_of_definitions : (xs : List Definition) → map (placed_in g.types) xs ≡ (composition_of g).definitions → (x : Definition) → Among x xs → IsNodeOf g x
  nodes_of_definitions xs are x m = node_of x (subst (λ l. Among (placed_in g.types x) l) are (among_mapped (placed_in g.types) xs x m))

  module _ (sound : IsGraph g) (w : Worlds) where
    -- what has a type entry of its own, with the type as it is written, stands for its node
    pub known_stands : (i : Inside) (x : Definition) → IsNodeOf g x → (index : ℕ) (t : Tree) → slice_get i.here.types index ≡ Some (Known t) → typing.item_of t ≡ written_tree g (ItemKind.Ty x.ty)
        → StandsAt g w (at_root i []) [] x.node (record { sort = sort.Ty; index = index })
    known_stands i x n index t at is =
        let d = (sound.nodes x.node n.node n.there).defined n.role in
        record {
          node = n.node;
          there = n.there;
          sort = ap sort_of d.is;
          source = DefinitionOf (written_tree g n.node.item_kind);
          denotes = defined n.node n.there n.role;
          written = tt;
          meaning = Known t;
          at = at;
          means = ap (λ u. Some (DefinitionOf u)) (is ∙ sym (ap (λ s. tree (written_definition s)) n.states));
          gives = λ one. let never : is_instance (ItemKind.Ty d.type) ≡ true = sym (ap is_instance d.is) ∙ one in absurd (cc never);
        }

    -- what stood stands
    pub stands_extended : (i j : Inside) (order : List ℕ) (k : ℕ) (p : SortIndex) → Extends i.here j.here → StandsAt g w (at_root i []) order k p → StandsAt g w (at_root j []) order k p
    stands_extended i j order k p more s = record {
      node = s.node;
      there = s.there;
      sort = s.sort;
      source = s.source;
      denotes = s.denotes;
      written = s.written;
      meaning = s.meaning;
      at = more.indexes p.sort p.index s.meaning s.at;
      means = s.means;
      gives = s.gives;
    }

-- ---- a definition that is written

-- what is described as a type entry is its type
entry_read : (w : Worlds) (here : Scope) (n : Name) (d : Description) (k : ℕ) (u t : Tree) → d ≡ desc.Equal k → slice_get here.types k ≡ Some (Known u) → typing.described w (here ∷ []) n d ≡ Some (description_sort d, t) → typing.item_of u ≡ t
entry_read w here n d k u t is at reads =
    let equal : typing.described w (here ∷ []) n (desc.Equal k) ≡ Some (sort.Ty, t) = subst (λ (x : Description). typing.described w (here ∷ []) n x ≡ Some (description_sort x, t)) is reads in
    let found : typing.described w (here ∷ []) n (desc.Equal k) ≡ Some (sort.Ty, typing.item_of u) =
    ap (λ (o : Option Meaning). (o >>= typing.type_tree w) >>= λ v. Some (sort.Ty, typing.item_of v)) at in
    ap (λ (p : Sort × Tree). p.1) (same_Some _ _ (sym found ∙ equal))

no_resource_kind : (t r : TypeKind) → (IsResource t → ⊥) → item_kind (ItemKind.Ty t) ≡ item_kind (ItemKind.Ty r) → IsNoResource r
no_resource_kind t (TypeKind.Func f) n e = tt
no_resource_kind t (TypeKind.Value v) n e = tt
no_resource_kind t (TypeKind.Interface i) n e = tt
no_resource_kind t (TypeKind.World w) n e = tt
no_resource_kind t (TypeKind.Module m) n e = tt
no_resource_kind (TypeKind.Resource x) (TypeKind.Resource r) n e = n (x, refl)
no_resource_kind (TypeKind.Func f) (TypeKind.Resource r) n e = absurd (cc e)
no_resource_kind (TypeKind.Value v) (TypeKind.Resource r) n e = absurd (cc e)
no_resource_kind (TypeKind.Interface i) (TypeKind.Resource r) n e = absurd (cc e)
no_resource_kind (TypeKind.World w) (TypeKind.Resource r) n e = absurd (cc e)
no_resource_kind (TypeKind.Module m) (TypeKind.Resource r) n e = absurd (cc e)

pub if_ok_both : {T E : Type 0} {P Q R : T → Type 0} (r : Result T E) → IfOk r P → IfOk r Q → ((x : T) → P x → Q x → R x) → IfOk r R
if_ok_both (Ok x) p q f = f x p q
if_ok_both (Err e) p q f = tt

goes_trans : (i j k : Inside) → GoesOn i j → GoesOn j k → GoesOn i k
goes_trans i j k a b = record { extends = Extends-trans i.here j.here k.here a.extends b.extends; imports = b.imports ∙ a.imports; exports = b.exports ∙ a.exports }

module _ (g : Graph) (sound : IsGraph g) (finite_types : IsAcyclic g.types) (c : Collection) (acyclic : IsAcyclic c) (w : Worlds) (world : WorldId) (i : Inside) (imported : List Name) (x : Definition) (to : IsToWrite g c x) where
  -- the form of an interface or a world is an entry
  pub copy_entry : (item : ItemKind) → x.copy ≡ Some item → HasEntry item
  copy_entry item is =
      let form : HasForm g.types c x.ty (Some item) = subst (HasForm g.types c x.ty) is to.form in
      form_entry g.types c finite_types acyclic x.ty form.2 form.0 item form.1.stands form.1.states

  -- the graph's own types are entries
  pub own_entry : x.copy ≡ None → IsNoResource x.ty
  own_entry is =
      let form : HasForm g.types c x.ty None = subst (HasForm g.types c x.ty) is to.form in
      let n = to.node in
      let d = (sound.nodes x.node n.node n.there).defined n.role in
      let stands : Stands g.types (ItemKind.Ty d.type) = subst (Stands g.types) d.is ((sound.nodes x.node n.node n.there).item) in
      no_resource_kind d.type x.ty d.no_resource
      (sym (kind_stated g.types finite_types (ItemKind.Ty d.type) stands) ∙ ap (λ k. kind_of (stated_of g.types k)) (sym d.is) ∙ ap kind_of n.states ∙ kind_stated g.types finite_types (ItemKind.Ty x.ty) form.1)

  pub copy_defines : (item : ItemKind) → x.copy ≡ Some item → (old new : ImportScope) (known : KnownTypes) (h : WritesOn w c [] world i old imported []) → AreKnown w (h.goes.writing.inside.here ∷ []) g.types known
      → (n : Name) (d : Description) → DescribesIn w c [] world h.goes.writing.inside n item new imported [] d → IsEntryOf w [] new.scope.types.declarations.items d → DefinesIn g w c world i imported x new known d
  unfolding tree_in
  copy_defines item is old new known h knows n d described own =
      let form : HasForm g.types c x.ty (Some item) = subst (HasForm g.types c x.ty) is to.form in
      let inside = described.goes.writing.inside in
      let there = own.2 inside described.goes.writing.stands.written.reads in
      record {
        goes = described.goes;
        on = goes_trans i h.goes.writing.inside inside h.on described.on;
        knows = all_known_kept w g.types h.goes.writing.inside.here inside.here [] known described.on.extends knows;
        entry = (own.0, own.1, there.0, there.1, entry_read w inside.here n d own.0 there.0 (tree_in c item) own.1 there.1 described.reads ∙ ap tree form.1.states);
      }

  pub own_defines : x.copy ≡ None → (new : ImportScope) (known : KnownTypes) (d : Description) → DescribesApart w c g.types [] world i (ItemKind.Ty x.ty) new known imported [] d → IsEntryOf w [] new.scope.types.declarations.items d → DefinesIn g w c world i imported x new known d
  unfolding tree_in
  own_defines is new known d described own =
      let form : HasForm g.types c x.ty None = subst (HasForm g.types c x.ty) is to.form in
      let inside = described.goes.writing.inside in
      let there = own.2 inside described.goes.writing.stands.written.reads in
      record {
        goes = described.goes;
        on = described.on;
        knows = described.known;
        entry = (
          own.0,
          own.1,
          there.0,
          there.1,
          entry_read w inside.here [] d own.0 there.0 (tree_in g.types (ItemKind.Ty x.ty)) own.1 there.1 (described.reads [])
              ∙ ap tree (sym (own_form g.types finite_types x.ty form.1 form.0)),
        );
      }

-- ---- and the nodes stand

-- what is exported early still is
pub early_extended : (g : Graph) (sound : IsGraph g) (w : Worlds) (i j : Inside) (es : List (ℕ × Early)) → Extends i.here j.here → AreEarly g w i es → AreEarly g w j es
early_extended g sound w i j es more h k e at = let a = h k e at in record { stands = stands_extended g sound w i j [] e.node (type_place k) more a.stands; export = a.export }

module _ (g : Graph) (sound : IsGraph g) (w : Worlds) (c : Collection) (world : WorldId) (i : Inside) (imported : List Name) (x : Definition) (of : IsNodeOf g x) where
  -- the scope goes on
  module _ (old new : ImportScope) (known known_then : KnownTypes) (nodes : List (ℕ × SortIndex)) (early : List (ℕ × Early)) (holds : HoldsDefinitions g w c world i imported old known nodes early)
      (goes : WritesWorld w c [] world new imported []) (on : GoesOn holds.written.goes.writing.inside goes.writing.inside) (knows : AreKnown w (goes.writing.inside.here ∷ []) g.types known_then) where
    pub held_on : HoldsDefinitions g w c world i imported new known_then nodes early
    held_on =
        let from = holds.written.goes.writing.inside in
        let to = goes.writing.inside in
        record {
          written = record { goes = goes; on = goes_trans i from to holds.written.on on };
          knows = knows;
          stand = λ k p m. stands_extended g sound w from to [] k p on.extends (holds.stand k p m);
          exported = early_extended g sound w from to early on.extends holds.exported;
        }

  -- its type stands at the index
  pub defined_entry : (old new : ImportScope) (before after : Defined) → (holds : HoldsDefinitions g w c world i imported old before.known before.nodes.entries before.early.entries) (d : Description)
      → DefinesIn g w c world holds.written.goes.writing.inside imported x new after.known d → after.nodes ≡ before.nodes → after.early ≡ before.early → (k : ℕ) → d ≡ desc.Equal k → HoldsEntry g w c world i imported x new after after.nodes.entries k
  unfolding held_on
  defined_entry old new before after holds d defines nodes early k is =
      let at : defines.entry.0 ≡ k = cc (sym defines.entry.1 ∙ is) in
      let first = held_on old new before.known after.known before.nodes.entries before.early.entries holds defines.goes defines.on defines.knows in
      record {
        holds = record {
          written = first.written;
          knows = first.knows;
          stand = λ j p m. first.stand j p (subst (λ (ns : List (ℕ × SortIndex)). Among (j, p) ns) (ap (λ ns. ns.entries) nodes) m);
          exported = λ j e at. first.exported j e (ap (λ (m : IndexMap ℕ Early _). lookup (nat_eq j) m.entries) (sym early) ∙ at);
        };
        entry = (k, refl, defines.entry.2, ap (slice_get defines.goes.writing.inside.here.types) (sym at) ∙ defines.entry.3, defines.entry.4);
        same = refl;
      }

  -- it stands for its node
  pub entry_noted : (s : ImportScope) (d : Defined) (nodes : List (ℕ × SortIndex)) (k : ℕ) → HoldsEntry g w c world i imported x s d nodes k → HoldsDefinitions g w c world i imported s d.known (insert_entry node_id.eq-value.it nodes x.node (record { sort = sort.Ty; index = k })) d.early.entries
  entry_noted s d nodes k h =
      let holds = h.holds in
      let inside = holds.written.goes.writing.inside in
      let at : h.entry.0 ≡ k = cc (sym h.entry.1) in
      record {
        written = holds.written;
        knows = holds.knows;
        stand = λ j p m. elim (inserted_among node_id.eq-value.it same_node nodes x.node (record { sort = sort.Ty; index = k }) (j, p) m) [
          | inl old ↦ holds.stand j p old
          | inr new ↦
              subst (λ (e : ℕ × SortIndex). StandsAt g w (at_root inside []) [] e.0 e.1) (sym new)
              (known_stands g sound w inside x of k h.entry.2 (ap (slice_get inside.here.types) (sym at) ∙ h.entry.3) h.entry.4)
        ];
        exported = holds.exported;
      }

  -- it is exported, and stands by another index
  module _ (old : ImportScope) (scope : ItemScope) (before known after : Defined) (k own : ℕ) (h : HoldsEntry g w c world i imported x old before before.nodes.entries k)
      (gives : GivesMeaning w c [] h.holds.written.goes.writing.inside (Known h.entry.2) scope own) (export : value_at g.exports x.name ≡ Some x.node)
      (puts : (ss : List Scope) (u : Tree) → AreKnown w ss g.types before.known → typing.type_at w ss own ≡ Some u → typing.item_of u ≡ written_tree g (ItemKind.Ty x.ty) → AreKnown w ss g.types known.known)
      (nodes : known.nodes ≡ before.nodes) (early : known.early ≡ before.early) (notes : NotesEarly x k known after) where
    abbrev new : ImportScope
    new = record old { scope = scope }

    from : Inside
    from = h.holds.written.goes.writing.inside

    goes : WritesWorld w c [] world new imported []
    goes = world_goes w c [] world imported [] old scope h.holds.written.goes gives.after gives.goes

    knows : AreKnown w (gives.after.here ∷ []) g.types known.known
    unfolding from
    knows =
        puts (gives.after.here ∷ []) h.entry.2 (all_known_kept w g.types from.here gives.after.here [] before.known gives.goes.extends h.holds.knows)
        (ap (λ (o : Option Meaning). o >>= typing.type_tree w) gives.index) h.entry.4

    early_same : (j : ℕ) (e : Early) → lookup (nat_eq j) known.early.entries ≡ Some e → lookup (nat_eq j) before.early.entries ≡ Some e
    early_same j e at = ap (λ (m : IndexMap ℕ Early _). lookup (nat_eq j) m.entries) (sym early) ∙ at

    pub entry_exported : HoldsEntry g w c world i imported x new after before.nodes.entries own
    unfolding from goes knows writes_on world_goes held_on
    entry_exported =
        let to = gives.after in
        let on : GoesOn from to = record { extends = gives.goes.extends; imports = gives.goes.imports; exports = gives.goes.exports } in
        let first = held_on old new before.known known.known before.nodes.entries before.early.entries h.holds goes on knows in
        let k_is : h.entry.0 ≡ k = cc (sym h.entry.1) in
        let k_at : slice_get to.here.types k ≡ Some (Known h.entry.2) = gives.goes.extends.indexes sort.Ty k (Known h.entry.2) (ap (slice_get from.here.types) (sym k_is) ∙ h.entry.3) in
        record {
          holds = record {
            written = first.written;
            knows = subst (λ (ks : KnownTypes). AreKnown w (to.here ∷ []) g.types ks) (sym notes.known) knows;
            stand = first.stand;
            exported = λ j e at. one to k_at first.exported j e (nat_eq k j) refl (sym (notes.early j) ∙ at);
          };
          entry = (own, refl, h.entry.2, gives.index, h.entry.4);
          same = ap (λ ns. ns.entries) (notes.nodes ∙ nodes);
        }
      where
        one : (to : Inside) → slice_get to.here.types k ≡ Some (Known h.entry.2) → AreEarly g w to before.early.entries → (j : ℕ) (e : Early) (b : Bool) → nat_eq k j ≡ b
            → (if b then Some (record { name = x.name; node = x.node }) else lookup (nat_eq j) known.early.entries) ≡ Some e → IsEarlyAt g w to j e
        one to at held j e true q is =
            let same : record { name = x.name; node = x.node } ≡ e = same_Some _ _ is in
            let number : k ≡ j = grind (arith, nat_tests, q) in
            subst (IsEarlyAt g w to j) same
            (subst (λ (n : ℕ). IsEarlyAt g w to n (record { name = x.name; node = x.node })) number (record { stands = known_stands g sound w to x of k h.entry.2 at h.entry.4; export = export }))
        one to at held j e false q is = held j e (early_same j e is)

-- at first nothing stands
pub none_held : (g : Graph) (w : Worlds) (c : Collection) (world : WorldId) (i : Inside) (imported : List Name) (s : ImportScope) (known : KnownTypes) (nodes : List (ℕ × SortIndex)) (early : List (ℕ × Early)) (h : WritesOn w c [] world i s imported [])
    → AreKnown w (h.goes.writing.inside.here ∷ []) g.types known → nodes ≡ [] → early ≡ [] → HoldsDefinitions g w c world i imported s known nodes early
none_held g w c world i imported s known nodes early h knows none unsaid = record {
  written = h;
  knows = knows;
  stand = λ k p m. absurd (subst (λ (es : List (ℕ × SortIndex)). Among (k, p) es) none m);
  exported = λ k e at. absurd (none-some e (ap (λ (es : List (ℕ × Early)). lookup (nat_eq k) es) (sym unsaid) ∙ at));
}

pub one_to_write : (g : Graph) (c : Collection) (xs : List Definition) (x : Definition) → Among x xs → AreToWrite g c xs → AreToWrite g c (x ∷ [])
one_to_write g c xs x m to y (inl same) = subst (IsToWrite g c) (sym same) (to x m)
one_to_write g c xs x m to y (inr n) = absurd n
