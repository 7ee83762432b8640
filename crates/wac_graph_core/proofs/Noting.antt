-- What is known of nodes as they come and go.
use Rattle.std.proofs.Common.{◌≡◌, ◌≢◌, ◌+◌, ◌<◌, ◌≤◌, ◌++◌, ◌∷◌, [], take, length, get_or, set, true, IfNone, IsSome, ℕ, List, Option, Some, None, false, refl, sym, ap, subst, ◌∙◌, inl, inr}
use Rattle.std.specs.Prelude.{Result, Ok, Err, option_map, slice_get, is_some}
use Rattle.std.specs.Result.{OnOk, is_ok}
use Rattle.std.specs.List.{swap_remove}
use Rattle.std.proofs.lemmas.Bool.{cases_eq}
use Rattle.std.proofs.lemmas.List.{take_more, take_all}
use Rattle.std.proofs.lemmas.Option.{slice_get-get_or}
use Rattle.std.specs.FinMap as map
use Rattle.wac_types_base.specs.declared.item.ItemKind.{ItemKind}
use Rattle.wac_types_base.specs.declared.item.«Type».{«Type» as TypeKind}
use Rattle.wac_types_base.specs.declared.ids.DefinedTypeId.{DefinedTypeId}
use Rattle.wac_types_base.specs.Graph.{Among}
use Rattle.wac_types_base.specs.Visiting.{defined_in}
use Rattle.wac_types_base.proofs.GraphLemmas.{value_of}
use Rattle.wac_types_base.proofs.Looked.{among-get}
use Rattle.wac_types_fit.proofs.Items.{Among-last}
use Rattle.wac_types_base.specs.Entries.{Name, AreDistinct, names_of, value_at}
use Rattle.wac_types_base.proofs.Lists.{last_among}
use Rattle.wac_graph_core.specs.declared.noted.Noted.{Noted}
use Rattle.wac_graph_core.specs.Nodes.{NodeData, Role}
use Rattle.wac_graph_core.specs.NodeMaps.{NodeMap, NoImport, IsDefinition, NoDefinition, AreThose}
use Rattle.wac_graph_core.specs.Slots.{nodes_in}
use Rattle.wac_graph_core.specs.Edges.{has}
use Rattle.wac_graph_core.specs.Defining.{DefinesMarked}
use Rattle.wac_graph_core.specs.TypeMaps.{node_of, Maps}
use Rattle.wac_graph_core.specs.Noted.{Notes, HasNotes, ForgetsImport, ForgetsType, NotesImport, NotesType, IsNodeNoted, IsNodeForgotten, TellsDefinition, DefinesOwn, AddsDefinition}
use Rattle.wac_graph_core.proofs.GraphSteps.{no_node}
use Rattle.wac_graph_core.proofs.NodeMap.{nodes_changed, get-remove_same, get-remove_other}
use Rattle.wac_graph_core.proofs.NodeSteps.{new_at}
use Rattle.wac_graph_core.proofs.Found.{Among-front}
use Rattle.wac_graph_core.proofs.ExportSteps.{among_name, not_among, one_named, swap_kept}
use Rattle.wac_graph_core.proofs.TypeSets.{type_cases}
use Rattle.wac_graph_core.proofs.Walks.{has-push, has-kept, has_pushed}
use Rattle.wac_graph_core.proofs.Gathering.{none_in}
use Rattle.wac_graph_core.proofs.Reached.{own_type}

-- ---- one node is noted

-- an import of a name under which none is noted
pub import_noted : (old new : List (Name × ℕ)) (n : Name) (x : NodeData) (id : ℕ) → new ≡ old ++ (n, id) ∷ [] → x.role ≡ Role.Imported n → NotesImport old x id new
import_noted old new n x id is role = record {
  kept = λ e m. subst (Among e) (sym is) (Among-front old (n, id) e m);
  added = λ m own.
      let name : n ≡ m = cc (own, role) in
      subst (Among (m, id)) (sym is) (subst (λ l. Among (m, id) (old ++ (l, id) ∷ [])) (sym name) (last_among old (m, id)));
}

pub no_import_noted : (ns : List (Name × ℕ)) (x : NodeData) (id : ℕ) → ((n : Name) → x.role ≡ Role.Imported n → ⊥) → NotesImport ns x id ns
no_import_noted ns x id other = record { kept = λ e m. m; added = λ n own. absurd (other n own) }

-- a definition of a type of which none is noted
pub type_noted : (old new : List (TypeKind × ℕ)) (t : TypeKind) (x : NodeData) (id : ℕ) → node_of old t ≡ None → Maps old t (Some id) new → x.item_kind ≡ ItemKind.Ty t → NotesType old x id new
type_noted old new t x id none put item = record {
  kept = λ u k at. elim (type_cases u t) [
    | inl same ↦ absurd (cc (at, ap (node_of old) same, none))
    | inr other ↦ put.others u other ∙ at
  ];
  added = λ u role own. let same : u ≡ t = cc (own, item) in ap (node_of new) same ∙ put.own;
}

pub no_type_noted : (ts : List (TypeKind × ℕ)) (x : NodeData) (id : ℕ) → ((t : TypeKind) → x.role ≡ Role.Defined → x.item_kind ≡ ItemKind.Ty t → ⊥) → NotesType ts x id ts
no_type_noted ts x id other = record { kept = λ t k at. at; added = λ t role own. absurd (other t role own) }

-- what stands on success does
pub succeeded : {X E : Type 0} (r : Result X E) (P : Type 0) → OnOk r P → is_ok r ≡ true → P
succeeded (Ok x) P h e = h
succeeded (Err x) P h e = absurd (cc e)

pub both_noted : (old new : Noted) (x : NodeData) (id : ℕ) → NotesImport old.imports.items x id new.imports.items → NotesType old.types x id new.types → IsNodeNoted (Some old) x id (Some new)
both_noted old new x id names types = λ nodes known. record {
  imports = λ j n is. elim (new_at nodes id x j is.node is.there) [
    | inl own ↦ subst (λ i. Among (n, i) new.imports.items) (sym own.0) (names.added n (ap (λ (y : NodeData). y.role) own.1 ∙ is.role))
    | inr other ↦ names.kept (n, j) (known.imports j n (record { node = is.node; there = other.1; role = is.role }))
  ];
  types = λ j t is. elim (new_at nodes id x j is.node is.there) [
    | inl own ↦ types.added t (ap (λ (y : NodeData). y.role) own.1 ∙ is.role) (ap (λ (y : NodeData). y.item_kind) own.1 ∙ is.type) ∙ ap Some (sym own.0)
    | inr other ↦ types.kept t j (known.types j t (record { node = is.node; there = other.1; role = is.role; type = is.type }))
  ];
}

-- ---- nodes

pub none_known : (o : Option Noted) (nodes : NodeMap) → nodes ≡ map.empty → HasNotes o nodes
none_known None nodes none = tt
none_known (Some s) nodes none = record {
  imports = λ k n is. absurd (no_node k is.node (subst (λ m. map.get m k ≡ Some is.node) none is.there));
  types = λ k t is. absurd (no_node k is.node (subst (λ m. map.get m k ≡ Some is.node) none is.there));
}

-- each node was one with the same role and item before
abbrev pub IsKept : NodeMap → NodeMap → Type 0
IsKept old new = (k : ℕ) (x : NodeData) → map.get new k ≡ Some x → (y : NodeData) × (map.get old k ≡ Some y) × (y.role ≡ x.role) × (y.item_kind ≡ x.item_kind)

pub known_kept : (o : Option Noted) (old new : NodeMap) → IsKept old new → HasNotes o old → HasNotes o new
known_kept None old new kept known = tt
known_kept (Some s) old new kept known = record {
  imports = λ k n is. let y = kept k is.node is.there in known.imports k n (record { node = y.0; there = y.1; role = y.2 ∙ is.role });
  types = λ k t is. let y = kept k is.node is.there in known.types k t (record { node = y.0; there = y.1; role = y.2 ∙ is.role; type = y.3 ∙ is.type });
}

stays : (old : NodeMap) (k j : ℕ) (x : NodeData) → map.get (map.remove old k) j ≡ Some x → (j ≢ k) × (map.get old j ≡ Some x)
stays old k j x at = elim (cases_eq j k) [
  | inl e ↦ absurd (cc (ap (map.get (map.remove old k)) e ∙ get-remove_same old k, at))
  | inr ne ↦ (ne, sym (get-remove_other old k j ne) ∙ at)
]

pub kept_removed : (old : NodeMap) (k : ℕ) → IsKept old (map.remove old k)
kept_removed old k j x at = (x, (stays old k j x at).1, refl, refl)

-- a node is away
pub forgotten : (old new : Noted) (x : NodeData) → ForgetsImport old.imports.items x new.imports.items → ForgetsType old.types x new.types → IsNodeForgotten (Some old) x (Some new)
forgotten old new x names types nodes k at known = record {
  imports = λ j n is.
      let s = stays nodes k j is.node is.there in
      let before = known.imports j n (record { node = is.node; there = s.1; role = is.role }) in
      names.kept n j (λ own. s.0 (one_named old.imports.items n j k names.distinct before (known.imports k n (record { node = x; there = at; role = own })))) before;
  types = λ j t is.
      let s = stays nodes k j is.node is.there in
      let before = known.types j t (record { node = is.node; there = s.1; role = is.role; type = is.type }) in
      types t j (λ role item. s.0 (cc (before, known.types k t (record { node = x; there = at; role = role; type = item })))) before;
}

pub import_forgotten : (old new : List (Name × ℕ)) (x : NodeData) (n : Name) (e : Name × ℕ) (i : ℕ) → AreDistinct (names_of old) → x.role ≡ Role.Imported n → e.0 ≡ n → slice_get old i ≡ Some e → new ≡ swap_remove old i e → ForgetsImport old x new
import_forgotten old new x n e i distinct role name at is = record {
  distinct = distinct;
  kept = λ m k other there. subst (Among (m, k)) (sym is) (swap_kept old i e (m, k) at (λ same. other (role ∙ ap Role.Imported (sym name ∙ ap (λ (p : Name × ℕ). p.0) (sym same)))) there);
}

pub no_import_forgotten : (ns : List (Name × ℕ)) (x : NodeData) → AreDistinct (names_of ns) → ForgetsImport ns x ns
no_import_forgotten ns x distinct = record { distinct = distinct; kept = λ n k other there. there }

pub type_forgotten : (old new : List (TypeKind × ℕ)) (t : TypeKind) (x : NodeData) → Maps old t None new → x.role ≡ Role.Defined → x.item_kind ≡ ItemKind.Ty t → ForgetsType old x new
type_forgotten old new t x gone role item u k other at = elim (type_cases u t) [
  | inl same ↦ absurd (other role (item ∙ ap ItemKind.Ty (sym same)))
  | inr ne ↦ gone.others u ne ∙ at
]

pub kept_set : (old : NodeMap) (k : ℕ) (y n : NodeData) → map.get old k ≡ Some y → y.role ≡ n.role → y.item_kind ≡ n.item_kind → IsKept old (map.insert old k n)
kept_set old k y n at role item j x is = elim (new_at old k n j x is) [
  | inl own ↦ (y, ap (map.get old) own.0 ∙ at, role ∙ ap (λ (z : NodeData). z.role) own.1, item ∙ ap (λ (z : NodeData). z.item_kind) own.1)
  | inr other ↦ (x, other.1, refl, refl)
]

-- a node is changed in its place, but not what it is
pub known_changed : (o : Option Noted) (slots : List (Option NodeData)) (nodes : NodeMap) (i k : ℕ) (old new : Option NodeData) (F : NodeData → NodeData) → ((x : NodeData) → x.role ≡ (F x).role) → ((x : NodeData) → x.item_kind ≡ (F x).item_kind)
    → nodes_in slots ≡ nodes → i ≡ k → IsSome (map.get nodes k) → old ≡ get_or slots i old → new ≡ option_map F old → HasNotes o (nodes_in slots) → HasNotes o (nodes_in (set slots i new))
known_changed o slots nodes i k old new F role item sees index there read is known =
    let x = value_of (map.get nodes k) there in
    subst (HasNotes o) (sym (nodes_changed slots nodes i k sees index there old new F read is x.0 x.1))
    (known_kept o nodes (map.insert nodes k (F x.0)) (kept_set nodes k x.0 (F x.0) x.1 (role x.0) (item x.0)) (subst (HasNotes o) sees known))

-- ---- what is noted

pub lacks_value : (o : Option ℕ) → is_some o ≡ false → o ≡ None
lacks_value None e = refl
lacks_value (Some k) e = absurd (cc e)

pub import_away : (s : Noted) (nodes : NodeMap) → Notes s nodes → (n : Name) → value_at s.imports.items n ≡ None → NoImport nodes n
import_away s nodes known n away k is = not_among s.imports.items n away (among_name s.imports.items n k (known.imports k n is))

module _ (nodes : NodeMap) (t : TypeKind) where
  -- where no definition is told there is none
  pub told_none : (o : Option ℕ) → TellsDefinition nodes t o → IfNone o (NoDefinition nodes (ItemKind.Ty t))
  told_none None told = λ k is. absurd (cc (told k is))
  told_none (Some j) told = tt

  -- the definition is added that the look-up told
  module _ (old new : List ℕ) where
    pub one_added : (id : ℕ) (d : DefinedTypeId) → defined_in (ItemKind.Ty t) ≡ Some d → IsDefinition nodes id (ItemKind.Ty t) → TellsDefinition nodes t (Some id) → new ≡ old ++ id ∷ [] → AddsDefinition nodes t old new
    one_added id d own is told pushed = record {
      kept = λ k h. ap (λ l. has l k) pushed ∙ has-kept old id k h;
      added = λ k o. let same : k ≡ id = cc (told k o.definition) in ap (λ l. has l k) pushed ∙ ap (has (old ++ id ∷ [])) same ∙ has_pushed old id;
      only = λ k h. elim (has-push old id k (ap (λ l. has l k) (sym pushed) ∙ h)) [
        | inl before ↦ inl before
        | inr same ↦ inr (subst (DefinesOwn nodes t) same (record { definition = is; id = d; is = own }))
      ];
    }

    pub none_added : (o : Option ℕ) → ((k : ℕ) → o ≡ Some k → ⊥) → TellsDefinition nodes t o → new ≡ old → AddsDefinition nodes t old new
    none_added o none told same = record {
      kept = λ k h. ap (λ l. has l k) same ∙ h;
      added = λ k own. absurd (none k (told k own.definition));
      only = λ k h. inl (ap (λ l. has l k) (sym same) ∙ h);
    }

-- what is at the place of a definition
pub definition_at : (nodes : NodeMap) (t : TypeKind) (k : ℕ) (x : NodeData) → Some x ≡ map.get nodes k → IsDefinition nodes k (ItemKind.Ty t) → (x.role ≡ Role.Defined) × (x.item_kind ≡ ItemKind.Ty t)
definition_at nodes t k x at is =
    let both : Some x ≡ Some is.node = at ∙ is.there in
    let same : x ≡ is.node = cc both in
    (ap (λ (y : NodeData). y.role) same ∙ is.role, ap (λ (y : NodeData). y.item_kind) same ∙ is.type)

-- ---- marked types, looked up one after another

module _ (nodes : NodeMap) (marks : List TypeKind) where
  pub record FoundMarked (seen : List TypeKind) (found : List ℕ) : Type 0 where
    pub sound : (k : ℕ) → has found k ≡ true → (x : NodeData) × (map.get nodes k ≡ Some x) × DefinesMarked marks x
    pub complete : (t : TypeKind) (k : ℕ) → Among t seen → DefinesOwn nodes t k → has found k ≡ true

  pub found_none : (found : List ℕ) → found ≡ [] → FoundMarked [] found
  found_none found none = record { sound = λ k h. absurd (none_in found k none h); complete = λ t k m own. absurd m }

  pub found_next : (i : ℕ) (d : TypeKind) (old new : List ℕ) → i < length marks → AddsDefinition nodes (get_or marks i d) old new → FoundMarked (take i marks) old → FoundMarked (take (i + 1) marks) new
  found_next i d old new within adds f = record {
    sound = λ k h. elim (adds.only k h) [
      | inl before ↦ f.sound k before
      | inr own ↦ (
        own.definition.node,
        own.definition.there,
        record {
          source = get_or marks i d;
          id = own.id;
          role = own.definition.role;
          type = own.definition.type;
          is = own.is;
          marked = subst (λ u. Among u marks) (own_type (get_or marks i d) own.id own.is) (among-get marks i (get_or marks i d) (slice_get-get_or marks i d within));
        },
      )
    ];
    complete = λ u k m own. elim (Among-last (take i marks) (get_or marks i d) u (subst (Among u) (take_more marks i d within) m)) [
      | inl before ↦ adds.kept k (f.complete u k before own)
      | inr same ↦ adds.added k (subst (λ v. DefinesOwn nodes v k) same own)
    ];
  }

  pub found_all : (i : ℕ) (found : List ℕ) → length marks ≤ i → FoundMarked (take i marks) found → AreThose nodes (DefinesMarked marks) found
  found_all i found past f k = (
    f.sound k,
    λ r.
        let there : Among r.2.source marks = subst (λ u. Among u marks) (sym (own_type r.2.source r.2.id r.2.is)) r.2.marked in
        f.complete r.2.source k (subst (Among r.2.source) (sym (take_all i marks past)) there)
        (record { definition = record { node = r.0; there = r.1; role = r.2.role; type = r.2.type }; id = r.2.id; is = r.2.is }),
  )
