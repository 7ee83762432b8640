-- The types of nodes at last.
use Rattle.std.proofs.Common.{◌≡◌, ◌<◌, arith, ℕ, zero, suc, true, true≢false, List, length, Option, Some, None, is_some, slice_get, inl, inr, refl, sym, ap, subst, ◌∙◌}
use Rattle.std.specs.Map.{lookup}
use Rattle.std.proofs.lemmas.Option.{none-some, same_Some}
use Rattle.std.specs.Prelude.{Result, Ok, Err, IfOk, option_and_then, option_map, unwrap_or}
use Rattle.wac_types_base.specs.declared.item.ItemKind.{ItemKind}
use Rattle.wac_types_base.specs.declared.item.«Type».{«Type» as TypeKind}
use Rattle.wac_types_base.specs.declared.ids.InterfaceId.{InterfaceId}
use Rattle.wac_types_base.specs.Record.{Collection}
use Rattle.wac_types_base.specs.Entries.{Name, names_of, value_at}
use Rattle.wac_types_base.specs.Graph.{Among}
use Rattle.wac_types_base.specs.Collection.{Grows, IsAcyclic, Stands}
use Rattle.wac_types_base.specs.Copying.{IsCopy}
use Rattle.wac_types_base.specs.Stated.{IsInstance, Stated, exports_of, kind_of, stated_in, stated_of}
use Rattle.wac_types_base.specs.Tree.{tree}
use Rattle.wac_types_base.specs.Fits.{Fits}
use Rattle.wac_types_base.proofs.GraphLemmas.{value_of}
use Rattle.wac_types_base.proofs.Telling.{item_kind, kind_stated}
use Rattle.wac_types_base.proofs.Standing.{interface_found}
use Rattle.wac_types_base.proofs.Stating.{instance_exports_stated, stated_kept, value_with}
use Rattle.wac_types_fit.specs.Trees.{tree_in}
use Rattle.wac_types_fit.proofs.ItemKinds.{fits_kind, kind_is}
use Rattle.wac_types_fit.proofs.Ordering.{tree_in_order}
use Rattle.wac_types_written.specs.Forms.{IsOf}
use Rattle.wac_types_written.specs.Written.{written_definition}
use Rattle.wac_graph_core.specs.Edges.{HasAlias, alias_edge}
use Rattle.wac_graph_core.specs.contracts.ids.NodeIdPartialEq.TheImpl as node
use Rattle.wac_graph_core.specs.Nodes.{NodeData, Role, imported_as}
use Rattle.wac_graph_core.specs.Graph.{GivesExport, Graph, IsGraph, is_instance, node_at}
use Rattle.wac_types_parts.specs.Parts.{exports_of as exports_in, imports_of}
use Rattle.wac_types_parts.proofs.PartLaws.{exports_there}
use Rattle.wac_graph_scopes.proofs.WritingLaws.{value_here}
use Rattle.wac_composition.specs.Classes.{is_instance_kind as one_of}
use Rattle.wac_composition.specs.Composition.{Origin, imported, instance, projected, defined}
use Rattle.wac_composition.specs.Asks.{asks_of}
use Rattle.wac_composition.specs.Worlds.{final_type, then_in}
use Rattle.wac_graph_asks.specs.declared.asks.Definition.{Definition}
use Rattle.wac_graph_asks.specs.declared.outers.Outers.{Outers}
use Rattle.wac_graph_asks.specs.Graphs.{composition_of, item_at, item_of, origin_at, origin_by, origin_of, origin_within}
use Rattle.wac_graph_asks.specs.Outers.{IsOuters}
use Rattle.wac_graph_asks.specs.Reads.{import_name_of}
use Rattle.wac_graph_asks.proofs.Lasting.{outers_stay}
use Rattle.wac_graph_asks.proofs.Origins.{origin_alias, origin_role}
use Rattle.wac_graph_encode.specs.declared.world.Finals.{Finals}
use Rattle.wac_graph_encode.specs.Formed.{HasForm}
use Rattle.wac_graph_encode.specs.Standing.{spelled}
use Rattle.wac_graph_encode.specs.Worlds.{AreDefinitionTypes, HasOwnType, IsFinal, IsToHandOut, KnowsFinals, TellsCopied, TellsExported, TellsFinal, exported_at, final_at, outer_type}
use Rattle.wac_graph_encode.proofs.Entries.{found_among, none_among, same_node}
use Rattle.wac_graph_encode.proofs.FormKinds.{own_form}
use Rattle.wac_graph_encode.proofs.ItemSorts.{import_there}
use Rattle.wac_graph_encode.proofs.RootedOuters.{asked_there, ask_at, import_fits}
use Rattle.wac_graph_encode.proofs.StandingTrees.{exports_fit}
use Rattle.wac_graph_encode.proofs.WritingSteps.{imported_role}

-- ---- how far a node is from where it comes

pub steps : Origin ℕ → ℕ
steps (imported n) = zero
steps (instance k) = zero
steps (projected o n) = suc (steps o)
steps (defined n x) = zero

-- ---- what fits an instance is one

is_one : (k : ItemKind) → item_kind k ≡ IsInstance → (i : InterfaceId) × (k ≡ ItemKind.Instance i)
is_one (ItemKind.Instance i) e = (i, refl)
is_one (ItemKind.Ty (TypeKind.Resource x)) e = absurd (cc e)
is_one (ItemKind.Ty (TypeKind.Func x)) e = absurd (cc e)
is_one (ItemKind.Ty (TypeKind.Value x)) e = absurd (cc e)
is_one (ItemKind.Ty (TypeKind.Interface x)) e = absurd (cc e)
is_one (ItemKind.Ty (TypeKind.World x)) e = absurd (cc e)
is_one (ItemKind.Ty (TypeKind.Module x)) e = absurd (cc e)
is_one (ItemKind.Func x) e = absurd (cc e)
is_one (ItemKind.Component x) e = absurd (cc e)
is_one (ItemKind.Module x) e = absurd (cc e)
is_one (ItemKind.Value x) e = absurd (cc e)

one_kind : (k : ItemKind) → is_instance k ≡ true → item_kind k ≡ IsInstance
one_kind (ItemKind.Instance i) e = refl
one_kind (ItemKind.Ty t) e = absurd (true≢false (sym e))
one_kind (ItemKind.Func x) e = absurd (true≢false (sym e))
one_kind (ItemKind.Component x) e = absurd (true≢false (sym e))
one_kind (ItemKind.Module x) e = absurd (true≢false (sym e))
one_kind (ItemKind.Value x) e = absurd (true≢false (sym e))

pub fits_one : (c d : Collection) → IsAcyclic c → IsAcyclic d → (k j : ItemKind) → Stands c k → Stands d j → is_instance j ≡ true → Fits (tree_in c k) (tree_in d j) → (i : InterfaceId) × (k ≡ ItemKind.Instance i)
fits_one c d a b k j s t one fits =
    is_one k (sym (kind_is c a k s) ∙ fits_kind (tree_in c k) (tree_in d j) fits ∙ kind_is d b j t ∙ one_kind j one)

-- ---- one alias further

exports_read : (c : Collection) → IsAcyclic c → (i : InterfaceId) → Stands c (ItemKind.Instance i) → (n : Name) → value_at (exports_of (stated_of c (ItemKind.Instance i))) n ≡ option_map (stated_of c) (value_at (exports_in c i) n)
exports_read c acyclic i stands n =
    let x = interface_found c i stands in
    ap (λ l. value_at l n) (instance_exports_stated c acyclic i x.value x.at x.own)
    ∙ value_with (stated_of c) x.value.exports n
    ∙ ap (λ l. option_map (stated_of c) (value_at l n)) (sym (exports_there c i x.value x.at x.own))

-- what an export of the kind is
abbrev pub IsExportOf : Collection → ItemKind → Name → Option ItemKind → Type 0
IsExportOf c k n r = (i : InterfaceId) → k ≡ ItemKind.Instance i → r ≡ value_at (exports_in c i) n

module _ (g : Graph) (sound : IsGraph g) (finite_types : IsAcyclic g.types) (c : Collection) (acyclic : IsAcyclic c) where
  abbrev final_of : Origin ℕ → Option Stated
  final_of = final_type (asks_of (composition_of g))

  along : (i k : ℕ) (n : Name) → HasAlias g.edges i n k → final_at g k ≡ then_in (final_at g i) n
  along i k n h = ap final_of (origin_alias g sound finite_types i k n h)

  pub alias_none : (i k : ℕ) (n : Name) → HasAlias g.edges i n k → HasOwnType g i → HasOwnType g k
  alias_none i k n h (inl none) = inl (along i k n h ∙ ap (λ x. then_in x n) none)
  alias_none i k n h (inr own) =
      let e = (sound.wired.edges (alias_edge i k n) h).export n refl in
      let same : e.instance ≡ own.0 = same_Some _ _ (sym e.instance_at ∙ own.1) in
      absurd (true≢false (sym e.one ∙ ap (λ (x : NodeData). is_instance x.item_kind) same ∙ own.2))

  pub alias_some : (i k : ℕ) (n : Name) (j : ItemKind) (r : Option ItemKind) → HasAlias g.edges i n k → IsFinal g c i j → IsExportOf c j n r → ((m : ItemKind) → r ≡ Some m → Stands c m) → TellsFinal g c k r
  unfolding tree_in
  alias_some i k n j r h final value stands = by_export r refl
    where
      e : GivesExport g i n k
      e = (sound.wired.edges (alias_edge i k n) h).export n refl

      fit : Fits (tree_in c j) (tree_in g.types e.instance.item_kind)
      fit = final.fits e.instance e.instance_at e.one

      one : (a : InterfaceId) × (j ≡ ItemKind.Instance a)
      one = fits_one c g.types acyclic finite_types j e.instance.item_kind final.stands (sound.nodes i e.instance e.instance_at).item e.one fit

      read : value_at (exports_of (stated_of c j)) n ≡ option_map (stated_of c) r
      read = ap (λ (k : ItemKind). value_at (exports_of (stated_of c k)) n) one.1 ∙ exports_read c acyclic one.0 (subst (Stands c) one.1 final.stands) n ∙ ap (option_map (stated_of c)) (sym (value one.0 one.1))

      at : final_at g k ≡ option_map (stated_of c) r
      at = along i k n h ∙ ap (λ x. then_in x n) final.states ∙ read

      kind_own : one_of (kind_of (stated_of c j)) ≡ true
      kind_own = ap one_of (kind_stated c acyclic j final.stands ∙ ap item_kind one.1)

      kind_asked : one_of (kind_of (stated_of g.types e.instance.item_kind)) ≡ true
      kind_asked = ap one_of (kind_stated g.types finite_types e.instance.item_kind (sound.nodes i e.instance e.instance_at).item ∙ one_kind e.instance.item_kind e.one)

      fits_there : (m : ItemKind) → r ≡ Some m → (x : NodeData) → node_at g k ≡ Some x → Fits (tree_in c m) (tree_in g.types x.item_kind)
      fits_there m is x there =
          subst (λ (y : NodeData). Fits (tree_in c m) (tree_in g.types y.item_kind)) (same_Some _ _ (sym e.alias_at ∙ there))
          (exports_fit (stated_of c j) (stated_of g.types e.instance.item_kind) n (stated_of c m) (stated_of g.types e.alias.item_kind) kind_own kind_asked (tree_in_order (stated_of c j)) fit
          (read ∙ ap (option_map (stated_of c)) is) e.export)

      by_export : (o : Option ItemKind) → r ≡ o → TellsFinal g c k o
      by_export None is = inl (at ∙ ap (option_map (stated_of c)) is)
      by_export (Some m) is = record { stands = stands m is; states = at ∙ ap (option_map (stated_of c)) is; fits = λ x there own. fits_there m is x there }

-- ---- outer imports

module _ (g : Graph) (sound : IsGraph g) (finite_types : IsAcyclic g.types) (c : Collection) (acyclic : IsAcyclic c) (o : Outers) (is : IsOuters g c o.world o.places) where
  abbrev outer_fields : List (Name × ItemKind)
  outer_fields = imports_of c o.world

  import_final : (k : ℕ) (x : NodeData) (n : Name) (item : ItemKind) → node_at g k ≡ Some x → x.role ≡ Role.Imported n → value_at outer_fields (spelled g n) ≡ Some item → IsFinal g c k item
  import_final k x n item there role at = record {
    stands = import_there c acyclic o.world is.stands (spelled g n) item at;
    states =
        ap (final_type (asks_of (composition_of g))) (origin_role g sound finite_types k x (Role.Imported n) there role)
        ∙ ap (λ es. value_at es (spelled g n)) (sym is.imports) ∙ value_with (stated_of c) outer_fields (spelled g n) ∙ ap (option_map (stated_of c)) at;
    fits = λ y at_node one. import_fits g sound finite_types c acyclic o.world o.places is k y n item at_node (ap (λ (z : NodeData). z.role) (same_Some _ _ (sym at_node ∙ there)) ∙ role) at;
  }

  outer_final : (k : ℕ) (x : NodeData) (n : Name) → node_at g k ≡ Some x → x.role ≡ Role.Imported n → TellsFinal g c k (outer_type c o n)
  outer_final k x n there role =
      let asked = is.named (ask_at g sound finite_types c acyclic o.world o.places is k x n) (asked_there g sound finite_types c acyclic o.world o.places is k x n there role) in
      let at = value_of (value_at o.places n) asked in
      let import = is.placed n at.0 at.1 in
      let type : outer_type c o n ≡ Some import.0 = ap (option_and_then (λ i. option_map (λ (e : Name × ItemKind). e.1) (slice_get outer_fields i))) at.1 ∙ ap (option_map (λ (e : Name × ItemKind). e.1)) import.1 in
      subst (TellsFinal g c k) (sym type) (import_final k x n import.0 there role (value_here outer_fields at.0 (spelled g n) import.0 is.distinct import.1))

  pub import_told : (k : ℕ) (n : Name) → import_name_of (node_at g k) ≡ Some n → TellsFinal g c k (outer_type c o n)
  import_told k n e = go (node_at g k) refl e
    where
      go : (y : Option NodeData) → node_at g k ≡ y → import_name_of y ≡ Some n → TellsFinal g c k (outer_type c o n)
      go None at named = absurd (none-some _ named)
      go (Some x) at named = outer_final k x n at (imported_role x.role n named)

-- ---- definitions

module _ (g : Graph) (sound : IsGraph g) (finite_types : IsAcyclic g.types) (c : Collection) (f : Finals) (knows : KnowsFinals g c f) where
  abbrev origin_by_role : ℕ → Role → NodeData → Origin ℕ
  origin_by_role = origin_by g (origin_within g (length g.edges))

  own_type : (k : ℕ) → import_name_of (node_at g k) ≡ None → ((i : ℕ) (n : Name) → HasAlias g.edges i n k → ⊥) → (Among k (names_of f.definitions.entries) → ⊥) → HasOwnType g k
  own_type k none alone new = go (node_at g k) refl none
    where
      by_role : (x : NodeData) → node_at g k ≡ Some x → (r : Role) → x.role ≡ r → imported_as r ≡ None → HasOwnType g k
      by_role x at (Role.Imported n) is e = absurd (none-some _ (sym e))
      by_role x at Role.Instance is e = inl (ap (final_type (asks_of (composition_of g))) (origin_role g sound finite_types k x Role.Instance at is))
      by_role x at Role.Defined is e = knows.others k x at is new
      by_role x at Role.Aliased is e = let s = sound.wired.sources k x at is in absurd (alone s.0 s.1 s.2)

      go : (o : Option NodeData) → node_at g k ≡ o → import_name_of o ≡ None → HasOwnType g k
      go None at e = inl (ap (λ o. final_type (asks_of (composition_of g)) (origin_at g (origin_within g (length g.edges)) k o)) at)
      go (Some x) at e = by_role x at x.role refl e

  pub definition_told : (k : ℕ) (r : Option ItemKind) → r ≡ lookup (node.eq-value.it k) f.definitions.entries → import_name_of (node_at g k) ≡ None → ((i : ℕ) (n : Name) → HasAlias g.edges i n k → ⊥) → TellsFinal g c k r
  definition_told k None is none alone = own_type k none alone (none_among node.eq-value.it same_node f.definitions.entries k (sym is))
  definition_told k (Some j) is none alone = knows.definitions k j (found_among node.eq-value.it same_node f.definitions.entries k j (sym is))

-- ---- what is known of them

module _ (g : Graph) (sound : IsGraph g) (finite_types : IsAcyclic g.types) (c : Collection) (acyclic : IsAcyclic c) (o : Outers) (xs : List Definition) (h : IsToHandOut g c o xs) where
  -- a node that is defined has the type as which it is written
  defined_final : (d : Definition) → Among d xs → final_at g d.node ≡ Some (written_definition (stated_of g.types (ItemKind.Ty d.ty)))
  defined_final d m =
      let n = (h.definitions d m).node in
      ap (final_type (asks_of (composition_of g))) (origin_role g sound finite_types d.node n.node Role.Defined n.there n.role)
      ∙ ap (λ s. Some (written_definition s)) n.states

  form_final : (d : Definition) → Among d xs → (item : ItemKind) → d.copy ≡ Some item → IsFinal g c d.node item
  form_final d m item is =
      let n = (h.definitions d m).node in
      let f : HasForm g.types c d.ty (Some item) = subst (HasForm g.types c d.ty) is (h.definitions d m).form in
      let t = (sound.nodes d.node n.node n.there).defined n.role in
      record {
        stands = f.1.stands;
        states = defined_final d m ∙ ap Some (sym f.1.states);
        fits = λ y there one. let never : is_instance (ItemKind.Ty t.type) ≡ true = sym (ap is_instance t.is) ∙ ap (λ (z : NodeData). is_instance z.item_kind) (same_Some _ _ (sym n.there ∙ there)) ∙ one in absurd (cc never);
      }

  definitions_known : (es : List (ℕ × ItemKind)) → AreDefinitionTypes xs es → (k : ℕ) (item : ItemKind) → Among (k, item) es → IsFinal g c k item
  definitions_known es are k item m =
      let t = are.sound k item m in
      subst (λ j. IsFinal g c j item) t.2 (form_final t.0 t.1 item t.3)

  others_known : (es : List (ℕ × ItemKind)) → AreDefinitionTypes xs es → (k : ℕ) (x : NodeData) → node_at g k ≡ Some x → x.role ≡ Role.Defined → (Among k (names_of es) → ⊥) → HasOwnType g k
  others_known es are k x there role new =
      let d = h.all k x there role in
      subst (HasOwnType g) d.2 (by_copy d.0 d.1 d.0.copy refl (λ m. new (subst (λ j. Among j (names_of es)) d.2 m)))
    where
      by_copy : (d : Definition) → Among d xs → (copy : Option ItemKind) → d.copy ≡ copy → (Among d.node (names_of es) → ⊥) → HasOwnType g d.node
      by_copy d m (Some item) is not_there = absurd (not_there (are.all d m (ap is_some is)))
      by_copy d m None is not_there =
          let n = (h.definitions d m).node in
          let f : HasForm g.types c d.ty None = subst (HasForm g.types c d.ty) is (h.definitions d m).form in
          let t = (sound.nodes d.node n.node n.there).defined n.role in
          inr (n.node, n.there, ap is_instance t.is, defined_final d m ∙ ap Some (own_form g.types finite_types d.ty f.1 f.0 ∙ sym n.states))

  pub finals_known : (f : Finals) → f.outers.now ≡ o → AreDefinitionTypes xs f.definitions.entries → KnowsFinals g c f
  finals_known f same defined_ = record {
    outers = subst (λ (p : Outers). IsOuters g c p.world p.places) (sym same) h.outers;
    definitions = definitions_known f.definitions.entries defined_;
    others = others_known f.definitions.entries defined_;
  }

-- ---- in a collection that grows

final_kept : (g : Graph) (c d : Collection) → Grows c d → (k : ℕ) (item : ItemKind) → IsFinal g c k item → IsFinal g d k item
unfolding tree_in
final_kept g c d grows k item f =
    let same = stated_kept c d grows item f.stands in
    record {
      stands = grows.stand item f.stands;
      states = f.states ∙ ap Some (sym same);
      fits = λ x there one. subst (λ s. Fits (tree s) (tree_in g.types x.item_kind)) (sym same) (f.fits x there one);
    }

pub finals_kept : (g : Graph) (c d : Collection) → IsAcyclic c → Grows c d → (f : Finals) → KnowsFinals g c f → KnowsFinals g d f
finals_kept g c d acyclic grows f k = record {
  outers = outers_stay (asks_of (composition_of g)) c d acyclic grows f.outers.now.world f.outers.now.places k.outers;
  definitions = λ j item m. final_kept g c d grows j item (k.definitions j item m);
  others = k.others;
}

-- ---- under which type a node is exported

pub exported_final : (g : Graph) (c : Collection) (k : ℕ) (item : ItemKind) → IsFinal g c k item → IsOf c (exported_at g k) item
exported_final g c k item f = record { stands = f.stands; states = sym (ap (λ o. unwrap_or o (item_at g k)) f.states) }

pub exported_own : (g : Graph) (k : ℕ) → HasOwnType g k → exported_at g k ≡ item_at g k
exported_own g k (inl none) = ap (λ o. unwrap_or o (item_at g k)) none
exported_own g k (inr own) = ap (λ o. unwrap_or o (item_at g k)) own.3 ∙ sym (ap (λ o. stated_in (option_map (item_of g) o)) own.1)

-- what an alias is an alias of is nearer to where both come from
pub nearer : (g : Graph) (sound : IsGraph g) (finite_types : IsAcyclic g.types) (i k : ℕ) (n : Name) → HasAlias g.edges i n k → steps (origin_of g i) < steps (origin_of g k)
unfolding steps
nearer g sound finite_types i k n h = subst (λ m. steps (origin_of g i) < m) (sym (ap steps (origin_alias g sound finite_types i k n h))) (omega arith)

pub copied_exported : {E : Type 0} (g : Graph) (c : Collection) (k : ℕ) (r : Result (Option ItemKind) E) → HasOwnType g k → IfOk r (TellsCopied g c k) → IfOk r (TellsExported g c k)
copied_exported g c k (Err e) own h = tt
copied_exported g c k (Ok None) own h = h
copied_exported g c k (Ok (Some item)) own h = record { stands = h.stands; states = h.states ∙ sym (exported_own g k own) }

-- ---- a node's own type, copied

pub copied_item : (g : Graph) (c : Collection) (k : ℕ) (kind copy : ItemKind) → Some kind ≡ option_map (λ (x : NodeData). x.item_kind) (node_at g k) → IsCopy g.types c kind copy → IsOf c (item_at g k) copy
copied_item g c k kind copy is h = record { stands = h.stands; states = ap stated_in h.same ∙ go (node_at g k) is }
  where
    go : (o : Option NodeData) → Some kind ≡ option_map (λ (x : NodeData). x.item_kind) o → stated_of g.types kind ≡ stated_in (option_map (item_of g) o)
    go None e = absurd (none-some _ (sym e))
    go (Some x) e = ap (stated_of g.types) (same_Some _ _ e)

pub no_item : (g : Graph) (k : ℕ) → None ≡ option_map (λ (x : NodeData). x.item_kind) (node_at g k) → node_at g k ≡ None
no_item g k e = go (node_at g k) e
  where
    go : (o : Option NodeData) → None ≡ option_map (λ (x : NodeData). x.item_kind) o → o ≡ None
    go None e = refl
    go (Some x) e = absurd (none-some _ e)
