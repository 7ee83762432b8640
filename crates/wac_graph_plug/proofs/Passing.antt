-- The state after matches are passed.
use Rattle.std.proofs.Common.{◌≡◌, ◌≢◌, ℕ, List, [], ◌∷◌, ◌++◌, map, Some, IsSome, refl, sym, ap, subst, ◌∙◌, inl, inr}
use Rattle.std.proofs.lemmas.List.{append-nil, append_assoc}
use Rattle.wac_types_base.specs.declared.item.ItemKind.{ItemKind}
use Rattle.wac_types_base.specs.Entries.{Name, AreDistinct}
use Rattle.wac_types_base.specs.Graph.{Among}
use Rattle.wac_types_names.specs.Packaged.{Packaged}
use Rattle.wac_graph_core.specs.declared.ids.PackageId.{PackageId}
use Rattle.wac_graph_core.specs.Nodes.{NodeData, Role, plain_node}
use Rattle.wac_graph_core.specs.Edges.{alias_edge, HasAlias}
use Rattle.wac_graph_core.specs.Graph.{Graph, node_at, ContainsNode, package_of, package_made}
use Rattle.wac_graph_core.specs.Steps.{Instantiates, Aliases, AliasesAnew, SetsArgument}
use Rattle.wac_graph_core.proofs.NodeMap.{get-insert_same}
use Rattle.wac_graph_core.proofs.EdgeSteps.{edge_label}
use Rattle.wac_graph_plug.specs.declared.matching.Match.{Match}
use Rattle.wac_graph_plug.specs.Steps.{Grown, Passes, PassesAll, passed_none, passed_next}
use Rattle.wac_graph_plug.proofs.Growing.{Grown-alias, Grown-set}
use Rattle.wac_graph_plug.proofs.State.{Bound, State, IsPlug, distinct_front, no_alias, alias_name, instantiated-grown, State-alias, State-set, apart_from_new, nothing_from}
use Rattle.wac_graph_core.proofs.Found.{Among-front}
use Rattle.wac_types_base.proofs.Loops.{mapped_next}
use Rattle.wac_types_base.proofs.Lists.{last_among}

abbrev pub bound_of : ℕ → Match → Bound
bound_of p m = record { plug = p; export = m.export; import = m.import }

abbrev pub all_bound : ℕ → List Match → List Bound
all_bound p ms = map (bound_of p) ms

abbrev pub exports_in : List Match → List Name
exports_in ms = map (λ (m : Match). m.export) ms

-- a plug stays one, by the aliases of its exports
pub IsPlug-grown : (g h : Graph) (p : ℕ) (pp : Packaged) (es fs : List Name) → Grown g h → ((n : Name) (k : ℕ) → HasAlias h.edges p n k → Among n fs) → IsPlug g p pp es → IsPlug h p pp fs
IsPlug-grown g h p pp es fs grown aliases is =
    let s = grown.nodes p is.node is.at in
    record { node = s.node; at = s.there; kind = s.item ∙ is.kind; is = instantiated-grown g h p pp grown is.is; aliases = aliases }

-- an instance that was made just now
pub IsPlug-instance : (g h : Graph) (s : ℕ) (sp : Packaged) (done : List Bound) (id : PackageId) (p : ℕ) → State g s sp done → (made : Instantiates g h id p) → IsPlug h p made.of []
IsPlug-instance g h s sp done id p st made =
    let new_node : NodeData = plain_node Role.Instance (Some id) (ItemKind.Instance made.of.instance_type) in
    let at : node_at h p ≡ Some new_node = ap (λ (x : Graph). node_at x p) made.made ∙ get-insert_same g.nodes p new_node in
    record {
      node = new_node;
      at = at;
      kind = refl;
      is = ap (package_made h) at ∙ ap (λ (x : Graph). package_of x id) made.made ∙ made.is;
      aliases = λ n k m. absurd (cc (made.free, (st.ends (alias_edge p k n) (subst (Among (alias_edge p k n)) (ap (λ (x : Graph). x.edges) made.made) m)).0));
    }

module _ (s p : ℕ) (sp pp : Packaged) (apart : p ≢ s) where
  -- the alias of a match is made
  pub alias_made : (g h : Graph) (es : List Name) (e : Name) (k : ℕ) → IsPlug g p pp es → (Among e es → ⊥) → Aliases g h p e k → AliasesAnew g h p e k
  alias_made g h es e k is new (inl again) = absurd (new (is.aliases e k again.there))
  alias_made g h es e k is new (inr made) = made

  plug_there : (g : Graph) (es : List Name) → IsPlug g p pp es → ContainsNode g p
  plug_there g es is = subst IsSome (sym is.at) refl

  pub alias_state : (g h : Graph) (done : List Bound) (es : List Name) (e : Name) (k : ℕ) → State g s sp done → IsPlug g p pp es → AliasesAnew g h p e k → State h s sp done × IsPlug h p pp (es ++ e ∷ [])
  alias_state g h done es e k st is made = (
    State-alias g h s sp done st p k e apart made (plug_there g es is),
    IsPlug-grown g h p pp es (es ++ e ∷ []) (Grown-alias g h p e k (inr made)) (λ n j m. elim ((made.edges (alias_edge p j n)).0 m) [
      | inl old ↦ Among-front es e n (is.aliases n j old)
      | inr same ↦ subst (λ x. Among x (es ++ e ∷ [])) (sym (ap (λ l. alias_name l n) (edge_label same))) (last_among es e)
    ]) is,
  )

  set_state : (g mid h : Graph) (done : List Bound) (es : List Name) (m : Match) (k : ℕ) → State g s sp done → AliasesAnew g mid p m.export k → State mid s sp done → IsPlug mid p pp es → SetsArgument mid h s m.import k
      → State h s sp (done ++ bound_of p m ∷ []) × IsPlug h p pp es
  set_state g mid h done es m k st made st2 is set = elim set.step [
    | inl keep ↦ absurd (nothing_from g mid s sp done st p k m.export made s m.import keep.there)
    | inr add ↦ (
      State-set mid h s sp done st2 p k m.export m.import set.item (apart_from_new g mid s sp done st k made.free) ((made.edges (alias_edge p k m.export)).1 (inr refl)) add,
      IsPlug-grown mid h p pp es es (Grown-set mid h s m.import k set) (λ n j at. elim ((add.edges (alias_edge p j n)).0 at) [
        | inl old ↦ is.aliases n j old
        | inr same ↦ absurd (no_alias n m.import (edge_label same))
      ]) is,
    )
  ]

  pub passes_state : (g h : Graph) (done : List Bound) (es : List Name) (m : Match) → State g s sp done → IsPlug g p pp es → (Among m.export es → ⊥) → Passes s p m g h
      → State h s sp (done ++ bound_of p m ∷ []) × IsPlug h p pp (es ++ m.export ∷ [])
  passes_state g h done es m st is new one =
      let made = alias_made g one.middle es m.export one.alias is new one.aliased in
      let r = alias_state g one.middle done es m.export one.alias st is made in
      set_state g one.middle h done (es ++ m.export ∷ []) m one.alias st made r.0 r.1 one.set

  pub passes_all_state : {ms : List Match} {g h : Graph} (done : List Bound) → PassesAll s p ms g h → State g s sp done → IsPlug g p pp [] → AreDistinct (exports_in ms)
      → State h s sp (done ++ all_bound p ms) × IsPlug h p pp (exports_in ms)
  passes_all_state {h = h} done passed_none st is d = (subst (State h s sp) (sym (append-nil done)) st, is)
  passes_all_state {h = h} done (passed_next {ms = ms} {m = m} {g = g} rest one) st is d =
      let split = distinct_front (exports_in ms) m.export (subst AreDistinct (mapped_next (λ (m : Match). m.export) ms m) d) in
      let r = passes_all_state done rest st is split.0 in
      let q = passes_state g h (done ++ all_bound p ms) (exports_in ms) m r.0 r.1 split.1 one in (
        subst (State h s sp) (append_assoc done (all_bound p ms) (bound_of p m ∷ []) ∙ ap (λ bs. done ++ bs) (sym (mapped_next (bound_of p) ms m))) q.0,
        subst (IsPlug h p pp) (sym (mapped_next (λ (m : Match). m.export) ms m)) q.1,
      )
