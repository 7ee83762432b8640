-- Why a match is not passed: its import has got an argument before.
use Rattle.std.proofs.Common.{◌≡◌, ◌≢◌, ℕ, true, ◌==◌, List, [], ◌∷◌, Some, None, refl, sym, ap, subst, ◌∙◌}
use Rattle.std.proofs.lemmas.Option.{same_Some}
use Rattle.std.specs.Prelude.{string_bytes}
use Rattle.wac_types_base.specs.declared.item.ItemKind.{ItemKind}
use Rattle.wac_types_base.specs.Entries.{Name}
use Rattle.wac_types_base.specs.Graph.{Among}
use Rattle.wac_types_names.specs.Packaged.{Packaged}
use Rattle.wac_types_base.specs.Stated.{stated_of}
use Rattle.wac_types_base.specs.Tree.{tree}
use Rattle.wac_types_base.specs.Fits.{Fits}
use Rattle.wac_types_fit.specs.declared.error.SubtypeError.{SubtypeError}
use Rattle.wac_types_fit.specs.Trees.{Fit, tree_in}
use Rattle.wac_graph_core.specs.declared.edge.Edge.{Edge}
use Rattle.wac_graph_core.specs.declared.edge.Label.{Label}
use Rattle.wac_graph_core.specs.declared.edge.Follow.{Follow}
use Rattle.wac_graph_core.specs.declared.error.InstantiationArgumentError.{InstantiationArgumentError}
use Rattle.wac_graph_core.specs.Nodes.{NodeData, Role, plain_node}
use Rattle.wac_graph_core.specs.Edges.{HasAlias, HasArgument, Reaches, at_start, along, follows}
use Rattle.wac_graph_core.specs.Graph.{Graph, node_at, passed, passed_as, instantiated, item_export, item_import, IsArgument}
use Rattle.wac_graph_core.specs.Steps.{Aliases, AliasesAnew}
use Rattle.wac_graph_core.specs.Refusals.{ArgumentRefused, NodeMismatches, LacksArgument}
use Rattle.wac_graph_core.proofs.NodeMap.{get-insert_same}
use Rattle.wac_graph_core.proofs.Found.{same_edge}
use Rattle.wac_graph_plug.specs.declared.matching.Match.{Match}
use Rattle.wac_graph_plug.specs.Stops.{IsPassedTwice}
use Rattle.wac_graph_plug.proofs.Growing.{Grown-alias}
use Rattle.wac_graph_plug.proofs.State.{Bound, imports_of_all, State, IsPlug, apart_from_new}
use Rattle.wac_graph_plug.proofs.Passing.{alias_made, alias_state}
use Rattle.wac_graph_plug.proofs.Fitting.{Fitting}
use Rattle.wac_types_base.proofs.Replacing.{only_one}
use Rattle.wac_types_base.proofs.Lists.{among_mapped}

-- ---- nothing is reached from the socket

module _ (es : List Edge) (s : ℕ) (quiet : (n : Name) (k : ℕ) → HasAlias es s n k → ⊥) (loose : (i : ℕ) (n : Name) → HasArgument es i n s → ⊥) where
  leads_nowhere : (e : Edge) (l : Label) → Among e es → e.from ≡ s → e.label ≡ l → follows Follow.Flow l ≡ true → ⊥
  leads_nowhere e (Label.Alias n) at from label f = quiet n e.to (subst (λ d. Among d es) (sym (same_edge e s e.to (Label.Alias n) from refl label)) at)
  leads_nowhere e (Label.Argument n) at from label f = loose e.to n (subst (λ d. Among d es) (sym (same_edge e s e.to (Label.Argument n) from refl label)) at)
  leads_nowhere e Label.Dependency at from label f = absurd (cc (f))

  pub only_start : {j : ℕ} → Reaches Follow.Flow es (s ∷ []) j → j ≡ s
  only_start (at_start {k = k} h) = only_one s k (s == k) refl h
  only_start (along {j = i} {k = k} e r at f from to) = absurd (leads_nowhere e e.label at (from ∙ only_start r) refl f)

-- ---- the refusal

module _ (s p : ℕ) (sp pp : Packaged) (apart : p ≢ s) (g h : Graph) (done : List Bound) (es : List Name) (m : Match) (k : ℕ) (st : State g s sp done) (is : IsPlug g p pp es) (new : Among m.export es → ⊥)
    (aliased : Aliases g h p m.export k) (fits : Fitting g.types pp sp m) where
  made : AliasesAnew g h p m.export k
  made = alias_made s p sp pp apart g h es m.export k is new aliased

  after : State h s sp done
  after = (alias_state s p sp pp apart g h done es m.export k st is made).0

  types : h.types ≡ g.types
  types = (Grown-alias g h p m.export k aliased).types

  asked_here : item_import h.types sp.ty m.import ≡ Some fits.asked
  asked_here = ap (λ c. item_import c sp.ty m.import) types ∙ fits.is_asked

  same_of : (q : Packaged) → instantiated h s ≡ Some q → q ≡ sp
  same_of q at = same_Some _ _ (sym at ∙ after.socket)

  asked_is : (item : ItemKind) → IsArgument h s m.import item → item ≡ fits.asked
  asked_is item a =
      same_Some _ _ (sym a.import ∙ ap (λ (q : Packaged). item_import h.types q.ty m.import) (same_of a.of a.is) ∙ asked_here)

  given_is : made.item ≡ fits.given
  given_is =
      let node : made.export.node ≡ is.node = same_Some _ _ (sym made.export.there ∙ is.at) in
      same_Some _ _ (sym made.export.kind ∙ ap (λ (x : NodeData). item_export g.types x.item_kind m.export) node ∙ ap (λ x. item_export g.types x m.export) is.kind ∙ fits.is_given)

  node_here : node_at h k ≡ Some (plain_node Role.Aliased None made.item)
  node_here = ap (λ (x : Graph). node_at x k) made.made ∙ get-insert_same g.nodes k (plain_node Role.Aliased None made.item)

  lacks : (q : Name) → LacksArgument h s m.import q → ⊥
  lacks q l =
      let none : item_import h.types sp.ty m.import ≡ None = ap (λ (x : Packaged). item_import h.types x.ty m.import) (sym (same_of l.of l.is)) ∙ l.import in
      absurd (cc (none, asked_here))

  it_fits : (item : ItemKind) (x : NodeData) → IsArgument h s m.import item → node_at h k ≡ Some x → Fit h.types x.item_kind h.types item
  it_fits item x a at =
      let kind : x.item_kind ≡ fits.given = ap (λ (y : NodeData). y.item_kind) (same_Some _ _ (sym at ∙ node_here)) ∙ given_is in
      subst (λ c. Fit c x.item_kind c item) (sym types)
      (subst (λ i. Fit g.types i g.types item) (sym kind) (subst (λ i. Fit g.types fits.given g.types i) (sym (asked_is item a)) fits.fits))

  -- it is no definition, so it is compared as it is
  compared : (x : NodeData) → node_at h k ≡ Some x → passed h.types x ≡ stated_of h.types x.item_kind
  compared x at = ap (λ r. passed_as r (stated_of h.types x.item_kind)) (ap (λ (y : NodeData). y.role) (same_Some _ _ (sym at ∙ node_here)))

  differs : (item : ItemKind) (fault : SubtypeError) → IsArgument h s m.import item → NodeMismatches h k item fault → ⊥
  unfolding tree_in
  differs item fault a r =
      r.mismatch.differ.differ (subst (λ t. Fits (tree t) (tree_in h.types item)) (sym (r.mismatch.is ∙ compared r.node r.there)) (it_fits item r.node a r.there))

  -- the import has got an argument before
  pub is_conflict : (f : InstantiationArgumentError) → f ≢ InstantiationArgumentError.Memory → ArgumentRefused h s m.import k f → IsPassedTwice f m.import × Among m.import (imports_of_all done)
  is_conflict (InstantiationArgumentError.NodeIsNotAnInstantiation j) some r = absurd (cc (r.1, after.socket))
  is_conflict (InstantiationArgumentError.InvalidArgumentName j t q) some r = absurd (lacks (string_bytes q) r.2)
  is_conflict (InstantiationArgumentError.ArgumentAlreadyPassed j t) some r =
      let b = after.bound m.import r.4 r.5 in
      (r.1, subst (λ n. Among n (imports_of_all done)) b.2 (among_mapped (λ (b : Bound). b.import) done b.0 b.1))
  is_conflict (InstantiationArgumentError.ArgumentTypeMismatch t fault) some r = absurd (differs r.1 fault r.2.is r.3)
  is_conflict (InstantiationArgumentError.WouldFormCycle j) some r = absurd (apart_from_new g h s sp done st k made.free (only_start h.edges s after.quiet after.loose r.4))
  is_conflict InstantiationArgumentError.Memory some r = absurd (some refl)
