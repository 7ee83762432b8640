-- The composition of each graph is sound: its types are those of a collection, so what it asks is straight.
use Rattle.std.proofs.lemmas.Option.{none-some, same_Some}
use Rattle.std.proofs.Common.{◌≡◌, ℕ, Some, sym, subst}
use Rattle.wac_types_base.specs.declared.item.ItemKind.{ItemKind}
use Rattle.wac_types_base.specs.Collection.{IsAcyclic}
use Rattle.wac_types_base.specs.Graph.{Among}
use Rattle.wac_types_base.proofs.Lists.{from_filtered}
use Rattle.wac_composition.specs.Composition.{Placed, Made, Composition}
use Rattle.wac_graph_core.specs.Nodes.{NodeData, Role}
use Rattle.wac_graph_core.specs.Graph.{Graph, IsGraph}
use Rattle.wac_graph_asks.specs.Graphs.{nodes_of, import_by, definition_by, composition_of}
use Rattle.wac_parser_resolve.specs.Proper.{Proper}
use Rattle.wac_parser_resolve.proofs.Proper.{straight}
use Rattle.wac_parser_resolve.proofs.ProperAsks.{asks_proper}
use Rattle.wac_parser_resolve.proofs.ProperCollections.{collections_are_proper}
use Rattle.wac_soundness.specs.Sound.{IsSoundByNumber, GraphsAreSound}
use Rattle.wac_soundness.specs.Wired.{GraphsAreWired}
use Rattle.wac_soundness.proofs.Graphs.{one, made_from, all_passed, exported}
use Rattle.wac_soundness.proofs.Wirings.{graph_bound}

module _ (g : Graph) (sound : IsGraph g) (acyclic : IsAcyclic g.types) where
  abbrev c : Composition ℕ ℕ
  c = composition_of g

  proper_import : (i : Placed ℕ) → Among i c.imports → Proper i.item
  proper_import i m =
      let r = from_filtered (λ e. import_by g e.0 e.1 e.1.role) (nodes_of g) i m in by r.0.0 r.0.1 r.0.1.role r.2
    where
      by : (k : ℕ) (x : NodeData) (r : Role) → import_by g k x r ≡ Some i → Proper i.item
      by k x (Role.Imported n) e = subst (λ (p : Placed ℕ). Proper p.item) (same_Some _ _ e) (collections_are_proper g.types x.item_kind)
      by k x Role.Instance e = absurd (none-some _ e)
      by k x Role.Defined e = absurd (none-some _ e)
      by k x Role.Aliased e = absurd (none-some _ e)

  proper_world : (m : Made ℕ ℕ) → Among m c.made → Proper m.world
  proper_world m a =
      let r = made_from g sound acyclic m a in subst (λ (y : Made ℕ ℕ). Proper y.world) (sym r.same) (collections_are_proper g.types (ItemKind.Component r.packaged.ty))

  proper_definition : (d : Placed ℕ) → Among d c.definitions → Proper d.item
  proper_definition d m =
      let r = from_filtered (λ e. definition_by g e.0 e.1 e.1.role) (nodes_of g) d m in by r.0.0 r.0.1 r.0.1.role r.2
    where
      by : (k : ℕ) (x : NodeData) (r : Role) → definition_by g k x r ≡ Some d → Proper d.item
      by k x Role.Defined e = subst (λ (p : Placed ℕ). Proper p.item) (same_Some _ _ e) (collections_are_proper g.types x.item_kind)
      by k x (Role.Imported n) e = absurd (none-some _ e)
      by k x Role.Instance e = absurd (none-some _ e)
      by k x Role.Aliased e = absurd (none-some _ e)

  pub is_sound : IsSoundByNumber c
  is_sound = record {
    rank = sound.acyclic.0;
    one = one g sound acyclic;
    passed = all_passed g sound acyclic;
    exported = exported g sound acyclic;
    straight = λ a m. straight a.item (asks_proper c proper_import proper_world proper_definition a m);
  }

pub graphs_are_sound : GraphsAreSound
graphs_are_sound g sound acyclic = is_sound g sound acyclic

pub graphs_are_wired : GraphsAreWired
graphs_are_wired g W sound acyclic met is = graph_bound g W sound acyclic met is (is_sound g sound acyclic)
