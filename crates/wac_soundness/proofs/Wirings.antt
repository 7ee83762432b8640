-- The wiring of a graph is bound, and the world of its composition is true of it, and so of what the bytes mean.
use Rattle.std.proofs.lemmas.Option.{none-some, same_Some}
use Rattle.std.proofs.Common.{◌≡◌, ℕ, [], Option, Some, None, refl, sym, ap, subst, ◌∙◌}
use Rattle.wac_types_base.specs.declared.item.ItemKind.{ItemKind}
use Rattle.wac_types_base.specs.Collection.{IsAcyclic}
use Rattle.wac_types_base.specs.Entries.{Name}
use Rattle.wac_types_base.specs.Graph.{Among}
use Rattle.wac_types_base.specs.Stated.{stated_of, imports_of, exports_of}
use Rattle.wac_types_names.specs.Packaged.{Packaged}
use Rattle.wac_graph_bytes.specs.Wirings.{Source, OfBytes, rename, Instantiation, Wiring, renamed, Same}
use Rattle.wac_nesting.specs.Given.{World, Provides, States, AreOuters, IsBound, IsBoundInstance, IsTrueWorld}
use Rattle.wac_composition.specs.Composition.{Made, Composition}
use Rattle.wac_composition.specs.OuterLaws.{AreMet}
use Rattle.wac_composition.specs.Sound.{fields_of, maps_of}
use Rattle.wac_composition.specs.Wired.{argument_source}
use Rattle.wac_composition.specs.Worlds.{composed_world}
use Rattle.wac_graph_core.specs.Graph.{Graph, IsGraph, instantiated}
use Rattle.wac_graph_asks.specs.Composed.{IsComposed}
use Rattle.wac_graph_asks.specs.Graphs.{composition_of}
use Rattle.wac_graph_asks.specs.Wirings.{IsGraphWiring}
use Rattle.wac_graph_asks.proofs.Origins.{graphs_are_composed}
use Rattle.wac_soundness.specs.Wired.{IsBoundUnder, IsOfNode}
use Rattle.wac_soundness.proofs.Trees.{moved_provides, moved_states}
use Rattle.wac_soundness.proofs.Rows.{IsWiredIn, is_wired}
use Rattle.wac_soundness.specs.Sound.{IsSoundByNumber}
use Rattle.wac_soundness.proofs.Graphs.{made_from}

-- ---- the wiring of a graph

module _ (g : Graph) (W : Wiring ℕ) (sound : IsGraph g) (acyclic : IsAcyclic g.types) (met : AreMet (composition_of g)) (is : IsGraphWiring g W) (s : IsSoundByNumber (composition_of g)) where
  abbrev c : Composition ℕ ℕ
  c = composition_of g

  composed : IsComposed g W
  composed = graphs_are_composed g W sound acyclic is

  own : (m : Made ℕ ℕ) → Among m c.made → (v : World) × IsOfNode g m.number v × (v.exports ≡ fields_of (exports_of m.world))
  own m a =
      let r = made_from g sound acyclic m a in
      subst (λ (y : Made ℕ ℕ). (v : World) × IsOfNode g y.number v × (v.exports ≡ fields_of (exports_of y.world))) (sym r.same)
      (maps_of (stated_of g.types (ItemKind.Component r.packaged.ty)), record { packaged = r.packaged; is = r.is; says = refl }, refl)

  wires : IsWiredIn c (IsOfNode g) W.outers
  wires = subst (IsWiredIn c (IsOfNode g)) (λ i n. sym (is.outers n) i) (is_wired c s met (IsOfNode g) own)

  node_of : (k : ℕ) (m : Made ℕ ℕ) → Among m c.made → m.number ≡ k → IsOfNode g k (maps_of m.world)
  node_of k m a e =
      let r = made_from g sound acyclic m a in
      let node : r.node ≡ k = sym (ap (λ (y : Made ℕ ℕ). y.number) r.same) ∙ e in
      record { packaged = r.packaged; is = subst (λ j. instantiated g j ≡ Some r.packaged) node r.is; says = ap (λ (y : Made ℕ ℕ). maps_of y.world) r.same }

  bound : IsBound (IsOfNode g) W
  bound k x e = by (instantiated g k) refl
    where
      by : (o : Option Packaged) → instantiated g k ≡ o → IsBoundInstance (IsOfNode g) W k x
      by None r = absurd (none-some _ (sym (composed.only k r) ∙ e))
      by (Some p) r =
          let a = composed.each k p r in
          let same : a.instance ≡ x = same_Some _ _ (sym a.wired ∙ e) in
          let args : argument_source (λ key. OfBytes p.bytes) c a.made ≡ x.args = λ i n. (sym (a.given n) ∙ ap (λ (y : Instantiation ℕ). y.args n) same) i in
          record {
            world = maps_of a.made.world;
            is = node_of k a.made a.there a.number;
            bound = subst (λ (f : Name → Source ℕ). Provides W.outers (IsOfNode g) f (fields_of (imports_of a.made.world))) args (wires.bound (λ key. OfBytes p.bytes) a.made a.there);
          }

  pub graph_bound : IsBoundUnder (IsOfNode g) (maps_of (composed_world c)) W
  graph_bound = record {
    bound = bound;
    true_world = record {
      imports = wires.imports;
      exports = subst (λ (f : Name → Source ℕ). States W.outers (IsOfNode g) f (maps_of (composed_world c)).exports) (λ i n. sym (composed.exports n) i) (wires.exports (λ key. OfBytes []));
    };
  }

-- ---- a wiring that is the same but for the names of instances

module _ (V W : Wiring ℕ) (s : Same V W) (IsOf : ℕ → World → Type 0) (IsOf' : ℕ → World → Type 0) (h : (k : ℕ) (w : World) → IsOf k w → IsOf' (s.to k) w) where
  moves : (k : ℕ) (w : World) → IsOf k w → (v : World) × IsOf' (s.to k) v × (v.exports ≡ w.exports)
  moves k w i = (w, h k w i, refl)

  outers : V.outers ≡ W.outers
  outers = λ i n. s.outers n i

  bound_moved : IsBound IsOf V → IsBound IsOf' W
  bound_moved b j y e =
      let x = s.back j y e in
      let v = b (s.from j) x.0 x.1 in
      let same : renamed s.to x.0 ≡ y = same_Some _ _ (sym (ap W.at (sym x.2) ∙ (s.there (s.from j) x.0 x.1).1) ∙ e) in
      record {
        world = v.world;
        is = subst (λ k. IsOf' k v.world) x.2 (h (s.from j) v.world v.is);
        bound = subst (λ (z : Instantiation ℕ). Provides W.outers IsOf' z.args v.world.imports) same
            (subst (λ o. Provides o IsOf' (λ n. rename s.to (x.0.args n)) v.world.imports) outers
            (moved_provides V.outers IsOf IsOf' s.to moves x.0.args v.world.imports v.bound));
      }

  true_moved : (world : World) → IsTrueWorld IsOf world V → IsTrueWorld IsOf' world W
  true_moved world x = record {
    imports = subst (λ o. AreOuters o world.imports) outers x.imports;
    exports = subst (λ (f : Name → Source ℕ). States W.outers IsOf' f world.exports) (λ i n. s.exports n i)
        (subst (λ o. States o IsOf' (λ n. rename s.to (V.exports n)) world.exports) outers (moved_states V.outers IsOf IsOf' s.to moves V.exports world.exports x.exports));
  }

  pub bound_same : (world : World) → IsBoundUnder IsOf world V → IsBoundUnder IsOf' world W
  bound_same world b = record { bound = bound_moved b.bound; true_world = true_moved world b.true_world }
