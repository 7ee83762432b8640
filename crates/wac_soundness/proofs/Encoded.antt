-- The world that is handed out is true of what the bytes mean.
use Rattle.std.specs.Prelude.{option_map}
use Rattle.std.proofs.Common.{◌≡◌, ℕ, Bool, true, false, Some, None, sym, ap, subst, ◌∙◌}
use Rattle.wac_types_base.specs.declared.item.ItemKind.{ItemKind}
use Rattle.wac_types_base.specs.Collection.{IsAcyclic}
use Rattle.wac_types_base.specs.Stated.{stated_of, exports_of, uses_of}
use Rattle.wac_types_base.specs.Tree as t
use Rattle.wac_types_base.specs.Tree.{tree, tree_of}
use Rattle.wac_types_base.proofs.Telling.{unfolds_to}
use Rattle.wac_types_names.specs.Packaged.{Packaged}
use Rattle.wac_types_fit.proofs.Meeting.{mapped-some}
use Rattle.wac_graph_bytes.specs.Typing.{Worlds}
use Rattle.wac_graph_bytes.specs.Wirings.{Instantiation, Wiring, renamed, Same}
use Rattle.wac_graph_bytes.proofs.OneWiring.{wiring_is}
use Rattle.wac_nesting.specs.Given.{World, Provides}
use Rattle.wac_composition.specs.Asks.{asks_of}
use Rattle.wac_composition.specs.Classes.{spelling}
use Rattle.wac_composition.specs.Sound.{fields_of, maps_of}
use Rattle.wac_composition.specs.Worlds.{composed_world}
use Rattle.wac_composition.proofs.KeptFits.{made_tree}
use Rattle.wac_composition.proofs.Merged.{all_met}
use Rattle.wac_graph_core.specs.Graph.{Graph, IsGraph, instantiated}
use Rattle.wac_graph_core.proofs.WiringLaws.{has_wiring}
use Rattle.wac_graph_asks.specs.Graphs.{composition_of}
use Rattle.wac_graph_asks.specs.Wirings.{IsGraphWiring, asked_trees, written_tree}
use Rattle.wac_graph_asks.proofs.Origins.{package_stands}
use Rattle.wac_graph_encode.specs.Encoding.{AreTrueOf, as_written, dependency_tag, tagged, tag_of}
use Rattle.wac_soundness.specs.Wired.{IsBoundUnder, IsOfNode}
use Rattle.wac_soundness.specs.Encoded.{IsOfPackage, EncodedWorldsAreTrue}
use Rattle.wac_soundness.proofs.Wirings.{graph_bound, bound_same}
use Rattle.wac_soundness.proofs.Sound.{is_sound}

module _ (g : Graph) (W : Wiring ℕ) (sound : IsGraph g) (acyclic : IsAcyclic g.types) (is : IsGraphWiring g W) where
  -- tags alone are written in other ways
  written_bound : (define : Bool) (IsOf : ℕ → World → Type 0) (world : World) → IsBoundUnder IsOf world W → IsBoundUnder IsOf world (as_written define g W)
  written_bound true IsOf world b = b
  written_bound false IsOf world b = record {
    bound = λ k x e.
        let y = mapped-some (λ (z : Instantiation ℕ). tagged (dependency_tag (instantiated g k) z.tag) z) (W.at k) x e in
        let v = b.bound k y.0 y.1 in
        record { world = v.world; is = v.is; bound = subst (λ (z : Instantiation ℕ). Provides W.outers IsOf z.args v.world.imports) y.2 v.bound };
    true_world = record { imports = b.true_world.imports; exports = b.true_world.exports };
  }

  -- an instance has the tag of its package
  written_tag : (define : Bool) (k : ℕ) (p : Packaged) → instantiated g k ≡ Some p → (x : Instantiation ℕ) × ((as_written define g W).at k ≡ Some x) × (x.tag ≡ tag_of define p)
  written_tag true k p e = let x = is.instances k p e in (x.0, x.1, x.2.tag)
  written_tag false k p e =
      let x = is.instances k p e in
      let tag = dependency_tag (instantiated g k) x.0.tag in
      (tagged tag x.0, ap (option_map (λ (z : Instantiation ℕ). tagged (dependency_tag (instantiated g k) z.tag) z)) x.1, ap (λ o. dependency_tag o x.0.tag) e)

  -- what the worlds say of a package is what its stated world exports
  exports_told : (k : ℕ) (p : Packaged) → instantiated g k ≡ Some p
      → tree_of g.types (ItemKind.Instance p.instance_type) ≡ Some (t.instance (fields_of (exports_of (stated_of g.types (ItemKind.Component p.ty)))))
  exports_told k p e =
      let id = package_stands g sound acyclic k p e in
      let s = sound.packages.stand id.0 p id.1 in
      let w = stated_of g.types (ItemKind.Component p.ty) in
      ap (option_map tree) (unfolds_to g.types acyclic (ItemKind.Instance p.instance_type) s.instance) ∙ ap (λ x. Some (tree x)) s.exports ∙ ap Some (made_tree None (uses_of w) (exports_of w))

  module _ (define : Bool) (worlds : Worlds) (truth : AreTrueOf define g worlds) (meant : Wiring ℕ) (s : Same (as_written define g W) meant) where
    packaged_at : (k : ℕ) (w : World) → IsOfNode g k w → IsOfPackage define g worlds meant (s.to k) w
    packaged_at k w n =
        let x = written_tag define k n.packaged n.is in
        record {
          instance = renamed s.to x.0;
          there = (s.there k x.0 x.1).1;
          packaged = n.packaged;
          is = (k, n.is);
          tagged = x.2;
          says = n.says;
          told = ap worlds x.2 ∙ truth.each k n.packaged n.is ∙ exports_told k n.packaged n.is ∙ ap (λ (u : World). Some (t.instance u.exports)) (sym n.says);
        }

    pub meant_bound : (world : World) → IsBoundUnder (IsOfNode g) world W → IsBoundUnder (IsOfPackage define g worlds meant) world meant
    meant_bound world b = bound_same (as_written define g W) meant s (IsOfNode g) (IsOfPackage define g worlds meant) packaged_at world (written_bound define (IsOfNode g) world b)

pub encoded_worlds_are_true : EncodedWorldsAreTrue
encoded_worlds_are_true define options g bytes types world sound acyclic free composed handed worlds truth W means =
    let met = all_met options.define_components (composition_of g) free.cause in
    let own = has_wiring (spelling (asks_of (composition_of g))) (written_tree g) g sound (asked_trees g) in
    let m = composed.means worlds truth in
    let same = m.of.same own.0 own.1 in
    subst (λ V. IsBoundUnder (IsOfPackage define g worlds V) (maps_of (stated_of types (ItemKind.Component world))) V) (wiring_is worlds bytes m.meant W m.means means)
    (subst (λ x. IsBoundUnder (IsOfPackage define g worlds m.meant) (maps_of x) m.meant) (sym handed.states)
    (meant_bound g own.0 sound acyclic own.1 define worlds truth m.meant same (maps_of (composed_world (composition_of g))) (graph_bound g own.0 sound acyclic met own.1 (is_sound g sound acyclic))))
