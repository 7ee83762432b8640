-- What is asked of a graph is prepared, and its bytes mean the graph's wiring.
use Rattle.std.specs.List.{AllZip}
use Rattle.std.proofs.Common.{◌≡◌, ℕ, Bool, true, false, true≢false, List, [], ◌∷◌, map, Option, Some, None, IsSome, Ok, Err, inl, inr, refl, sym, ap, subst, ◌∙◌}
use Rattle.std.specs.declared.alloc.Global.{Global}
use Rattle.std.specs.declared.vec.Vec.{Vec}
use Rattle.wac_types_base.specs.declared.item.ItemKind.{ItemKind}
use Rattle.wac_types_base.specs.Record.{Collection}
use Rattle.wac_types_base.specs.Entries.{names_of}
use Rattle.wac_types_base.specs.Graph.{Among}
use Rattle.wac_types_base.specs.Collection.{IsAcyclic, Grows}
use Rattle.wac_types_base.specs.Stated.{stated_of}
use Rattle.wac_types_base.proofs.Telling.{tree_stated}
use Rattle.wac_types_base.proofs.Lists.{from_filtered}
use Rattle.wac_types_names.specs.Packaged.{Packaged}
use Rattle.wac_graph_bytes.specs.Typing.{Worlds}
use Rattle.wac_graph_core.specs.declared.ids.PackageId.{PackageId}
use Rattle.wac_graph_core.specs.declared.ids.PackageId.{PackageId}
use Rattle.wac_graph_core.specs.Graph.{Graph, IsGraph, node_at, package_of, package_if, package_made, instantiated}
use Rattle.wac_graph_asks.specs.declared.asks.Asked.{Asked}
use Rattle.wac_graph_asks.specs.declared.asks.Definition.{Definition}
use Rattle.wac_graph_asks.specs.declared.outers.Outers.{Outers}
use Rattle.wac_composition.specs.Composition.{Placed}
use Rattle.wac_composition.proofs.Lists.{mapped_among}
use Rattle.wac_graph_core.specs.Nodes.{NodeData}
use Rattle.wac_graph_asks.specs.Graphs.{composition_of, definition_by, first_export, item_of, nodes_of}
use Rattle.wac_graph_asks.proofs.Origins.{among_mapped as among_passing, node_among}
use Rattle.wac_graph_encode.specs.Worlds.{AreAllDefined, IsToHandOut}
use Rattle.wac_graph_asks.specs.Asked.{package_ids, with_ids, placed_in, KeepsAsked, IsAsked}
use Rattle.wac_graph_asks.specs.Outers.{AnswersOuters, HasImportsAlone}
use Rattle.wac_graph_asks.proofs.Asking.{copy_kept, held_kept, world_kept}
use Rattle.wac_graph_asks.proofs.ByNode.{entry_there}
use Rattle.wac_graph_asks.proofs.Lasting.{outers_stay}
use Rattle.wac_graph_encode.specs.declared.error.BytesError.{BytesError}
use Rattle.wac_graph_causes.specs.Alike.{AreHeld}
use Rattle.wac_graph_causes.specs.Unwritable.{IsWhole}
use Rattle.wac_graph_encode.specs.declared.options.EncodeOptions.{EncodeOptions}
use Rattle.wac_graph_encode.specs.Beginning.{AreTold}
use Rattle.wac_graph_encode.specs.Importing.{AreToImport, AreWorldsOf}
use Rattle.wac_graph_encode.specs.Refused.{FitsProcessor, HasNoneAlike, IsPastSize}
use Rattle.wac_graph_encode.specs.Defining.{AreToWrite}
use Rattle.wac_graph_encode.specs.Encoding.{AreTrueOf, IsComposed, IsOversized, MeansGraph}
use Rattle.wac_graph_encode.specs.Formed.{IsFormed, AreFormed}
use Rattle.wac_graph_encode.specs.Finished.{AreInstantiated, IsPrepared, IsThere, IsUnfit, MeansAsked, MeansImported, MeansNested, NestsBytes, NestsSo, UnfitAsked}
use Rattle.wac_graph_encode.specs.Nesting.{IsTold}
use Rattle.wac_graph_encode.proofs.Importable.{importable}
use Rattle.wac_graph_encode.proofs.Nested.{with_among, nest_packages, nests_packages}
use Rattle.wac_graph_encode.proofs.StandingWirings.{zip_on}
use Rattle.wac_graph_encode.proofs.RootedDefinitions.{nodes_of_definitions}

-- ---- the packages

module _ (define : Bool) (g : Graph) (sound : IsGraph g) (finite_types : IsAcyclic g.types) (w : Worlds) (true_of : AreTrueOf define g w) where
  told_at : (k : ℕ) (n : NodeData) (id : PackageId) → node_at g k ≡ Some n → n.of ≡ Some id → IsTold define g w id
  told_at k n id at of = go (package_of g id) refl ((sound.nodes k n at).of id of)
    where
      go : (o : Option Packaged) → package_of g id ≡ o → IsSome o → IsTold define g w id
      go None e s = absurd (true≢false (sym s))
      go (Some p) e s =
          let made : instantiated g k ≡ Some p = ap (package_made g) at ∙ ap (package_if g) of ∙ e in
          record {
            of = p;
            is = e;
            world = true_of.each k p made ∙ tree_stated g.types finite_types (ItemKind.Instance p.instance_type) (sound.packages.stand id p e).instance;
          }

  pub all_told : (ids : List PackageId) → ids ≡ with_ids [] (package_ids g) → AreTold define g w ids
  all_told ids are id m = elim (with_among [] (package_ids g) id (subst (Among id) are m)) [
    | inl n ↦ absurd n
    | inr k ↦
        let f = from_filtered (λ (e : ℕ × NodeData). e.1.of) (nodes_of g) id k in
        told_at f.0.0 f.0.1 id (entry_there g.nodes f.0 f.1) f.2
  ]

-- ---- the definitions

pub zip_back : {A B : Type 0} (R : A → B → Type 0) (xs : List A) (ys : List B) (y : B) → AllZip R xs ys → Among y ys → (x : A) × Among x xs × R x y
zip_back R [] [] y h m = absurd m
zip_back R [] (z ∷ ys) y h m = absurd h
zip_back R (x ∷ xs) [] y h m = absurd h
zip_back R (x ∷ xs) (z ∷ ys) y h (inl e) = (x, inl refl, subst (R x) (sym e) h.0)
zip_back R (x ∷ xs) (z ∷ ys) y h (inr m) = let r = zip_back R xs ys y h.1 m in (r.0, inr r.1, r.2)

module _ (g : Graph) (a : Asked) (o : Outers) (h : IsPrepared g a o) where
  -- each node that is defined has its definition
  pub all_defined : (d : Collection) (ys : List Definition) → AreFormed g.types d a.definitions.items ys → AreAllDefined g ys
  all_defined d ys formed k x there role =
      let placed : Placed ℕ = record { by = k; name = first_export g.exports k; item = item_of g x } in
      let made : Among placed (composition_of g).definitions = among_passing (λ e. definition_by g e.0 e.1 e.1.role) (nodes_of g) (k, x) placed (node_among g k x there) (ap (definition_by g k x) role) in
      let held = mapped_among (placed_in g.types) a.definitions.items placed (subst (Among placed) (sym h.definitions) made) in
      let y = zip_on (IsFormed g.types d) a.definitions.items ys held.0 formed held.1 in
      (y.0, y.1, y.2.node ∙ sym (ap (λ (p : Placed ℕ). p.by) held.2))

  to_write : (d : Collection) (ys : List Definition) → AreFormed g.types d a.definitions.items ys → AreToWrite g d ys
  to_write d ys formed y m =
      let x = zip_back (IsFormed g.types d) a.definitions.items ys y formed m in
      let n = nodes_of_definitions g a.definitions.items h.definitions x.0 x.1 in
      record {
        node = record {
          node = n.node;
          there = ap (node_at g) x.2.node ∙ n.there;
          role = n.role;
          states = n.states ∙ ap (λ t. stated_of g.types (ItemKind.Ty t)) (sym x.2.ty);
        };
        form = x.2.form;
      }

  module _ (sound : IsGraph g) (finite_types : IsAcyclic g.types) where
    -- with the definitions formed in a collection that has grown
    module _ (options : EncodeOptions) (new : Asked) (definitions : Vec Definition Global) (grows : Grows a.types new.types) (packages : new.packages ≡ a.packages)
        (formed : AreFormed g.types new.types a.definitions.items definitions.items) where
      abbrev ids : List PackageId
      ids = names_of new.packages.entries

      each : AreInstantiated g ids
      each = ap (λ p. names_of p.entries) packages ∙ h.packages

      worlds : AreWorldsOf g new.types new.packages.entries
      worlds id w m = world_kept g a.types new.types grows id w (h.worlds id w (subst (λ ps. Among (id, w) ps.entries) packages m))

      pub there : IsThere g new o definitions.items
      there = (outers_stay _ a.types new.types h.acyclic grows o.world o.places h.outers, worlds, to_write new.types definitions.items formed)

      module _ (bytes : Vec ℕ Global) (means : MeansAsked {E = BytesError} g new o definitions.items options (Ok bytes)) (nests : NestsSo {E = BytesError} options.define_components g ids (Ok bytes)) where
        composed : (d : Bool) → options.define_components ≡ d → AreToImport d g ids → IsComposed d g bytes.items
        composed d e can = record {
          nests = nests_packages g sound d ids bytes.items each (subst (λ b. NestsBytes b g ids bytes.items) e nests);
          means = λ w true_of. subst (λ b. MeansGraph b g w bytes.items) e
              (means there each (subst (λ b. AreToImport b g ids) (sym e) can) w (subst (λ b. AreTold b g w ids) (sym e) (all_told d g sound finite_types w true_of ids each)));
        }

        pub means_nested : MeansNested g options bytes.items
        means_nested define = composed true define tt

        pub means_imported : HasNoneAlike options g → MeansImported g options bytes.items
        means_imported alike define = composed false define (importable g sound options ids define alike each)

      -- entries that do not fit
      module _ (fits : FitsProcessor options) (unfit : UnfitAsked {A = Vec ℕ Global} g new o definitions.items options (Err BytesError.TooLarge)) where
        oversized : (d : Bool) → options.define_components ≡ d → AreToImport d g ids → IsOversized d g
        oversized d e can =
            let u : IsUnfit d g ids = subst (λ b. IsUnfit b g ids) e (unfit fits there each (subst (λ b. AreToImport b g ids) (sym e) can)) in
            record {
              entries = u.entries;
              nest = nest_packages g sound d ids u.entries each u.nested;
              state = λ w true_of. u.state w (all_told d g sound finite_types w true_of ids each);
              unfit = u.unfit;
            }

        pub past_size : IsPastSize options g
        past_size = record {
          nested = λ define. oversized true define tt;
          imported = λ define alike. oversized false define (importable g sound options ids define alike each);
        }

    -- all is there of which the world is made
    pub to_hand_out : (new : Collection) (definitions : List Definition) → Grows a.types new → AreFormed g.types new a.definitions.items definitions → IsToHandOut g new o definitions
    to_hand_out new definitions grows formed = record {
      outers = outers_stay _ a.types new h.acyclic grows o.world o.places h.outers;
      definitions = to_write new definitions formed;
      all = all_defined new definitions formed;
    }

-- it is still held once types are added
pub held_prepared : (g : Graph) (a : Asked) (o : Outers) → IsPrepared g a o → (new : Asked) → Grows a.types new.types → new.packages ≡ a.packages → AreHeld g new o
held_prepared g a o h new grows packages = record {
  packages = ap (λ p. names_of p.entries) packages ∙ h.packages;
  imports = outers_stay _ a.types new.types h.acyclic grows o.world o.places h.outers;
}

pub prepared : (g : Graph) (old new : Asked) (o : Outers) → IsAsked g old → KeepsAsked old new → AnswersOuters old new o → IsPrepared g new o
prepared g old new o asked keeps answers = record {
  acyclic = keeps.grows.acyclic;
  worlds = (held_kept g old new asked.held keeps).worlds;
  packages = ap (λ p. names_of p.entries) keeps.packages ∙ asked.packages;
  definitions = ap (λ (v : Vec Definition Global). map (placed_in g.types) v.items) keeps.definitions ∙ asked.definitions;
  copies = λ x m. copy_kept g.types old.types new.types keeps.grows x.ty x.copy (asked.held.copies x (subst (λ (v : Vec Definition Global). Among x v.items) keeps.definitions m));
  outers = answers g asked;
}

-- all of it is held, with the outer imports alone in their world
pub whole : (g : Graph) (old new : Asked) (o : Outers) → IsAsked g old → KeepsAsked old new → AnswersOuters old new o → HasImportsAlone new.types o.world → IsWhole g new o
whole g old new o asked keeps answers alone = record {
  all = record { packages = ap (λ p. names_of p.entries) keeps.packages ∙ asked.packages; imports = answers g asked };
  held = held_kept g old new asked.held keeps;
  definitions = ap (λ (v : Vec Definition Global). map (placed_in g.types) v.items) keeps.definitions ∙ asked.definitions;
  alone = alone;
}
