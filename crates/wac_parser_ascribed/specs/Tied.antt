-- What the graph of a resolved document has to do with what the document ascribes.
use Rattle.std.specs.Prelude.{◌≡◌, ◌==◌, ℕ, zero, suc, Bool, List, [], ◌∷◌, Option, Some, None, Ok, option_map, if◌then◌else◌}
use Rattle.wac_types_base.specs.Collection.{IsAcyclic}
use Rattle.wac_types_base.specs.Entries.{Name}
use Rattle.wac_types_base.specs.Stated.{Stated}
use Rattle.wac_types_names.specs.Packaged.{Packaged}
use Rattle.wac_types_names.specs.Keys.{Key, package_key}
use Rattle.wac_graph_bytes.specs.Wirings.{Tag, OfBytes, Instantiation, Wiring, Same}
use Rattle.wac_graph_core.specs.Graph.{Graph, IsGraph, instantiated}
use Rattle.wac_composition.specs.Alike.{IsAlike}
use Rattle.wac_composition.specs.Asks.{asks_of}
use Rattle.wac_composition.specs.Conflicts.{first_cause, name_cause}
use Rattle.wac_composition.specs.OuterImports.{outer_imports}
use Rattle.wac_composition.specs.OuterLaws.{AreMet}
use Rattle.wac_composition.specs.Renaming.{cause_renamed, renamed}
use Rattle.wac_composition.specs.Wired.{composed_wiring}
use Rattle.wac_composition.specs.Worlds.{composed_world}
use Rattle.wac_graph_asks.specs.Graphs.{composition_of}
use Rattle.wac_graph_asks.specs.Wirings.{IsGraphWiring}
use Rattle.wac_parser_tree.specs.Trees as t
use Rattle.wac_parser_declare.specs.Packages.{Content}
use Rattle.wac_parser_declare.specs.Scope.{package_under}
use Rattle.wac_parser_resolve.specs.Ascribed.{Asker, by_import, by_instance, by_definition, asker_key, composition}
use Rattle.wac_parser_resolve.specs.Ascribing.{Import, Made, State}
use Rattle.wac_parser_resolve.specs.InDocuments.{IsBuilt}
use Rattle.wac_parser_resolve.specs.Meeting.{resolved}
use Rattle.wac_parser_resolve.specs.Resolved.{Places, asker_place, import_place}

-- ---- nodes and what they stand for

-- the place of a number among them
abbrev pub place_of : List ℕ → ℕ → ℕ
place_of [] k = zero
place_of (j ∷ js) k = if j == k then zero else suc (place_of js k)

-- what stands at that place of another list
abbrev pub partner : {A : Type 0} → List ℕ → List A → ℕ → Option A
partner [] xs k = None
partner (j ∷ js) [] k = None
partner (j ∷ js) (x ∷ xs) k = if j == k then Some x else partner js xs k

abbrev pub asker_by : Option Import → Option Made → Asker
asker_by (Some i) m = by_import i
asker_by None (Some m) = by_instance m.key m.span
asker_by None None = by_definition

-- who asks in the document what a node asks, where these nodes are its imports and its instances
abbrev pub asker_of : (imports instances : List ℕ) → State → ℕ → Asker
asker_of imports instances s k = asker_by (partner imports s.imports k) (partner instances s.made k)

-- the places that are told of the node are those of the one who asks
abbrev pub IsPlaced : Places → ℕ → Asker → Type 0
IsPlaced at k (by_import i) = (import_place at k ≡ i.span) × (asker_place at k ≡ i.id_span)
IsPlaced at k (by_instance key s) = asker_place at k ≡ s
IsPlaced at k by_definition = Unit {0}

-- ---- the packages handed in

abbrev pub handed_bytes : Option Content → List ℕ
handed_bytes None = []
handed_bytes (Some x) = x.bytes

-- an instance is made of the bytes that were handed in under its key
abbrev pub handed_tag : List (Key × Content) → Key → Tag
handed_tag ps k = OfBytes (handed_bytes (package_under ps k))

-- the wiring that a document ascribes over the packages that are handed in, where they are nested
abbrev pub ascribed_wiring : State → Wiring ℕ
ascribed_wiring s = composed_wiring (handed_tag s.packages) (composition s)

-- a wiring of the graph but for its tags: an instance has that of its package's key
pub record IsTagged (tag : Key → Tag) (g : Graph) (W V : Wiring ℕ) : Type 0 where
  pub outers : (n : Name) → V.outers n ≡ W.outers n
  pub instances : (k : ℕ) (p : Packaged) (x : Instantiation ℕ) → instantiated g k ≡ Some p → W.at k ≡ Some x
      → V.at k ≡ Some (record { tag = tag (package_key p); args = x.args })
  pub no_other : (k : ℕ) → instantiated g k ≡ None → V.at k ≡ None
  pub exports : (n : Name) → V.exports n ≡ W.exports n

-- ---- the tie

-- With those who ask in the document for nodes, and numbers for instances, the graph is the composition that the document
-- ascribes: what stands against the one stands against the other, their worlds are one, what is asked is met alike, and their
-- wirings are one, whatever tags packages have. Each node stands where the one stands who asks for it, and an instance's has the
-- key of its package.
pub record IsAscribed (g : Graph) (at : Places) (s : State) : Type 0 where
  pub asker : ℕ → Asker
  pub number : ℕ → ℕ
  pub placed : (k : ℕ) → IsPlaced at k (asker k)
  pub keys : (k : ℕ) (p : Packaged) → instantiated g k ≡ Some p → asker_key (asker k) ≡ package_key p
  pub alike : IsAlike (renamed asker number (composition_of g)) (composition s)
  pub cause : (define : Bool)
      → first_cause define (composition s) ≡ option_map (cause_renamed asker) (first_cause define (composition_of g))
  pub handed : (k : ℕ) (p : Packaged) → instantiated g k ≡ Some p
      → handed_bytes (package_under s.packages (package_key p)) ≡ p.bytes
  pub names : (define validate : Bool)
      → name_cause define validate (composition s)
      ≡ option_map (cause_renamed asker) (name_cause define validate (composition_of g))
  pub world : composed_world (composition s) ≡ composed_world (composition_of g)
  pub met : AreMet (composition_of g) → AreMet (composition s)
  pub tagged : (tag : Key → Tag) (W V : Wiring ℕ) → IsGraphWiring g W → IsTagged tag g W V
      → Same (composed_wiring tag (composition s)) V
  pub wired : (W : Wiring ℕ) → IsGraphWiring g W → Same (ascribed_wiring s) W

abbrev pub Graphs_are_ascribed : Type 0
Graphs_are_ascribed = (d : t.Document) (ps : List (Key × Content)) (r : State × Option Stated) (g : Graph) (at : Places)
    → resolved d ps ≡ Ok r → IsGraph g → IsAcyclic g.types → IsBuilt g at r.0 → IsAscribed g at r.0
