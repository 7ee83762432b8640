-- The bytes of entries that are finished mean the wiring of the graph.
use Rattle.std.specs.List.{AllByRecursion, AllZip}
use Rattle.std.specs.Prelude.{option_map}
use Rattle.std.proofs.Common.{◌≡◌, ℕ, Bool, true, false, List, [], ◌∷◌, ◌++◌, map, Option, Some, None, IsSome, inl, inr, refl, sym, ap, subst, ◌∙◌}
use Rattle.wac_types_base.specs.Entries.{AreDistinct, Name, names_of}
use Rattle.wac_types_base.specs.Graph.{Among}
use Rattle.wac_types_base.specs.Tree.{Tree}
use Rattle.wac_types_fit.proofs.Items.{among-value_at}
use Rattle.wac_types_names.specs.Packaged.{Packaged}
use Rattle.wac_graph_bytes.specs.declared.value.Sort.{Sort}
use Rattle.wac_graph_bytes.specs.declared.entry.Entry.{Entry as CodeEntry}
use Rattle.wac_graph_bytes.specs.declared.entry.Processor.{Processor}
use Rattle.wac_graph_bytes.specs.Entries.{Entry, entries_of}
use Rattle.wac_graph_bytes.specs.Spelling.{component_bytes}
use Rattle.wac_graph_bytes.specs.Typing.{Worlds, Meaning, item_tree}
use Rattle.wac_graph_bytes.specs.Wirings.{Tag, Source, Absent, Instantiation, Wiring}
use Rattle.wac_graph_bytes.specs.Meaning.{IsApart, IsMade, IsMadeOf, Listed, States, is_package, source_at, start, steps, wiring_of}
use Rattle.wac_graph_bytes.specs.Views.{view, processor_view}
use Rattle.wac_graph_bytes.specs.Writing.{sections_for, sections_fit}
use Rattle.wac_graph_bytes.proofs.Written.{sections_entries, sections_small}
use Rattle.wac_graph_core.specs.Graph.{Graph, IsGraph, instantiated}
use Rattle.wac_graph_asks.specs.Wirings.{asked_trees}
use Rattle.wac_graph_encode.specs.Standing.{by_number, number_in, IsExported, IsFinished, IsInstanceOf, IsListed, StandsFor}
use Rattle.wac_graph_encode.specs.Encoding.{as_written, tag_of, IsImportedIn, IsInstantiated, IsOfGraph, MeansGraph, StateGraph, TellsProcessor}
use Rattle.wac_graph_encode.specs.Finished.{AreSpelled}
use Rattle.wac_graph_encode.proofs.Sources.{IsAsked, asks_renamed, asks_weaker}
use Rattle.wac_graph_encode.proofs.StandingWirings.{among_zip, tagged_wiring, written_wiring}

pub spelled_so : (es : List Entry) (p : Option (Name × Name)) (ns : List (Sort × List (ℕ × Name))) (old out : List ℕ) → old ≡ [] → (out ≡ old ++ component_bytes (sections_for es p ns)) × (sections_fit es p ns ≡ true) → AreSpelled es out
spelled_so es p ns old out none h = record {
  sections = sections_for es p ns;
  entries = sections_entries es p ns;
  spelled = h.0 ∙ ap (λ (t : List ℕ). t ++ component_bytes (sections_for es p ns)) none;
  fits = sections_small es p ns h.1;
}

pub tells_so : (o p : Option Processor) → o ≡ p → (es : List Entry) (ns : List (Sort × List (ℕ × Name))) (old out : List ℕ) → old ≡ []
    → out ≡ old ++ component_bytes (sections_for es (option_map processor_view o) ns) → TellsProcessor p out
tells_so o p same es ns old out none h = record {
  entries = es;
  names = ns;
  spelled = h ∙ ap (λ (t : List ℕ). t ++ component_bytes (sections_for es (option_map processor_view o) ns)) none
      ∙ ap (λ (q : Option Processor). component_bytes (sections_for es (option_map processor_view q) ns)) same;
}

-- ---- what is finished is whole: no name stands twice, and no package is a source

all_of : {X : Type 0} (P : X → Type 0) (xs : List X) → ((x : X) → Among x xs → P x) → AllByRecursion P xs
all_of P [] h = tt
all_of P (x ∷ xs) h = (h x (inl refl), all_of P xs (λ y m. h y (inr m)))

zip_names : {A B : Type 0} (R : Name × A → Name × B → Type 0) → ((x : Name × A) (y : Name × B) → R x y → y.0 ≡ x.0) → (xs : List (Name × A)) (ys : List (Name × B)) → AllZip R xs ys → names_of ys ≡ names_of xs
zip_names R h [] [] z = refl
zip_names R h [] (y ∷ ys) z = absurd z
zip_names R h (x ∷ xs) [] z = absurd z
zip_names R h (x ∷ xs) (y ∷ ys) z = ap (λ n. n ∷ names_of ys) (h x y z.0) ∙ ap (λ ns. x.0 ∷ ns) (zip_names R h xs ys z.1)

-- the source under a name that stands there
source_there : (xs : List (Name × Source ℕ)) (y : Name × Source ℕ) → AreDistinct (names_of xs) → Among y xs → source_at xs y.0 ≡ y.1
source_there xs y once m = ap (λ (o : Option (Source ℕ)). elim o [ None ↦ Absent | Some s ↦ s ]) (among-value_at xs y.0 y.1 once m)

-- what is needed of a graph beside what is finished: how its outer imports and packages stand in what is read
pub record IsReadBeside (define : Bool) (g : Graph) (l : Listed) : Type 0 where
  pub outers : (n : Name) → asked_trees g n ≡ (wiring_of l).outers n
  pub apart : (n : Name) → IsSome (asked_trees g n) → is_package n l.instances ≡ false
  pub named : (p : Packaged) → IsInstantiated g p → IsMadeOf (tag_of define p)
  pub packages : (p : Packaged) → IsInstantiated g p → IsImportedIn define g p l.imports

-- its sources ask what is imported
pub record AsksImported (g : Graph) : Type 0 where
  pub nodes : (k : ℕ) (s : Source ℕ) → StandsFor g k s → IsAsked g s
  pub instances : (k : ℕ) (p : Packaged) (x : Instantiation ℕ) → instantiated g k ≡ Some p → IsInstanceOf g k p x → (n : Name) → IsAsked g (x.args n)

module _ (define : Bool) (g : Graph) (sound : IsGraph g) (asks : AsksImported g) (w : Worlds) (asked : List (Name × Tree)) (es : List CodeEntry) (once : AreDistinct (names_of asked)) (done : IsFinished g w define asked es)
    (beside : IsReadBeside define g done.state.listed) where
  abbrev listed : Listed
  listed = done.state.listed

  abbrev order : List ℕ
  order = done.order

  -- a source of the graph, by numbers
  apart : (s : Source ℕ) → IsAsked g s → IsApart listed (by_number order s)
  apart s h = asks_renamed (λ n. is_package n listed.instances ≡ false) (number_in order) s (asks_weaker (λ n. IsSome (asked_trees g n)) (λ n. is_package n listed.instances ≡ false) beside.apart s h)

  made : (x : Tag × List (Name × Source ℕ)) → Among x listed.instances → IsMade listed x
  made x m =
      let a = among_zip (IsListed g w define order) order listed.instances done.instances x m in
      record {
        made_of = subst IsMadeOf (sym a.1.tag) (beside.named a.1.of (a.0, a.1.is));
        distinct = a.1.once;
        apart = all_of (λ y. IsApart listed y.1) x.1 (λ y k. subst (IsApart listed) (sym (a.1.given y.0) ∙ source_there x.1 y a.1.once k) (apart (a.1.instance.args y.0) (asks.instances a.0 a.1.of a.1.instance a.1.is a.1.bound y.0)));
      }

  exported : (e : Name × Source ℕ) → Among e listed.exports → IsApart listed e.1
  exported e m =
      let a = among_zip (IsExported g w define order) done.listing listed.exports done.exports e m in
      subst (IsApart listed) (sym a.1.is) (apart a.1.source (asks.nodes a.0.1 a.1.source a.1.denotes))

  -- entries that are these state the wiring
  states : (t : List Entry) → t ≡ map view es → States w t (wiring_of listed)
  states t same = record {
    last = done.state;
    read = ap (λ (l : List Entry). steps w start l) same ∙ done.reads;
    wired = refl;
    stated = subst (λ (ss : List (Meaning × Tree)). AllByRecursion (λ s. item_tree w s.0 ≡ Some s.1) ss) (sym done.stated) tt;
    imports = subst (λ (xs : List (Name × Tree)). AreDistinct (names_of xs)) (sym done.imports) once;
    instances = all_of (IsMade listed) listed.instances made;
    exports = subst AreDistinct (sym (zip_names (IsExported g w define order) (λ x y z. z.name) done.listing listed.exports done.exports)) done.rearranged.distinct;
    exports_apart = all_of (λ e. IsApart listed e.1) listed.exports exported;
  }

  of_graph : IsOfGraph define g (wiring_of listed) listed.imports
  of_graph = record {
    same = λ W wires. written_wiring define g sound w asked es done (as_written define g W) (tagged_wiring define g W wires) (λ n. outers_written define n W ∙ wires.outers n ∙ beside.outers n);
    packages = beside.packages;
  }
    where
      outers_written : (d : Bool) (n : Name) (W : Wiring ℕ) → (as_written d g W).outers n ≡ W.outers n
      outers_written true n W = refl
      outers_written false n W = refl

  pub state_graph : StateGraph define g w (map view es)
  unfolding states
  state_graph = record { meant = wiring_of listed; states = states (map view es) refl; of = of_graph }

  pub means_graph : (bytes : List ℕ) → AreSpelled (map view es) bytes → MeansGraph define g w bytes
  unfolding states
  means_graph bytes s = record {
    meant = wiring_of listed;
    means = record { sections = s.sections; spelled = s.spelled; fits = s.fits; states = states (entries_of s.sections) s.entries };
    of = of_graph;
  }
