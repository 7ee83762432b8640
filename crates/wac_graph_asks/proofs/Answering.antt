-- The world and the names of the classes of asks are the outer imports of the asks.
use Rattle.std.specs.Map.{keys_of}
use Rattle.std.specs.Option.{option_map}
use Rattle.std.proofs.Common.{◌≡◌, ℕ, true, true≢false, List, [], is_some, IsSome, Option, Some, None, Result, Ok, Err, IsOk, IfOk, IfErr, OnOk, slice_get, refl, sym, ap, subst, ◌∙◌}
use Rattle.std.proofs.lemmas.Result.{IfOk-weaker, on_ok_weaker}
use Rattle.std.proofs.lemmas.List.{length-map}
use Rattle.wac_types_base.specs.declared.ids.WorldId.{WorldId}
use Rattle.wac_types_base.specs.declared.item.ItemKind.{ItemKind}
use Rattle.wac_types_base.specs.declared.defined.World.{World}
use Rattle.wac_types_base.specs.Record.{Collection}
use Rattle.wac_types_base.specs.Entries.{Name, value_at}
use Rattle.wac_types_base.specs.Graph.{Among}
use Rattle.wac_types_base.specs.Collection.{Stands, HasChildren, IsAcyclic, Grows, world_entry}
use Rattle.wac_types_base.specs.Stated.{Stated, stated_of}
use Rattle.wac_types_base.specs.Tree.{tree}
use Rattle.wac_types_base.specs.Fits.{Fits}
use Rattle.wac_types_base.proofs.Looked.{among-get}
use Rattle.wac_types_base.proofs.Loops.{map-get}
use Rattle.wac_types_base.proofs.Lists.{from_place}
use Rattle.wac_types_written.specs.Forms.{ItemsStand, UsesStand, stated_items}
use Rattle.wac_types_written.proofs.Ids.{world_children}
use Rattle.wac_graph_core.specs.Graph.{Graph}
use Rattle.wac_types_parts.specs.Parts.{imports_of}
use Rattle.wac_composition.specs.Asks.{Ask, named_asks, asks_of}
use Rattle.wac_composition.specs.Classes.{class, spelled, spelling}
use Rattle.wac_composition.specs.Merging.{kept as kept_of, identified}
use Rattle.wac_composition.specs.Again.{IsWell}
use Rattle.wac_composition.specs.OuterImports.{asked_in, outer_of, outer_imports}
use Rattle.wac_composition.specs.OuterLaws.{IsMet}
use Rattle.wac_composition.specs.Conflicts.{merge_conflict}
use Rattle.wac_composition.proofs.OuterClasses.{asks_are_met}
use Rattle.wac_composition.proofs.Lists.{mapped_among}
use Rattle.wac_merging.specs.Named.{NamesDiffer}
use Rattle.wac_merging.specs.Labelled.{each_label, LabelClasses}
use Rattle.wac_merging.proofs.Labels.{class_is_labelled}
use Rattle.wac_merging.proofs.Outers.{labels_are_of_classes, outers_are_stated}
use Rattle.wac_merging.proofs.Well.{stated_are_well}
use Rattle.wac_graph_asks.specs.declared.asks.Ask.{Ask as HeldAsk}
use Rattle.wac_graph_asks.specs.declared.asks.Asked.{Asked}
use Rattle.wac_graph_asks.specs.declared.classes.Classes.{Classes}
use Rattle.wac_graph_asks.specs.declared.error.OuterError.{OuterError}
use Rattle.wac_graph_asks.specs.declared.outers.Outers.{Outers}
use Rattle.wac_graph_asks.specs.declared.taken.Taken.{Taken}
use Rattle.wac_graph_asks.specs.Graphs.{composition_of}
use Rattle.wac_graph_asks.specs.AsksIn.{ask_in, asks_in}
use Rattle.wac_graph_asks.specs.Asked.{IsAsked, IsAskedOnce}
use Rattle.wac_graph_asks.specs.AskedUses.{HasSame}
use Rattle.wac_graph_asks.specs.Classed.{AreLabels, AreSpellings}
use Rattle.wac_graph_asks.specs.Takes.{AreSound, AreTaken, TakesAll, AreMerged, IfConflict, RefusesAll, HasNoneLabelled, conflict_in, ConflictsFor, HasNoConflict}
use Rattle.wac_graph_asks.specs.Imported.{ImportsAlone, AreImports, AreClassed, AddsImports, ArePlaces, OutersOf, PutsAllPlaces}
use Rattle.wac_graph_asks.specs.Outers.{IsSpelledAt, AreOuters, AnswersOuters}
use Rattle.wac_graph_asks.proofs.Asking.{asks_kept}
use Rattle.wac_graph_asks.proofs.Importing.{imports_stand, imports_stay}
use Rattle.wac_graph_asks.proofs.Merged.{all_merged, refused_labelled}
use Rattle.wac_graph_asks.proofs.Once.{asked_once_keeps, asked_once_imports, asked_once_conflicts, asked_once_tells}
use Rattle.wac_graph_asks.proofs.Repeating.{once_of_all, behind_has}
use Rattle.wac_graph_asks.proofs.TakingMore.{if_conflict}

-- ---- of asks as they are held

module _ (c : Collection) (held : List HeldAsk) (labels : List ℕ) (are : AreLabels (asks_in c held) labels) (merged : AreMerged (asks_in c held)) (d : Collection) (world : WorldId) (places : List (Name × ℕ))
    (imports : AreImports d (asks_in c held) labels (each_label labels) (imports_of d world)) (names : ArePlaces held labels places) where
  abbrev asks : List (Ask ℕ)
  asks = asks_in c held

  label_classes : LabelClasses asks labels
  label_classes = labels_are_of_classes asks labels are

  all_met : (a : Ask ℕ) → Among a asks → IsMet asks a
  all_met a m = go (kept_of (asked_in (class asks a))) refl (merged a m)
    where
      go : (o : Option Stated) → kept_of (asked_in (class asks a)) ≡ o → is_some o ≡ true → IsMet asks a
      go None e s = absurd (true≢false (sym s))
      go (Some x) e s =
          let n = spelled (class asks a) in
          let met = asks_are_met asks a n (identified n (asked_in (class asks a)) x) m (ap (option_map (λ y. (n, identified n (asked_in (class asks a)) y))) e) in
          record { item = identified n (asked_in (class asks a)) x; there = ap (value_at (outer_imports asks)) met.0 ∙ met.1; fits = met.2 }

  all_placed : (n : Name) (at : ℕ) → value_at places n ≡ Some at → IsSpelledAt asks d world n at
  all_placed m at v =
      let n = names.each m at v in
      let o = from_place (λ (e : ℕ × (Name × ItemKind)). e.0) imports.outers at n.label (ap (λ ls. slice_get ls at) imports.of_labels ∙ n.at) in
      let e = o.0.1 in
      let import = imports.each_is n.label e (subst (λ l. Among (l, e) imports.outers) o.2 (among-get imports.outers at o.0 o.1)) in
      let there : slice_get (imports_of d world) at ≡ Some e = ap (λ es. slice_get es at) (sym imports.are) ∙ map-get (λ (x : ℕ × (Name × ItemKind)). x.1) imports.outers at o.0 o.1 in
      let ask = ask_in c n.ask in
      let asked : slice_get asks n.place ≡ Some ask = map-get (ask_in c) held n.place n.ask n.there in
      let own = class_is_labelled asks labels n.place n.label ask label_classes asked n.of_label in
      let met = asks_are_met asks ask e.0 (stated_of d e.1) (among-get asks n.place ask asked) (ap outer_of own ∙ import.outer) in
      (e.1, there ∙ ap (λ m. Some (m, e.1)) (sym (ap (spelling asks) n.named ∙ met.0)))

  all_named : (a : Ask ℕ) → Among a asks → IsSome (value_at places a.name)
  all_named a m = let x = mapped_among (ask_in c) held a m in subst (λ (b : Ask ℕ). IsSome (value_at places b.name)) (sym x.2) (names.all x.0 x.1)

  outers_are : Stands d (ItemKind.Component world) → AreOuters asks d world places
  outers_are stands = record {
    stands = stands;
    imports = ap (stated_items d) (sym imports.are) ∙ sym (outers_are_stated d asks labels imports.outers label_classes imports.of_labels (λ l e m. (imports.each_is l e m).outer));
    distinct = imports.distinct;
    met = all_met;
    placed = all_placed;
    named = all_named;
  }

-- the classes of asks are the same while the collection grows
pub classed_still : (c d : Collection) → Grows c d → (held : List HeldAsk) (classes : Classes) → AreClassed c held classes → AreClassed d held classes
classed_still c d g held classes a =
    let same = asks_kept c d g held a.stand in
    record {
      stand = λ x m. g.stand x.item (a.stand x m);
      labels = subst (λ asks. AreLabels asks classes.labels.items) (sym same) a.labels;
      spellings = subst (λ asks. AreSpellings asks classes.labels.items classes.spellings.items) (sym same) a.spellings;
    }

-- what the asks keep is what they keep in the collection that grew
pub taken_still : (c d : Collection) → Grows c d → (held : List HeldAsk) (classes : Classes) (taken : List (ℕ × Taken)) → AreSound c held → AreClassed c held classes → TakesAll c held classes.labels.items d taken
    → AreTaken d held (asks_in d held) classes.labels.items taken
taken_still c d g held classes taken sound a takes =
    subst (λ asks. AreTaken d held asks classes.labels.items taken) (sym (asks_kept c d g held a.stand)) (takes sound (a.labels.as_many ∙ length-map held (ask_in c)))

outers_made : (c mid d : Collection) (held : List HeldAsk) (classes : Classes) (taken : List (ℕ × Taken)) (o : Outers) → Grows c mid → TakesAll c held classes.labels.items mid taken
    → AddsImports mid held classes taken d (imports_of d o.world) → PutsAllPlaces held classes.labels.items (keys_of taken) o.places → Stands d (ItemKind.Component o.world) → OutersOf c held classes d o
outers_made c mid d held classes taken o g takes adds names stands sound a =
    let labels = classes.labels.items in
    let same = asks_kept c mid g held a.stand in
    let many = a.labels.as_many ∙ length-map held (ask_in c) in
    let t : AreTaken mid held (asks_in c held) labels taken = takes sound many in
    let imports = adds (classed_still c mid g held classes a) (taken_still c mid g held classes taken sound a takes) in
    outers_are c held labels a.labels (all_merged c mid held labels taken takes sound a.labels) d o.world o.places
    (subst (λ asks. AreImports d asks labels (each_label labels) (imports_of d o.world)) same imports) (names many t.keys) stands

pub outers_so : {E : Type 0} (r : Result Outers E) (c mid d : Collection) (held : List HeldAsk) (classes : Classes) (taken : List (ℕ × Taken)) → Grows c mid → TakesAll c held classes.labels.items mid taken
    → IfOk r (λ o. AddsImports mid held classes taken d (imports_of d o.world)) → IfOk r (λ o. PutsAllPlaces held classes.labels.items (keys_of taken) o.places) → IfOk r (λ o. Stands d (ItemKind.Component o.world)) → IfOk r (OutersOf c held classes d)
outers_so (Ok o) c mid d held classes taken g takes imports names stands = outers_made c mid d held classes taken o g takes imports names stands
outers_so (Err e) c mid d held classes taken g takes imports names stands = tt

-- ---- of the graph that asks so

module _ (all list : List (Ask ℕ)) (once : IsAskedOnce all list) (well : (a : Ask ℕ) → Among a list → IsWell a.item) (c : Collection) (world : WorldId) (places : List (Name × ℕ)) (h : AreOuters list c world places) where
  spell : (n : Name) → spelling all n ≡ spelling list n
  spell = (asked_once_keeps all list once well).spelled

  same_imports : outer_imports all ≡ outer_imports list
  same_imports = asked_once_imports all list once well

  met_again : (a : Ask ℕ) → Among a all → IsMet all a
  met_again a m =
      let s : HasSame list a = behind_has once a m in
      let k = h.met s.other s.among in
      record {
        item = k.item;
        there = ap (value_at (outer_imports all)) (spell a.name ∙ ap (spelling list) (sym s.name)) ∙ ap (λ es. value_at es (spelling list s.other.name)) same_imports ∙ k.there;
        fits = subst (λ x. Fits (tree k.item) (tree x)) s.item k.fits;
      }

  pub outers_of_all : AreOuters all c world places
  outers_of_all = record {
    stands = h.stands;
    imports = h.imports ∙ sym same_imports;
    distinct = h.distinct;
    met = met_again;
    placed = λ n at v. let k = h.placed n at v in (k.0, k.1 ∙ ap (λ m. Some (m, k.0)) (sym (spell n)));
    named = λ a m. let s : HasSame list a = behind_has once a m in subst (λ n. IsSome (value_at places n)) s.name (h.named s.other s.among);
  }

-- ---- what is answered

module _ (old : Asked) (acyclic : IsAcyclic old.types) (differ : NamesDiffer old.types) (g : Graph) (asked : IsAsked g old) where
  abbrev all : List (Ask ℕ)
  all = asks_of (composition_of g)

  abbrev list : List (Ask ℕ)
  list = asks_in old.types old.asks.items

  once : IsAskedOnce all list
  once = subst (IsAskedOnce all) (sym asked.asks) (once_of_all (named_asks (composition_of g)) asked.once)

  sound : AreSound old.types old.asks.items
  sound = record { stand = asked.held.items; differ = differ }

  well : (a : Ask ℕ) → Among a list → IsWell a.item
  well a m =
      let x = mapped_among (ask_in old.types) old.asks.items a m in
      subst (λ (b : Ask ℕ). IsWell b.item) (sym x.2) (stated_are_well old.types x.0.item acyclic differ (asked.held.items x.0 x.1))

  same_conflicts : conflict_in g ≡ merge_conflict list [] list
  same_conflicts = asked_once_conflicts all list once well

module _ {E : Type 0} (r : Result Outers E) (old new : Asked) (classes : Classes) (acyclic : IsAcyclic old.types) (differ : NamesDiffer old.types) (labels : AreLabels (asks_in old.types old.asks.items) classes.labels.items)
    (spellings : AreSpellings (asks_in old.types old.asks.items) classes.labels.items classes.spellings.items) where
  pub answers : IfOk r (OutersOf old.types old.asks.items classes new.types) → IfOk r (AnswersOuters old new)
  answers = IfOk-weaker r (OutersOf old.types old.asks.items classes new.types) (AnswersOuters old new) of
    where
      of : (o : Outers) → OutersOf old.types old.asks.items classes new.types o → AnswersOuters old new o
      of o outers g asked =
          outers_of_all (all old acyclic differ g asked) (list old acyclic differ g asked) (once old acyclic differ g asked) (well old acyclic differ g asked) new.types o.world o.places
          (outers (sound old acyclic differ g asked) (record { stand = asked.held.items; labels = labels; spellings = spellings }))

pub answers_free : {T E : Type 0} (r : Result T E) (old : Asked) (labels : List ℕ) → IsAcyclic old.types → NamesDiffer old.types → AreLabels (asks_in old.types old.asks.items) labels → OnOk r (HasNoneLabelled old.types old.asks.items labels) → OnOk r (HasNoConflict old)
answers_free r old labels acyclic differ are = on_ok_weaker r (λ none g asked. same_conflicts old acyclic differ g asked ∙ none (sound old acyclic differ g asked) are)

pub answers_refused : {T : Type 0} (r : Result T OuterError) (old : Asked) (labels : List ℕ) → IsAcyclic old.types → NamesDiffer old.types → AreLabels (asks_in old.types old.asks.items) labels → IfErr r (λ e. IfConflict e (RefusesAll old.types old.asks.items labels))
    → IfErr r (λ e. IfConflict e (ConflictsFor old))
answers_refused (Ok x) old labels acyclic differ are h = tt
answers_refused (Err e) old labels acyclic differ are h =
    if_conflict e (λ cause source refuses g asked. (
    let r = refused_labelled old.types old.asks.items labels cause source (sound old acyclic differ g asked) are refuses in
    (same_conflicts old acyclic differ g asked ∙ r.0, asked_once_tells source (all old acyclic differ g asked) (list old acyclic differ g asked) (once old acyclic differ g asked) (well old acyclic differ g asked) r.1)
    )) h

-- ---- the world

pub filled_so : {T E F : Type 0} (r : Result T E) (v : T) (added : Result (Unit {0}) F) (P : T → Type 0) → IfOk r (λ w. w ≡ v) → IfOk r (λ w. IsOk added) → OnOk added (P v) → IfOk r P
filled_so (Ok w) v (Ok u) P is ok h = subst P (sym is) h
filled_so (Ok w) v (Err e) P is ok h = absurd (true≢false (sym ok))
filled_so (Err e) v added P is ok h = tt

-- a world of the imports of classes names what stands
pub world_names_standing : (c d : Collection) (held : List HeldAsk) (classes : Classes) (taken : List (ℕ × Taken)) (w : World) → AreClassed c held classes → AreTaken c held (asks_in c held) classes.labels.items taken → ImportsAlone w
    → AddsImports c held classes taken d w.imports → HasChildren d (world_entry w)
world_names_standing c d held classes taken w a t alone adds =
    world_children d w (subst (UsesStand d) (sym alone.uses) (λ u m. absurd m)) (imports_stand (asks_in c held) classes.labels.items d (each_label classes.labels.items) w.imports (adds a t))
    (subst (ItemsStand d) (sym alone.exports) (λ x m. absurd m))

-- a world that stands in a collection that has grown has the imports that were added
pub world_made : (c d e : Collection) (held : List HeldAsk) (classes : Classes) (taken : List (ℕ × Taken)) (imports : List (Name × ItemKind)) (w : WorldId) → Grows d e → imports_of e w ≡ imports → AddsImports c held classes taken d imports
    → AddsImports c held classes taken e (imports_of e w)
world_made c d e held classes taken imports w g is adds a t =
    subst (AreImports e (asks_in c held) classes.labels.items (each_label classes.labels.items)) (sym is) (imports_stay (asks_in c held) classes.labels.items d e g (each_label classes.labels.items) imports (adds a t))
