use Rattle.std.proofs.Common.{ℕ, List, map, ap, sym, subst, ◌∙◌}
use Rattle.std.proofs.lemmas.Result.{IfOk-weaker}
use Rattle.wac_types_base.specs.Entries.{Name, names_of}
use Rattle.wac_types_base.specs.Collection.{IsAcyclic}
use Rattle.wac_graph_bytes.specs.declared.entry.Entry.{Entry}
use Rattle.std.specs.Prelude.{IfErr}
use Rattle.wac_graph_bytes.specs.Typing.{Worlds}
use Rattle.wac_graph_bytes.specs.Views.{view}
use Rattle.wac_graph_core.specs.Graph.{Graph}
use Rattle.wac_graph_encode.specs.Standing.{IsFinished}
use Rattle.wac_graph_encode.specs.Writing.{IsBegun}
use Rattle.wac_graph_encode.specs.Beginning.{AreTold, IsBegunRoot}
use Rattle.wac_graph_encode.specs.Encoding.{nested_in, HasUnfit, StateGraph}
use Rattle.wac_graph_encode.specs.Finished.{AreSpelled, IfOfSize, NestsBytes}
use Rattle.wac_graph_encode.specs.Importing.{with_packages}
use Rattle.wac_graph_encode.specs.Ready.{ArePlacedAt, HasPlace, IsReadyWith}
use Rattle.wac_graph_encode.proofs.Nested.{spelled_nests}
use Rattle.wac_graph_encode.proofs.Provided.{provided}
use Rattle.wac_graph_encode.proofs.Finishing.{AsksImported, means_graph, state_graph}
use Rattle.wac_graph_encode.proofs.Imported.{once_with, read_beside}
use Rattle.wac_graph_encode.proofs.RootedDefinitions.{if_ok_both}
use Rattle.wac_graph_encode.proofs.Sources.{denoted_asks, given_asks}
use Rattle.wac_graph_encode.proofs.Refusing.{if_of_size}
use Rattle.wac_graph_scopes.proofs.RefusedLaws.{if_err_map}
use Rattle.wac_graph_encode.proofs.encode.bytes_wired.Goals as goal

pub write_all-requires-clause-placed : goal.write_all-requires-clause-placed
write_all-requires-clause-placed c =
    subst (ArePlacedAt c.write_root.new.root.imports.items) (sym c.requires.places) (c.in_ok-write_root.ensures.holds c.requires.to).placed

pub write_all-requires-clause-ready : goal.write_all-requires-clause-ready
write_all-requires-clause-ready c =
    let x = c.args.writing in
    let g = x.graph.now in
    let root = c.write_root.new.root in
    let held = c.in_ok-write_root.ensures.holds c.requires.to in
    let finite = subst IsAcyclic c.types.ensures c.see_acyclic.ensures in
    subst (λ (ps : List (Name × ℕ)). IsReadyWith c.args.wired.now.graph.now (HasPlace ps) root) (sym c.requires.places)
    (subst (λ (h : Graph). IsReadyWith h (HasPlace x.all.places.now) root) (sym c.requires.graph)
    (provided g c.see_sound.ensures finite x.all.types.now c.see_acyclic-2.ensures x.all.world x.all.places.now c.requires.to.outers (names_of x.worlds.now.entries) x.definitions.now c.requires.all root held.packages held.definitions))

pub returns-clause-means : goal.returns-clause-means
returns-clause-means c = λ same bare to each can w told.
    let x = c.args.writing in
    let g = x.graph.now in
    let define = x.options.now.define_components in
    let types = x.all.types.now in
    let ps = x.worlds.now.entries in
    let places = x.all.places.now in
    let sound = c.see_sound.ensures in
    let finite = subst IsAcyclic c.types.ensures c.see_acyclic.ensures in
    let acyclic = c.see_acyclic-2.ensures in
    let begun : IsBegunRoot x w places c.write_root.new.root = c.in_ok-write_root.ensures.begins to bare w told in
    let all = with_packages define g types ps begun.imports in
    let old = subst (λ (ps : List (Name × ℕ)). IsBegun define w all ps c.args.wired.now.graph.now c.write_root.new.root) (sym c.requires.places)
    (subst (λ (h : Graph). IsBegun define w all places h c.write_root.new.root) (sym same) begun.begun) in
    let es = c.write_all.new.self.root.entries.items in
    let done = subst (λ (h : Graph). IsFinished h w define all es) same (c.in_ok-names.ensures.finishes define w all old) in
    let asks : AsksImported g = record {
      nodes = denoted_asks g sound finite types acyclic x.all.world places to.outers;
      instances = given_asks g sound finite types acyclic x.all.world places to.outers;
    } in
    let once = once_with g sound w types ps to.worlds each begun.imports begun.once begun.asked es define can in
    let beside = read_beside g sound w types ps to.worlds each begun.imports begun.once begun.asked es define can done in
    let spelled = c.bytes_of_entries.ensures.spelled in
    if_ok_both c.bytes_of_entries.result spelled spelled
    (λ bytes a b. means_graph define g sound asks w all es once done beside bytes.items (subst (λ (xs : List Entry). AreSpelled (map view xs) bytes.items) c.deref.ensures.value a))

pub returns-clause-unfit : goal.returns-clause-unfit
returns-clause-unfit c = λ same bare fits to each can.
    let x = c.args.writing in
    let g = x.graph.now in
    let define = x.options.now.define_components in
    let types = x.all.types.now in
    let ps = x.worlds.now.entries in
    let places = x.all.places.now in
    let sound = c.see_sound.ensures in
    let finite = subst IsAcyclic c.types.ensures c.see_acyclic.ensures in
    let acyclic = c.see_acyclic-2.ensures in
    let es = c.write_all.new.self.root.entries.items in
    let asks : AsksImported g = record {
      nodes = denoted_asks g sound finite types acyclic x.all.world places to.outers;
      instances = given_asks g sound finite types acyclic x.all.world places to.outers;
    } in
    let state : (w : Worlds) → AreTold define g w (names_of ps) → StateGraph define g w (map view es) = λ w told. (
    let begun : IsBegunRoot x w places c.write_root.new.root = c.in_ok-write_root.ensures.begins to bare w told in
    let all = with_packages define g types ps begun.imports in
    let old = subst (λ (ps : List (Name × ℕ)). IsBegun define w all ps c.args.wired.now.graph.now c.write_root.new.root) (sym c.requires.places)
    (subst (λ (h : Graph). IsBegun define w all places h c.write_root.new.root) (sym same) begun.begun) in
    let done = subst (λ (h : Graph). IsFinished h w define all es) same (c.in_ok-names.ensures.finishes define w all old) in
    let once = once_with g sound w types ps to.worlds each begun.imports begun.once begun.asked es define can in
    let beside = read_beside g sound w types ps to.worlds each begun.imports begun.once begun.asked es define can done in
    state_graph define g sound asks w all es once done beside
    ) in
    let unfit = subst (λ (xs : List Entry). IfErr c.bytes_of_entries.result (IfOfSize (HasUnfit (map view xs)))) c.deref.ensures.value (c.bytes_of_entries.ensures.unfit fits) in
    if_err_map c.bytes_of_entries.result
    (λ f. if_of_size f (λ none. record { entries = map view es; nested = c.in_ok-names.ensures.nests ∙ c.in_ok-write_root.ensures.nests bare; state = state; unfit = none })) unfit

pub returns-clause-nests : goal.returns-clause-nests
returns-clause-nests c bare =
    let x = c.args.writing in
    let g = x.graph.now in
    let define = x.options.now.define_components in
    let ids = names_of x.worlds.now.entries in
    IfOk-weaker c.bytes_of_entries.result (λ bytes. AreSpelled (map view c.deref.result.now) bytes.items) (λ bytes. NestsBytes define g ids bytes.items)
    (λ bytes a. spelled_nests define g ids (map view c.deref.result.now) bytes.items
    (ap (λ (xs : List Entry). nested_in (map view xs)) c.deref.ensures.value ∙ c.in_ok-names.ensures.nests ∙ c.in_ok-write_root.ensures.nests bare) a) c.bytes_of_entries.ensures.spelled
