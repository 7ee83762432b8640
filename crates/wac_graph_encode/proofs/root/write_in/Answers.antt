use Rattle.std.proofs.Common.{List, [], Option, None, inr, sym, subst}
use Rattle.std.proofs.lemmas.Result.{on_ok_weaker}
use Rattle.wac_types_base.specs.Entries.{AreDistinct, names_of}
use Rattle.wac_types_base.specs.Graph.{Among}
use Rattle.wac_types_base.specs.Collection.{IsAcyclic}
use Rattle.wac_graph_bytes.specs.Typing.{Worlds}
use Rattle.wac_graph_scopes.specs.declared.imports.SortIndex.{SortIndex}
use Rattle.wac_graph_scopes.specs.Imports.{WritesOn, WritesAllImports}
use Rattle.wac_graph_scopes.proofs.ImportLaws.{GoesOn-refl}
use Rattle.wac_graph_encode.specs.Beginning.{IsRooted}
use Rattle.wac_graph_encode.specs.Defining.{AreDefined}
use Rattle.wac_graph_encode.specs.Ready.{ArePlacedAt}
use Rattle.wac_graph_encode.proofs.Beginning.{all_placed}
use Rattle.wac_graph_encode.proofs.RootedOuters.{outers_stand, imports_asked}
use Rattle.wac_graph_encode.proofs.root.write_in.Goals as goal

pub returns-clause-begins : goal.returns-clause-begins
returns-clause-begins c to bare w told =
    let g = c.args.writing.graph.now in
    let a = c.args.writing.all in
    let finite = subst IsAcyclic c.types.ensures c.see_acyclic.ensures in
    let acyclic = c.see_acyclic-2.ensures in
    let all : WritesAllImports w a.types.now [] a.world c.write_outers.new.scope [] = c.in_ok-write_outers.ensures c.requires w [] in
    let from = all.1.writing.inside in
    let base : WritesOn w a.types.now [] a.world from c.write_outers.new.scope all.0 [] = record { goes = all.1; on = GoesOn-refl from } in
    let scope = c.write_definitions.new.scope in
    let are : AreDefined g w a from all.0 c.args.writing.definitions.now scope c.in_ok-nodes.nodes.entries c.in_ok-nodes.early.entries = c.in_ok-nodes.ensures c.see_sound.ensures to.definitions w from all.0 base in
    let goes = are.holds.written.goes in
    let rooted : IsRooted g w a.places.now goes.writing.inside c.in_ok-nodes.nodes.entries c.in_ok-nodes.early.entries scope.places.items = record {
      nodes_stand = are.holds.stand;
      are_early = are.holds.exported;
      outers_stand = outers_stand g c.see_sound.ensures finite a.types.now acyclic a.world a.places.now to.outers w goes.writing.inside scope.places.items goes.placed;
    } in
    on_ok_weaker c.write_packages.result
    (λ begun. record {
      imports = goes.writing.inside.imports;
      once = subst AreDistinct (sym goes.writing.imports) goes.writing.imports_once;
      asked = imports_asked g c.see_sound.ensures finite a.types.now acyclic a.world a.places.now to.outers w scope all.0 goes all.2;
      begun = begun;
    })
    (c.write_packages.ensures.begins w a.world all.0 a.places.now goes bare to.worlds told rooted)

pub returns-clause-nests : goal.returns-clause-nests
returns-clause-nests c bare = c.write_packages.ensures.nests bare

pub returns-clause-holds : goal.returns-clause-holds
returns-clause-holds c to =
    let x = c.args.writing in
    let g = x.graph.now in
    let a = x.all in
    let w : Worlds = λ tag. None in
    let all : WritesAllImports w a.types.now [] a.world c.write_outers.new.scope [] = c.in_ok-write_outers.ensures c.requires w [] in
    let from = all.1.writing.inside in
    let base : WritesOn w a.types.now [] a.world from c.write_outers.new.scope all.0 [] = record { goes = all.1; on = GoesOn-refl from } in
    let scope = c.write_definitions.new.scope in
    let are : AreDefined g w a from all.0 x.definitions.now scope c.in_ok-nodes.nodes.entries c.in_ok-nodes.early.entries = c.in_ok-nodes.ensures c.see_sound.ensures to.definitions w from all.0 base in
    let placed = all_placed w g a.types.now a.world a.places.now to.outers scope all.0 are.holds.written.goes all.2 in
    on_ok_weaker c.write_packages.result
    (λ h. record {
      placed = subst (λ (ps : List (Option SortIndex)). ArePlacedAt ps a.places.now) (sym h.imports) placed;
      packages = λ id m. h.packages id (inr m);
      definitions = λ d m. subst (λ ns. Among d.node (names_of ns.entries)) (sym h.nodes) (are.all d m);
    })
    c.write_packages.ensures.holds
