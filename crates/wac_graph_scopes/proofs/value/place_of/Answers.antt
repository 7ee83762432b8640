use Rattle.std.proofs.Common.{refl}
use Rattle.wac_types_base.specs.declared.item.ItemKind.{ItemKind}
use Rattle.wac_types_fit.specs.Trees.{tree_in}
use Rattle.wac_graph_scopes.specs.declared.scope.KnownTypes.{KnownTypes}
use Rattle.wac_graph_scopes.proofs.PlaceLaws.{scope_printed, places_printed, no_print, no_prints, if_none_from}
use Rattle.wac_graph_scopes.proofs.value.place_of.Goals as goal

pub returns-clause-keeps : goal.returns-clause-keeps
returns-clause-keeps c w outer i h =
    let types = c.args.types.now in
    let s = c.args.scope.now in
    let ks : KnownTypes = record s.known { places = record s.known.places { prints = c.of.new.self } } in
    scope_printed w types outer i s ks refl refl (places_printed types s.known ks refl refl (λ n f. f) (c.in_ok-print.ensures h.known.places.prints).0 h.known.places) h

pub returns-in_err-print-clause-keeps : goal.returns-in_err-print-clause-keeps
returns-in_err-print-clause-keeps c w outer i h =
    let types = c.args.types.now in
    let s = c.args.scope.now in
    let ks : KnownTypes = record s.known { places = record s.known.places { prints = c.of.new.self } } in
    scope_printed w types outer i s ks refl refl (places_printed types s.known ks refl refl (λ n f. f) (c.of.ensures h.known.places.prints).0 h.known.places) h

pub returns-then-is_empty-clause-none : goal.returns-then-is_empty-clause-none
returns-then-is_empty-clause-none c h =
    let types = c.args.types.now in
    let s = c.args.scope.now in
    no_print types s.known (tree_in types (ItemKind.Value c.args.ty)) (no_prints s.known.places.by_print.entries _ (c.if-is_empty.ensures.0 refl)) h.3.known.places

pub returns-clause-none : goal.returns-clause-none
returns-clause-none c h =
    let types = c.args.types.now in
    let s = c.args.scope.now in
    let print = (c.in_ok-print.ensures h.3.known.places.prints).1 in
    if_none_from c.place_of_print.result _ (λ e. no_print types s.known (tree_in types (ItemKind.Value c.args.ty)) (λ f. absurd (cc (e, c.place_of_print.ensures, print, f.1))) h.3.known.places)
