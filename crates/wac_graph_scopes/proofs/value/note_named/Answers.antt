use Rattle.std.proofs.Common.{true, refl, sym, ap, subst}
use Rattle.wac_types_base.specs.Graph.{Among}
use Rattle.wac_graph_scopes.specs.declared.scope.KnownType.{KnownType}
use Rattle.wac_graph_scopes.specs.declared.scope.KnownTypes.{KnownTypes}
use Rattle.wac_graph_scopes.specs.Prints.{ArePrints}
use Rattle.wac_graph_scopes.specs.Known.{FindsPrint}
use Rattle.wac_types_base.proofs.Lists.{last_among}
use Rattle.wac_graph_scopes.proofs.PlaceLaws.{scope_printed, places_printed, known_pushed}
use Rattle.wac_graph_scopes.proofs.StockLaws.{keeps_listed}
use Rattle.wac_graph_scopes.proofs.value.note_named.Goals as goal

pub returns-clause-remembers : goal.returns-clause-remembers
returns-clause-remembers c w outer i h e =
    let types = c.args.types.now in
    let s = c.args.scope.now in
    let ps = c.note_print.new.self in
    let ks : KnownTypes = record s.known { places = ps } in
    let print = c.in_ok-print.ensures h.known.places.prints in
    let numbered = subst (ArePrints types) (sym c.note_print.ensures.prints) print.0 in
    let mid = scope_printed w types outer i s ks refl refl (places_printed types s.known ks refl (ap (λ m. m.entries) c.note_print.ensures.ids) c.note_print.ensures.keeps numbered h.known.places) h in
    c.in_ok-remember.ensures.known w types outer i mid (record { reads = e }) (λ is. (c.requires, subst (FindsPrint ps.by_print.entries) print.1 c.in_ok-note_print.ensures.found))

pub returns-clause-found : goal.returns-clause-found
returns-clause-found c =
    let k : KnownType = record { ty = c.args.ty; index = c.args.index; named = true } in
    (k, subst (Among k) (sym c.in_ok-remember.ensures.all) (last_among _ k), refl, refl)

pub returns-clause-keeps : goal.returns-clause-keeps
returns-clause-keeps c =
    keeps_listed c.args.scope.now c.remember.new.self (known_pushed c.args.scope.now.known.all.items c.remember.new.self.known.all.items _ c.in_ok-remember.ensures.all) c.remember.ensures.resources
