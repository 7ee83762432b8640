use Rattle.std.proofs.Common.{◌++◌, subst, append_assoc}
use Rattle.std.proofs.lemmas.Result.{on_ok_weaker}
use Rattle.wac_types_base.specs.Entries.{names_of}
use Rattle.wac_graph_scopes.specs.Imports.{all_imports, own_places, FindsFirst}
use Rattle.wac_graph_scopes.proofs.FoundLaws.{first_next}
use Rattle.wac_graph_scopes.proofs.imports.ImportScope.begin.Goals as goal

pub returns-clause-found : goal.returns-clause-found
returns-clause-found c =
    let a = c.args.all in
    let old = c.args.self.now.found in
    let asked = a.places.now in
    let own = own_places 0 (names_of (all_imports a)) in
    let both = first_next c.add_places.new.found c.add_asked_names.new.found (old ++ asked) own c.in_ok-add_places.ensures c.in_ok-add_asked_names.ensures in
    on_ok_weaker c.add_empty.result (λ _. subst (FindsFirst c.add_places.new.found) (append_assoc old asked own) both) c.add_empty.ensures.none
