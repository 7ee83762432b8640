use Rattle.std.proofs.Common.{ℕ, ◌++◌, ◌∷◌, [], take, sym, ap, subst}
use Rattle.std.proofs.lemmas.List.{append-nil}
use Rattle.wac_types_base.specs.Entries.{Name, value_at}
use Rattle.wac_graph_scopes.specs.Imports.{FindsFirst}
use Rattle.wac_graph_scopes.proofs.FoundLaws.{first_next, asked_next}
use Rattle.wac_graph_scopes.proofs.import_places.add_asked_names.Goals as goal

pub loop-at-init : goal.loop-at-init
loop-at-init c n = ap (λ l. value_at l n) (sym (append-nil c.args.found.now))

pub loop-at-preserved : goal.loop-at-preserved
loop-at-preserved c =
    let old = c.args.found.now in
    let ps = c.args.all.places.now in
    let at = c.loop-at.at in
    let found = c.loop-at.found in
    let new = c.add_place.new.found in
    let x : Name × ℕ = (c.entry.result.0.now, c.entry.result.1.now) in
    subst (FindsFirst new) (asked_next old ps at x c.entry.ensures) (first_next new found (old ++ take at ps) (x ∷ []) c.in_ok-add_place.ensures c.loop-at.invariant)
