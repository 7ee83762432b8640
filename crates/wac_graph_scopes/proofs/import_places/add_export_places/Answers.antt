use Rattle.std.proofs.Common.{◌+◌, ◌++◌, ◌∷◌, [], take, sym, ap, subst, arith}
use Rattle.std.proofs.lemmas.List.{append-nil}
use Rattle.wac_types_base.specs.Entries.{names_of, value_at}
use Rattle.wac_graph_scopes.specs.Imports.{all_exports, own_places, FindsFirst}
use Rattle.wac_types_parts.proofs.PartLaws.{name_at}
use Rattle.wac_graph_scopes.proofs.FoundLaws.{first_next, own_places_next}
use Rattle.wac_graph_scopes.proofs.import_places.add_export_places.Goals as goal
use Rattle.wac_graph_scopes.proofs.import_places.add_export_places.Goals.{in-Some+in_ok-add_place, in_default}

pub loop-at-init : goal.loop-at-init
loop-at-init c n = ap (λ l. value_at l n) (sym (append-nil c.args.found.now))

pub loop-at-preserved : goal.loop-at-preserved
loop-at-preserved c =
    let old = c.args.found.now in
    let is = all_exports c.args.all in
    let ns = names_of is in
    let at = c.loop-at.at in
    let found = c.loop-at.found in
    elim c.match-world_export_at.branch [
      | in-Some+in_ok-add_place w ↦
          let item = w.in-Some.item in
          let new = w.add_place.new.found in
          let more = first_next new found (old ++ own_places 0 (take at ns)) ((item.name.now, at) ∷ []) w.in_ok-add_place.ensures c.loop-at.invariant in
          subst (λ l. FindsFirst l (old ++ own_places 0 (take (at + 1) ns))) (sym w.found-is) (subst (FindsFirst new) (own_places_next old ns at item.name.now (name_at is at item.name.now item.kind w.in-Some.ensures.entry)) more)
      | in_default w ↦ absurd (omega (arith, w.in_default.ensures.none, c.loop-at-test.true, c.world_export_count-at-end.ensures.len))
    ]
