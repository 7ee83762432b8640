use Rattle.std.specs.Prelude.{⊤}
use Rattle.std.proofs.Common.{[], List, subst, sym}
use Rattle.wac_types_base.specs.Entries.{Name}
use Rattle.wac_parser_tree.specs.Views.{view_world_include_item}
use Rattle.wac_parser_refusals.specs.Causes.{Answer, each}
use Rattle.wac_parser_refusals.specs.Outcomes.{IsRefusal}
use Rattle.wac_parser_refusals.proofs.Outcomes.{refused_outcome}
use Rattle.wac_parser_declare.specs.InIncludes.{renamings}
use Rattle.wac_parser_declare.specs.Worlds.{with_name}
use Rattle.wac_parser_declare.proofs.Loops.{each_stops}
use Rattle.wac_parser_declare.proofs.includes.check_with_names.Goals as goal

pub returns-in_err-add_with_name : goal.returns-in_err-add_with_name
returns-in_err-add_with_name c =
    let all = each with_name [] (renamings c.args.with.now.items) in
    let e = c.in_err-add_with_name.field-0.0 in
    record {
      outcome = refused_outcome (λ (ns : List Name) (u : ⊤). ⊤) all _ _ c.from_residual.ensures.1
          (subst (λ (q : Answer (List Name)). IsRefusal q e) (sym c.loop-item.invariant)
          (each_stops with_name view_world_include_item c.deref-item-items.result.now c.loop-item.item-index c.loop-item.found _ e c.loop-item-test.true c.in_err-add_with_name.ensures.outcome));
    }
