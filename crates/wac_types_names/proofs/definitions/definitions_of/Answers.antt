use Rattle.std.proofs.Common.{◌∙◌}
use Rattle.std.specs.Prelude.{string_bytes}
use Rattle.wac_types_names.proofs.Copied.{export_stands}
use Rattle.wac_types_names.proofs.Defining.{new_definition, next_defined, next_passed, first_definitions}
use Rattle.wac_types_names.proofs.definitions.definitions_of.Goals as goal
use Rattle.wac_types_names.proofs.definitions.definitions_of.Goals.{in-Some+in_ok-from_str+in_ok-push, in_default}

pub definition_of-requires : goal.definition_of-requires
definition_of-requires c = export_stands c.args.types.now c.world.ensures.acyclic c.args.world c.world.result.now c.world.ensures.entry c.world.ensures.own c.loop-at.at c.entry.result.0.now c.entry.result.1.now c.entry.ensures

pub loop-at-init : goal.loop-at-init
loop-at-init c = first_definitions c.args.types.now c.world.result.now.exports c.new-found.result c.new-found.ensures

pub push-requires : goal.push-requires
push-requires c =
    new_definition c.args.types.now c.world.result.now.exports c.loop-at.found c.loop-at.at c.entry.result.0.now c.entry.result.1.now c.entry.ensures c.loop-at.invariant (string_bytes c.in_ok-from_str.field-0) c.len-at-end.ensures.distinct c.in_ok-from_str.ensures.ok

pub loop-at-preserved : goal.loop-at-preserved
loop-at-preserved c =
    elim c.match-branch-2.branch [
      | in-Some+in_ok-from_str+in_ok-push w ↦
          next_defined c.args.types.now c.world.result.now.exports c.loop-at.found c.loop-at.at c.entry.result.0.now c.entry.result.1.now c.entry.ensures c.loop-at.invariant (string_bytes w.in_ok-from_str.field-0) w.in-Some.means c.match-branch-2.found w.in_ok-from_str.ensures.ok
          (rw w.in-Some.is at c.in_ok-means.ensures) (w.found-is ∙ w.in_ok-push.ensures.ok)
      | in_default w ↦
          next_passed c.args.types.now c.world.result.now.exports c.loop-at.found c.loop-at.at c.entry.result.0.now c.entry.result.1.now c.entry.ensures c.loop-at.invariant c.match-branch-2.found (rw w.in_default.is at c.in_ok-means.ensures) w.found-is
    ]
