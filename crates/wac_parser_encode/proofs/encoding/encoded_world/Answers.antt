use Rattle.std.proofs.Common.{subst}
use Rattle.std.proofs.lemmas.Result.{IfOk-weaker}
use Rattle.wac_types_base.specs.Collection.{IsAcyclic}
use Rattle.wac_parser_encode.proofs.Meaning.{all_processed, all_worlds, imports_processed}
use Rattle.wac_parser_encode.proofs.Refused.{sources_told, memory_refused, refuses_processed, free_processed}
use Rattle.wac_parser_encode.proofs.encoding.encoded_world.Goals as goal

pub returns-in-Ok-clause-ascribed : goal.returns-in-Ok-clause-ascribed
returns-in-Ok-clause-ascribed c =
    all_processed c.args.graph.now c.args.options c.in-Ok.options c.encode_world.result (λ e. e.bytes.items) c.in-Ok.ensures c.see_sound.ensures (subst IsAcyclic c.types.ensures c.see_acyclic.ensures) c.encode_world.ensures.means

pub returns-in-Ok-clause-resolved : goal.returns-in-Ok-clause-resolved
returns-in-Ok-clause-resolved c =
    all_worlds c.args.graph.now c.in-Ok.options c.encode_world.result c.see_sound.ensures (subst IsAcyclic c.types.ensures c.see_acyclic.ensures) c.encode_world.ensures.free c.encode_world.ensures.world

pub returns-in-Ok-clause-imported : goal.returns-in-Ok-clause-imported
returns-in-Ok-clause-imported c =
    imports_processed c.args.graph.now c.args.options c.in-Ok.options c.encode_world.result (λ e. e.bytes.items) c.in-Ok.ensures c.see_sound.ensures (subst IsAcyclic c.types.ensures c.see_acyclic.ensures) c.encode_world.ensures.imports

pub returns-in-Ok-clause-free : goal.returns-in-Ok-clause-free
returns-in-Ok-clause-free c =
    free_processed c.args.graph.now c.args.options c.in-Ok.options c.encode_world.result c.in-Ok.ensures c.see_sound.ensures (subst IsAcyclic c.types.ensures c.see_acyclic.ensures) c.encode_world.ensures.free

pub returns-in-Ok-clause-refused : goal.returns-in-Ok-clause-refused
returns-in-Ok-clause-refused c =
    refuses_processed c.args.graph.now c.args.options c.in-Ok.options c.encode_world.result c.in-Ok.ensures c.see_sound.ensures (subst IsAcyclic c.types.ensures c.see_acyclic.ensures) c.encode_world.ensures.refused

pub returns-in-Err-clause-refused : goal.returns-in-Err-clause-refused
returns-in-Err-clause-refused c = memory_refused c.args.graph.now c.args.options

pub returns-in-Ok-clause-source : goal.returns-in-Ok-clause-source
returns-in-Ok-clause-source c = sources_told c.args.graph.now c.in-Ok.options c.encode_world.result c.encode_world.ensures.refused

pub returns-in-Ok-clause-processor : goal.returns-in-Ok-clause-processor
returns-in-Ok-clause-processor c = IfOk-weaker c.encode_world.result _ _ (λ e t. (c.in-Ok.options.processor, c.in-Ok.ensures.processor, t)) c.encode_world.ensures.processor
