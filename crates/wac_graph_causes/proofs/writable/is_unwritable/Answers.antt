use Rattle.std.proofs.Common.{[], refl, inl}
use Rattle.std.proofs.lemmas.Result.{on_ok_weaker, IfOk-weaker}
use Rattle.wac_composition.specs.Writable.{holder}
use Rattle.wac_graph_causes.proofs.DefinitionCauses.{copy_told, rest_told}
use Rattle.wac_graph_causes.proofs.writable.is_unwritable.Goals as goal

pub returns-in-Some-clause-keeps : goal.returns-in-Some-clause-keeps
returns-in-Some-clause-keeps c =
    on_ok_weaker c.is_unwritable_definition.result (λ keeps os s. record { copies = keeps c.args.asked.now (inl refl) (holder [] os) s.copies; rest = s.rest }) c.is_unwritable_definition.ensures.keeps

pub returns-in-None-clause-keeps : goal.returns-in-None-clause-keeps
returns-in-None-clause-keeps c =
    on_ok_weaker c.is_unwritable_definition-in-None.result (λ keeps os s. record { copies = s.copies; rest = keeps c.args.types.now (inl refl) (holder [] os) s.rest }) c.is_unwritable_definition-in-None.ensures.keeps

pub returns-in-Some-clause-tells : goal.returns-in-Some-clause-tells
returns-in-Some-clause-tells c =
    IfOk-weaker c.is_unwritable_definition.result _ _
    (λ b tells knows has os beside. copy_told c.args.types.now c.args.asked.now c.args.definition.now has c.args.outers.now os beside c.as_str-name.result.now c.as_str-name.ensures b c.in-Some.kind c.in-Some.is (tells knows))
    c.is_unwritable_definition.ensures.fails

pub returns-in-None-clause-tells : goal.returns-in-None-clause-tells
returns-in-None-clause-tells c =
    IfOk-weaker c.is_unwritable_definition-in-None.result _ _
    (λ b tells knows has os beside. rest_told c.args.types.now c.args.asked.now c.args.definition.now has c.args.outers.now os beside c.as_str-name.result.now c.as_str-name.ensures b c.in-None.is tells)
    c.is_unwritable_definition-in-None.ensures.simple
