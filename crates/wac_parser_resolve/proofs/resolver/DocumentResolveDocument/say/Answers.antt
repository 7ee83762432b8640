use Rattle.wac_parser_tree.specs.Views.{view_document}
use Rattle.wac_parser_resolve.specs.Knowing.{handed_list}
use Rattle.wac_parser_resolve.specs.Meeting.{resolved}
use Rattle.wac_parser_resolve.proofs.Documented.{error_told}
use Rattle.wac_parser_resolve.proofs.resolver.DocumentResolveDocument.say.Goals as goal

pub returns-in-Ok-clause-outcome : goal.returns-in-Ok-clause-outcome
returns-in-Ok-clause-outcome c = c.in-Ok.ensures.outcome

pub returns-in-Err-clause-outcome : goal.returns-in-Err-clause-outcome
returns-in-Err-clause-outcome c =
    error_told (resolved (view_document c.args.self.now) (handed_list c.args.«packages».now)) c.in-Err.refusal c.into_error.result c.into_error.ensures c.in-Err.ensures.outcome
