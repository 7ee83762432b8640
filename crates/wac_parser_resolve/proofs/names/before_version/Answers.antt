use Rattle.std.proofs.Common.{lit<, Some, None}
use Rattle.std.proofs.lemmas.Str.Pattern.{split_once_first}
use Rattle.wac_parser_resolve.proofs.Matching.{no_mark}
use Rattle.wac_parser_resolve.proofs.names.before_version.Goals as goal

pub returns-in-Some : goal.returns-in-Some
returns-in-Some c = (split_once_first 64 c.args.name.now (Some (c.in-Some.front, c.in-Some._version)) c.in-Some.ensures.cases (lit< tt)).1

pub returns-in-None : goal.returns-in-None
returns-in-None c = no_mark c.args.name.now (split_once_first 64 c.args.name.now None c.in-None.ensures.cases (lit< tt))
