use Rattle.std.proofs.Common.{lit<, Some, None}
use Rattle.std.proofs.lemmas.Str.Pattern.{split_once_first}
use Rattle.wac_names.proofs.NameKinds.{path_only, with_version, without_path}
use Rattle.wac_names.proofs.names.is_interface.Goals as goal

pub returns-in-None-clause-decides : goal.returns-in-None-clause-decides
returns-in-None-clause-decides c =
    path_only c.args.text.now c.as_bytes.result.now c.is_path.result (split_once_first 64 c.args.text.now None c.in-None.ensures.cases (lit< tt)) c.as_bytes.ensures.value c.is_path.ensures

pub returns-then-is_path-clause-decides : goal.returns-then-is_path-clause-decides
returns-then-is_path-clause-decides c =
    with_version c.args.text.now c.in-Some.path.now c.as_bytes-in-Some.result.now c.in-Some.version.now c.is_path-in-Some.result c.is_version.result
    (split_once_first 64 c.args.text.now (Some (c.in-Some.path, c.in-Some.version)) c.in-Some.ensures.cases (lit< tt)) c.as_bytes-in-Some.ensures.value c.is_path-in-Some.ensures c.if-is_path.true c.is_version.ensures

pub returns-else-is_path-clause-decides : goal.returns-else-is_path-clause-decides
returns-else-is_path-clause-decides c =
    without_path c.args.text.now c.in-Some.path.now c.as_bytes-in-Some.result.now c.in-Some.version.now c.is_path-in-Some.result
    (split_once_first 64 c.args.text.now (Some (c.in-Some.path, c.in-Some.version)) c.in-Some.ensures.cases (lit< tt)) c.as_bytes-in-Some.ensures.value c.is_path-in-Some.ensures c.if-is_path.false
