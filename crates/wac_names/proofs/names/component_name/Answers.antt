use Rattle.wac_names.specs.declared.names.NameKind.TheVariants as kind
use Rattle.wac_names.proofs.NameKinds.{kind_at}
use Rattle.wac_names.proofs.names.component_name.Goals as goal

pub returns-then-is_plain_name-clause-kind : goal.returns-then-is_plain_name-clause-kind
returns-then-is_plain_name-clause-kind c = kind_at kind.Plain c.args.text.now c.as_bytes.result.now c.is_plain_name.result c.as_bytes.ensures.value c.is_plain_name.ensures c.if-is_plain_name.true

pub returns-then-is_dependency_name-clause-kind : goal.returns-then-is_dependency_name-clause-kind
returns-then-is_dependency_name-clause-kind c =
    kind_at kind.Dependency c.args.text.now c.as_bytes-2.result.now c.is_dependency_name.result c.as_bytes-2.ensures.value c.is_dependency_name.ensures c.if-is_dependency_name.true

pub returns-then-is_url-clause-kind : goal.returns-then-is_url-clause-kind
returns-then-is_url-clause-kind c = kind_at kind.Url c.args.text.now c.as_bytes-3.result.now c.is_url.result c.as_bytes-3.ensures.value c.is_url.ensures c.if-is_url.true

pub returns-then-is_hash-clause-kind : goal.returns-then-is_hash-clause-kind
returns-then-is_hash-clause-kind c = kind_at kind.Hash c.args.text.now c.as_bytes-4.result.now c.is_hash.result c.as_bytes-4.ensures.value c.is_hash.ensures c.if-is_hash.true
