use Rattle.wac_names.proofs.NameKinds.{plain_name}
use Rattle.wac_names.proofs.names.is_plain_name.Goals as goal

pub returns : goal.returns
returns c = plain_name c.args.text.now c.is_plain.result c.is_plain.ensures
