use Rattle.wac_writable.proofs.ValueLaws.{root_lacking}
use Rattle.wac_writable.proofs.writable.handle_fails.Goals as goal

pub returns : goal.returns
returns c s h w = root_lacking c.args.test.types.now c.see_acyclic.ensures c.args.id c.root_name.result.now h c.has_root.result s c.root_name.ensures (c.has_root.ensures c.args.test.types.now h w)
