use Rattle.wac.proofs.Refusing.{told_line}
use Rattle.wac.proofs.program.tell.Goals as goal

pub returns-in-Refused : goal.returns-in-Refused
returns-in-Refused g c = told_line c.in-Refused.text c.in-Refused.span c.args.stop c.as_str.result.now c.line_of.result _ _ c.in-Refused.is c.as_str.ensures.value c.line_of.ensures c.tell_line.ensures
