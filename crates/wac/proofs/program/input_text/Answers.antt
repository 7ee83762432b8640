use Rattle.wac.proofs.Refusing.{again_stops, err_stops, no_input, no_text_read}
use Rattle.wac.proofs.program.input_text.Goals as goal

pub returns-in_err-bytes-clause-refused : goal.returns-in_err-bytes-clause-refused
returns-in_err-bytes-clause-refused g c = again_stops c.from_residual.result c.in_err-bytes.field-0.0 c.from_residual.ensures.1 (no_input _ _ _ _) c.in_err-bytes.ensures.refused

pub returns-clause-refused : goal.returns-clause-refused
returns-clause-refused g c = err_stops c.text_of.result (no_text_read _ _ _ _ _ _ c.in_ok-bytes.ensures.whole c.deref.ensures.value) c.text_of.ensures.refused
