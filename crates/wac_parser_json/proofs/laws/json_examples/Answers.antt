use Rattle.wac_parser_json.proofs.Exemplified.{target_text, result_text, comment_text}
use Rattle.wac_parser_json.proofs.laws.json_examples.Goals as goal

pub returns : goal.returns
returns c = record { target = target_text; result_alone = result_text; escaped = comment_text }
