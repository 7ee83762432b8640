use Rattle.std.proofs.Common.{ap, sym, ◌∙◌, arith}
use Rattle.wac_types_base.specs.Entries.{names_of, put_name}
use Rattle.wac_types_base.proofs.Looked.{put_name-new, distinct-before, take-one_more}
use Rattle.std.proofs.lemmas.Result.{on_ok_weaker}
use Rattle.wac_types_parts.specs.Parts.{imports_of}
use Rattle.wac_types_parts.proofs.PartLaws.{name_at}
use Rattle.wac_graph_causes.proofs.late.add_import_name.Goals as goal

pub returns-in-Some : goal.returns-in-Some
returns-in-Some c =
    let is = imports_of c.args.types.now c.args.world in
    let ns = names_of is in
    let n = c.in-Some.import.name.now in
    let at = name_at is c.args.at n c.in-Some.import.kind c.in-Some.ensures.entry in
    on_ok_weaker c.add_standing.result
    (λ e. e ∙ ap (λ l. put_name l n) c.requires.before ∙ put_name-new _ n (distinct-before ns c.args.at n c.requires.distinct at) ∙ sym (take-one_more ns c.args.at n at)) c.add_standing.ensures

pub returns-in-None : goal.returns-in-None
returns-in-None c = absurd (omega (arith, c.in-None.ensures.none, c.requires.within))
