use Rattle.std.proofs.Common.{subst}
use Rattle.std.specs.Prelude.{⊤}
use Rattle.wac_types_base.specs.Entries.{names_of, value_at}
use Rattle.wac_parser_refusals.specs.Views.{Names}
use Rattle.wac_parser_refusals.proofs.Outcomes.{memory_outcome}
use Rattle.wac_parser_resolve.specs.Ascribing.{State, speak_of}
use Rattle.wac_parser_resolve.specs.InExports.{ident_of}
use Rattle.wac_parser_resolve.specs.Said.{IsSaid}
use Rattle.wac_parser_resolve.specs.Saying.{exported}
use Rattle.wac_parser_resolve.proofs.ExportStates.{conflict_refused, beside_it, exported_ok, graph_refused, held_over, none_defined, refused_over, said_exported}
use Rattle.wac_parser_resolve.proofs.state.State.export.Goals as goal

pub returns-in-Some-clause-outcome : goal.returns-in-Some-clause-outcome
returns-in-Some-clause-outcome c own s d said dn =
    let u = speak_of s d in
    let b = c.args.self.now in
    let n = ident_of c.args.name in
    refused_over d c.args.name.is_helped n s c.export_conflict.result
    (conflict_refused b u d c.args.name c.in-Some.other c.word_of-word.result.now c.export_conflict.result
    (c.in-Some.ensures.found (names_of b.board.instances.noted.items) u said.board.says.root said.scope) c.word_of-word.ensures c.export_conflict.ensures)

pub returns-in_err-note-in-Ok-clause-outcome : goal.returns-in_err-note-in-Ok-clause-outcome
returns-in_err-note-in-Ok-clause-outcome c own s d said dn =
    memory_outcome (λ (q : State) (u : ⊤). IsSaid own (beside_it c.args.self.now c.export.new.graph c.note.new.self) q) (exported d c.args.name.is_helped s (ident_of c.args.name)) c.from_residual.result c.from_residual.ensures.1

pub returns-in_ok-note-in-Ok-clause-outcome : goal.returns-in_ok-note-in-Ok-clause-outcome
returns-in_ok-note-in-Ok-clause-outcome c own s d said dn =
    let u = speak_of s d in
    let b = c.args.self.now in
    let g = b.board.types.graph in
    let n = ident_of c.args.name in
    let ms = names_of b.board.instances.noted.items in
    let free = none_defined g ms (value_at u.root n.string) c.definition_of.result c.in_default.not-Some (c.definition_of.ensures.found ms u said.board.says.root said.scope) in
    held_over (λ (q : State) (u : ⊤). IsSaid own (beside_it b c.export.new.graph c.note.new.self) q) d c.args.name.is_helped n s _
    (exported_ok own b u said c.export.ensures.before d c.args.name free c.export.new.graph c.args.node c.in-Ok.ensures.exported)
    (said_exported own b c.export.new.graph c.note.new.self c.args.node n.string u d n.span said dn c.in-Ok.ensures.exported c.in_ok-note-in-Ok.ensures.noted)

pub returns-in-Err-clause-outcome : goal.returns-in-Err-clause-outcome
returns-in-Err-clause-outcome c own s d said dn =
    let u = speak_of s d in
    let b = c.args.self.now in
    let g = b.board.types.graph in
    let n = ident_of c.args.name in
    let ms = names_of b.board.instances.noted.items in
    let free = none_defined g ms (value_at u.root n.string) c.definition_of.result c.in_default.not-Some (c.definition_of.ensures.found ms u said.board.says.root said.scope) in
    refused_over d c.args.name.is_helped n s c.named.result
    (graph_refused own b u said c.export.ensures.before d c.args.name free c.in-Err.fault c.named.result c.in-Err.ensures.refused
    (subst (Names c.named.result) c.export_fault.ensures c.named.ensures))
