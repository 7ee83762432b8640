-- What the rule of documents reads of a source is what the source spells.
use Rattle.std.proofs.Common.{◌≡◌, ◌≢◌, ◌<◌, ◌≤◌, Bool, true, false, List, ℕ, Result, Ok, Err, IfErr, arith}
use Rattle.wac_parser_lexer.specs.Items.{Input}
use Rattle.wac_parser_tree.specs.declared.document.Document.{Document}
use Rattle.wac_parser_tree.specs.Views.{view_document}
use Rattle.wac_parser_grammar.specs.declared.error.Error.{Error}
use Rattle.wac_parser_grammar.specs.declared.error.Error.TheVariants.{Memory}
use Rattle.wac_parser_grammar.specs.Faults.{fault_of}
use Rattle.wac_parser_grammar.specs.Laws.{DocumentFaultsStand, StandsIn}
use Rattle.wac_parser_grammar.specs.Rules.{left}
use Rattle.wac_parser_grammar.specs.Reads.{ReadsSource}
use Rattle.wac_parser_grammar.specs.Documents as s
use Rattle.wac_parser_grammar.specs.FormDepths.{DocumentsAreTheirForms}
use Rattle.wac_parser_read.specs.Parsing.{LeavesFewer, Parses}

pub parsed : DocumentsAreTheirForms → (source : List ℕ) (r : Result Document Error) → ReadsSource view_document s.document source r → Parses source r
parsed law source (Ok d) e = (law source (view_document d)).0 e
parsed law source (Err e) h = λ named x is. absurd (cc (h named, (law source x).1 is))

pub stood : DocumentFaultsStand → (source : List ℕ) (r : Result Document Error) → ReadsSource view_document s.document source r → IfErr r (λ e. e ≢ Memory → StandsIn source (fault_of e))
stood law source (Ok d) h = tt
stood law source (Err e) h = λ named. law source (fault_of e) (h named)

-- ---- items that are left

pub fewer_left : (b : Bool) (r s : Input) → b ≡ true → LeavesFewer b r s → left r < left s
fewer_left true r s e h = h
fewer_left false r s e h = cc

pub no_more_left : (b : Bool) (r s : Input) → LeavesFewer b r s → left r ≤ left s
no_more_left true r s h = omega (arith, h)
no_more_left false r s h = h
