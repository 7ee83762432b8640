-- Laws on lists and optional parts, from those on their parts.
use Rattle.std.proofs.Common.{Bool, List}
use Rattle.wac_parser_lexer.specs.declared.token.Token.{Token}
use Rattle.wac_parser_lexer.specs.Items.{Input}
use Rattle.wac_parser_grammar.specs.Laws.{FaultsStand, IsBegun, IsExact, ListFaultsStand, ListsAreExact, OptionalFaultsStand, OptionalsAreExact}
use Rattle.wac_parser_grammar.specs.Rules.{Rule, list_of, optional_of}
use Rattle.wac_parser_grammar.specs.Standing.{IsTooDeep}
use Rattle.wac_parser_grammar.proofs.Exact.{Begins, Exact, Takes, bind, choose_exact, optional_exact, pure_exact}
use Rattle.wac_parser_grammar.proofs.ExactLists.{list_exact}
use Rattle.wac_parser_grammar.proofs.Faithful.{Any, FaithfulBy, bind_faithful, choose_faithful, optional_faithful, pure_faithful}
use Rattle.wac_parser_grammar.proofs.FaithfulLists.{list_faithful}

exactly : {X : Type 0} {p : Rule X} → IsExact p → Exact p
exactly e = record { sound = e.sound; complete = e.complete }

same : {X : Type 0} {p : Rule X} → Exact p → IsExact p
same e = record { sound = e.sound; complete = e.complete }

faithfully : {X : Type 0} {p : Rule X} → FaultsStand p → FaithfulBy (IsTooDeep 128) Any p
faithfully h = record { goes = λ s x r c e. h.goes_on s x r e; stands = λ s f c e. h.stands s f e }

stand : {X : Type 0} {p : Rule X} → FaithfulBy (IsTooDeep 128) Any p → FaultsStand p
stand h = record { goes_on = λ s x r e. h.goes s x r tt e; stands = λ s f e. h.stands s f tt e }

pub lists_exact : {X : Type 0} (first : List Token) (p : Rule X) → IsExact p → IsBegun first p → ListsAreExact first p
lists_exact first p e b until commas = same (list_exact p first until commas (exactly e) (record { begins = b.begins }) (record { takes = b.takes }))

pub list_faults : {X : Type 0} (first : List Token) (p : Rule X) → IsExact p → IsBegun first p → FaultsStand p → ListFaultsStand first p
list_faults first p e b h until commas = stand (list_faithful p first until commas (exactly e) (record { takes = b.takes }) (faithfully h))

pub optionals_exact : {X : Type 0} (p : Rule X) → IsExact p → OptionalsAreExact p
optionals_exact p e x = same (bind _ _ (optional_exact x) (λ found. choose_exact found _ _ (bind _ _ (exactly e) (λ v. pure_exact _)) (pure_exact _)))

pub optional_faults : {X : Type 0} (p : Rule X) → FaultsStand p → OptionalFaultsStand p
optional_faults p h x = stand (bind_faithful _ _ (optional_faithful x) (λ found. choose_faithful found _ _ (bind_faithful _ _ (faithfully h) (λ v. pure_faithful _)) (pure_faithful _)))
