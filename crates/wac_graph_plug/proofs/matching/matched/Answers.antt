use Rattle.std.proofs.Common.{sym, subst, ◌∙◌}
use Rattle.std.proofs.lemmas.Bool.{both_ways}
use Rattle.wac_types_base.specs.Entries.{names_of, with_values}
use Rattle.wac_types_base.specs.Stated.{stated_of}
use Rattle.wac_types_base.proofs.Lists.{value_none}
use Rattle.wac_graph_plug.specs.Plugging.{Finds, Matches}
use Rattle.wac_graph_plug.proofs.Near.{finds_there}
use Rattle.wac_graph_plug.proofs.Gathered.{is_match, no_fit, no_find}
use Rattle.wac_graph_plug.proofs.matching.matched.Goals as goal

pub returns-in-None : goal.returns-in-None
returns-in-None c = no_find c.args.types.now c.args.imports.now c.args.name.now c.args.given (rw c.in-None.is at c.in_ok-import.ensures.none)

pub returns-in-None-get : goal.returns-in-None-get
returns-in-None-get c =
    let finds : Finds (names_of c.args.imports.now) c.args.name.now c.in-Some.import.now = rw c.in-Some.is at c.in_ok-import.ensures.found in
    absurd (value_none c.args.imports.now c.in-Some.import.now (sym c.in-None-get.ensures) (finds_there (names_of c.args.imports.now) c.args.name.now c.in-Some.import.now finds))

pub returns-then-not-yes : goal.returns-then-not-yes
returns-then-not-yes c =
    let finds : Finds (names_of c.args.imports.now) c.args.name.now c.in-Some.import.now = rw c.in-Some.is at c.in_ok-import.ensures.found in
    no_fit c.args.types.now c.args.imports.now c.args.name.now c.args.given c.in-Some.import.now c.in-Some-get.asked.now finds (sym c.in-Some-get.ensures)
    (λ fit. both_ways c.in_ok-yes.yes c.if-not-yes.true (c.in_ok-yes.ensures.1 fit))

pub returns : goal.returns
returns c =
    let finds : Finds (names_of c.args.imports.now) c.args.name.now c.in-Some.import.now = rw c.in-Some.is at c.in_ok-import.ensures.found in (
      c.new-export.ensures ∙ c.in_ok-from_str.ensures.ok,
      subst (Matches (with_values (stated_of c.args.types.now) c.args.imports.now) c.args.name.now (stated_of c.args.types.now c.args.given)) (sym (c.new-import.ensures ∙ c.in_ok-from_str-2.ensures.ok))
          (is_match c.args.types.now c.args.imports.now c.args.name.now c.args.given c.in-Some.import.now c.in-Some-get.asked.now finds (sym c.in-Some-get.ensures) (c.in_ok-yes.ensures.0 c.if-not-yes.false)),
    )
