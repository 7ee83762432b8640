use Rattle.std.proofs.Common.{◌+◌, take, sym, subst, inl, inr, arith}
use Rattle.std.proofs.lemmas.Result.{IfOk-weaker, on_ok_weaker}
use Rattle.wac_types_base.specs.Graph.{Among}
use Rattle.wac_types_base.specs.Entries.{Name, names_of}
use Rattle.wac_types_base.proofs.Looked.{distinct-before}
use Rattle.wac_types_parts.specs.Parts.{uses_of}
use Rattle.wac_graph_scopes.proofs.WritingLaws.{take_more, take_last}
use Rattle.std.proofs.lemmas.Option.{slice_get_within}
use Rattle.wac_graph_scopes.proofs.StockLaws.{use_same}
use Rattle.wac_graph_scopes.proofs.stock.take_use_at.Goals as goal

pub returns-in-Some-clause-takes : goal.returns-in-Some-clause-takes
returns-in-Some-clause-takes c w outer around k =
    let names = names_of (uses_of c.args.all.types.now c.args.all.id) in
    let n = c.in-Some.used.name.now in
    let at = c.args.at in
    let fresh : Among n c.args.given.now → ⊥ = λ m. distinct-before names at n c.requires c.in-Some.ensures.name (k.before_it n m) in
    IfOk-weaker c.take_named.result _ _ (λ u p. record {
      writing = p.0;
      before_it = λ m among. elim (p.1 m among) [
        | inl old ↦ take_more m names at (k.before_it m old)
        | inr same ↦ subst (λ (x : Name). Among x (take (at + 1) names)) (sym same) (take_last n names at c.in-Some.ensures.name)
      ];
    }) (c.take_named.ensures.takes w outer around k.writing fresh)

pub returns-in-None-clause-takes : goal.returns-in-None-clause-takes
returns-in-None-clause-takes c w outer around k =
    let names = names_of (uses_of c.args.all.types.now c.args.all.id) in
    record { writing = k.writing; before_it = λ m among. take_more m names c.args.at (k.before_it m among) }

pub returns-in-Some-clause-held : goal.returns-in-Some-clause-held
returns-in-Some-clause-held c =
    let types = c.args.all.types.now in
    let us = c.args.all.around.used.now in
    let es = uses_of types c.args.all.id in
    on_ok_weaker c.take_named.result (λ h u is. use_same types us es c.args.at c.in-Some.used u c.take_named.new.scope.types c.in-Some.ensures.entry is h) c.take_named.ensures.held

pub returns-in-None-clause-held : goal.returns-in-None-clause-held
returns-in-None-clause-held c u is item k takes used =
    let within = slice_get_within (uses_of c.args.all.types.now c.args.all.id) c.args.at is.0 is.1 in
    absurd (omega (arith, within, c.in-None.ensures.none))
