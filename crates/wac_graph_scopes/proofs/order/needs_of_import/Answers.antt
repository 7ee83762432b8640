use Rattle.std.proofs.Common.{◌≡◌, ℕ, ◌∷◌, [], Some, None, sym, ap, subst, ◌∙◌, arith}
use Rattle.std.specs.Prelude.{IfSome}
use Rattle.std.proofs.lemmas.Option.{same_Some, slice_get_within}
use Rattle.std.proofs.lemmas.Result.{IfOk-weaker}
use Rattle.wac_graph_scopes.specs.Orders.{IsSource}
use Rattle.wac_graph_scopes.specs.Imports.{all_imports, IsGiven}
use Rattle.wac_graph_scopes.proofs.OrderLaws.{same_item}
use Rattle.wac_graph_scopes.proofs.UsePlaceLaws.{given_is_no_source, given_there}
use Rattle.wac_graph_scopes.proofs.order.needs_of_import.Goals as goal

none_is : {p : ℕ} → None ≡ Some p → ⊥
none_is e = absurd (cc e)

pub returns-in_default : goal.returns-in_default
returns-in_default c = record {
  source = λ s. absurd (let within = slice_get_within (all_imports c.args.all) c.args.at (s.0, s.1) s.2 in omega (arith, within, c.in_default.ensures.none));
  given = λ m g. absurd (let within = slice_get_within (all_imports c.args.all) c.args.at (g.item.name.now, g.item.kind) g.import_is in omega (arith, within, c.in_default.ensures.none));
}

pub returns-in-Some-used : goal.returns-in-Some-used
returns-in-Some-used c =
    let a = c.args.all in
    let found = c.args.found.now in
    let x = c.in-Some.import in
    let m = c.in-Some-used.place in
    let given = subst (λ o. IfSome o (λ _. IsGiven a x)) c.in-Some-used.is c.in_ok-used.ensures.given in
    IfOk-weaker c.one_place.result _ _
    (λ v one. record {
      source = λ s. absurd (given_is_no_source a c.see_acyclic.ensures x given (subst IsSource (same_item (s.0, s.1) (x.name.now, x.kind) s.2 c.in-Some.ensures.entry) s.3));
      given = λ p g.
          let same : Some m ≡ Some p = sym c.in-Some-used.is ∙ c.in_ok-used.ensures.found p (given_there a found x c.args.at p g c.in-Some.ensures.entry) in
          one ∙ ap (λ n. n ∷ []) (same_Some m p same);
    }) c.one_place.ensures

pub returns-in-None : goal.returns-in-None
returns-in-None c =
    let a = c.args.all in
    let found = c.args.found.now in
    let x = c.in-Some.import in
    IfOk-weaker c.needs_of_other.result _ _
    (λ v other. record {
      source = λ s. other (subst IsSource (same_item (s.0, s.1) (x.name.now, x.kind) s.2 c.in-Some.ensures.entry) s.3);
      given = λ p g. absurd (none_is (sym c.in-None.is ∙ c.in_ok-used.ensures.found p (given_there a found x c.args.at p g c.in-Some.ensures.entry)));
    }) c.needs_of_other.ensures
