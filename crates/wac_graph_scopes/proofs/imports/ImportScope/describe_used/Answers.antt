use Rattle.std.proofs.Common.{Option, Some, ap, subst, ◌∙◌}
use Rattle.wac_types_base.specs.Tree.{Tree}
use Rattle.wac_types_fit.specs.Trees.{tree_in}
use Rattle.wac_graph_bytes.specs.declared.value.Sort.TheVariants as sort
use Rattle.wac_graph_bytes.specs.Typing.{◌>>=◌, item_of}
use Rattle.std.specs.Prelude.{IfSome}
use Rattle.wac_graph_scopes.specs.declared.imports.TakenUse.{TakenUse}
use Rattle.wac_types_parts.specs.Parts.{IsUsedKind}
use Rattle.wac_graph_scopes.specs.Imports.{HasAlias, IsGivenBy}
use Rattle.std.proofs.lemmas.Result.{err_from_is_err_and}
use Rattle.wac_graph_scopes.specs.ItemRefusals.{RefusedUse}
use Rattle.wac_graph_scopes.proofs.UsedLaws.{sorted_used}
use Rattle.wac_graph_scopes.proofs.imports.ImportScope.describe_used.Goals as goal

pub returns-in-Some-found-clause-describes : goal.returns-in-Some-found-clause-describes
returns-in-Some-found-clause-describes c w outer i imported exported h =
    let types = c.args.all.types.now in
    let given = c.in-Some.given in
    let item = given.item in
    let kind = c.args.import.kind in
    let all = c.args.all in
    let g = subst (λ o. IfSome o (IsGivenBy all c.args.import)) c.in-Some.is c.in_ok-given.ensures.found in
    let used = subst (λ o. IfSome o (λ (t : TakenUse). IsUsedKind t.item)) c.in-Some.is c.in_ok-given.ensures.kind in
    let a = subst (HasAlias w types outer c.args.all.world i c.alias_of.new.self imported exported (tree_in types item)) c.in-Some-found.is (c.in_ok-found.ensures.aliases g.taken_stands used w outer i imported exported h) in
    record {
      goes = a.goes;
      on = a.on;
      sorted = sorted_used types c.see_acyclic.ensures item kind used g.taken_stands g.stands g.same;
      reads = ap (λ (o : Option Tree). o >>= λ t. Some (sort.Ty, item_of t)) a.index.reads ∙ ap (λ (x : Tree). Some (sort.Ty, x)) (a.index.item ∙ g.same);
    }

pub returns-in-None-clause-describes : goal.returns-in-None-clause-describes
returns-in-None-clause-describes c w outer i imported exported h =
    let g = subst (λ o. IfSome o (IsGivenBy c.args.all c.args.import)) c.in-Some.is c.in_ok-given.ensures.found in
    let used = subst (λ o. IfSome o (λ (t : TakenUse). IsUsedKind t.item)) c.in-Some.is c.in_ok-given.ensures.kind in
    let a = c.in_ok-found.ensures.aliases g.taken_stands used w outer i imported exported h in
    record { goes = a.goes; on = a.on }

pub returns-in_err-found-clause-refused : goal.returns-in_err-found-clause-refused
returns-in_err-found-clause-refused c =
    let g = subst (λ o. IfSome o (IsGivenBy c.args.all c.args.import)) c.in-Some.is c.in_ok-given.ensures.found in
    let p = err_from_is_err_and c.from_residual-in_err-found.result c.from_residual-in_err-found.ensures.1 in
    rw (p.1, p.2) (λ un. (c.in-Some.given, g, subst (RefusedUse c.args.all.types.now c.in-Some.given.used) un c.in_err-found.ensures.refused))

-- what is taken is made an alias of, or nothing changes
pub returns-in-Some-found-clause-kept : goal.returns-in-Some-found-clause-kept
returns-in-Some-found-clause-kept c =
    let g = subst (λ o. IfSome o (IsGivenBy c.args.all c.args.import)) c.in-Some.is c.in_ok-given.ensures.found in
    let used = subst (λ o. IfSome o (λ (t : TakenUse). IsUsedKind t.item)) c.in-Some.is c.in_ok-given.ensures.kind in
    c.in_ok-found.ensures.keeps g.taken_stands used

pub returns-in-None-clause-kept : goal.returns-in-None-clause-kept
returns-in-None-clause-kept c =
    let g = subst (λ o. IfSome o (IsGivenBy c.args.all c.args.import)) c.in-Some.is c.in_ok-given.ensures.found in
    let used = subst (λ o. IfSome o (λ (t : TakenUse). IsUsedKind t.item)) c.in-Some.is c.in_ok-given.ensures.kind in
    c.in_ok-found.ensures.keeps g.taken_stands used
