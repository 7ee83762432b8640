use Rattle.std.proofs.Common.{◌≡◌, ◌+◌, ◌++◌, ◌∷◌, [], All, Some, slice_get, take, subst, sym}
use Rattle.std.specs.List.{AllZip}
use Rattle.std.proofs.lemmas.List.{take_all}
use Rattle.std.proofs.lemmas.List.Elements.{All-nil}
use Rattle.wac_types_base.proofs.Looked.{among-get, take-one_more}
use Rattle.wac_types_base.proofs.Loops.{get-place}
use Rattle.wac_workspace.proofs.Zips.{zip_last}
use Rattle.wac_texts.specs.Worlds.{HasWorld}
use Rattle.wac_texts.proofs.Planned.{all_end}
use Rattle.wac.specs.Running.{IsFound}
use Rattle.wac.proofs.Refusing.{again_stops, not_found_at}
use Rattle.wac.proofs.Running.{zip_none}
use Rattle.wac.proofs.commands.find_all.Goals as goal

pub loop-key-init : goal.loop-key-init
loop-key-init c = record {
  worlds = subst (All HasWorld) (sym c.new-found.ensures.items) (All-nil HasWorld);
  found = subst (AllZip (IsFound c.args.workspace.now.packages) (take 0 c.args.keys.now)) (sym c.new-found.ensures.items) (zip_none (IsFound c.args.workspace.now.packages) c.args.keys.now);
}

pub loop-key-preserved : goal.loop-key-preserved
loop-key-preserved c =
    let keys = c.args.keys.now in
    let i = c.loop-key.key-index in
    let k = c.key-item.result in
    let p = c.in_ok-find.field-0 in
    let found = c.loop-key.found.items in
    let more = c.in_ok-push.ensures.items in
    let at : slice_get keys i ≡ Some k = get-place keys i k c.loop-key-test.true c.key-item.is in
    record {
      worlds = subst (All HasWorld) (sym more) (all_end HasWorld found p c.loop-key.invariant.worlds c.in_ok-find.ensures.world);
      found = subst (AllZip (IsFound c.args.workspace.now.packages) (take (i + 1) keys)) (sym more)
          (subst (λ ks. AllZip (IsFound c.args.workspace.now.packages) ks (found ++ p ∷ [])) (sym (take-one_more keys i k at))
          (zip_last (IsFound c.args.workspace.now.packages) (take i keys) found k p c.loop-key.invariant.found c.in_ok-find.ensures.found));
    }

pub returns-clause-worlds : goal.returns-clause-worlds
returns-clause-worlds c = c.loop-key.invariant.worlds

pub returns-clause-found : goal.returns-clause-found
returns-clause-found c =
    subst (λ ks. AllZip (IsFound c.args.workspace.now.packages) ks c.loop-key.found.items) (take_all c.loop-key.key-index c.args.keys.now c.loop-key-test.false) c.loop-key.invariant.found

pub returns-in_err-find-clause-refused : goal.returns-in_err-find-clause-refused
returns-in_err-find-clause-refused c =
    let keys = c.args.keys.now in
    let k = c.key-item.result in
    let at : slice_get keys c.loop-key.key-index ≡ Some k = get-place keys c.loop-key.key-index k c.loop-key-test.true c.key-item.is in
    again_stops c.from_residual.result c.in_err-find.field-0.0 c.from_residual.ensures.1 (not_found_at c.args.workspace.now.packages keys k (among-get keys c.loop-key.key-index k at)) c.in_err-find.ensures.refused
