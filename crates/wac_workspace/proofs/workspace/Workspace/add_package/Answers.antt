use Rattle.std.proofs.Common.{List, ℕ, subst, sym}
use Rattle.std.proofs.lemmas.List.Elements.{All-push}
use Rattle.std.proofs.lemmas.Result.{err_from_is_err_and}
use Rattle.std.specs.Option.{option_copied, option_map}
use Rattle.semver.specs.Identifiers.{parts_of}
use Rattle.wac_types_names.specs.Keys.{Key}
use Rattle.wac_workspace.specs.Packages.{Held, HasKey, HasBytes}
use Rattle.wac_workspace.specs.View.{held, HasWorld}
use Rattle.wac_workspace.proofs.Apart.{apart_handed}
use Rattle.wac_workspace.proofs.Searching.{never}
use Rattle.wac_workspace.proofs.workspace.Workspace.add_package.Goals as goal

pub invariant_of-self : goal.invariant_of-self
invariant_of-self c = rw c.in_err-push.ensures.items c.self.invariant

pub invariant_of-self-2 : goal.invariant_of-self-2
invariant_of-self-2 c =
    let key : Key = (c.args.name.now, option_map parts_of (option_copied c.args.version)) in
    let no_key : HasKey (held c.self.inside).packages key → ⊥ = λ h. never (c.if-has_key.ensures.1 (subst (λ (w : Held). HasKey w.packages key) c.self.view_is h)) in
    let no_bytes : HasBytes (held c.self.inside).packages c.args.bytes.items → ⊥ = λ h. never (c.if-has_bytes.ensures.1 (subst (λ (b : List ℕ). HasBytes c.args.self.now.packages b) (sym c.deref.ensures.value) (subst (λ (w : Held). HasBytes w.packages c.args.bytes.items) c.self.view_is h))) in
    rw c.in_ok-push.ensures.items (
      All-push HasWorld _ _ c.self.invariant.0 c.in_ok-entry.ensures.world,
      apart_handed c.self.inside.entries.items c.in_ok-entry.entry _ c.in_ok-entry.ensures.made c.self.invariant.1 no_key no_bytes,
    )

pub returns-in_err-push-clause-key_taken : goal.returns-in_err-push-clause-key_taken
returns-in_err-push-clause-key_taken c =
    let p = err_from_is_err_and c.from_residual-in_err-push.result c.from_residual-in_err-push.ensures.1 in
    rw (p.1, p.2) ((λ is. absurd (cc is)), λ has. absurd (never (c.if-has_key.ensures.1 has)))

pub returns-clause-bytes_new : goal.returns-clause-bytes_new
returns-clause-bytes_new c =
    λ has. never (c.if-has_bytes.ensures.1 (subst (λ (b : List ℕ). HasBytes c.args.self.now.packages b) (sym c.deref.ensures.value) has))
