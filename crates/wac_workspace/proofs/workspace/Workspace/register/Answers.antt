use Rattle.std.proofs.Common.{List, ℕ, [], ◌∷◌, ◌++◌, subst, sym, ap, ◌∙◌}
use Rattle.std.proofs.lemmas.List.Elements.{All-push}
use Rattle.wac_workspace.specs.Packages.{Held, HasKey, HasHanded}
use Rattle.wac_workspace.specs.Composing.{output_key}
use Rattle.wac_workspace.specs.View.{held, HasWorld}
use Rattle.wac_workspace.proofs.Apart.{apart_output}
use Rattle.wac_workspace.proofs.Searching.{never}
use Rattle.wac_workspace.proofs.workspace.Workspace.register.Goals as goal

pub invariant_of-self : goal.invariant_of-self
invariant_of-self c = rw c.in_err-push.ensures.items c.self.invariant

pub invariant_of-self-2 : goal.invariant_of-self-2
invariant_of-self-2 c =
    let no_key : HasKey (held c.self.inside).packages (output_key c.args.output.now) → ⊥ = λ h. never (c.if-has_key_of.ensures.1 (subst (λ (w : Held). HasKey w.packages (output_key c.args.output.now)) c.self.view_is h)) in
    let no_bytes : HasHanded (held c.self.inside).packages c.args.output.now.bytes.items → ⊥ = λ h. never (c.if-was_handed.ensures.1 (subst (λ (b : List ℕ). HasHanded c.args.self.now.packages b) (sym c.deref.ensures.value) (subst (λ (w : Held). HasHanded w.packages c.args.output.now.bytes.items) c.self.view_is h))) in
    rw c.in_ok-push.ensures.items (
      All-push HasWorld _ _ c.self.invariant.0 c.in_ok-entry.ensures.world,
      apart_output c.self.inside.entries.items c.in_ok-entry.entry _ c.in_ok-entry.ensures.made c.in_ok-entry.ensures.origin c.self.invariant.1 no_key no_bytes,
    )

pub returns-clause-registered : goal.returns-clause-registered
returns-clause-registered c = record {
  key = λ h. never (c.if-has_key_of.ensures.1 h);
  bytes = λ h. never (c.if-was_handed.ensures.1 (subst (λ (b : List ℕ). HasHanded c.args.self.now.packages b) (sym c.deref.ensures.value) h));
  added = record {
    entry = c.in_ok-entry.entry;
    origin = c.in_ok-entry.ensures.origin;
    made = c.in_ok-entry.ensures.made;
    packages = c.in_ok-push.ensures.items ∙ ap (λ (w : Held). w.packages ++ c.in_ok-entry.entry ∷ []) c.self.view_is;
  };
  next = ap (λ (w : Held). w.next) c.self.view_is;
}
