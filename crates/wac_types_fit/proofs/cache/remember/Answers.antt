use Rattle.std.proofs.Common.{ap, inl, inr}
use Rattle.wac_types_fit.proofs.Caching.{replaced-among, replaced-there}
use Rattle.wac_types_fit.proofs.cache.remember.Goals as goal

pub returns-clause-only : goal.returns-clause-only
returns-clause-only c j k m =
    elim (replaced-among _ c.in_ok-replace.field-0 (c.args.a, c.args.b) (j, k) c.args.cache.now.keys c.replace.new.self.keys c.in_ok-replace.ensures.keys m) [
      | inl h ↦ inl h
      | inr e ↦ inr (ap (λ p. p.0) e, ap (λ p. p.1) e)
    ]

pub returns-clause-remembered : goal.returns-clause-remembered
returns-clause-remembered c =
    replaced-there _ c.in_ok-replace.field-0 (c.args.a, c.args.b) c.args.cache.now.keys c.replace.new.self.keys c.in_ok-replace.ensures.old c.in_ok-replace.ensures.keys
