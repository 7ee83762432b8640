use Rattle.std.proofs.Common.{sym, subst, inl, refl}
use Rattle.wac_types_fit.specs.Checking.{IsTrueOf}
use Rattle.wac_types_fit.proofs.Checks.{on_ok}
use Rattle.wac_types_merge.proofs.Clashing.{clash_of, leads_of}
use Rattle.wac_types_merge.proofs.narrower.fits_in.Goals as goal

pub is_subtype-requires : goal.is_subtype-requires
is_subtype-requires c = record { given = c.requires.given; asked = c.requires.asked; apart = inl refl }

pub returns-clause-yes : goal.returns-clause-yes
returns-clause-yes c =
    on_ok c.is_subtype.result _ _ c.is_subtype.ensures.yes (λ h. h (subst (λ s. IsTrueOf c.args.own.now c.args.own.now s.keys) (sym c.new-checker.ensures.cache) (c.new_cache-cache.ensures.true_of_all c.args.own.now c.args.own.now)))

pub returns-clause-frames : goal.returns-clause-frames
returns-clause-frames c = leads_of c.is_subtype.result _ c.is_subtype.ensures.frames

pub returns-clause-no : goal.returns-clause-no
returns-clause-no c = clash_of c.is_subtype.result _ c.is_subtype.ensures.no
