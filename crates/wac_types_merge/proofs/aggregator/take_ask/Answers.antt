use Rattle.std.proofs.Common.{Some, refl, ap, subst, ◌∙◌}
use Rattle.std.proofs.lemmas.Result.{err_from_is_err_and}
use Rattle.wac_types_base.specs.Collection.{Stands}
use Rattle.wac_types_names.specs.Tracks.{AreCompatible}
use Rattle.wac_types_merge.specs.declared.family.Import.{Import}
use Rattle.wac_types_merge.specs.Imports.{imports_in, import_of}
use Rattle.wac_types_merge.specs.Merging.{ask_for, HaveNoCommon, AreOutside, LeadApart}
use Rattle.wac_types_merge.specs.Families.{UsesUnnamed, joint}
use Rattle.wac_types_merge.specs.Interfaces.{LeadsIn}
use Rattle.wac_types_merge.specs.Steps.{HasClash, LieOutside}
use Rattle.wac_types_merge.proofs.Keeping.{refused_as, leads_as}
use Rattle.wac_types_merge.proofs.Asking.{none_on_track, found_on_track, place_within, same_import, first_asked, first_sound, asked_again, again_sound, no_common, outside, lead_apart}
use Rattle.wac_types_merge.proofs.aggregator.take_ask.Goals as goal
use Rattle.wac_types_base.proofs.Looked.{among-get}

pub merged_import-requires-clause-kept : goal.merged_import-requires-clause-kept
merged_import-requires-clause-kept c =
    let ms = c.args.imports.now.items in
    let p = found_on_track c.as_slice.result.now ms c.args.name.now c.in_ok-place_on.field-0 c.in-Some.at c.as_slice.ensures.value c.in-Some.is c.in_ok-place_on.ensures in
    let is = same_import ms c.in-Some.at p.0 c.index.result.now p.1 c.index.ensures in
    subst (λ (m : Import). Stands c.copy_item.new.to m.kind) is (c.copy_item.ensures.grows.stand p.0.kind (c.requires.sound.stand p.0 (among-get ms c.in-Some.at p.0 p.1)))

pub replace_import-requires : goal.replace_import-requires
replace_import-requires c =
    let ms = c.args.imports.now.items in
    let p = found_on_track c.as_slice.result.now ms c.args.name.now c.in_ok-place_on.field-0 c.in-Some.at c.as_slice.ensures.value c.in-Some.is c.in_ok-place_on.ensures in
    place_within ms c.in-Some.at p.0 p.1

pub returns-in_ok-add_first-in-None-clause-asked : goal.returns-in_ok-add_first-in-None-clause-asked
returns-in_ok-add_first-in-None-clause-asked c =
    let ms = c.args.imports.now.items in
    first_asked (imports_in c.args.own.now ms) (imports_in c.copy_item.new.to c.add_first.new.imports.items) (ask_for c.args.name.now c.args.types.now c.args.kind) c.see_acyclic.ensures c.requires.stands c.requires.sound
    (import_of c.args.name.now c.in_ok-asked.asked c.family_of-family.result) c.copy_item.ensures.grows
    (none_on_track c.as_slice.result.now ms c.args.name.now c.in_ok-place_on.field-0 c.as_slice.ensures.value c.in-None.is c.in_ok-place_on.ensures)
    c.in_ok-add_first-in-None.ensures refl c.in_ok-asked.ensures.copied c.family_of-family.ensures (λ u. absurd (cc (c.if-uses_unnamed.ensures.1 u)))

pub returns-in_ok-add_first-in-None-clause-sound : goal.returns-in_ok-add_first-in-None-clause-sound
returns-in_ok-add_first-in-None-clause-sound c =
    let ms = c.args.imports.now.items in
    first_sound (imports_in c.args.own.now ms) (imports_in c.copy_item.new.to c.add_first.new.imports.items) (ask_for c.args.name.now c.args.types.now c.args.kind) c.see_acyclic.ensures c.requires.stands c.requires.sound
    (import_of c.args.name.now c.in_ok-asked.asked c.family_of-family.result) c.copy_item.ensures.grows
    (none_on_track c.as_slice.result.now ms c.args.name.now c.in_ok-place_on.field-0 c.as_slice.ensures.value c.in-None.is c.in_ok-place_on.ensures)
    c.in_ok-add_first-in-None.ensures refl c.in_ok-asked.ensures.copied c.family_of-family.ensures

pub returns-in_ok-after-in-Some-clause-asked : goal.returns-in_ok-after-in-Some-clause-asked
returns-in_ok-after-in-Some-clause-asked c =
    let ms = c.args.imports.now.items in
    let p = found_on_track c.as_slice.result.now ms c.args.name.now c.in_ok-place_on.field-0 c.in-Some.at c.as_slice.ensures.value c.in-Some.is c.in_ok-place_on.ensures in
    let is = same_import ms c.in-Some.at p.0 c.index.result.now p.1 c.index.ensures in
    asked_again (imports_in c.args.own.now ms) (imports_in c.merged_import.new.own c.replace_import.new.imports.items) (ask_for c.args.name.now c.args.types.now c.args.kind) c.see_acyclic.ensures c.requires.stands c.requires.sound
    c.copy_item.new.to c.in_ok-asked.asked c.in_ok-asked.ensures.copied c.copy_item.ensures.grows c.in-Some.at c.index.result.now (p.1 ∙ ap Some is) (subst (λ (m : Import). AreCompatible m.name c.args.name.now) is p.2)
    c.family_of-family.result c.family_of-family.ensures c.in_ok-after-in-Some.after c.in_ok-after-in-Some.ensures.grows c.in_ok-after-in-Some.ensures.merged c.replace_import.ensures (λ u. absurd (cc (c.if-uses_unnamed.ensures.1 u)))

pub returns-in_ok-after-in-Some-clause-sound : goal.returns-in_ok-after-in-Some-clause-sound
returns-in_ok-after-in-Some-clause-sound c =
    let ms = c.args.imports.now.items in
    let p = found_on_track c.as_slice.result.now ms c.args.name.now c.in_ok-place_on.field-0 c.in-Some.at c.as_slice.ensures.value c.in-Some.is c.in_ok-place_on.ensures in
    let is = same_import ms c.in-Some.at p.0 c.index.result.now p.1 c.index.ensures in
    again_sound (imports_in c.args.own.now ms) (imports_in c.merged_import.new.own c.replace_import.new.imports.items) (ask_for c.args.name.now c.args.types.now c.args.kind) c.see_acyclic.ensures c.requires.stands c.requires.sound
    c.copy_item.new.to c.in_ok-asked.asked c.in_ok-asked.ensures.copied c.copy_item.ensures.grows c.in-Some.at c.index.result.now (p.1 ∙ ap Some is) (subst (λ (m : Import). AreCompatible m.name c.args.name.now) is p.2)
    c.family_of-family.result c.family_of-family.ensures c.in_ok-after-in-Some.after c.in_ok-after-in-Some.ensures.grows c.in_ok-after-in-Some.ensures.merged c.replace_import.ensures

pub returns-in_err-after-in-Some-clause-refused : goal.returns-in_err-after-in-Some-clause-refused
returns-in_err-after-in-Some-clause-refused c =
    let ms = c.args.imports.now.items in
    let old = imports_in c.args.own.now ms in
    let new = imports_in c.merged_import.new.own ms in
    let a = ask_for c.args.name.now c.args.types.now c.args.kind in
    let p = found_on_track c.as_slice.result.now ms c.args.name.now c.in_ok-place_on.field-0 c.in-Some.at c.as_slice.ensures.value c.in-Some.is c.in_ok-place_on.ensures in
    let is = same_import ms c.in-Some.at p.0 c.index.result.now p.1 c.index.ensures in
    let f = joint c.index.result.now.family c.family_of-family.result in
    let q = err_from_is_err_and c.from_residual-in_err-after-in-Some.result c.from_residual-in_err-after-in-Some.ensures.1 in
    rw (q.1, q.2)
    (refused_as c.in_err-after-in-Some.field-0.0 (HasClash c.copy_item.new.to f c.index.result.now.kind c.in_ok-asked.asked) (HaveNoCommon old a) (LieOutside c.copy_item.new.to f c.index.result.now.kind c.in_ok-asked.asked) (AreOutside old a) ⊥ (UsesUnnamed c.args.types.now c.args.kind)
    (no_common old new a c.see_acyclic.ensures c.requires.stands c.requires.sound c.copy_item.new.to c.in_ok-asked.asked c.in_ok-asked.ensures.copied c.copy_item.ensures.grows c.in-Some.at c.index.result.now (p.1 ∙ ap Some is) (subst (λ (m : Import). AreCompatible m.name c.args.name.now) is p.2) c.family_of-family.result c.family_of-family.ensures)
    (outside old new a c.see_acyclic.ensures c.requires.stands c.requires.sound c.copy_item.new.to c.in_ok-asked.asked c.in_ok-asked.ensures.copied c.copy_item.ensures.grows c.in-Some.at c.index.result.now (p.1 ∙ ap Some is) (subst (λ (m : Import). AreCompatible m.name c.args.name.now) is p.2) c.family_of-family.result c.family_of-family.ensures)
    (λ x. absurd x) c.in_err-after-in-Some.ensures.refused)

pub returns-in_err-after-in-Some-clause-frames : goal.returns-in_err-after-in-Some-clause-frames
returns-in_err-after-in-Some-clause-frames c =
    let ms = c.args.imports.now.items in
    let old = imports_in c.args.own.now ms in
    let new = imports_in c.merged_import.new.own ms in
    let a = ask_for c.args.name.now c.args.types.now c.args.kind in
    let p = found_on_track c.as_slice.result.now ms c.args.name.now c.in_ok-place_on.field-0 c.in-Some.at c.as_slice.ensures.value c.in-Some.is c.in_ok-place_on.ensures in
    let is = same_import ms c.in-Some.at p.0 c.index.result.now p.1 c.index.ensures in
    let q = err_from_is_err_and c.from_residual-in_err-after-in-Some.result c.from_residual-in_err-after-in-Some.ensures.1 in
    rw (q.1, q.2)
    (leads_as c.in_err-after-in-Some.field-0.0 (LeadsIn c.copy_item.new.to c.index.result.now.kind c.in_ok-asked.asked) (LeadApart old a) c.in_err-after-in-Some.ensures.frames
    (lead_apart old new a c.see_acyclic.ensures c.requires.stands c.requires.sound c.copy_item.new.to c.in_ok-asked.asked c.in_ok-asked.ensures.copied c.copy_item.ensures.grows c.in-Some.at c.index.result.now (p.1 ∙ ap Some is) (subst (λ (m : Import). AreCompatible m.name c.args.name.now) is p.2) c.family_of-family.result c.family_of-family.ensures))
