use Rattle.std.specs.Prelude.{⊤}
use Rattle.std.proofs.Common.{false, subst, sym}
use Rattle.std.proofs.lemmas.Result.{on_ok_weaker}
use Rattle.wac_parser_tree.specs.declared.declaration.ItemTypeDecl.{ItemTypeDecl}
use Rattle.wac_parser_tree.specs.Views.{view_enum_decl, view_flags_decl, view_item_type_decl, view_record_decl, view_type_alias, view_variant_decl}
use Rattle.wac_parser_refusals.specs.Outcomes.{IsOutcome}
use Rattle.wac_parser_declare.specs.Bodies as stated
use Rattle.wac_parser_declare.specs.Declarations.{enum_decl, flags_decl, record_decl, type_alias, variant_decl}
use Rattle.wac_parser_declare.specs.Held.{holder_of, stated_body}
use Rattle.wac_parser_declare.specs.Holding.{scope_of}
use Rattle.wac_parser_declare.specs.InBodies.{IsBody}
use Rattle.wac_parser_declare.proofs.Standing.{body_stays}
use Rattle.wac_parser_declare.proofs.resources.item_type.Goals as goal

pub returns-in-Variant-clause-outcome : goal.returns-in-Variant-clause-outcome
returns-in-Variant-clause-outcome g c =
    let old = g.T.GrowingTypes.collection c.args.types.now in
    let new = g.T.GrowingTypes.collection c.variant_decl-declared.new.types in
    let b = c.args.body.now in
    let ns = scope_of old b.names in
    subst (λ (x : ItemTypeDecl). IsOutcome (λ (y : stated.Body) (u : ⊤). IsBody new y c.add_declared.new.body) (stated.item_type (holder_of c.args.holder) (stated_body old b) (view_item_type_decl x)) c.add_declared.result) (sym c.in-Variant.is)
    (c.add_declared.ensures.outcome old new (variant_decl ns (view_variant_decl c.in-Variant.decl)) c.variant_decl-declared.ensures.grows c.requires.body c.variant_decl-declared.ensures.outcome)

pub returns-in-Variant-clause-body : goal.returns-in-Variant-clause-body
returns-in-Variant-clause-body g c =
    let old = g.T.GrowingTypes.collection c.args.types.now in
    let new = g.T.GrowingTypes.collection c.variant_decl-declared.new.types in
    on_ok_weaker c.add_declared.result (λ s. s new (body_stays old new c.args.body.now c.variant_decl-declared.ensures.grows c.requires.body) c.variant_decl-declared.ensures.stands) c.add_declared.ensures.stands

pub returns-in-Record-clause-outcome : goal.returns-in-Record-clause-outcome
returns-in-Record-clause-outcome g c =
    let old = g.T.GrowingTypes.collection c.args.types.now in
    let new = g.T.GrowingTypes.collection c.record_decl-declared.new.types in
    let b = c.args.body.now in
    let ns = scope_of old b.names in
    subst (λ (x : ItemTypeDecl). IsOutcome (λ (y : stated.Body) (u : ⊤). IsBody new y c.add_declared-in-Record.new.body) (stated.item_type (holder_of c.args.holder) (stated_body old b) (view_item_type_decl x)) c.add_declared-in-Record.result) (sym c.in-Record.is)
    (c.add_declared-in-Record.ensures.outcome old new (record_decl ns (view_record_decl c.in-Record.decl)) c.record_decl-declared.ensures.grows c.requires.body c.record_decl-declared.ensures.outcome)

pub returns-in-Record-clause-body : goal.returns-in-Record-clause-body
returns-in-Record-clause-body g c =
    let old = g.T.GrowingTypes.collection c.args.types.now in
    let new = g.T.GrowingTypes.collection c.record_decl-declared.new.types in
    on_ok_weaker c.add_declared-in-Record.result (λ s. s new (body_stays old new c.args.body.now c.record_decl-declared.ensures.grows c.requires.body) c.record_decl-declared.ensures.stands) c.add_declared-in-Record.ensures.stands

pub returns-in-Flags-clause-outcome : goal.returns-in-Flags-clause-outcome
returns-in-Flags-clause-outcome g c =
    let old = g.T.GrowingTypes.collection c.args.types.now in
    let new = g.T.GrowingTypes.collection c.flags_decl-declared.new.types in
    let b = c.args.body.now in
    let ns = scope_of old b.names in
    subst (λ (x : ItemTypeDecl). IsOutcome (λ (y : stated.Body) (u : ⊤). IsBody new y c.add_declared-in-Flags.new.body) (stated.item_type (holder_of c.args.holder) (stated_body old b) (view_item_type_decl x)) c.add_declared-in-Flags.result) (sym c.in-Flags.is)
    (c.add_declared-in-Flags.ensures.outcome old new (flags_decl (view_flags_decl c.in-Flags.decl)) c.flags_decl-declared.ensures.grows c.requires.body c.flags_decl-declared.ensures.outcome)

pub returns-in-Flags-clause-body : goal.returns-in-Flags-clause-body
returns-in-Flags-clause-body g c =
    let old = g.T.GrowingTypes.collection c.args.types.now in
    let new = g.T.GrowingTypes.collection c.flags_decl-declared.new.types in
    on_ok_weaker c.add_declared-in-Flags.result (λ s. s new (body_stays old new c.args.body.now c.flags_decl-declared.ensures.grows c.requires.body) c.flags_decl-declared.ensures.stands) c.add_declared-in-Flags.ensures.stands

pub returns-in-Enum-clause-outcome : goal.returns-in-Enum-clause-outcome
returns-in-Enum-clause-outcome g c =
    let old = g.T.GrowingTypes.collection c.args.types.now in
    let new = g.T.GrowingTypes.collection c.enum_decl-declared.new.types in
    let b = c.args.body.now in
    let ns = scope_of old b.names in
    subst (λ (x : ItemTypeDecl). IsOutcome (λ (y : stated.Body) (u : ⊤). IsBody new y c.add_declared-in-Enum.new.body) (stated.item_type (holder_of c.args.holder) (stated_body old b) (view_item_type_decl x)) c.add_declared-in-Enum.result) (sym c.in-Enum.is)
    (c.add_declared-in-Enum.ensures.outcome old new (enum_decl (view_enum_decl c.in-Enum.decl)) c.enum_decl-declared.ensures.grows c.requires.body c.enum_decl-declared.ensures.outcome)

pub returns-in-Enum-clause-body : goal.returns-in-Enum-clause-body
returns-in-Enum-clause-body g c =
    let old = g.T.GrowingTypes.collection c.args.types.now in
    let new = g.T.GrowingTypes.collection c.enum_decl-declared.new.types in
    on_ok_weaker c.add_declared-in-Enum.result (λ s. s new (body_stays old new c.args.body.now c.enum_decl-declared.ensures.grows c.requires.body) c.enum_decl-declared.ensures.stands) c.add_declared-in-Enum.ensures.stands

pub returns-in-Alias-clause-outcome : goal.returns-in-Alias-clause-outcome
returns-in-Alias-clause-outcome g c =
    let old = g.T.GrowingTypes.collection c.args.types.now in
    let new = g.T.GrowingTypes.collection c.type_alias-declared.new.types in
    let b = c.args.body.now in
    let ns = scope_of old b.names in
    subst (λ (x : ItemTypeDecl). IsOutcome (λ (y : stated.Body) (u : ⊤). IsBody new y c.add_declared-in-Alias.new.body) (stated.item_type (holder_of c.args.holder) (stated_body old b) (view_item_type_decl x)) c.add_declared-in-Alias.result) (sym c.in-Alias.is)
    (c.add_declared-in-Alias.ensures.outcome old new (type_alias false ns (view_type_alias c.in-Alias.decl)) c.type_alias-declared.ensures.grows c.requires.body c.type_alias-declared.ensures.outcome)

pub returns-in-Alias-clause-body : goal.returns-in-Alias-clause-body
returns-in-Alias-clause-body g c =
    let old = g.T.GrowingTypes.collection c.args.types.now in
    let new = g.T.GrowingTypes.collection c.type_alias-declared.new.types in
    on_ok_weaker c.add_declared-in-Alias.result (λ s. s new (body_stays old new c.args.body.now c.type_alias-declared.ensures.grows c.requires.body) c.type_alias-declared.ensures.stands) c.add_declared-in-Alias.ensures.stands
