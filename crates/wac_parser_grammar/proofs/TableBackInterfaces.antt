-- What has the plain form of any declaration of a type, or of an interface, is taken by the rule.
use Rattle.std.proofs.Common.{inl, inr, true, false, List, [], ◌∷◌, refl, sym}
use Rattle.wac_parser_lexer.specs.declared.token.Token.TheVariants as k
use Rattle.wac_parser_lexer.specs.Items.{Input}
use Rattle.wac_parser_tree.specs.Trees as t
use Rattle.wac_parser_grammar.specs.Ahead.{same_token}
use Rattle.wac_parser_grammar.specs.Names as n
use Rattle.wac_parser_grammar.specs.Declarations as d
use Rattle.wac_parser_grammar.specs.Worlds as w
use Rattle.wac_parser_grammar.specs.Forms.{Row, Separated, Braces, Ident}
use Rattle.wac_parser_grammar.specs.FormsOfDeclarations.{TypeDecl, ItemTypeDecl, UsePath, UseItem, Use, InterfaceExport, InterfaceItem, InterfaceDecl, InlineInterface}
use Rattle.wac_parser_grammar.specs.FormDepths.{Ends, Always, AllFit, RefFits, TypeDeclFits, ItemTypeDeclFits, InterfaceItemFits}
use Rattle.wac_parser_grammar.proofs.DeclLaws.{variant_decl_begins, record_decl_begins, flags_decl_begins, enum_decl_begins, type_alias_begins, resource_decl_begins, item_type_decl_begins}
use Rattle.wac_parser_grammar.proofs.WorldLaws.{use_item_begins, use_types_begins, interface_export_begins, interface_item_begins}
use Rattle.wac_parser_grammar.proofs.TableBack.{seen, sees_at, ends_at, ident_back, package_path_back}
use Rattle.wac_parser_grammar.proofs.TableBackFuncs.{func_type_ref_back}
use Rattle.wac_parser_grammar.proofs.TableBackDecls.{variant_decl_back, record_decl_back, flags_decl_back, enum_decl_back, type_alias_back}
use Rattle.wac_parser_grammar.proofs.TableBackResources.{resource_decl_back}
use Rattle.wac_parser_grammar.proofs.TableBackChoices.{only, other, func_ends, behind_back, all_always, list_body_back, row_body_back}

-- ---- any declaration

pub type_decl_back : (s : Input) (x : t.TypeDecl) (r : Input) → TypeDeclFits x → TypeDecl x s r → d.type_decl.Is x s r
unfolding d.type_decl same_token
type_decl_back s (t.TypeDecl.variant x) r fits h =
    let is = variant_decl_back s x r fits h in
    let begun = variant_decl_begins.begins s x r is in
    (true, s, (sym (only k.VariantKeyword s begun), refl), inl (refl, (x, r, is, (refl, refl))))
type_decl_back s (t.TypeDecl.record_ x) r fits h =
    let is = record_decl_back s x r fits h in
    let begun = record_decl_begins.begins s x r is in (
      false,
      s,
      (sym (other k.VariantKeyword (k.RecordKeyword ∷ []) s refl begun), refl),
      inr (
        refl,
        (true, s, (sym (only k.RecordKeyword s begun), refl), inl (refl, (x, r, is, (refl, refl)))),
      ),
    )
type_decl_back s (t.TypeDecl.flags x) r fits h =
    let is = flags_decl_back s x r (all_always x.flags) h in
    let begun = flags_decl_begins.begins s x r is in (
      false,
      s,
      (sym (other k.VariantKeyword (k.FlagsKeyword ∷ []) s refl begun), refl),
      inr (
        refl,
        (
          false,
          s,
          (sym (other k.RecordKeyword (k.FlagsKeyword ∷ []) s refl begun), refl),
          inr (
            refl,
            (true, s, (sym (only k.FlagsKeyword s begun), refl), inl (refl, (x, r, is, (refl, refl)))),
          ),
        ),
      ),
    )
type_decl_back s (t.TypeDecl.enum x) r fits h =
    let is = enum_decl_back s x r (all_always x.cases) h in
    let begun = enum_decl_begins.begins s x r is in (
      false,
      s,
      (sym (other k.VariantKeyword (k.EnumKeyword ∷ []) s refl begun), refl),
      inr (
        refl,
        (
          false,
          s,
          (sym (other k.RecordKeyword (k.EnumKeyword ∷ []) s refl begun), refl),
          inr (
            refl,
            (
              false,
              s,
              (sym (other k.FlagsKeyword (k.EnumKeyword ∷ []) s refl begun), refl),
              inr (
                refl,
                (true, s, (sym (only k.EnumKeyword s begun), refl), inl (refl, (x, r, is, (refl, refl)))),
              ),
            ),
          ),
        ),
      ),
    )
type_decl_back s (t.TypeDecl.alias x) r fits h =
    let is = type_alias_back s x r fits h in
    let begun = type_alias_begins.begins s x r is in (
      false,
      s,
      (sym (other k.VariantKeyword (k.TypeKeyword ∷ []) s refl begun), refl),
      inr (
        refl,
        (
          false,
          s,
          (sym (other k.RecordKeyword (k.TypeKeyword ∷ []) s refl begun), refl),
          inr (
            refl,
            (
              false,
              s,
              (sym (other k.FlagsKeyword (k.TypeKeyword ∷ []) s refl begun), refl),
              inr (
                refl,
                (
                  false,
                  s,
                  (sym (other k.EnumKeyword (k.TypeKeyword ∷ []) s refl begun), refl),
                  inr (
                    refl,
                    (true, s, (sym (only k.TypeKeyword s begun), refl), inl (refl, (x, r, is, (refl, refl)))),
                  ),
                ),
              ),
            ),
          ),
        ),
      ),
    )

pub item_type_decl_back : (s : Input) (x : t.ItemTypeDecl) (r : Input) → ItemTypeDeclFits x → ItemTypeDecl x s r → d.item_type_decl.Is x s r
unfolding d.item_type_decl same_token
item_type_decl_back s (t.ItemTypeDecl.resource x) r fits h =
    let is = resource_decl_back s x r fits h in
    let begun = resource_decl_begins.begins s x r is in
    (true, s, (sym (only k.ResourceKeyword s begun), refl), inl (refl, (x, r, is, (refl, refl))))
item_type_decl_back s (t.ItemTypeDecl.variant x) r fits h =
    let is = variant_decl_back s x r fits h in
    let begun = variant_decl_begins.begins s x r is in (
      false,
      s,
      (sym (other k.ResourceKeyword (k.VariantKeyword ∷ []) s refl begun), refl),
      inr (
        refl,
        (true, s, (sym (only k.VariantKeyword s begun), refl), inl (refl, (x, r, is, (refl, refl)))),
      ),
    )
item_type_decl_back s (t.ItemTypeDecl.record_ x) r fits h =
    let is = record_decl_back s x r fits h in
    let begun = record_decl_begins.begins s x r is in (
      false,
      s,
      (sym (other k.ResourceKeyword (k.RecordKeyword ∷ []) s refl begun), refl),
      inr (
        refl,
        (
          false,
          s,
          (sym (other k.VariantKeyword (k.RecordKeyword ∷ []) s refl begun), refl),
          inr (
            refl,
            (true, s, (sym (only k.RecordKeyword s begun), refl), inl (refl, (x, r, is, (refl, refl)))),
          ),
        ),
      ),
    )
item_type_decl_back s (t.ItemTypeDecl.flags x) r fits h =
    let is = flags_decl_back s x r (all_always x.flags) h in
    let begun = flags_decl_begins.begins s x r is in (
      false,
      s,
      (sym (other k.ResourceKeyword (k.FlagsKeyword ∷ []) s refl begun), refl),
      inr (
        refl,
        (
          false,
          s,
          (sym (other k.VariantKeyword (k.FlagsKeyword ∷ []) s refl begun), refl),
          inr (
            refl,
            (
              false,
              s,
              (sym (other k.RecordKeyword (k.FlagsKeyword ∷ []) s refl begun), refl),
              inr (
                refl,
                (true, s, (sym (only k.FlagsKeyword s begun), refl), inl (refl, (x, r, is, (refl, refl)))),
              ),
            ),
          ),
        ),
      ),
    )
item_type_decl_back s (t.ItemTypeDecl.enum x) r fits h =
    let is = enum_decl_back s x r (all_always x.cases) h in
    let begun = enum_decl_begins.begins s x r is in (
      false,
      s,
      (sym (other k.ResourceKeyword (k.EnumKeyword ∷ []) s refl begun), refl),
      inr (
        refl,
        (
          false,
          s,
          (sym (other k.VariantKeyword (k.EnumKeyword ∷ []) s refl begun), refl),
          inr (
            refl,
            (
              false,
              s,
              (sym (other k.RecordKeyword (k.EnumKeyword ∷ []) s refl begun), refl),
              inr (
                refl,
                (
                  false,
                  s,
                  (sym (other k.FlagsKeyword (k.EnumKeyword ∷ []) s refl begun), refl),
                  inr (
                    refl,
                    (true, s, (sym (only k.EnumKeyword s begun), refl), inl (refl, (x, r, is, (refl, refl)))),
                  ),
                ),
              ),
            ),
          ),
        ),
      ),
    )
item_type_decl_back s (t.ItemTypeDecl.alias x) r fits h =
    let is = type_alias_back s x r fits h in
    let begun = type_alias_begins.begins s x r is in (
      false,
      s,
      (sym (other k.ResourceKeyword (k.TypeKeyword ∷ []) s refl begun), refl),
      inr (
        refl,
        (
          false,
          s,
          (sym (other k.VariantKeyword (k.TypeKeyword ∷ []) s refl begun), refl),
          inr (
            refl,
            (
              false,
              s,
              (sym (other k.RecordKeyword (k.TypeKeyword ∷ []) s refl begun), refl),
              inr (
                refl,
                (
                  false,
                  s,
                  (sym (other k.FlagsKeyword (k.TypeKeyword ∷ []) s refl begun), refl),
                  inr (
                    refl,
                    (
                      false,
                      s,
                      (sym (other k.EnumKeyword (k.TypeKeyword ∷ []) s refl begun), refl),
                      inr (
                        refl,
                        (true, s, (sym (only k.TypeKeyword s begun), refl), inl (refl, (x, r, is, (refl, refl)))),
                      ),
                    ),
                  ),
                ),
              ),
            ),
          ),
        ),
      ),
    )

-- ---- interfaces

pub use_path_back : (s : Input) (x : t.UsePath) (r : Input) → UsePath x s r → w.use_path.Is x s r
unfolding w.use_path same_token
use_path_back s (t.UsePath.package_path x) r h =
    (true, s, (sym (seen k.PackagePath x.span s r h.0), refl), inl (refl, (x, r, package_path_back s x r h, (refl, refl))))
use_path_back s (t.UsePath.ident id) r h = (
  false,
  s,
  (sym (sees_at k.Ident k.PackagePath id.span s r h.0), refl),
  inr (
    refl,
    (true, s, (sym (seen k.Ident id.span s r h.0), refl), inl (refl, (id, r, ident_back s id r h, (refl, refl)))),
  ),
)

pub use_item_back : (s : Input) (x : t.UseItem) (r : Input) → Unit {0} → UseItem x s r → Ends k.AsKeyword r → w.use_item.Is x s r
unfolding w.use_item w.use_as
use_item_back s x r fits h stop =
    (x.id, h.0, ident_back s x.id h.0 h.1, (x.as_id, r, behind_back k.AsKeyword n.ident Ident ident_back h.0 x.as_id r h.2 stop, (refl, refl)))

use_items_back : (s : Input) (xs : List t.UseItem) (r : Input) → Braces (Separated UseItem xs) s r → w.use_items.Is xs s r
unfolding w.use_items same_token
use_items_back s xs r h =
    list_body_back w.use_item UseItem Always (Ends k.AsKeyword) (k.Ident ∷ []) use_item_back use_item_begins
    (λ span s m at. ends_at k.Comma k.AsKeyword span s m refl at) (λ span s m at. ends_at k.CloseBrace k.AsKeyword span s m refl at) refl
    s xs r (all_always xs) h

pub use_types_back : (s : Input) (x : t.Use) (r : Input) → Use x s r → w.use_types.Is x s r
unfolding w.use_types n.docs
use_types_back s x r h =
    let i = h.2.2 in
    let j = i.2.2 in (
      x.docs,
      h.0,
      h.1,
      (
        h.2.1.0,
        h.2.0,
        h.2.1.1,
        (
          x.path,
          i.0,
          use_path_back h.2.0 x.path i.0 i.1,
          (i.2.1.0, i.2.0, i.2.1.1, (x.items, j.0, use_items_back i.2.0 x.items j.0 j.1, (j.2.0, r, j.2.1, (refl, refl)))),
        ),
      ),
    )

pub interface_export_back : (s : Input) (x : t.InterfaceExport) (r : Input) → RefFits x.ty → InterfaceExport x s r → w.interface_export.Is x s r
unfolding w.interface_export n.docs
interface_export_back s x r fits h =
    let i = h.2.2.2 in (
      x.docs,
      h.0,
      h.1,
      (
        x.id,
        h.2.0,
        ident_back h.0 x.id h.2.0 h.2.1,
        (
          h.2.2.1.0,
          h.2.2.0,
          h.2.2.1.1,
          (x.ty, i.0, func_type_ref_back h.2.2.0 x.ty i.0 fits i.1 (func_ends i.2.0 i.0 r i.2.1), (i.2.0, r, i.2.1, (refl, refl))),
        ),
      ),
    )

pub interface_item_back : (s : Input) (x : t.InterfaceItem) (r : Input) → InterfaceItemFits x → InterfaceItem x s r → w.interface_item.Is x s r
unfolding w.interface_item same_token
interface_item_back s (t.InterfaceItem.use_ x) r fits h =
    let is = use_types_back s x r h in
    let begun = use_types_begins.begins s x r is in
    (true, s, (sym (only k.UseKeyword s begun), refl), inl (refl, (x, r, is, (refl, refl))))
interface_item_back s (t.InterfaceItem.ty x) r fits h =
    let is = item_type_decl_back s x r fits h in
    let begun = item_type_decl_begins.begins s x r is in (
      false,
      s,
      (sym (other k.UseKeyword d.item_type_decl_first s refl begun), refl),
      inr (
        refl,
        (
          false,
          s,
          (sym (other k.Ident d.item_type_decl_first s refl begun), refl),
          inr (
            refl,
            (true, s, (sym begun, refl), inl (refl, (x, r, is, (refl, refl)))),
          ),
        ),
      ),
    )
interface_item_back s (t.InterfaceItem.export x) r fits h =
    let is = interface_export_back s x r fits h in
    let begun = interface_export_begins.begins s x r is in (
      false,
      s,
      (sym (other k.UseKeyword (k.Ident ∷ []) s refl begun), refl),
      inr (
        refl,
        (true, s, (sym (only k.Ident s begun), refl), inl (refl, (x, r, is, (refl, refl)))),
      ),
    )

interface_items_back : (s : Input) (xs : List t.InterfaceItem) (r : Input) → AllFit InterfaceItemFits xs → Braces (Row InterfaceItem xs) s r → w.interface_items.Is xs s r
unfolding w.interface_items same_token
interface_items_back s xs r fits h =
    row_body_back w.interface_item InterfaceItem InterfaceItemFits w.interface_item_first interface_item_back interface_item_begins refl s xs r fits h

pub interface_decl_back : (s : Input) (x : t.InterfaceDecl) (r : Input) → AllFit InterfaceItemFits x.items → InterfaceDecl x s r → w.interface_decl.Is x s r
unfolding w.interface_decl n.docs
interface_decl_back s x r fits h =
    (x.docs, h.0, h.1, (h.2.1.0, h.2.0, h.2.1.1, (x.id, h.2.2.0, ident_back h.2.0 x.id h.2.2.0 h.2.2.1, (x.items, r, interface_items_back h.2.2.0 x.items r fits h.2.2.2, (refl, refl)))))

pub inline_interface_back : (s : Input) (x : t.InlineInterface) (r : Input) → AllFit InterfaceItemFits x.items → InlineInterface x s r → w.inline_interface.Is x s r
unfolding w.inline_interface
inline_interface_back s x r fits h = (h.1.0, h.0, h.1.1, (x.items, r, interface_items_back h.0 x.items r fits h.2, (refl, refl)))
