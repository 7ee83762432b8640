-- What has the plain form of a world is taken by the rule.
use Rattle.std.proofs.Common.{inl, inr, true, false, List, [], ◌∷◌, refl, subst, sym}
use Rattle.wac_parser_lexer.specs.declared.token.Token.TheVariants as k
use Rattle.wac_parser_lexer.specs.Items.{Input}
use Rattle.wac_parser_tree.specs.Trees as t
use Rattle.wac_parser_grammar.specs.Ahead.{same_token}
use Rattle.wac_parser_grammar.specs.Names as n
use Rattle.wac_parser_grammar.specs.ValueTypes as v
use Rattle.wac_parser_grammar.specs.Declarations as d
use Rattle.wac_parser_grammar.specs.Worlds as w
use Rattle.wac_parser_grammar.specs.Forms.{At, Word, ◌⨾◌, Row, Separated, Braces}
use Rattle.wac_parser_grammar.specs.FormsOfDeclarations.{ExternType, NamedWorldItem, WorldItemPath, WorldImport, WorldExport, WorldRef, IncludeItem, Unnamed, With, WorldInclude, WorldItem, WorldDecl}
use Rattle.wac_parser_grammar.specs.FormDepths.{Ends, Always, AllFit, FuncEnds, ExternTypeFits, WorldItemPathFits, PathEnds, WorldItemFits}
use Rattle.wac_parser_grammar.proofs.DeclLaws.{item_type_decl_begins}
use Rattle.wac_parser_grammar.proofs.WorldLaws.{use_types_begins, world_import_begins, world_export_begins, world_include_item_begins, world_include_begins, world_item_begins}
use Rattle.wac_parser_grammar.proofs.TableBack.{seen, sees_at, any_at, ends_at, optional_here, optional_past, ident_back, package_path_back}
use Rattle.wac_parser_grammar.proofs.TableBackFuncs.{func_type_back, func_begun}
use Rattle.wac_parser_grammar.proofs.TableBackChoices.{only, other, func_ends, all_always, list_body_back, row_body_back}
use Rattle.wac_parser_grammar.proofs.TableBackInterfaces.{item_type_decl_back, use_types_back, inline_interface_back}

-- ---- imports and exports

pub extern_type_back : (s : Input) (x : t.ExternType) (r : Input) → ExternTypeFits x → ExternType x s r → FuncEnds r → w.extern_type.Is x s r
unfolding w.extern_type same_token
extern_type_back s (t.ExternType.ident id) r fits h stop =
    (true, s, (sym (seen k.Ident id.span s r h.0), refl), inl (refl, (id, r, ident_back s id r h, (refl, refl))))
extern_type_back s (t.ExternType.func x) r fits h stop =
    let begun = func_begun x.is_async s h.0 h.2.0 h.2.1.0 h.1 h.2.1.1 in (
      false,
      s,
      (sym (other k.Ident v.func_first s refl begun), refl),
      inr (
        refl,
        (true, s, (sym begun, refl), inl (refl, (x, r, func_type_back s x r fits h stop, (refl, refl)))),
      ),
    )
extern_type_back s (t.ExternType.interface x) r fits h stop = (
  false,
  s,
  (sym (sees_at k.InterfaceKeyword k.Ident h.1.0 s h.0 h.1.1), refl),
  inr (
    refl,
    (
      false,
      s,
      (sym (any_at k.InterfaceKeyword v.func_first h.1.0 s h.0 h.1.1), refl),
      inr (
        refl,
        (true, s, (sym (seen k.InterfaceKeyword h.1.0 s h.0 h.1.1), refl), inl (refl, (x, r, inline_interface_back s x r fits h, (refl, refl)))),
      ),
    ),
  ),
)

item_type_back : (s : Input) (x : t.NamedWorldItem) (r : Input) → ExternTypeFits x.ty → (Word k.Colon ⨾ ExternType x.ty) s r → FuncEnds r → (w.item_type x.id).Is x s r
unfolding w.item_type
item_type_back s x r fits h stop = (h.1.0, h.0, h.1.1, (x.ty, r, extern_type_back h.0 x.ty r fits h.2 stop, (refl, refl)))

pub named_world_item_back : (s : Input) (x : t.NamedWorldItem) (r : Input) → ExternTypeFits x.ty → NamedWorldItem x s r → FuncEnds r → w.named_world_item.Is x s r
unfolding w.named_world_item
named_world_item_back s x r fits h stop = (x.id, h.0, ident_back s x.id h.0 h.1, item_type_back h.0 x r fits h.2 stop)

pub world_item_path_back : (s : Input) (x : t.WorldItemPath) (r : Input) → WorldItemPathFits x → WorldItemPath x s r → PathEnds r → w.world_item_path.Is x s r
unfolding w.world_item_path w.ident_path same_token
world_item_path_back s (t.WorldItemPath.named x) r fits h stop = (
  false,
  s,
  (sym (sees_at k.Ident k.PackagePath x.id.span s h.0 h.1.0), refl),
  inr (
    refl,
    (
      true,
      s,
      (sym (seen k.Ident x.id.span s h.0 h.1.0), refl),
      inl (
        refl,
        (
          x.id,
          h.0,
          ident_back s x.id h.0 h.1,
          (true, h.0, (sym (seen k.Colon h.2.1.0 h.0 h.2.0 h.2.1.1), refl), inl (refl, (x, r, item_type_back h.0 x r fits h.2 stop.0, (refl, refl)))),
        ),
      ),
    ),
  ),
)
world_item_path_back s (t.WorldItemPath.package_path x) r fits h stop =
    (true, s, (sym (seen k.PackagePath x.span s r h.0), refl), inl (refl, (x, r, package_path_back s x r h, (refl, refl))))
world_item_path_back s (t.WorldItemPath.ident id) r fits h stop = (
  false,
  s,
  (sym (sees_at k.Ident k.PackagePath id.span s r h.0), refl),
  inr (
    refl,
    (
      true,
      s,
      (sym (seen k.Ident id.span s r h.0), refl),
      inl (
        refl,
        (id, r, ident_back s id r h, (false, r, (sym stop.1, refl), inr (refl, (refl, refl)))),
      ),
    ),
  ),
)

pub path_ends : (span : t.Span) (s m : Input) → At k.Semicolon span s m → PathEnds s
unfolding same_token
path_ends span s m at = (func_ends span s m at, sees_at k.Semicolon k.Colon span s m at)

pub world_import_back : (s : Input) (x : t.WorldImport) (r : Input) → WorldItemPathFits x.path → WorldImport x s r → w.world_import.Is x s r
unfolding w.world_import n.docs
world_import_back s x r fits h =
    let i = h.2.2 in
    let path = world_item_path_back h.2.0 x.path i.0 fits i.1 (path_ends i.2.0 i.0 r i.2.1) in
    (x.docs, h.0, h.1, (h.2.1.0, h.2.0, h.2.1.1, (x.path, i.0, path, (i.2.0, r, i.2.1, (refl, refl)))))

pub world_export_back : (s : Input) (x : t.WorldExport) (r : Input) → WorldItemPathFits x.path → WorldExport x s r → w.world_export.Is x s r
unfolding w.world_export n.docs
world_export_back s x r fits h =
    let i = h.2.2 in
    let path = world_item_path_back h.2.0 x.path i.0 fits i.1 (path_ends i.2.0 i.0 r i.2.1) in
    (x.docs, h.0, h.1, (h.2.1.0, h.2.0, h.2.1.1, (x.path, i.0, path, (i.2.0, r, i.2.1, (refl, refl)))))

-- ---- what is included

pub world_ref_back : (s : Input) (x : t.WorldRef) (r : Input) → WorldRef x s r → w.world_ref.Is x s r
unfolding w.world_ref same_token
world_ref_back s (t.WorldRef.ident id) r h = (
  false,
  s,
  (sym (sees_at k.Ident k.PackagePath id.span s r h.0), refl),
  inr (
    refl,
    (true, s, (sym (seen k.Ident id.span s r h.0), refl), inl (refl, (id, r, ident_back s id r h, (refl, refl)))),
  ),
)
world_ref_back s (t.WorldRef.package_path x) r h =
    (true, s, (sym (seen k.PackagePath x.span s r h.0), refl), inl (refl, (x, r, package_path_back s x r h, (refl, refl))))

pub world_include_item_back : (s : Input) (x : t.WorldIncludeItem) (r : Input) → Unit {0} → IncludeItem x s r → Unit {0} → w.world_include_item.Is x s r
unfolding w.world_include_item
world_include_item_back s x r fits h stop =
    (x.from, h.0, ident_back s x.from h.0 h.1, (h.2.1.0, h.2.0, h.2.1.1, (x.to, r, ident_back h.2.0 x.to r h.2.2, (refl, refl))))

include_items_back : (s : Input) (xs : List t.WorldIncludeItem) (r : Input) → Braces (Separated IncludeItem xs) s r → w.include_items.Is xs s r
unfolding w.include_items same_token
include_items_back s xs r h =
    list_body_back w.world_include_item IncludeItem Always Always (k.Ident ∷ []) world_include_item_back world_include_item_begins
    (λ span s m at. tt) (λ span s m at. tt) refl s xs r (all_always xs) h

unnamed_back : (s : Input) (xs : List t.WorldIncludeItem) (r : Input) → Unnamed xs s r → Ends k.WithKeyword r → w.include_with.Is xs s r
unfolding w.include_with
unnamed_back s [] r h stop = let P : Input → Type 0 = λ (i : Input). Ends k.WithKeyword i in (false, s, optional_past k.WithKeyword s (subst P h stop), inr (refl, (refl, h)))
unnamed_back s (x ∷ xs) r h stop = absurd h

include_with_back : (s : Input) (xs : List t.WorldIncludeItem) (r : Input) → With xs s r → Ends k.WithKeyword r → w.include_with.Is xs s r
unfolding w.include_with
include_with_back s xs r h stop = elim h [
  | inl a ↦ unnamed_back s xs r a stop
  | inr a ↦ (true, a.0, optional_here k.WithKeyword a.1.0 s a.0 a.1.1, inl (refl, include_items_back a.0 xs r a.2))
]

pub world_include_back : (s : Input) (x : t.WorldInclude) (r : Input) → WorldInclude x s r → w.world_include.Is x s r
unfolding w.world_include n.docs same_token
world_include_back s x r h =
    let i = h.2.2 in
    let j = i.2 in
    let with_items = include_with_back i.0 x.with j.0 j.1 (ends_at k.Semicolon k.WithKeyword j.2.0 j.0 r refl j.2.1) in
    (x.docs, h.0, h.1, (h.2.1.0, h.2.0, h.2.1.1, (x.world, i.0, world_ref_back h.2.0 x.world i.0 i.1, (x.with, j.0, with_items, (j.2.0, r, j.2.1, (refl, refl))))))

-- ---- worlds

pub world_item_back : (s : Input) (x : t.WorldItem) (r : Input) → WorldItemFits x → WorldItem x s r → w.world_item.Is x s r
unfolding w.world_item same_token
world_item_back s (t.WorldItem.use_ x) r fits h =
    let is = use_types_back s x r h in
    let begun = use_types_begins.begins s x r is in
    (true, s, (sym (only k.UseKeyword s begun), refl), inl (refl, (x, r, is, (refl, refl))))
world_item_back s (t.WorldItem.ty x) r fits h =
    let is = item_type_decl_back s x r fits h in
    let begun = item_type_decl_begins.begins s x r is in (
      false,
      s,
      (sym (other k.UseKeyword d.item_type_decl_first s refl begun), refl),
      inr (
        refl,
        (
          false,
          s,
          (sym (other k.ImportKeyword d.item_type_decl_first s refl begun), refl),
          inr (
            refl,
            (
              false,
              s,
              (sym (other k.ExportKeyword d.item_type_decl_first s refl begun), refl),
              inr (
                refl,
                (
                  false,
                  s,
                  (sym (other k.IncludeKeyword d.item_type_decl_first s refl begun), refl),
                  inr (
                    refl,
                    (true, s, (sym begun, refl), inl (refl, (x, r, is, (refl, refl)))),
                  ),
                ),
              ),
            ),
          ),
        ),
      ),
    )
world_item_back s (t.WorldItem.import x) r fits h =
    let is = world_import_back s x r fits h in
    let begun = world_import_begins.begins s x r is in (
      false,
      s,
      (sym (other k.UseKeyword (k.ImportKeyword ∷ []) s refl begun), refl),
      inr (
        refl,
        (true, s, (sym (only k.ImportKeyword s begun), refl), inl (refl, (x, r, is, (refl, refl)))),
      ),
    )
world_item_back s (t.WorldItem.export x) r fits h =
    let is = world_export_back s x r fits h in
    let begun = world_export_begins.begins s x r is in (
      false,
      s,
      (sym (other k.UseKeyword (k.ExportKeyword ∷ []) s refl begun), refl),
      inr (
        refl,
        (
          false,
          s,
          (sym (other k.ImportKeyword (k.ExportKeyword ∷ []) s refl begun), refl),
          inr (
            refl,
            (true, s, (sym (only k.ExportKeyword s begun), refl), inl (refl, (x, r, is, (refl, refl)))),
          ),
        ),
      ),
    )
world_item_back s (t.WorldItem.include x) r fits h =
    let is = world_include_back s x r h in
    let begun = world_include_begins.begins s x r is in (
      false,
      s,
      (sym (other k.UseKeyword (k.IncludeKeyword ∷ []) s refl begun), refl),
      inr (
        refl,
        (
          false,
          s,
          (sym (other k.ImportKeyword (k.IncludeKeyword ∷ []) s refl begun), refl),
          inr (
            refl,
            (
              false,
              s,
              (sym (other k.ExportKeyword (k.IncludeKeyword ∷ []) s refl begun), refl),
              inr (
                refl,
                (true, s, (sym (only k.IncludeKeyword s begun), refl), inl (refl, (x, r, is, (refl, refl)))),
              ),
            ),
          ),
        ),
      ),
    )

world_items_back : (s : Input) (xs : List t.WorldItem) (r : Input) → AllFit WorldItemFits xs → Braces (Row WorldItem xs) s r → w.world_items.Is xs s r
unfolding w.world_items same_token
world_items_back s xs r fits h =
    row_body_back w.world_item WorldItem WorldItemFits w.world_item_first world_item_back world_item_begins refl s xs r fits h

pub world_decl_back : (s : Input) (x : t.WorldDecl) (r : Input) → AllFit WorldItemFits x.items → WorldDecl x s r → w.world_decl.Is x s r
unfolding w.world_decl n.docs
world_decl_back s x r fits h =
    (x.docs, h.0, h.1, (h.2.1.0, h.2.0, h.2.1.1, (x.id, h.2.2.0, ident_back h.2.0 x.id h.2.2.0 h.2.2.1, (x.items, r, world_items_back h.2.2.0 x.items r fits h.2.2.2, (refl, refl)))))
