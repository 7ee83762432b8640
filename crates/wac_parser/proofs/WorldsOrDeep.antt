-- What has the plain form of an interface or a world is read, or refused as nested too deep.
use Rattle.std.proofs.Common.{◌≡◌, Bool, true, false, List, ◌∷◌, refl, cond}
use Rattle.wac_parser_lexer.specs.declared.token.Token.{Token}
use Rattle.wac_parser_lexer.specs.declared.token.Token.TheVariants as k
use Rattle.wac_parser_lexer.specs.Items.{Input}
use Rattle.wac_parser_tree.specs.Trees as t
use Rattle.wac_parser_grammar.specs.Ahead.{same_token, is_token, is_any, next_token, sees_any}
use Rattle.wac_parser_grammar.specs.ValueTypes as v
use Rattle.wac_parser_grammar.specs.Declarations as d
use Rattle.wac_parser_grammar.specs.Worlds as w
use Rattle.wac_parser_grammar.specs.Forms.{Word, ◌⨾◌, Row, Braces}
use Rattle.wac_parser_grammar.specs.FormsOfDeclarations.{Use, InterfaceExport, InterfaceItem, InterfaceDecl, InlineInterface, ExternType, WorldItemPath, WorldImport, WorldExport, WorldInclude, WorldItem, WorldDecl}
use Rattle.wac_parser_grammar.specs.FormDepths.{Always, FuncEnds, PathEnds}
use Rattle.wac_parser_grammar.proofs.WorldLaws.{use_types_exact, interface_item_exact, interface_item_takes, world_include_exact, world_item_exact, world_item_takes}
use Rattle.wac_parser_grammar.proofs.TableBackFuncs.{func_begun}
use Rattle.wac_parser_grammar.proofs.TableBackChoices.{other, func_ends}
use Rattle.wac_parser_grammar.proofs.TableBackInterfaces.{use_types_back}
use Rattle.wac_parser_grammar.proofs.TableBackWorlds.{world_include_back, path_ends}
use Rattle.wac_parser.proofs.OrDeep.{Meets, met, taken, go, at, as_one, next, behind_docs, seeing_any, come, pass, past, any_here, pass_any, docs_met, ident_met, package_path_met}
use Rattle.wac_parser.proofs.FuncsOrDeep.{func_type_met, func_type_ref_met}
use Rattle.wac_parser.proofs.DeclsOrDeep.{row_body_met, item_type_decl_met, item_type_decl_begun}

by_more : (b c : Bool) → c ≡ true → cond b true c ≡ true
by_more true c h = refl
by_more false c h = h

-- one token more that may come
pub wider : (k : Token) (ks : List Token) (s : Input) → sees_any ks s ≡ true → sees_any (k ∷ ks) s ≡ true
unfolding sees_any
wider k ks s h = by_more (is_token k (next_token s)) (is_any ks (next_token s)) h

-- ---- interfaces

pub use_types_met : (s : Input) (x : t.Use) (r : Input) → Use x s r → Meets w.use_types s x r
use_types_met s x r h = taken use_types_exact (use_types_back s x r h)

interface_export_met : (s : Input) (x : t.InterfaceExport) (r : Input) → InterfaceExport x s r → Meets w.interface_export s x r
unfolding w.interface_export
interface_export_met s x r h =
    let i = h.2.2 in
    let ty = i.2 in
    let end = ty.2 in
    go _ (docs_met h.1) (go _ (ident_met h.2.1) (go _ (at i.1.1) (go _ (func_type_ref_met i.0 x.ty ty.0 ty.1 (func_ends end.0 ty.0 r end.1)) (go _ (at end.1) (met refl)))))

interface_item_met : (s : Input) (x : t.InterfaceItem) (r : Input) → InterfaceItem x s r → Unit {0} → Meets w.interface_item s x r
unfolding w.interface_item same_token
interface_item_met s (t.InterfaceItem.use_ x) r h e = come _ (behind_docs h.1.1 h.2.1.1) (as_one t.InterfaceItem.use_ (use_types_met s x r h))
interface_item_met s (t.InterfaceItem.ty x) r h e =
    let begun = item_type_decl_begun s x r h in
    past k.UseKeyword _ (other k.UseKeyword d.item_type_decl_first s refl begun) (past k.Ident _ (other k.Ident d.item_type_decl_first s refl begun)
    (any_here _ _ begun (as_one t.InterfaceItem.ty (item_type_decl_met s x r h))))
interface_item_met s (t.InterfaceItem.export x) r h e =
    let nx = behind_docs h.1.1 h.2.1.0 in pass _ _ nx refl (come _ nx (as_one t.InterfaceItem.export (interface_export_met s x r h)))

interface_item_begun : (s : Input) (x : t.InterfaceItem) (r : Input) → InterfaceItem x s r → sees_any w.interface_item_first s ≡ true
unfolding same_token
interface_item_begun s (t.InterfaceItem.use_ x) r h = seeing_any w.interface_item_first (behind_docs h.1.1 h.2.1.1)
interface_item_begun s (t.InterfaceItem.ty x) r h = wider k.UseKeyword _ s (wider k.Ident _ s (item_type_decl_begun s x r h))
interface_item_begun s (t.InterfaceItem.export x) r h = seeing_any w.interface_item_first (behind_docs h.1.1 h.2.1.0)

interface_items_met : (s : Input) (xs : List t.InterfaceItem) (r : Input) → Braces (Row InterfaceItem xs) s r → Meets w.interface_items s xs r
unfolding w.interface_items same_token
interface_items_met s xs r h =
    row_body_met w.interface_item InterfaceItem Always w.interface_item_first interface_item_met interface_item_begun interface_item_exact interface_item_takes refl (λ i. tt) s xs r h

pub interface_decl_met : (s : Input) (x : t.InterfaceDecl) (r : Input) → InterfaceDecl x s r → Meets w.interface_decl s x r
unfolding w.interface_decl
interface_decl_met s x r h = let i = h.2.2 in go _ (docs_met h.1) (go _ (at h.2.1.1) (go _ (ident_met i.1) (go _ (interface_items_met i.0 x.items r i.2) (met refl))))

pub inline_interface_met : (s : Input) (x : t.InlineInterface) (r : Input) → InlineInterface x s r → Meets w.inline_interface s x r
unfolding w.inline_interface
inline_interface_met s x r h = go _ (at h.1.1) (go _ (interface_items_met h.0 x.items r h.2) (met refl))

-- ---- worlds

extern_type_met : (s : Input) (x : t.ExternType) (r : Input) → ExternType x s r → FuncEnds r → Meets w.extern_type s x r
unfolding w.extern_type same_token
extern_type_met s (t.ExternType.ident id) r h stop = come _ (next h.0) (as_one t.ExternType.ident (ident_met h))
extern_type_met s (t.ExternType.func x) r h stop =
    let begun = func_begun x.is_async s h.0 h.2.0 h.2.1.0 h.1 h.2.1.1 in
    past k.Ident _ (other k.Ident v.func_first s refl begun) (any_here _ _ begun (as_one t.ExternType.func (func_type_met s x r h stop)))
extern_type_met s (t.ExternType.interface x) r h stop =
    let nx = next h.1.1 in pass _ _ nx refl (pass_any _ _ nx refl (come _ nx (as_one t.ExternType.interface (inline_interface_met s x r h))))

item_type_met : (s : Input) (x : t.NamedWorldItem) (r : Input) → (Word k.Colon ⨾ ExternType x.ty) s r → FuncEnds r → Meets (w.item_type x.id) s x r
unfolding w.item_type
item_type_met s x r h stop = go _ (at h.1.1) (go _ (extern_type_met h.0 x.ty r h.2 stop) (met refl))

world_item_path_met : (s : Input) (x : t.WorldItemPath) (r : Input) → WorldItemPath x s r → PathEnds r → Meets w.world_item_path s x r
unfolding w.world_item_path w.ident_path same_token
world_item_path_met s (t.WorldItemPath.named x) r h stop =
    let nx = next h.1.0 in
    pass _ _ nx refl (come _ nx (go _ (ident_met h.1) (come _ (next h.2.1.1) (as_one t.WorldItemPath.named (item_type_met h.0 x r h.2 stop.0)))))
world_item_path_met s (t.WorldItemPath.package_path x) r h stop = come _ (next h.0) (as_one t.WorldItemPath.package_path (package_path_met h))
world_item_path_met s (t.WorldItemPath.ident id) r h stop = let nx = next h.0 in pass _ _ nx refl (come _ nx (go _ (ident_met h) (past k.Colon _ stop.1 (met refl))))

world_import_met : (s : Input) (x : t.WorldImport) (r : Input) → WorldImport x s r → Meets w.world_import s x r
unfolding w.world_import
world_import_met s x r h =
    let i = h.2.2 in
    let end = i.2 in
    go _ (docs_met h.1) (go _ (at h.2.1.1) (go _ (world_item_path_met h.2.0 x.path i.0 i.1 (path_ends end.0 i.0 r end.1)) (go _ (at end.1) (met refl))))

world_export_met : (s : Input) (x : t.WorldExport) (r : Input) → WorldExport x s r → Meets w.world_export s x r
unfolding w.world_export
world_export_met s x r h =
    let i = h.2.2 in
    let end = i.2 in
    go _ (docs_met h.1) (go _ (at h.2.1.1) (go _ (world_item_path_met h.2.0 x.path i.0 i.1 (path_ends end.0 i.0 r end.1)) (go _ (at end.1) (met refl))))

world_include_met : (s : Input) (x : t.WorldInclude) (r : Input) → WorldInclude x s r → Meets w.world_include s x r
world_include_met s x r h = taken world_include_exact (world_include_back s x r h)

world_item_met : (s : Input) (x : t.WorldItem) (r : Input) → WorldItem x s r → Unit {0} → Meets w.world_item s x r
unfolding w.world_item same_token
world_item_met s (t.WorldItem.use_ x) r h e = come _ (behind_docs h.1.1 h.2.1.1) (as_one t.WorldItem.use_ (use_types_met s x r h))
world_item_met s (t.WorldItem.ty x) r h e =
    let begun = item_type_decl_begun s x r h in
    past k.UseKeyword _ (other k.UseKeyword d.item_type_decl_first s refl begun) (past k.ImportKeyword _ (other k.ImportKeyword d.item_type_decl_first s refl begun)
    (past k.ExportKeyword _ (other k.ExportKeyword d.item_type_decl_first s refl begun) (past k.IncludeKeyword _ (other k.IncludeKeyword d.item_type_decl_first s refl begun)
    (any_here _ _ begun (as_one t.WorldItem.ty (item_type_decl_met s x r h))))))
world_item_met s (t.WorldItem.import x) r h e = let nx = behind_docs h.1.1 h.2.1.1 in pass _ _ nx refl (come _ nx (as_one t.WorldItem.import (world_import_met s x r h)))
world_item_met s (t.WorldItem.export x) r h e =
    let nx = behind_docs h.1.1 h.2.1.1 in pass _ _ nx refl (pass _ _ nx refl (come _ nx (as_one t.WorldItem.export (world_export_met s x r h))))
world_item_met s (t.WorldItem.include x) r h e =
    let nx = behind_docs h.1.1 h.2.1.1 in pass _ _ nx refl (pass _ _ nx refl (pass _ _ nx refl (come _ nx (as_one t.WorldItem.include (world_include_met s x r h)))))

world_item_begun : (s : Input) (x : t.WorldItem) (r : Input) → WorldItem x s r → sees_any w.world_item_first s ≡ true
unfolding same_token
world_item_begun s (t.WorldItem.use_ x) r h = seeing_any w.world_item_first (behind_docs h.1.1 h.2.1.1)
world_item_begun s (t.WorldItem.ty x) r h =
    wider k.UseKeyword _ s (wider k.ImportKeyword _ s (wider k.ExportKeyword _ s (wider k.IncludeKeyword _ s (item_type_decl_begun s x r h))))
world_item_begun s (t.WorldItem.import x) r h = seeing_any w.world_item_first (behind_docs h.1.1 h.2.1.1)
world_item_begun s (t.WorldItem.export x) r h = seeing_any w.world_item_first (behind_docs h.1.1 h.2.1.1)
world_item_begun s (t.WorldItem.include x) r h = seeing_any w.world_item_first (behind_docs h.1.1 h.2.1.1)

world_items_met : (s : Input) (xs : List t.WorldItem) (r : Input) → Braces (Row WorldItem xs) s r → Meets w.world_items s xs r
unfolding w.world_items same_token
world_items_met s xs r h = row_body_met w.world_item WorldItem Always w.world_item_first world_item_met world_item_begun world_item_exact world_item_takes refl (λ i. tt) s xs r h

pub world_decl_met : (s : Input) (x : t.WorldDecl) (r : Input) → WorldDecl x s r → Meets w.world_decl s x r
unfolding w.world_decl
world_decl_met s x r h = let i = h.2.2 in go _ (docs_met h.1) (go _ (at h.2.1.1) (go _ (ident_met i.1) (go _ (world_items_met i.0 x.items r i.2) (met refl))))
