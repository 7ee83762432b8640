-- What holds of the rules, for those who reason by them.
use Rattle.std.specs.Prelude.{◌≡◌, ◌↔◌, ◌⊎◌, ℕ, suc, Bool, true, List, [], ◌∷◌, Some, None, Ok, Err, ◌<◌}
use Rattle.wac_parser_lexer.specs.declared.span.SourceSpan.{SourceSpan}
use Rattle.wac_parser_lexer.specs.declared.error.Error as lexer_error
use Rattle.wac_parser_lexer.specs.declared.token.Token.{Token}
use Rattle.wac_parser_lexer.specs.declared.token.Token.TheVariants as k
use Rattle.wac_parser_lexer.specs.Items.{Input, input_of}
use Rattle.wac_parser_lexer.specs.Refused.{first_refused}
use Rattle.wac_parser_tree.specs.Trees as t
use Rattle.wac_parser_grammar.specs.Faults.{Fault, lexer}
use Rattle.wac_parser_grammar.specs.Ahead.{sees_any}
use Rattle.wac_parser_grammar.specs.Standing.{Saying, StandsBy, IsTooDeep, IsUntracked, Stands}
use Rattle.wac_parser_grammar.specs.Places.{IsBehind}
use Rattle.wac_parser_grammar.specs.Rules.{Rule, left, list_of, optional_of}
use Rattle.wac_parser_grammar.specs.Rules as r
use Rattle.wac_parser_grammar.specs.Reads.{read_source}
use Rattle.wac_parser_grammar.specs.Names as n
use Rattle.wac_parser_grammar.specs.ValueTypes as v
use Rattle.wac_parser_grammar.specs.Expressions as e
use Rattle.wac_parser_grammar.specs.Declarations as d
use Rattle.wac_parser_grammar.specs.Worlds as w
use Rattle.wac_parser_grammar.specs.Documents as s

-- The rule reads a value exactly where the items up to the place spell it, so that at most one is spelled there.
pub record IsExact {X : Type 0} (p : Rule X) : Type 0 where
  pub sound : (s : Input) (x : X) (r : Input) → p.read s ≡ Ok (x, r) → p.Is x s r
  pub complete : (s : Input) (x : X) (r : Input) → p.Is x s r → p.read s ≡ Ok (x, r)

-- Where a value is spelled, one of the tokens comes next, and is taken.
pub record IsBegun {X : Type 0} (first : List Token) (p : Rule X) : Type 0 where
  pub begins : (s : Input) (x : X) (r : Input) → p.Is x s r → sees_any first s ≡ true
  pub takes : (s : Input) (x : X) (r : Input) → p.Is x s r → left r < left s

-- the rules of all trees, of a token, and of what stands behind a keyword that may have a payload
pub record RulesAreExact : Type 0 where
  pub token : (x : Token) → IsExact (r.token x)
  pub payload : (start : SourceSpan) → IsExact (v.payload v.value_type start)
  pub docs : IsExact n.docs
  pub ident : IsExact n.ident
  pub string : IsExact n.string
  pub package_name : IsExact n.package_name
  pub new_package : IsExact n.new_package
  pub package_path : IsExact n.package_path
  pub value_type : IsExact v.value_type
  pub named_type : IsExact v.named_type
  pub result_list : IsExact v.result_list
  pub func_type : IsExact v.func_type
  pub func_type_ref : IsExact v.func_type_ref
  pub argument_name : IsExact e.argument_name
  pub access_expr : IsExact e.access_expr
  pub named_access_expr : IsExact e.named_access_expr
  pub expression : IsExact e.expression
  pub instantiation_argument : (depth : ℕ) → IsExact (e.instantiation_argument (e.expr depth))
  pub named_argument : (depth : ℕ) → IsExact (e.named_argument (e.expr depth))
  pub nested_expr : (depth : ℕ) → IsExact (e.nested_expr (e.expr depth))
  pub new_expr : (depth : ℕ) → IsExact (e.new_expr (e.expr depth))
  pub primary_expr : (depth : ℕ) → IsExact (e.primary_expr (e.expr depth))
  pub variant_case : IsExact d.variant_case
  pub variant_decl : IsExact d.variant_decl
  pub field : IsExact d.field
  pub record_decl : IsExact d.record_decl
  pub flag : IsExact d.flag
  pub flags_decl : IsExact d.flags_decl
  pub enum_case : IsExact d.enum_case
  pub enum_decl : IsExact d.enum_decl
  pub type_alias_kind : IsExact d.type_alias_kind
  pub type_alias : IsExact d.type_alias
  pub constructor : IsExact d.constructor
  pub method : IsExact d.method
  pub resource_method : IsExact d.resource_method
  pub resource_decl : IsExact d.resource_decl
  pub type_decl : IsExact d.type_decl
  pub item_type_decl : IsExact d.item_type_decl
  pub use_path : IsExact w.use_path
  pub use_item : IsExact w.use_item
  pub use_types : IsExact w.use_types
  pub interface_export : IsExact w.interface_export
  pub interface_item : IsExact w.interface_item
  pub interface_decl : IsExact w.interface_decl
  pub inline_interface : IsExact w.inline_interface
  pub extern_type : IsExact w.extern_type
  pub named_world_item : IsExact w.named_world_item
  pub world_item_path : IsExact w.world_item_path
  pub world_import : IsExact w.world_import
  pub world_export : IsExact w.world_export
  pub world_ref : IsExact w.world_ref
  pub world_include_item : IsExact w.world_include_item
  pub world_include : IsExact w.world_include
  pub world_item : IsExact w.world_item
  pub world_decl : IsExact w.world_decl
  pub extern_name : IsExact s.extern_name
  pub import_type : IsExact s.import_type
  pub import_statement : IsExact s.import_statement
  pub let_statement : IsExact s.let_statement
  pub export_options : IsExact s.export_options
  pub export_statement : IsExact s.export_statement
  pub type_statement : IsExact s.type_statement
  pub statement : IsExact s.statement
  pub package_directive : IsExact s.package_directive
  pub document : IsExact s.document

-- the trees that are known by their first token
pub record TreesAreBegun : Type 0 where
  pub ident : IsBegun (k.Ident ∷ []) n.ident
  pub string : IsBegun (k.String ∷ []) n.string
  pub package_path : IsBegun (k.PackagePath ∷ []) n.package_path
  pub value_type : IsBegun v.type_first v.value_type
  pub named_type : IsBegun (k.Ident ∷ []) v.named_type
  pub func_type : IsBegun v.func_first v.func_type
  pub argument_name : IsBegun e.name_first e.argument_name
  pub access_expr : IsBegun (k.Dot ∷ []) e.access_expr
  pub named_access_expr : IsBegun (k.OpenBracket ∷ []) e.named_access_expr
  pub variant_case : IsBegun (k.Ident ∷ []) d.variant_case
  pub variant_decl : IsBegun (k.VariantKeyword ∷ []) d.variant_decl
  pub field : IsBegun (k.Ident ∷ []) d.field
  pub record_decl : IsBegun (k.RecordKeyword ∷ []) d.record_decl
  pub flag : IsBegun (k.Ident ∷ []) d.flag
  pub flags_decl : IsBegun (k.FlagsKeyword ∷ []) d.flags_decl
  pub enum_case : IsBegun (k.Ident ∷ []) d.enum_case
  pub enum_decl : IsBegun (k.EnumKeyword ∷ []) d.enum_decl
  pub type_alias : IsBegun (k.TypeKeyword ∷ []) d.type_alias
  pub constructor : IsBegun (k.ConstructorKeyword ∷ []) d.constructor
  pub method : IsBegun (k.Ident ∷ []) d.method
  pub resource_method : IsBegun d.method_first d.resource_method
  pub resource_decl : IsBegun (k.ResourceKeyword ∷ []) d.resource_decl
  pub type_decl : IsBegun d.type_decl_first d.type_decl
  pub item_type_decl : IsBegun d.item_type_decl_first d.item_type_decl
  pub use_path : IsBegun w.path_first w.use_path
  pub use_item : IsBegun (k.Ident ∷ []) w.use_item
  pub use_types : IsBegun (k.UseKeyword ∷ []) w.use_types
  pub interface_export : IsBegun (k.Ident ∷ []) w.interface_export
  pub interface_item : IsBegun w.interface_item_first w.interface_item
  pub interface_decl : IsBegun (k.InterfaceKeyword ∷ []) w.interface_decl
  pub inline_interface : IsBegun (k.InterfaceKeyword ∷ []) w.inline_interface
  pub named_world_item : IsBegun (k.Ident ∷ []) w.named_world_item
  pub world_import : IsBegun (k.ImportKeyword ∷ []) w.world_import
  pub world_export : IsBegun (k.ExportKeyword ∷ []) w.world_export
  pub world_include_item : IsBegun (k.Ident ∷ []) w.world_include_item
  pub world_include : IsBegun (k.IncludeKeyword ∷ []) w.world_include
  pub world_item : IsBegun w.world_item_first w.world_item
  pub world_decl : IsBegun (k.WorldKeyword ∷ []) w.world_decl
  pub extern_name : IsBegun e.name_first s.extern_name
  pub import_statement : IsBegun (k.ImportKeyword ∷ []) s.import_statement
  pub let_statement : IsBegun (k.LetKeyword ∷ []) s.let_statement
  pub export_statement : IsBegun (k.ExportKeyword ∷ []) s.export_statement
  pub type_statement : IsBegun s.type_statement_first s.type_statement
  pub statement : IsBegun s.statement_first s.statement
  pub package_directive : IsBegun (k.PackageKeyword ∷ []) s.package_directive
  pub instantiation_argument : (depth : ℕ) → IsBegun e.argument_first (e.instantiation_argument (e.expr depth))
  pub named_argument : (depth : ℕ) → IsBegun e.name_first (e.named_argument (e.expr depth))
  pub nested_expr : (depth : ℕ) → IsBegun (k.OpenParen ∷ []) (e.nested_expr (e.expr depth))
  pub new_expr : (depth : ℕ) → IsBegun (k.NewKeyword ∷ []) (e.new_expr (e.expr depth))

-- The source spells the document: no character of it is refused, and its items are those of the document, up to the end.
abbrev pub IsDocument : t.Document → List ℕ → Type 0
IsDocument d source = (first_refused source ≡ None) × (end : Input) × (end.items ≡ []) × s.document.Is d (input_of source) end

-- a source is read as a document exactly where it spells it, so that it spells at most one
abbrev pub DocumentsAreRead : Type 0
DocumentsAreRead = (source : List ℕ) (d : t.Document) → (read_source s.document source ≡ Ok d) ↔ IsDocument d source

-- A value is read up to a place behind items of this one. Each fault that the rule meets stands here or at such a place.
pub record FaultsStandBy {X : Type 0} (said : Saying) (p : Rule X) : Type 0 where
  pub goes_on : (s : Input) (x : X) (r : Input) → p.read s ≡ Ok (x, r) → IsBehind r s
  pub stands : (s : Input) (fault : Fault) → p.read s ≡ Err fault → StandsBy said s fault

-- with room for so many levels
abbrev pub FaultsStandWithin : {X : Type 0} → ℕ → Rule X → Type 0
FaultsStandWithin n p = FaultsStandBy (IsTooDeep n) p

-- the same with room for all levels
abbrev pub FaultsStand : {X : Type 0} → Rule X → Type 0
FaultsStand p = FaultsStandWithin 128 p

-- the faults of the same rules
pub record AllFaultsStand : Type 0 where
  pub token : (x : Token) → FaultsStand (r.token x)
  pub payload : (start : SourceSpan) → FaultsStand (v.payload v.value_type start)
  pub docs : FaultsStand n.docs
  pub ident : FaultsStand n.ident
  pub string : FaultsStand n.string
  pub package_name : FaultsStand n.package_name
  pub new_package : FaultsStand n.new_package
  pub package_path : FaultsStand n.package_path
  pub value_type : FaultsStand v.value_type
  pub named_type : FaultsStand v.named_type
  pub result_list : FaultsStand v.result_list
  pub func_type : FaultsStand v.func_type
  pub func_type_ref : FaultsStand v.func_type_ref
  pub argument_name : FaultsStand e.argument_name
  pub access_expr : FaultsStand e.access_expr
  pub named_access_expr : FaultsStand e.named_access_expr
  pub expression : FaultsStand e.expression
  pub instantiation_argument : (depth : ℕ) → FaultsStandWithin depth (e.instantiation_argument (e.expr depth))
  pub named_argument : (depth : ℕ) → FaultsStandWithin depth (e.named_argument (e.expr depth))
  pub nested_expr : (depth : ℕ) → FaultsStandWithin (suc depth) (e.nested_expr (e.expr depth))
  pub new_expr : (depth : ℕ) → FaultsStandWithin (suc depth) (e.new_expr (e.expr depth))
  pub primary_expr : (depth : ℕ) → FaultsStandWithin (suc depth) (e.primary_expr (e.expr depth))
  pub variant_case : FaultsStand d.variant_case
  pub variant_decl : FaultsStand d.variant_decl
  pub field : FaultsStand d.field
  pub record_decl : FaultsStand d.record_decl
  pub flag : FaultsStand d.flag
  pub flags_decl : FaultsStand d.flags_decl
  pub enum_case : FaultsStand d.enum_case
  pub enum_decl : FaultsStand d.enum_decl
  pub type_alias_kind : FaultsStand d.type_alias_kind
  pub type_alias : FaultsStand d.type_alias
  pub constructor : FaultsStand d.constructor
  pub method : FaultsStand d.method
  pub resource_method : FaultsStand d.resource_method
  pub resource_decl : FaultsStand d.resource_decl
  pub type_decl : FaultsStand d.type_decl
  pub item_type_decl : FaultsStand d.item_type_decl
  pub use_path : FaultsStand w.use_path
  pub use_item : FaultsStand w.use_item
  pub use_types : FaultsStand w.use_types
  pub interface_export : FaultsStand w.interface_export
  pub interface_item : FaultsStand w.interface_item
  pub interface_decl : FaultsStand w.interface_decl
  pub inline_interface : FaultsStand w.inline_interface
  pub extern_type : FaultsStand w.extern_type
  pub named_world_item : FaultsStand w.named_world_item
  pub world_item_path : FaultsStand w.world_item_path
  pub world_import : FaultsStand w.world_import
  pub world_export : FaultsStand w.world_export
  pub world_ref : FaultsStand w.world_ref
  pub world_include_item : FaultsStand w.world_include_item
  pub world_include : FaultsStand w.world_include
  pub world_item : FaultsStand w.world_item
  pub world_decl : FaultsStand w.world_decl
  pub extern_name : FaultsStand s.extern_name
  pub import_type : FaultsStand s.import_type
  pub import_statement : FaultsStand s.import_statement
  pub let_statement : FaultsStand s.let_statement
  pub export_options : FaultsStand s.export_options
  pub export_statement : FaultsStand s.export_statement
  pub type_statement : FaultsStand s.type_statement
  pub statement : FaultsStand s.statement
  pub package_directive : FaultsStand s.package_directive
  pub document : FaultsStand s.document

-- The rules of a `new` and of what holds it: a text that they refuse as a version is no version track.
pub record NoTrackIsRefused : Type 0 where
  pub new_package : FaultsStandBy (IsUntracked 128) n.new_package
  pub expression : FaultsStandBy (IsUntracked 128) e.expression
  pub instantiation_argument : (depth : ℕ) → FaultsStandBy (IsUntracked depth) (e.instantiation_argument (e.expr depth))
  pub named_argument : (depth : ℕ) → FaultsStandBy (IsUntracked depth) (e.named_argument (e.expr depth))
  pub nested_expr : (depth : ℕ) → FaultsStandBy (IsUntracked (suc depth)) (e.nested_expr (e.expr depth))
  pub new_expr : (depth : ℕ) → FaultsStandBy (IsUntracked (suc depth)) (e.new_expr (e.expr depth))
  pub primary_expr : (depth : ℕ) → FaultsStandBy (IsUntracked (suc depth)) (e.primary_expr (e.expr depth))
  pub let_statement : FaultsStandBy (IsUntracked 128) s.let_statement
  pub export_statement : FaultsStandBy (IsUntracked 128) s.export_statement

-- The fault stands in the source: it is its first refused character, or stands where its items are.
abbrev pub StandsIn : List ℕ → Fault → Type 0
StandsIn source fault = ((e : lexer_error.Error × SourceSpan) × (first_refused source ≡ Some e) × (fault ≡ lexer e.0 e.1))
    ⊎ Stands 128 (input_of source) fault

-- a source that is not read as a document has a fault that stands in it
abbrev pub DocumentFaultsStand : Type 0
DocumentFaultsStand = (source : List ℕ) (fault : Fault) → read_source s.document source ≡ Err fault → StandsIn source fault

-- ---- rules made of another

-- of values up to a token, each followed by a comma or not
abbrev pub ListsAreExact : {X : Type 0} → List Token → Rule X → Type 0
ListsAreExact first p = (until : Token) (commas : Bool) → IsExact (list_of p first until commas)

abbrev pub ListFaultsStand : {X : Type 0} → List Token → Rule X → Type 0
ListFaultsStand first p = (until : Token) (commas : Bool) → FaultsStand (list_of p first until commas)

-- of a value behind a token, where that comes next
abbrev pub OptionalsAreExact : {X : Type 0} → Rule X → Type 0
OptionalsAreExact p = (x : Token) → IsExact (optional_of x p)

abbrev pub OptionalFaultsStand : {X : Type 0} → Rule X → Type 0
OptionalFaultsStand p = (x : Token) → FaultsStand (optional_of x p)
