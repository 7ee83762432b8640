-- The forms of the language: which items spell a tree, from one place up to another. Nothing is said of how they are found.
use Rattle.std.specs.Prelude.{◌≡◌, ℕ, Bool, true, false, List, [], ◌∷◌, map, Option, Some, None, unwrap_or, Ok, ◌⊎◌, IfSome}
use Rattle.semver.specs.Parse.{version_parts}
use Rattle.wac_types_names.specs.Tracks.{IsTrack}
use Rattle.wac_parser_lexer.specs.declared.token.Token.{Token}
use Rattle.wac_parser_lexer.specs.declared.token.Token.TheVariants as k
use Rattle.wac_parser_lexer.specs.Pieces.{text_at}
use Rattle.wac_parser_lexer.specs.Items.{Doc, Item, Input, rest_input, docs_ahead}
use Rattle.wac_parser_tree.specs.Trees as t
use Rattle.wac_parser_tree.specs.Accessors.{primary_expr_span}
use Rattle.wac_parser_grammar.specs.Names.{doc_comment, strip_percent, strip_quotes, before, behind_first}
use Rattle.wac_parser_grammar.specs.ValueTypes.{through}
use Rattle.wac_parser_grammar.specs.Expressions.{spanning}

-- ---- words

-- what stands between two places
abbrev pub Part : Type 1
Part = Input → Input → Type 0

abbrev pub Nothing : Part
Nothing s r = r ≡ s

-- the next item is the token, at the span
abbrev pub At : Token → t.Span → Part
At k span s r = (docs : List Doc) × (rest : List Item) × (s.items ≡ record { docs = docs; token = Ok k; span = span } ∷ rest)
    × (r ≡ rest_input s)

abbrev pub Word : Token → Part
Word k s r = (span : t.Span) × At k span s r

infixr 10 ◌⨾◌
abbrev pub ◌⨾◌ : Part → Part → Part
(P ⨾ Q) s r = (m : Input) × P s m × Q m r

abbrev pub Never : Part
Never s r = ⊥

infixr 5 ◌or◌
abbrev pub ◌or◌ : Part → Part → Part
(P or Q) s r = P s r ⊎ Q s r

abbrev pub Maybe : Part → Part
Maybe P = P or Nothing

-- the token where the mark is set
abbrev pub Marked : Token → Bool → Part
Marked k true = Word k
Marked k false = Nothing

-- the part between two tokens, and the span from the one through the other
abbrev pub Between : Token → Part → Token → t.Span → Part
Between first P last span s r =
    (start : t.Span) × (end : t.Span) × (span ≡ through start end) × (At first start ⨾ P ⨾ At last end) s r

-- one behind the other
abbrev pub Row : {X : Type 0} → (X → Part) → List X → Part
Row F [] = Nothing
Row F (x ∷ xs) = F x ⨾ Row F xs

-- further ones, each behind a comma, and a last comma or none
abbrev pub Further : {X : Type 0} → (X → Part) → List X → Part
Further F [] = Maybe (Word k.Comma)
Further F (x ∷ xs) = Word k.Comma ⨾ F x ⨾ Further F xs

-- one or more, with commas
abbrev pub OneOrMore : {X : Type 0} → (X → Part) → List X → Part
OneOrMore F [] = Never
OneOrMore F (x ∷ xs) = F x ⨾ Further F xs

-- any number, with commas
abbrev pub Separated : {X : Type 0} → (X → Part) → List X → Part
Separated F [] = Nothing
Separated F (x ∷ xs) = F x ⨾ Further F xs

abbrev pub Braces : Part → Part
Braces P = Word k.OpenBrace ⨾ P ⨾ Word k.CloseBrace

-- the value behind the token, or nothing
abbrev pub Behind : {X : Type 0} → Token → (X → Part) → Option X → Part
Behind k F None = Nothing
Behind k F (Some x) = Word k ⨾ F x

-- ---- names

-- the doc comments before the next item
abbrev pub Docs : List t.DocComment → Part
Docs docs s r = (docs ≡ map doc_comment (docs_ahead s)) × (r ≡ s)

abbrev pub Ident : t.Ident → Part
Ident x s r = At k.Ident x.span s r × (x.string ≡ strip_percent (text_at s.source x.span))

abbrev pub Quoted : t.StringLiteral → Part
Quoted x s r = At k.String x.span s r × (x.value ≡ strip_quotes (text_at s.source x.span))

-- no text is no version
abbrev pub Version : Option (List ℕ) → Option t.Version → Type 0
Version None v = v ≡ None
Version (Some text) v = (parts : t.Version) × (version_parts text ≡ Ok parts) × (v ≡ Some parts)

-- a name, and behind an `@` its version
abbrev pub PackageName : t.PackageName → Part
PackageName x s r =
    At k.PackageName x.span s r × (x.string ≡ text_at s.source x.span) × (x.name ≡ before 64 x.string)
    × Version (behind_first 64 x.string) x.version

-- a version and no track, or a track and no version
abbrev pub VersionOrTrack : Option (List ℕ) → Option t.Version → Option (List ℕ) → Type 0
VersionOrTrack text version None = Version text version × IfSome text (λ z. IsTrack z → ⊥)
VersionOrTrack text version (Some track) = (text ≡ Some track) × IsTrack track × (version ≡ None)

-- the package of a `new`: a name, and behind an `@` its version, or a version track
abbrev pub NewPackage : t.PackageName × Option (List ℕ) → Part
NewPackage p s r =
    At k.PackageName p.0.span s r × (p.0.string ≡ text_at s.source p.0.span) × (p.0.name ≡ before 64 p.0.string)
    × VersionOrTrack (behind_first 64 p.0.string) p.0.version p.1

-- before the `@` a name, a slash and segments
abbrev pub PackagePath : t.PackagePath → Part
PackagePath x s r =
    At k.PackagePath x.span s r × (x.string ≡ text_at s.source x.span) × (x.name ≡ before 47 (before 64 x.string))
    × (x.segments ≡ unwrap_or (behind_first 47 (before 64 x.string)) []) × Version (behind_first 64 x.string) x.version

-- ---- types

-- a result of no types is one word
abbrev pub Bare : t.MaybeTy → t.MaybeTy → t.Span → Part
Bare ok err span s r = (ok ≡ t.MaybeTy.no_ty) × (err ≡ t.MaybeTy.no_ty) × At k.ResultKeyword span s r

abbrev mutual
  -- the type of a value
  pub Ty : t.Ty → Part
  Ty (t.Ty.u8 span) = At k.U8Keyword span
  Ty (t.Ty.s8 span) = At k.S8Keyword span
  Ty (t.Ty.u16 span) = At k.U16Keyword span
  Ty (t.Ty.s16 span) = At k.S16Keyword span
  Ty (t.Ty.u32 span) = At k.U32Keyword span
  Ty (t.Ty.s32 span) = At k.S32Keyword span
  Ty (t.Ty.u64 span) = At k.U64Keyword span
  Ty (t.Ty.s64 span) = At k.S64Keyword span
  Ty (t.Ty.f32 span) = At k.F32Keyword span
  Ty (t.Ty.f64 span) = At k.F64Keyword span
  Ty (t.Ty.char span) = At k.CharKeyword span
  Ty (t.Ty.bool span) = At k.BoolKeyword span
  Ty (t.Ty.string span) = At k.StringKeyword span
  Ty (t.Ty.tuple tys span) = Between k.TupleKeyword (Word k.OpenAngle ⨾ SomeTys tys) k.CloseAngle span
  Ty (t.Ty.list ty span) = Between k.ListKeyword (Word k.OpenAngle ⨾ Ty ty) k.CloseAngle span
  Ty (t.Ty.option ty span) = Between k.OptionKeyword (Word k.OpenAngle ⨾ Ty ty) k.CloseAngle span
  Ty (t.Ty.result ok err span) =
      Bare ok err span or Between k.ResultKeyword (Word k.OpenAngle ⨾ Omitted ok ⨾ Second err) k.CloseAngle span
  Ty (t.Ty.borrow id span) = Between k.BorrowKeyword (Word k.OpenAngle ⨾ Ident id) k.CloseAngle span
  Ty (t.Ty.stream ty span) = Payload k.StreamKeyword ty span
  Ty (t.Ty.future ty span) = Payload k.FutureKeyword ty span
  Ty (t.Ty.error_context span) = At k.ErrorContextKeyword span
  Ty (t.Ty.ident id) = Ident id

  -- one or more, with commas
  pub SomeTys : t.Tys → Part
  SomeTys t.Tys.no_more = Never
  SomeTys (t.Tys.more ty tys) = Ty ty ⨾ FurtherTys tys

  pub FurtherTys : t.Tys → Part
  FurtherTys t.Tys.no_more = Maybe (Word k.Comma)
  FurtherTys (t.Tys.more ty tys) = Word k.Comma ⨾ Ty ty ⨾ FurtherTys tys

  -- `_` stands for no type
  pub Omitted : t.MaybeTy → Part
  Omitted t.MaybeTy.no_ty = Word k.Underscore
  Omitted (t.MaybeTy.some_ty ty) = Ty ty

  -- the type of a failure may be left out
  pub Second : t.MaybeTy → Part
  Second t.MaybeTy.no_ty = Maybe (Word k.Comma ⨾ Word k.Underscore)
  Second (t.MaybeTy.some_ty ty) = Word k.Comma ⨾ Ty ty

  -- the keyword, and a type in angles or nothing
  pub Payload : Token → t.MaybeTy → t.Span → Part
  Payload first t.MaybeTy.no_ty span = At first span
  Payload first (t.MaybeTy.some_ty ty) span = Between first (Word k.OpenAngle ⨾ Ty ty) k.CloseAngle span

abbrev pub NamedType : t.NamedType → Part
NamedType x = Ident x.id ⨾ Word k.Colon ⨾ Ty x.ty

-- an arrow and a type; without a type the arrow may be left out
abbrev pub Results : t.ResultList → Part
Results t.ResultList.empty = Maybe (Word k.Arrow)
Results (t.ResultList.scalar ty) = Word k.Arrow ⨾ Ty ty

abbrev pub Parameters : List t.NamedType → Part
Parameters params = Word k.OpenParen ⨾ Separated NamedType params ⨾ Word k.CloseParen

abbrev pub FuncType : t.FuncType → Part
FuncType x = Marked k.AsyncKeyword x.is_async ⨾ Word k.FuncKeyword ⨾ Parameters x.params ⨾ Results x.results

abbrev pub FuncTypeRef : t.FuncTypeRef → Part
FuncTypeRef (t.FuncTypeRef.func x) = FuncType x
FuncTypeRef (t.FuncTypeRef.ident id) = Ident id

-- ---- expressions

abbrev pub ArgumentName : t.InstantiationArgumentName → Part
ArgumentName (t.InstantiationArgumentName.ident id) = Ident id
ArgumentName (t.InstantiationArgumentName.string x) = Quoted x

abbrev pub Access : t.AccessExpr → Part
Access x s r = (start : t.Span) × (x.span ≡ through start x.id.span) × (At k.Dot start ⨾ Ident x.id) s r

abbrev pub NamedAccess : t.NamedAccessExpr → Part
NamedAccess x = Between k.OpenBracket (Quoted x.string) k.CloseBracket x.span

abbrev pub Postfix : t.PostfixExpr → Part
Postfix (t.PostfixExpr.access x) = Access x
Postfix (t.PostfixExpr.named_access x) = NamedAccess x

abbrev mutual
  -- the span is that of the first part through the last access
  pub Expr : t.Expr → Part
  Expr (t.Expr.expr span first accesses) s r =
      (span ≡ spanning (primary_expr_span first) accesses) × (Primary first ⨾ Row Postfix accesses) s r

  pub Primary : t.PrimaryExpr → Part
  Primary (t.PrimaryExpr.new x) = New x
  Primary (t.PrimaryExpr.nested x) = Nested x
  Primary (t.PrimaryExpr.ident id) = Ident id

  pub New : t.NewExpr → Part
  New (t.NewExpr.new_expr span name track arguments) =
      Between k.NewKeyword (NewPackage (name, track) ⨾ Word k.OpenBrace ⨾ Arguments arguments) k.CloseBrace span

  -- `...` alone fills
  pub Argument : t.InstantiationArgument → Part
  Argument (t.InstantiationArgument.inferred id) = Ident id
  Argument (t.InstantiationArgument.spread id) = Word k.Ellipsis ⨾ Ident id
  Argument (t.InstantiationArgument.named x) = NamedArgument x
  Argument (t.InstantiationArgument.fill span) = At k.Ellipsis span

  pub NamedArgument : t.NamedInstantiationArgument → Part
  NamedArgument (t.NamedInstantiationArgument.named_argument name value) = ArgumentName name ⨾ Word k.Colon ⨾ Expr value

  pub Nested : t.NestedExpr → Part
  Nested (t.NestedExpr.nested_expr span inner) = Between k.OpenParen (Expr inner) k.CloseParen span

  pub Arguments : t.Arguments → Part
  Arguments t.Arguments.no_arguments = Nothing
  Arguments (t.Arguments.argument x xs) = Argument x ⨾ FurtherArguments xs

  pub FurtherArguments : t.Arguments → Part
  FurtherArguments t.Arguments.no_arguments = Maybe (Word k.Comma)
  FurtherArguments (t.Arguments.argument x xs) = Word k.Comma ⨾ Argument x ⨾ FurtherArguments xs
