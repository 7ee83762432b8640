-- Documents from outside with what they ascribe, for the law `examples`.
use Rattle.std.specs.Prelude.{ℕ, suc, false, true, List, [], ◌∷◌, Option, Some, None, Ok, Err, codes, map}
use Rattle.wac_types_base.specs.Entries.{Name}
use Rattle.wac_types_base.specs.Stated.{Stated, world_of}
use Rattle.wac_types_names.specs.Keys.{Key}
use Rattle.wac_types_fit.specs.declared.checker.SubtypeCheck.{SubtypeCheck}
use Rattle.wac_composition.specs.Asks.{asks_of}
use Rattle.wac_composition.specs.OuterImports.{outer_imports}
use Rattle.wac_composition.specs.Composition as c
use Rattle.wac_composition.specs.Composition.{Composition}
use Rattle.wac_composition.specs.Examples.{plain_func, named_instance, older, newer, passing, importing}
use Rattle.wac_parser_tree.specs.Trees as t
use Rattle.wac_parser_tree.specs.Trees.{Span}
use Rattle.wac_parser_refusals.specs.Causes.{Answer, Fault, plainly}
use Rattle.wac_parser_refusals.specs.Sources.{between}
use Rattle.wac_parser_declare.specs.Packages.{Content}
use Rattle.wac_parser_resolve.specs.Ascribed.{Asker, ascribed}

-- ---- words

abbrev pub sp : ℕ → ℕ → Span
sp a b = record { offset = a; length = b }

abbrev pub id_at : Name → ℕ → ℕ → t.Ident
id_at n a b = record { string = n; span = sp a b }

abbrev pub text_at : Name → ℕ → ℕ → t.ExternName
text_at n a b = t.ExternName.string (record { value = n; span = sp a b })

abbrev pub package_at : Name → ℕ → ℕ → t.PackageName
package_at n a b = record { string = n; name = n; version = None; span = sp a b }

abbrev pub document : Name → List t.Statement → t.Document
document n ss = record { docs = []; directive = record { «package» = package_at n 8 3; targets = None }; statements = ss }

-- ` = new PACKAGE { ARGUMENTS }`: the token begins 4 behind the expression
abbrev pub new_at : ℕ → ℕ → Name → ℕ → List t.InstantiationArgument → t.Expr
new_at a b n k as_ = t.expr (sp a b) (t.PrimaryExpr.new (t.new_expr (sp a b) (package_at n k 3) None (t.arguments as_))) []

abbrev pub fill_at : ℕ → t.InstantiationArgument
fill_at a = t.InstantiationArgument.fill (sp a 3)

abbrev pub let_at : Name → ℕ → t.Expr → t.Statement
let_at n a e = t.Statement.let_ (record { docs = []; id = id_at n a 1; expr = e })

abbrev pub named_at : Name → ℕ → t.Expr
named_at n a = t.expr (sp a 1) (t.PrimaryExpr.ident (id_at n a 1)) []

-- `NAME.EXPORT`
abbrev pub access_at : Name → Name → ℕ → t.Expr
access_at n m a =
    t.expr (sp a 3) (t.PrimaryExpr.ident (id_at n a 1)) (t.PostfixExpr.access
    (record { span = sp (suc_of a) 2; id = id_at m (suc_of (suc_of a)) 1 }) ∷ [])
  where
    suc_of : ℕ → ℕ
    suc_of k = suc k

abbrev pub export_renamed : t.Expr → Name → ℕ → t.Statement
export_renamed e n a = t.Statement.export (record { docs = []; expr = e; options = t.ExportOptions.rename (text_at n a 3) })

abbrev pub plain_export : t.Expr → t.Statement
plain_export e = t.Statement.export (record { docs = []; expr = e; options = t.ExportOptions.none })

abbrev pub key : Name → Key
key n = (n, None)

abbrev pub refusal : {A : Type 0} → Fault → ℕ → ℕ → Answer A
refusal f a b = Err (plainly f (Some (sp a b)))

-- of something given that does not fit what is asked
abbrev pub unfit : {A : Type 0} → Fault → ℕ → ℕ → (given asked : Stated) → Answer A
unfit f a b given asked = Err (record { fault = f; span = Some (sp a b); source = between SubtypeCheck.Covariant given asked })

-- ---- the packages handed in

abbrev pub from_g_to_h : Stated → Stated
from_g_to_h f = world_of None [] ((codes "g", f) ∷ []) ((codes "h", plain_func) ∷ [])

-- no row looks at bytes
abbrev pub plain_package : Name → Stated → Key × Content
plain_package n w = (key n, record { world = w; bytes = [] })

abbrev pub handed : List (Key × Content)
handed = plain_package (codes "p:p") passing ∷ plain_package (codes "q:q") (from_g_to_h plain_func) ∷ []

-- ---- what is compared: outer imports; each instance's package and what is passed to it; exports

abbrev pub Summary : Type 0
Summary = List (Name × Stated) × List (Key × List (Name × c.Origin ℕ)) × List (Name × c.Origin ℕ)

abbrev pub summary : Answer (Composition Asker ℕ × Option Stated) → Answer Summary
summary (Err x) = Err x
summary (Ok x) = Ok (outer_imports (asks_of x.0), map (λ m. (m.key, m.arguments)) x.0.made, map (λ e. (e.0, e.1)) x.0.exports)

abbrev pub said : t.Document → List (Key × Content) → Answer Summary
said d ps = summary (ascribed true d ps)

-- ---- documents

-- package m:m; let x = new p:p { ... }; export x.g as "g";
abbrev pub one_instance : t.Document
one_instance =
    document (codes "m:m") (let_at (codes "x") 17 (new_at 21 15 (codes "p:p") 25 (fill_at 31 ∷ []))
    ∷ export_renamed (access_at (codes "x") (codes "g") 45) (codes "g") 52 ∷ [])

-- package m:m; let x = new p:p {};
abbrev pub nothing_given : t.Document
nothing_given = document (codes "m:m") (let_at (codes "x") 17 (new_at 21 10 (codes "p:p") 25 []) ∷ [])

-- package v:v; let x = new p:p { ... }; let y = new q:q { g: x.g }; export y.h as "h";
abbrev pub one_into_another : t.Document
one_into_another = document (codes "v:v")
    (let_at (codes "x") 17 (new_at 21 15 (codes "p:p") 25 (fill_at 31 ∷ []))
    ∷ let_at (codes "y") 42 (new_at 46 18 (codes "q:q") 50 (t.InstantiationArgument.named
    (t.named_argument (t.InstantiationArgumentName.ident (id_at (codes "g") 56 1)) (access_at (codes "x") (codes "g") 59)) ∷ []))
    ∷ export_renamed (access_at (codes "y") (codes "h") 73) (codes "h") 80 ∷ [])

-- package w:w; let x = new c:x { ... }; let y = new c:y { ... };
abbrev pub two_versions : t.Document
two_versions = document (codes "w:w")
    (let_at (codes "x") 17 (new_at 21 15 (codes "c:x") 25 (fill_at 31 ∷ []))
    ∷ let_at (codes "y") 42 (new_at 46 15 (codes "c:y") 50 (fill_at 56 ∷ [])) ∷ [])

-- c:x imports the older version with `f`, c:y the newer with these
abbrev pub versions : List (Name × Stated) → List (Key × Content)
versions es =
    plain_package (codes "c:x") (importing ((older, named_instance older ((codes "f", plain_func) ∷ [])) ∷ []))
    ∷ plain_package (codes "c:y") (importing ((newer, named_instance newer es) ∷ [])) ∷ []

-- package a:b; export x;
abbrev pub unknown_name : t.Document
unknown_name = document (codes "a:b") (plain_export (named_at (codes "x") 20) ∷ [])

-- package a:b; let x = new a:b {};
abbrev pub own_package : t.Document
own_package = document (codes "a:b") (let_at (codes "x") 17 (new_at 21 10 (codes "a:b") 25 []) ∷ [])

-- package k:k; import f: func(); let x = new p:p { ... };
abbrev pub asked_and_filled : t.Document
asked_and_filled = document (codes "k:k")
    (t.Statement.import (record {
      docs = [];
      id = id_at (codes "f") 20 1;
      name = None;
      ty = t.ImportType.func
          (record { is_async = false; params = []; results = t.ResultList.empty });
    })
    ∷ let_at (codes "x") 35 (new_at 39 15 (codes "p:p") 43 (fill_at 49 ∷ [])) ∷ [])

-- package a:b; export new p:p { ... };
abbrev pub no_name_to_export : t.Document
no_name_to_export = document (codes "a:b") (plain_export (new_at 20 15 (codes "p:p") 24 (fill_at 30 ∷ [])) ∷ [])

-- package c:c; let x = new s:s { ... }; export x.i;
abbrev pub named_by_identifier : t.Document
named_by_identifier = document (codes "c:c")
    (let_at (codes "x") 17 (new_at 21 15 (codes "s:s") 25 (fill_at 31 ∷ []))
    ∷ plain_export (access_at (codes "x") (codes "i") 45) ∷ [])

abbrev pub interface_name : Name
interface_name = codes "a:b/i@1.0.0"

abbrev pub exporting_identified : List (Key × Content)
exporting_identified = plain_package (codes "s:s") (world_of None [] [] ((interface_name, named_instance interface_name []) ∷ [])) ∷ []
