-- What a document ascribes over the packages handed in: its composition, or the first cause.
use Rattle.std.specs.Prelude.{ℕ, suc, Bool, true, List, [], ◌∷◌, map, Option, Some, None, unwrap_or, Err, ⊤}
use Rattle.wac_types_base.specs.declared.item.ExternKind.{ExternKind}
use Rattle.wac_types_base.specs.Entries.{Name}
use Rattle.wac_types_base.specs.Stated.{Stated}
use Rattle.wac_types_names.specs.Keys.{Key}
use Rattle.wac_composition.specs.Composition as c
use Rattle.wac_composition.specs.Composition.{Origin, Composition, Placed}
use Rattle.wac_composition.specs.Conflicts as cause
use Rattle.wac_composition.specs.Conflicts.{first_cause, name_cause}
use Rattle.wac_parser_tree.specs.Trees as t
use Rattle.wac_parser_tree.specs.Trees.{Span}
use Rattle.wac_parser_refusals.specs.Causes.{Answer, Cause, ◌>>=◌, ◌>>◌, pure, ImportConflict, ExplicitImportConflict, InstantiationArgMergeFailure, TypeCannotBeWritten, ValidationFailure, plainly}
use Rattle.wac_parser_declare.specs.Packages.{Content}
use Rattle.wac_parser_resolve.specs.Ascribing.{Denoted, Made, Import, Bound, State, own_name}
use Rattle.wac_parser_resolve.specs.Meeting.{resolved}

-- ---- the composition that the statements say

-- who asks: an import statement, or a `new`, with the package that it names
pub data Asker : Type 0 where
  by_import : Import → Asker
  by_instance : Key → Span → Asker
  by_definition : Asker

abbrev pub argument_in : Name × Denoted → Name × Origin ℕ
argument_in a = (a.0, a.1.origin)

abbrev pub made_in : ℕ → Made → c.Made Asker ℕ
made_in k m =
    record { by = by_instance m.key m.span; number = k; key = m.key; world = m.world; arguments = map argument_in m.arguments }

-- with numbers from k on
abbrev pub numbered : ℕ → List Made → List (c.Made Asker ℕ)
numbered k [] = []
numbered k (m ∷ ms) = made_in k m ∷ numbered (suc k) ms

abbrev pub placed_import : Import → Placed Asker
placed_import i = record { by = by_import i; name = i.name; item = i.item }

abbrev pub placed_definition : Name × Stated → Placed Asker
placed_definition d = record { by = by_definition; name = d.0; item = d.1 }

-- aliases are projections alone (`speak_of`), which have a name
abbrev pub alias_in : Denoted → Name × Stated
alias_in d = (unwrap_or (own_name d.origin) [], d.item)

abbrev pub said_export : Name × Bound → Name × Origin ℕ × Stated
said_export e = (e.0, e.1.denoted.origin, e.1.denoted.item)

abbrev pub composition : State → Composition Asker ℕ
composition g = record {
  imports = map placed_import g.imports;
  made = numbered 0 g.made;
  definitions = map placed_definition g.definitions;
  aliases = map alias_in g.aliases;
  exports = map said_export g.exports;
}

-- ---- why it cannot be written, as the document's fault

abbrev pub asker_span : Asker → Option Span
asker_span (by_import i) = Some i.span
asker_span (by_instance k s) = Some s
asker_span by_definition = None

-- who asks under a name is an import statement or a `new`, and both have a place: a definition asks nothing
abbrev pub span_or_none : Option Span → Span
span_or_none o = unwrap_or o (record { offset = 0; length = 0 })

-- the identifier of an import statement, else the package that a `new` names
abbrev pub merge_span : Asker → Option Span
merge_span (by_import i) = Some i.id_span
merge_span (by_instance k s) = Some s
merge_span by_definition = None

-- what an instance leaves open is asked by its `new`, so there is a key
abbrev pub asker_key : Asker → Key
asker_key (by_instance k s) = k
asker_key a = ([], None)

abbrev pub cause_said : cause.Cause Asker → Cause
cause_said (cause.ImplicitImport n i f) =
    plainly (ImportConflict n (asker_key f) (span_or_none (asker_span f))) (asker_span i)
cause_said (cause.ExplicitImport n a b) =
    plainly (ExplicitImportConflict n (span_or_none (asker_span a))) (asker_span b)
cause_said (cause.ImportTypes n a b) =
    plainly (InstantiationArgMergeFailure n (span_or_none (merge_span a))) (merge_span b)
cause_said (cause.Unwritable n) = plainly (TypeCannotBeWritten n) None
cause_said (cause.ImportNames m n) = plainly (ValidationFailure ExternKind.Import m n) None
cause_said (cause.ExportNames m n) = plainly (ValidationFailure ExternKind.Export m n) None

abbrev pub unless_cause : Option (cause.Cause Asker) → Answer ⊤
unless_cause None = pure tt
unless_cause (Some x) = Err (cause_said x)

-- ---- a document

-- what a document composes, and the world that it targets, or the first cause
abbrev pub ascribed : (define : Bool) → t.Document → List (Key × Content) → Answer (Composition Asker ℕ × Option Stated)
ascribed define d ps = do
  r ← resolved d ps
  unless_cause (first_cause define (composition r.0))
  unless_cause (name_cause define true (composition r.0))
  pure (composition r.0, r.1)
