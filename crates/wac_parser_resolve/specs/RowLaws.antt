-- What the documents of `Rows` ascribe.
use Rattle.std.specs.Prelude.{◌≡◌, [], ◌∷◌, Ok, codes}
use Rattle.wac_composition.specs.Composition as c
use Rattle.wac_composition.specs.Examples.{plain_func, func_of_number, named_instance, passing, newer, wider}
use Rattle.wac_parser_refusals.specs.Causes.{MissingInstantiationArg, MismatchedInstantiationArg, InstantiationArgMergeFailure, UndefinedName, UnknownPackage, ImportConflict, ExportRequiresAs}
use Rattle.wac_parser_resolve.specs.Rows.{sp, key, plain_package, refusal, unfit, said, handed, from_g_to_h, one_instance, nothing_given, one_into_another, interface_name}
use Rattle.wac_parser_resolve.specs.Rows.{two_versions, versions, unknown_name, own_package, asked_and_filled, no_name_to_export, named_by_identifier, exporting_identified}

-- one outer import, one instance, one export
abbrev pub Says_one : Type 0
Says_one = said one_instance handed
    ≡ Ok ((codes "f", plain_func) ∷ [], (key (codes "p:p"), []) ∷ [], (codes "g", c.projected (c.instance 0) (codes "g")) ∷ [])

abbrev pub Says_missing : Type 0
Says_missing = said nothing_given handed ≡ refusal (MissingInstantiationArg (codes "f") (codes "p:p")) 25 3

-- the export of the first is passed to the second
abbrev pub Says_passed : Type 0
Says_passed = said one_into_another handed
    ≡ Ok (
      (codes "f", plain_func) ∷ [],
      (key (codes "p:p"), [])
          ∷ (key (codes "q:q"), (codes "g", c.projected (c.instance 0) (codes "g")) ∷ [])
          ∷ [],
      (codes "h", c.projected (c.instance 1) (codes "h")) ∷ [],
    )

abbrev pub Says_mismatched : Type 0
Says_mismatched =
    said one_into_another (plain_package (codes "p:p") passing ∷ plain_package (codes "q:q") (from_g_to_h func_of_number) ∷ [])
    ≡ unfit (MismatchedInstantiationArg (codes "g")) 56 1 plain_func func_of_number

-- two versions are one outer import
abbrev pub Says_merged : Type 0
Says_merged = said two_versions (versions wider)
    ≡ Ok ((newer, named_instance newer wider) ∷ [], (key (codes "c:x"), []) ∷ (key (codes "c:y"), []) ∷ [], [])

abbrev pub Says_unmerged : Type 0
Says_unmerged = said two_versions (versions ((codes "f", func_of_number) ∷ (codes "g", plain_func) ∷ []))
    ≡ refusal (InstantiationArgMergeFailure newer (sp 25 3)) 50 3

abbrev pub Says_unknown : Type 0
Says_unknown = said unknown_name [] ≡ refusal (UndefinedName (codes "x")) 20 1

abbrev pub Says_own : Type 0
Says_own = said own_package [] ≡ refusal (UnknownPackage (codes "a:b")) 25 3

abbrev pub Says_conflict : Type 0
Says_conflict = said asked_and_filled handed ≡ refusal (ImportConflict (codes "f") (key (codes "p:p")) (sp 43 3)) 20 1

abbrev pub Says_no_name : Type 0
Says_no_name = said no_name_to_export handed ≡ refusal ExportRequiresAs 20 15

abbrev pub Says_identified : Type 0
Says_identified = said named_by_identifier exporting_identified
    ≡ Ok ([], (key (codes "s:s"), []) ∷ [], (interface_name, c.projected (c.instance 0) interface_name) ∷ [])
