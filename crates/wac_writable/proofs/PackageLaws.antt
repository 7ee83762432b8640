-- Why the component type of a package cannot be written.
use Rattle.std.proofs.Common.{◌≡◌, ◌⊎◌, Bool, true, false, true≢false, List, [], inl, inr, sym, ◌∙◌, subst}
use Rattle.std.specs.Bool.{Decides}
use Rattle.std.proofs.lemmas.Bool.Decides.{Decides-like}
use Rattle.wac_types_base.specs.Entries.{Name}
use Rattle.wac_types_base.specs.Stated.{Stated, IsComponent, kind_of, uses_of, imports_of, exports_of}
use Rattle.wac_composition.specs.Writable.{some_unnamed}
use Rattle.wac_composition.specs.NotWritten.{CannotBeWritten, component_holder, given_to_exports, PackageFails, unnamed_in_package, not_imported_by, not_given_by, import_of_package, export_of_package, PackageCannotBeWritten}
use Rattle.wac_writable.specs.Uses.{SomeNeeded, SomeUse, SomeItem}
use Rattle.wac_writable.proofs.WorldLaws.{SomeImport, SomeExport}

-- nothing needs a use where nothing is there
pub no_use : (o : Bool) (is : List (Name × Stated)) → SomeUse o is [] → ⊥
no_use o is s = s.1

pub no_item : (o : Bool) (is : List (Name × Stated)) → SomeItem o is [] → ⊥
no_item o is s = s.2

module _ (x : Stated) (o : Bool) (outer : o ≡ true) where
  pub needed_in_package : SomeNeeded o (imports_of x) (uses_of x) (imports_of x) → PackageFails x
  needed_in_package s = not_imported_by s.fails.name s.needed s.fails.named s.fails.missing

  pub needed_by_exports : SomeNeeded o (given_to_exports x) [] (exports_of x) → PackageFails x
  needed_by_exports s = not_given_by s.fails.name s.needed s.fails.named s.fails.missing

  -- where no interface lacks an identifier and no use fails, the items decide
  pub package_left : (b : Bool) → some_unnamed (uses_of x) ≡ false → (SomeNeeded o (imports_of x) (uses_of x) (imports_of x) → ⊥) → (SomeNeeded o (given_to_exports x) [] (exports_of x) → ⊥)
      → Decides b (SomeImport o x (component_holder x) (imports_of x) ⊎ SomeExport o x (component_holder x) (exports_of x)) → Decides b (PackageFails x)
  package_left b e none given d = Decides-like b to back d
    where
      to : SomeImport o x (component_holder x) (imports_of x) ⊎ SomeExport o x (component_holder x) (exports_of x) → PackageFails x
      to (inl (n, y, m, g, f)) = import_of_package m g (subst (λ p. CannotBeWritten p (component_holder x) n y) outer f)
      to (inr (n, y, m, f)) = export_of_package m (subst (λ p. CannotBeWritten p (component_holder x) n y) outer f)

      back : PackageFails x → SomeImport o x (component_holder x) (imports_of x) ⊎ SomeExport o x (component_holder x) (exports_of x)
      back (unnamed_in_package q) = absurd (true≢false (sym q ∙ e))
      back (not_imported_by {u = u} n w k f) = absurd (none (record { one = u; needed = w; fails = record { name = n; named = k; missing = f; added = inl outer } }))
      back (not_given_by {u = u} n w k f) = absurd (given (record { one = u; needed = w; fails = record { name = n; named = k; missing = f; added = inl outer } }))
      back (import_of_package {n = n} {x = y} m g f) = inl (n, y, m, g, subst (λ p. CannotBeWritten p (component_holder x) n y) (sym outer) f)
      back (export_of_package {n = n} {x = y} m f) = inr (n, y, m, subst (λ p. CannotBeWritten p (component_holder x) n y) (sym outer) f)

pub as_package : (x : Stated) (b : Bool) → kind_of x ≡ IsComponent → Decides b (PackageFails x) → Decides b (PackageCannotBeWritten x)
as_package x b k d = Decides-like b (λ f. record { component = k; fails = f }) (λ h. h.fails) d
