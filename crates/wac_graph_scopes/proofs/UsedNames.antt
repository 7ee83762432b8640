-- Names of types of interfaces: two texts each, by their bytes.
use Rattle.std.proofs.Common.{◌≡◌, List, [], ◌∷◌, Some, None, ◌==◌, ◌&&◌, Bool, true, false, cond, if◌then◌else◌, inl, inr, refl, ap}
use Rattle.std.specs.Prelude.{String, string_bytes, ◌⊎◌}
use Rattle.std.specs.Str.{bytes_eq}
use Rattle.std.specs.Map.{lookup}
use Rattle.std.specs.Cmp.Lexicographic.{pointwise}
use Rattle.indexmap.specs.IndexMap.{insert_entry}
use Rattle.wac_types_base.specs.Entries.{Name, imports_in}
use Rattle.wac_types_base.proofs.PairNames.{same_pair}
use Rattle.wac_graph_scopes.specs.declared.used.UsedIndex.{UsedIndex}
use Rattle.wac_graph_scopes.specs.Used.{Used, used_at, put_used}

pub used_looked : {Y Z : Type 0} (i n : Name) (es : List ((String Y × String Z) × UsedIndex)) → lookup (λ k. bytes_eq i (string_bytes k.0) && bytes_eq n (string_bytes k.1)) es ≡ used_at (imports_in es) i n
used_looked i n [] = refl
used_looked i n (e ∷ es) = ap (λ o. cond (bytes_eq i (string_bytes e.0.0) && bytes_eq n (string_bytes e.0.1)) (Some e.1) o) (used_looked i n es)

pub used_put : {Y Z : Type 0} (es : List ((String Y × String Z) × UsedIndex)) (k : String Y × String Z) (v : UsedIndex) → imports_in (insert_entry same_pair es k v) ≡ put_used (imports_in es) (string_bytes k.0) (string_bytes k.1) v
used_put [] k v = refl
used_put (e ∷ es) k v = by_test (same_pair k e.0) (used_put es k v)
  where
    by_test : (b : Bool) → imports_in (insert_entry same_pair es k v) ≡ put_used (imports_in es) (string_bytes k.0) (string_bytes k.1) v →
        imports_in (if b then (e.0, v) ∷ es else e ∷ insert_entry same_pair es k v) ≡ (if b then ((string_bytes e.0.0, string_bytes e.0.1), v) ∷ imports_in es else ((string_bytes e.0.0, string_bytes e.0.1), e.1) ∷ put_used (imports_in es) (string_bytes k.0) (string_bytes k.1) v)
    by_test true h = refl
    by_test false h = ap (λ l. ((string_bytes e.0.0, string_bytes e.0.1), e.1) ∷ l) h

-- what is found afterwards was found before, or is the one that is put there
pub used_among : (us : Used) (i n : Name) (u : UsedIndex) (j m : Name) (v : UsedIndex) → used_at (put_used us i n u) j m ≡ Some v → (used_at us j m ≡ Some v) ⊎ (v ≡ u)
used_among [] i n u j m v e = by_test (pointwise ◌==◌ j i && pointwise ◌==◌ m n) e
  where
    by_test : (b : Bool) → (if b then Some u else None) ≡ Some v → (used_at [] j m ≡ Some v) ⊎ (v ≡ u)
    by_test true e = inr (cc e)
    by_test false e = absurd (cc e)
used_among (x ∷ us) i n u j m v e = by_test (used_among us i n u j m v) (pointwise ◌==◌ i x.0.0 && pointwise ◌==◌ n x.0.1) e
  where
    here : Bool
    here = pointwise ◌==◌ j x.0.0 && pointwise ◌==◌ m x.0.1

    in_place : (b : Bool) → (if b then Some u else used_at us j m) ≡ Some v → ((if b then Some x.1 else used_at us j m) ≡ Some v) ⊎ (v ≡ u)
    in_place true f = inr (cc f)
    in_place false f = inl f

    behind : (used_at (put_used us i n u) j m ≡ Some v → (used_at us j m ≡ Some v) ⊎ (v ≡ u)) → (b : Bool) → (if b then Some x.1 else used_at (put_used us i n u) j m) ≡ Some v → ((if b then Some x.1 else used_at us j m) ≡ Some v) ⊎ (v ≡ u)
    behind h true f = inl f
    behind h false f = h f

    by_test : (used_at (put_used us i n u) j m ≡ Some v → (used_at us j m ≡ Some v) ⊎ (v ≡ u)) → (b : Bool) → used_at (if b then (x.0, u) ∷ us else x ∷ put_used us i n u) j m ≡ Some v → (used_at (x ∷ us) j m ≡ Some v) ⊎ (v ≡ u)
    by_test h true f = in_place here f
    by_test h false f = behind h here f
