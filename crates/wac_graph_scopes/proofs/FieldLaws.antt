-- Items that are written in any order state the map of all.
use Rattle.std.proofs.Common.{◌≡◌, List, [], ◌∷◌, Option, Some, None, refl, sym, ap, ◌∙◌, subst, inl, inr}
use Rattle.std.specs.Prelude.{option_map}
use Rattle.std.specs.Ordering.{nat_cmp}
use Rattle.std.specs.Cmp.Lexicographic.{slice_cmp}
use Rattle.std.specs.declared.cmp.Ordering.{Ordering}
use Rattle.wac_types_base.specs.declared.item.ItemKind.{ItemKind}
use Rattle.wac_types_base.specs.Record.{Collection}
use Rattle.wac_types_base.specs.Graph.{Among}
use Rattle.wac_types_base.specs.Entries.{Name, names_of, value_at, AreDistinct}
use Rattle.wac_types_base.specs.Tree.{Tree, Fields, no_fields, field, instance}
use Rattle.wac_types_base.specs.Fits.{FieldsFit, instance_fits}
use Rattle.wac_types_base.proofs.Lists.{joined}
use Rattle.wac_types_fit.specs.Trees.{tree_in}
use Rattle.wac_types_fit.specs.Lookups.{found, lookup}
use Rattle.wac_types_fit.specs.Ordered.{InOrder, AllInOrder}
use Rattle.wac_types_fit.proofs.Looking.{looked-has, has-looked, all_given}
use Rattle.wac_types_fit.proofs.Ordering.{AllInOrder-put, named_in_order}
use Rattle.wac_types_fit.proofs.TreeLaws.{Fits-refl, anti}
use Rattle.wac_types_fit.proofs.Items.{value_at-among, among-value_at, name-among, looked_in, ordered_in}
use Rattle.wac_types_fit.proofs.Unfolded as unfolded
use Rattle.wac_graph_bytes.specs.Typing.{get_at, get, fields_in, some_if, instance_by}
use Rattle.wac_graph_bytes.proofs.Looked.{get_in}
use Rattle.wac_graph_bytes.proofs.Distinct.{distinct_decides}
use Rattle.wac_graph_scopes.specs.Items.{AreTreesOf}

-- ---- maps with the same under each name

same_found : (o : Ordering) (t : Tree) (x y : Option Tree) → x ≡ y → get_at o t x ≡ found o t y
same_found Ordering.Less t x y e = e
same_found Ordering.Equal t x y e = refl
same_found Ordering.Greater t x y e = e

pub same_look : (n : Name) (xs : Fields) → get n xs ≡ lookup n xs
same_look n no_fields = refl
same_look n (field m t xs) = same_found (slice_cmp nat_cmp n m) t (get n xs) (lookup n xs) (same_look n xs)

one_way : (xs ys : Fields) → AllInOrder ys → ((n : Name) → lookup n xs ≡ lookup n ys) → FieldsFit xs ys
one_way xs ys b same = all_given xs ys (λ n u h. (u, looked-has n u xs (same n ∙ has-looked n u ys b h), Fits-refl u))

same_instance : (xs ys : Fields) → AllInOrder xs → AllInOrder ys → ((n : Name) → lookup n xs ≡ lookup n ys) → instance xs ≡ instance ys
same_instance xs ys a b same = anti (instance xs) (instance ys) a b (instance_fits (one_way xs ys b same)) (instance_fits (one_way ys xs a (λ n. sym (same n))))

abbrev in_instance : Tree → Fields
in_instance (instance xs) = xs
in_instance t = no_fields

same_fields : (xs ys : Fields) → AllInOrder xs → AllInOrder ys → ((n : Name) → lookup n xs ≡ lookup n ys) → xs ≡ ys
same_fields xs ys a b same = ap in_instance (same_instance xs ys a b same)

-- ---- items

all_in_order : (xs : List (Name × Tree)) → ((n : Name) (t : Tree) → Among (n, t) xs → InOrder t) → AllInOrder (fields_in xs)
all_in_order [] h = tt
all_in_order (x ∷ xs) h = AllInOrder-put x.0 x.1 (fields_in xs) (h x.0 x.1 (inl refl)) (all_in_order xs (λ n t m. h n t (inr m)))

nothing_under : {T : Type 0} (es : List (Name × T)) (n : Name) → ((k : T) → value_at es n ≡ Some k → ⊥) → value_at es n ≡ None
nothing_under es n h = go (value_at es n) refl
  where
    go : (o : Option _) → value_at es n ≡ o → value_at es n ≡ None
    go None e = e
    go (Some k) e = absurd (h k e)

named : {T : Type 0} (es : List (Name × T)) (n : Name) → Among n (names_of es) → (k : T) × Among (n, k) es
named [] n m = absurd m
named (x ∷ es) n (inl e) = (x.1, inl (joined (n, x.1) x e refl))
named (x ∷ es) n (inr m) = let r = named es n m in (r.0, inr r.1)

module _ (c : Collection) (es : List (Name × ItemKind)) (xs : List (Name × Tree)) (d : AreDistinct (names_of xs)) (h : AreTreesOf c es xs) (all : (n : Name) → Among n (names_of es) → Among n (names_of xs)) where
  under : (n : Name) (o : Option Tree) → value_at xs n ≡ o → value_at xs n ≡ option_map (tree_in c) (value_at es n)
  under n (Some t) e = let r = h n t (value_at-among xs n t e) in e ∙ ap Some r.2 ∙ ap (option_map (tree_in c)) (sym r.1)
  under n None e =
      let none : value_at es n ≡ None = nothing_under es n (λ k at. let m = named xs n (all n (name-among es n k (value_at-among es n k at))) in absurd (cc (e, among-value_at xs n m.0 d m.1))) in
      e ∙ ap (option_map (tree_in c)) (sym none)

  -- the items, all and each once
  pub written_fields : fields_in xs ≡ unfolded.fields_in c es
  written_fields =
      same_fields (fields_in xs) (unfolded.fields_in c es) (all_in_order xs (λ n t m. let r = h n t m in subst InOrder (sym r.2) (named_in_order c r.0))) (ordered_in c es)
      (λ n. sym (same_look n (fields_in xs)) ∙ get_in n xs ∙ under n (value_at xs n) refl ∙ sym (looked_in c es n))

  pub written_instance : instance_by [] xs ≡ Some (instance (unfolded.fields_in c es))
  written_instance = ap (λ b. some_if b (instance (fields_in xs))) ((distinct_decides (names_of xs)).1 d) ∙ ap (λ (f : Fields). Some (instance f)) written_fields
