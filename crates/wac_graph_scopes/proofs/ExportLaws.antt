-- Exports of a scope of written types.
use Rattle.std.proofs.Common.{◌≡◌, ℕ, ◌+◌, List, [], ◌∷◌, ◌++◌, length, Option, Some, refl, sym, ap, ◌∙◌, subst, arith, string_bytes}
use Rattle.std.specs.Prelude.{String}
use Rattle.std.specs.Global.{Global}
use Rattle.std.proofs.lemmas.List.{length_push}
use Rattle.wac_types_base.specs.Record.{Collection}
use Rattle.wac_types_base.specs.Entries.{Name, value_at}
use Rattle.wac_types_base.specs.Tree.{Tree}
use Rattle.wac_graph_bytes.specs.declared.value.Sort.{Sort}
use Rattle.wac_graph_bytes.specs.declared.value.Sort.TheVariants as sort
use Rattle.wac_graph_bytes.specs.declared.value.Description.{Description}
use Rattle.wac_graph_bytes.specs.declared.value.Description.TheVariants as desc
use Rattle.wac_graph_bytes.specs.declared.entry.Declaration.{Declaration, Export}
use Rattle.wac_graph_bytes.specs.Entries.{End}
use Rattle.wac_graph_bytes.specs.Typing.{◌>>=◌, Worlds, Meaning, Item, Scope, with_one, Inside, nothing_inside, exports_inside, declared, described, item_of, type_tree, type_at}
use Rattle.wac_graph_bytes.specs.Views.{before, declarations_of}
use Rattle.wac_graph_bytes.proofs.Steps.{get_last}
use Rattle.wac_graph_bytes.proofs.Extending.{one_more}
use Rattle.wac_graph_scopes.specs.declared.scope.KnownTypes.{KnownTypes}
use Rattle.wac_graph_scopes.specs.declared.scope.TypeScope.{TypeScope}
use Rattle.wac_graph_scopes.specs.Scopes.{AreKnown, IsScope, Exports, ExportsType}
use Rattle.wac_graph_scopes.proofs.ScopeLaws.{Extends-one, all_known_kept, resource_kept}
use Rattle.wac_graph_bytes.proofs.Looked.{type_in_item}

module _ (w : Worlds) (c : Collection) (outer : List Scope) (i : Inside) where
  export_reads : (n : String Global) (d : Description) (x : Sort × Tree) → described w (i.here ∷ outer) (string_bytes n) d ≡ Some x → declared w outer i (before (Export n d) End) ≡ Some (exports_inside (string_bytes n) x i)
  unfolding declared
  export_reads n d x e = ap (λ (o : Option (Sort × Tree)). o >>= λ y. Some (exports_inside (string_bytes n) y i)) e

  pub export_added : (n : String Global) (d : Description) (x : Sort × Tree) (s u : TypeScope) → IsScope w c outer i s → described w (i.here ∷ outer) (string_bytes n) d ≡ Some x
      → u.declarations.items ≡ s.declarations.items ++ Export n d ∷ [] → u.types ≡ length (exports_inside (string_bytes n) x i).here.types → u.known ≡ s.known → u.resources ≡ s.resources
      → Exports w c outer i (string_bytes n) x.1 u
  export_added n d x s u h e ds ts ks rs =
      let m = Item (string_bytes n) x.0 x.1 in
      let more = Extends-one x.0 m i.here in
      record {
        after = exports_inside (string_bytes n) x i;
        stands = record {
          reads = ap (λ (l : List Declaration). declared w outer nothing_inside (declarations_of l)) ds ∙ one_more w outer nothing_inside i (exports_inside (string_bytes n) x i) s.declarations.items (Export n d) h.reads (export_reads n d x e);
          types = ts;
          known = subst (λ (k : KnownTypes). AreKnown w (with_one x.0 m i.here ∷ outer) c k) (sym ks) (all_known_kept w c i.here (with_one x.0 m i.here) outer s.known more h.known);
          resources = λ n k a. resource_kept w i.here (with_one x.0 m i.here) outer n k more (h.resources n k (subst (λ (l : List (Name × ℕ)). value_at l n ≡ Some k) rs a));
        };
        extends = more;
        imports = refl;
        exports = refl;
      }

  pub type_exported : (n : String Global) (k : ℕ) (t : Tree) (s u : TypeScope) → IsScope w c outer i s → type_at w (i.here ∷ outer) k ≡ Some t
      → u.declarations.items ≡ s.declarations.items ++ Export n (desc.Equal k) ∷ [] → u.types ≡ s.types + 1 → u.known ≡ s.known → u.resources ≡ s.resources
      → ExportsType w c outer i (string_bytes n) t u s.types
  unfolding export_added
  type_exported n k t s u h at ds ts ks rs =
      let m = Item (string_bytes n) sort.Ty (item_of t) in
      record {
        exported = export_added n (desc.Equal k) (sort.Ty, item_of t) s u h (ap (λ (o : Option Tree). o >>= λ y. Some (sort.Ty, item_of y)) at) ds (omega (arith, ts, h.types, length_push i.here.types m)) ks rs;
        others = record { funcs = refl; components = refl; instances = refl; modules = refl; cores = refl };
        index = ap (λ (o : Option Meaning). o >>= type_tree w) (get_last i.here.types m s.types h.types) ∙ type_in_item t;
      }
