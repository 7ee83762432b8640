-- Sources and bindings, where more is known of instances; and packages by their keys.
use Rattle.std.specs.Prelude.{◌≡◌, zero, suc, Bool, true, false, List, [], ◌∷◌, Option, Some, cond, slice_get}
use Rattle.std.proofs.Common.{refl, ap, ◌∙◌}
use Rattle.std.proofs.lemmas.Option.{none-some, same_Some}
use Rattle.wac_types_base.specs.declared.item.ItemKind.{ItemKind}
use Rattle.wac_types_base.specs.Entries.{Name}
use Rattle.wac_types_base.specs.Stated.{Stated, stated_of}
use Rattle.wac_types_base.specs.Tree.{Tree, Fields, instance}
use Rattle.wac_types_names.specs.Keys.{Key, same_key}
use Rattle.wac_graph_bytes.specs.Wirings.{Source, Absent, Outer, Inst, Projection, Bundle, Definition}
use Rattle.wac_nesting.specs.Given.{World, HasTree, Gives, Provides, States}
use Rattle.wac_parser_declare.specs.Scope.{package_under}
use Rattle.wac_parser_resolve.specs.Ascribing.{worlds_of}
use Rattle.wac_workspace.specs.declared.entries.Entry.{Entry}
use Rattle.wac_workspace.specs.Packages.{key_of}
use Rattle.wac_workspace.specs.Resolving.{content, handed}
use Rattle.wac_outputs.specs.Calls.{place_under}

module _ {I : Type 0} (outers : Name → Option Tree) (IsOf More : I → World → Type 0) (h : (k : I) (w : World) → IsOf k w → More k w) where
  more_tree : (s : Source I) (t : Tree) → HasTree outers IsOf s t → HasTree outers More s t
  more_tree Absent t e = e
  more_tree (Outer n) t e = e
  more_tree (Inst k) t e = (e.0, h k e.0 e.1, e.2)
  more_tree (Projection s n) t e = (e.0, more_tree s (instance e.0) e.1, e.2)
  more_tree (Bundle f) t e = (e.0, e.1, λ n u k. more_tree (f n) u (e.2 n u k), e.3)
  more_tree (Definition d) t e = e

  more_gives : (s : Source I) (t : Tree) → Gives outers IsOf s t → Gives outers More s t
  more_gives s t g = record { given = g.given; has = more_tree s g.given g.has; fits = g.fits }

  pub more_provides : (sources : Name → Source I) (asked : Fields) → Provides outers IsOf sources asked → Provides outers More sources asked
  more_provides sources asked p = record { each = λ n t k. more_gives (sources n) t (p.each n t k); only = p.only }

  pub more_states : (sources : Name → Source I) (stated : Fields) → States outers IsOf sources stated → States outers More sources stated
  more_states sources stated s = record { each = λ n t k. more_tree (sources n) t (s.each n t k); only = s.only }

-- ---- packages by their keys

-- the package of a key stands at the place of the key
pub record IsPlaced (es : List Entry) (k : Key) (w : Stated) : Type 0 where
  pub entry : Entry
  pub there : slice_get es (place_under es k) ≡ Some entry
  pub content_is : package_under (handed es) k ≡ Some (content entry)
  pub world : stated_of entry.types (ItemKind.Component entry.package.ty) ≡ w

pub placed : (es : List Entry) (k : Key) (w : Stated) → package_under (worlds_of (handed es)) k ≡ Some w → IsPlaced es k w
placed [] k w e = absurd (none-some _ e)
placed (x ∷ xs) k w e = go (same_key k (key_of x)) refl (placed xs k w) e
  where
    go : (b : Bool) → same_key k (key_of x) ≡ b → (package_under (worlds_of (handed xs)) k ≡ Some w → IsPlaced xs k w) → cond b (Some (content x).world) (package_under (worlds_of (handed xs)) k) ≡ Some w → IsPlaced (x ∷ xs) k w
    go true q rest f = record {
      entry = x;
      there = ap (λ b. slice_get (x ∷ xs) (cond b zero (suc (place_under xs k)))) q;
      content_is = ap (λ b. cond b (Some (content x)) (package_under (handed xs) k)) q;
      world = same_Some _ _ f;
    }
    go false q rest f =
        let r = rest f in
        record {
          entry = r.entry;
          there = ap (λ b. slice_get (x ∷ xs) (cond b zero (suc (place_under xs k)))) q ∙ r.there;
          content_is = ap (λ b. cond b (Some (content x)) (package_under (handed xs) k)) q ∙ r.content_is;
          world = r.world;
        }
