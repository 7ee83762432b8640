-- Trees of sources whose instances get other names.
use Rattle.std.proofs.Common.{◌≡◌, Option, sym, ap, ◌∙◌}
use Rattle.wac_types_base.specs.Entries.{Name}
use Rattle.wac_types_base.specs.Tree.{Tree, instance, Fields}
use Rattle.wac_graph_bytes.specs.Wirings.{Source, Absent, Outer, Inst, Projection, Bundle, Definition, rename}
use Rattle.wac_nesting.specs.Given.{World, HasTree, Gives, Provides, States}
use Rattle.wac_nesting.proofs.Given.{project_tree}

-- other names for instances, each of which exports the same
module _ {I J : Type 0} (outers : Name → Option Tree) (IsOf : I → World → Type 0) (IsOf' : J → World → Type 0) (f : I → J) (h : (k : I) (w : World) → IsOf k w → (v : World) × IsOf' (f k) v × (v.exports ≡ w.exports)) where
  pub moved_tree : (s : Source I) (t : Tree) → HasTree outers IsOf s t → HasTree outers IsOf' (rename f s) t
  moved_tree Absent t e = absurd e
  moved_tree (Outer n) t e = e
  moved_tree (Inst k) t e = let v = h k e.0 e.1 in (v.0, v.1, e.2 ∙ ap instance (sym v.2))
  moved_tree (Projection s n) t e = project_tree outers IsOf' (rename f s) e.0 n t (moved_tree s (instance e.0) e.1) e.2
  moved_tree (Bundle g) t e = (e.0, e.1, λ n u k. moved_tree (g n) u (e.2 n u k), λ n k. ap (rename f) (e.3 n k))
  moved_tree (Definition d) t e = e

  pub moved_gives : (s : Source I) (t : Tree) → Gives outers IsOf s t → Gives outers IsOf' (rename f s) t
  moved_gives s t g = record { given = g.given; has = moved_tree s g.given g.has; fits = g.fits }

  pub moved_provides : (sources : Name → Source I) (asked : Fields) → Provides outers IsOf sources asked → Provides outers IsOf' (λ n. rename f (sources n)) asked
  moved_provides sources asked p = record {
    each = λ n t k. moved_gives (sources n) t (p.each n t k);
    only = λ n k. ap (rename f) (p.only n k);
  }

  pub moved_states : (sources : Name → Source I) (stated : Fields) → States outers IsOf sources stated → States outers IsOf' (λ n. rename f (sources n)) stated
  moved_states sources stated s = record {
    each = λ n t k. moved_tree (sources n) t (s.each n t k);
    only = λ n k. ap (rename f) (s.only n k);
  }
