-- What stands, while a document is resolved.
use Rattle.std.proofs.Common.{◌≡◌, ℕ, List, [], ◌∷◌, ◌++◌, Option, Some, None, IsSome, Bool, true, false, if◌then◌else◌, ◌==◌, refl, sym, ap, subst, ◌∙◌, inl, inr}
use Rattle.std.specs.Cmp.Lexicographic.{pointwise}
use Rattle.std.specs.FinMap as map
use Rattle.wac_types_base.specs.declared.item.ItemKind.{ItemKind}
use Rattle.wac_types_base.specs.Record.{Collection}
use Rattle.wac_types_base.specs.Entries.{Name, value_at}
use Rattle.wac_types_base.specs.Graph.{Among}
use Rattle.wac_types_base.specs.Collection.{Stands, Grows}
use Rattle.wac_types_names.specs.Packaged.{Packaged}
use Rattle.wac_graph_core.specs.declared.ids.PackageId.{PackageId}
use Rattle.wac_graph_core.specs.NodeMaps.{IsDefinition, IsImport}
use Rattle.wac_graph_core.specs.Graph.{Graph, ContainsNode, package_of, ContainsPackage}
use Rattle.wac_parser_declare.specs.declared.scope.Binding.{Binding}
use Rattle.wac_parser_declare.specs.Holding.{NamesStand}
use Rattle.wac_parser_resolve.specs.Keeping.{Keeps}
use Rattle.wac_parser_resolve.specs.declared.arguments.Given.{Given}
use Rattle.wac_parser_resolve.specs.Later.{Later, Inner, SameNumber, first_name}
use Rattle.wac_parser_resolve.specs.Standing.{AreThere, IsSound}
use Rattle.wac_parser_resolve.proofs.Growing.{it_stays, Later-refl, Later-same, Later-trans, Inner-refl, Inner-same, Inner-trans, within_refl, within_trans}
use Rattle.wac_types_fit.proofs.Items.{Among-last}

-- ---- names of the root

names_kept : (c d : Collection) → ((k : ItemKind) → Stands c k → Stands d k) → (bs : List (Name × Binding)) → NamesStand c bs → NamesStand d bs
names_kept c d h [] s = tt
names_kept c d h (b ∷ bs) s = (h b.1.kind s.0, names_kept c d h bs s.1)

names_more : (c : Collection) (bs : List (Name × Binding)) (n : Name) (b : Binding) → NamesStand c bs → Stands c b.kind → NamesStand c (bs ++ (n, b) ∷ [])
names_more c [] n b s h = (h, tt)
names_more c (e ∷ bs) n b s h = (s.0, names_more c bs n b s.1 h)

found_by : (c : Collection) (t : Bool) (e b : Binding) (o : Option Binding) → Stands c e.kind → (o ≡ Some b → Stands c b.kind) → (if t then Some e else o) ≡ Some b → Stands c b.kind
found_by c true e b o p h is = let same : e ≡ b = cc in subst (λ (x : Binding). Stands c x.kind) same p
found_by c false e b o p h is = h is

pub name_stands : (c : Collection) (bs : List (Name × Binding)) (n : Name) (b : Binding) → NamesStand c bs → value_at bs n ≡ Some b → Stands c b.kind
name_stands c [] n b s is = absurd (cc is)
name_stands c (e ∷ bs) n b s is = found_by c (pointwise ◌==◌ n e.0) e.1 b (value_at bs n) s.0 (name_stands c bs n b s.1) is

pub sound_later : (g h : Graph) (bs : List (Name × Binding)) → Later g h → IsSound g bs → IsSound h bs
sound_later g h bs later sound = record { stand = names_kept g.types h.types later.kinds bs sound.stand }

pub sound_grows : (g h : Graph) (bs : List (Name × Binding)) → Grows g.types h.types → IsSound g bs → IsSound h bs
sound_grows g h bs grows sound = record { stand = names_kept g.types h.types grows.stand bs sound.stand }

pub sound_more : (g : Graph) (bs : List (Name × Binding)) (n : Name) (b : Binding) → IsSound g bs → Stands g.types b.kind → IsSound g (bs ++ (n, b) ∷ [])
sound_more g bs n b sound h = record { stand = names_more g.types bs n b sound.stand h }

pub sound_none : (g : Graph) → IsSound g []
sound_none g = record { stand = tt }

pub sound_inner : (g h : Graph) (bs : List (Name × Binding)) → Inner g h → IsSound g bs → IsSound h bs
sound_inner g h bs inner sound = sound_later g h bs inner.later sound

-- ---- while a graph grows

pub node_later : (g h : Graph) (k : ℕ) → Later g h → ContainsNode g k → ContainsNode h k
node_later g h k later s = later.nodes k s

pub kind_later : (g h : Graph) (k : ItemKind) → Later g h → Stands g.types k → Stands h.types k
kind_later g h k later s = later.kinds k s

pub package_later : (g h : Graph) (id : PackageId) → Later g h → ContainsPackage g id → ContainsPackage h id
package_later g h id later s = later.packages id s

pub number_later : (g h : Graph) → Later g h → SameNumber g h
number_later g h later = later.number

pub number_inner : (g h : Graph) → Inner g h → SameNumber g h
number_inner g h inner = inner.later.number

pub number_grows : (g h : Graph) → Grows g.types h.types → SameNumber g h
number_grows g h grows = grows.number

pub inner_later : (g h : Graph) → Inner g h → Later g h
inner_later g h inner = inner.later

pub node_inner : (g h : Graph) (k : ℕ) → Inner g h → ContainsNode g k → ContainsNode h k
node_inner g h k inner s = inner.later.nodes k s

pub kind_inner : (g h : Graph) (k : ItemKind) → Inner g h → Stands g.types k → Stands h.types k
kind_inner g h k inner s = inner.later.kinds k s

pub package_inner : (g h : Graph) (id : PackageId) → Inner g h → ContainsPackage g id → ContainsPackage h id
package_inner g h id inner s = inner.later.packages id s

package_by : (g h : Graph) (id : PackageId) → ((p : Packaged) → package_of g id ≡ Some p → package_of h id ≡ Some p) → (o : Option Packaged) → package_of g id ≡ o → IsSome o → ContainsPackage h id
package_by g h id keep None e is = absurd (cc is)
package_by g h id keep (Some p) e is = subst IsSome (sym (keep p e)) refl

pub keeps_inner : (g h : Graph) → Keeps g h → Inner g h
keeps_inner g h keeps = record {
  later = record {
    number = keeps.types.number;
    kinds = λ k s. keeps.types.stand k s;
    nodes = λ k s. subst (λ m. IsSome (map.get m k)) (sym keeps.nodes) s;
    stays = it_stays g h (record {
      trees = keeps.types.keep;
      still = λ k x e. record { node = x; there = ap (λ m. map.get m k) keeps.nodes ∙ e; role = refl; of = refl; item = refl };
      edges = λ e m. subst (Among e) (sym keeps.edges) m;
      exported = λ n k e. ap (λ (xs : List (Name × ℕ)). value_at xs n) keeps.exports ∙ e;
      first = λ k n e. ap (λ (xs : List (Name × ℕ)). first_name xs k) keeps.exports ∙ e;
      held = keeps.packages;
    });
    packages = λ id s. package_by g h id (keeps.packages id) (package_of g id) refl s;
  };
  imports = λ k n i. subst (λ m. IsImport m k n) keeps.nodes i;
  definitions = λ k i d. subst (λ m. IsDefinition m k i) keeps.nodes d;
  exports = keeps.exports;
}

-- ---- arguments

pub there_none : (g : Graph) → AreThere g []
there_none g = record { nodes = λ one m. absurd m }

pub there_later : (g h : Graph) (xs : List Given) → Later g h → AreThere g xs → AreThere h xs
there_later g h xs later there = record { nodes = λ one m. later.nodes one.node (there.nodes one m) }

pub there_inner : (g h : Graph) (xs : List Given) → Inner g h → AreThere g xs → AreThere h xs
there_inner g h xs inner there = there_later g h xs inner.later there

pub there_more : (g : Graph) (xs : List Given) (x : Given) → AreThere g xs → ContainsNode g x.node → AreThere g (xs ++ x ∷ [])
there_more g xs x there here = record {
  nodes = λ one m. elim (Among-last xs x one m) [
    | inl before ↦ there.nodes one before
    | inr e ↦ subst (λ (y : Given). ContainsNode g y.node) (sym e) here
  ];
}

pub there_with : (g : Graph) (xs ys : List Given) (x : Given) → ys ≡ xs ++ x ∷ [] → AreThere g xs → ContainsNode g x.node → AreThere g ys
there_with g xs ys x is there here = subst (AreThere g) (sym is) (there_more g xs x there here)

pub ruleset inside = (Inner-refl, Inner-trans, within_refl, within_trans, node_inner, kind_inner, package_inner, keeps_inner, there_inner, there_none, there_with)

pub ruleset growing = (Later-refl, Later-trans, inner_later, node_later, node_inner, kind_later, kind_inner, sound_later, sound_inner, sound_grows, sound_none, number_later, number_inner, number_grows)

pub sound_with : (g : Graph) (bs cs : List (Name × Binding)) (n : Name) (b : Binding) → cs ≡ bs ++ (n, b) ∷ [] → IsSound g bs → Stands g.types b.kind → IsSound g cs
sound_with g bs cs n b is sound h = subst (IsSound g) (sym is) (sound_more g bs n b sound h)
