-- Substitution: an instance of a wiring is replaced by a fresh copy of that wiring's instances.
use Rattle.std.specs.Prelude.{ℕ, zero, suc, List, [], ◌∷◌, Option, Some, None, option_map}
use Rattle.wac_types_base.specs.Entries.{Name}
use Rattle.wac_graph_bytes.specs.Wirings.{Source, Absent, Outer, Inst, Bundle, replace, Tag, Instantiation, Wiring}

-- the name of an instance in a copy: the instance that was replaced, then that of the copy in it, and so on down
abbrev pub Path : Type 0
Path = List ℕ

-- what stands for an instance: nothing, a component that stays as it is, or a wiring to be copied
pub data Part : Type 0 where
  Nothing : Part
  Leaf : Tag → Part
  Open : Wiring Path → Part

-- nothing where there is no instance
abbrev pub part_at : Option (Instantiation ℕ) → Part → Part
part_at None s = Nothing
part_at (Some x) s = s

abbrev pub args_of : Option (Instantiation ℕ) → Name → Source ℕ
args_of None n = Absent
args_of (Some x) n = x.args n

-- a source of a copy for the instance k, whose imports are bound to `args`
abbrev pub copied : ℕ → (Name → Source Path) → Source Path → Source Path
copied k args s = replace args (λ p. Inst (k ∷ p)) s

-- what the instance k becomes: itself where it is a leaf, else the bundle of the wiring's exports
abbrev pub stands : Part → ℕ → (Name → Source Path) → Source Path
stands Nothing k args = Absent
stands (Leaf t) k args = Inst (k ∷ [])
stands (Open V) k args = Bundle (λ n. copied k args (V.exports n))

-- the same from the wiring, through at most d instances
abbrev pub stands_within : (ℕ → Part) → (ℕ → Name → Source ℕ) → ℕ → ℕ → Source Path
stands_within parts args zero k = Absent
stands_within parts args (suc d) k = stands (parts k) k (λ n. replace Outer (stands_within parts args d) (args k n))

-- an instance's sources name instances of lower numbers, so k + 1 are enough for the instance k
abbrev pub placed : (ℕ → Part) → (ℕ → Name → Source ℕ) → Source ℕ → Source Path
placed parts args s = replace Outer (λ k. stands_within parts args (suc k) k) s

-- the instances that stand for k: itself, or the copy
abbrev pub instance_in : Part → ℕ → (Name → Source Path) → Path → Option (Instantiation Path)
instance_in Nothing k args p = None
instance_in (Leaf t) k args [] = Some (record { tag = t; args = args })
instance_in (Leaf t) k args (_ ∷ _) = None
instance_in (Open V) k args p = option_map (λ x. record { tag = x.tag; args = λ n. copied k args (x.args n) }) (V.at p)

abbrev pub instance_at : (ℕ → Part) → (ℕ → Name → Source ℕ) → Path → Option (Instantiation Path)
instance_at parts args [] = None
instance_at parts args (k ∷ p) = instance_in (parts k) k (λ n. placed parts args (args k n)) p

-- a source of the wiring, where each instance is replaced by its part
abbrev pub source_in : (ℕ → Part) → Wiring ℕ → Source ℕ → Source Path
source_in parts W s = placed (λ k. part_at (W.at k) (parts k)) (λ k. args_of (W.at k)) s

-- the wiring with each instance replaced by its part
abbrev pub substitute : (ℕ → Part) → Wiring ℕ → Wiring Path
substitute parts W = record {
  outers = W.outers;
  at = instance_at (λ k. part_at (W.at k) (parts k)) (λ k. args_of (W.at k));
  exports = λ n. source_in parts W (W.exports n);
}
