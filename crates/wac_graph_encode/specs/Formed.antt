-- Definitions in the forms in which they are written.
use Rattle.std.specs.Prelude.{◌≡◌, ◌++◌, true, false, List, Result, Option, Some, None, IfOk}
use Rattle.std.specs.declared.alloc.Global.{Global}
use Rattle.std.specs.declared.vec.Vec.{Vec}
use Rattle.std.specs.List.{AllZip}
use Rattle.wac_types_base.specs.declared.item.ItemKind.{ItemKind}
use Rattle.wac_types_base.specs.declared.item.«Type».{«Type» as TypeKind}
use Rattle.wac_types_base.specs.Record.{Collection}
use Rattle.wac_types_base.specs.Graph.{Among}
use Rattle.wac_types_base.specs.Collection.{Stands}
use Rattle.wac_types_written.specs.Forms.{IsDefinitionOf}
use Rattle.wac_graph_asks.specs.declared.asks.Definition.{Definition}
use Rattle.wac_graph_asks.specs.Asked.{uses_others, HasCopy}
use Rattle.wac_graph_asks.specs.AskedUses.{CopiesStand}

-- the form of an interface or a world; other types are written as they are
abbrev pub HasForm : (c d : Collection) → TypeKind → Option ItemKind → Type 0
HasForm c d t (Some k) = (uses_others t ≡ true) × IsDefinitionOf c d (ItemKind.Ty t) k × Stands c (ItemKind.Ty t)
HasForm c d t None = (uses_others t ≡ false) × Stands c (ItemKind.Ty t)

-- the definition, with the form of its type
pub record IsFormed (c d : Collection) (x y : Definition) : Type 0 where
  pub node : y.node ≡ x.node
  pub name : y.name ≡ x.name
  pub ty : y.ty ≡ x.ty
  pub form : HasForm c d y.ty y.copy

abbrev pub AreFormed : (c d : Collection) → (xs ys : List Definition) → Type 0
AreFormed c d xs ys = AllZip (IsFormed c d) xs ys

-- ---- where interfaces and worlds of a collection have copies

abbrev pub AreCopied : (c d : Collection) → List Definition → Type 0
AreCopied c d xs = (x : Definition) → Among x xs → HasCopy c d x.ty x.copy

-- what is written of a copy, if there is one
abbrev pub IsFormOf : (old new : Collection) → (copy form : Option ItemKind) → Type 0
IsFormOf old new None None = Unit {0}
IsFormOf old new (Some k) (Some j) = IsDefinitionOf old new k j
IsFormOf old new _ _ = ⊥

abbrev pub FormsOne : {E : Type 0} → (old new : Collection) → Definition → Result Definition E → Type 0
FormsOne old new x r = (c : Collection) → HasCopy c old x.ty x.copy → IfOk r (IsFormed c new x)

abbrev pub FormsAll : {E : Type 0} → (old new : Collection) → List Definition → Result (Vec Definition Global) E → Type 0
FormsAll old new xs r = (c : Collection) → AreCopied c old xs → IfOk r (λ v. AreFormed c new xs v.items)

-- those that were formed before stay, and the others are formed behind them
abbrev pub FormsMore : {U E : Type 0} → (old new : Collection) → (xs before after : List Definition) → Result U E → Type 0
FormsMore old new xs before after r = (c : Collection) → AreCopied c old xs → (ws : List Definition) → AreFormed c old ws before
    → IfOk r (λ _. AreFormed c new (ws ++ xs) after)

-- where copies stand before, they stand after
abbrev pub KeepsCopies : (old new : Collection) → (before after : List Definition) → Type 0
KeepsCopies old new before after = CopiesStand old before → CopiesStand new after
