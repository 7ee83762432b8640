use Rattle.std.proofs.Common.{◌≡◌, drop}
use Rattle.std.specs.List.{list_any}
use Rattle.wac_types_base.specs.declared.item.ItemKind.{ItemKind}
use Rattle.wac_types_base.specs.Collection.{Stands}
use Rattle.wac_types_base.specs.Stated.{stated_of}
use Rattle.wac_composition.specs.Writable.{is_used_value}
use Rattle.wac_composition.specs.Writable.{Holder as Held}
use Rattle.wac_writable.specs.Holders.{Shows, is_used_as}
use Rattle.wac_writable.proofs.holder.Holder.has_value.Given as goal

-- the rest decides
abbrev pub invariant-loop-at : goal.invariant-loop-at
invariant-loop-at l = Stands l.types (ItemKind.Value l.ty) → (h : Held) → Shows l.types l.self h → is_used_value h (stated_of l.types (ItemKind.Value l.ty)) ≡ list_any (λ e. is_used_as (stated_of l.types e.1) (stated_of l.types (ItemKind.Value l.ty))) (drop l.at l.self.used)
