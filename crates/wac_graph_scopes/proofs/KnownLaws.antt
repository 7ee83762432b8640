-- Of value types only equal ones fit.
use Rattle.std.proofs.Common.{◌≡◌}
use Rattle.wac_types_base.specs.declared.item.ValueType.{ValueType}
use Rattle.wac_types_base.specs.declared.item.ItemKind.{ItemKind}
use Rattle.wac_types_base.specs.Record.{Collection}
use Rattle.wac_types_base.specs.Collection.{Stands, IsAcyclic}
use Rattle.wac_types_fit.specs.Trees.{tree_in, Fit}
use Rattle.wac_types_fit.proofs.ItemKinds.{flat_is, fits_flat}

pub value_equal : (c : Collection) → IsAcyclic c → (v : ValueType) (k : ItemKind) → Stands c (ItemKind.Value v) → Fit c (ItemKind.Value v) c k → tree_in c (ItemKind.Value v) ≡ tree_in c k
value_equal c a v k s f = fits_flat (tree_in c (ItemKind.Value v)) (tree_in c k) (flat_is c a (ItemKind.Value v) tt s) f
