-- What contracts see of a collection of types.
use Rattle.std.specs.Prelude.{ℕ, List}
use Rattle.wac_types_base.specs.declared.defined.DefinedType.{DefinedType}
use Rattle.wac_types_base.specs.declared.defined.Resource.{Resource}
use Rattle.wac_types_base.specs.declared.defined.FuncType.{FuncType}
use Rattle.wac_types_base.specs.declared.defined.Interface.{Interface}
use Rattle.wac_types_base.specs.declared.defined.World.{World}
use Rattle.wac_types_base.specs.declared.core_types.ModuleType.{ModuleType}

-- what is kept, by kind, each in order of keeping
pub record Kept : Type 0 where
  pub defined_types : List DefinedType
  pub resources : List Resource
  pub func_types : List FuncType
  pub interfaces : List Interface
  pub worlds : List World
  pub modules : List ModuleType

-- a number, six lists, each in order of adding, and what is kept
pub record Collection : Type 0 where
  pub number : ℕ
  pub defined_types : List DefinedType
  pub resources : List Resource
  pub func_types : List FuncType
  pub interfaces : List Interface
  pub worlds : List World
  pub modules : List ModuleType
  pub kept : Kept
