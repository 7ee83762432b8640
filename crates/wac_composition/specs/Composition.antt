-- What is composed, as plain lists in order. A graph says it, and so does a document.
use Rattle.std.specs.Prelude.{List}
use Rattle.wac_types_base.specs.Entries.{Name}
use Rattle.wac_types_base.specs.Stated.{Stated}
use Rattle.wac_types_names.specs.Keys.{Key}

-- where something comes from; `I` numbers instances
pub data Origin (I : Type 0) : Type 0 where
  -- the import that is asked under this name
  imported : Name → Origin I
  instance : I → Origin I
  -- an export of it
  projected : Origin I → Name → Origin I
  -- the definition of this name and type
  defined : Name → Stated → Origin I

-- something under a name; `A` says who put it there
pub record Placed (A : Type 0) : Type 0 where
  pub by : A
  pub name : Name
  pub item : Stated

-- an instance of a package: its world, and which of the world's imports are given arguments
pub record Made (A I : Type 0) : Type 0 where
  pub by : A
  pub number : I
  pub key : Key
  pub world : Stated
  pub arguments : List (Name × Origin I)

pub record Composition (A I : Type 0) : Type 0 where
  -- imports that are asked for by their names
  pub imports : List (Placed A)
  pub made : List (Made A I)
  pub definitions : List (Placed A)
  -- exports of instances that are spoken of, under the exports' names
  pub aliases : List (Name × Stated)
  -- with the types by which steps went
  pub exports : List (Name × Origin I × Stated)
