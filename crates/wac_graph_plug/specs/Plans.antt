-- How plugs are plugged into a socket, by their worlds alone, before there is a graph.
use Rattle.std.specs.Prelude.{◌≡◌, ℕ, ◌+◌, List, [], ◌∷◌, ◌++◌, map, length, string_bytes}
use Rattle.wac_types_base.specs.declared.item.ItemKind.{ItemKind}
use Rattle.wac_types_base.specs.Collection.{Stands}
use Rattle.wac_types_base.specs.Entries.{Name}
use Rattle.wac_types_base.specs.Graph.{Among}
use Rattle.wac_types_base.specs.Stated.{Stated, stated_world}
use Rattle.wac_graph_plug.specs.declared.matching.Match.{Match}
use Rattle.wac_graph_plug.specs.declared.plan.WorldIn.{WorldIn}
use Rattle.wac_graph_plug.specs.declared.plan.Argument.{Argument}
use Rattle.wac_graph_plug.specs.declared.plan.Plan.{Plan}
use Rattle.wac_graph_plug.specs.declared.plan.PlanError.{PlanError}
use Rattle.wac_graph_plug.specs.Plugging.{AreMatches, IsTwice, Conflict}

abbrev pub world_in : WorldIn → Stated
world_in w = stated_world w.types.now w.world

abbrev pub WorldStands : WorldIn → Type 0
WorldStands w = Stands w.types.now (ItemKind.Component w.world)

-- the places of the plugs that have a match, where the first is at this place
abbrev pub matching_from : ℕ → List (List Match) → List ℕ
matching_from k [] = []
matching_from k ([] ∷ mss) = matching_from (k + 1) mss
matching_from k ((m ∷ ms) ∷ mss) = k ∷ matching_from (k + 1) mss

-- what the plug of this number gives
abbrev pub gives : ℕ → List Match → List Argument
gives k ms = map (λ (m : Match). record { plug = k; given = m }) ms

-- what plugs give, where the first that has a match has this number
abbrev pub given_from : ℕ → List (List Match) → List Argument
given_from k [] = []
given_from k ([] ∷ mss) = given_from k mss
given_from k ((m ∷ ms) ∷ mss) = gives k (m ∷ ms) ++ given_from (k + 1) mss

-- the plan has the plugs with a match and all that they give, and no two matches share an import
pub record IsPlanOf (mss : List (List Match)) (p : Plan) : Type 0 where
  pub plugs : p.plugs.items ≡ matching_from 0 mss
  pub arguments : p.arguments.items ≡ given_from 0 mss
  pub once : (i : Name) → Conflict mss i → ⊥

pub record IsPlan (plugs : List Stated) (socket : Stated) (p : Plan) : Type 0 where
  pub matches : List (List Match)
  pub are : AreMatches socket plugs matches
  pub plan : IsPlanOf matches p
  pub some : matching_from 0 matches ≡ [] → ⊥

-- among the matches of the first plugs two share this import
pub record FirstConflicts (plugs : List Stated) (socket : Stated) (i : Name) : Type 0 where
  pub first : List Stated
  pub others : List Stated
  pub all : plugs ≡ first ++ others
  pub matches : List (List Match)
  pub are : AreMatches socket first matches
  pub conflict : Conflict matches i

pub record NoneMatches (plugs : List Stated) (socket : Stated) : Type 0 where
  pub matches : List (List Match)
  pub are : AreMatches socket plugs matches
  pub none : matching_from 0 matches ≡ []

-- why there is no plan
abbrev pub PlanRefused : List Stated → Stated → PlanError → Type 0
PlanRefused plugs socket (PlanError.PlugConflict i) = FirstConflicts plugs socket (string_bytes i)
PlanRefused plugs socket PlanError.NoPlugHappened = NoneMatches plugs socket
PlanRefused plugs socket PlanError.Memory = Unit {0}

-- ---- step by step

abbrev pub imports_given : List Argument → List Name
imports_given as_ = map (λ (a : Argument). a.given.import) as_

-- the import was given nothing, and now is
pub record Gives (k : ℕ) (m : Match) (old new : Plan) : Type 0 where
  pub plugs : new.plugs ≡ old.plugs
  pub arguments : new.arguments.items ≡ old.arguments.items ++ gives k (m ∷ [])
  pub fresh : Among m.import (imports_given old.arguments.items) → ⊥

-- no import is given something twice
abbrev pub AreOnce : List Argument → Type 0
AreOnce as_ = (i : Name) → IsTwice i (imports_given as_) → ⊥

pub record GivesAll (k : ℕ) (ms : List Match) (old new : Plan) : Type 0 where
  pub plugs : new.plugs ≡ old.plugs
  pub arguments : new.arguments.items ≡ old.arguments.items ++ gives k ms
  pub once : AreOnce old.arguments.items → AreOnce new.arguments.items

-- what a plug gives with what is given before
abbrev pub IsGivenTwice : List Match → Plan → PlanError → Type 0
IsGivenTwice ms old (PlanError.PlugConflict i) = IsTwice (string_bytes i) (imports_given old.arguments.items ++ map (λ m. m.import) ms)
IsGivenTwice ms old PlanError.NoPlugHappened = ⊥
IsGivenTwice ms old PlanError.Memory = Unit {0}

-- the plug at a place is planned, if it has a match
pub record PlansOne (at : ℕ) (ms : List Match) (old new : Plan) : Type 0 where
  pub plugs : new.plugs.items ≡ old.plugs.items ++ matching_from at (ms ∷ [])
  pub arguments : new.arguments.items ≡ old.arguments.items ++ given_from (length old.plugs.items) (ms ∷ [])
  pub once : AreOnce old.arguments.items → AreOnce new.arguments.items
