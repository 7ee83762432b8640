-- The wiring that plugging makes: the socket is instance 0, and the plug at place p is instance p + 1.
use Rattle.std.specs.Prelude.{ℕ, zero, suc, ◌==◌, List, [], ◌∷◌, Option, Some, None, slice_get, if◌then◌else◌}
use Rattle.std.specs.Cmp.Lexicographic.{pointwise}
use Rattle.wac_types_base.specs.Entries.{Name, value_at}
use Rattle.wac_types_base.specs.Stated.{Stated, imports_of, exports_of}
use Rattle.wac_types_base.specs.Tree.{Tree}
use Rattle.wac_graph_bytes.specs.Wirings.{Source, Absent, Outer, Inst, Projection, OfBytes, Instantiation, Wiring}
use Rattle.wac_graph_plug.specs.declared.matching.Match.{Match}

-- a component that is plugged, or plugged into: its bytes, and the stated type of its world
pub record Part : Type 0 where
  pub bytes : List ℕ
  pub world : Stated

-- the export that is for an import
abbrev pub export_for : List Match → Name → Option Name
export_for [] i = None
export_for (m ∷ ms) i = if pointwise ◌==◌ i m.import then Some m.export else export_for ms i

abbrev pub or_later : ℕ → Option Name → Option (ℕ × Name) → Option (ℕ × Name)
or_later p None rest = rest
or_later p (Some e) rest = Some (p, e)

-- the place of the plug, counted from p, and its export that are for an import
abbrev pub bound_from : ℕ → List (List Match) → Name → Option (ℕ × Name)
bound_from p [] i = None
bound_from p (ms ∷ rest) i = or_later p (export_for ms i) (bound_from (suc p) rest i)

-- what an item is, if there is one
abbrev pub if_there : Option Stated → Source ℕ → Source ℕ
if_there None s = Absent
if_there (Some t) s = s

abbrev pub bound_source : (Name → Name) → Name → Option (ℕ × Name) → Source ℕ
bound_source spell i None = Outer (spell i)
bound_source spell i (Some b) = Projection (Inst (suc b.0)) b.1

-- an import of the socket is bound to the export that is for it, or else to the outer import of its name
abbrev pub socket_instance : (Name → Name) → Part → List (List Match) → Instantiation ℕ
socket_instance spell socket mss =
    record {
      tag = OfBytes socket.bytes;
      args = λ i. if_there (value_at (imports_of socket.world) i)
          (bound_source spell i (bound_from 0 mss i));
    }

-- each import of a plug is bound to the outer import of its name
abbrev pub plug_instance : (Name → Name) → Part → Instantiation ℕ
plug_instance spell plug =
    record { tag = OfBytes plug.bytes; args = λ i. if_there (value_at (imports_of plug.world) i) (Outer (spell i)) }

-- a plug with a match is an instance
abbrev pub plug_at : (Name → Name) → Option Part → Option (List Match) → Option (Instantiation ℕ)
plug_at spell (Some plug) (Some (m ∷ ms)) = Some (plug_instance spell plug)
plug_at spell plug ms = None

abbrev pub instance_at : (Name → Name) → Part → List Part → List (List Match) → ℕ → Option (Instantiation ℕ)
instance_at spell socket plugs mss zero = Some (socket_instance spell socket mss)
instance_at spell socket plugs mss (suc p) = plug_at spell (slice_get plugs p) (slice_get mss p)

-- the socket's exports are exported
abbrev pub plugged : (Name → Name) → (Name → Option Tree) → Part → List Part → List (List Match) → Wiring ℕ
plugged spell outers socket plugs mss =
    record {
      outers = outers;
      at = instance_at spell socket plugs mss;
      exports = λ n. if_there
          (value_at (exports_of socket.world) n) (Projection (Inst zero) n);
    }
