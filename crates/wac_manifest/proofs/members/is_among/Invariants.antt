use Rattle.std.proofs.Common.{◌≡◌, bytes_eq, drop, map}
use Rattle.std.specs.List.{list_any}
use Rattle.wac_manifest.proofs.members.is_among.Given as goal

-- it is one of these where it is one of those that are left
abbrev pub invariant-loop-other : goal.invariant-loop-other
invariant-loop-other l = list_any (bytes_eq l.name) (map (λ n. n.now) l.names) ≡ list_any (bytes_eq l.name) (map (λ n. n.now) (drop l.other-index l.names))
