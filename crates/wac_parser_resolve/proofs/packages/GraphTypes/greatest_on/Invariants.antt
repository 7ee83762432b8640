use Rattle.std.proofs.Common.{◌≡◌, option_map}
use Rattle.semver.specs.Identifiers.{parts_of}
use Rattle.wac_types_base.specs.Entries.{names_of}
use Rattle.wac_parser_resolve.specs.Choosing.{greatest_from, greatest_on, track_key}
use Rattle.wac_parser_resolve.specs.Knowing.{handed_entries, handed_keys}
use Rattle.wac_parser_resolve.proofs.packages.GraphTypes.greatest_on.Given as goal

-- with those that are left, from the best so far, it is the greatest of all
abbrev pub invariant-loop-key : goal.invariant-loop-key
invariant-loop-key l =
    greatest_from (track_key l.name l.track) (option_map parts_of l.best) (names_of (handed_entries l.key-iterator)) ≡ greatest_on (handed_keys l.self) l.name l.track
