-- Things of a sort are no more than entries, of which there are less than a number counts.
use Rattle.std.proofs.Common.{◌≡◌, ◌<◌, ◌≤◌, List, length, arith}
use Rattle.std.proofs.lemmas.List.Sums.{count_by-le-length}
use Rattle.wac_graph_bytes.specs.declared.value.Sort.{Sort}
use Rattle.wac_graph_bytes.specs.declared.entry.Entry.{Entry}
use Rattle.wac_graph_bytes.specs.Counting.{count_of, entry_sort, is_sort}
use Rattle.wac_graph_bytes.specs.Views.{view}
use Rattle.wac_graph_encode.specs.declared.root.Root.{Root}
use Rattle.wac_graph_encode.specs.Standing.{counted}

pub count_most : (s : Sort) (es : List Entry) → count_of s es ≤ length es
count_most s es = count_by-le-length (λ (e : Entry). is_sort s (entry_sort (view e))) es

-- no list is as long as the greatest number
pub few_entries : (r : Root) → length r.entries.items < 18446744073709551615
few_entries r = omega (arith, r.entries.ok.0, r.entries.ok.1, r.entries.small)

-- one more is counted
pub has_next : (r : Root) (s : Sort) → counted r.counts s ≡ count_of s r.entries.items → counted r.counts s < 18446744073709551615
has_next r s is = omega (arith, is, count_most s r.entries.items, few_entries r)
