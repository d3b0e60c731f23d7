-- What firings leave is printed as a text that is read as the same net, and printed by the same bytes.
use Rattle.std.proofs.Common.{ℕ, ◌+◌, ◌*◌, ◌^◌, ◌<◌, List, length, arith}
use Rattle.ic_name.specs.Events.{Event}
use Rattle.ic_theory.specs.Starts.{Start}
use Rattle.ic_theory.specs.Firings.{IsFired}
use Rattle.ic_theory.specs.Nets.{IsSameNet, net_of}
use Rattle.ic_theory.specs.Listed.{ListedNet, IsListing, shown}
use Rattle.ic_text.specs.Grammar.{Denotes}
use Rattle.ic_text.specs.Printable.{IsWithinLimits}
use Rattle.ic_text.specs.ReadBack.{IsReadBack}
use Rattle.ic_text.proofs.Denoted.{denoted}
use Rattle.ic_text.proofs.DenotedNet.{denoted_net}
use Rattle.ic_text.proofs.NoFault.{faultless}
use Rattle.ic_text.proofs.ReadNets.{read_net_printable}
use Rattle.ic_text.proofs.SameBytes.{same_bytes}
use Rattle.ic_text.proofs.ShortNames.{numbers_within}

-- within the reader's limits, it is
pub round_trip : (text : List ℕ) (s : Start) (es : List Event) (l : ListedNet) → Denotes text s → IsFired s es → IsListing l → IsSameNet (shown l) (net_of s es) → IsWithinLimits s.names l
    → IsReadBack s.names l
round_trip text s es l d f listing same within =
    let ok = read_net_printable text s es l d f listing same in
    let few : 3 * length l.agents + l.rings < 2 ^ 64 = (let k = numbers_within s.names l within in omega arith) in
    let t = denoted s.names l ok few in
    record {
      start = t.0;
      denotes = t.1;
      faultless = faultless s.names l ok within;
      reread = denoted_net s.names l t.0 ok t.1;
      same_bytes = λ m h k. same_bytes s.names l m t.0 ok t.1 h k;
    }
