use Rattle.ic_text.proofs.ReadNets.{read_net_printable}
use Rattle.ic_text.proofs.round_trip.printable.Goals as goal

pub returns : goal.returns
returns c = read_net_printable
