use Rattle.ic_undo.specs.Among.{names_at}
use Rattle.ic_undo.specs.GoingBack.{events_at}
use Rattle.ic_undo.proofs.PlacedMarks.{read_at}
use Rattle.ic_undo.proofs.MarkedEvents.{over_start}
use Rattle.ic_undo.proofs.MissingOrders.{places_within, missing_in_order}
use Rattle.ic_undo.proofs.OutsideOrders.{outside_stand, outside_in_order}
use Rattle.ic_undo.proofs.among.differences_among.Goals as goal

pub ordered-requires : goal.ordered-requires
ordered-requires g c =
    rw c.deref.ensures.value (record {
      once = c.drop_repeats.ensures.once;
      standing = outside_stand c.args.bench.now c.lawful.ensures.set c.args.mark.now (names_at c.args.bench.now.names c.args.leads.now) _ _ c.in_ok-found.ensures.outside c.drop_repeats.ensures.same;
    })

pub returns-clause-outside : goal.returns-clause-outside
returns-clause-outside g c =
    let ordered = rw c.deref.ensures.value at c.in_ok-outside.ensures in
    outside_in_order c.args.bench.now c.lawful.ensures.set c.args.mark.now (names_at c.args.bench.now.names c.args.leads.now) _ _ c.in_ok-found.ensures.outside c.drop_repeats.ensures.same c.requires.outside c.in_ok-outside.outside.items ordered

pub returns-clause-missing : goal.returns-clause-missing
returns-clause-missing g c =
    let v = c.args.bench.now in
    let m = c.args.mark.now in
    let over = over_start v m c.requires.start c.lawful-2.ensures in
    let leads = names_at v.names c.args.leads.now in
    let places = c.put_in_order.new.places.items in
    let within = places_within v c.lawful.ensures.set m over leads _ places c.in_ok-found.ensures.missing c.put_in_order.ensures.same in
    record {
      within = within;
      missing = missing_in_order v c.lawful.ensures.set m over leads _ places c.in_ok-found.ensures.missing c.put_in_order.ensures.same c.requires.start c.lawful-2.ensures
          c.put_in_order.ensures.ordered c.requires.missing (events_at m.events places) (read_at m.events places within);
    }
