use Rattle.std.proofs.Common.{◌≡◌, ℕ, List, subst}
use Rattle.ic_command.specs.Asked.{IsAsked}
use Rattle.ic_command.specs.declared.asked.Asked.{Asked}
use Rattle.ic_session.specs.Streams.{left_in}
use Rattle.ic_session.proofs.RequestsTaken.{alone_at, absorb_at, refused_at}
use Rattle.ic_session.proofs.next_demand.request_at.Goals as goal

-- what the bytes that were read ask for, the line does
asks : (bytes line : List ℕ) (a b : Asked) → bytes ≡ line → a ≡ b → IsAsked bytes a → IsAsked line b
asks bytes line a b same is h = subst (IsAsked line) is (subst (λ xs. IsAsked xs a) same h)

pub returns-in-Alone-clause-taken : goal.returns-in-Alone-clause-taken
returns-in-Alone-clause-taken g c =
    alone_at (left_in g.R.Read.remaining c.args.source.now) c.args.source.now.line.items c.in-Alone.request
    (asks _ _ _ _ c.deref.ensures.value c.in-Alone.is c.in_ok-request.ensures)

pub returns-in-Some-clause-taken : goal.returns-in-Some-clause-taken
returns-in-Some-clause-taken g c =
    absorb_at (left_in g.R.Read.remaining c.args.source.now) (left_in g.R.Read.remaining c.listed_events.new.source)
    c.args.source.now.line.items c.in-Absorb.count c.in-Some.events c.in_ok-events-in-Absorb.field-0
    (asks _ _ _ _ c.deref.ensures.value c.in-Absorb.is c.in_ok-request.ensures) c.in-Some.is c.in_ok-events-in-Absorb.ensures.taken

pub returns-in-None-clause-taken : goal.returns-in-None-clause-taken
returns-in-None-clause-taken g c =
    refused_at (left_in g.R.Read.remaining c.args.source.now) (left_in g.R.Read.remaining c.listed_events.new.source)
    c.args.source.now.line.items c.in-Absorb.count c.in_ok-events-in-Absorb.field-0
    (asks _ _ _ _ c.deref.ensures.value c.in-Absorb.is c.in_ok-request.ensures) c.in-None.is c.in_ok-events-in-Absorb.ensures.taken
