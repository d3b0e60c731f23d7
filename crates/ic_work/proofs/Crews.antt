-- What the first worker has when it takes another in.
use Rattle.std.proofs.Common.{◌≡◌, ℕ, ◌+◌, List, [], ◌∷◌, ◌++◌, length, All, sym, ap, ◌∙◌, subst, arith, length-append}
use Rattle.std.proofs.lemmas.List.Elements.{All-push}
use Rattle.atomic_table.specs.Seated.{TableId}
use Rattle.ic_claim.specs.Seats.{SeatValue}
use Rattle.ic_claim.specs.Views.{joined}
use Rattle.ic_shared.specs.Passes.{PassView, added_by, added_by_all}
use Rattle.ic_work.specs.Workers.{AreFires, IsGuest, IsFirst}
use Rattle.ic_work.proofs.Passes.{added_by_all-append}

pub takes_in : (table : TableId) (budget : ℕ) (seat seat' other : SeatValue) (pass theirs : PassView) (home home' : List PassView) → IsFirst table budget seat pass home → IsGuest table other theirs
    → seat'.table ≡ seat.table → seat'.view ≡ joined seat.view other.view → home' ≡ home ++ theirs ∷ [] → IsFirst table budget seat' pass home'
takes_in table budget seat seat' other pass theirs home home' first guest placed both added =
    let had = first.spent in
    let brought = guest.spent in
    let tickets : length seat'.view.tickets ≡ length seat.view.tickets + length other.view.tickets = ap (λ v. length v.tickets) both ∙ length-append seat.view.tickets other.view.tickets in
    let lines : added_by_all home' ≡ added_by_all home + added_by theirs = ap added_by_all added ∙ added_by_all-append home theirs in record {
      seated = record { placed = placed ∙ first.seated.placed; free = ap (λ v. v.held) both ∙ first.seated.free };
      tickets = ap (λ v. v.budget) both ∙ first.tickets;
      spent = omega arith;
      fires = first.fires;
      all_fire = subst (All AreFires) (sym added) (All-push AreFires home theirs first.all_fire guest.fires);
    }
