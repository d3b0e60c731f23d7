-- Known events by their numbers.
use Rattle.std.proofs.Common.{◌≡◌, ℕ, suc, ◌<◌, List, [], ◌∷◌, ◌++◌, length, map, get_or, refl, sym, ap, arith, ◌∙◌}
use Rattle.std.proofs.lemmas.List.{length-map, map-append, get_or_append_left, get_or_push, get_or-map}
use Rattle.ic_path.specs.Orders.{Pick, here, there, IsIn}
use Rattle.ic_link.proofs.InPlace.{in_at}
use Rattle.ic_trace.specs.declared.known.Known.{Known}
use Rattle.ic_trace.specs.Known.{events_in, event_at, rank_at}

-- as many events as entries
pub length-events : (ks : List Known) → length (events_in ks) ≡ length ks
length-events ks = length-map ks (λ (k : Known). k.event)

-- the events of a longer table
pub events-append : (ks more : List Known) → events_in (ks ++ more) ≡ events_in ks ++ events_in more
events-append ks more = map-append (λ (k : Known). k.event) ks more

-- a number tells the same event in a longer table
pub event_at-append : (ks more : List Known) (i : ℕ) → i < length ks → event_at (ks ++ more) i ≡ event_at ks i
event_at-append ks more i h =
    let l = length-events ks in
    let inside : i < length (events_in ks) = omega arith in
    rw (events-append ks more) (get_or_append_left (events_in ks) (events_in more) _ i inside)

-- and the same rank
pub rank_at-append : (ks more : List Known) (i : ℕ) → i < length ks → rank_at (ks ++ more) i ≡ rank_at ks i
rank_at-append ks more i h =
    let l = length-map ks (λ (k : Known). k.rank) in
    let inside : i < length (map (λ (k : Known). k.rank) ks) = omega arith in
    rw (map-append (λ (k : Known). k.rank) ks more) (get_or_append_left (map (λ (k : Known). k.rank) ks) (map (λ (k : Known). k.rank) more) 0 i inside)

-- the number of the last entry
pub event_at-last : (ks : List Known) (k : Known) → event_at (ks ++ k ∷ []) (length ks) ≡ k.event
event_at-last ks k = rw (events-append ks (k ∷ [])) (get_or_push (events_in ks) k.event _ (length ks) (length-events ks))

-- the event of a number is one of them
pub event_in : (ks : List Known) (i : ℕ) → i < length ks → IsIn (event_at ks i) (events_in ks)
event_in ks i h = let l = length-events ks in in_at (events_in ks) i _ (omega arith)

-- what is read at a number
pub read_event : (ks : List Known) (i : ℕ) (k : Known) → i < length ks → k ≡ get_or ks i k → event_at ks i ≡ k.event
read_event ks i k h e = get_or-map (λ (x : Known). x.event) ks i k _ h ∙ ap (λ (x : Known). x.event) (sym e)

pub read_rank : (ks : List Known) (i : ℕ) (k : Known) → i < length ks → k ≡ get_or ks i k → rank_at ks i ≡ k.rank
read_rank ks i k h e = get_or-map (λ (x : Known). x.rank) ks i k 0 h ∙ ap (λ (x : Known). x.rank) (sym e)

-- each entry has a number
pub record Numbered (ks : List Known) (k : Known) : Type 0 where
  pub number : ℕ
  pub inside : number < length ks
  pub event : event_at ks number ≡ k.event
  pub rank : rank_at ks number ≡ k.rank

pub entry_number : {ks rest : List Known} {k : Known} → Pick k ks rest → Numbered ks k
entry_number here = record { number = 0; inside = omega arith; event = refl; rank = refl }
entry_number (there p) = let r = entry_number p in record { number = suc r.number; inside = let h = r.inside in omega arith; event = r.event; rank = r.rank }
