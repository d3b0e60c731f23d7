-- The events that a mark keeps.
use Rattle.std.proofs.Common.{◌≡◌, ◌≢◌, ℕ, ◌+◌, ◌<◌, ◌≤◌, List, [], ◌∷◌, ◌++◌, Option, Some, map, length, get_or, suc, take, drop, slice_get, cond, refl, sym, ap, subst, arith, length-append, length-drop, ◌∙◌}
use Rattle.std.specs.Prelude.{All}
use Rattle.std.specs.Ordering.{is_gt}
use Rattle.std.specs.declared.cmp.Ordering.TheVariants.{Less}
use Rattle.std.proofs.lemmas.List.{take-append-le, drop-append-le, take_all, get_or_append_left, map-append, length-map}
use Rattle.std.proofs.lemmas.List.Elements.{All-push}
use Rattle.std.proofs.lemmas.Option.{slice_get-map, slice_get_within, get_or_from_slice_get}
use Rattle.std.proofs.Math.Seq.{drop-append_seam}
use Rattle.ic_name.specs.Names.{Name, IsName, name_cmp, start_name}
use Rattle.ic_name.specs.Events.{Event, event_of}
use Rattle.ic_name.specs.declared.kinds.Kind.{Kind}
use Rattle.ic_name.proofs.NameOrder.{name_less_apart}
use Rattle.ic_names.specs.Tables.{name_at, StandsAt, GrowsUpTo}
use Rattle.ic_names.specs.declared.table.NameId.{NameId}
use Rattle.ic_slots.specs.Slots.{Gives, Keeps}
use Rattle.ic_undo.specs.Marks.{ArePlaces, marked_event, IsMarked, AreMarked}
use Rattle.ic_undo.specs.declared.marked_events.MarkedEvent.{MarkedEvent}
use Rattle.ic_undo.proofs.LedPlaces.{places_none, places_kept, places_more}

-- two names, the lesser first, make an event with the lesser as its lead
made : (a : Name) (ka : Kind) (b : Name) (kb : Kind) → name_cmp a b ≡ Less → event_of a ka b kb ≡ record { lead = a; lead_kind = ka; other = b; other_kind = kb }
made a ka b kb less = ap (λ o. cond (is_gt o) (record { lead = b; lead_kind = kb; other = a; other_kind = ka }) (record { lead = a; lead_kind = ka; other = b; other_kind = kb })) less

module _ (leads : List Name) (digits : List ℕ) (es : List MarkedEvent) (at : List (Option ℕ)) (h : AreMarked leads digits es at) (p : ℕ) (e : MarkedEvent) (there : slice_get es p ≡ Some e) where
  -- the event at a place is one
  pub marked_at : IsMarked leads digits e
  marked_at = subst (λ x. IsMarked leads digits x) (get_or_from_slice_get es p e e there) (h.each p e (slice_get_within es p e there))

  module _ (a b : Name) (lead : a ≡ name_at leads e.lead.place) (start : b.start ≡ e.other_start) (same : b.digits ≡ take e.other_depth (drop e.first digits)) where
    other : b ≡ (marked_event leads digits e).other
    other = λ u. record { start = start u; digits = same u }

    less : name_cmp a b ≡ Less
    less = rw (lead, other) marked_at.ordered

    -- the names that are read for it differ
    pub read_apart : a ≢ b
    read_apart = name_less_apart a b less

    -- and make the event that is seen there
    pub read_seen : (f : Event) → f ≡ event_of a e.lead_kind b e.other_kind → slice_get (map (marked_event leads digits) es) p ≡ Some f
    read_seen f is =
        let seen : slice_get (map (marked_event leads digits) es) p ≡ Some (marked_event leads digits e) = rw (slice_get-map (marked_event leads digits) es p, there) refl in
        let event : f ≡ marked_event leads digits e = is ∙ made a e.lead_kind b e.other_kind less ∙ ap (λ (n : Name). record { lead = n; lead_kind = e.lead_kind; other = b; other_kind = e.other_kind }) lead ∙ ap (λ (n : Name). record { lead = name_at leads e.lead.place; lead_kind = e.lead_kind; other = n; other_kind = e.other_kind }) other in
        seen ∙ ap (λ (x : Event). Some x) (sym event)

-- with more names behind those of the table and more digits behind those of the vector, an event stays what it is
module _ (old more : List Name) (digits behind : List ℕ) where
  still_seen : (e : MarkedEvent) → IsMarked old digits e → marked_event (old ++ more) (digits ++ behind) e ≡ marked_event old digits e
  still_seen e h =
      let low = h.lead in
      let room = h.behind in
      let lead : name_at (old ++ more) e.lead.place ≡ name_at old e.lead.place = get_or_append_left old more (start_name 0) e.lead.place low in
      let dropped : drop e.first (digits ++ behind) ≡ drop e.first digits ++ behind = drop-append-le e.first digits behind (omega (arith, room)) in
      let taken : take e.other_depth (drop e.first digits ++ behind) ≡ take e.other_depth (drop e.first digits) = take-append-le e.other_depth (drop e.first digits) behind (omega (arith, room, length-drop e.first digits)) in
      rw (lead, dropped, taken) refl

  still_marked : (e : MarkedEvent) → IsMarked old digits e → IsMarked (old ++ more) (digits ++ behind) e
  still_marked e h =
      let low = h.lead in
      let room = h.behind in
      let same = sym (still_seen e h) in
      record {
        lead = omega (arith, low, length-append old more);
        behind = omega (arith, room, length-append digits behind);
        other = subst (λ (f : Event). IsName f.other) same h.other;
        ordered = subst (λ (f : Event). name_cmp f.lead f.other ≡ Less) same h.ordered;
      }

  all_seen : (es : List MarkedEvent) → All (IsMarked old digits) es → map (marked_event (old ++ more) (digits ++ behind)) es ≡ map (marked_event old digits) es
  all_seen [] h = refl
  all_seen (e ∷ es) h = (λ u. still_seen e (h 0 e (omega arith)) u ∷ all_seen es (λ k d low. h (suc k) d (omega (arith, low))) u)

  all_marked : (es : List MarkedEvent) → All (IsMarked old digits) es → All (IsMarked (old ++ more) (digits ++ behind)) es
  all_marked es h = λ k d low. still_marked (get_or es k d) (h k d low)

-- nothing is kept
pub marked_none : (leads : List Name) (digits : List ℕ) → AreMarked leads digits [] []
marked_none leads digits = record { each = λ k d low. absurd (omega (arith, low)); places = places_none leads }

-- one event more, whose lead is entered into the table and whose other agent's digits come behind the others
module _ (es : List MarkedEvent) (f : Event) (old new : List Name) (id : NameId) (digits : List ℕ) (at room more : List (Option ℕ)) (h : AreMarked old digits es at) (grown : GrowsUpTo old f.lead new) (stands : StandsAt new f.lead id.place) (kept : Keeps at room)
    (put : Gives id.place (Some (length es)) room more) (name : IsName f.other) (less : name_cmp f.lead f.other ≡ Less) where
  abbrev pub next : MarkedEvent
  next = record { first = length digits; lead = id; other_start = f.other.start; other_depth = length f.other.digits; lead_kind = f.lead_kind; other_kind = f.other_kind }

  next_seen : marked_event new (digits ++ f.other.digits) next ≡ f
  next_seen =
      let dropped : drop (length digits) (digits ++ f.other.digits) ≡ f.other.digits = drop-append_seam digits f.other.digits in
      let taken : take (length f.other.digits) f.other.digits ≡ f.other.digits = take_all (length f.other.digits) f.other.digits (omega arith) in
      rw (stands.named, dropped, taken) refl

  next_marked : IsMarked new (digits ++ f.other.digits) next
  next_marked = record {
    lead = stands.within;
    behind = omega (arith, length-append digits f.other.digits);
    other = subst (λ (g : Event). IsName g.other) (sym next_seen) name;
    ordered = subst (λ (g : Event). name_cmp g.lead g.other ≡ Less) (sym next_seen) less;
  }

  -- the events are seen as before, and it behind them
  pub more_seen : map (marked_event new (digits ++ f.other.digits)) (es ++ next ∷ []) ≡ map (marked_event old digits) es ++ f ∷ []
  more_seen =
      map-append (marked_event new (digits ++ f.other.digits)) es (next ∷ [])
      ∙ ap (λ xs. map (marked_event new (digits ++ f.other.digits)) es ++ xs ∷ []) next_seen
      ∙ ap (λ xs. xs ++ f ∷ []) (subst (λ ns. map (marked_event ns (digits ++ f.other.digits)) es ≡ map (marked_event old digits) es) (sym grown.behind) (all_seen old grown.more digits f.other.digits es h.each))

  -- and all of them are kept
  pub more_marked : AreMarked new (digits ++ f.other.digits) (es ++ next ∷ []) more
  more_marked = record {
    each = All-push (IsMarked new (digits ++ f.other.digits)) es next (subst (λ ns. All (IsMarked ns (digits ++ f.other.digits)) es) (sym grown.behind) (all_marked old grown.more digits f.other.digits es h.each)) next_marked;
    places = subst (λ fs. ArePlaces fs new more) (sym more_seen)
        (places_more (map (marked_event old digits) es) f old new f.lead id.place room more refl (places_kept (map (marked_event old digits) es) old at room h.places kept) grown stands
        (subst (λ k. Gives id.place (Some k) room more) (sym (length-map es (marked_event old digits))) put));
  }
