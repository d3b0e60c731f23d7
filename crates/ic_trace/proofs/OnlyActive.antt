-- The one event of a name that may be active.
use Rattle.std.proofs.Common.{◌≡◌, ◌≢◌, ◌↔◌, refl, sym, ap, ◌∙◌, Option, Some, None}
use Rattle.std.specs.Prelude.{IsSome, IfSome}
use Rattle.std.specs.declared.cmp.Ordering.TheVariants.{Less}
use Rattle.ic_name.specs.Names.{Name, name_cmp}
use Rattle.ic_name.proofs.NameOrder.{name_less_apart}
use Rattle.ic_name.specs.declared.kinds.Kind.{Kind}
use Rattle.ic_name.specs.Events.{Event, Pair, pair, event_of}
use Rattle.ic_trace.specs.Pasts.{PastView}
use Rattle.ic_theory.specs.Starts.{IsProper}
use Rattle.ic_theory.specs.Active.{IsActive}
use Rattle.ic_theory.specs.Nets.{kind_of}
use Rattle.ic_theory.specs.Sound.{IsSound}
use Rattle.ic_trace.specs.Readings.{IsOnlyActive}
use Rattle.ic_trace.proofs.KnownEvents.{active_kinds}

module _ (p : PastView) (ok : IsProper p.start) (h : IsSound p.start p.events) (n : Pair) where
  -- no event is active whose lead isn't there
  pub no_lead : kind_of p.start p.events n.lead ≡ None → (e : Event) → pair e ≡ n → IsActive p.start p.events e → ⊥
  no_lead z e q a =
      let k = (active_kinds p.start ok h a).0 in
      let l : kind_of p.start p.events e.lead ≡ kind_of p.start p.events n.lead = ap (λ (x : Pair). kind_of p.start p.events x.lead) q in
      cc

  -- or whose other agent isn't
  pub no_other : kind_of p.start p.events n.other ≡ None → (e : Event) → pair e ≡ n → IsActive p.start p.events e → ⊥
  no_other z e q a =
      let k = (active_kinds p.start ok h a).1 in
      let l : kind_of p.start p.events e.other ≡ kind_of p.start p.events n.other = ap (λ (x : Pair). kind_of p.start p.events x.other) q in
      cc

  module _ (k m : Kind) (lead : kind_of p.start p.events n.lead ≡ Some k) (other : kind_of p.start p.events n.other ≡ Some m) (o : name_cmp n.lead n.other ≡ Less) where
    -- with both the event has their kinds
    the_event : event_of n.lead k n.other m ≡ record { lead = n.lead; lead_kind = k; other = n.other; other_kind = m }
    the_event = rw o refl

    one : (f : Event) → pair f ≡ n → IsActive p.start p.events f → f ≡ record { lead = n.lead; lead_kind = k; other = n.other; other_kind = m }
    one f q a =
        let ks = active_kinds p.start ok h a in
        let l : kind_of p.start p.events f.lead ≡ kind_of p.start p.events n.lead = ap (λ (x : Pair). kind_of p.start p.events x.lead) q in
        let r : kind_of p.start p.events f.other ≡ kind_of p.start p.events n.other = ap (λ (x : Pair). kind_of p.start p.events x.other) q in
        let e : f.lead_kind ≡ k = cc in
        let g : f.other_kind ≡ m = cc in
        λ i. record { lead = (q i).lead; lead_kind = e i; other = (q i).other; other_kind = g i }

    pub only_active : (a b : Name) → a ≡ n.lead → b ≡ n.other → (r : Option Event) → (IsSome r ↔ (a ≢ b)) → IfSome r (λ e. e ≡ event_of a k b m) → IsOnlyActive p n r
    only_active a b d f None w x = let i = w.1 (λ e. name_less_apart n.lead n.other o (sym d ∙ (e ∙ f))) in absurd cc
    only_active a b d f (Some e) w x =
        let is : e ≡ record { lead = n.lead; lead_kind = k; other = n.other; other_kind = m } = x ∙ (λ i. event_of (d i) k (f i) m) ∙ the_event in
        (ap pair is, λ g q c. one g q c ∙ sym is)
