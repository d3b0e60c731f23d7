-- A part of a sound set that has its events' causes is sound, and causes are the same in every sound set.
use Rattle.std.proofs.Common.{◌≡◌, ◌+◌, ◌≤◌, List, ◌∷◌, ◌⊎◌, inl, inr, refl, sym, arith, ◌∙◌}
use Rattle.ic_name.specs.Names.{Name}
use Rattle.ic_name.specs.declared.kinds.Kind.{Kind}
use Rattle.ic_name.specs.Events.{Event}
use Rattle.ic_name.specs.declared.ports.Port.TheVariants.{Of}
use Rattle.ic_path.specs.Trails.{Trail}
use Rattle.ic_path.specs.Links.{degree}
use Rattle.ic_path.proofs.Ends.{degree-trail, starts, arrives}
use Rattle.ic_path.proofs.Orders.{trail-alike}
use Rattle.ic_theory.specs.Born.{Link, born_agents, born_links}
use Rattle.ic_theory.specs.Future.{Includes}
use Rattle.ic_theory.specs.Starts.{Start, start_agents, start_links, net_shape, IsProper}
use Rattle.ic_theory.specs.Sets.{agents, links, consumed_times}
use Rattle.ic_path.specs.Orders.{IsIn}
use Rattle.ic_theory.specs.Active.{ArePresent}
use Rattle.ic_theory.specs.Wires.{Path}
use Rattle.ic_theory.specs.Causes.{IsCause}
use Rattle.ic_theory.specs.Sound.{IsSound}
use Rattle.ic_theory.proofs.Counts.{names_once, port_degree}
use Rattle.ic_theory.proofs.Future.{made_alike, in_included, trail_included, in_alike, consumed_in, same_links, unequal, kind_once}
use Rattle.ic_theory.proofs.Sound.{narrow_all, agent_in, consumed-append}
use Rattle.ic_theory.proofs.Ranks.{consumed-alike, cause_included}
use Rattle.ic_path.proofs.Alikes.{alike_back}
use Rattle.ic_path.proofs.Picks.{pick_behind}

module _ (s : Start) (ok : IsProper s) where
  -- causes are the same in a sound set and in one that includes it
  pub cause_stays : {all es : List Event} {e c : Event} → ((n : Name) → consumed_times n all ≤ 1) → Includes all es → IsSound s es → IsIn e es → IsCause s all e c → IsCause s es e c
  cause_stays {all} {es} {e} {c} apart i h j k =
      let p = h.joined e j in
      let t = trail_included s i p.trail in
      let o = (h.present e j).ordered in
      let same : k.path.first ∷ k.path.others ≡ p.first ∷ p.others = same_links s ok all apart e.lead e.other (λ x. unequal o (sym x)) k.path.trail t.1 in
      record { path = p; link = k.link; on_path = rw same at k.on_path; made = k.made }

  module _ (all es : List Event) (h : IsSound s all) (i : Includes all es) (closed : (e c : Event) → IsIn e es → IsCause s all e c → IsIn c es) where
    -- the consumptions of the whole are those of its two parts
    sum : (n : Name) → consumed_times n all ≡ consumed_times n i.others + consumed_times n es
    sum n = sym (consumed-alike n i.alike) ∙ consumed-append n i.others es

    -- an event of the part is one of the whole
    up : {e : Event} → IsIn e es → IsIn e all
    up j = in_alike (_, pick_behind i.others j.1) i.alike

    -- no event is in both parts
    disjoint : (c : Event) → IsIn c i.others → IsIn c es → ⊥
    disjoint c j k = let a = h.apart c.lead in let d = sum c.lead in let x = consumed_in j.1 in let y = consumed_in k.1 in omega arith

    -- the path of an event of the part runs in the part
    short : (e : Event) → IsIn e es → (p : Path (links s all) (Of e.lead 0) (Of e.other 0)) → (left : List Link) × Trail net_shape (links s es) (Of e.lead 0) (p.first ∷ p.others) (Of e.other 0) left
    short e j p =
        let t = trail-alike net_shape p.trail (alike_back (made_alike (born_links s.profile) (start_links s) i.alike)) in
        narrow_all s i.others es t.1 (λ l m c x. closed e c j (record { path = p; link = l; on_path = m; made = x })) disjoint

    -- an agent at whose principal port the part has a link is the part's
    is_there : (n : Name) (k : Kind) → IsIn (n, k) (agents s all) → 1 ≤ degree net_shape (links s es) (Of n 0) → IsIn (n, k) (agents s es)
    is_there n k j d =
        let p = port_degree s ok es n 0 in
        let w = agent_in n (agents s es) (omega arith) in
        let x : IsIn w.0 (agents s all) = in_included born_agents (start_agents s) i w.1 in
        let same : k ≡ w.0.1 = kind_once n refl w.2 (names_once s all h.apart n) j.1 x.1 in
        let both : ◌≡◌ {A = Name × Kind} (n, k) w.0 = λ t. (w.2 t, same t) in
        rw both w.1

    -- the agents of the part's events are there
    present : (e : Event) → IsIn e es → ArePresent s es e
    present e j =
        let a = h.present e (up j) in
        let p = h.joined e (up j) in
        let t = short e j p in
        let x = starts net_shape p.first t.1 in
        let y = arrives net_shape t.1 in
        let d = degree-trail net_shape t.1 (Of e.lead 0) in
        let d' = degree-trail net_shape t.1 (Of e.other 0) in
        record { lead = is_there e.lead e.lead_kind a.lead (omega arith); other = is_there e.other e.other_kind a.other (omega arith); ordered = a.ordered }

    -- a cause in the whole is a cause in the part
    down : (e c : Event) → IsIn e es → IsCause s all e c → IsCause s es e c
    down e c j k = let t = short e j k.path in record { path = record { first = k.path.first; others = k.path.others; left_over = t.0; trail = t.1 }; link = k.link; on_path = k.on_path; made = k.made }

    -- a part of a sound set that has the causes of its events is sound
    pub closed_sound : IsSound s es
    closed_sound = record {
      apart = λ n. let a = h.apart n in let d = sum n in omega arith;
      present = present;
      joined = λ e j. let p = h.joined e (up j) in let t = short e j p in record { first = p.first; others = p.others; left_over = t.0; trail = t.1 };
      rank = h.rank;
      ranked = record { above = λ e c j k. h.ranked.above e c (up j) (cause_included s i k); least = λ e j. go e j (h.ranked.least e (up j)) };
    }
      where
        go : (e : Event) → IsIn e es → (h.rank e ≡ 0) ⊎ ((c : Event) × IsCause s all e c × (h.rank e ≡ h.rank c + 1)) → (h.rank e ≡ 0) ⊎ ((c : Event) × IsCause s es e c × (h.rank e ≡ h.rank c + 1))
        go e j (inl z) = inl z
        go e j (inr r) = inr (r.0, down e r.0 j r.1, r.2)
