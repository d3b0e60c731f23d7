-- Which pairs stay active once an event is fired, and which ports were bare before.
use Rattle.std.proofs.Common.{◌≡◌, ℕ, List, ◌∷◌, ◌⊎◌, inl, inr, arith}
use Rattle.ic_name.specs.Names.{Name}
use Rattle.ic_name.specs.Events.{Event}
use Rattle.ic_name.specs.declared.ports.Port.TheVariants.{Of}
use Rattle.ic_path.specs.Links.{degree}
use Rattle.ic_path.specs.Orders.{IsIn, Alike}
use Rattle.ic_path.proofs.Picks.{in_first, in-cons_cases}
use Rattle.ic_path.proofs.Alikes.{alike-in, alike_back, alike_then, alike-cons}
use Rattle.ic_theory.specs.Active.{IsActive}
use Rattle.ic_theory.specs.Firings.{IsFired, fired}
use Rattle.ic_theory.specs.Sets.{agents, links, named_times}
use Rattle.ic_theory.specs.Sound.{IsSound}
use Rattle.ic_theory.specs.Starts.{Start, IsProper, net_shape}
use Rattle.ic_theory.proofs.Counts.{ports_bound}
use Rattle.ic_theory.proofs.Exact.{exact_degree}
use Rattle.ic_theory.proofs.Future.{there_or_active, includes_more, includes_self, consumed_in, loose_agent}
use Rattle.ic_theory.proofs.Loose.{joints_bound}
use Rattle.ic_theory.proofs.Normal.{active-alike}
use Rattle.ic_theory.proofs.NameKinds.{consumed_there}
use Rattle.ic_theory.proofs.Ranks.{sound_order}
use Rattle.ic_path.proofs.InLists.{in_behind}

module _ (s : Start) (ok : IsProper s) (e : Event) (es : List Event) (f : IsFired s es) (a : IsActive s es e) where
  -- an active pair stays active where another one is fired
  fired_stays : (g : Event) → IsActive s es g → (g ≡ e → ⊥) → IsActive s (e ∷ es) g
  fired_stays g h other = elim (there_or_active s ok g (fired f a) (includes_more e (includes_self es)) h) [
    | inl i ↦ absurd (nowhere (in-cons_cases (alike-in i.alike (in_behind i.others (in_first g es)))))
    | inr k ↦ k
  ]
    where
      nowhere : (g ≡ e) ⊎ IsIn g es → ⊥
      nowhere (inl q) = other q
      nowhere (inr j) = let some = consumed_in j.1 in let none = loose_agent s es g.lead h.wire.from_loose in omega arith

  -- no link ends at a port of an agent that isn't there
  pub no_ends : (n : Name) (i : ℕ) → named_times n (agents s es) ≡ 0 → degree net_shape (links s es) (Of n i) ≡ 0
  no_ends n i z = let d = exact_degree s ok es n i in let p = ports_bound n i (agents s es) in let j = joints_bound n i es in let c = consumed_there s es f n in omega arith

module _ (s : Start) (ok : IsProper s) (e : Event) (all es : List Event) (sound : IsSound s es) (a : IsActive s es e) (more : Alike all (e ∷ es)) where
  -- the same in any order: what stays active
  pub stays_active : (g : Event) → IsActive s es g → (g ≡ e → ⊥) → IsActive s all g
  stays_active g h other =
      let o = sound_order s ok es sound in
      active-alike s (alike_back (alike_then more (alike-cons e o.1))) (fired_stays s ok e o.0 o.2 (active-alike s o.1 a) g (active-alike s o.1 h) other)
