-- A sound set without an event that nothing depends on.
use Rattle.std.proofs.Common.{◌≡◌, ℕ, suc, zero, ◌+◌, ◌≤◌, Bool, true, false, List, [], ◌∷◌, ◌⊎◌, inl, inr, refl, arith}
use Rattle.std.specs.Prelude.{if◌then◌else◌, eqb}
use Rattle.ic_name.specs.Names.{Name}
use Rattle.ic_name.specs.Events.{Event}
use Rattle.ic_name.specs.declared.kinds.Kind.{Kind}
use Rattle.ic_name.specs.declared.ports.Port.TheVariants.{Of}
use Rattle.ic_path.specs.Links.{degree}
use Rattle.ic_path.specs.Orders.{Pick, here, Alike, IsIn}
use Rattle.ic_path.proofs.Alikes.{alike_back, alike-in, picked_alike}
use Rattle.ic_path.proofs.Picks.{in_more}
use Rattle.ic_theory.specs.Born.{born_agents}
use Rattle.ic_theory.specs.Future.{Includes}
use Rattle.ic_theory.specs.Starts.{Start, IsProper, net_shape}
use Rattle.ic_theory.specs.Sets.{agents, links, named_times, consumed_times}
use Rattle.ic_theory.specs.Causes.{IsCause, IsRank}
use Rattle.ic_theory.specs.Sound.{IsSound}
use Rattle.ic_theory.proofs.AnyOrder.{named-alike}
use Rattle.ic_theory.proofs.Closed.{cause_stays}
use Rattle.ic_theory.proofs.Counts.{names_once, named_times-append, port_degree}
use Rattle.ic_theory.proofs.Future.{named_in, Consumer, consumer}
use Rattle.ic_theory.proofs.Ranks.{sound-alike, same_set, cause_included}
use Rattle.ic_theory.proofs.Sound.{agent_in}
use Rattle.ic_theory.proofs.Swaps.{undo_sound}

module _ (s : Start) (ok : IsProper s) (es : List Event) (e : Event) (rest : List Event) (sound : IsSound s es) (a : Alike es (e ∷ rest)) (free : (f : Event) → IsIn f es → IsCause s es f e → ⊥) where
  -- the other events are a part
  part : Includes es rest
  part = record { others = e ∷ []; alike = alike_back a }

  -- they are in the set
  up : {f : Event} → IsIn f rest → IsIn f es
  up i = alike-in (alike_back a) (in_more e i)

  -- they are a sound set
  pub sound_left : IsSound s rest
  sound_left = undo_sound s ok (sound-alike s a sound) here (λ f i k. free f (alike-in (alike_back a) i) (cause_included s (same_set (alike_back a)) k))

  -- their causes are causes in the whole set
  pub cause_up : {f c : Event} → IsCause s rest f c → IsCause s es f c
  cause_up k = cause_included s part k

  -- and the other way round
  pub cause_down : {f c : Event} → IsIn f rest → IsCause s es f c → IsCause s rest f c
  cause_down i k = cause_stays s ok sound.apart part sound_left i k

  -- ranks of the whole set are ranks of the others
  pub rank_left : (rank : Event → ℕ) → IsRank s es rank → IsRank s rest rank
  rank_left rank h = record { above = λ f c i k. h.above f c (up i) (cause_up k); least = λ f i. go f i (h.least f (up i)) }
    where
      go : (f : Event) → IsIn f rest → (rank f ≡ 0) ⊎ ((c : Event) × IsCause s es f c × (rank f ≡ rank c + 1)) → (rank f ≡ 0) ⊎ ((c : Event) × IsCause s rest f c × (rank f ≡ rank c + 1))
      go f i (inl z) = inl z
      go f i (inr r) = inr (r.0, cause_down i r.1, r.2)

  -- a name is that of one of its children or of one of the other agents, once at most
  named_once : (x : Name) → named_times x (born_agents e) + named_times x (agents s rest) ≤ 1
  named_once x =
      let o = names_once s (e ∷ rest) (sound-alike s a sound).apart x in
      let p = named_times-append x (born_agents e) (agents s rest) in
      omega arith

  -- no child has the name of another one
  pub children_apart : {x y : Name × Kind} {left : List (Name × Kind)} → Pick x (born_agents e) left → IsIn y left → x.0 ≡ y.0 → ⊥
  children_apart {x} {y} {left} k i same =
      let o = named_once x.0 in
      let p = named-alike x.0 (picked_alike k) in
      let first = named_in x.0 {xs = x ∷ []} refl here in
      let second = named_in x.0 same i.1 in
      omega arith

  -- nor that of another agent
  pub children_new : {x y : Name × Kind} → IsIn x (born_agents e) → IsIn y (agents s rest) → x.0 ≡ y.0 → ⊥
  children_new {x} {y} i j same =
      let o = named_once x.0 in
      let first = named_in x.0 refl i.1 in
      let second = named_in x.0 same j.1 in
      omega arith

-- an agent is there at one of whose ports a link ends
pub agent_at : (s : Start) → IsProper s → (es : List Event) → IsSound s es → (x : Name) (i : ℕ) → 1 ≤ degree net_shape (links s es) (Of x i) → (y : Name × Kind) × IsIn y (agents s es) × (x ≡ y.0)
agent_at s ok es sound x i d = by (named_times x (agents s es)) refl
  where
    consumed : (b : Bool) (n : ℕ) → n ≡ 0 → degree net_shape (links s es) (Of x i) ≤ n + (if b then 0 else consumed_times x es) → 1 ≤ consumed_times x es
    consumed true n z h = absurd (omega arith)
    consumed false n z h = omega arith

    from : (c : Consumer x es) → (x ≡ c.event.lead) ⊎ (x ≡ c.event.other) → (y : Name × Kind) × IsIn y (agents s es) × (x ≡ y.0)
    from c (inl e) = ((c.event.lead, c.event.lead_kind), (sound.present c.event c.among).lead, e)
    from c (inr e) = ((c.event.other, c.event.other_kind), (sound.present c.event c.among).other, e)

    by : (n : ℕ) → named_times x (agents s es) ≡ n → (y : Name × Kind) × IsIn y (agents s es) × (x ≡ y.0)
    by (suc n) e = agent_in x (agents s es) (omega arith)
    by zero e = let c = consumer x es (consumed (eqb i 0) (named_times x (agents s es)) e (port_degree s ok es x i)) in from c c.consumes
