-- Agents that lead no event of a sound set, and whose principal ports a trail joins, aren't consumed.
use Rattle.std.proofs.Common.{◌≡◌, ◌≢◌, ℕ, zero, suc, List, inl, inr, refl, sym, ap, arith, ◌∙◌}
use Rattle.ic_name.specs.Names.{Name}
use Rattle.ic_name.specs.Events.{Event}
use Rattle.ic_name.specs.declared.ports.Port.TheVariants.{Of}
use Rattle.ic_path.specs.FarEnds.{far}
use Rattle.ic_path.specs.Orders.{IsIn}
use Rattle.ic_path.proofs.Ends.{reversed}
use Rattle.ic_theory.specs.Starts.{Start, IsProper, net_shape}
use Rattle.ic_theory.specs.Sets.{links, consumed_times}
use Rattle.ic_theory.specs.Sound.{IsSound}
use Rattle.ic_theory.specs.Wires.{Path}
use Rattle.ic_theory.proofs.Future.{other_far, far_by, port_agent, consumed_in, consumer}

-- no event of the set has this lead
abbrev pub IsUnled : List Event → Name → Type 0
IsUnled es m = (e : Event) → IsIn e es → e.lead ≢ m

module _ (s : Start) (es : List Event) (ok : IsProper s) (sound : IsSound s es) where
  -- an agent that leads no event, nor does the one that its trail leads to
  pub unled_end : (m n : Name) → far net_shape (links s es) (Of m 0) ≡ Of n 0 → IsUnled es m → IsUnled es n → consumed_times m es ≡ 0
  unled_end m n joined free there = by (consumed_times m es) refl
    where
      leads_back : (e : Event) → IsIn e es → m ≡ e.other → e.lead ≡ n
      leads_back e i q = port_agent (sym (other_far s ok es sound.apart e (record { present = sound.present e i; path = sound.joined e i })) ∙ ap (λ x. far net_shape (links s es) (Of x 0)) (sym q) ∙ joined)

      by : (k : ℕ) → consumed_times m es ≡ k → consumed_times m es ≡ 0
      by zero z = z
      by (suc k) z =
          let c = consumer m es (omega (arith, z)) in
          absurd (elim c.consumes [ inl q ↦ free c.event c.among (sym q) | inr q ↦ there c.event c.among (leads_back c.event c.among q) ])

  -- neither is consumed
  pub unled_pair : (m n : Name) → m ≢ n → Path (links s es) (Of m 0) (Of n 0) → IsUnled es m → IsUnled es n → (consumed_times m es ≡ 0) × (consumed_times n es ≡ 0)
  unled_pair m n other p free there =
      let back = reversed net_shape p.trail in (
        unled_end m n (far_by s ok es sound.apart m n (λ q. other (sym q)) p.trail) free there,
        unled_end n m (far_by s ok es sound.apart n m other back.1) there free,
      )

-- an agent that isn't consumed leads no event
pub unconsumed_unled : (m : Name) (es : List Event) → consumed_times m es ≡ 0 → IsUnled es m
unconsumed_unled m es z e i q = let one = consumed_in i.1 in let same = ap (λ x. consumed_times x es) q in absurd (omega (arith, z, one, same))
