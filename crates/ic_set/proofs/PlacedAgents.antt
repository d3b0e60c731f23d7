-- An agent that comes to a net by the place of its name.
use Rattle.std.proofs.Common.{◌≡◌, inr, sym, subst, List, [], ◌∷◌, ◌++◌, map}
use Rattle.ic_name.specs.Names.{Name}
use Rattle.ic_name.specs.declared.ids.AgentId.{AgentId}
use Rattle.ic_names.specs.Tables.{name_at}
use Rattle.ic_net.specs.Makings.{IsLastName}
use Rattle.ic_net.specs.Placed.{port_at, listed_at, placed_list, IsAgentInside}
use Rattle.ic_net.specs.declared.sheet.placed.PlacedAgent.{PlacedAgent}
use Rattle.ic_theory.specs.Listed.{NetAgent as Listed}
use Rattle.ic_set.specs.Reading.{IsLiving, ArePartners, IsPut}
use Rattle.ic_set.specs.Views.{SetView}

-- it isn't consumed, and comes with its partners
pub placed_comes : (v : SetView) (id : AgentId) (a : PlacedAgent) (old new : List Listed) (ns ms : List Name) → ms ≡ ns
    → IsLiving v id (name_at ns a.name.place) a.kind → ArePartners v (name_at ns a.name.place) (map (port_at ns) (placed_list a.partners))
    → new ≡ old ++ listed_at ms a ∷ [] → IsPut v id old new
placed_comes v id a old new ns ms same living partners e =
    inr (listed_at ns a, living, partners, subst (λ ks. new ≡ old ++ listed_at ks a ∷ []) same e)

-- as the last one, by the names of the table
pub placed_last : (a : PlacedAgent) (old : List Listed) (ns ms : List Name) → ms ≡ ns → IsLastName (name_at ns a.name.place) old → IsLastName (name_at ms a.name.place) old
placed_last a old ns ms same last = subst (λ ks. IsLastName (name_at ks a.name.place) old) (sym same) last

-- and with places inside the table
pub placed_inside : (a : PlacedAgent) (ns ms : List Name) → ms ≡ ns → IsAgentInside ns a → IsAgentInside ms a
placed_inside a ns ms same inside = subst (λ ks. IsAgentInside ks a) (sym same) inside
