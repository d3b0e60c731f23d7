-- Names that are entered in a table behind those of before.
use Rattle.std.proofs.Common.{◌≡◌, ℕ, suc, ◌+◌, ◌<◌, ◌≤◌, List, [], ◌∷◌, ◌++◌, length, arith, refl, sym, ap, subst, ◌∙◌}
use Rattle.std.proofs.lemmas.List.{append_assoc, append-nil, length-append}
use Rattle.std.proofs.lemmas.List.Elements.{All-nil, All-cons}
use Rattle.ic_name.specs.Names.{Name}
use Rattle.ic_names.specs.Tables.{name_at, StandsAt}
use Rattle.ic_roster.specs.declared.interaction.Interaction.{Interaction}
use Rattle.ic_roster.specs.Rosters.{event_in, IsNamed}
use Rattle.ic_set.specs.declared.entering.NewAgent.{NewAgent}
use Rattle.ic_set.specs.Entering.{agents_in, AreNamed, GrowsBy}
use Rattle.ic_names.proofs.Growing.{stands_longer}

-- what stood at a place stands there
abbrev pub Keeps : List Name → List Name → Type 0
Keeps old new = (m : Name) (k : ℕ) → StandsAt old m k → StandsAt new m k

-- a name that was there is at its place
pub kept_name : (old new : List Name) → Keeps old new → (k : ℕ) → k < length old → StandsAt new (name_at old k) k
kept_name old new keeps k h = keeps (name_at old k) k (record { within = h; named = refl })

-- agents that were named have their names
pub kept_agents : (old new : List Name) → Keeps old new → (xs : List NewAgent) → AreNamed old xs → (agents_in new xs ≡ agents_in old xs) × AreNamed new xs
kept_agents old new keeps [] all = (refl, All-nil (λ x. x.name.place < length new))
kept_agents old new keeps (x ∷ xs) all =
    let s = kept_name old new keeps x.name.place (all 0 x (omega arith)) in
    let rest = kept_agents old new keeps xs (λ k d h. all (suc k) d (omega (arith, h))) in
    (λ i. (s.named i, x.kind) ∷ rest.0 i, All-cons (λ y. y.name.place < length new) x xs s.within rest.1)

-- and so has an event
pub kept_event : (old new : List Name) → Keeps old new → (i : Interaction) → IsNamed old i → event_in new i ≡ event_in old i
kept_event old new keeps i named =
    let lead = kept_name old new keeps i.lead.place named.lead in
    let other = kept_name old new keeps i.other.place named.other in
    λ u. record { lead = lead.named u; lead_kind = i.lead_kind; other = other.named u; other_kind = i.other_kind }

-- a longer table keeps its names
pub grown_keeps : {most : ℕ} (old new : List Name) → GrowsBy most old new → Keeps old new
grown_keeps old new g m k stands = subst (λ ns. StandsAt ns m k) (sym g.behind) (stands_longer old g.more m k stands)

-- it is longer by so many at most
pub grown_length : {most : ℕ} (old new : List Name) → GrowsBy most old new → length new ≤ length old + most
grown_length old new g = (let few = g.few in omega (arith, few, ap length g.behind, length-append old g.more))

-- the names of before are more by none
pub grows_none : (ns : List Name) → GrowsBy 0 ns ns
grows_none ns = record { more = []; behind = sym (append-nil ns); few = omega arith }

-- names that grew twice are more by both
pub grows_twice : {a b : ℕ} (old mid new : List Name) → GrowsBy a old mid → GrowsBy b mid new → GrowsBy (a + b) old new
grows_twice old mid new g h = record {
  more = g.more ++ h.more;
  behind = h.behind ∙ ap (λ ns. ns ++ h.more) g.behind ∙ append_assoc old g.more h.more;
  few = (let few = g.few in let fewer = h.few in omega (arith, length-append g.more h.more));
}

-- names that are more by so many at most are more by a greater number at most
pub grows_at_most : {a b : ℕ} (old new : List Name) → a ≤ b → GrowsBy a old new → GrowsBy b old new
grows_at_most old new le g = record { more = g.more; behind = g.behind; few = (let few = g.few in omega arith) }
