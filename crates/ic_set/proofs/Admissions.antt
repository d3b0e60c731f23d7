-- The steps of an admission, by what its calls say.
use Rattle.std.proofs.Common.{◌≡◌, ◌≢◌, ℕ, ◌+◌, ◌<◌, ◌≤◌, List, Option, length, All, refl, sym, ap, arith, ◌∙◌, subst}
use Rattle.std.proofs.lemmas.List.{length-map}
use Rattle.ic_name.specs.Names.{Name}
use Rattle.ic_name.specs.Events.{Event}
use Rattle.ic_name.specs.declared.kinds.Kind.{Kind}
use Rattle.ic_name.specs.declared.ids.AgentId.{AgentId}
use Rattle.ic_name.specs.declared.ids.EventId.{EventId}
use Rattle.ic_name.specs.declared.ids.Link.{Link}
use Rattle.ic_name.specs.declared.rules.Profile.{Profile}
use Rattle.ic_name.specs.declared.rules.RuleEnd.{RuleEnd}
use Rattle.ic_name.specs.declared.limits.TheConstants.{MAX_LINES}
use Rattle.ic_path.specs.Orders.{IsIn, Alike}
use Rattle.ic_path.proofs.Alikes.{alike_self, alike_back, alike-map}
use Rattle.ic_link.specs.Links.{IsLawful}
use Rattle.ic_link.specs.declared.principals.Principals.{Principals}
use Rattle.ic_theory.specs.Born.{born_agents}
use Rattle.ic_theory.specs.Machine.{IsDeep}
use Rattle.ic_theory.specs.Rules.{born_ends}
use Rattle.ic_path.proofs.InLists.{in-map, map_cases, all_of_each}
use Rattle.ic_roster.specs.Rosters.{Member, Stander, HaveOwnNames, HaveOwnLines}
use Rattle.ic_set.specs.declared.pairs.ActivePair.{ActivePair}
use Rattle.ic_set.specs.Views.{SetView, standing, AreChildren}
use Rattle.ic_set.specs.Sets.{IsStandingSet, IsKept}
use Rattle.ic_set.specs.Pairs.{IsPairOf, AreActiveJoins, Awakes}
use Rattle.ic_set.specs.Changes.{Admits, IsSame}
use Rattle.ic_set.specs.Entering.{CanEnter, Enters}
use Rattle.ic_link.specs.Made.{AreJoins}
use Rattle.ic_set.specs.Joining.{made_links}
use Rattle.ic_set.specs.Admission.{AreCausesOf, IsRankOver, CanPutIn, PutsIn}
use Rattle.ic_set.proofs.Namings.{own_lines_alike}
use Rattle.ic_set.proofs.KeptOrders.{kept_alike}
use Rattle.ic_set.proofs.RankBounds.{rank_below_length}
use Rattle.ic_set.proofs.NewEvents.{sound_more, new_event, no_links, causes_kept, causes_once}
use Rattle.ic_set.proofs.Children.{length-born, new_children}
use Rattle.ic_set.proofs.GrownSets.{Grows}
use Rattle.ic_set.proofs.JoinedPairs.{joins_awake}
use Rattle.ic_set.proofs.RuleDigits.{rule_few, rule_four}
use Rattle.ic_set.proofs.Admitted.{digits, lawful_more, kept_more}

-- a set is the same as it was seen, in whatever order
pub same_again : {v w : SetView} {ms : List Member} {ss : List Stander} → v ≡ w → Alike v.agents ms → Alike v.events ss → IsSame w (record { start = v.start; agents = ms; events = ss })
same_again {v} {w} {ms} {ss} seen agents events = subst (λ u. IsSame u (record { start = v.start; agents = ms; events = ss })) seen (record { start = refl; agents = agents; events = events })

-- a set that was seen is the same
pub same_self : (w : SetView) → IsSame w w
same_self w = record { start = refl; agents = alike_self w.agents; events = alike_self w.events }

-- the ends of the links of an event's rule, by the answers to what its kinds and the profile are
pub ends_same : {ends : List (RuleEnd × RuleEnd)} {t t' : Profile} {a a' b b' : Kind} → ends ≡ born_ends t a b → t ≡ t' → a ≡ a' → b ≡ b' → ends ≡ born_ends t' a' b'
ends_same q r x y = q ∙ (λ u. born_ends (r u) (x u) (y u))

-- the ranks of few events are small
pub ranks_fit : (v : SetView) → IsStandingSet v → length v.events < MAX_LINES → (x : Stander) → IsIn x v.events → x.rank ≤ MAX_LINES
ranks_fit v is few x i =
    let same = is.ranks is.sound.rank is.sound.ranked x i in
    let low = rank_below_length v.start (standing v) is.sound.rank is.sound.ranked x.event (in-map (λ (y : Stander). y.event) i) in
    let long = length-map v.events (λ (y : Stander). y.event) in
    omega arith

module _ (v w : SetView) (seen : v ≡ w) (ls : List Link) (k : IsKept v ls) (e : Event) (p : ActivePair) (active : IsPairOf w e p)
    (line : ℕ) (unused : (x : Stander) → IsIn x w.events → x.id.line ≢ line) where
  -- the pair is active in what was seen
  pair : IsPairOf v e p
  pair = subst (λ (u : SetView). IsPairOf u e p) (sym seen) active

  -- of whose events none has the line
  new_line : (x : Stander) → IsIn x v.events → x.id.line ≢ line
  new_line = subst (λ (u : SetView). (x : Stander) → IsIn x u.events → x.id.line ≢ line) (sym seen) unused

  module _ (entering : List (Name × Kind)) (its : entering ≡ born_agents e) where
    -- the children can be entered
    pub can_enter : CanEnter v.agents entering
    can_enter = rw its (new_children v.start (standing v) e v.agents (sound_more v ls k e pair.active) k.set.agents)

    module _ (born : List AgentId) (ms : List Member) (enters : Enters v.agents entering (line + 1) born ms) (own : HaveOwnNames ms)
        (rank : ℕ) (ids : List EventId) (causes : AreCausesOf w e ids) where
      -- they are then the event's
      are : AreChildren e born enters.entered
      are = record { under = enters.under; named = enters.named ∙ its }

      -- their serial number is one more than the line
      of_line : All (λ a. a.serial ≡ line + 1) born
      of_line = all_of_each _ born (λ a i. (let m = map_cases (λ (n : Member). n.id) enters.entered (subst (λ ds. IsIn a ds) (sym enters.under) i) in
          ap (λ (d : AgentId). d.serial) (sym m.2) ∙ enters.serials m.0 m.1))

      -- the causes are those in what was seen
      its_causes : AreCausesOf v e ids
      its_causes = subst (λ (u : SetView). AreCausesOf u e ids) (sym seen) causes

      -- the event can be put in
      pub can_put_in : IsLawful ls → CanPutIn e line rank p born (born_ends v.start.profile e.lead_kind e.other_kind) ids v.events ls
      can_put_in h = record {
        new = new_event v ls k e pair.active line new_line;
        children = of_line;
        four = subst (λ n. n ≤ 4) (sym (length-born e born enters.entered are)) (rule_four e.lead_kind e.other_kind);
        digits = digits v ls k e p pair line new_line enters.entered born are ms enters.alike own;
        few = rule_few v.start.profile e.lead_kind e.other_kind;
        no_links = λ d l q i. no_links v ls k e pair.active line new_line d q l i;
        lawful = λ d q lines. lawful_more v ls k e p pair line new_line enters.entered born are ms enters.alike own d q rank ids lines h;
        causes = causes_kept v ls k e pair.active ids its_causes;
        once = causes_once v ls k e pair.active ids its_causes;
      }

      module _ (over : IsRankOver w.events ids rank) (d : EventId) (in_line : d.line ≡ line) (ss : List Stander) (ls' : List Link) (lines : HaveOwnLines ss)
          (puts : PutsIn (record { id = d; event = e; rank = rank; born = born; causes = ids }) (made_links d p born 0 (born_ends v.start.profile e.lead_kind e.other_kind)) v.events ss ls ls') where
        -- with it, if it is not deep, the set is a standing set
        pub put_keeps : ¬ (IsDeep e) → IsKept (record { start = v.start; agents = ms; events = ss }) ls'
        put_keeps shallow =
            kept_alike v.start (alike_self ms) puts.events puts.links
            (kept_more v ls k e p pair line new_line enters.entered born are ms enters.alike own d in_line rank ids (own_lines_alike (alike_back puts.events) lines) its_causes
            (subst (λ (u : SetView). IsRankOver u.events ids rank) (sym seen) over) shallow)

        -- which admits it
        pub put_admits : Admits w e line d (record { start = v.start; agents = ms; events = ss })
        put_admits = subst (λ (u : SetView). Admits u e line d (record { start = v.start; agents = ms; events = ss })) seen (record {
          entry = record { id = d; event = e; rank = rank; born = born; causes = ids };
          children = enters.entered;
          under = refl;
          in_line = in_line;
          event = refl;
          born = are;
          serials = enters.serials;
          start = refl;
          agents = enters.alike;
          events = puts.events;
        })

        -- the second set has the event more
        grown : Grows v (record { start = v.start; agents = ms; events = ss }) e born
        grown = record {
          start = refl;
          events = alike-map (λ (x : Stander). x.event) (alike_back puts.events);
          children = enters.entered;
          are = are;
          agents = alike_back enters.alike;
        }

        -- and the active pairs between agents that its links joined are those that it made active
        pub put_awakes : ¬ (IsDeep e) → (joins : List (Option Principals)) → AreJoins ls (made_links d p born 0 (born_ends v.start.profile e.lead_kind e.other_kind)) joins
            → (pairs : List (Option ActivePair)) → AreActiveJoins (record { start = v.start; agents = ms; events = ss }) joins pairs → Awakes w (record { start = v.start; agents = ms; events = ss }) pairs
        put_awakes shallow joins its pairs act =
            subst (λ (u : SetView). Awakes u (record { start = v.start; agents = ms; events = ss }) pairs) seen
            (joins_awake v (record { start = v.start; agents = ms; events = ss }) ls ls' k (put_keeps shallow) e born grown p pair d puts.links joins its pairs act)
