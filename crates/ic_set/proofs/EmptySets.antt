-- The set over a start in which nothing stands.
use Rattle.std.proofs.Common.{◌≡◌, ℕ, ◌<◌, true, List, [], map, length, None, sym, ap, arith, subst, ◌∙◌}
use Rattle.std.specs.Prelude.{slice_index_or}
use Rattle.std.proofs.lemmas.List.{append-nil, length-map}
use Rattle.ic_name.specs.Names.{Name, start_name}
use Rattle.ic_name.specs.declared.kinds.Kind.{Kind}
use Rattle.ic_name.specs.declared.ids.AgentId.{AgentId}
use Rattle.ic_name.specs.declared.ids.Link.{Link}
use Rattle.ic_name.proofs.SameFacts.{same_name_self}
use Rattle.ic_path.specs.Orders.{Pick, IsIn, Alike}
use Rattle.ic_path.specs.Links.{IsSlim}
use Rattle.ic_path.proofs.Picks.{none_in, pick_before}
use Rattle.ic_path.proofs.Alikes.{alike_self, alike_back, alike_then, alike-in, alike-map, picked_alike}
use Rattle.ic_link.specs.Links.{shape}
use Rattle.ic_link.specs.Made.{no_id}
use Rattle.ic_theory.specs.Starts.{Start, IsProper, start_agents}
use Rattle.ic_theory.specs.Born.{placed}
use Rattle.ic_theory.proofs.AnyOrder.{named-alike}
use Rattle.ic_theory.proofs.Counts.{names_once}
use Rattle.ic_theory.proofs.Future.{named_in}
use Rattle.ic_theory.proofs.Machines.{empty_sound}
use Rattle.ic_start.specs.Starts.{join_of, AreStartLinks}
use Rattle.ic_cause.specs.Naming.{Naming, link_of}
use Rattle.ic_cause.specs.Shown.{Shows}
use Rattle.ic_roster.specs.Rosters.{Member, HaveOwnNames, HaveOwnLines}
use Rattle.ic_set.specs.Views.{agent_of}
use Rattle.ic_set.specs.Ids.{IsNaming}
use Rattle.ic_set.specs.Sets.{IsKept}
use Rattle.ic_set.specs.Entering.{CanEnter, Enters}
use Rattle.ic_set.specs.Joining.{moved_link, HaveNumbers}
use Rattle.ic_set.proofs.Namings.{naming_of, tells_apart}
use Rattle.ic_set.proofs.ByPlace.{nth_entered, length-entered}
use Rattle.ic_set.proofs.SlimSets.{slim_shown}
use Rattle.ic_set.proofs.StartLinks.{have_numbers, moved_held, moved_named}

-- the agents of a start have names of their own
pub can_enter_start : (s : Start) → CanEnter [] (start_agents s)
can_enter_start s = record { new = λ x i m j. absurd (none_in j); apart = λ x y rest k i q. twice x y rest k i q }
  where
    twice : (x y : Name × Kind) (rest : List (Name × Kind)) → Pick x (start_agents s) rest → IsIn y rest → y.0 ≡ x.0 → ⊥
    twice x y rest k i q =
        let sum = rw (same_name_self x.0) at (named-alike x.0 (picked_alike k)) in
        let other = named_in x.0 {x = y} (sym q) i.1 in
        let few = names_once s [] (λ n. omega arith) x.0 in
        omega arith

-- no events have lines of their own
pub none_own : HaveOwnLines []
none_own = record { slots = λ x y rest k i e. none_in (rest, k); lines = λ x y rest k i e. none_in (rest, k); leads = λ x y rest k i e. none_in (rest, k) }

module _ (s : Start) (ok : IsProper s) (ids : List AgentId) (ms : List Member) (ls : List Link)
    (agents : Enters [] (start_agents s) 0 ids ms) (own : HaveOwnNames ms)
    (joins : map join_of ls ≡ s.joins) (links : AreStartLinks (length s.kinds) (length s.names) 0 ls) where
  -- each agent has an id
  length-ids : length ids ≡ length s.kinds
  length-ids = ap length (sym agents.under) ∙ length-map agents.entered (λ x. x.id) ∙ length-entered start_name agents.entered s.kinds agents.named

  -- and so the number of each spot
  pub start_numbers : HaveNumbers ids ls
  start_numbers = have_numbers ids (length s.kinds) (length s.names) 0 ls length-ids links

  -- the id of each place stands for the agent of that number
  nth_agent : (n : Naming) → IsNaming ms [] n → (i : ℕ) → i < length s.kinds → (n.has_agent (slice_index_or ids i no_id) ≡ true) × (n.agent (slice_index_or ids i no_id) ≡ start_name i)
  nth_agent n named i h =
      let long = length-entered start_name agents.entered s.kinds agents.named in
      let m = nth_entered start_name 0 agents.entered s.kinds agents.named i (omega arith) in
      let its = named.agents m.0 (alike-in agents.alike (_, pick_before [] m.1.1)) in
      let id : m.0.id ≡ slice_index_or ids i no_id = subst (λ ds. m.0.id ≡ slice_index_or ds i no_id) agents.under m.2 in
      subst (λ a. (n.has_agent a ≡ true) × (n.agent a ≡ start_name i)) id (its.0, its.1 ∙ m.3 ∙ ap start_name (omega arith))

  -- the links of the start are shown, in any order
  start_shows : (n : Naming) → IsNaming ms [] n → (new : List Link) → Alike (map (moved_link ids) ls) new → Shows n s [] new
  start_shows n named new a = record {
    apart = tells_apart ms [] n own none_own named;
    held = λ l i. moved_held ids (length s.kinds) (length s.names) n (nth_agent n named) 0 ls links l (alike-in (alike_back a) i);
    alike = subst (λ xs. Alike (map (link_of n) new) xs) (moved_named ids (length s.kinds) (length s.names) n (nth_agent n named) 0 ls links ∙ ap (placed None 0) joins) (alike-map (link_of n) (alike_back a));
  }

  -- so at most two of their ends meet at a spot
  pub start_slim : IsSlim shape (map (moved_link ids) ls)
  start_slim = let n = naming_of ms [] own none_own in slim_shown n.0 s [] _ ok (empty_sound s) (start_shows n.0 n.1 _ (alike_self _))

  -- and they are what the empty set keeps
  pub start_kept : (new : List Link) → Alike (map (moved_link ids) ls) new → IsKept (record { start = s; agents = ms; events = [] }) new
  start_kept new a =
      let n = naming_of ms [] own none_own in
      record {
        set = record {
          proper = ok;
          sound = empty_sound s;
          shallow = λ x i. absurd (none_in i);
          agents = alike_then (alike-map agent_of (alike_back agents.alike)) (rw (append-nil agents.entered, agents.named) (alike_self _));
          own_names = own;
          own_lines = none_own;
          children = λ x i. absurd (none_in i);
          ranks = λ rank is x i. absurd (none_in i);
          causes = λ x i. absurd (none_in i);
        };
        naming = n.0;
        named = n.1;
        shows = start_shows n.0 n.1 new a;
      }

  -- each agent has the serial number 0
  pub start_serials : (m : Member) → IsIn m ms → m.id.serial ≡ 0
  start_serials m i = agents.serials m (subst (IsIn m) (append-nil agents.entered) (alike-in (alike_back agents.alike) i))
