-- The net of a start: the tables made of its links list the net of the empty set of events.
use Rattle.std.proofs.Common.{◌≡◌, ℕ, suc, zero, ◌+◌, ◌<◌, ◌≤◌, Bool, true, false, List, [], ◌∷◌, ◌++◌, length, map, refl, sym, ap, arith, ◌∙◌, ◌^◌, eqb, leb, Some, None, inl, inr, append-nil, zero-add, length-append}
use Rattle.std.proofs.lemmas.List.Elements.{All-cons, All-nil}
use Rattle.std.proofs.lemmas.Bool.{cases_lt, ne_eqb, eq-eqb, lt-leb, leb-true}
use Rattle.std.specs.Map.{keys_of}
use Rattle.std.specs.Prelude.{if◌then◌else◌, slice_index, slice_get, ◌⊎◌, ◌==◌, All, option_map}
use Rattle.std.specs.Ordering.{nat_cmp}
use Rattle.std.specs.List.Sorted.{IsStrictlySortedBy}
use Rattle.ic_name.specs.declared.rules.Profile.{Profile}
use Rattle.ic_name.specs.Names.{Name, start_name, name_cmp}
use Rattle.ic_name.specs.Kinds.{arity}
use Rattle.ic_name.specs.Same.{same_name}
use Rattle.ic_name.proofs.SameFacts.{same_name_true}
use Rattle.ic_name.specs.declared.kinds.Kind.{Kind}
use Rattle.ic_name.specs.declared.kinds.Kind.TheVariants.{Gamma, Delta, Eps}
use Rattle.ic_name.specs.declared.ids.Spot.{Spot}
use Rattle.ic_name.specs.declared.ids.Spot.TheVariants as spots
use Rattle.ic_name.specs.declared.ids.Link.{Link}
use Rattle.ic_name.specs.declared.ports.Port.{Port}
use Rattle.ic_name.specs.declared.ports.Port.TheVariants as ports
use Rattle.ic_name.specs.Spots.{same_spot}
use Rattle.ic_path.specs.Links.{degree}
use Rattle.ic_path.specs.FarEnds.{far}
use Rattle.ic_path.specs.Rings.{rings}
use Rattle.ic_path.proofs.Renamed.{AllIn, far-map, rings-map, degree-map}
use Rattle.ic_link.specs.Links.{shape}
use Rattle.ic_theory.specs.Born.{Link as NetLink, placed, named}
use Rattle.ic_theory.specs.Starts.{Start, start_links, net_shape, IsProper}
use Rattle.ic_theory.specs.Nets.{IsSameNet, kind_among, has_port, net_of}
use Rattle.ic_theory.specs.Listed.{NetAgent as Listed, ListedNet, IsListing, agent_among, partner_at, free_among, shown}
use Rattle.ic_start.specs.Starts.{IsStartSpot, AreStartLinks, port_at, join_of}
use Rattle.ic_start.proofs.StartSpots.{one_port}
use Rattle.ic_net.proofs.InOrder.{keys_listed}
use Rattle.ic_net.specs.FarTables.{HasFarEnds, agent_partner, name_partner}
use Rattle.ic_net.specs.declared.agents.NetAgent.{NetAgent}
use Rattle.ic_name.specs.declared.limits.TheConstants.{MAX_START_AGENTS}
use Rattle.ic_net.specs.Sheets.{listed_agent, IsNet, IsReached}
use Rattle.ic_net.specs.Nets.{at_ports, listed_from, frees_upto}

-- a start's link with ports for spots
abbrev link_of : Link → NetLink
link_of l = record { maker = None; place = l.id.place; a = port_at l.a; b = port_at l.b }

placed_links : (a n k : ℕ) (ls : List Link) → AreStartLinks a n k ls → placed None k (map join_of ls) ≡ map link_of ls
placed_links a n k [] h = refl
placed_links a n k (l ∷ ls) h =
    let place : k ≡ l.id.place = sym (ap (λ i. i.place) h.0) in
    let rest = placed_links a n (k + 1) ls h.3 in
    λ i. record { maker = None; place = place i; a = port_at l.a; b = port_at l.b } ∷ rest i

-- no link ends at a name beyond those of the start
no_name : (a n k : ℕ) (ls : List Link) (j : ℕ) → AreStartLinks a n k ls → n ≤ j → degree shape ls (spots.Name j) ≡ 0
no_name a n k [] j h g = refl
no_name a n k (l ∷ ls) j h g = rw (away a n l.a j h.1 g, away a n l.b j h.2 g) (zero-add _ ∙ no_name a n (k + 1) ls j h.3 g)
  where
    away : (a n : ℕ) (p : Spot) (j : ℕ) → IsStartSpot a n p → n ≤ j → same_spot (spots.Name j) p ≡ false
    away a n (spots.Agent x i) j h g = refl
    away a n (spots.Name m) j h g = ne_eqb j m (λ e. omega arith)

all_in : (a n k : ℕ) (ls : List Link) → AreStartLinks a n k ls → AllIn shape (IsStartSpot a n) ls
all_in a n k [] h = tt
all_in a n k (l ∷ ls) h = (h.1, h.2, all_in a n (k + 1) ls h.3)

module _ (s : Start) (links : List Link) (joins : map join_of links ≡ s.joins) (in_place : AreStartLinks (length s.kinds) (length s.names) 0 links) where
  same_links : start_links s ≡ map link_of links
  same_links = rw (← joins) (placed_links (length s.kinds) (length s.names) 0 links in_place)

  pub far_is : (p : Spot) → IsStartSpot (length s.kinds) (length s.names) p → far net_shape (start_links s) (port_at p) ≡ port_at (far shape links p)
  far_is p h =
      rw same_links
      (far-map shape net_shape port_at link_of (λ l. refl) (λ l. refl) (IsStartSpot (length s.kinds) (length s.names)) (one_port (length s.kinds) (length s.names)) links p (all_in (length s.kinds) (length s.names) 0 links in_place) h)

  pub degree_is : (p : Spot) → IsStartSpot (length s.kinds) (length s.names) p → degree net_shape (start_links s) (port_at p) ≡ degree shape links p
  degree_is p h =
      rw same_links
      (degree-map shape net_shape port_at link_of (λ l. refl) (λ l. refl) (IsStartSpot (length s.kinds) (length s.names)) (one_port (length s.kinds) (length s.names)) links p (all_in (length s.kinds) (length s.names) 0 links in_place) h)

  pub rings_are : rings net_shape (start_links s) ≡ rings shape links
  rings_are =
      rw same_links
      (rings-map shape net_shape port_at link_of (λ l. refl) (λ l. refl) (IsStartSpot (length s.kinds) (length s.names)) (one_port (length s.kinds) (length s.names)) links (all_in (length s.kinds) (length s.names) 0 links in_place))

-- the kinds that the list of agents shows
listed_kind : (f : ℕ → ℕ → Port) (n : Name) (k : ℕ) (xs : List Kind) → option_map (λ (a : Listed). a.kind) (agent_among n (listed_from f k xs)) ≡ kind_among n (named start_name k xs)
listed_kind f n k [] = refl
listed_kind f n k (x ∷ xs) = go (same_name n (start_name k)) refl (listed_kind f n (k + 1) xs)
  where
    go : (b : Bool) → same_name n (start_name k) ≡ b → option_map (λ (a : Listed). a.kind) (agent_among n (listed_from f (k + 1) xs)) ≡ kind_among n (named start_name (k + 1) xs)
        → option_map (λ (a : Listed). a.kind) (agent_among n (listed_from f k (x ∷ xs))) ≡ kind_among n (named start_name k (x ∷ xs))
    go true e h = rw e refl
    go false e h = rw e h

-- the partners of an agent's ports
port_get : (x : Kind) (f : ℕ → Port) (i : ℕ) → slice_get (at_ports x f) i ≡ (if leb i (arity x) then Some (f i) else None)
port_get Gamma f zero = refl
port_get Gamma f (suc zero) = refl
port_get Gamma f (suc (suc zero)) = refl
port_get Gamma f (suc (suc (suc i))) = rw (lt-leb (suc (suc (suc i))) 2 (omega arith)) refl
port_get Delta f zero = refl
port_get Delta f (suc zero) = refl
port_get Delta f (suc (suc zero)) = refl
port_get Delta f (suc (suc (suc i))) = rw (lt-leb (suc (suc (suc i))) 2 (omega arith)) refl
port_get Eps f zero = refl
port_get Eps f (suc i) = rw (lt-leb (suc i) 0 (omega arith)) refl

arity-le : (x : Kind) → arity x ≤ 2
arity-le Gamma = omega arith
arity-le Delta = omega arith
arity-le Eps = omega arith

-- the partners that the list of agents shows, where the function gives those of the ports
listed_partner : (f : ℕ → ℕ → Port) (partner : Port → Port) (n : Name) (i k m : ℕ) (xs : List Kind) → k + length xs ≤ m
    → ((j : ℕ) → j < m → i ≤ 2 → f j i ≡ partner (ports.Of (start_name j) i))
    → partner_at i (agent_among n (listed_from f k xs)) ≡ (if has_port (kind_among n (named start_name k xs)) i then Some (partner (ports.Of n i)) else None)
listed_partner f partner n i k m [] l h = refl
listed_partner f partner n i k m (x ∷ xs) l h = go (same_name n (start_name k)) refl (listed_partner f partner n i (k + 1) m xs (omega arith) h)
  where
    here : n ≡ start_name k → (b : Bool) → leb i (arity x) ≡ b → (if b then Some (f k i) else None) ≡ (if b then Some (partner (ports.Of n i)) else None)
    here e true t = let bound : i ≤ arity x = leb-true i (arity x) t in let most = arity-le x in ap Some (h k (omega arith) (omega arith) ∙ ap (λ u. partner (ports.Of u i)) (sym e))
    here e false t = refl

    go : (b : Bool) → same_name n (start_name k) ≡ b
        → partner_at i (agent_among n (listed_from f (k + 1) xs)) ≡ (if has_port (kind_among n (named start_name (k + 1) xs)) i then Some (partner (ports.Of n i)) else None)
        → partner_at i (agent_among n (listed_from f k (x ∷ xs))) ≡ (if has_port (kind_among n (named start_name k (x ∷ xs))) i then Some (partner (ports.Of n i)) else None)
    go true e r = rw e (port_get x (f k) i ∙ here (same_name_true n (start_name k) e) (leb i (arity x)) refl)
    go false e r = rw e r

-- a name among those below a number
free_append : (j : ℕ) (es : List (ℕ × Port)) (n : ℕ) (p : Port) → free_among j (es ++ (n, p) ∷ []) ≡ (elim (free_among j es) [ Some q ↦ Some q | None ↦ (if eqb j n then Some p else None) ])
free_append j [] n p = refl
free_append j (e ∷ es) n p = go (eqb j e.0) (free_append j es n p)
  where
    go : (b : Bool) → free_among j (es ++ (n, p) ∷ []) ≡ (elim (free_among j es) [ Some q ↦ Some q | None ↦ (if eqb j n then Some p else None) ])
        → (if b then Some e.1 else free_among j (es ++ (n, p) ∷ [])) ≡ (elim (if b then Some e.1 else free_among j es) [ Some q ↦ Some q | None ↦ (if eqb j n then Some p else None) ])
    go true h = refl
    go false h = h

free_past : (once : ℕ → Bool) (f : ℕ → Port) (n j : ℕ) → n ≤ j → free_among j (frees_upto once f n) ≡ None
free_past once f zero j h = refl
free_past once f (suc n) j h = go (once n) (free_past once f n j (omega arith))
  where
    go : (b : Bool) → free_among j (frees_upto once f n) ≡ None → free_among j (frees_upto once f n ++ (if b then (n, f n) ∷ [] else [])) ≡ None
    go true e = free_append j (frees_upto once f n) n (f n) ∙ rw (e, ne_eqb j n (λ q. omega arith)) refl
    go false e = rw append-nil e

free_within : (once : ℕ → Bool) (f : ℕ → Port) (n j : ℕ) → j < n → free_among j (frees_upto once f n) ≡ (if once j then Some (f j) else None)
free_within once f zero j h = absurd (omega arith)
free_within once f (suc n) j h = go (once n) refl (cases_lt j n) (λ l. free_within once f n j l)
  where
    go : (b : Bool) → once n ≡ b → (j < n) ⊎ (n ≤ j) → (j < n → free_among j (frees_upto once f n) ≡ (if once j then Some (f j) else None))
        → free_among j (frees_upto once f n ++ (if b then (n, f n) ∷ [] else [])) ≡ (if once j then Some (f j) else None)
    go true e (inl l) ih = free_append j (frees_upto once f n) n (f n) ∙ rw (ih l) (same (once j) (eqb j n) (ne_eqb j n (λ q. omega arith)))
      where
        same : (b x : Bool) → x ≡ false → (elim (if b then Some (f j) else None) [ Some q ↦ Some q | None ↦ (if x then Some (f n) else None) ]) ≡ (if b then Some (f j) else None)
        same true x h = refl
        same false x h = rw h refl
    go false e (inl l) ih = rw append-nil (ih l)
    go true e (inr g) ih =
        let s : j ≡ n = omega arith in
        rw s (free_append n (frees_upto once f n) n (f n) ∙ rw (free_past once f n n (omega arith), eq-eqb n n refl, e) refl)
    go false e (inr g) ih = let s : j ≡ n = omega arith in let o : once j ≡ false = ap once s ∙ e in rw (append-nil, o) (free_past once f n j g)

-- a name of a start has one link end or two
pub few_ends : (s : Start) (links : List Link) → IsProper s → map join_of links ≡ s.joins → AreStartLinks (length s.kinds) (length s.names) 0 links
    → (j : ℕ) → degree shape links (spots.Name j) ≤ 2
few_ends s links ok joins in_place j = go (cases_lt j (length s.names))
  where
    go : (j < length s.names) ⊎ (length s.names ≤ j) → degree shape links (spots.Name j) ≤ 2
    go (inl h) = rw (← degree_is s links joins in_place (spots.Name j) h) (ok.few_ends j)
    go (inr h) = rw (no_name (length s.kinds) (length s.names) 0 links j in_place h) (omega arith)

-- the tables of a start list its net
pub start_net : (s : Start) (links : List Link) (ends : List Spot) (times : List ℕ) (l : ListedNet)
    → IsProper s → map join_of links ≡ s.joins → AreStartLinks (length s.kinds) (length s.names) 0 links
    → HasFarEnds (length s.kinds) (length s.names) ends (far shape links)
    → length times ≡ length s.names → ((j : ℕ) → j < length s.names → slice_index times j ≡ degree shape links (spots.Name j))
    → l.agents ≡ listed_from (agent_partner (length s.kinds) ends) 0 s.kinds
    → l.frees ≡ frees_upto (λ j. slice_index times j == 1) (name_partner (length s.kinds) ends) (length times)
    → l.rings ≡ rings shape links → l.profile ≡ s.profile → IsSameNet (shown l) (net_of s [])
start_net s links ends times l ok joins in_place table long counts agents frees ring profile = record {
  kinds = λ n. rw agents (listed_kind (agent_partner (length s.kinds) ends) n 0 s.kinds);
  partners = partners;
  rings = ring ∙ sym (rings_are s links joins in_place);
  profile = profile;
}
  where
    at_agent : (n : Name) (i j : ℕ) → j < length s.kinds → i ≤ 2 → agent_partner (length s.kinds) ends j i ≡ far net_shape (start_links s) (ports.Of (start_name j) i)
    at_agent n i j h b =
        let spot : Spot = spots.Agent (record { slot = j; serial = 0 }) i in
        let inside : IsStartSpot (length s.kinds) (length s.names) spot = (h, refl, b) in
        ap port_at (table spot inside) ∙ sym (far_is s links joins in_place spot inside)

    at_name : (j : ℕ) → (j < length s.names) ⊎ (length s.names ≤ j)
        → free_among j (frees_upto (λ j. slice_index times j == 1) (name_partner (length s.kinds) ends) (length times)) ≡ (if eqb (degree net_shape (start_links s) (ports.Name j)) 1 then Some (far net_shape (start_links s) (ports.Name j)) else None)
    at_name j (inl h) =
        let c = counts j h in
        let d = degree_is s links joins in_place (spots.Name j) h in
        let f = ap port_at (table (spots.Name j) h) ∙ sym (far_is s links joins in_place (spots.Name j) h) in
        free_within (λ j. slice_index times j == 1) (name_partner (length s.kinds) ends) (length times) j (omega arith) ∙ rw (c, d, f) refl
    at_name j (inr h) = free_past (λ j. slice_index times j == 1) (name_partner (length s.kinds) ends) (length times) j (omega arith) ∙ rw (ok.no_others j h) refl

    partners : (p : Port) → (shown l).partner p ≡ (net_of s []).partner p
    partners (ports.Of n i) = rw agents (listed_partner (agent_partner (length s.kinds) ends) (far net_shape (start_links s)) n i 0 (length s.kinds) s.kinds (omega arith) (at_agent n i))
    partners (ports.Name j) = rw frees (at_name j (cases_lt j (length s.names)))

-- the tables of a start are in order, and whole
many_ports : (x : Kind) (f : ℕ → Port) → length (at_ports x f) ≡ arity x + 1
many_ports Gamma f = refl
many_ports Delta f = refl
many_ports Eps f = refl

whole_from : (f : ℕ → ℕ → Port) (k : ℕ) (xs : List Kind) → All (λ (a : Listed). length a.partners ≡ arity a.kind + 1) (listed_from f k xs)
whole_from f k [] = All-nil (λ (a : Listed). length a.partners ≡ arity a.kind + 1)
whole_from f k (x ∷ xs) = All-cons (λ (a : Listed). length a.partners ≡ arity a.kind + 1) _ _ (many_ports x (f k)) (whole_from f (k + 1) xs)

start_listing : (es : List (Name × NetAgent)) (frees : List (ℕ × Port)) (rings : ℕ) (profile : Profile) (f : ℕ → ℕ → Port) (kinds : List Kind)
    → map listed_agent es ≡ listed_from f 0 kinds → IsStrictlySortedBy name_cmp (keys_of es) → IsStrictlySortedBy nat_cmp (keys_of frees)
    → IsListing (record { agents = map listed_agent es; frees = frees; rings = rings; profile = profile })
start_listing es frees rings profile f kinds h names numbers = record {
  in_order = rw (keys_listed es) names;
  whole = rw h (whole_from f 0 kinds);
  numbered = numbers;
}

-- a start lists as many agents as it has kinds, and no more free names than names
pub length-listed : (f : ℕ → ℕ → Port) (k : ℕ) (xs : List Kind) → length (listed_from f k xs) ≡ length xs
length-listed f k [] = refl
length-listed f k (x ∷ xs) = ap suc (length-listed f (k + 1) xs)

frees-le : (once : ℕ → Bool) (f : ℕ → Port) (n : ℕ) → length (frees_upto once f n) ≤ n
frees-le once f zero = omega arith
frees-le once f (suc n) = rw length-append (go (once n) (frees-le once f n))
  where
    go : (b : Bool) → length (frees_upto once f n) ≤ n → length (frees_upto once f n) + length {A = ℕ × Port} (if b then (n, f n) ∷ [] else []) ≤ suc n
    go true h = omega arith
    go false h = omega arith

-- the tables of a start make a net
pub start_is_net : (es : List (Name × NetAgent)) (frees : List (ℕ × Port)) (rings : ℕ) (profile : Profile) (f : ℕ → ℕ → Port) (kinds : List Kind) (once : ℕ → Bool) (g : ℕ → Port) (n : ℕ)
    → map listed_agent es ≡ listed_from f 0 kinds → IsStrictlySortedBy name_cmp (keys_of es) → frees ≡ frees_upto once g n → IsStrictlySortedBy nat_cmp (keys_of frees)
    → length kinds ≤ MAX_START_AGENTS → n < 2 ^ 32 → rings < 2 ^ 63
    → IsReached (shown (record { agents = map listed_agent es; frees = frees; rings = rings; profile = profile }))
    → IsNet (record { agents = map listed_agent es; frees = frees; rings = rings; profile = profile })
start_is_net es frees rings profile f kinds once g n h names e numbers few short seldom reached = record {
  listing = start_listing es frees rings profile f kinds h names numbers;
  few_agents = let a : length (map listed_agent es) ≡ length kinds = ap length h ∙ length-listed f 0 kinds in omega arith;
  few_frees = let b = frees-le once g n in let c : length frees ≡ length (frees_upto once g n) = ap length e in omega arith;
  few_rings = seldom;
  reached = reached;
}

-- the same by the numbers that the code has
pub start_net_by : (s : Start) (links : List Link) (ends : List Spot) (times : List ℕ) (l : ListedNet) (kinds : List Kind) (n m : ℕ)
    → kinds ≡ s.kinds → n ≡ length s.kinds → m ≡ length s.names
    → IsProper s → map join_of links ≡ s.joins → AreStartLinks (length s.kinds) (length s.names) 0 links
    → HasFarEnds n m ends (far shape links)
    → length times ≡ m → ((j : ℕ) → j < m → slice_index times j ≡ degree shape links (spots.Name j))
    → l.agents ≡ listed_from (agent_partner (length kinds) ends) 0 kinds
    → l.frees ≡ frees_upto (λ j. slice_index times j == 1) (name_partner n ends) (length times)
    → l.rings ≡ rings shape links → l.profile ≡ s.profile → IsSameNet (shown l) (net_of s [])
start_net_by s links ends times l kinds n m ek en em ok joins in_place table long counts agents frees ring profile =
    let table' : HasFarEnds (length s.kinds) (length s.names) ends (far shape links) = rw (← en, ← em) table in
    let agents' : l.agents ≡ listed_from (agent_partner (length s.kinds) ends) 0 s.kinds = rw (← ek) agents in
    let frees' : l.frees ≡ frees_upto (λ j. slice_index times j == 1) (name_partner (length s.kinds) ends) (length times) = rw (← en) frees in
    start_net s links ends times l ok joins in_place table' (long ∙ em) (λ j h. counts j (omega arith)) agents' frees' ring profile
