-- What a line of a history changed.
use Rattle.std.proofs.Common.{◌≡◌, ◌≢◌, ◌↔◌, ℕ, ◌+◌, ◌<◌, ◌≤◌, List, [], ◌∷◌, ◌++◌, length, map, option_map, slice_get, Option, Some, None, inl, inr, refl, sym, ap, subst, arith, ◌∙◌}
use Rattle.std.proofs.lemmas.Bool.{cases_lt}
use Rattle.std.proofs.lemmas.Option.{slice_get-map, slice_get_within, slice_get-get_or}
use Rattle.std.specs.Prelude.{All, IfSome, IfNone}
use Rattle.ic_name.specs.Names.{Name, start_name}
use Rattle.ic_name.specs.Events.{Event}
use Rattle.ic_name.specs.declared.lines.Call.TheVariants.{Fire, Undo}
use Rattle.ic_name.specs.declared.lines.Reply.TheVariants.{Fired, Undone}
use Rattle.ic_name.specs.declared.lines.Line.{Line}
use Rattle.ic_names.specs.Tables.{name_at}
use Rattle.ic_names.specs.declared.table.NameId.{NameId}
use Rattle.ic_path.specs.Orders.{IsIn}
use Rattle.ic_path.proofs.Picks.{none_in, in_first, in-cons_cases, pick_before}
use Rattle.ic_path.proofs.InLists.{in_behind, in-append_cases}
use Rattle.ic_roster.specs.declared.interaction.Interaction.{Interaction}
use Rattle.ic_roster.specs.Rosters.{event_in}
use Rattle.ic_history.specs.declared.kept.KeptLine.{KeptLine}
use Rattle.ic_history.specs.declared.kept.KeptLine.TheVariants as kept
use Rattle.ic_history.specs.declared.limit.Limit.{Limit}
use Rattle.ic_history.specs.declared.limit.Limit.TheVariants.{Deep, Full}
use Rattle.ic_history.specs.Kept.{line_of}
use Rattle.ic_history.specs.Noted as seen
use Rattle.ic_history.specs.Noted.{NotedLine, line_in, AreLinesNamed}
use Rattle.ic_history.specs.Limits.{reply_of}
use Rattle.ic_history.specs.Changed.{AreChangedLeads, IsFiredIn, IsChangedIn, IsChanged, IsLeadFiredIn, IsLeadChangedIn, name_told}
use Rattle.ic_history.proofs.NotedLines.{image_at, noted_named}

-- one value is held
some_one : {x y : Name} → Some x ≡ Some y → x ≡ y
some_one q = cc

-- the lines that stand at one place are one
one_line : (lines : List Line) (k : ℕ) (x y : Line) → slice_get lines k ≡ Some x → slice_get lines k ≡ Some y → x ≡ y
one_line lines k x y a b = cc

-- a line that undid a firing is kept as one that did
kept_undone : (names : List Name) (inactive : List Event) (l : KeptLine) (n : ℕ) → line_in names (line_of inactive l) ≡ record { call = Undo n; reply = Undone } → l ≡ kept.Undone n
kept_undone names inactive (kept.Fired kinds places) n same = (let call = ap (λ (x : Line). x.call) same in absurd cc)
kept_undone names inactive (kept.Limited limit kinds places) n same = (let call = ap (λ (x : Line). x.call) same in absurd cc)
kept_undone names inactive (kept.NotActive place) n same = (let call = ap (λ (x : Line). x.call) same in absurd cc)
kept_undone names inactive (kept.Undone m) n same = (let call = ap (λ (x : Line). x.call) same in cc)
kept_undone names inactive (kept.NotStanding m) n same = (let reply = ap (λ (x : Line). x.reply) same in absurd cc)
kept_undone names inactive (kept.Held m by) n same = (let reply = ap (λ (x : Line). x.reply) same in absurd cc)

-- a line that undid nothing has changed what it fired
pub only_fired : (names : List Name) (inactive : List Event) (lines : List Line) (k : ℕ) (l : KeptLine) (P : Name → Type 0) → slice_get lines k ≡ Some (line_in names (line_of inactive l)) → ((n : ℕ) → l ≢ kept.Undone n) → ((n : Name) → P n ↔ IsLeadFiredIn lines k n) → (n : Name) → P n ↔ IsLeadChangedIn lines k n
only_fired names inactive lines k l P at other each n = (
  λ p. let f = (each n).0 p in (f.0, inl f.1, f.2),
  λ h. elim h.1 [ inl f ↦ (each n).1 (h.0, f, h.2) | inr u ↦ absurd (other u.0 (kept_undone names inactive l u.0 (one_line lines k _ _ at u.1))) ],
)

-- the line of an undo that was done has changed what the line fired that it names
pub only_undone : (lines : List Line) (k l : ℕ) (P : Name → Type 0) → slice_get lines k ≡ Some (record { call = Undo l; reply = Undone }) → ((n : Name) → P n ↔ IsLeadFiredIn lines l n) → (n : Name) → P n ↔ IsLeadChangedIn lines k n
only_undone lines k l P at each n = (
  λ p. let f = (each n).0 p in (f.0, inr (l, at, f.1), f.2),
  λ h. elim h.1 [
    | inl f ↦ (let same : Undo l ≡ Fire h.0 = ap (λ (x : Line). x.call) (one_line lines k _ _ at f) in absurd cc)
    | inr u ↦
        let same : Undo l ≡ Undo u.0 = ap (λ (x : Line). x.call) (one_line lines k _ _ at u.1) in
        let number : u.0 ≡ l = cc in
        (each n).1 (h.0, subst (λ (m : ℕ). IsFiredIn lines m h.0) number u.2, h.2)
  ],
)

-- a limit has another reply than a firing
never_fired : (limit : Limit) → reply_of limit ≡ Fired → ⊥
never_fired Deep q = cc
never_fired Full q = cc

-- a line that fired an event is seen as one that did
firing_seen : (names : List Name) (l : NotedLine) (e : Event) → line_in names l ≡ record { call = Fire e; reply = Fired } → (i : Interaction) × (l ≡ seen.Fired i) × (event_in names i ≡ e)
firing_seen names (seen.Fired i) e same = (i, refl, let call : Fire (event_in names i) ≡ Fire e = ap (λ (x : Line). x.call) same in cc)
firing_seen names (seen.Limited limit i) e same = absurd (never_fired limit (ap (λ (x : Line). x.reply) same))
firing_seen names (seen.NotActive f) e same = (let reply = ap (λ (x : Line). x.reply) same in absurd cc)
firing_seen names (seen.Undone m) e same = (let call = ap (λ (x : Line). x.call) same in absurd cc)
firing_seen names (seen.NotStanding m) e same = (let call = ap (λ (x : Line). x.call) same in absurd cc)
firing_seen names (seen.Held m by) e same = (let call = ap (λ (x : Line). x.call) same in absurd cc)

module _ (names : List Name) (ls : List NotedLine) (k : ℕ) where
  -- so is the one at a place
  pub firing_at : (e : Event) → IsFiredIn (map (line_in names) ls) k e → (i : Interaction) × (slice_get ls k ≡ Some (seen.Fired i)) × (event_in names i ≡ e)
  firing_at e at = let l = image_at (line_in names) ls k _ at in let f = firing_seen names l.0 e l.2 in (f.0, l.1 ∙ ap Some f.1, f.2)

  -- a line that fired nothing has no lead
  pub none_fired : ((i : Interaction) → slice_get ls k ≢ Some (seen.Fired i)) → (n : Name) → (◌≡◌ {A = Option Name} None (Some n)) ↔ IsLeadFiredIn (map (line_in names) ls) k n
  none_fired none n = (λ q. absurd cc, λ h. (let f = firing_at h.0 h.1 in absurd (none f.0 f.1)))

  -- the name at the place of a firing's lead is that of the agent that leads what the line fired
  pub lead_read : AreLinesNamed names ls → (i : Interaction) → slice_get ls k ≡ Some (seen.Fired i) → (r : Option Name) → r ≡ slice_get names i.lead.place → (n : Name) → (r ≡ Some n) ↔ IsLeadFiredIn (map (line_in names) ls) k n
  lead_read all i at r read n = (
    λ q. (event_in names i, fired, some_one (sym here ∙ q)),
    λ h. (
        let same : Fire (event_in names i) ≡ Fire h.0 = ap (λ (x : Line). x.call) (one_line (map (line_in names) ls) k _ _ fired h.1) in
        let one : event_in names i ≡ h.0 = cc in
        here ∙ ap Some (ap (λ (e : Event). e.lead) one ∙ h.2)
        ),
  )
    where
      fired : IsFiredIn (map (line_in names) ls) k (event_in names i)
      fired = slice_get-map (line_in names) ls k ∙ ap (option_map (line_in names)) at

      here : r ≡ Some (event_in names i).lead
      here = read ∙ slice_get-get_or names i.lead.place (start_name 0) (noted_named names ls k _ at all).lead

  -- the place that is found for the lead of what a line fired is one of a name
  pub told_inside : AreLinesNamed names ls → (r : Option NameId) → IfSome r (λ lead. (i : Interaction) × (slice_get ls k ≡ Some (seen.Fired i)) × (i.lead ≡ lead)) → IfSome r (λ lead. lead.place < length names)
  told_inside all None found = tt
  told_inside all (Some d) found = subst (λ (a : NameId). a.place < length names) found.2 (noted_named names ls k _ found.1 all).lead

  -- and the name there is that of the agent that leads it
  pub lead_told : AreLinesNamed names ls → (r : Option NameId) → IfSome r (λ lead. (i : Interaction) × (slice_get ls k ≡ Some (seen.Fired i)) × (i.lead ≡ lead)) → IfNone r ((i : Interaction) → slice_get ls k ≢ Some (seen.Fired i))
      → (n : Name) → (name_told names r ≡ Some n) ↔ IsLeadFiredIn (map (line_in names) ls) k n
  lead_told all None found none = none_fired none
  lead_told all (Some d) found none =
      let inside = told_inside all (Some d) found in
      lead_read all found.0 found.1 (Some (name_at names d.place)) (sym (ap (λ (a : NameId). slice_get names a.place) found.2 ∙ slice_get-get_or names d.place (start_name 0) inside))

-- a line between these two fired or undid an event that the agent leads
abbrev pub IsLeadChangedBetween : List Line → ℕ → ℕ → Name → Type 0
IsLeadChangedBetween lines from to n = (k : ℕ) × (from ≤ k) × (k < to) × IsLeadChangedIn lines k n

-- no line is between one and itself
pub none_between : (lines : List Line) (from : ℕ) (n : Name) → IsLeadChangedBetween lines from from n → ⊥
none_between lines from n h = let a : from ≤ h.0 = h.1 in let b : h.0 < from = h.2 in omega arith

-- with a line more that changed nothing they are the same agents
pub none_more : (lines : List Line) (from to : ℕ) (ns : List Name) → ((n : Name) → IsIn n ns ↔ IsLeadChangedBetween lines from to n) → ((n : Name) → IsLeadChangedIn lines to n → ⊥) → (n : Name) → IsIn n ns ↔ IsLeadChangedBetween lines from (to + 1) n
none_more lines from to ns each not n = (
  λ i. let h = (each n).0 i in (h.0, h.1, let b : h.0 < to = h.2 in omega arith, h.3),
  λ h. (each n).1 (h.0, h.1, before h.0 h.2 h.3, h.3),
)
  where
    before : (k : ℕ) → k < to + 1 → IsLeadChangedIn lines k n → k < to
    before k b d = elim (cases_lt k to) [ inl l ↦ l | inr l ↦ (let q : k ≡ to = omega arith in absurd (not n (subst (λ (x : ℕ). IsLeadChangedIn lines x n) q d))) ]

-- a member of a list stands in one that goes on
in_before : {x : Name} {xs : List Name} (ys : List Name) → IsIn x xs → IsIn x (xs ++ ys)
in_before ys i = (i.0 ++ ys, pick_before ys i.1)

-- with a line more that changed what an agent leads this one is behind them
pub one_more : (lines : List Line) (from to : ℕ) (ns : List Name) (x : Name) → from ≤ to → ((n : Name) → IsIn n ns ↔ IsLeadChangedBetween lines from to n) → ((n : Name) → (x ≡ n) ↔ IsLeadChangedIn lines to n) → (n : Name) → IsIn n (ns ++ x ∷ []) ↔ IsLeadChangedBetween lines from (to + 1) n
one_more lines from to ns x ahead each its n = (
  λ i. elim (in-append_cases ns i) [
    | inl a ↦ (let h = (each n).0 a in (h.0, h.1, let b : h.0 < to = h.2 in omega arith, h.3))
    | inr b ↦ (to, ahead, omega arith, (its n).0 (sym (only b)))
  ],
  λ h. elim (cases_lt h.0 to) [
    | inl l ↦ in_before (x ∷ []) ((each n).1 (h.0, h.1, l, h.3))
    | inr l ↦
        let below : h.0 < to + 1 = h.2 in
        let q : h.0 ≡ to = omega arith in
        in_behind ns (subst (λ (y : Name). IsIn y (x ∷ [])) ((its n).1 (subst (λ (k : ℕ). IsLeadChangedIn lines k n) q h.3)) (in_first x []))
  ],
)
  where
    only : IsIn n (x ∷ []) → n ≡ x
    only i = elim (in-cons_cases i) [ inl q ↦ q | inr none ↦ absurd (none_in none) ]

-- a line that changed an event is one of the lines
within : (lines : List Line) (k : ℕ) (e : Event) → IsChangedIn lines k e → k < length lines
within lines k e (inl f) = slice_get_within lines k _ f
within lines k e (inr u) = slice_get_within lines k _ u.1

-- where there is no line further on they are all
pub all_between : (lines : List Line) (from to : ℕ) (ns : List Name) → length lines ≤ to → ((n : Name) → IsIn n ns ↔ IsLeadChangedBetween lines from to n) → (n : Name) → IsIn n ns ↔ ((e : Event) × IsChanged lines from e × (e.lead ≡ n))
all_between lines from to ns short each n = (
  λ i. let h = (each n).0 i in (h.3.0, (h.0, h.1, h.3.1), h.3.2),
  λ c. (each n).1 (c.1.0, c.1.1, (let b = within lines c.1.0 c.0 c.1.2 in omega arith), (c.0, c.1.2, c.2)),
)
