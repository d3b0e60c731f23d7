-- A firing that is undone at once.
use Rattle.std.proofs.Common.{◌≡◌, ◌∙◌, ℕ, List, [], ◌∷◌, ◌++◌, map, length, inl, inr, refl, sym, ap, subst, Ok}
use Rattle.ic_name.specs.Events.{Event}
use Rattle.ic_name.specs.declared.ids.EventId.{EventId}
use Rattle.ic_path.specs.Orders.{IsIn, Alike}
use Rattle.ic_path.proofs.Picks.{in_first, in_others}
use Rattle.ic_name.specs.declared.lines.Call.{Call}
use Rattle.ic_name.specs.declared.lines.Call.TheVariants.{Undo}
use Rattle.ic_name.specs.declared.lines.Reply.{Reply}
use Rattle.ic_name.specs.declared.lines.Reply.TheVariants.{Undone}
use Rattle.ic_path.proofs.Alikes.{alike_back, alike_then, alike-cancel, alike-in, alike-map, cancel_front}
use Rattle.ic_theory.specs.Born.{born_agents}
use Rattle.ic_theory.specs.Starts.{Start, IsProper}
use Rattle.ic_theory.specs.Causes.{IsRank}
use Rattle.ic_theory.specs.Nets.{net_of, IsSameNet}
use Rattle.ic_theory.specs.Sound.{IsSound}
use Rattle.ic_theory.proofs.AnyOrder.{net-alike}
use Rattle.ic_theory.proofs.Machines.{history_kept}
use Rattle.ic_theory.proofs.Ranks.{sound-alike}
use Rattle.ic_cause.specs.Journals.{IsJournal}
use Rattle.ic_cause.proofs.OneJournal.{one_journal}
use Rattle.ic_roster.specs.Rosters.{Member, Stander, HaveOwnLines}
use Rattle.ic_set.specs.Views.{SetView, agent_of, standing}
use Rattle.ic_set.specs.Changes.{IsSame, Admits, TakesOut}
use Rattle.ic_journal.specs.Views.{BenchView, set_of}
use Rattle.ic_journal.specs.Benches.{IsBench}
use Rattle.ic_journal.specs.Calls.{Steps, Fires, Undoes}
use Rattle.ic_journal.specs.Restored.{GivesBack}
use Rattle.ic_journal.proofs.MachineSteps.{events_at}
use Rattle.ic_theory.proofs.Restored.{rank-alike}

-- agents with the same ids, names and kinds are the same
same_agents : (ms ns : List Member) → map (λ m. m.id) ms ≡ map (λ m. m.id) ns → map agent_of ms ≡ map agent_of ns → ms ≡ ns
same_agents [] [] i n = refl
same_agents [] (y ∷ ns) i n = absurd cc
same_agents (x ∷ ms) [] i n = absurd cc
same_agents (x ∷ ms) (y ∷ ns) i n =
    let id : x.id ≡ y.id = cc in
    let agent : agent_of x ≡ agent_of y = cc in
    let ids : map (λ (m : Member). m.id) ms ≡ map (λ (m : Member). m.id) ns = cc in
    let agents : map agent_of ms ≡ map agent_of ns = cc in
    let rest = same_agents ms ns ids agents in
    let same : x ≡ y = λ k. record { id = id k; name = (agent k).0; kind = (agent k).1 } in
    λ k. same k ∷ rest k

-- the event that is taken out is the one that came
pub restores : (old mid new : SetView) (e : Event) (line : ℕ) (id d : EventId) → HaveOwnLines mid.events → Admits old e line id mid → TakesOut mid d new → d.line ≡ id.line → IsSame old new
restores old mid new e line id d own a t h =
    let came : IsIn a.entry mid.events = alike-in a.events (in_first a.entry old.events) in
    let went : IsIn t.entry mid.events = alike-in (alike_back t.events) (in_first t.entry new.events) in
    let lines : t.entry.id.line ≡ a.entry.id.line = ap (λ (i : EventId). i.line) t.under ∙ h ∙ sym (ap (λ (i : EventId). i.line) a.under) in
    let same : t.entry ≡ a.entry = elim (in_others came.1 went) [ inl q ↦ q | inr i ↦ absurd (own.lines a.entry t.entry came.0 came.1 i lines) ] in
    let born : t.entry.born ≡ a.entry.born = ap (λ (x : Stander). x.born) same in
    let event : t.entry.event ≡ e = ap (λ (x : Stander). x.event) same ∙ a.event in
    let children : t.children ≡ a.children = same_agents t.children a.children (t.born.under ∙ born ∙ sym a.born.under) (t.born.named ∙ ap born_agents event ∙ sym a.born.named) in
    record {
      start = t.start ∙ a.start;
      agents = cancel_front a.children (alike_then a.agents (subst (λ ms. Alike mid.agents (ms ++ new.agents)) children t.agents));
      events = alike-cancel (alike_then a.events (subst (λ x. Alike mid.events (x ∷ new.events)) same t.events));
    }

-- what stands after a step is sound
step_sound : (mid new : BenchView) (call : Call) (answer : Reply) → IsBench mid → Steps mid call answer new → IsSound new.start (standing (set_of new))
step_sound mid new call answer lawful s =
    let next = s.step lawful.running.state lawful.running.at in
    let ok = subst IsProper (sym s.start) lawful.set.proper in
    sound-alike new.start (alike_back (events_at new next.2)) (history_kept new.start ok next.2.history).sound

-- where the same stands under the same ids, net, ranks and journal are the same
same_back : (old new : BenchView) → IsProper new.start → IsSound new.start (standing (set_of new)) → IsSame (set_of old) (set_of new) → GivesBack old new
same_back old new ok sound same =
    let start : new.start ≡ old.start = same.start in
    let a : Alike (standing (set_of old)) (standing (set_of new)) = alike-map (λ (x : Stander). x.event) same.events in
    let sound_new = subst (λ (s : Start). IsSound s (standing (set_of new))) start sound in
    let sound_old = sound-alike old.start (alike_back a) sound_new in
    record {
      same = same;
      net = subst (λ (s : Start). IsSameNet (net_of old.start (standing (set_of old))) (net_of s (standing (set_of new)))) (sym start) (net-alike old.start (subst IsProper start ok) sound_old a);
      ranks = λ rank r. subst (λ (s : Start). IsRank s (standing (set_of new)) rank) (sym start) (rank-alike old.start rank a r);
      journal = λ xs ys h k. one_journal old.start a sound_old xs ys h (subst (λ (s : Start). IsJournal s (standing (set_of new)) ys) start k);
    }

-- an undo of the event that was fired gives back what was there before
pub given_back : (old mid new : BenchView) (e : Event) (id : EventId) → IsBench mid → Fires old e (Ok id) mid → Undoes mid id (Ok tt) new → GivesBack old new
given_back old mid new e id lawful fires undoes =
    same_back old new (subst IsProper (sym undoes.0.start) lawful.set.proper) (step_sound mid new (Undo id.line) Undone lawful undoes.0)
    (restores (set_of old) (set_of mid) (set_of new) e (length old.lines) id undoes.1.0 lawful.set.own_lines fires.1 undoes.1.2 undoes.1.1)
