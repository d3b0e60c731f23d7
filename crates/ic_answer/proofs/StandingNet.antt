-- The net and the journal of what stands, as the machine has them.
use Rattle.std.proofs.Common.{◌≡◌, ℕ, List, ap, ◌∙◌, subst, sym}
use Rattle.ic_path.proofs.Alikes.{alike_back, alike_then}
use Rattle.ic_theory.specs.Nets.{Net, IsSameNet, net_of}
use Rattle.ic_theory.specs.Listed.{ListedNet, IsListing, shown}
use Rattle.ic_theory.proofs.AnyOrder.{net-alike}
use Rattle.ic_cause.specs.Journals.{Ranked, IsJournal, journal_text}
use Rattle.ic_set.specs.Views.{standing}
use Rattle.ic_text.specs.AgentsText.{agents_text}
use Rattle.ic_text.specs.NetText.{net_text}
use Rattle.ic_journal.specs.Views.{BenchView, set_of}
use Rattle.ic_journal.specs.Benches.{IsBench}
use Rattle.ic_journal.proofs.MachineSteps.{events_at}
use Rattle.ic_command.specs.declared.command.Command.TheVariants.{Net as NetCommand, Journal}
use Rattle.ic_command.specs.declared.question.Question.TheVariants.{Agents}
use Rattle.ic_answer.specs.BenchQuestions.{Informs, InformsOf, agents}
use Rattle.ic_answer.specs.CommandReplies.{net, journal}
use Rattle.ic_answer.specs.Turns.{Tells}
use Rattle.ic_theory.proofs.Restored.{rank-alike}

-- one net is the same as another by a third
same_then : {a b c : Net} → IsSameNet a b → IsSameNet b c → IsSameNet a c
same_then p q = record {
  kinds = λ x. p.kinds x ∙ q.kinds x;
  partners = λ x. p.partners x ∙ q.partners x;
  rings = p.rings ∙ q.rings;
  profile = p.profile ∙ q.profile;
}

-- the net of what a bench has standing is the net of the machine's state
pub tells_net : (v : BenchView) (l : ListedNet) → IsBench v → IsListing l → IsSameNet (shown l) (net_of v.start (standing (set_of v))) → Tells v NetCommand (net_text v.start.names l)
tells_net v l b listing same st at = net listing (same_then same (net-alike v.start b.set.proper b.set.sound (events_at v at)))

-- the journal of what a bench has standing is that of the machine's state
pub tells_journal : (v : BenchView) (xs : List Ranked) → IsJournal v.start (standing (set_of v)) xs → Tells v Journal (journal_text xs)
tells_journal v xs r st at = journal (record {
  alike = alike_then (alike_back (events_at v at)) r.alike;
  canonical = λ rank is. r.canonical rank (rank-alike v.start rank (alike_back (events_at v at)) is);
  ranks = λ rank is. r.ranks rank (rank-alike v.start rank (alike_back (events_at v at)) is);
})

-- a text that is the printed net
pub told_net : (v : BenchView) (l : ListedNet) (names : List (List ℕ)) → IsBench v → IsListing l → IsSameNet (shown l) (net_of v.start (standing (set_of v))) → names ≡ v.start.names
    → (text : List ℕ) → text ≡ net_text names l → Tells v NetCommand text
told_net v l names b listing same e text t = subst (λ u. Tells v NetCommand u) (sym (t ∙ ap (λ ns. net_text ns l) e)) (tells_net v l b listing same)

-- a text that has the lines of its agents behind their names
pub told_agents : (v : BenchView) (l : ListedNet) (names : List (List ℕ)) → IsBench v → IsListing l → IsSameNet (shown l) (net_of v.start (standing (set_of v))) → names ≡ v.start.names
    → (text : List ℕ) → text ≡ agents_text names l → InformsOf v Agents text
told_agents v l names b listing same e text t st at =
    subst (λ u. Informs v.start st Agents u) (sym (t ∙ ap (λ ns. agents_text ns l) e)) (agents listing (same_then same (net-alike v.start b.set.proper b.set.sound (events_at v at))))

-- a text that is the journal
pub told_journal : (v : BenchView) (xs : List Ranked) → IsJournal v.start (standing (set_of v)) xs → (text : List ℕ) → text ≡ journal_text xs → Tells v Journal text
told_journal v xs r text t = subst (λ u. Tells v Journal u) (sym t) (tells_journal v xs r)
