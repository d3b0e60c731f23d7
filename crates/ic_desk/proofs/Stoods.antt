-- What a desk keeps of its marks, where lines come and where just the events of one stand.
use Rattle.std.proofs.Common.{◌≡◌, ◌<◌, ℕ, List, [], ◌++◌, length, map, set, get_or, Some, refl, sym, ap, subst, append_assoc, append-nil, ◌∙◌}
use Rattle.std.proofs.Math.Seq.{map-set_same}
use Rattle.ic_path.specs.Orders.{IsIn, Alike}
use Rattle.ic_path.proofs.Alikes.{alike_back, alike_then}
use Rattle.ic_theory.specs.Starts.{Start}
use Rattle.ic_theory.specs.Machine.{IsHistory}
use Rattle.ic_set.specs.Views.{standing}
use Rattle.ic_journal.specs.Views.{BenchView, set_of}
use Rattle.ic_journal.specs.Benches.{IsBench}
use Rattle.ic_journal.proofs.MachineSteps.{events_at}
use Rattle.ic_undo.specs.Marks.{MarkView}
use Rattle.ic_undo.specs.Stood.{StoodAt}
use Rattle.ic_answer.specs.Longer.{IsLonger}
use Rattle.ic_desk.specs.Views.{NamedView, IsMarkOn, note_of}
use Rattle.ic_desk.proofs.Marks.{put_all}

-- after so many lines just the mark's events stood, also where further lines come
stood_longer : (old new : BenchView) (count : ℕ) (m : MarkView) → new.start ≡ old.start → IsLonger old new → StoodAt old count m → StoodAt new count m
stood_longer old new count m same longer s = record {
  front = s.front;
  rest = s.rest ++ longer.more;
  lines = sym (append_assoc s.front s.rest longer.more) ∙ ap (λ ls. ls ++ longer.more) s.lines ∙ sym longer.lines;
  counted = s.counted;
  state = s.state;
  history = subst (λ (start : Start). IsHistory start s.front s.state) (sym same) s.history;
  events = s.events;
}

-- after all lines just what stands on the bench stood
stood_now : (v : BenchView) (count : ℕ) (m : MarkView) → IsBench v → count ≡ length v.lines → Alike (standing (set_of v)) m.events → StoodAt v count m
stood_now v count m ok counted alike = record {
  front = v.lines;
  rest = [];
  lines = append-nil v.lines;
  counted = sym counted;
  state = ok.running.state;
  history = ok.running.at.history;
  events = alike_then (alike_back (events_at v ok.running.at)) alike;
}

-- a mark on a bench is one on the bench that has further lines
pub mark_stays : (old new : BenchView) (x : NamedView) → new.start ≡ old.start → IsLonger old new → IsMarkOn old x → IsMarkOn new x
mark_stays old new x same longer k = record {
  start = k.start ∙ sym same;
  stood = stood_longer old new x.since x.mark same longer k.stood;
}

-- what stands is marked, with the number of all lines
pub marks_now : (v : BenchView) (x : NamedView) → IsBench v → x.mark.start ≡ v.start → x.since ≡ length v.lines → Alike (standing (set_of v)) x.mark.events → IsMarkOn v x
marks_now v x ok start since alike = record {
  start = start;
  stood = stood_now v x.since x.mark ok since alike;
}

-- the mark that stands gets the number of all lines, and the others stay
pub marks_back : (v : BenchView) (marks : List NamedView) (place : ℕ) (x y : NamedView) (since : ℕ) → IsBench v → place < length marks
    → ((z : NamedView) → IsIn z marks → IsMarkOn v z) → IsIn x marks → since ≡ length v.lines → Alike x.mark.events (standing (set_of v))
    → y ≡ record x { since = since } → (z : NamedView) → IsIn z (set marks place y) → IsMarkOn v z
marks_back v marks place x y since ok within each there count alike is =
    put_all (λ z. IsMarkOn v z) marks (set marks place y) (Some place) y within refl each
    (subst (λ z. IsMarkOn v z) (sym is) (marks_now v (record x { since = since }) ok (each x there).start count (alike_back alike)))

-- its name and events stay
pub notes_stay : (marks : List NamedView) (place : ℕ) (d y : NamedView) (since : ℕ) → y ≡ record (get_or marks place d) { since = since }
    → map note_of (set marks place y) ≡ map note_of marks
notes_stay marks place d y since is = map-set_same note_of marks place y d (ap note_of is)
