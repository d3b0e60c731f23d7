use Rattle.ic_theory.proofs.Ranks.{sound_order, sound_union, sound-alike, cause_included}
use Rattle.ic_theory.proofs.Sound.{fired_sound, sound_fired}
use Rattle.ic_theory.proofs.AnyOrder.{net-alike}
use Rattle.ic_theory.proofs.Closed.{cause_stays}
use Rattle.ic_theory.proofs.sound_sets.Goals as goal

pub returns-clause-left : goal.returns-clause-left
returns-clause-left c = λ s es ok f. (fired_sound s ok es f).0

pub returns-clause-fired : goal.returns-clause-fired
returns-clause-fired c = λ s es ok h. sound_order s ok es h

pub returns-clause-firing : goal.returns-clause-firing
returns-clause-firing c = λ s es ok. (λ f. fired_sound s ok es f, λ h. sound_fired s ok es h.0 h.1)

pub returns-clause-order : goal.returns-clause-order
returns-clause-order c = λ s es fs ok h a. sound-alike s a h

pub returns-clause-net : goal.returns-clause-net
returns-clause-net c = λ s es fs ok h a. net-alike s ok h a

pub returns-clause-union : goal.returns-clause-union
returns-clause-union c = λ s es fs ok h k. let u = sound_union s ok es fs h k in (u.0, u.1, (u.2, u.3, u.4))

pub returns-clause-causes : goal.returns-clause-causes
returns-clause-causes c = λ s all es e f ok h i k j. (λ q. cause_stays s ok h.apart i k j q, λ q. cause_included s i q)
