use Rattle.std.proofs.Common.{◌≡◌, ◌+◌, ◌↔◌, List, [], ◌∷◌, ◌++◌, Bool, take, drop, get_or, map, sym, ap, subst, ◌∙◌}
use Rattle.std.specs.Prelude.{IsTrue}
use Rattle.std.proofs.lemmas.List.{drop_more, take_more, take_all, drop_all, take-append-drop}
use Rattle.ic_trace.specs.declared.moving.Move.{Move}
use Rattle.ic_trace.specs.declared.moving.Move.TheVariants.{Swap}
use Rattle.ic_trace.specs.declared.reading.Reading.{Reading}
use Rattle.ic_trace.specs.Cursors.{Does, list_in}
use Rattle.ic_trace.specs.Letters.{named}
use Rattle.ic_trace.specs.Moves.{Lead}
use Rattle.ic_trace.specs.Readings.{IsReadingOf, letters_in}
use Rattle.ic_trace.proofs.CheckedMoves.{AreMade, none_lead, made_none, made_more, refused_lead, all_lead}
use Rattle.ic_trace.proofs.checking.leads.Goals as goal

pub returns-in-Refused : goal.returns-in-Refused
returns-in-Refused c =
    let refused = subst (λ (r : Reading). IsReadingOf c.args.start.now c.args.letters.now r) c.in-Refused.is c.in_ok-trace.ensures in
    (λ t. absurd cc, λ w. absurd (none_lead c.args.start.now refused w))

pub loop-step-init : goal.loop-step-init
loop-step-init c =
    let is = subst (λ (r : Reading). IsReadingOf c.args.start.now c.args.letters.now r) c.in-Legal.is c.in_ok-trace.ensures in
    record { inside = rw c.over-cursor.ensures is.inside; made = made_none c.args.start.now _ c.args.moves.now }

pub returns-then-not-branch : goal.returns-then-not-branch
returns-then-not-branch c =
    let s = c.args.start.now in
    let ms = c.args.moves.now in
    let i = c.loop-step.step-index in
    let m : Move = get_or ms i (Swap 0) in
    let is = subst (λ (r : Reading). IsReadingOf s c.args.letters.now r) c.in-Legal.is c.in_ok-trace.ensures in
    let ks = c.in-Legal.trace.known.items in
    let does = (rw c.deref.ensures.value at c.in_ok-make.ensures.does) s c.lawful.ensures.proper is.known in
    let refused = subst (λ (b : Bool). Does s m (letters_in ks (list_in c.loop-step.cursor)) b (letters_in ks (list_in c.make.new.self))) c.if-not-branch.true does in
    let next : drop i ms ≡ m ∷ drop (i + 1) ms = drop_more ms i (Swap 0) c.loop-step-test.true in
    let split : ms ≡ take i ms ++ m ∷ drop (i + 1) ms = sym (take-append-drop i ms) ∙ ap (λ (ns : List Move). take i ms ++ ns) next in
    let made : AreMade s (letters_in ks c.in-Legal.trace.steps.items) (take i ms) (m ∷ drop (i + 1) ms) (letters_in ks (list_in c.loop-step.cursor)) = rw (c.over-cursor.ensures, next) at c.loop-step.invariant.made in (
      λ t. absurd cc,
      λ w.
          let w' = subst (λ (ns : List Move). Lead s c.args.letters.now ns c.args.to.now) split w in
          absurd (refused_lead s c.lawful.ensures.proper c.args.letters.now c.args.to.now c.in-Legal.trace is (letters_in ks (list_in c.make.new.self)) made refused w'),
    )

pub loop-step-preserved : goal.loop-step-preserved
loop-step-preserved c =
    let s = c.args.start.now in
    let ms = c.args.moves.now in
    let i = c.loop-step.step-index in
    let m : Move = get_or ms i (Swap 0) in
    let is = subst (λ (r : Reading). IsReadingOf s c.args.letters.now r) c.in-Legal.is c.in_ok-trace.ensures in
    let ks = c.in-Legal.trace.known.items in
    let does = (rw c.deref.ensures.value at c.in_ok-make.ensures.does) s c.lawful.ensures.proper is.known in
    let makes = subst (λ (b : Bool). Does s m (letters_in ks (list_in c.loop-step.cursor)) b (letters_in ks (list_in c.make.new.self))) c.if-not-branch.false does in
    let next : drop i ms ≡ m ∷ drop (i + 1) ms = drop_more ms i (Swap 0) c.loop-step-test.true in
    record {
      inside = (rw c.deref.ensures.value at c.in_ok-make.ensures.inside) c.if-not-branch.false;
      made = rw (take_more ms i (Swap 0) c.loop-step-test.true) (made_more s (rw next at c.loop-step.invariant.made) makes);
    }

pub returns : goal.returns
returns c =
    let s = c.args.start.now in
    let ms = c.args.moves.now in
    let i = c.loop-step.step-index in
    let is = subst (λ (r : Reading). IsReadingOf s c.args.letters.now r) c.in-Legal.is c.in_ok-trace.ensures in
    let ks = c.in-Legal.trace.known.items in
    let made : AreMade s (letters_in ks c.in-Legal.trace.steps.items) ms [] (letters_in ks (list_in c.loop-step.cursor)) =
    rw (c.over-cursor.ensures, take_all i ms c.loop-step-test.false, drop_all i ms c.loop-step-test.false) at c.loop-step.invariant.made in
    let names : IsTrue c.are_named.result ↔ (map named (letters_in ks (list_in c.loop-step.cursor)) ≡ c.args.to.now) = rw (c.deref-2.ensures.value, c.deref-3.ensures.value, c.in_ok-steps.ensures) at c.are_named.ensures in
    all_lead s c.lawful.ensures.proper c.args.letters.now c.args.to.now c.in-Legal.trace is c.are_named.result made names
