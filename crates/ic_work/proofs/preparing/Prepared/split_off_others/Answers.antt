use Rattle.std.proofs.Common.{rules, ◌≡◌, List, All, Some, ap, sym, subst, ◌∙◌, arith}
use Rattle.std.proofs.lemmas.List.Elements.{All-pop, All-push}
use Rattle.ic_shared.specs.Passes.{PassView, added_by, empty_pass}
use Rattle.ic_work.specs.Workers.{IsGuest}
use Rattle.ic_work.specs.declared.worker.Worker.{Worker}
use Rattle.ic_work.proofs.preparing.Prepared.split_off_others.Goals as goal

pub loop-number-preserved : goal.loop-number-preserved
loop-number-preserved g c =
    let P : PassView → Type 0 = λ p. p ≡ empty_pass in
    let Q : Worker g.row.B.Denot → Type 0 = λ w. IsGuest c.args.self.now.claims.table w.seat w.pass in
    let i = c.loop-number.invariant in
    let rest = All-pop P c.loop-number.passes.items c.pop-in-loop-number.new.self.items (Some c.in-Some-pop.pass) c.in-Some-pop.ensures.items i.9 in
    let counted = c.split.ensures.counted in
    let next = c.split.ensures.next in
    let given = ap (λ v. v.given) counted in
    let i4 = i.4 in
    let i5 = i.5 in
    let i6 = i.6 in
    let i7 = i.7 in
    let i8 = i.8 in
    let less = c.in-Some.ensures.cases in
    let less' = c.in-Some-pop.ensures.cases in
    let len = c.push_reserved.ensures.len in
    let cap = c.push_reserved.ensures.capacity in
    let number = ap (λ v. v.number) next in
    let guest : IsGuest c.args.self.now.claims.table c.split.result c.in-Some-pop.pass = record {
      seated = record { placed = c.split.ensures.tables.1 ∙ i.0; free = ap (λ v. v.held) next };
      later = λ e. (let n = sym number ∙ e in absurd (omega (arith, n)));
      spent = (let none = ap added_by rest.1 in omega arith);
      fires = ap (λ p. p.receipts) rest.1;
    } in (
      c.split.ensures.tables.0 ∙ i.0,
      ap (λ v. v.held) counted ∙ i.1,
      ap (λ v. v.number) counted ∙ i.2,
      ap (λ v. v.budget) counted ∙ i.3,
      omega arith,
      omega arith,
      omega arith,
      omega arith,
      omega arith,
      rest.0,
      subst (All Q) (sym {A = List (Worker g.row.B.Denot)} c.push_reserved.ensures.items) (All-push Q c.loop-number.self.others.items _ i.10 guest),
      i.11,
      i.12,
      i.13,
    )

pub returns-clause-first : goal.returns-clause-first
returns-clause-first g c =
    let P : PassView → Type 0 = λ p. p ≡ empty_pass in
    let i = c.loop-number.invariant in
    let rest = All-pop P c.loop-number.passes.items c.pop-3.new.self.items (Some c.in-Some-pop-3.pass) c.in-Some-pop-3.ensures.items i.9 in
    record {
      seated = record { placed = i.0; free = i.1 };
      tickets = i.3;
      spent = (let none = ap added_by rest.1 in omega arith);
      fires = ap (λ p. p.receipts) rest.1;
      all_fire = search rules;
    }
