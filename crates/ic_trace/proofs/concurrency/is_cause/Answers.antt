use Rattle.std.proofs.Common.{◌≡◌, ℕ, refl, sym, subst, ◌∙◌, nat_eq}
use Rattle.std.specs.List.{list_any}
use Rattle.std.proofs.lemmas.Bool.{eqb-true, eq-eqb}
use Rattle.ic_path.proofs.ListTests.{any-picked, any_in}
use Rattle.ic_trace.specs.declared.known.Known.{Known}
use Rattle.ic_trace.proofs.CausesByNumber.{cause_by_number}
use Rattle.ic_trace.proofs.concurrency.is_cause.Goals as goal

pub returns : goal.returns
returns c =
    let k = c.index-known-event.result in
    let any : c.contains.result ≡ list_any (λ (y : ℕ). nat_eq y c.args.cause) k.causes.items =
    subst (λ (x : Known). c.contains.result ≡ list_any (λ (y : ℕ). nat_eq y c.args.cause) x.causes.items) (sym c.index-known-event.is) (rw c.deref.ensures.value at c.contains.ensures.value) in
    λ s known. (
    let w = cause_by_number s c.args.known.now known k c.args.event c.args.cause c.requires.left c.requires.right c.index-known-event.is in (
      λ t. w.0 (any_in (λ (y : ℕ). nat_eq y c.args.cause) c.args.cause k.causes.items (λ y e. sym (eqb-true y c.args.cause e)) (sym any ∙ t)),
      λ q. any ∙ any-picked (λ (y : ℕ). nat_eq y c.args.cause) (w.1 q).1 (eq-eqb c.args.cause c.args.cause refl),
    ))
