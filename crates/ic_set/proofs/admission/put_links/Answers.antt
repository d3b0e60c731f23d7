use Rattle.std.proofs.Common.{◌≡◌, ◌++◌, List, [], ◌∷◌, length, refl, sym, subst, arith, ◌∙◌, None}
use Rattle.std.proofs.lemmas.Bool.{eqb-true}
use Rattle.ic_name.specs.declared.rules.RuleEnd.{RuleEnd}
use Rattle.ic_path.specs.Orders.{Alike}
use Rattle.ic_path.proofs.Alikes.{alike_self}
use Rattle.ic_link.specs.Made.{AreJoins}
use Rattle.ic_link.proofs.FirstJoins.{noted_none, noted_all}
use Rattle.ic_set.specs.Joining.{made_links}
use Rattle.ic_set.proofs.admission.put_links.Goals as goal

-- a rule without ends has none
no_ends : (ends : List (RuleEnd × RuleEnd)) → length ends ≡ 0 → ends ≡ []
no_ends [] h = refl
no_ends (x ∷ xs) h = absurd (omega arith)

pub returns-then-is_empty-clause-put : goal.returns-then-is_empty-clause-put
returns-then-is_empty-clause-put g c =
    let ends = c.args.firing.now.ends.now in
    let ls = g.L.LinkStore.links c.args.store.now in
    let none = no_ends ends (eqb-true (length ends) 0 (sym c.is_empty.ensures ∙ c.if-is_empty.true)) in
    subst (λ xs. Alike (made_links c.args.event c.args.firing.now.pair c.args.firing.now.born.now 0 xs ++ ls) ls) (sym none) (alike_self ls)

pub returns-then-is_empty-clause-joins : goal.returns-then-is_empty-clause-joins
returns-then-is_empty-clause-joins g c =
    let ends = c.args.firing.now.ends.now in
    let ls = g.L.LinkStore.links c.args.store.now in
    let none = no_ends ends (eqb-true (length ends) 0 (sym c.is_empty.ensures ∙ c.if-is_empty.true)) in
    subst (λ xs. AreJoins ls (made_links c.args.event c.args.firing.now.pair c.args.firing.now.born.now 0 xs) (None ∷ None ∷ None ∷ None ∷ [])) (sym none)
    (noted_all ls [] 0 (None ∷ None ∷ None ∷ None ∷ []) (noted_none ls []) (omega arith))
