use Rattle.std.proofs.Common.{◌≡◌, ℕ, ◌<◌, List, [], ◌∷◌, ◌++◌, inl, inr, length, map, sym, ap, ◌∙◌}
use Rattle.std.proofs.lemmas.List.{map_push}
use Rattle.ic_name.specs.Events.{Pair}
use Rattle.ic_path.proofs.Picks.{in-cons_cases, none_in}
use Rattle.ic_path.proofs.InLists.{in-append_cases}
use Rattle.ic_trace.specs.declared.known.Known.{Known}
use Rattle.ic_trace.specs.Known.{event_at, AreNumbersOf}
use Rattle.ic_trace.proofs.known.EventTable.numbers_of.Goals as goal
use Rattle.ic_path.proofs.ListPlaces.{item_in, seen_more}

-- one number more
numbers_more : {ks : List Known} {names : List Pair} {numbers : List ℕ} (p : Pair) (j : ℕ) → AreNumbersOf ks names numbers → j < length ks → (event_at ks j).lead ≡ p.lead → AreNumbersOf ks (names ++ p ∷ []) (numbers ++ j ∷ [])
numbers_more {ks} {names} {numbers} p j h inside lead = record {
  inside = λ i k. elim (in-append_cases numbers k) [ inl m ↦ h.inside i m | inr m ↦ elim (in-cons_cases m) [ inl e ↦ rw e inside | inr n ↦ absurd (none_in n) ] ];
  leads = map_push (λ j. (event_at ks j).lead) numbers j ∙ ap (λ xs. xs ++ (event_at ks j).lead ∷ []) h.leads ∙ ap (λ n. map (λ (p : Pair). p.lead) names ++ n ∷ []) lead ∙ sym (map_push (λ (p : Pair). p.lead) names p);
}

pub unreachable-requires : goal.unreachable-requires
unreachable-requires c =
    c.requires.known c.name-item.result (item_in c.args.names.now c.loop-name.name-index c.name-item.result _ c.loop-name-test.true c.name-item.is)
    (λ i h e. c.in_default.ensures i h (e ∙ sym c.lead.ensures))

pub loop-name-preserved : goal.loop-name-preserved
loop-name-preserved c =
    rw (c.in_ok-push.ensures.items, seen_more c.args.names.now c.loop-name.name-index c.name-item.result _ c.loop-name-test.true c.name-item.is)
    (numbers_more c.name-item.result c.in-Some.number c.loop-name.invariant c.in-Some.ensures.0 (c.in-Some.ensures.1 ∙ c.lead.ensures))
