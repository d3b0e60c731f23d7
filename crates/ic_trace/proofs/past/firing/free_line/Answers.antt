use Rattle.std.proofs.Common.{◌≡◌, ℕ, ◌+◌, ◌-◌, ◌<◌, ◌≤◌, zero, suc, true, false, length, map, ◌⊎◌, inl, inr, arith, sym, ap, subst, ◌∙◌}
use Rattle.std.specs.Prelude.{slice_index_or, unwrap_or}
use Rattle.std.proofs.lemmas.Bool.{cases_lt}
use Rattle.std.proofs.lemmas.List.{length-map}
use Rattle.ic_path.specs.Orders.{IsIn}
use Rattle.ic_roster.specs.Rosters.{Stander}
use Rattle.ic_path.proofs.InLists.{in-map}
use Rattle.ic_set.proofs.RankBounds.{each_below_length}
use Rattle.ic_trace.proofs.past.firing.free_line.Goals as goal

-- the line of an event
abbrev line_of : Stander → ℕ
line_of x = x.id.line

pub loop-tried-preserved : goal.loop-tried-preserved
loop-tried-preserved c k few above = by (cases_lt (length c.args.roster.now.events) (c.loop-tried.tried + k))
  where
    flag : slice_index_or c.args.taken.now (c.event_count-count.result - c.loop-tried.tried) false ≡ true
    flag =
        sym (c.get.ensures.lookup.4 (omega arith) false) ∙ ap (λ o. unwrap_or o false) (sym c.copied.ensures) ∙ sym c.unwrap_or.ensures ∙ c.if-not-unwrap_or.false

    by : (length c.args.roster.now.events < c.loop-tried.tried + k) ⊎ (c.loop-tried.tried + k ≤ length c.args.roster.now.events) → IsIn k (map line_of c.args.roster.now.events)
    by (inl h) = c.loop-tried.invariant k few h
    by (inr h) =
        let x = (c.requires.taken (c.event_count-count.result - c.loop-tried.tried)).0 flag in
        let count = c.event_count-count.ensures in
        let line : line_of x.0 ≡ c.event_count-count.result - c.loop-tried.tried = x.2 in
        let same : line_of x.0 ≡ k = omega (arith, line, count, h, above) in
        subst (λ l. IsIn l (map line_of c.args.roster.now.events)) same (in-map line_of x.1)

pub returns-clause-unused : goal.returns-clause-unused
returns-clause-unused c x i zero_line =
    let many = each_below_length (suc (length c.args.roster.now.events)) (map line_of c.args.roster.now.events) each in
    let long = length-map c.args.roster.now.events line_of in
    omega (arith, many, long)
  where
    each : (k : ℕ) → k < suc (length c.args.roster.now.events) → IsIn k (map line_of c.args.roster.now.events)
    each zero h = subst (λ l. IsIn l (map line_of c.args.roster.now.events)) zero_line (in-map line_of i)
    each (suc k) h =
        let past = c.loop-tried-test.false in
        let count = c.event_count-count.ensures in
        c.loop-tried.invariant (suc k) (omega (arith, h)) (omega (arith, past, count))
