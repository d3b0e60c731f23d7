use Rattle.std.proofs.Common.{◌≡◌, ◌<◌, List, [], ◌∷◌, length, map, Some, sym, ap, ◌∙◌, arith}
use Rattle.std.proofs.lemmas.List.{length-map, map-append}
use Rattle.std.proofs.lemmas.List.Elements.{All-nil, All-push}
use Rattle.ic_name.specs.declared.lines.Line.{Line}
use Rattle.ic_names.specs.Tables.{name_at}
use Rattle.ic_names.specs.declared.table.NameId.{NameId}
use Rattle.ic_path.proofs.Picks.{none_in}
use Rattle.ic_history.specs.Noted.{line_in}
use Rattle.ic_history.proofs.ChangedLines.{none_between, none_more, one_more, all_between}
use Rattle.ic_history.proofs.history.History.leads_changed_since.Goals as goal
use Rattle.ic_history.proofs.history.History.leads_changed_since.Goals.{in-Some+in_ok-push, in_default}

pub loop-number-init : goal.loop-number-init
loop-number-init c = rw c.in_ok-leads.ensures.items (record {
  ahead = omega arith;
  inside = λ ns all. All-nil (λ (d : NameId). d.place < length ns);
  each = λ ns all n. (λ i. absurd (none_in i), λ h. absurd (none_between (map (line_in ns) c.args.self.now.lines) c.args.line n h));
})

pub loop-number-preserved : goal.loop-number-preserved
loop-number-preserved c =
    let ahead = c.loop-number.invariant.ahead in
    let told = c.lead_changed_in.ensures in
    let leads = c.loop-number.leads.items in
    elim c.match-lead_changed_in.branch [
      | in-Some+in_ok-push w ↦
          let lead = w.in-Some.lead in
          rw (w.leads-is, w.in_ok-push.ensures.items) (record {
            ahead = omega (arith, ahead);
            inside = λ ns all. All-push (λ d. d.place < length ns) leads lead (c.loop-number.invariant.inside ns all) (rw w.in-Some.is at (told.inside ns all));
            each = λ ns all.
                let lines : List Line = map (line_in ns) c.args.self.now.lines in
                let name = λ (d : NameId). name_at ns d.place in
                let its = rw w.in-Some.is at (told.lead ns all) in
                rw (map-append name leads (lead ∷ [])) (one_more lines c.args.line c.loop-number.number (map name leads) (name lead) ahead (c.loop-number.invariant.each ns all) (λ n. (λ q. (its n).0 (ap Some q), λ d. let same : Some (name lead) ≡ Some n = (its n).1 d in cc)));
          })
      | in_default w ↦
          rw w.leads-is (record {
            ahead = omega (arith, ahead);
            inside = c.loop-number.invariant.inside;
            each = λ ns all. none_more (map (line_in ns) c.args.self.now.lines) c.args.line c.loop-number.number (map (λ d. name_at ns d.place) leads) (c.loop-number.invariant.each ns all) (λ n d. let same = (rw w.in_default.is at (told.lead ns all n)).1 d in absurd cc);
          })
    ]

pub returns : goal.returns
returns c = λ ns all. record {
  inside = c.loop-number.invariant.inside ns all;
  each = all_between (map (line_in ns) c.args.self.now.lines) c.args.line c.loop-number.number (map (λ d. name_at ns d.place) c.loop-number.leads.items)
      (let past = c.loop-number-test.false in let count = c.line_count-number-end.ensures.count in let kept = length-map c.args.self.now.lines (line_in ns) in omega arith) (c.loop-number.invariant.each ns all);
}
