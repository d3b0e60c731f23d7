use Rattle.std.proofs.Common.{ℕ, Bool, ◌∙◌, ap, sym, subst, eq-eqb}
use Rattle.std.proofs.lemmas.Bool.{ne_eqb}
use Rattle.std.specs.Prelude.{slice_index, ◌==◌}
use Rattle.std.specs.Ordering.{nat_cmp}
use Rattle.std.specs.BTreeMap.{BTreeMap, IsOrdered}
use Rattle.ic_name.specs.declared.ports.Port.{Port}
use Rattle.ic_start.specs.Starts.{port_at}
use Rattle.ic_net.specs.FarTables.{name_partner}
use Rattle.ic_net.proofs.NameCounts.{frees_put, frees_skip}
use Rattle.ic_net.proofs.tables.frees_of.Goals as goal
use Rattle.ic_net.proofs.tables.frees_of.Goals.{then-times-number-eq1+in_ok-put_free, else-times-number-eq1}

pub loop-number-preserved : goal.loop-number-preserved
loop-number-preserved c =
    let i = c.loop-number.invariant in
    let once : ℕ → Bool = λ j. slice_index c.args.times.now j == 1 in
    let f = name_partner c.args.agents c.args.ends.now in
    elim c.if-times-number-eq1.branch [
      | then-times-number-eq1+in_ok-put_free w ↦
          record {
            listed = frees_put once f c.loop-number.number _ _ _ i.listed (eq-eqb _ 1 w.if-times-number-eq1.true) (w.port_of.ensures ∙ ap port_at w.end_of-end.ensures.end) (ap (λ (m : BTreeMap ℕ Port). m.entries) w.frees-is ∙ w.in_ok-put_free.ensures.put);
            ordered = subst (λ (m : BTreeMap ℕ Port). IsOrdered nat_cmp m) (sym w.frees-is) w.in_ok-put_free.ensures.ordered;
          }
      | else-times-number-eq1 w ↦
          record {
            listed = ap (λ (m : BTreeMap ℕ Port). m.entries) w.frees-is ∙ frees_skip once f c.loop-number.number _ i.listed (ne_eqb _ 1 w.if-times-number-eq1.false);
            ordered = subst (λ (m : BTreeMap ℕ Port). IsOrdered nat_cmp m) (sym w.frees-is) i.ordered;
          }
    ]
