use Rattle.std.proofs.Common.{◌≡◌, ◌+◌, [], ◌∷◌, ◌++◌, length, refl, sym, ap, arith, subst, ◌∙◌}
use Rattle.std.specs.Prelude.{option_map}
use Rattle.ic_net.specs.Makings.{NetParts}
use Rattle.ic_net.specs.Placed.{port_at, free_at, IsPortInside}
use Rattle.ic_set.specs.Views.{NamedView}
use Rattle.ic_set.proofs.ReadNets.{AreFreesTo, no_frees, free_passes, free_comes, all_frees, none_unless}
use Rattle.ic_set.proofs.bare.BareSet.put_frees.Goals.{in-Some+in_ok-push_free, in_default}
use Rattle.ic_set.proofs.bare.BareSet.put_frees.Goals as goal

pub push_free-requires : goal.push_free-requires
push_free-requires g c = record {
  inside = subst (λ ns. IsPortInside ns c.in-Some.partner) (sym (c.loop-number.invariant.names ∙ c.requires.names)) c.in-Some.ensures.inside;
  last = c.loop-number.invariant.frees.last;
}

pub loop-number-init : goal.loop-number-init
loop-number-init g c = record { agents = refl; frees = rw c.requires.none (no_frees c.args.self.now.set); names = refl; profile = refl }

pub loop-number-preserved : goal.loop-number-preserved
loop-number-preserved g c =
    let i = c.loop-number.invariant in
    let v = c.args.self.now.set in
    let ns = c.args.self.now.names in
    elim c.match-partner_of_name.branch [
      | in-Some+in_ok-push_free w ↦ (
          let came = subst (λ ks. w.push_free.new.self.frees ≡ c.loop-number.maker.frees ++ free_at ks (c.loop-number.number, w.in-Some.partner) ∷ []) (i.names ∙ c.requires.names) w.in_ok-push_free.ensures.frees in
          record {
            agents = ap (λ (m : NetParts). m.agents) w.maker-is ∙ w.in_ok-push_free.ensures.agents ∙ i.agents;
            frees = subst (AreFreesTo v (c.loop-number.number + 1)) (sym (ap (λ (m : NetParts). m.frees) w.maker-is ∙ came)) (free_comes v c.loop-number.number (port_at ns w.in-Some.partner) c.loop-number.maker.frees i.frees (ap (option_map (port_at ns)) (sym w.in-Some.is) ∙ c.partner_of_name.ensures.partner));
            names = ap (λ (m : NetParts). m.names) w.maker-is ∙ w.in_ok-push_free.ensures.names ∙ i.names;
            profile = ap (λ (m : NetParts). m.profile) w.maker-is ∙ w.in_ok-push_free.ensures.profile ∙ i.profile;
          })
      | in_default w ↦ record {
        agents = ap (λ (m : NetParts). m.agents) w.maker-is ∙ i.agents;
        frees = subst (AreFreesTo v (c.loop-number.number + 1)) (sym (ap (λ (m : NetParts). m.frees) w.maker-is)) (free_passes v c.loop-number.number c.loop-number.maker.frees i.frees (ap (option_map (port_at ns)) (none_unless c.partner_of_name.result (λ x e. w.in_default.not-Some x e)) ∙ c.partner_of_name.ensures.partner));
        names = ap (λ (m : NetParts). m.names) w.maker-is ∙ i.names;
        profile = ap (λ (m : NetParts). m.profile) w.maker-is ∙ i.profile;
      }
    ]

pub returns-clause-frees : goal.returns-clause-frees
returns-clause-frees g c =
    let names : c.len-number-end.result ≡ length c.self.inside.start.names = c.len-number-end.ensures ∙ ap length c.names.ensures in
    let seen = subst (λ (w : NamedView). c.len-number-end.result ≡ length w.set.start.names) c.self.view_is names in
    let past = c.loop-number-test.false in
    all_frees c.args.self.now.set c.lawful.ensures.set c.loop-number.number c.loop-number.maker.frees (omega (arith, seen, past)) c.loop-number.invariant.frees
